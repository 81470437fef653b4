use Rattle.std.proofs.Common.{drop, map}
use Rattle.element_tokens.specs.Tokens.{span_text}
use Rattle.element_rules.specs.Seen.{local_of, objects_of}
use Rattle.element_rules.proofs.Declared.{Declaring}
use Rattle.element_rules.proofs.names.declare_all.Given as goal

abbrev pub invariant-loop-i : goal.invariant-loop-i
invariant-loop-i l = Declaring (objects_of l.text l.objects) (map local_of l.fn.locals.entries) (map local_of l.locals.entries)
    (map (span_text l.text) (drop l.i l.names)) (map (span_text l.text) l.names) (drop l.i l.widths) l.widths
