use Rattle.std.proofs.Common.{◌≡◌, [], take, drop, map}
use Rattle.element_lang.specs.Broken.{broken_decl}
use Rattle.element_grammar.specs.Surface.{surface_object}
use Rattle.element_rules.specs.Seen.{objects_of}
use Rattle.element_rules.proofs.declarations.broken_in_declarations.Given as goal

abbrev pub invariant-loop-i : goal.invariant-loop-i
invariant-loop-i l = broken_decl (objects_of l.text (take l.i l.source)) (map (surface_object l.text) (drop l.i l.source)) ≡ broken_decl []
    (map (surface_object l.text) l.source)
