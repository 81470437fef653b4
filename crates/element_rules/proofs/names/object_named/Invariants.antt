use Rattle.std.proofs.Common.{◌≡◌, drop}
use Rattle.element_lang.specs.Broken as broken
use Rattle.element_tokens.specs.Tokens.{span_text}
use Rattle.element_rules.specs.Seen.{objects_of}
use Rattle.element_rules.proofs.names.object_named.Given as goal

abbrev pub invariant-loop-object : goal.invariant-loop-object
invariant-loop-object l = broken.object_named (objects_of l.text (drop l.object-index l.objects)) (span_text l.text l.fn.name) ≡ broken.object_named
    (objects_of l.text l.objects) (span_text l.text l.fn.name)
