use Rattle.std.proofs.Common.{◌≡◌, drop}
use Rattle.element_tokens.specs.Tokens.{span_text}
use Rattle.element_text.specs.Resolve.{object_from}
use Rattle.element_text.proofs.scope.object_named.Given as goal

abbrev pub invariant-loop-i : goal.invariant-loop-i
invariant-loop-i l = object_from l.i (drop l.i l.objects) (span_text l.text l.fn.name) ≡ object_from 0 l.objects (span_text l.text l.fn.name)
