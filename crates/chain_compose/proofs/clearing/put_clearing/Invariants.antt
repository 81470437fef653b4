use Rattle.std.proofs.Common.{◌≡◌, drop}
use Rattle.element_lang.specs.View.{body_tree}
use Rattle.element_chain.specs.Compose.{followed, clearing}
use Rattle.chain_compose.proofs.clearing.put_clearing.Given as goal

abbrev pub invariant-loop-field : goal.invariant-loop-field
invariant-loop-field l =
    followed (body_tree l.out.items) (clearing (drop l.field-index l.written)) ≡ followed (body_tree l.fn.out.items) (clearing l.written)
