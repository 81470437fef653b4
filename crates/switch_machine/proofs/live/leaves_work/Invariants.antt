use Rattle.std.proofs.Common.{◌≡◌, drop}
use Rattle.std.specs.List.{list_any}
use Rattle.flat_ir.specs.Blocks.{is_live}
use Rattle.switch_machine.proofs.live.leaves_work.Given as goal

abbrev pub invariant-loop-block : goal.invariant-loop-block
invariant-loop-block g l =
    list_any (is_live l.pass.blocks (g.R.Numbers.reads l.numbers)) (drop l.block-index l.pass.rest.items)
    ≡ list_any (is_live l.pass.blocks (g.R.Numbers.reads l.numbers)) l.pass.rest.items
