use Rattle.std.proofs.Common.{◌≡◌, drop}
use Rattle.state_store.specs.Packing.{have_room}
use Rattle.state_store.proofs.packing.have_room.Given as goal

abbrev pub invariant-loop-width : goal.invariant-loop-width
invariant-loop-width l = have_room l.room (drop l.width-index l.widths) ≡ have_room l.bits l.widths
