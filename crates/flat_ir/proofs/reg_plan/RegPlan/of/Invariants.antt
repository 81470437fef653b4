use Rattle.std.proofs.Common.{◌≡◌, ◌<◌, ◌^◌, length, take}
use Rattle.std.specs.BinaryHeap.{heap_items}
use Rattle.flat_ir.specs.Planning.{IsPlanned}
use Rattle.flat_ir.proofs.reg_plan.RegPlan.of.Given as goal

abbrev pub invariant-loop-span : goal.invariant-loop-span
invariant-loop-span l = record { so_far : IsPlanned (take l.span-index l.span-items) l.registers.rows (heap_items l.taken); room : l.registers.capacity ≡ length l.span-items; few : length l.span-items < 2 ^ 32 }
