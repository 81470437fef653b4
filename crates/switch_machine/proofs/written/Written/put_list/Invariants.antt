use Rattle.std.proofs.Common.{◌++◌, ℕ, List, take}
use Rattle.switch_machine.specs.Written.{Marks}
use Rattle.switch_machine.proofs.written.Written.put_list.Given as goal

abbrev pub invariant-loop-place : goal.invariant-loop-place
invariant-loop-place l = (given : List ℕ) → Marks given l.fn.self → Marks (given ++ take l.place-index l.places) l.self
