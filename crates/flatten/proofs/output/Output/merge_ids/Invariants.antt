use Rattle.std.proofs.Common.{◌≡◌, drop}
use Rattle.flatten.specs.Flatten as pure
use Rattle.flatten.specs.Pending.{scoped_front}
use Rattle.flatten.proofs.output.Output.merge_ids.Given as goal

-- the variables that are left give from here what all give from the start
abbrev pub invariant-loop-i : goal.invariant-loop-i
invariant-loop-i l = scoped_front l.ids.items (pure.merge_ids l.place l.cond (drop l.i l.widths) (drop l.i l.a) (drop l.i l.b) l.self) ≡ pure.merge_ids l.place l.cond l.widths l.a l.b l.fn.self
