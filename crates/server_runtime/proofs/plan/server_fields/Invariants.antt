use Rattle.std.proofs.Common.{◌≡◌, take}
use Rattle.std.specs.List.{filter}
use Rattle.split_model.specs.Crossing.{is_server_write}
use Rattle.server_runtime.proofs.plan.server_fields.Given as goal

abbrev pub invariant-loop-written : goal.invariant-loop-written
invariant-loop-written l = l.fields.items ≡ filter (is_server_write l.s) (take l.written-index l.f.out.fields.items)
