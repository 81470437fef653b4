use Rattle.std.proofs.Common.{◌<◌, ◌&&◌, arith, length, take}
use Rattle.std.specs.List.{list_any}
use Rattle.split_model.specs.Crossing.{is_value, is_server_write}
use Rattle.split_model.proofs.ValueMarks.{same_test, written_more}
use Rattle.split_model.proofs.readers.written_values.Goals as goal

pub loop-written-preserved : goal.loop-written-preserved
loop-written-preserved c =
    let fields = c.deref-written-items.result.now in
    let i = c.loop-written.written-index in
    let split = c.args.s.now in
    let within : i < length fields = omega arith in
    same_test (length c.args.f.now.code) _ _ c.mark_written.new.set
    (λ v. written_more split c.args.f.now.out.fields.items fields i _ v c.deref-written-items.ensures.value within)
    (c.mark_written.ensures (length c.args.f.now.code) (λ v. list_any (λ w. is_server_write split w && is_value v w.value) (take i c.args.f.now.out.fields.items)) c.loop-written.invariant)
