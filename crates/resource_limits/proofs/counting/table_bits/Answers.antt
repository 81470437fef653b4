use Rattle.std.proofs.Common.{◌<◌, sym, ap, arith, length}
use Rattle.state_store.specs.declared.object.ObjectDecl.{ObjectDecl}
use Rattle.split_model.specs.Counts.{object_bits}
use Rattle.resource_limits.proofs.Shown.{shown_by, post_shown_by, bits_step}
use Rattle.resource_limits.proofs.counting.table_bits.Goals as goal

pub loop-o-preserved : goal.loop-o-preserved
loop-o-preserved c =
    let objects = c.args.objects.now in
    let o = c.loop-o.o in
    let within : o < length objects = omega arith in
    let low = c.object_bits-bits.ensures.bounded in
    record {
      low = omega arith;
      so_far = λ f split same before after.
          let inside : o < length f.objects = omega (arith, ap length same) in
          let shown = sym (shown_by f split c.args.before.now o before inside) in
          let post = sym (post_shown_by f split c.args.after.now o after inside) in
          let bits = c.object_bits-bits.ensures.exact f split o shown post in
          let same_bits = ap (λ (d : ObjectDecl). object_bits f split c.args.writeback o d) c.index-objects-o.is in
          let so_far = c.loop-o.invariant.so_far f split same before after in
          let step = bits_step f split c.args.writeback objects o c.index-objects-o.result within in
          omega arith;
    }
