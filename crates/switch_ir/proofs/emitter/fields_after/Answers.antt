use Rattle.std.proofs.Common.{true, false, ap, sym, ◌∙◌}
use Rattle.switch_ir.proofs.Places.{field_more}
use Rattle.switch_ir.proofs.emitter.fields_after.Goals as goal
use Rattle.switch_ir.proofs.emitter.fields_after.Goals.{then-is_post+in_ok-push, else-is_post}

pub loop-written-preserved : goal.loop-written-preserved
loop-written-preserved c =
    let all = c.args.f.now.out.fields.items in
    let fields = c.deref-written-items.result.now in
    let before = c.loop-written.fields.items in
    let i = c.loop-written.written-index in
    elim c.if-is_post.branch [
      | then-is_post+in_ok-push w ↦
          ap (λ fields. fields.items) w.fields-is ∙ w.in_ok-push.ensures.items
          ∙ field_more c.args.s.now all fields before i _ true c.deref-written-items.ensures.value c.loop-written-test.true
          (sym w.if-is_post.true ∙ c.is_post.ensures) c.loop-written.invariant
      | else-is_post w ↦
          ap (λ fields. fields.items) w.fields-is
          ∙ field_more c.args.s.now all fields before i _ false c.deref-written-items.ensures.value c.loop-written-test.true
          (sym w.if-is_post.false ∙ c.is_post.ensures) c.loop-written.invariant
    ]
