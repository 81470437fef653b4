use Rattle.std.proofs.Common.{List, ◌++◌, ◌∷◌, [], sym, ap, ◌∙◌}
use Rattle.state_store.specs.declared.object.Row.{Row}
use Rattle.run_model.proofs.PartLaws.{part_passed, part_told}
use Rattle.run_model.proofs.run.store_rows.Goals.{then-not-is_table+in_ok-rows+in_ok-push, else-not-is_table}
use Rattle.run_model.proofs.run.store_rows.Goals as goal

pub loop-number-preserved : goal.loop-number-preserved
loop-number-preserved c =
    let n = c.loop-number.number in
    let o = c.index-objects-number.result in
    let xs = c.loop-number.items.items in
    let ys = c.if-not-is_table.items.items in
    elim c.if-not-is_table.branch [
      | then-not-is_table+in_ok-rows+in_ok-push w ↦
          part_told n c.args.objects.now c.args.store.now o c.loop-number-test.true xs ys _ (sym c.is_table.ensures ∙ w.if-not-is_table.true)
          (ap (λ v. v.items) w.items-is ∙ w.in_ok-push.ensures.items
          ∙ ap (λ (r : List Row). xs ++ (record { object = n; rows = r }) ∷ []) w.in_ok-rows.ensures)
          c.loop-number.invariant
      | else-not-is_table w ↦
          part_passed n c.args.objects.now c.args.store.now o c.loop-number-test.true xs ys _ (sym c.is_table.ensures ∙ w.if-not-is_table.false)
          (ap (λ v. v.items) w.items-is) c.loop-number.invariant
    ]
