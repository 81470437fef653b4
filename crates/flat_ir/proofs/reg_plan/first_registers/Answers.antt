use Rattle.std.proofs.Common.{◌≡◌, ◌<◌, ◌+◌, ◌∙◌, ◌++◌, ◌∷◌, [], ℕ, List, Option, None, length, get_or, inl, inr, sym, ap, arith}
use Rattle.std.proofs.lemmas.Bool.{cases_lt}
use Rattle.std.proofs.lemmas.List.{get_or_append_left, get_or_push}
use Rattle.std.proofs.lemmas.Option.{get_or_from_slice_get, slice_get_within}
use Rattle.slot_table.specs.Table.{Contents}
use Rattle.flat_ir.specs.Plan.{register_in}
use Rattle.flat_ir.proofs.reg_plan.first_registers.Goals as goal

-- one register more
more : (rows : Contents) (first : List (Option ℕ)) (register : Option ℕ) (value : ℕ) → length first ≡ value
    → ((v : ℕ) → v < value → get_or first v None ≡ register_in rows v) → register ≡ register_in rows value
    → (v : ℕ) → v < value + 1 → get_or (first ++ register ∷ []) v None ≡ register_in rows v
more rows first register value count each is v lt = elim (cases_lt v value) [
  | inl before ↦ get_or_append_left first (register ∷ []) None v (omega (arith, before, count)) ∙ each v before
  | inr last ↦ (let same : v ≡ value = omega (arith, lt, last) in
      get_or_push first register None v (omega (arith, count, same)) ∙ is ∙ ap (register_in rows) (sym same))
]

pub loop-value-init : goal.loop-value-init
loop-value-init c = record { count = ap length c.in_ok-first.ensures.items; each = λ v lt. absurd (omega (arith, lt)) }

pub loop-value-preserved : goal.loop-value-preserved
loop-value-preserved c =
    let so_far = c.loop-value.invariant in
    let pushed = c.in_ok-push.ensures.items in
    record {
      count = omega (arith, so_far.count, c.in_ok-push.ensures.len);
      each = λ v lt. ap (λ items. get_or items v None) pushed
          ∙ more c.args.registers.now.rows c.loop-value.first.items c.register_in.result c.loop-value.value so_far.count
          so_far.each c.register_in.ensures v lt;
    }

pub returns : goal.returns
returns c =
    let done = c.loop-value.invariant in
    λ value register e. sym (get_or_from_slice_get c.loop-value.first.items value register None e)
    ∙ done.each value (omega (arith, done.count, slice_get_within c.loop-value.first.items value register e))
