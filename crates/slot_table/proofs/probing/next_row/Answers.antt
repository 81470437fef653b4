use Rattle.std.proofs.Common.{◌≡◌, ℕ, ◌+◌, ◌<◌, ◌≤◌, None, is_some, inl, inr, refl, sym, ap, ◌∙◌, arith}
use Rattle.std.proofs.lemmas.Bool.{cases_lt}
use Rattle.slot_table.specs.Table.{held, Slots}
use Rattle.slot_table.proofs.Held.{read}
use Rattle.slot_table.proofs.Moves.{is_none}
use Rattle.slot_table.proofs.probing.next_row.Goals as goal

-- one slot more without a row
one_gap : (s : Slots) (from at : ℕ) → ((i : ℕ) → from ≤ i → i < at → held s i ≡ None) → held s at ≡ None
    → (i : ℕ) → from ≤ i → i < at + 1 → held s i ≡ None
one_gap s from at gaps gap i le lt = elim (cases_lt i at) [
  | inl before ↦ gaps i le before
  | inr last ↦ (let same : i ≡ at = omega (arith, lt, last) in ap (held s) same ∙ gap)
]

pub loop-at-preserved : goal.loop-at-preserved
loop-at-preserved g c =
    let s = c.args.slots.now in
    let at = c.loop-at.at in
    let so_far = c.loop-at.invariant in
    let held_is = read s at c.index-slots-at.result c.index-slots-at.result c.loop-at-test.true c.index-slots-at.is refl in
    record {
      behind = omega (arith, so_far.behind);
      within = omega arith;
      gaps = one_gap s c.args.from at so_far.gaps (is_none (held s at) (ap is_some held_is ∙ sym c.is_some.ensures ∙ c.if-is_some.false));
    }

pub returns-then-is_some : goal.returns-then-is_some
returns-then-is_some g c =
    let s = c.args.slots.now in
    let at = c.loop-at.at in
    let so_far = c.loop-at.invariant in
    let held_is = read s at c.index-slots-at.result c.index-slots-at.result c.loop-at-test.true c.index-slots-at.is refl in
    record {
      behind = so_far.behind;
      within = so_far.within;
      gaps = so_far.gaps;
      row = λ _. ap is_some held_is ∙ sym c.is_some.ensures ∙ c.if-is_some.true;
    }
