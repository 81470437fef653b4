use Rattle.std.proofs.Common.{◌≡◌, ℕ, ◌-◌, ◌<◌, ◌≤◌, true, None, is_some, length, refl, sym, ap, subst, ◌∙◌, arith}
use Rattle.slot_table.specs.Place.{steps}
use Rattle.slot_table.specs.Table.{held}
use Rattle.slot_table.proofs.Circle.{next_below, no_step}
use Rattle.slot_table.proofs.Held.{read}
use Rattle.slot_table.proofs.Moves.{gap_ends, gaps_on}
use Rattle.slot_table.proofs.probing.free.Goals as goal

pub loop-at-init : goal.loop-at-init
loop-at-init g c = record { within = c.requires.within; first = λ e le em. omega (arith, no_step (length c.args.slots.now) c.args.from) }

pub loop-at-smaller : goal.loop-at-smaller
loop-at-smaller g c =
    let s = c.args.slots.now in
    let at = c.loop-at.at in
    let within = c.loop-at.invariant.within in
    let gap = c.requires.gap in
    let full : is_some (held s at) ≡ true = ap is_some (read s at c.index-slots-at.result c.index-slots-at.result within c.index-slots-at.is refl) ∙ sym c.is_some.ensures ∙ c.loop-at-test.true in
    subst (λ (j : ℕ). length s - steps (length s) c.args.from j < length s - steps (length s) c.args.from at) (sym c.next-at.ensures)
    (gap_ends s c.args.from at gap c.requires.within within full (c.loop-at.invariant.first gap.at gap.within gap.empty))

pub loop-at-preserved : goal.loop-at-preserved
loop-at-preserved g c =
    let s = c.args.slots.now in
    let at = c.loop-at.at in
    let within = c.loop-at.invariant.within in
    let full : is_some (held s at) ≡ true = ap is_some (read s at c.index-slots-at.result c.index-slots-at.result within c.index-slots-at.is refl) ∙ sym c.is_some.ensures ∙ c.loop-at-test.true in
    record {
      within = rw c.next-at.ensures (next_below (length s) at within);
      first = subst (λ (j : ℕ). (e : ℕ) → e < length s → held s e ≡ None → steps (length s) c.args.from j ≤ steps (length s) c.args.from e) (sym c.next-at.ensures)
          (gaps_on s c.args.from at c.requires.within within full c.loop-at.invariant.first);
    }
