use Rattle.std.proofs.Common.{◌≡◌, ◌+◌, ◌-◌, ◌*◌, ◌%◌, ◌^◌, ◌<◌, ◌≤◌, true, false, ◌&&◌, length, drop, get_or, sym, ap, ap₂, subst, ◌∙◌, arith, true≢false}
use Rattle.std.specs.Prelude.{nat_lt}
use Rattle.std.proofs.lemmas.Bool.{ltb-true}
use Rattle.std.proofs.lemmas.Nat.{pow_pos}
use Rattle.std.proofs.lemmas.List.{drop_all}
use Rattle.state_store.specs.Kept.{have_widths}
use Rattle.state_store.specs.Packing.{have_room}
use Rattle.state_store.proofs.PackSteps.{next_of, same_count, by_false, by_true, packed_on, packed_next, packed_end, regrouped}
use Rattle.state_store.proofs.packing.packed.Goals as goal

pub returns-then-widths-numbers-clause-value : goal.returns-then-widths-numbers-clause-value
returns-then-widths-numbers-clause-value c = by_false _ _ (λ h. c.if-widths-numbers.true (same_count c.args.widths.now c.args.numbers.now h))

pub returns-then-not-fits-clause-value : goal.returns-then-not-fits-clause-value
returns-then-not-fits-clause-value c =
    let ws = c.args.widths.now in
    let ns = c.args.numbers.now in
    let i = c.loop-i.i in
    let wide : i < length ws = c.loop-i-test.true in
    let long : i < length ns = omega arith in
    let misfit : nat_lt (get_or ns i 0) (2 ^ get_or ws i 0) ≡ false = sym c.fits.ensures ∙ c.if-not-fits.true in
    let here : have_widths (drop i ws) (drop i ns) ≡ false = ap₂ have_widths (next_of ws i wide) (next_of ns i long) ∙ ap (λ b. b && have_widths (drop (i + 1) ws) (drop (i + 1) ns)) misfit in
    by_false _ _ (λ h. true≢false (sym h ∙ sym c.loop-i.invariant.fit ∙ here))

pub overflow_shl-whole : goal.overflow_shl-whole
overflow_shl-whole c =
    let ws = c.args.widths.now in
    let ns = c.args.numbers.now in
    let i = c.loop-i.i in
    let room = subst (λ l. have_room c.loop-i.room l ≡ true) (next_of ws i c.loop-i-test.true) c.loop-i.invariant.room in
    let fit : get_or ns i 0 < 2 ^ get_or ws i 0 = ltb-true _ _ (sym c.fits.ensures ∙ c.if-not-fits.false) in
    (packed_on c.args.bits c.loop-i.room c.loop-i.whole (get_or ws i 0) (get_or ns i 0) (drop (i + 1) ws) c.requires.bits c.loop-i.invariant.least room fit c.loop-i.invariant.below).below

pub overflow_add-whole : goal.overflow_add-whole
overflow_add-whole c =
    let ws = c.args.widths.now in
    let ns = c.args.numbers.now in
    let i = c.loop-i.i in
    let room = subst (λ l. have_room c.loop-i.room l ≡ true) (next_of ws i c.loop-i-test.true) c.loop-i.invariant.room in
    let fit : get_or ns i 0 < 2 ^ get_or ws i 0 = ltb-true _ _ (sym c.fits.ensures ∙ c.if-not-fits.false) in
    let on = packed_on c.args.bits c.loop-i.room c.loop-i.whole (get_or ws i 0) (get_or ns i 0) (drop (i + 1) ws) c.requires.bits c.loop-i.invariant.least room fit c.loop-i.invariant.below in
    let k = c.loop-i.room - get_or ws i 0 in
    let shift : c.from.result * 2 ^ k % 2 ^ 128 ≡ get_or ns i 0 * 2 ^ k = ap (λ x. x * 2 ^ k % 2 ^ 128) c.from.ensures ∙ on.whole_shift in
    let fits = on.fits in
    omega arith

pub loop-i-preserved : goal.loop-i-preserved
loop-i-preserved c =
    let ws = c.args.widths.now in
    let ns = c.args.numbers.now in
    let i = c.loop-i.i in
    let wide : i < length ws = c.loop-i-test.true in
    let long : i < length ns = omega arith in
    let w = get_or ws i 0 in
    let n = get_or ns i 0 in
    let room = subst (λ l. have_room c.loop-i.room l ≡ true) (next_of ws i wide) c.loop-i.invariant.room in
    let fits : nat_lt n (2 ^ w) ≡ true = sym c.fits.ensures ∙ c.if-not-fits.false in
    let on = packed_on c.args.bits c.loop-i.room c.loop-i.whole w n (drop (i + 1) ws) c.requires.bits c.loop-i.invariant.least room (ltb-true _ _ fits) c.loop-i.invariant.below in
    let k = c.loop-i.room - w in
    let shift : c.from.result * 2 ^ k % 2 ^ 128 ≡ n * 2 ^ k = ap (λ x. x * 2 ^ k % 2 ^ 128) c.from.ensures ∙ on.whole_shift in
    let within = on.within in
    record {
      within = omega arith;
      least = omega arith;
      fit = ap (λ b. b && have_widths (drop (i + 1) ws) (drop (i + 1) ns)) (sym fits) ∙ sym (ap₂ have_widths (next_of ws i wide) (next_of ns i long)) ∙ c.loop-i.invariant.fit;
      sum = regrouped c.loop-i.whole (n * 2 ^ k) _ _ _ _ shift (packed_next c.loop-i.room ws ns i wide long) c.loop-i.invariant.sum;
      room = on.rest;
      below = omega arith;
    }

pub returns-clause-value : goal.returns-clause-value
returns-clause-value c =
    let ws = c.args.widths.now in
    let ns = c.args.numbers.now in
    let i = c.loop-i.i in
    let wide : length ws ≤ i = omega arith in
    let long : length ns ≤ i = omega arith in
    let ended : have_widths ws ns ≡ true = sym c.loop-i.invariant.fit ∙ ap₂ have_widths (drop_all i ws wide) (drop_all i ns long) in
    by_true _ _ _ ended (packed_end c.loop-i.room ws ns i c.loop-i.whole _ wide long c.loop-i.invariant.sum)

pub returns-clause-below : goal.returns-clause-below
returns-clause-below c =
    let within = c.loop-i.invariant.below in
    let some : 0 < 2 ^ c.loop-i.room = pow_pos c.loop-i.room in
    omega arith
