use Rattle.std.proofs.Common.{◌≡◌, ◌+◌, ◌-◌, ◌*◌, ◌/◌, ◌%◌, ◌^◌, ◌<◌, true, [], ◌∷◌, ◌++◌, length, drop, get_or, sym, ap, subst, ◌∙◌, arith, append_assoc}
use Rattle.state_store.specs.Packing.{have_room, parts}
use Rattle.state_store.proofs.PackSteps.{next_of, unpacked_on, parts_next, parts_end, one_longer}
use Rattle.state_store.proofs.packing.parts_of.Goals as goal

pub overflow_cast-rest : goal.overflow_cast-rest
overflow_cast-rest c =
    let ws = c.args.widths.now in
    let i = c.loop-width.width-index in
    let room = subst (λ l. have_room c.loop-width.room l ≡ true) (next_of ws i c.loop-width-test.true) c.loop-width.invariant.room in
    let on = unpacked_on c.loop-width.room c.loop-width.rest (get_or ws i 0) (drop (i + 1) ws) c.loop-width.invariant.within room c.loop-width.invariant.below in
    let part = on.part in
    omega arith

pub loop-width-preserved : goal.loop-width-preserved
loop-width-preserved c =
    let ws = c.args.widths.now in
    let i = c.loop-width.width-index in
    let lt : i < length ws = c.loop-width-test.true in
    let w = get_or ws i 0 in
    let room = subst (λ l. have_room c.loop-width.room l ≡ true) (next_of ws i lt) c.loop-width.invariant.room in
    let on = unpacked_on c.loop-width.room c.loop-width.rest w (drop (i + 1) ws) c.loop-width.invariant.within room c.loop-width.invariant.below in
    let k = c.loop-width.room - w in
    let rest = c.loop-width.rest in
    record {
      count = ap length c.push.ensures ∙ one_longer c.loop-width.values (rest / 2 ^ k) ∙ ap (λ n. n + 1) c.loop-width.invariant.count;
      sum = ap (λ l. l ++ parts k (drop (i + 1) ws) (rest % (1 * 2 ^ k % 2 ^ 128))) c.push.ensures
          ∙ append_assoc c.loop-width.values (rest / 2 ^ k ∷ []) _
          ∙ ap (λ m. c.loop-width.values ++ (rest / 2 ^ k ∷ parts k (drop (i + 1) ws) (rest % m))) on.mask
          ∙ ap (λ l. c.loop-width.values ++ l) (sym (parts_next c.loop-width.room ws i rest lt))
          ∙ c.loop-width.invariant.sum;
      room = on.left;
      within = omega arith;
      below = subst (λ m. rest % m < 2 ^ k) (sym on.mask) on.below;
    }

pub returns : goal.returns
returns c = sym (parts_end c.loop-width.room c.args.widths.now c.loop-width.width-index c.loop-width.rest c.loop-width.values (omega arith)) ∙ c.loop-width.invariant.sum
