use Rattle.std.proofs.Common.{◌≡◌, ◌<◌, ◌+◌, ℕ, zero, suc, List, [], ◌∷◌, ◌++◌, length, take, drop, refl, sym, ap, ◌∙◌, arith, set, slice_index}
use Rattle.transfer_header.specs.Registers.{placed, Registers}
use Rattle.switch_machine.proofs.active_pass.copy_numbers.Goals as goal

-- one more is taken over
put_next : (xs ys : List ℕ) (p : ℕ) → p < length xs → length ys ≡ length xs → set (take p xs ++ drop p ys) p (slice_index xs p) ≡ take (p + 1) xs ++ drop (p + 1) ys
put_next [] ys p h e = absurd (omega arith)
put_next (x ∷ xs) [] p h e = absurd (omega arith)
put_next (x ∷ xs) (y ∷ ys) zero h e = refl
put_next (x ∷ xs) (y ∷ ys) (suc p) h e = let n : suc p + 1 ≡ suc (p + 1) = omega arith in rw n (ap (λ l. x ∷ l) (put_next xs ys p (omega arith) (omega arith)))

pub loop-place-preserved : goal.loop-place-preserved
loop-place-preserved c =
    let numbers = c.as_slice-numbers.result.now in
    let p = c.loop-place.place in
    let inside : p < length numbers = let e = ap length c.as_slice-numbers.ensures.numbers in let t = c.loop-place-test.true in let l = c.len-place-end.ensures.len in omega arith in
    let same : length c.args.to.now.numbers ≡ length numbers = c.requires ∙ sym (ap length c.as_slice-numbers.ensures.numbers) in
    c.set_at.ensures ∙ ap (λ (r : Registers). placed r p (slice_index numbers p)) c.loop-place.invariant
    ∙ ap (λ l. record { plan = c.args.to.now.plan; numbers = l }) (put_next numbers c.args.to.now.numbers p inside same)
