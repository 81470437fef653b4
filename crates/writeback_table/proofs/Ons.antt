-- How many commands a batch has, and how many of the first of them set the bit.
use Rattle.std.proofs.Common.{◌≡◌, ℕ, ◌+◌, ◌-◌, ◌*◌, ◌<◌, ◌≤◌, List, [], ◌∷◌, ◌++◌, refl, ◌∙◌, ap, arith, zero, suc, map, length, take, append_assoc}
use Rattle.std.proofs.lemmas.List.{length-append, length-map}
use Rattle.writeback_table.specs.declared.command.Update.{Update}
use Rattle.writeback_table.specs.declared.command.Command.{Command}
use Rattle.writeback_table.specs.declared.command.Command.TheVariants.{Stage, On, Main, Off}
use Rattle.writeback_table.specs.Commands.{clear_of, commands_of, counts_on, ons}

pub length_batch : (us : List Update) → length (commands_of us) ≡ 3 * length us + 2
length_batch us =
    let mains = map (λ u. Main u) us in
    let clears = map clear_of us in
    let one = length-append (map (λ u. Stage u) us) (On ∷ (mains ++ (Off ∷ clears))) in
    let two = length-append mains (Off ∷ clears) in
    let a = length-map us (λ u. Stage u) in
    let b = length-map us (λ u. Main u) in
    let c = length-map us clear_of in
    omega arith

ons_none : (f : Update → Command) → ((u : Update) → counts_on (f u) ≡ 0) → (us : List Update) (ds : List Command) (n : ℕ)
    → ons (take n (map f us ++ ds)) ≡ ons (take (n - length us) ds)
ons_none f none [] ds n = let e : n ≡ n - 0 = omega arith in ap (λ k. ons (take k ds)) e
ons_none f none (u ∷ us) ds zero = let e : 0 - suc (length us) ≡ 0 = omega arith in rw e refl
ons_none f none (u ∷ us) ds (suc n) =
    let e : suc n - suc (length us) ≡ n - length us = omega arith in
    let r = ons_none f none us ds n in let z = none u in rw e (omega arith)

ons_off : (us : List Update) (ds : List Command) (n : ℕ) → ons (take n (Off ∷ (map clear_of us ++ ds))) ≡ ons (take (n - suc (length us)) ds)
ons_off us ds zero = let e : 0 - suc (length us) ≡ 0 = omega arith in rw e refl
ons_off us ds (suc n) =
    let e : suc n - suc (length us) ≡ n - length us = omega arith in
    let r = ons_none clear_of (λ u. refl) us ds n in rw e (omega arith)

regroup : (us : List Update) (ds : List Command)
    → commands_of us ++ ds ≡ map (λ u. Stage u) us ++ (On ∷ (map (λ u. Main u) us ++ (Off ∷ (map clear_of us ++ ds))))
regroup us ds =
    append_assoc (map (λ u. Stage u) us) (On ∷ (map (λ u. Main u) us ++ (Off ∷ map clear_of us))) ds
    ∙ ap (λ l. map (λ u. Stage u) us ++ (On ∷ l)) (append_assoc (map (λ u. Main u) us) (Off ∷ map clear_of us) ds)

behind_stages : (us : List Update) (ds : List Command) (n : ℕ) → ons (take n (commands_of us ++ ds))
    ≡ ons (take (n - length us) (On ∷ (map (λ u. Main u) us ++ (Off ∷ (map clear_of us ++ ds)))))
behind_stages us ds n = ap (λ l. ons (take n l)) (regroup us ds) ∙ ons_none (λ u. Stage u) (λ u. refl) us _ n

pub before_on : (us : List Update) (ds : List Command) (n : ℕ) → n ≤ length us → ons (take n (commands_of us ++ ds)) ≡ 0
before_on us ds n low = let e : n - length us ≡ 0 = omega arith in
    behind_stages us ds n ∙ ap (λ k. ons (take k (On ∷ (map (λ u. Main u) us ++ (Off ∷ (map clear_of us ++ ds)))))) e

after_on : (us : List Update) (ds : List Command) (k : ℕ) → ons (take (suc k) (On ∷ (map (λ u. Main u) us ++ (Off ∷ (map clear_of us ++ ds)))))
    ≡ suc (ons (take (k - length us - suc (length us)) ds))
after_on us ds k =
    let a = ons_none (λ u. Main u) (λ u. refl) us (Off ∷ (map clear_of us ++ ds)) k in
    let b = ons_off us ds (k - length us) in omega arith

pub from_on : (us : List Update) (ds : List Command) (n : ℕ) → length us < n
    → ons (take n (commands_of us ++ ds)) ≡ suc (ons (take (n - length (commands_of us)) ds))
from_on us ds n high =
    let k = n - length us - 1 in
    let e : n - length us ≡ suc k = omega arith in
    let l = length_batch us in
    let f : k - length us - suc (length us) ≡ n - length (commands_of us) = omega arith in
    behind_stages us ds n
    ∙ ap (λ m. ons (take m (On ∷ (map (λ u. Main u) us ++ (Off ∷ (map clear_of us ++ ds)))))) e
    ∙ after_on us ds k ∙ ap (λ m. suc (ons (take m ds))) f
