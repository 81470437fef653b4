-- In a list of marks in which the longer ones stand in front, the first that fits is one that no longer one beats.
use Rattle.std.proofs.Common.{◌≡◌, ℕ, Bool, true, false, not, ◌&&◌, cond, List, [], ◌∷◌, ◌++◌, length, nat_lt, Option, Some, refl, subst, arith, append_assoc}
use Rattle.std.specs.List.{find, list_any, list_all}
use Rattle.std.proofs.lemmas.Bool.Decides.{nat_tests}
use Rattle.element_lang.specs.declared.mark.Mark.{Mark}
use Rattle.element_lang.specs.Mark.{spelling, stands, is_longer, is_beaten, symbols, symbol_in_front}
use Rattle.std.proofs.lemmas.Bool.{and_left, and_parts, or_from, or_parts}

-- each is as long as those behind it, or longer
abbrev falling : List Mark → Bool
falling [] = true
falling (m ∷ ms) = list_all (λ k. not (is_longer k m)) ms && falling ms

no_beat : (a b : Bool) → not b ≡ true → (a && b) ≡ false
no_beat a true e = cc
no_beat true false e = refl
no_beat false false e = refl

not_below : (n : ℕ) → not (nat_lt n n) ≡ true
not_below n = grind (arith, nat_tests)

none_behind : (bs : List ℕ) (m : Mark) (ms : List Mark) → list_all (λ k. not (is_longer k m)) ms ≡ true → is_beaten ms bs m ≡ false
none_behind bs m [] h = refl
none_behind bs m (k ∷ ms) h =
    let (first, others) = and_parts (not (is_longer k m)) (list_all (λ k. not (is_longer k m)) ms) h in
    or_from (stands bs k && is_longer k m) (is_beaten ms bs m) (no_beat (stands bs k) (is_longer k m) first) (none_behind bs m ms others)

-- none of those in front stands there
none_beats : (bs : List ℕ) (m : Mark) (front rest : List Mark) → list_any (stands bs) front ≡ false → is_beaten rest bs m ≡ false → is_beaten (front ++ rest) bs m ≡ false
none_beats bs m [] rest none h = h
none_beats bs m (k ∷ front) rest none h =
    let (first, others) = or_parts (stands bs k) (list_any (stands bs) front) none in
    or_from (stands bs k && is_longer k m) (is_beaten (front ++ rest) bs m) (and_left (stands bs k) (is_longer k m) first) (none_beats bs m front rest others h)

unbeaten : (bs : List ℕ) (m : Mark) (front ms : List Mark) → list_any (stands bs) front ≡ false → falling (m ∷ ms) ≡ true → is_beaten (front ++ m ∷ ms) bs m ≡ false
unbeaten bs m front ms none h =
    let (first, others) = and_parts (list_all (λ k. not (is_longer k m)) ms) (falling ms) h in
    none_beats bs m front (m ∷ ms) none
    (or_from (stands bs m && is_longer m m) (is_beaten ms bs m) (no_beat (stands bs m) (is_longer m m) (not_below (length (spelling m)))) (none_behind bs m ms first))

none_more : (bs : List ℕ) (m : Mark) (front : List Mark) → list_any (stands bs) front ≡ false → stands bs m ≡ false → list_any (stands bs) (front ++ m ∷ []) ≡ false
none_more bs m [] none e = or_from (stands bs m) false e refl
none_more bs m (k ∷ front) none e =
    let (first, others) = or_parts (stands bs k) (list_any (stands bs) front) none in
    or_from (stands bs k) (list_any (stands bs) (front ++ m ∷ [])) first (none_more bs m front others e)

abbrev best : List Mark → List ℕ → Mark → Bool
best all bs m = stands bs m && not (is_beaten all bs m)

here : (s b : Bool) (m : Mark) (x y : Option Mark) → s ≡ true → b ≡ false → cond s (Some m) x ≡ cond (s && not b) (Some m) y
here true false m x y e f = refl
here false b m x y e f = cc
here true true m x y e f = cc

beyond : (s b : Bool) (m : Mark) (x y : Option Mark) → s ≡ false → x ≡ y → cond s (Some m) x ≡ cond (s && not b) (Some m) y
beyond false b m x y e f = f
beyond true b m x y e f = cc

by_test : (bs : List ℕ) (front : List Mark) (m : Mark) (ms : List Mark) → list_any (stands bs) front ≡ false → falling (m ∷ ms) ≡ true
    → (stands bs m ≡ false → find (stands bs) ms ≡ find (best (front ++ m ∷ ms) bs) ms) → (s : Bool) → stands bs m ≡ s
    → find (stands bs) (m ∷ ms) ≡ find (best (front ++ m ∷ ms) bs) (m ∷ ms)
by_test bs front m ms none h rest true e =
    here (stands bs m) (is_beaten (front ++ m ∷ ms) bs m) m _ _ e (unbeaten bs m front ms none h)
by_test bs front m ms none h rest false e = beyond (stands bs m) (is_beaten (front ++ m ∷ ms) bs m) m _ _ e (rest e)

first_best : (bs : List ℕ) (front ms : List Mark) → list_any (stands bs) front ≡ false → falling ms ≡ true
    → find (stands bs) ms ≡ find (best (front ++ ms) bs) ms
first_best bs front [] none h = refl
first_best bs front (m ∷ ms) none h =
    let (first, others) = and_parts (list_all (λ k. not (is_longer k m)) ms) (falling ms) h in
    let P : List Mark → Type 0 = λ all. find (stands bs) ms ≡ find (best all bs) ms in
    let rest : stands bs m ≡ false → find (stands bs) ms ≡ find (best (front ++ m ∷ ms) bs) ms = λ e.
    subst P (append_assoc front (m ∷ []) ms) (first_best bs (front ++ m ∷ []) ms (none_more bs m front none e) others) in
    by_test bs front m ms none h rest (stands bs m) refl

pub first_is_longest : (bs : List ℕ) → find (stands bs) symbols ≡ symbol_in_front bs
first_is_longest bs = first_best bs [] symbols refl refl
