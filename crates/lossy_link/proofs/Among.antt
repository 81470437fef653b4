-- Numbers among others, and the numbers below a count.
use Rattle.std.proofs.Common.{◌≡◌, ◌≢◌, ◌<◌, ◌≤◌, ◌+◌, ℕ, zero, suc, Bool, true, false, ◌||◌, ◌&&◌, List, [], ◌∷◌, ◌++◌, length, get_or, map, refl, sym, ap, ◌∙◌, subst, inl, inr, cond, Some, arith, true≢false}
use Rattle.std.specs.Prelude.{◌==◌, slice_get}
use Rattle.std.specs.List.{All, Contains, filter, range_with_len}
use Rattle.std.proofs.lemmas.Bool.{eq-eqb, eqb-true, ne_eqb, or_cases, or_parts, or_left, or_right, or_from, cases_eq}
use Rattle.std.proofs.lemmas.List.{length_push}
use Rattle.std.proofs.lemmas.List.Elements.{All-head, All-tail, All-cons, All-nil, All-weaker}
use Rattle.lossy_link.specs.Link.{is_among}
use Rattle.lemmas.proofs.Lists.{range_pushed}
use Rattle.lemmas.proofs.Tests.{and_false, or_assoc, or_false}
use Rattle.std.proofs.lemmas.Option.{get_or_from_slice_get, slice_get_within}

-- ---- tests

kept : (a b c : Bool) → (a ≡ true → c ≡ true) → (a || (b && c)) ≡ ((a || b) && c)
kept true b c h = sym (h refl)
kept false b c h = refl

left_out : (a b c : Bool) → (a ≡ true → c ≡ false) → (b && c) ≡ ((a || b) && c)
left_out true b c h = ap (λ d. b && d) (h refl) ∙ (and_false b ∙ sym (h refl))
left_out false b c h = refl

-- ---- a place of a list

pub at_place : (P : ℕ → Type 0) (xs : List ℕ) (j n : ℕ) → All P xs → slice_get xs j ≡ Some n → P n
at_place P xs j n all is = subst P (get_or_from_slice_get xs j n n is) (all j n (slice_get_within xs j n is))

pub map_same : {B : Type 0} (f g : ℕ → B) (xs : List ℕ) → All (λ n. f n ≡ g n) xs → map f xs ≡ map g xs
map_same f g [] all = refl
map_same f g (x ∷ xs) all =
    let here : f x ≡ g x = All-head (λ n. f n ≡ g n) x xs all in
    let rest : map f xs ≡ map g xs = map_same f g xs (All-tail (λ n. f n ≡ g n) x xs all) in
    λ i. here i ∷ rest i

pub filter_same : (p q : ℕ → Bool) (xs : List ℕ) → All (λ n. p n ≡ q n) xs → filter p xs ≡ filter q xs
filter_same p q [] all = refl
filter_same p q (x ∷ xs) all =
    let here : p x ≡ q x = All-head (λ n. p n ≡ q n) x xs all in
    let rest : filter p xs ≡ filter q xs = filter_same p q xs (All-tail (λ n. p n ≡ q n) x xs all) in
    λ i. cond (here i) (x ∷ rest i) (rest i)

-- ---- numbers among others

pub apart : (xs : List ℕ) (n : ℕ) → is_among xs n ≡ false → (k d : ℕ) → k < length xs → get_or xs k d ≢ n
apart [] n fails k d inside = absurd (omega arith)
apart (x ∷ xs) n fails zero d inside =
    λ same. true≢false (sym (eq-eqb x n same) ∙ (or_parts (x == n) (is_among xs n) fails).0)
apart (x ∷ xs) n fails (suc k) d inside =
    apart xs n (or_parts (x == n) (is_among xs n) fails).1 k d (omega arith)

pub contained : (xs : List ℕ) (n : ℕ) → is_among xs n ≡ true → Contains xs n
contained [] n holds = absurd cc
contained (x ∷ xs) n holds =
    elim (or_cases (x == n) (is_among xs n) holds) [
      | inl here ↦ (0, omega arith, eqb-true x n here)
      | inr there ↦ let c = contained xs n there in (suc c.0, omega (arith, c.1), c.2)
    ]

pub among_push : (xs : List ℕ) (n m : ℕ) → is_among (xs ++ n ∷ []) m ≡ (is_among xs m || (n == m))
among_push [] n m = or_false (n == m)
among_push (x ∷ xs) n m = ap (λ b. (x == m) || b) (among_push xs n m) ∙ sym (or_assoc (x == m) (is_among xs m) (n == m))

pub among_pushed : (xs : List ℕ) (n : ℕ) → is_among (xs ++ n ∷ []) n ≡ true
among_pushed xs n = among_push xs n n ∙ or_right (is_among xs n) (n == n) (eq-eqb n n refl)

-- none of the numbers is this one
pub not_among : (xs : List ℕ) (n : ℕ) → ((k : ℕ) → k < length xs → get_or xs k 0 ≢ n) → is_among xs n ≡ false
not_among [] n fails = refl
not_among (x ∷ xs) n fails =
    or_from (x == n) (is_among xs n) (ne_eqb x n (fails 0 (omega arith)))
    (not_among xs n (λ k inside. fails (suc k) (omega arith)))

pub among_at : (xs : List ℕ) (k n : ℕ) → k < length xs → get_or xs k 0 ≡ n → is_among xs n ≡ true
among_at [] k n inside is = absurd (omega arith)
among_at (x ∷ xs) zero n inside is = or_left (x == n) (is_among xs n) (eq-eqb x n is)
among_at (x ∷ xs) (suc k) n inside is =
    or_right (x == n) (is_among xs n) (among_at xs k n (omega arith) is)

-- what a test keeps
pub among_filter : (p : ℕ → Bool) (xs : List ℕ) (n : ℕ) → is_among (filter p xs) n ≡ (is_among xs n && p n)
among_filter p [] n = refl
among_filter p (x ∷ xs) n =
    elim (p x) as (λ b. p x ≡ b → is_among (cond b (x ∷ filter p xs) (filter p xs)) n ≡ (((x == n) || is_among xs n) && p n)) [
      | true ↦ λ holds. ap (λ b. (x == n) || b) (among_filter p xs n) ∙ kept (x == n) (is_among xs n) (p n) (λ here. ap p (sym (eqb-true x n here)) ∙ holds)
      | false ↦ λ fails. among_filter p xs n ∙ left_out (x == n) (is_among xs n) (p n) (λ here. ap p (sym (eqb-true x n here)) ∙ fails)
    ] refl

-- ---- the numbers from one on

pub range_within : (a n : ℕ) → All (λ k. (a ≤ k) × (k < a + n)) (range_with_len a n)
range_within a zero = All-nil (λ k. (a ≤ k) × (k < a + zero))
range_within a (suc n) =
    All-cons (λ k. (a ≤ k) × (k < a + suc n)) a (range_with_len (a + 1) n) (omega arith, omega arith)
    (All-weaker (λ k. (a + 1 ≤ k) × (k < (a + 1) + n)) (λ k. (a ≤ k) × (k < a + suc n)) (λ k h. (omega (arith, h.0), omega (arith, h.1))) (range_with_len (a + 1) n) (range_within (a + 1) n))

pub range_below : (n : ℕ) → All (λ k. k < n) (range_with_len 0 n)
range_below n =
    All-weaker (λ k. (0 ≤ k) × (k < 0 + n)) (λ k. k < n) (λ k h. omega (arith, h.1)) (range_with_len 0 n) (range_within 0 n)

pub among_range : (a n k : ℕ) → a ≤ k → k < a + n → is_among (range_with_len a n) k ≡ true
among_range a zero k from below = absurd (omega arith)
among_range a (suc n) k from below =
    elim (cases_eq a k) [
      | inl same ↦ or_left (a == k) (is_among (range_with_len (a + 1) n) k) (eq-eqb a k same)
      | inr other ↦ or_right (a == k) (is_among (range_with_len (a + 1) n) k) (among_range (a + 1) n k (omega (arith, other)) (omega arith))
    ]

pub pushed_range : (xs : List ℕ) (n : ℕ) → xs ≡ range_with_len 0 (length xs) → n ≡ length xs
    → xs ++ n ∷ [] ≡ range_with_len 0 (length (xs ++ n ∷ []))
pushed_range xs n is next =
    let place : n ≡ 0 + length xs = omega arith in
    let long : suc (length xs) ≡ length (xs ++ n ∷ []) = omega (arith, length_push xs n) in
    ap (λ (ys : List ℕ). ys ++ n ∷ []) is
    ∙ (ap (λ (k : ℕ). range_with_len 0 (length xs) ++ k ∷ []) place
    ∙ (sym (range_pushed 0 (length xs)) ∙ ap (range_with_len 0) long))
