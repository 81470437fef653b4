-- The numbers that a sender keeps: they rise, and the others are known.
use Rattle.std.proofs.Common.{◌≡◌, ◌<◌, ◌≤◌, ◌+◌, ℕ, zero, suc, Bool, true, false, not, ◌||◌, ◌&&◌, List, [], ◌∷◌, ◌++◌, length, get_or, refl, sym, ap, ◌∙◌, subst, inl, inr, arith, append-nil}
use Rattle.std.specs.Prelude.{◌==◌}
use Rattle.std.specs.FinSet as set
use Rattle.std.specs.Cmp.{nat_cmp_total}
use Rattle.std.specs.List.{filter, range_with_len, remove}
use Rattle.std.specs.Ordering.{nat_cmp}
use Rattle.std.proofs.lemmas.Bool.{cases_eq, cond-false, cond-true, eq-eqb, eqb-true, ne_eqb, not_from_true, or_left}
use Rattle.std.proofs.lemmas.List.Elements.{All-weaker, filter-append}
use Rattle.lossy_link.specs.Link.{is_among}
use Rattle.lossy_link.specs.Sender.{unknown}
use Rattle.lossy_link.specs.Unknown.{AreRising, known_beside}
use Rattle.lossy_link.proofs.Among.{among_at, among_filter, among_push, among_pushed, among_range, filter_same, not_among, range_below, range_within}
use Rattle.lossy_link.proofs.Faithful.{known_insert}
use Rattle.lemmas.proofs.Lists.{range_pushed}
use Rattle.lemmas.proofs.Tests.{and_false, and_true, or_false}

-- ---- tests

first_stays : (a b c : Bool) → (a ≡ true → c ≡ true → ⊥) → (a || (b && not c)) ≡ ((a || b) && not c)
first_stays true b true h = absurd (h refl refl)
first_stays true b false h = refl
first_stays false b c h = refl

not_not : (b : Bool) → not (not b) ≡ b
not_not true = refl
not_not false = refl

one_more : (r m e : Bool) → (e ≡ true → r ≡ true) → (r && not (m && not e)) ≡ (e || (r && not m))
one_more r true true h = ap (λ b. b && true) (h refl)
one_more r false true h = ap (λ b. b && true) (h refl)
one_more r true false h = refl
one_more r false false h = refl

stays : (a b : Bool) → (a ≡ true → b ≡ true) → (a || b) ≡ b
stays true b h = sym (h refl)
stays false b h = refl

zero_plus : (n : ℕ) → 0 + n ≡ n
zero_plus n = omega arith

-- ---- rising numbers

pub rising_from : (a b : ℕ) (xs : List ℕ) → AreRising a b xs → (j : ℕ) → j < length xs → a ≤ get_or xs j 0
rising_from a b [] up j inside = absurd (omega arith)
rising_from a b (x ∷ xs) up zero inside = up.0
rising_from a b (x ∷ xs) up (suc j) inside =
    omega (arith, up.0, rising_from (suc x) b xs up.2 j (omega arith))

pub rising_lower : (a a' b : ℕ) (xs : List ℕ) → a' ≤ a → AreRising a b xs → AreRising a' b xs
rising_lower a a' b [] le up = tt
rising_lower a a' b (x ∷ xs) le up = (omega (arith, up.0), up.1, up.2)

-- there are no more than between the bounds
pub rising_short : (a b : ℕ) (xs : List ℕ) → AreRising a b xs → a ≤ b → a + length xs ≤ b
rising_short a b [] up le = omega arith
rising_short a b (x ∷ xs) up le =
    omega (arith, up.0, rising_short (suc x) b xs up.2 (omega (arith, up.1)))

-- what is below the numbers isn't among them
pub rising_apart : (a b : ℕ) (xs : List ℕ) (n : ℕ) → AreRising a b xs → n < a → is_among xs n ≡ false
rising_apart a b xs n up below =
    not_among xs n (λ k inside same. absurd (omega (arith, same, below, rising_from a b xs up k inside)))

pub moved : (a b b' : ℕ) (xs : List ℕ) → b ≡ b' → AreRising a b xs → AreRising a b' xs
moved a b b' xs same up = subst (λ (k : ℕ). AreRising a k xs) same up

at_first : (a n x : ℕ) (xs : List ℕ) → x ≡ a → (AreRising (a + 1) ((a + 1) + n) xs → filter (λ k. is_among xs k) (range_with_len (a + 1) n) ≡ xs)
    → AreRising a (a + suc n) (x ∷ xs)
    → filter (λ k. is_among (x ∷ xs) k) (range_with_len a (suc n)) ≡ x ∷ xs
at_first a n x xs here rest_is up =
    let behind : AreRising (a + 1) ((a + 1) + n) xs =
    rising_lower (suc x) (a + 1) ((a + 1) + n) xs (omega (arith, here)) (moved (suc x) (a + suc n) ((a + 1) + n) xs (omega arith) up.2) in
    let first : ((x == a) || is_among xs a) ≡ true = or_left (x == a) (is_among xs a) (eq-eqb x a here) in
    let rest : filter (λ k. (x == k) || is_among xs k) (range_with_len (a + 1) n) ≡ filter (λ k. is_among xs k) (range_with_len (a + 1) n) =
    filter_same (λ k. (x == k) || is_among xs k) (λ k. is_among xs k) (range_with_len (a + 1) n)
    (All-weaker (λ k. (a + 1 ≤ k) × (k < (a + 1) + n)) (λ k. ((x == k) || is_among xs k) ≡ is_among xs k)
    (λ k h. ap (λ b. b || is_among xs k) (ne_eqb x k (λ same. absurd (omega (arith, same, here, h.0))))) (range_with_len (a + 1) n) (range_within (a + 1) n)) in
    cond-true ((x == a) || is_among xs a) (a ∷ filter (λ k. (x == k) || is_among xs k) (range_with_len (a + 1) n)) (filter (λ k. (x == k) || is_among xs k) (range_with_len (a + 1) n)) first
    ∙ (ap (λ (ys : List ℕ). a ∷ ys) (rest ∙ rest_is behind) ∙ ap (λ (k : ℕ). k ∷ xs) (sym here))

-- the numbers are those of a range that are among them
pub rising_filter : (a n : ℕ) (xs : List ℕ) → AreRising a (a + n) xs → filter (λ k. is_among xs k) (range_with_len a n) ≡ xs
rising_filter a zero [] up = refl
rising_filter a zero (x ∷ xs) up = absurd (omega (arith, up.0, up.1))
rising_filter a (suc n) [] up = rising_filter (a + 1) n [] tt
rising_filter a (suc n) (x ∷ xs) up =
    elim (cases_eq x a) [
      | inl here ↦ at_first a n x xs here (λ behind. rising_filter (a + 1) n xs behind) up
      | inr other ↦
          let later : AreRising (a + 1) ((a + 1) + n) (x ∷ xs) =
          (omega (arith, up.0, other), omega (arith, up.1), moved (suc x) (a + suc n) ((a + 1) + n) xs (omega arith) up.2) in
          cond-false (is_among (x ∷ xs) a) (a ∷ filter (λ k. is_among (x ∷ xs) k) (range_with_len (a + 1) n)) (filter (λ k. is_among (x ∷ xs) k) (range_with_len (a + 1) n))
          (rising_apart (a + 1) ((a + 1) + n) (x ∷ xs) a later (omega arith))
          ∙ rising_filter (a + 1) n (x ∷ xs) later
    ]

-- one number fewer
pub among_remove : (a b : ℕ) (xs : List ℕ) (i n k : ℕ) → AreRising a b xs → i < length xs → get_or xs i 0 ≡ n
    → is_among (remove xs i) k ≡ (is_among xs k && not (k == n))
among_remove a b [] i n k up inside is = absurd (omega arith)
among_remove a b (x ∷ xs) zero n k up inside is =
    elim (cases_eq k n) [
      | inl same ↦ rising_apart (suc x) b xs k up.2 (omega (arith, same, is))
          ∙ sym (ap (λ c. ((x == k) || is_among xs k) && not c) (eq-eqb k n same) ∙ and_false ((x == k) || is_among xs k))
      | inr other ↦ sym (ap (λ c. ((x == k) || is_among xs k) && not c) (ne_eqb k n other) ∙ (and_true ((x == k) || is_among xs k)
          ∙ ap (λ c. c || is_among xs k) (ne_eqb x k (λ same. other (sym same ∙ is)))))
    ]
among_remove a b (x ∷ xs) (suc i) n k up inside is =
    ap (λ c. (x == k) || c) (among_remove (suc x) b xs i n k up.2 (omega arith) is)
    ∙ first_stays (x == k) (is_among xs k) (k == n)
    (λ same there. absurd (omega (arith, eqb-true x k same, eqb-true k n there, is, rising_from (suc x) b xs up.2 i (omega arith))))

-- ---- the others are known

pub known_is : (count : ℕ) (xs : List ℕ) (n : ℕ)
    → set.contains (known_beside count xs) n ≡ (is_among (range_with_len 0 count) n && not (is_among xs n))
known_is count xs n =
    set.contains-from_list_nat (filter (λ k. not (is_among xs k)) (range_with_len 0 count)) n
    ∙ among_filter (λ k. not (is_among xs k)) (range_with_len 0 count) n

-- of a number below the count
known_below : (count : ℕ) (xs : List ℕ) (n : ℕ) → n < count → set.contains (known_beside count xs) n ≡ not (is_among xs n)
known_below count xs n below =
    known_is count xs n ∙ ap (λ b. b && not (is_among xs n)) (among_range 0 count n (omega arith) (omega arith))

-- what isn't known is what the sender keeps
pub unknown_are : (items : List (List ℕ)) (xs : List ℕ) → AreRising 0 (length items) xs
    → unknown items (known_beside (length items) xs) ≡ xs
unknown_are items xs up =
    filter_same (λ n. not (set.contains (known_beside (length items) xs) n)) (λ n. is_among xs n) (range_with_len 0 (length items))
    (All-weaker (λ n. n < length items) (λ n. not (set.contains (known_beside (length items) xs) n) ≡ is_among xs n)
    (λ n below. ap not (known_below (length items) xs n below) ∙ not_not (is_among xs n)) (range_with_len 0 (length items)) (range_below (length items)))
    ∙ rising_filter 0 (length items) xs (moved 0 (length items) (0 + length items) xs (omega arith) up)

-- one more item isn't known
pub known_given : (count : ℕ) (xs : List ℕ) → known_beside (count + 1) (xs ++ count ∷ []) ≡ known_beside count xs
known_given count xs =
    let p : ℕ → Bool = λ k. not (is_among (xs ++ count ∷ []) k) in
    let q : ℕ → Bool = λ k. not (is_among xs k) in
    let one : count + 1 ≡ suc count = omega arith in
    let more : range_with_len 0 (count + 1) ≡ range_with_len 0 count ++ count ∷ [] =
    ap (range_with_len 0) one ∙ (range_pushed 0 count ∙ ap (λ (k : ℕ). range_with_len 0 count ++ k ∷ []) (zero_plus count)) in
    let last : filter p (count ∷ []) ≡ [] =
    cond-false (p count) (count ∷ []) [] (not_from_true (is_among (xs ++ count ∷ []) count) (among_pushed xs count)) in
    let front : filter p (range_with_len 0 count) ≡ filter q (range_with_len 0 count) =
    filter_same p q (range_with_len 0 count)
    (All-weaker (λ k. k < count) (λ k. p k ≡ q k)
    (λ k below. ap not (among_push xs count k ∙ (ap (λ b. is_among xs k || b) (ne_eqb count k (λ same. absurd (omega (arith, same, below)))) ∙ or_false (is_among xs k)))) (range_with_len 0 count) (range_below count)) in
    ap (λ (ks : List ℕ). set.from_list {R = nat_cmp} ks)
    (ap (λ (ks : List ℕ). filter p ks) more ∙ (filter-append p (range_with_len 0 count) (count ∷ [])
    ∙ (ap (λ (ks : List ℕ). filter p (range_with_len 0 count) ++ ks) last ∙ (append-nil (filter p (range_with_len 0 count)) ∙ front))))

-- one number is known from now on
pub known_removed : (count : ℕ) (xs : List ℕ) (i n : ℕ) → AreRising 0 count xs → i < length xs → get_or xs i 0 ≡ n → n < count
    → known_beside count (remove xs i) ≡ set.insert (known_beside count xs) n
known_removed count xs i n up inside is below =
    set.same_set nat_cmp_total set.nat_cmp-IsAntisymmetric (known_beside count (remove xs i)) (set.insert (known_beside count xs) n)
    (λ k. known_is count (remove xs i) k
    ∙ (ap (λ b. is_among (range_with_len 0 count) k && not b) (among_remove 0 count xs i n k up inside is)
    ∙ (one_more (is_among (range_with_len 0 count) k) (is_among xs k) (k == n)
    (λ same. among_range 0 count k (omega arith) (omega (arith, eqb-true k n same)))
    ∙ (ap (λ b. (k == n) || b) (sym (known_is count xs k)) ∙ sym (known_insert (known_beside count xs) n k)))))

-- a number that was known
pub known_again : (count : ℕ) (xs : List ℕ) (n : ℕ) → is_among xs n ≡ false → n < count
    → (set.contains (known_beside count xs) n ≡ true) × (set.insert (known_beside count xs) n ≡ known_beside count xs)
known_again count xs n fails below =
    let here : set.contains (known_beside count xs) n ≡ true = known_below count xs n below ∙ ap not fails in (
      here,
      set.same_set nat_cmp_total set.nat_cmp-IsAntisymmetric (set.insert (known_beside count xs) n) (known_beside count xs)
          (λ k. known_insert (known_beside count xs) n k ∙ stays (k == n) (set.contains (known_beside count xs) k)
          (λ same. ap (λ (m : ℕ). set.contains (known_beside count xs) m) (eqb-true k n same) ∙ here)),
    )

-- a number that wasn't
pub known_first : (count : ℕ) (xs : List ℕ) (i n : ℕ) → i < length xs → get_or xs i 0 ≡ n → n < count
    → set.contains (known_beside count xs) n ≡ false
known_first count xs i n inside is below = known_below count xs n below ∙ ap not (among_at xs i n inside is)
