-- The numbers that stand on a way, and how one of them is found.
use Rattle.std.proofs.Common.{◌≡◌, ◌≢◌, ◌<◌, ◌≤◌, ◌+◌, ℕ, zero, suc, Bool, true, false, not, cond, List, [], ◌∷◌, ◌++◌, length, get_or, refl, sym, ap, ◌∙◌, subst, inl, inr, Some, None, arith, true≢false}
use Rattle.std.specs.Prelude.{◌==◌, Ok, Err, nat_lt, slice_get}
use Rattle.std.specs.List.{AllPairs, filter, position, position_or_len, range_with_len}
use Rattle.std.specs.List.Sorted.{IsBinarySearchResult}
use Rattle.std.specs.Ordering.{nat_cmp}
use Rattle.std.proofs.lemmas.Bool.{cases_lt, cond-false, cond-true, eq-eqb, lt-ltb, ne_eqb}
use Rattle.std.proofs.lemmas.List.Elements.{filter-append}
use Rattle.std.proofs.lemmas.List.Sorted.{searched}
use Rattle.std.proofs.lemmas.Option.{slice_get-get_or, slice_get_within}
use Rattle.lossy_link.specs.Link.{is_among}
use Rattle.lossy_link.specs.Unknown.{AreRising}
use Rattle.lossy_replay.specs.Linked.{without}
use Rattle.lossy_replay.proofs.Apart.{AreApart, among_there}
use Rattle.lemmas.proofs.Lists.{range_pushed}
use Rattle.lossy_link.proofs.Among.{not_among}
use Rattle.lossy_link.proofs.Counted.{kept_rises}
use Rattle.lossy_link.proofs.KnownNumbers.{rising_apart as not_below, rising_from, rising_short}

-- ---- rising numbers

rising_order : (a b : ℕ) (xs : List ℕ) → AreRising a b xs → (i j : ℕ) → i ≤ j → j < length xs → get_or xs i 0 ≤ get_or xs j 0
rising_order a b [] up i j before inside = absurd (omega arith)
rising_order a b (x ∷ xs) up zero zero before inside = omega arith
rising_order a b (x ∷ xs) up zero (suc j) before inside = omega (arith, rising_from (suc x) b xs up.2 j (omega arith))
rising_order a b (x ∷ xs) up (suc i) zero before inside = absurd (omega arith)
rising_order a b (x ∷ xs) up (suc i) (suc j) before inside = rising_order (suc x) b xs up.2 i j (omega arith) (omega arith)

rising_apart : (a b : ℕ) (xs : List ℕ) → AreRising a b xs → AreApart xs
rising_apart a b [] up = tt
rising_apart a b (x ∷ xs) up = (not_below (suc x) b xs x up.2 (omega arith), rising_apart (suc x) b xs up.2)

all_kept : (a n : ℕ) → filter (λ k. true) (range_with_len a n) ≡ range_with_len a n
all_kept a zero = refl
all_kept a (suc n) = ap (λ (ks : List ℕ). a ∷ ks) (all_kept (a + 1) n)

pub range_apart : (a n : ℕ) → AreApart (range_with_len a n)
range_apart a n = rising_apart a (a + n) (range_with_len a n) (subst (AreRising a (a + n)) (all_kept a n) (kept_rises (λ k. true) a n))

pub pairs_apart : (xs : List ℕ) → AllPairs (λ m n. m ≢ n) xs → AreApart xs
pairs_apart [] all = tt
pairs_apart (x ∷ xs) all = (
  not_among xs x (λ k inside same. all 0 (suc k) 0 (omega arith) (omega arith) (sym same)),
  pairs_apart xs (λ i j d before inside. all (suc i) (suc j) d (omega arith) (omega arith)),
)

-- ---- ranges

pub one_stands : (gone : List ℕ) (n : ℕ) → is_among gone n ≡ false
    → without gone (range_with_len 0 (suc n)) ≡ without gone (range_with_len 0 n) ++ n ∷ []
one_stands gone n fails =
    let p : ℕ → Bool = λ k. not (is_among gone k) in
    let zero_plus : 0 + n ≡ n = omega arith in
    let last : filter p (n ∷ []) ≡ n ∷ [] = cond-true (p n) (n ∷ []) [] (ap not fails) in
    ap (filter p) (range_pushed 0 n ∙ ap (λ (k : ℕ). range_with_len 0 n ++ k ∷ []) zero_plus)
    ∙ (filter-append p (range_with_len 0 n) (n ∷ []) ∙ ap (λ (ks : List ℕ). filter p (range_with_len 0 n) ++ ks) last)

-- ---- places

place_or_len : (xs : List ℕ) (j n : ℕ) → AreApart xs → slice_get xs j ≡ Some n → position_or_len (λ m. m == n) xs ≡ j
place_or_len [] j n apart is = absurd cc
place_or_len (x ∷ xs) zero n apart is =
    let same : x ≡ n = cc in cond-false (not (x == n)) (1 + position_or_len (λ m. m == n) xs) 0 (ap not (eq-eqb x n same))
place_or_len (x ∷ xs) (suc j) n apart is =
    let other : (x == n) ≡ false = ne_eqb x n (λ same. true≢false (sym (among_there xs j n is) ∙ (ap (is_among xs) (sym same) ∙ apart.0))) in
    let behind : 1 + j ≡ suc j = omega arith in
    cond-true (not (x == n)) (1 + position_or_len (λ m. m == n) xs) 0 (ap not other) ∙ (ap (λ (k : ℕ). 1 + k) (place_or_len xs j n apart.1 is) ∙ behind)

pub placed : (xs : List ℕ) (j n : ℕ) → AreApart xs → slice_get xs j ≡ Some n → position (λ m. m == n) xs ≡ Some j
placed xs j n apart is =
    ap (λ (k : ℕ). cond (nat_lt k (length xs)) (Some k) None) (place_or_len xs j n apart is)
    ∙ cond-true (nat_lt j (length xs)) (Some j) None (lt-ltb j (length xs) (slice_get_within xs j n is))

-- a number that stands there is found by halves
pub record IsFoundAt (xs : List ℕ) (n place : ℕ) : Type 0 where
  pub there : slice_get xs place ≡ Some n
  pub position_is : position (λ m. m == n) xs ≡ Some place

pub found_standing : (gone : List ℕ) (count n : ℕ) (place : ℕ)
    → IsBinarySearchResult (λ y. nat_cmp y n) (without gone (range_with_len 0 count)) (Ok place)
    → IsFoundAt (without gone (range_with_len 0 count)) n place
found_standing gone count n place search =
    let p : ℕ → Bool = λ k. not (is_among gone k) in
    let xs = filter p (range_with_len 0 count) in
    let up = kept_rises p 0 count in
    let at = searched xs n (Ok place) search (rising_order 0 (0 + count) xs up) in
    let there : slice_get xs place ≡ Some n = slice_get-get_or xs place 0 at.0 ∙ ap (λ (k : ℕ). Some k) at.1 in
    record { there = there; position_is = placed xs place n (rising_apart 0 (0 + count) xs up) there }

pub missing_standing : (gone : List ℕ) (count n : ℕ) (place : ℕ)
    → IsBinarySearchResult (λ y. nat_cmp y n) (without gone (range_with_len 0 count)) (Err place)
    → is_among (without gone (range_with_len 0 count)) n ≡ false
missing_standing gone count n place search =
    let p : ℕ → Bool = λ k. not (is_among gone k) in
    let xs = filter p (range_with_len 0 count) in
    let at = searched xs n (Err place) search (rising_order 0 (0 + count) xs (kept_rises p 0 count)) in
    not_among xs n (λ k inside same. elim (cases_lt k place) [
      | inl before ↦ absurd (omega (arith, same, at.1 k before))
      | inr behind ↦ absurd (omega (arith, same, at.2 k behind inside))
    ])

pub few_standing : (gone : List ℕ) (count : ℕ) → length (without gone (range_with_len 0 count)) ≤ count
few_standing gone count =
    let p : ℕ → Bool = λ k. not (is_among gone k) in
    let short = rising_short 0 (0 + count) (filter p (range_with_len 0 count)) (kept_rises p 0 count) (omega arith) in
    omega (arith, short)
