-- Counts by halves, and what is set of a list of marks.
use Rattle.std.proofs.Common.{◌≡◌, ◌<◌, ◌≤◌, ◌+◌, ◌-◌, ◌/◌, ℕ, zero, suc, Bool, true, false, List, [], ◌∷◌, ◌++◌, length, get_or, set, remove, refl, sym, ap, ◌∙◌, subst, inl, inr, Some, None, arith}
use Rattle.std.specs.Prelude.{◌==◌, slice_get}
use Rattle.std.proofs.lemmas.Bool.{cases_lt, ne_eqb, or_from}
use Rattle.std.proofs.lemmas.Option.{slice_get_past, slice_get_within}
use Rattle.std.proofs.lemmas.List.{get_or-set_other, get_or-set_same, get_or_append_left, get_or_push, length-set, length_push}
use Rattle.lossy_link.specs.Link.{is_among}
use Rattle.lossy_link.specs.Marks.{AreCounts, AreLowered, IsCountBehind, IsCounted, IsFound, IsOneLess, IsOneMore, numbers_set, set_below, span_of}
use Rattle.lossy_link.specs.Unknown.{AreRising}
use Rattle.lossy_link.proofs.KnownNumbers.{rising_apart, rising_lower}

-- ---- spans

pub span_some : (k : ℕ) → 1 ≤ span_of k
unfolding span_of
span_some zero = omega arith
span_some (suc k) = omega (arith, span_some k)

-- counts that stay, where as many are set beyond the start as were
pub moved : (k start d : ℕ) (below after : ℕ → ℕ) (cs ds : List ℕ)
    → ((p : ℕ) → start < p → p < start + span_of k → p ≤ length ds → (p ≤ length cs) × (get_or ds (p - 1) 0 ≡ get_or cs (p - 1) 0))
    → ((n : ℕ) → start ≤ n → n < start + span_of k → n ≤ length ds → below n ≡ after n + d)
    → AreCounts below cs start k → AreCounts after ds start k
unfolding AreCounts span_of
moved zero start d below after cs ds counts numbers tree = tt
moved (suc k) start d below after cs ds counts numbers tree =
    let some = span_some k in (
      λ inside. let at = counts (start + span_of k) (omega (arith, some)) (omega (arith, some)) inside in
          omega (arith, at.1, tree.0 at.0, numbers start (omega arith) (omega (arith, some)) (omega (arith, inside)), numbers (start + span_of k) (omega arith) (omega (arith, some)) inside),
      moved k start d below after cs ds (λ p from to inside. counts p from (omega (arith, to)) inside) (λ n from to inside. numbers n from (omega (arith, to)) inside) tree.1,
      moved k (start + span_of k) d below after cs ds (λ p from to inside. counts p (omega (arith, from)) (omega (arith, to)) inside) (λ n from to inside. numbers n (omega (arith, from)) (omega (arith, to)) inside) tree.2,
    )

-- where no counts are
pub beyond : (k start : ℕ) (after : ℕ → ℕ) (ds : List ℕ) → length ds ≤ start → AreCounts after ds start k
unfolding AreCounts span_of
beyond zero start after ds none = tt
beyond (suc k) start after ds none = (
  λ inside. absurd (omega (arith, inside, none, span_some k)),
  beyond k start after ds none,
  beyond k (start + span_of k) after ds (omega (arith, none)),
)

-- ---- the number of a place

pub found_left : (counts : List ℕ) (start span j number : ℕ) → 1 < span
    → (start + span / 2 ≤ length counts → j < get_or counts (start + span / 2 - 1) 0)
    → IsFound counts start (span / 2) j number → IsFound counts start span j number
unfolding AreCounts span_of
found_left counts start span j number big less rest zero below is stays few tree = absurd (omega (arith, is, big))
found_left counts start span j number big less rest (suc k) below is stays few tree =
    let half : span / 2 ≡ span_of k = omega (arith, is) in
    let count : get_or counts (start + span_of k - 1) 0 ≡ get_or counts (start + span / 2 - 1) 0 = ap (λ m. get_or counts (start + m - 1) 0) (sym half) in
    let middle : below (start + span_of k) ≡ below (start + span / 2) = ap (λ m. below (start + m)) (sym half) in
    rest k below half stays (elim (cases_lt (length counts) (start + span / 2)) [
      | inr inside ↦ omega (arith, less inside, tree.0 (omega (arith, half, inside)), count, middle)
      | inl beyond ↦ omega (arith, few, stays (start + span / 2) (omega (arith, beyond)), stays (start + span) (omega (arith, beyond, is, half)))
    ]) tree.1

pub found_right : (counts : List ℕ) (start span j number : ℕ) → 1 < span
    → start + span / 2 ≤ length counts → get_or counts (start + span / 2 - 1) 0 ≤ j
    → IsFound counts (start + span / 2) (span / 2) (j - get_or counts (start + span / 2 - 1) 0) number → IsFound counts start span j number
unfolding AreCounts span_of
found_right counts start span j number big inside more rest zero below is stays few tree = absurd (omega (arith, is, big))
found_right counts start span j number big inside more rest (suc k) below is stays few tree =
    let half : span / 2 ≡ span_of k = omega (arith, is) in
    let count : get_or counts (start + span_of k - 1) 0 ≡ get_or counts (start + span / 2 - 1) 0 = ap (λ m. get_or counts (start + m - 1) 0) (sym half) in
    let middle : below (start + span_of k) ≡ below (start + span / 2) = ap (λ m. below (start + m)) (sym half) in
    let whole : start + span / 2 + span / 2 ≡ start + span = omega (arith, is, half) in
    let end : below (start + span / 2 + span / 2) ≡ below (start + span) = ap below whole in
    let here = tree.0 (omega (arith, half, inside)) in
    let behind : AreCounts below counts (start + span / 2) k = subst (λ m. AreCounts below counts (start + m) k) (sym half) tree.2 in
    let at = rest k below half stays (omega (arith, few, here, count, middle, end, more)) behind in
    (omega (arith, at.0, here, count, middle, more), omega (arith, at.1, here, count, middle, more))

-- ---- one number fewer

pub lowered_none : (counts : List ℕ) (start span number : ℕ) → span ≤ 1 → AreLowered counts counts start span number
unfolding AreCounts span_of
lowered_none counts start span number small zero below after is less from to tree = tt
lowered_none counts start span number small (suc k) below after is less from to tree =
    absurd (omega (arith, is, small, span_some k))

-- the number is in the second half
pub lowered_right : (counts lowered : List ℕ) (start span number : ℕ) → 1 < span → start + span / 2 ≤ number
    → length lowered ≡ length counts
    → ((i : ℕ) → i < start + span / 2 → get_or lowered i 0 ≡ get_or counts i 0)
    → AreLowered counts lowered (start + span / 2) (span / 2) number → AreLowered counts lowered start span number
unfolding AreCounts span_of
lowered_right counts lowered start span number big far long stay rest zero below after is less from to tree = absurd (omega (arith, is, big))
lowered_right counts lowered start span number big far long stay rest (suc k) below after is less from to tree =
    let half : span / 2 ≡ span_of k = omega (arith, is) in
    let some = span_some k in
    let moved_on = λ (m : ℕ) (same : span / 2 ≡ m). subst (λ (m : ℕ). AreCounts below counts (start + m) k → AreCounts after lowered (start + m) k) same (λ t. rest k below after half less far (omega (arith, to, is, half)) t) in (
      λ inside. omega (arith, tree.0 (omega (arith, inside, long)), stay (start + span_of k - 1) (omega (arith, half, some)), less.same start from, less.same (start + span_of k) (omega (arith, half, far))),
      moved k start 0 below after counts lowered (λ p after_start before inside. (omega (arith, inside, long), stay (p - 1) (omega (arith, before, half))))
          (λ n after_start before inside. omega (arith, less.same n (omega (arith, before, half, far)))) tree.1,
      moved_on (span_of k) half tree.2,
    )

-- it is in the first half, whose count isn't there yet
pub lowered_short : (counts lowered : List ℕ) (start span number : ℕ) → 1 < span → number < start + span / 2
    → length counts < start + span / 2
    → length lowered ≡ length counts
    → AreLowered counts lowered start (span / 2) number → AreLowered counts lowered start span number
unfolding AreCounts span_of
lowered_short counts lowered start span number big within short long rest zero below after is less from to tree = absurd (omega (arith, is, big))
lowered_short counts lowered start span number big within short long rest (suc k) below after is less from to tree =
    let half : span / 2 ≡ span_of k = omega (arith, is) in (
      λ inside. absurd (omega (arith, inside, long, short, half)),
      rest k below after half less from within tree.1,
      beyond k (start + span_of k) after lowered (omega (arith, long, short, half)),
    )

-- and whose count is one less
pub lowered_left : (counts lowered : List ℕ) (start span number less_one : ℕ) → 1 < span → number < start + span / 2
    → start + span / 2 ≤ length counts
    → less_one ≡ get_or counts (start + span / 2 - 1) 0 - 1
    → length lowered ≡ length (set counts (start + span / 2 - 1) less_one)
    → ((i : ℕ) → start + span / 2 ≤ suc i → get_or lowered i 0 ≡ get_or (set counts (start + span / 2 - 1) less_one) i 0)
    → AreLowered (set counts (start + span / 2 - 1) less_one) lowered start (span / 2) number
    → AreLowered counts lowered start span number
unfolding AreCounts span_of
lowered_left counts lowered start span number less_one big within inside one long_set stay rest zero below after is less from to tree = absurd (omega (arith, is, big))
lowered_left counts lowered start span number less_one big within inside one long_set stay rest (suc k) below after is less from to tree =
    let half : span / 2 ≡ span_of k = omega (arith, is) in
    let some = span_some k in
    let at = start + span / 2 - 1 in
    let c = get_or counts at 0 in
    let counts_on = set counts at less_one in
    let place : start + span_of k - 1 ≡ at = omega (arith, half) in
    let long_on : length counts_on ≡ length counts = length-set counts at less_one in
    let long : length lowered ≡ length counts = long_set ∙ long_on in
    let written : get_or lowered (start + span_of k - 1) 0 ≡ less_one =
    ap (λ i. get_or lowered i 0) place ∙ (stay at (omega (arith, half, some)) ∙ get_or-set_same counts at less_one 0 (omega (arith, inside, half, some))) in
    let was : get_or counts (start + span_of k - 1) 0 ≡ c = ap (λ i. get_or counts i 0) place in
    let front : AreCounts below counts_on start k =
    moved k start 0 below below counts counts_on (λ p from_start before inner. (omega (arith, inner, long_on), get_or-set_other counts at (p - 1) less_one 0 (λ same. absurd (omega (arith, same, before, from_start, half)))))
    (λ n from_start before inner. omega arith) tree.1 in (
      λ inner. omega (arith, written, was, one, tree.0 (omega (arith, inside, half)), less.same start from, less.less (start + span_of k) (omega (arith, half, within)), less.rises start (start + span_of k) (omega arith)),
      rest k below after half less from within front,
      moved k (start + span_of k) 1 below after counts lowered
          (λ p from_start before inner. (omega (arith, inner, long), stay (p - 1) (omega (arith, from_start, half)) ∙ get_or-set_other counts at (p - 1) less_one 0 (λ same. absurd (omega (arith, same, from_start, half, some)))))
          (λ n from_start before inner. omega (arith, less.less n (omega (arith, from_start, half, within)))) tree.2,
    )

-- ---- one number more

pub none_behind : (counts : List ℕ) (start span left : ℕ) → span ≤ 1 → IsCountBehind counts start span left (suc left)
unfolding AreCounts span_of
none_behind counts start span left small zero below after is more from to all tree = tt
none_behind counts start span left small (suc k) below after is more from to all tree =
    absurd (omega (arith, is, small, span_some k))

-- nothing counted is beyond the middle
pub behind_left : (counts : List ℕ) (start span left count : ℕ) → 1 < span → suc (length counts) < start + span / 2
    → IsCountBehind counts start (span / 2) left count → IsCountBehind counts start span left count
unfolding AreCounts span_of
behind_left counts start span left count big far rest zero below after is more from to all tree = absurd (omega (arith, is, big))
behind_left counts start span left count big far rest (suc k) below after is more from to all tree =
    let half : span / 2 ≡ span_of k = omega (arith, is) in
    let long = length_push counts count in (
      λ inside. absurd (omega (arith, inside, long, far, half)),
      rest k below after half more from far all tree.1,
      beyond k (start + span_of k) after (counts ++ count ∷ []) (omega (arith, long, far, half)),
    )

-- the count stands at the middle
pub behind_here : (counts : List ℕ) (start span left : ℕ) → 1 < span → start + span / 2 ≡ suc (length counts)
    → IsCountBehind counts start span left (suc left)
unfolding AreCounts span_of
behind_here counts start span left big here zero below after is more from to all tree = absurd (omega (arith, is, big))
behind_here counts start span left big here (suc k) below after is more from to all tree =
    let half : span / 2 ≡ span_of k = omega (arith, is) in
    let long = length_push counts (suc left) in
    let some = span_some k in
    let middle : start + span_of k ≡ suc (length counts) = omega (arith, half, here) in
    let place : start + span_of k - 1 ≡ length counts = omega (arith, middle) in
    let written : get_or (counts ++ suc left ∷ []) (start + span_of k - 1) 0 ≡ suc left =
    ap (λ i. get_or (counts ++ suc left ∷ []) i 0) place ∙ get_or_push counts (suc left) 0 (length counts) refl in (
      λ inside. omega (arith, written, all, more.same start from, more.more, ap after middle),
      moved k start 0 below after counts (counts ++ suc left ∷ [])
          (λ p from_start before inside. (omega (arith, before, middle), get_or_append_left counts (suc left ∷ []) 0 (p - 1) (omega (arith, before, middle, from_start))))
          (λ n from_start before inside. omega (arith, more.same n (omega (arith, before, middle)))) tree.1,
      beyond k (start + span_of k) after (counts ++ suc left ∷ []) (omega (arith, long, middle)),
    )

-- what is counted reaches the middle
pub behind_right : (counts : List ℕ) (start span left count : ℕ) → 1 < span → start + span / 2 ≤ length counts
    → IsCountBehind counts (start + span / 2) (span / 2) (left - get_or counts (start + span / 2 - 1) 0) count
    → IsCountBehind counts start span left count
unfolding AreCounts span_of
behind_right counts start span left count big within rest zero below after is more from to all tree = absurd (omega (arith, is, big))
behind_right counts start span left count big within rest (suc k) below after is more from to all tree =
    let half : span / 2 ≡ span_of k = omega (arith, is) in
    let some = span_some k in
    let c = get_or counts (start + span / 2 - 1) 0 in
    let was : get_or counts (start + span_of k - 1) 0 ≡ c = ap (λ m. get_or counts (start + m - 1) 0) (sym half) in
    let middle : below (start + span_of k) ≡ below (start + span / 2) = ap (λ m. below (start + m)) (sym half) in
    let here = tree.0 (omega (arith, half, within)) in
    let left_all : left - c + below (start + span / 2) ≡ below (length counts) =
    omega (arith, all, here, was, middle, more.rises (start + span / 2) (length counts) within) in
    let whole : suc (length counts) < start + span / 2 + span / 2 = omega (arith, to, is, half) in
    let stays : (i : ℕ) → i < length counts → get_or (counts ++ count ∷ []) i 0 ≡ get_or counts i 0 =
    λ i inside. get_or_append_left counts (count ∷ []) 0 i inside in
    let behind = λ (m : ℕ) (same : span / 2 ≡ m). subst (λ (m : ℕ). AreCounts below counts (start + m) k → AreCounts after (counts ++ count ∷ []) (start + m) k) same (λ t. rest k below after half more within whole left_all t) in (
      λ inside. omega (arith, here, stays (start + span_of k - 1) (omega (arith, within, half, some)), more.same start from, more.same (start + span_of k) (omega (arith, half, within))),
      moved k start 0 below after counts (counts ++ count ∷ [])
          (λ p from_start before inside. (omega (arith, before, half, within), stays (p - 1) (omega (arith, before, half, within, from_start))))
          (λ n from_start before inside. omega (arith, more.same n (omega (arith, before, half, within)))) tree.1,
      behind (span_of k) half tree.2,
    )

-- ---- marks

pub set_none : (marks : List Bool) → set_below marks 0 ≡ 0
unfolding set_below
set_none [] = refl
set_none (mark ∷ marks) = refl

-- no more than the numbers
pub set_few : (marks : List Bool) (n : ℕ) → set_below marks n ≤ n
unfolding set_below
set_few [] n = omega arith
set_few (mark ∷ marks) zero = omega arith
set_few (true ∷ marks) (suc n) = omega (arith, set_few marks n)
set_few (false ∷ marks) (suc n) = omega (arith, set_few marks n)

-- the more the numbers are, the more are set
pub set_rises : (marks : List Bool) (m n : ℕ) → m ≤ n → set_below marks m ≤ set_below marks n
unfolding set_below
set_rises [] m n le = omega arith
set_rises (mark ∷ marks) zero n le = omega arith
set_rises (mark ∷ marks) (suc m) zero le = absurd (omega arith)
set_rises (true ∷ marks) (suc m) (suc n) le = omega (arith, set_rises marks m n (omega arith))
set_rises (false ∷ marks) (suc m) (suc n) le = set_rises marks m n (omega arith)

-- none are set beyond them
pub set_beyond : (marks : List Bool) (n : ℕ) → length marks ≤ n → set_below marks n ≡ set_below marks (length marks)
unfolding set_below
set_beyond [] n le = refl
set_beyond (mark ∷ marks) zero le = absurd (omega arith)
set_beyond (true ∷ marks) (suc n) le = ap suc (set_beyond marks n (omega arith))
set_beyond (false ∷ marks) (suc n) le = set_beyond marks n (omega arith)

push_same : (marks : List Bool) (n : ℕ) → n ≤ length marks → set_below marks n ≡ set_below (marks ++ true ∷ []) n
unfolding set_below
push_same [] zero le = refl
push_same [] (suc n) le = absurd (omega arith)
push_same (mark ∷ marks) zero le = refl
push_same (true ∷ marks) (suc n) le = ap suc (push_same marks n (omega arith))
push_same (false ∷ marks) (suc n) le = push_same marks n (omega arith)

push_more : (marks : List Bool) → set_below (marks ++ true ∷ []) (suc (length marks)) ≡ suc (set_below marks (length marks))
unfolding set_below
push_more [] = refl
push_more (true ∷ marks) = ap suc (push_more marks)
push_more (false ∷ marks) = push_more marks

-- one number more is set, behind the others
pub set_pushed : (marks : List Bool) → IsOneMore (length marks) (set_below marks) (set_below (marks ++ true ∷ []))
set_pushed marks = record {
  same = push_same marks;
  more = push_more marks;
  rises = set_rises marks;
}

clear_same : (marks : List Bool) (n m : ℕ) → m ≤ n → set_below marks m ≡ set_below (set marks n false) m
unfolding set_below
clear_same [] n m le = refl
clear_same (mark ∷ marks) zero zero le = refl
clear_same (mark ∷ marks) zero (suc m) le = absurd (omega arith)
clear_same (mark ∷ marks) (suc n) zero le = refl
clear_same (true ∷ marks) (suc n) (suc m) le = ap suc (clear_same marks n m (omega arith))
clear_same (false ∷ marks) (suc n) (suc m) le = clear_same marks n m (omega arith)

clear_less : (marks : List Bool) (n m : ℕ) → slice_get marks n ≡ Some true → suc n ≤ m
    → set_below marks m ≡ suc (set_below (set marks n false) m)
unfolding set_below
clear_less [] n m is lt = absurd cc
clear_less (mark ∷ marks) n zero is lt = absurd (omega arith)
clear_less (true ∷ marks) zero (suc m) is lt = refl
clear_less (false ∷ marks) zero (suc m) is lt = absurd cc
clear_less (true ∷ marks) (suc n) (suc m) is lt = ap suc (clear_less marks n m is (omega arith))
clear_less (false ∷ marks) (suc n) (suc m) is lt = clear_less marks n m is (omega arith)

-- one number is set no more
pub set_cleared : (marks : List Bool) (n : ℕ) → slice_get marks n ≡ Some true
    → IsOneLess n (set_below marks) (set_below (set marks n false))
set_cleared marks n is = record {
  same = λ m le. clear_same marks n m le;
  less = λ m lt. clear_less marks n m is lt;
  rises = set_rises (set marks n false);
}

-- ---- the numbers that are set

-- as many as are set
pub numbers_long : (first : ℕ) (marks : List Bool) → length (numbers_set first marks) ≡ set_below marks (length marks)
unfolding set_below numbers_set
numbers_long first [] = refl
numbers_long first (true ∷ marks) = ap suc (numbers_long (first + 1) marks)
numbers_long first (false ∷ marks) = numbers_long (first + 1) marks

-- they rise
pub numbers_rise : (first to : ℕ) (marks : List Bool) → first + length marks ≤ to → AreRising first to (numbers_set first marks)
unfolding numbers_set
numbers_rise first to [] le = tt
numbers_rise first to (true ∷ marks) le =
    (omega arith, omega (arith, le), subst (λ k. AreRising k to (numbers_set (first + 1) marks)) (omega arith) (numbers_rise (first + 1) to marks (omega (arith, le))))
numbers_rise first to (false ∷ marks) le =
    rising_lower (first + 1) first to (numbers_set (first + 1) marks) (omega arith) (numbers_rise (first + 1) to marks (omega (arith, le)))

-- one more is the last
pub numbers_pushed : (first : ℕ) (marks : List Bool)
    → numbers_set first (marks ++ true ∷ []) ≡ numbers_set first marks ++ (first + length marks) ∷ []
unfolding numbers_set
numbers_pushed first [] = ap (λ (k : ℕ). k ∷ []) (omega arith)
numbers_pushed first (true ∷ marks) =
    let last : first + 1 + length marks ≡ first + suc (length marks) = omega arith in
    ap (λ (ks : List ℕ). first ∷ ks) (numbers_pushed (first + 1) marks ∙ ap (λ (k : ℕ). numbers_set (first + 1) marks ++ k ∷ []) last)
numbers_pushed first (false ∷ marks) =
    let last : first + 1 + length marks ≡ first + suc (length marks) = omega arith in
    numbers_pushed (first + 1) marks ∙ ap (λ (k : ℕ). numbers_set (first + 1) marks ++ k ∷ []) last

-- a number that is set, at the place of as many as are set before it
pub numbers_at : (first : ℕ) (marks : List Bool) (n : ℕ) → slice_get marks n ≡ Some true
    → slice_get (numbers_set first marks) (set_below marks n) ≡ Some (first + n)
unfolding set_below numbers_set
numbers_at first (true ∷ marks) zero is = ap (λ (k : ℕ). Some k) (omega arith)
numbers_at first (true ∷ marks) (suc n) is = numbers_at (first + 1) marks n is ∙ ap (λ (k : ℕ). Some k) (omega arith)
numbers_at first (false ∷ marks) (suc n) is = numbers_at (first + 1) marks n is ∙ ap (λ (k : ℕ). Some k) (omega arith)
numbers_at first _ n is = absurd cc

-- without it
pub numbers_cleared : (first : ℕ) (marks : List Bool) (n : ℕ) → slice_get marks n ≡ Some true
    → numbers_set first (set marks n false) ≡ remove (numbers_set first marks) (set_below marks n)
unfolding set_below numbers_set
numbers_cleared first (true ∷ marks) zero is = refl
numbers_cleared first (true ∷ marks) (suc n) is = ap (λ (ks : List ℕ). first ∷ ks) (numbers_cleared (first + 1) marks n is)
numbers_cleared first (false ∷ marks) (suc n) is = numbers_cleared (first + 1) marks n is
numbers_cleared first _ n is = absurd cc

-- one that isn't set is none of them
pub numbers_apart : (first : ℕ) (marks : List Bool) (n : ℕ) → slice_get marks n ≡ Some false
    → is_among (numbers_set first marks) (first + n) ≡ false
unfolding numbers_set
numbers_apart first [] n is = absurd cc
numbers_apart first (true ∷ marks) zero is = absurd cc
numbers_apart first (false ∷ marks) zero is =
    rising_apart (first + 1) (first + 1 + length marks) (numbers_set (first + 1) marks) (first + 0) (numbers_rise (first + 1) (first + 1 + length marks) marks (omega arith)) (omega arith)
numbers_apart first (true ∷ marks) (suc n) is =
    let same : first + 1 + n ≡ first + suc n = omega arith in
    or_from (first == first + suc n) (is_among (numbers_set (first + 1) marks) (first + suc n)) (ne_eqb first (first + suc n) (λ e. absurd (omega (arith, e))))
    (ap (λ k. is_among (numbers_set (first + 1) marks) k) (sym same) ∙ numbers_apart (first + 1) marks n is)
numbers_apart first (false ∷ marks) (suc n) is =
    let same : first + 1 + n ≡ first + suc n = omega arith in
    ap (λ k. is_among (numbers_set (first + 1) marks) k) (sym same) ∙ numbers_apart (first + 1) marks n is

-- a number before which fewer are set than with it is set
pub set_where : (marks : List Bool) (n j : ℕ) → set_below marks n ≤ j → j < set_below marks (suc n)
    → (set_below marks n ≡ j) × (slice_get marks n ≡ Some true)
unfolding set_below
set_where [] n j le lt = absurd (omega (arith, lt))
set_where (true ∷ marks) zero j le lt = (omega (arith, lt, set_none marks), refl)
set_where (false ∷ marks) zero j le lt = absurd (omega (arith, lt, set_none marks))
set_where (true ∷ marks) (suc n) zero le lt = absurd (omega (arith, le))
set_where (true ∷ marks) (suc n) (suc j) le lt =
    let rest = set_where marks n j (omega (arith, le)) (omega (arith, lt)) in (ap suc rest.0, rest.1)
set_where (false ∷ marks) (suc n) j le lt = set_where marks n j le lt

-- ---- what is kept

pub counted_first : IsCounted [] [] 0
unfolding AreCounts span_of set_below
counted_first = record {
  tree = beyond 32 0 (set_below []) [] (omega arith);
  long = refl;
  all = refl;
  few = omega arith;
}

pub spans_all : 4294967296 ≡ span_of 32
unfolding span_of
spans_all = refl

-- one number more
pub counted_more : (marks : List Bool) (counts : List ℕ) (total count : ℕ) → IsCounted marks counts total
    → length marks < 4294967295
    → IsCountBehind counts 0 4294967296 total count
    → IsCounted (marks ++ true ∷ []) (counts ++ count ∷ []) (total + 1)
counted_more marks counts total count c few behind =
    let more = set_pushed marks in
    let more_counts : IsOneMore (length counts) (set_below marks) (set_below (marks ++ true ∷ [])) =
    subst (λ k. IsOneMore k (set_below marks) (set_below (marks ++ true ∷ []))) (sym c.long) more in
    let long : length (marks ++ true ∷ []) ≡ length marks + 1 = length_push marks true in
    let all_long : set_below marks (length marks) ≡ set_below marks (length counts) = ap (set_below marks) (sym c.long) in
    let last : set_below (marks ++ true ∷ []) (length (marks ++ true ∷ [])) ≡ set_below (marks ++ true ∷ []) (suc (length marks)) =
    ap (set_below (marks ++ true ∷ [])) (omega (arith, long)) in
    record {
      tree = behind 32 (set_below marks) (set_below (marks ++ true ∷ [])) spans_all more_counts (omega arith) (omega (arith, few, c.long))
          (omega (arith, c.all, all_long, set_none marks)) c.tree;
      long = omega (arith, c.long, long, length_push counts count);
      all = omega (arith, c.all, last, more.more);
      few = omega (arith, long, few);
    }

-- one number less
pub counted_less : (marks : List Bool) (counts lowered : List ℕ) (total n : ℕ) → IsCounted marks counts total
    → slice_get marks n ≡ Some true
    → length lowered ≡ length counts
    → AreLowered counts lowered 0 4294967296 n
    → (1 ≤ total) × IsCounted (set marks n false) lowered (total - 1)
counted_less marks counts lowered total n c is long lowers =
    let inside = slice_get_within marks n true is in
    let less = set_cleared marks n is in
    let long_set : length (set marks n false) ≡ length marks = length-set marks n false in
    let all : set_below (set marks n false) (length (set marks n false)) ≡ set_below (set marks n false) (length marks) = ap (set_below (set marks n false)) long_set in
    let one = less.less (length marks) inside in (
      omega (arith, one, c.all),
      record {
        tree = lowers 32 (set_below marks) (set_below (set marks n false)) spans_all less (omega arith) (omega (arith, inside, c.few)) c.tree;
        long = omega (arith, long, c.long, long_set);
        all = omega (arith, all, one, c.all);
        few = omega (arith, long_set, c.few);
      },
    )

-- the j-th number that is set
pub counted_at : (marks : List Bool) (counts : List ℕ) (total j n : ℕ) → IsCounted marks counts total → j < total
    → IsFound counts 0 4294967296 j n
    → (slice_get (numbers_set 0 marks) j ≡ Some n) × (n < 4294967296)
counted_at marks counts total j n c few found =
    let stays : (m : ℕ) → length counts ≤ m → set_below marks m ≡ set_below marks (length counts) =
    λ m le. set_beyond marks m (omega (arith, le, c.long)) ∙ ap (set_below marks) (sym c.long) in
    let all : set_below marks 4294967296 ≡ set_below marks (length marks) = set_beyond marks 4294967296 (omega (arith, c.few)) in
    let none = set_none marks in
    let at = found 32 (set_below marks) spans_all stays (omega (arith, few, c.all, all, none)) c.tree in
    let here = set_where marks n j (omega (arith, at.0, none)) (omega (arith, at.1, none)) in
    (ap (λ k. slice_get (numbers_set 0 marks) k) (sym here.0) ∙ (numbers_at 0 marks n here.1 ∙ ap (λ (k : ℕ). Some k) (omega arith)), omega (arith, c.few, slice_get_within marks n true here.1))

-- there is none
pub counted_past : (marks : List Bool) (counts : List ℕ) (total j : ℕ) → IsCounted marks counts total → total ≤ j
    → slice_get (numbers_set 0 marks) j ≡ None
counted_past marks counts total j c many = slice_get_past (numbers_set 0 marks) j (omega (arith, many, c.all, numbers_long 0 marks))
