-- The serial order of fates: as many numbers as were decided, each of an admitted packet.
use Rattle.std.proofs.Common.{◌≡◌, ℕ, ◌+◌, ◌<◌, ◌≤◌, Bool, cond, List, [], ◌∷◌, refl, ◌∙◌, ap, arith, suc}
use Rattle.std.proofs.Common.{length}
use Rattle.std.specs.Prelude.{count_by}
use Rattle.std.specs.List.{AllByRecursion}
use Rattle.std.proofs.lemmas.List.{length-map}
use Rattle.std.proofs.lemmas.List.Recursion.{is_count_by}
use Rattle.std.proofs.lemmas.List.Sums.{count_by-le-length}
use Rattle.run_model.specs.declared.fate.Fate.{Fate}
use Rattle.run_model.specs.declared.fate.Fate.TheVariants.{Pass, Up}
use Rattle.run_model.specs.declared.serial.Decided.{Decided}
use Rattle.run_model.specs.Fate.{is_decided}
use Rattle.replay_reports.proofs.Versions.{if_both}
use Rattle.lemmas.proofs.Lists.{each_map}
use Rattle.run_model.specs.Order.{stands_before, put_in, sorted, decided_of, with_decided, decided_from, order_of}

-- ## How many there are

one_more : (d : Decided) (xs : List Decided) → length (put_in d xs) ≡ suc (length xs)
one_more d [] = refl
one_more d (x ∷ xs) =
    if_both (λ ys. length ys ≡ suc (suc (length xs))) (stands_before d x) (d ∷ (x ∷ xs)) (x ∷ put_in d xs) refl (ap suc (one_more d xs))

sorted_count : (ds : List Decided) → length (sorted ds) ≡ length ds
sorted_count [] = refl
sorted_count (d ∷ ds) = one_more d (sorted ds) ∙ ap suc (sorted_count ds)

-- by recursion
abbrev count_of : List Fate → ℕ
count_of [] = 0
count_of (f ∷ fs) = cond (is_decided f) (1 + count_of fs) (count_of fs)

with_one : (n : ℕ) (f : Fate) (ds : List Decided) (count : ℕ) → length ds ≡ count
    → length (with_decided (decided_of n f) ds) ≡ cond (is_decided f) (1 + count) count
with_one n (Pass a) ds count is = is
with_one n (Up a) ds count is = is
with_one n _ ds count is = omega arith

from_count : (n : ℕ) (fs : List Fate) → length (decided_from n fs) ≡ count_of fs
from_count n [] = refl
from_count n (f ∷ fs) = with_one n f (decided_from (suc n) fs) (count_of fs) (from_count (suc n) fs)

pub order_count : (fates : List Fate) → length (order_of fates) ≡ count_by is_decided fates
order_count fates =
    length-map (sorted (decided_from 0 fates)) (λ (d : Decided). d.number) ∙ sorted_count (decided_from 0 fates)
    ∙ from_count 0 fates ∙ is_count_by count_of is_decided refl (λ f fs. refl) fates

pub few : (test : Fate → Bool) (fates : List Fate) → count_by test fates ≤ length fates
few test fates = count_by-le-length test fates

-- ## Which they are

all_put : (P : Decided → Type 0) (d : Decided) (xs : List Decided) → P d → AllByRecursion P xs
    → AllByRecursion P (put_in d xs)
all_put P d [] here all = (here, tt)
all_put P d (x ∷ xs) here all =
    if_both (AllByRecursion P) (stands_before d x) (d ∷ (x ∷ xs)) (x ∷ put_in d xs) (here, all)
    (all.0, all_put P d xs here all.1)

all_sorted : (P : Decided → Type 0) (ds : List Decided) → AllByRecursion P ds → AllByRecursion P (sorted ds)
all_sorted P [] all = tt
all_sorted P (d ∷ ds) all = all_put P d (sorted ds) all.0 (all_sorted P ds all.1)

abbrev Below : ℕ → Decided → Type 0
Below bound d = d.number < bound

with_below : (bound n : ℕ) (f : Fate) (ds : List Decided) → n < bound → AllByRecursion (Below bound) ds
    → AllByRecursion (Below bound) (with_decided (decided_of n f) ds)
with_below bound n (Pass a) ds low all = all
with_below bound n (Up a) ds low all = all
with_below bound n _ ds low all = (low, all)

from_below : (bound n : ℕ) (fs : List Fate) → n + length fs ≤ bound → AllByRecursion (Below bound) (decided_from n fs)
from_below bound n [] low = tt
from_below bound n (f ∷ fs) low =
    with_below bound n f (decided_from (suc n) fs) (omega arith) (from_below bound (suc n) fs (omega arith))

pub order_within : (fates : List Fate) → AllByRecursion (λ (n : ℕ). n < length fates) (order_of fates)
order_within fates =
    each_map (λ (n : ℕ). n < length fates) (λ (d : Decided). d.number) (sorted (decided_from 0 fates))
    (all_sorted (Below (length fates)) (decided_from 0 fates) (from_below (length fates) 0 fates (omega arith)))
