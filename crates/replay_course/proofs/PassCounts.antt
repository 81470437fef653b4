-- How many passes meet a test, as those before the server do.
use Rattle.std.proofs.Common.{◌≡◌, ◌≤◌, ◌+◌, ℕ, zero, suc, Bool, true, false, ◌&&◌, ◌||◌, cond, nat_lt, List, [], ◌∷◌, ◌++◌, length, Some, refl, sym, ap, ◌∙◌, arith, zero-add, get_or, inl, inr}
use Rattle.std.specs.Prelude.{count_by, slice_get, slice_set, remove}
use Rattle.std.specs.Int.{from_bool}
use Rattle.std.specs.List.{AllByRecursion as Each, list_any}
use Rattle.std.proofs.lemmas.Bool.{cases_lt, le-ltb, lt-ltb}
use Rattle.std.proofs.lemmas.List.Sums.{count_by-le-length, sum_by_push, sum_by-cons, sum_by-remove, sum_by-set}
use Rattle.std.proofs.lemmas.Option.{same_Some, slice_get-get_or, slice_get_within}
use Rattle.replay_state.specs.declared.pass.Pass.{Pass}

abbrev counted : (Pass → Bool) → Pass → ℕ
counted test pass = cond (test pass) 1 0

pub push_count : (test : Pass → Bool) (passes : List Pass) (pass : Pass)
    → count_by test (passes ++ pass ∷ []) ≡ count_by test passes + cond (test pass) 1 0
push_count test passes pass = sum_by_push (counted test) passes pass

get_is : (passes : List Pass) (j : ℕ) (pass : Pass) → slice_get passes j ≡ Some pass → get_or passes j pass ≡ pass
get_is passes j pass at = same_Some _ _ (sym (slice_get-get_or passes j pass (slice_get_within passes j pass at)) ∙ at)

pub remove_count : (test : Pass → Bool) (passes : List Pass) (j : ℕ) (pass : Pass) → slice_get passes j ≡ Some pass
    → count_by test (remove passes j) + cond (test pass) 1 0 ≡ count_by test passes
remove_count test passes j pass at =
    ap (λ (p : Pass). count_by test (remove passes j) + cond (test p) 1 0) (sym (get_is passes j pass at))
    ∙ sum_by-remove (counted test) passes j pass (slice_get_within passes j pass at)

pub set_count : (test : Pass → Bool) (passes : List Pass) (j : ℕ) (pass now : Pass) → slice_get passes j ≡ Some pass → test now ≡ test pass
    → count_by test (slice_set passes j now) ≡ count_by test passes
set_count test passes j pass now at same =
    let h = sum_by-set (counted test) passes j now pass (slice_get_within passes j pass at) in
    let k : counted test (get_or passes j pass) ≡ counted test now = ap (counted test) (get_is passes j pass at) ∙ ap (λ b. cond b 1 0) (sym same) in
    omega (arith, h, k)

-- ---- those before the server

abbrev is_before : Pass → Bool
is_before pass = pass.pre

abbrev pub before_server : List Pass → ℕ
before_server passes = count_by is_before passes

pub push_at_most : (passes : List Pass) (pass : Pass) → before_server (passes ++ pass ∷ []) ≤ before_server passes + 1
push_at_most passes pass = by_kind pass.pre (push_count is_before passes pass)
  where
    by_kind : (pre : Bool) → before_server (passes ++ pass ∷ []) ≡ before_server passes + cond pre 1 0 → before_server (passes ++ pass ∷ []) ≤ before_server passes + 1
    by_kind true h = omega arith
    by_kind false h = omega arith

pub push_behind : (passes : List Pass) (pass : Pass) → pass.pre ≡ false → before_server (passes ++ pass ∷ []) ≡ before_server passes
push_behind passes pass post = let h = push_count is_before passes pass ∙ ap (λ b. before_server passes + cond b 1 0) post in omega arith

pub remove_before : (passes : List Pass) (j : ℕ) (pass : Pass) → slice_get passes j ≡ Some pass → pass.pre ≡ true → before_server (remove passes j) + 1 ≡ before_server passes
remove_before passes j pass at pre = ap (λ b. before_server (remove passes j) + cond b 1 0) (sym pre) ∙ remove_count is_before passes j pass at

pub remove_at_most : (passes : List Pass) (j : ℕ) (pass : Pass) → slice_get passes j ≡ Some pass → before_server (remove passes j) ≤ before_server passes
remove_at_most passes j pass at = let h = remove_count is_before passes j pass at in omega arith

-- ---- those that entered while the bit was set

abbrev has_bit : Pass → Bool
has_bit pass = pass.bit

abbrev pub with_bit : List Pass → ℕ
with_bit passes = count_by has_bit passes

pub with_bit_within : (passes : List Pass) → with_bit passes ≤ length passes
with_bit_within passes = count_by-le-length has_bit passes

as_number : (b : Bool) → cond b 1 0 ≡ from_bool b
as_number true = refl
as_number false = refl

pub push_bit : (passes : List Pass) (pass : Pass) → with_bit (passes ++ pass ∷ []) ≡ with_bit passes + from_bool pass.bit
push_bit passes pass = push_count has_bit passes pass ∙ ap (λ k. with_bit passes + k) (as_number pass.bit)

pub remove_bit : (passes : List Pass) (j : ℕ) (pass : Pass) → slice_get passes j ≡ Some pass → with_bit (remove passes j) + from_bool pass.bit ≡ with_bit passes
remove_bit passes j pass at = ap (λ k. with_bit (remove passes j) + k) (sym (as_number pass.bit)) ∙ remove_count has_bit passes j pass at

pub set_bit : (passes : List Pass) (j : ℕ) (pass now : Pass) → slice_get passes j ≡ Some pass → now.bit ≡ pass.bit
    → with_bit (slice_set passes j now) ≡ with_bit passes
set_bit passes j pass now at same = set_count has_bit passes j pass now at same

-- there is one more with the bit, or without
with_one : (clear set at_clear at_set : Bool) → (at_set || ((clear && at_clear) || (set && at_set))) ≡ ((clear && at_clear) || at_set)
with_one true set true true = refl
with_one true set false true = refl
with_one true set true false = refl
with_one true true false false = refl
with_one true false false false = refl
with_one false set at_clear true = refl
with_one false true at_clear false = refl
with_one false false at_clear false = refl

without_one : (clear set at_clear at_set : Bool) → (at_clear || ((clear && at_clear) || (set && at_set))) ≡ (at_clear || (set && at_set))
without_one clear set true at_set = refl
without_one true set false at_set = refl
without_one false set false at_set = refl

one_below : (set all : ℕ) → nat_lt set all ≡ nat_lt (1 + set) (suc all)
one_below set all = elim (cases_lt set all) [
  | inl less ↦ lt-ltb set all less ∙ sym (lt-ltb (1 + set) (suc all) (omega arith))
  | inr more ↦ le-ltb set all more ∙ sym (le-ltb (1 + set) (suc all) (omega arith))
]

one_more : (f : Bool → Bool) (set all : ℕ) → set ≤ all → (bit : Bool)
    → (f bit || ((nat_lt set all && f false) || (nat_lt 0 set && f true)))
    ≡ ((nat_lt (cond bit 1 0 + set) (suc all) && f false) || (nat_lt 0 (cond bit 1 0 + set) && f true))
one_more f set all within true =
    let fewer : nat_lt set all ≡ nat_lt (1 + set) (suc all) = one_below set all in
    let some : true ≡ nat_lt 0 (1 + set) = sym (lt-ltb 0 (1 + set) (omega arith)) in
    with_one (nat_lt set all) (nat_lt 0 set) (f false) (f true) ∙ (λ i. (fewer i && f false) || (some i && f true))
one_more f set all within false =
    let fewer : true ≡ nat_lt (0 + set) (suc all) = sym (lt-ltb (0 + set) (suc all) (omega arith)) in
    let some : nat_lt 0 set ≡ nat_lt 0 (0 + set) = ap (nat_lt 0) (sym (zero-add set)) in
    without_one (nat_lt set all) (nat_lt 0 set) (f false) (f true) ∙ (λ i. (fewer i && f false) || (some i && f true))

-- what is so of one of them is so of those with the bit, of which there are some, or of those without
pub by_bits : (f : Bool → Bool) (passes : List Pass)
    → list_any (λ pass. f pass.bit) passes
    ≡ ((nat_lt (with_bit passes) (length passes) && f false) || (nat_lt 0 (with_bit passes) && f true))
by_bits f [] = refl
by_bits f (pass ∷ passes) =
    let more : cond pass.bit 1 0 + with_bit passes ≡ with_bit (pass ∷ passes) = sym (sum_by-cons (counted has_bit) pass passes) in
    ap (λ b. f pass.bit || b) (by_bits f passes)
    ∙ (one_more f (with_bit passes) (length passes) (with_bit_within passes) pass.bit
    ∙ (λ i. (nat_lt (more i) (suc (length passes)) && f false) || (nat_lt 0 (more i) && f true)))

-- those that are left keep what all have
pub each_set : {X : Type 0} (P : X → Type 0) (xs : List X) (j : ℕ) (x : X) → Each P xs → P x → Each P (slice_set xs j x)
each_set P [] j x e p = tt
each_set P (y ∷ xs) zero x e p = (p, e.1)
each_set P (y ∷ xs) (suc j) x e p = (e.0, each_set P xs j x e.1 p)
