-- The versions of batches, and those that are visible.
use Rattle.std.proofs.Common.{◌≡◌, ℕ, ◌+◌, ◌-◌, ◌≤◌, Bool, true, false, List, [], ◌∷◌, ◌++◌, refl, ap, arith, zero, suc}
use Rattle.std.proofs.Common.{length, take}
use Rattle.std.specs.Prelude.{◌==◌, nat_le, if◌then◌else◌}
use Rattle.writeback_table.specs.declared.command.Update.{Update}
use Rattle.writeback_table.specs.Commands.{commands_of, ons, versions}
use Rattle.output_commit.specs.Batches.{Batch, commands_in, merged, take_up, versions_at, visible}
use Rattle.output_commit.proofs.VisibleVersions.{versions_from, versions_none}

-- how many versions batches make
abbrev pub total : List Batch → ℕ
total [] = 0
total (b ∷ bs) = b.versions + total bs

-- ## What is visible

within : (bs : List Batch) (n : ℕ) → versions (versions_at bs) n ≤ total bs
within [] n = let none = versions_none n in omega arith
within (b ∷ bs) zero = omega arith
within (b ∷ bs) (suc n) = let first = versions_from (versions_at (b ∷ bs)) n in let rest = within bs n in omega arith

pub visible_low : (bs : List Batch) (n : ℕ) → visible bs n ≤ total bs
visible_low bs n = within bs (ons (take n (commands_in bs)))

-- ## Batches that come, or take up others

pub total_more : (bs : List Batch) (b : Batch) → total (bs ++ b ∷ []) ≡ total bs + b.versions
total_more [] b = omega arith
total_more (a ∷ bs) b = let r = total_more bs b in omega arith

-- what holds of both holds of either
pub if_both : {X : Type 0} (P : X → Type 0) (test : Bool) (x y : X) → P x → P y → P (if test then x else y)
if_both P true x y one other = one
if_both P false x y one other = other

taken_up : (fits : List Update → Bool) (b : Batch) (bs : List Batch) → total (take_up fits b bs) ≡ b.versions + total bs
taken_up fits b [] = refl
taken_up fits b (c ∷ bs) =
    let both : Batch = record { updates = b.updates ++ c.updates; versions = b.versions + c.versions } in
    let rest = taken_up fits both bs in
    if_both (λ xs. total xs ≡ b.versions + (c.versions + total bs)) (fits (b.updates ++ c.updates)) (take_up fits both bs) (b ∷ (c ∷ bs)) (omega arith) refl

pub total_merged : (fits : List Update → Bool) (n : ℕ) (bs : List Batch) → total (merged fits n bs) ≡ total bs
total_merged fits n [] = refl
total_merged fits n (b ∷ bs) =
    let count = length (commands_of b.updates) in
    let rest = total_merged fits (n - count) bs in
    let same : List Batch → Type 0 = λ xs. total xs ≡ b.versions + total bs in
    if_both same (n == 0) (take_up fits b bs) _ (taken_up fits b bs)
    (if_both same (nat_le count n) (b ∷ merged fits (n - count) bs) (b ∷ bs) (ap (λ k. b.versions + k) rest) refl)
