-- What holds of every split, as the definitions give it.
use Rattle.std.specs.Prelude.{Bool, List, [], false, length, slice_index, true, ℕ, ◌++◌, ◌<◌, ◌↔◌, ◌∷◌, ◌≡◌, ◌≤◌, ◌⊎◌}
use Rattle.dependence.proofs.Laws.{depths_are_least-least}
use Rattle.flat_ir.specs.Program.{Program}
use Rattle.flat_ir.specs.Sets.{IsWithin}
use Rattle.flat_ir.specs.Stages.{IsStaged}
use Rattle.flat_ir.specs.WellFormed.{IsWellFormed}
use Rattle.resource_limits.specs.Kept.{KeepsLimits}
use Rattle.resource_limits.specs.Limits.{AreInRange}
use Rattle.resource_limits.specs.declared.exceeding.Over.{Over}
use Rattle.resource_limits.specs.declared.limits.Limits.{Limits}
use Rattle.split_model.proofs.Laws.{legal_passes_go_by_stages-post, legal_passes_go_by_stages-pre}
use Rattle.split_model.specs.Greatest.{IsGreatestSplit, pre_marks, pre_stages}
use Rattle.split_model.specs.Legal.{IsLegal}
use Rattle.split_model.specs.declared.split.Part.{Part}
use Rattle.partition.proofs.Chosen.{one_chosen}
use Rattle.partition.proofs.Last.{ends_so, last_exact}
use Rattle.partition.proofs.Lawful.{greatest_legal}
use Rattle.partition.proofs.Lowest.{lowest_after, lowest_before}
use Rattle.partition.proofs.Present.{greatest_present, shrunk_present, strict_present, unrefused_present}
use Rattle.partition.proofs.Unique.{pre_is_most, same_splits}
use Rattle.partition.specs.Choice.{AllExceeded, IsChosen, IsRefused, IsUnrefused, shrinking}
use Rattle.partition.specs.Lowest.{IsLowestAfter, IsLowestBefore}

-- There is at most one greatest split of a kind, and it is legal. Preprocessing of no legal split has more than that
-- of the greatest split on all instructions, and no stages that it may have are lower anywhere.
pub greatest_split_is_one-one : (f : Program) (k : ℕ) (all : Bool) (split other : List Part) → IsWellFormed f
    → IsGreatestSplit f k all split → IsGreatestSplit f k all other → split ≡ other
greatest_split_is_one-one = same_splits

pub greatest_split_is_one-legal : (f : Program) (k : ℕ) (all : Bool) (split : List Part) → IsWellFormed f
    → IsGreatestSplit f k all split → IsLegal f split
greatest_split_is_one-legal = greatest_legal

pub greatest_split_is_one-most : (f : Program) (all : Bool) (split other : List Part) → IsGreatestSplit f (length f.code) all split
    → IsLegal f other → IsWithin (pre_marks other) (pre_marks split)
greatest_split_is_one-most = pre_is_most

pub greatest_split_is_one-earliest : (f : Program) (k : ℕ) (all : Bool) (split : List Part) (stages : List ℕ) → IsWellFormed f
    → IsGreatestSplit f k all split → IsStaged f (pre_marks split) stages
    → (i : ℕ) → slice_index (pre_stages split) i ≤ slice_index stages i
greatest_split_is_one-earliest f k all split stages formed is staged = depths_are_least-least f _ _ stages formed is.pre_depths staged

-- Every program has a greatest split of each kind.
pub a_greatest_split_is_there : (f : Program) (k : ℕ) (all : Bool) → IsWellFormed f → (split : List Part) × IsGreatestSplit f k all split
a_greatest_split_is_there = greatest_present

-- The shrinking list ends with what is left to the server. Its header has two bytes, and nothing is looked up on the
-- switch, so it keeps all limits but one of a shorter header.
pub the_last_keeps-last : (n : ℕ) → (before : List (ℕ × Bool)) × (shrinking n ≡ before ++ (0, false) ∷ [])
the_last_keeps-last = ends_so

pub the_last_keeps-exact : (f : Program) (limits : Limits) (split : List Part) → IsWellFormed f
    → IsGreatestSplit f 0 false split → KeepsLimits f split limits ↔ (2 ≤ limits.transfer_bytes)
the_last_keeps-exact = last_exact

-- Of every program a split is chosen, or a limit is named that the greatest split exceeds first. By shrinking, one is
-- chosen, or the header may have less than two bytes and each split of the list exceeds a limit. So under limits that
-- a file can give, what isn't refused is chosen.
pub a_split_is_chosen_or_refused-strict : (f : Program) (limits : Limits) → IsWellFormed f
    → ((split : List Part) × IsChosen f limits false split) ⊎ ((over : Over) × IsRefused f limits false over)
a_split_is_chosen_or_refused-strict = strict_present

pub a_split_is_chosen_or_refused-shrunk : (f : Program) (limits : Limits) → IsWellFormed f
    → ((split : List Part) × IsChosen f limits true split)
    ⊎ ((limits.transfer_bytes < 2) × AllExceeded f limits (length f.code))
a_split_is_chosen_or_refused-shrunk = shrunk_present

pub a_split_is_chosen_or_refused-unrefused : (f : Program) (limits : Limits) (shrink : Bool) → IsWellFormed f → AreInRange limits
    → IsUnrefused f limits shrink ↔ ((split : List Part) × IsChosen f limits shrink split)
a_split_is_chosen_or_refused-unrefused f limits shrink formed ranges = unrefused_present f limits formed ranges.3 shrink

-- At most one split is chosen.
pub one_split_is_chosen : (f : Program) (limits : Limits) (shrink : Bool) (split other : List Part) → IsWellFormed f
    → IsChosen f limits shrink split → IsChosen f limits shrink other → split ≡ other
one_split_is_chosen = one_chosen

-- No legal split that computes the same in preprocessing has a lower highest stage there than the chosen one, nor one
-- that computes the same in postprocessing there.
pub the_chosen_is_lowest-before : (f : Program) (limits : Limits) (shrink : Bool) (split : List Part) → IsWellFormed f
    → IsChosen f limits shrink split → IsLowestBefore f split
the_chosen_is_lowest-before f limits shrink split formed chosen other legal =
    lowest_before f limits shrink split other formed chosen (legal_passes_go_by_stages-pre f other legal)

pub the_chosen_is_lowest-after : (f : Program) (limits : Limits) (shrink : Bool) (split : List Part) → IsWellFormed f
    → IsChosen f limits shrink split → IsLowestAfter f split
the_chosen_is_lowest-after f limits shrink split formed chosen other legal =
    lowest_after f limits shrink split other formed chosen (legal_passes_go_by_stages-post f other legal)
