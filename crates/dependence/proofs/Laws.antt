-- What holds of every program, as the definitions give it.
use Rattle.std.specs.Prelude.{Bool, List, slice_index, ℕ, ◌≤◌}
use Rattle.flat_ir.specs.Program.{Program}
use Rattle.flat_ir.specs.Sets.{IsCarriedClosed, IsGreatest, IsPostClosed, IsPreClosed}
use Rattle.flat_ir.specs.Stages.{IsDepths, IsStaged}
use Rattle.flat_ir.specs.WellFormed.{IsWellFormed}
use Rattle.dependence.proofs.Least.{depths_least, depths_staged}
use Rattle.dependence.proofs.PlacedCode.{placed}
use Rattle.dependence.proofs.Present.{carried_present, depths_present, post_present, pre_present}

-- Depths are stages that a pass may have, and no such stages are lower anywhere.
pub depths_are_least-staged : (f : Program) (members : List Bool) (depths : List ℕ) → IsWellFormed f → IsDepths f members depths
    → IsStaged f members depths
depths_are_least-staged f members depths well = depths_staged f members depths (placed f well)

pub depths_are_least-least : (f : Program) (members : List Bool) (depths stages : List ℕ) → IsWellFormed f
    → IsDepths f members depths
    → IsStaged f members stages → (i : ℕ) → slice_index depths i ≤ slice_index stages i
depths_are_least-least f members depths stages well = depths_least f members depths stages (placed f well)

-- Each kind of closed sets has a greatest one in every program, and each set has its depths.
pub closed_sets_have_a_greatest-pre : (f : Program) (k : ℕ) → IsWellFormed f → (pre : List Bool) × IsGreatest f (IsPreClosed f k) pre
closed_sets_have_a_greatest-pre f k well = pre_present f k (placed f well)

pub closed_sets_have_a_greatest-carried : (f : Program) (pre : List Bool) → IsWellFormed f
    → (carried : List Bool) × IsGreatest f (IsCarriedClosed f pre) carried
closed_sets_have_a_greatest-carried f pre well = carried_present f pre (placed f well)

pub closed_sets_have_a_greatest-post : (f : Program) (carried : List Bool) → IsWellFormed f
    → (post : List Bool) × IsGreatest f (IsPostClosed f carried) post
closed_sets_have_a_greatest-post f carried well = post_present f carried (placed f well)

pub closed_sets_have_a_greatest-depths : (f : Program) (members : List Bool) → IsWellFormed f
    → (depths : List ℕ) × IsDepths f members depths
closed_sets_have_a_greatest-depths f members well = depths_present f members (placed f well)
