-- A stage above the limit.
use Rattle.std.proofs.Common.{◌≡◌, ℕ, suc, ◌<◌, true, false, List, [], ◌∷◌, inl, inr, arith, length, nat_lt}
use Rattle.std.specs.List.{list_any}
use Rattle.std.proofs.lemmas.Bool.{ltb-true, or_cases}
use Rattle.flat_ir.specs.Program.{Program}
use Rattle.split_model.specs.declared.split.Part.{Part}
use Rattle.split_model.specs.Split.{part_at, pre_stage, post_stage}
use Rattle.split_model.specs.Counts.{stage_or_zero}
use Rattle.resource_limits.specs.declared.limits.Limits.{Limits}
use Rattle.resource_limits.specs.Kept.{KeepsLimits}
use Rattle.partition.specs.Deeper.{is_deeper}
use Rattle.partition.proofs.Chosen.{stages_low}

part_deeper : (most : ℕ) (parts : List Part) → list_any (is_deeper most) parts ≡ true → (i : ℕ) × ((i < length parts) × (is_deeper most (part_at parts i) ≡ true))
part_deeper most [] h = absurd (let k : false ≡ true = h in cc)
part_deeper most (p ∷ ps) h = elim (or_cases (is_deeper most p) (list_any (is_deeper most) ps) h) [
  | inl t ↦ (0, ((omega arith), t))
  | inr r ↦ (let g = part_deeper most ps r in (suc g.0, ((let l = g.1.0 in omega (arith, l)), g.1.1)))
]

-- a split with a stage above the limit doesn't keep it
pub deeper_not_kept : (f : Program) (limits : Limits) (split : List Part) → length split ≡ length f.code → list_any (is_deeper limits.stages) split ≡ true → KeepsLimits f split limits → ⊥
deeper_not_kept f limits split count deep keeps =
    let g = part_deeper limits.stages split deep in
    let i = g.0 in
    let lt : i < length f.code = (let l = g.1.0 in omega (arith, l, count)) in
    let k = keeps.stages in
    let h = stages_low split (length f.code) i lt in
    elim (or_cases (nat_lt limits.stages (stage_or_zero (pre_stage split i))) (nat_lt limits.stages (stage_or_zero (post_stage split i))) g.1.1) [
      | inl t ↦ (let l = ltb-true limits.stages (stage_or_zero (pre_stage split i)) t in omega (arith, l, h.0, k))
      | inr t ↦ (let l = ltb-true limits.stages (stage_or_zero (post_stage split i)) t in omega (arith, l, h.1, k))
    ]
