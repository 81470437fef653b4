-- Marks on blocks, one after the other.
use Rattle.std.proofs.Common.{◌≡◌, ℕ, suc, ◌+◌, ◌≤◌, ◌<◌, inl, inr, Bool, true, false, ◌||◌, List, [], ◌∷◌, ◌++◌, length, get_or, sym, ap, subst, ◌∙◌, arith}
use Rattle.std.specs.List.{list_any}
use Rattle.std.proofs.lemmas.Bool.{cases_lt}
use Rattle.std.proofs.lemmas.List.{get_or_append_left, get_or_push, get_or_default, length_push}
use Rattle.flat_ir.specs.declared.program.Block.{Block}
use Rattle.flat_ir.specs.Program.{Program}
use Rattle.flat_ir.specs.Blocks.{HasLowParents, block_at, line}
use Rattle.split_model.specs.declared.split.Part.{Part}
use Rattle.split_model.specs.Split.{is_post}
use Rattle.split_model.specs.Legal.{is_post_condition}
use Rattle.split_validate.specs.Flaws.{ArePostGuarded}

abbrev pub guarded_by : Program → List Part → ℕ → Bool
guarded_by f split b = list_any (is_post_condition f split) (line f.blocks b)

pub one_marked : (f : Program) (split : List Part) (k : ℕ) (marks : List Bool) (mark : Bool) → ArePostGuarded f split k marks → mark ≡ guarded_by f split (k + 1) → ArePostGuarded f split (k + 1) (marks ++ mark ∷ [])
one_marked f split k marks mark h e = record {
  count = let c = h.count in omega (arith, c, length_push marks mark);
  exact = λ b low. elim (cases_lt b (k + 1)) [
    | inl less ↦ get_or_append_left marks (mark ∷ []) false b (let c = h.count in omega (arith, c, less)) ∙ h.exact b (omega (arith, less))
    | inr more ↦
        let same : b ≡ k + 1 = omega (arith, low, more) in
        get_or_push marks mark false b (h.count ∙ sym same) ∙ e ∙ ap (guarded_by f split) (sym same)
  ];
}

abbrev pub root : Block
root = record { parent = 0; cond = record { instruction = 0; result = 0 }; polarity = true }

-- the block at a place, whatever stands for one past the end
pub block_is : (blocks read : List Block) (k : ℕ) (d : Block) → read ≡ blocks → k < length blocks → get_or read k d ≡ block_at blocks k
block_is blocks read k d same inside = ap (λ bs. get_or bs k d) same ∙ get_or_default blocks k d root inside

pub parent_there : (f : Program) (split : List Part) (k : ℕ) (marks : List Bool) (block : Block) → HasLowParents f.blocks → k < length f.blocks → ArePostGuarded f split k marks → block ≡ block_at f.blocks k → block.parent < length marks
parent_there f split k marks block low inside h is =
    let parent : block.parent ≤ k = subst (λ (b : Block). b.parent ≤ k) (sym is) (low k inside) in
    let c = h.count in
    omega (arith, c, parent)

-- a block is guarded so where its own condition is, or its parent
pub above_guarded : (f : Program) (split : List Part) (k : ℕ) (marks : List Bool) (block : Block) → HasLowParents f.blocks
    → line f.blocks (suc k) ≡ suc k ∷ line f.blocks (block_at f.blocks k).parent → k < length f.blocks → ArePostGuarded f split k marks → block ≡ block_at f.blocks k
    → (is_post split block.cond.instruction || get_or marks block.parent false) ≡ guarded_by f split (k + 1)
above_guarded f split k marks block low up inside h is =
    let parent : block.parent ≤ k = subst (λ (b : Block). b.parent ≤ k) (sym is) (low k inside) in
    let next : k + 1 ≡ suc k = omega arith in
    let marked : get_or marks block.parent false ≡ guarded_by f split (block_at f.blocks k).parent =
    h.exact block.parent parent ∙ ap (λ (b : Block). guarded_by f split b.parent) is in
    ap (λ b. is_post split block.cond.instruction || b) marked
    ∙ ap (λ (b : Block). is_post split b.cond.instruction || guarded_by f split (block_at f.blocks k).parent) is
    ∙ sym (ap (list_any (is_post_condition f split)) (ap (line f.blocks) next ∙ up))
