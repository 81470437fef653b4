-- Only proofs need this. What rules forbid of operands, and what is known while instructions are looked at.
use Rattle.std.specs.Prelude.{◌≡◌, ℕ, ◌+◌, ◌<◌, ◌≤◌, Bool, true, false, not, List, length, Option, slice_index_or}
use Rattle.std.specs.List.{list_any}
use Rattle.flat_ir.specs.declared.program.ValueId.{ValueId}
use Rattle.flat_ir.specs.Program.{Program}
use Rattle.flat_ir.specs.Blocks.{line}
use Rattle.split_model.specs.declared.split.Part.{Part}
use Rattle.split_model.specs.Split.{pre_stage, post_stage, is_pre, is_carried, is_post}
use Rattle.split_model.specs.Legal.{is_not_lower, is_post_condition, breaks}
use Rattle.split_validate.specs.declared.operand.Pass.{Pass}
use Rattle.split_validate.specs.declared.operand.Pass.TheVariants.{Before, After}
use Rattle.split_validate.specs.declared.operand.Flaw.{Flaw}
use Rattle.split_validate.specs.declared.operand.Flaw.TheVariants.{NotBefore, NotCarried, InPost, NotBelow}

-- the stage of an instruction in a pass
abbrev pub stage_in : Pass → List Part → ℕ → Option ℕ
stage_in Before split = pre_stage split
stage_in After split = post_stage split

-- an operand of instruction i has the flaw
abbrev pub has_flaw : Flaw → List Part → ℕ → Bool
has_flaw NotBefore split i = not (is_pre split i)
has_flaw NotCarried split i = not (is_carried split i)
has_flaw InPost split i = is_post split i
has_flaw (NotBelow pass own) split i = is_not_lower (stage_in pass split i) own

abbrev pub any_flawed : Flaw → List Part → List ValueId → Bool
any_flawed flaw split values = list_any (λ v. has_flaw flaw split v.instruction) values

-- the marks say of each block up to number n, the root first, whether its condition or that of one above it is a value
-- of postprocessing
pub record ArePostGuarded (f : Program) (split : List Part) (n : ℕ) (marks : List Bool) : Type 0 where
  pub count : length marks ≡ n + 1
  pub exact : (b : ℕ) → b ≤ n → slice_index_or marks b false ≡ list_any (is_post_condition f split) (line f.blocks b)

-- none of the first n instructions breaks the rule
abbrev pub KeepsRule : Program → List Part → ℕ → ℕ → Type 0
KeepsRule f split rule n = (i : ℕ) → i < n → breaks rule f split i ≡ false

-- instruction i is the first that breaks the rule
pub record IsFirstOf (f : Program) (split : List Part) (rule i : ℕ) : Type 0 where
  pub within : i < length f.code
  pub broken : breaks rule f split i ≡ true
  pub first : KeepsRule f split rule i
