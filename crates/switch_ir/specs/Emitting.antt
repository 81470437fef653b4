-- How the code of a split program is put together.
use Rattle.std.specs.Prelude.{◌≡◌, ◌<◌, ℕ, Bool, false, List, length, Option, slice_index_or}
use Rattle.split_model.specs.declared.split.Part.{Part}
use Rattle.split_model.specs.Split.{pre_stage, post_stage}
use Rattle.switch_ir.specs.Emitted.{is_among}
use Rattle.switch_ir.specs.declared.steps.Role.{Role}
use Rattle.switch_ir.specs.declared.steps.Role.TheVariants.{Pre, Post}

-- the stage of an instruction in this role
abbrev pub stage_in : Role → List Part → ℕ → Option ℕ
stage_in Pre split i = pre_stage split i
stage_in Post split i = post_stage split i

-- the marks of the first n blocks say which of them are among these
pub record AreMarks (n : ℕ) (blocks : List ℕ) (marks : List Bool) : Type 0 where
  pub count : length marks ≡ n
  pub exact : (b : ℕ) → b < n → slice_index_or marks b false ≡ is_among b blocks
