-- What the sizes of a source bound in its flat program, and how many stages a pass may have.
use Rattle.std.specs.Prelude.{◌≡◌, ◌≤◌, ℕ, List, length, Some, All, IsTrue}
use Rattle.std.specs.List.{list_all}
use Rattle.gal_bits.specs.Fitting.{is_width, sum_of}
use Rattle.state_store.specs.declared.object.ObjectDecl.{ObjectDecl}
use Rattle.flat_ir.specs.Program.{Program}
use Rattle.flat_ir.specs.WellFormed.{IsWellFormed}
use Rattle.split_model.specs.declared.split.Part.{Part}
use Rattle.split_model.specs.Split.{pre_stage, post_stage}

-- an object has at most 1,048,576 rows, and keys and values of at most 128 bits, and a number of a value
-- has 1 to 64
pub record IsSmall (d : ObjectDecl) : Type 0 where
  pub size : d.size ≤ 1048576
  pub keys : sum_of d.keys ≤ 128
  pub values : sum_of d.values ≤ 128
  pub widths : IsTrue (list_all is_width d.values)

-- a well-formed program with at most 4,096 instructions and 64 objects, all of them small
pub record IsBounded (f : Program) : Type 0 where
  pub formed : IsWellFormed f
  pub few : length f.code ≤ 4096
  pub objects : length f.objects ≤ 64
  pub small : All IsSmall f.objects

-- no stage of either pass is above 4,096
pub record HasFewStages (split : List Part) : Type 0 where
  pub pre : (i stage : ℕ) → pre_stage split i ≡ Some stage → stage ≤ 4096
  pub post : (i stage : ℕ) → post_stage split i ≡ Some stage → stage ≤ 4096
