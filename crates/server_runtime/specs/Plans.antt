-- A split program, and what is known of it beforehand.
use Rattle.std.specs.Prelude.{◌≡◌, ℕ, ◌<◌, ◌≤◌, ◌^◌, Bool, false, List, length, slice_index_or}
use Rattle.flat_ir.specs.Program.{Program, program_of}
use Rattle.split_model.specs.declared.split.Part.{Part}
use Rattle.split_model.specs.Bounds.{IsBounded}
use Rattle.split_model.specs.Layouts.{down_layout, up_layout, values_of}
use Rattle.split_model.specs.Legal.{IsLegal}
use Rattle.split_model.specs.Passes.{server_fields}
use Rattle.split_model.specs.Shown.{is_replicated}
use Rattle.server_runtime.specs.declared.plan.PreparedProgram.{PreparedProgram}
use Rattle.server_runtime.specs.Registers.{AreFirsts}
use Rattle.server_runtime.specs.Serving.{evaluated_steps, followed_writes}

pub record ServerPlan : Type 0 where
  pub program : Program
  pub split : List Part

-- a mark for each object says whether it is replicated
pub record AreReplicated (f : Program) (split : List Part) (marks : List Bool) : Type 0 where
  pub count : length marks ≡ length f.objects
  pub exact : (o : ℕ) → o < length f.objects → slice_index_or marks o false ≡ is_replicated f split o

-- the split is legal, and what was worked out beforehand is so
pub record IsPrepared (w : PreparedProgram) : Type 0 where
  pub bounded : IsBounded (program_of w.flat)
  pub legal : IsLegal (program_of w.flat) w.split
  pub up : w.up ≡ up_layout (program_of w.flat) w.split
  pub down : w.down ≡ down_layout (program_of w.flat) w.split
  pub few : length w.down < 2 ^ 32
  pub firsts : AreFirsts (program_of w.flat) w.firsts.items
  pub values : length (values_of (program_of w.flat)) ≤ 36864
  pub fields : w.fields.items ≡ server_fields (program_of w.flat) w.split
  pub followed : AreReplicated (program_of w.flat) w.split w.followed.items
  pub writes : w.writes ≡ followed_writes (program_of w.flat) w.split
  pub evaluated : w.evaluated ≡ evaluated_steps (program_of w.flat) w.split
