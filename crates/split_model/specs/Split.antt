-- What a split says of each instruction.
use Rattle.std.specs.Prelude.{ℕ, Bool, true, false, List, Option, Some, None, is_some}
use Rattle.std.specs.Prelude.{slice_index_or}
pub use Rattle.flat_ir.specs.Program.{any_below, any_step}
use Rattle.split_model.specs.declared.split.Slow.{Slow}
use Rattle.split_model.specs.declared.split.Slow.TheVariants.{Carried, Server, Post}
use Rattle.split_model.specs.declared.split.Part.{Part}

abbrev pub part_at : List Part → ℕ → Part
part_at split i = slice_index_or split i (record { pre = None; slow = Server })

-- the stage of an instruction in each pass, where it is computed there
abbrev pub pre_stage : List Part → ℕ → Option ℕ
pre_stage split i = (part_at split i).pre

abbrev pub stage_after : Slow → Option ℕ
stage_after (Post stage) = Some stage
stage_after _ = None

abbrev pub post_stage : List Part → ℕ → Option ℕ
post_stage split i = stage_after (part_at split i).slow

abbrev pub is_carried_up : Slow → Bool
is_carried_up Carried = true
is_carried_up _ = false

abbrev pub is_served : Slow → Bool
is_served Server = true
is_served _ = false

abbrev pub is_pre : List Part → ℕ → Bool
is_pre split i = is_some (pre_stage split i)

abbrev pub is_carried : List Part → ℕ → Bool
is_carried split i = is_carried_up (part_at split i).slow

abbrev pub is_server : List Part → ℕ → Bool
is_server split i = is_served (part_at split i).slow

abbrev pub is_post : List Part → ℕ → Bool
is_post split i = is_some (post_stage split i)
