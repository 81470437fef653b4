-- Which objects preprocessing looks up, and which the switch has to be told of.
use Rattle.std.specs.Prelude.{ℕ, ◌==◌, Bool, false, not, ◌&&◌, List}
pub use Rattle.flat_ir.specs.Kinds.{looks_at}
use Rattle.flat_ir.specs.Program.{Program, Work, step_at}
use Rattle.flat_ir.specs.Program.Work.{put, del}
use Rattle.state_store.specs.Kinds.{is_constant}
use Rattle.split_model.specs.declared.split.Part.{Part}
use Rattle.split_model.specs.Split.{is_pre, any_step}

-- it changes a row of the object
abbrev pub writes_to : ℕ → Work → Bool
writes_to o (put object keys values) = object == o
writes_to o (del object keys) = object == o
writes_to o _ = false

-- preprocessing looks the object up
abbrev pub is_shown : Program → List Part → ℕ → Bool
is_shown f split o = any_step f (λ i. is_pre split i && looks_at o (step_at f i).work)

-- it isn't a constant table, and preprocessing looks it up: so the switch follows the server
abbrev pub is_replicated : Program → List Part → ℕ → Bool
is_replicated f split o = not (is_constant f.objects o) && is_shown f split o
