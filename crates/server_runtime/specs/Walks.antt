-- At which instructions a server's run takes a turn.
use Rattle.std.specs.Prelude.{◌≡◌, ◌<◌, ◌≤◌, ℕ, suc, nat_lt, Bool, true, false, if◌then◌else◌, List, [], ◌∷◌, length, slice_index}
use Rattle.flat_ir.specs.Kinds.{is_input}
use Rattle.flat_ir.specs.Program.{Program, step_at}
use Rattle.split_model.specs.declared.split.Part.{Part}
use Rattle.split_model.specs.Layouts.{values_below, values_of}
use Rattle.split_model.specs.Split.{is_server}
use Rattle.server_runtime.specs.Spans.{last_read}

-- the last step that reads each value, by the values' numbers
pub record AreLastReads (f : Program) (split : List Part) (last : List ℕ) : Type 0 where
  pub count : length last ≡ length (values_of f)
  pub each : (n : ℕ) → n < length (values_of f) → slice_index last n ≡ last_read f split n

-- A turn is due at an instruction: it is the server's, or a const or a field whose value a step behind its own reads.
abbrev pub is_due : Program → List Part → ℕ → Bool
is_due f split i =
    if is_input (step_at f i).work then nat_lt (suc i) (last_read f split (length (values_below f i)))
    else is_server split i

-- the numbers from a first one to below an end that pass a test, each once and in order
abbrev pub AreListed : (ℕ → Bool) → ℕ → ℕ → List ℕ → Type 0
AreListed test first end [] = (j : ℕ) → first ≤ j → j < end → test j ≡ false
AreListed test first end (i ∷ rest) =
    (first ≤ i) × (i < end) × (test i ≡ true) × ((j : ℕ) → first ≤ j → j < i → test j ≡ false)
    × AreListed test (suc i) end rest

-- the instructions at which a turn is due, in order
abbrev pub AreDue : Program → List Part → List ℕ → Type 0
AreDue f split steps = AreListed (is_due f split) 0 (length f.code) steps
