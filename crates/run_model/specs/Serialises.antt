-- What a run promises: that a program with this meaning, run on whole packets one after the other, does the same.
use Rattle.std.specs.Prelude.{◌≡◌, ◌<◌, ◌≤◌, ◌⊎◌, ℕ, suc, ◌==◌, Bool, true, false, if◌then◌else◌, Option, Some, None}
use Rattle.std.specs.Prelude.{is_some, List, [], ◌∷◌, length, slice_get}
use Rattle.packet_fields.specs.declared.verdict.Verdict.{Verdict}
use Rattle.state_store.specs.Store.{Store, start_store, object_at, rows_of}
use Rattle.run_model.specs.declared.fate.Fate.{Fate}
use Rattle.run_model.specs.declared.fate.Fate.TheVariants.{Pass, Up, Held, Slow, Fast}
use Rattle.run_model.specs.declared.run.ObjectRows.{ObjectRows}
use Rattle.run_model.specs.declared.run.Run.{Run}
use Rattle.run_model.specs.Meaning.{Meaning, serial_store, serial_verdicts}
use Rattle.run_model.specs.Parts.{parts_of}

-- ## What a fate says, as far as it has come

-- the event that admitted the packet
abbrev pub admitted_at : Option Fate → Option ℕ
admitted_at None = None
admitted_at (Some (Pass a)) = Some a
admitted_at (Some (Up a)) = Some a
admitted_at (Some (Held a d v)) = Some a
admitted_at (Some (Slow a d v r y)) = Some a
admitted_at (Some (Fast a d v r y)) = Some a

-- the version and the event that decided it
abbrev pub decided_at : Option Fate → Option (ℕ × ℕ)
decided_at None = None
decided_at (Some (Pass a)) = None
decided_at (Some (Up a)) = None
decided_at (Some (Held a d v)) = Some (v, d)
decided_at (Some (Slow a d v r y)) = Some (v, d)
decided_at (Some (Fast a d v r y)) = Some (v, d)

-- the event that released it, and its verdict
abbrev pub released_at : Option Fate → Option (ℕ × Verdict)
released_at None = None
released_at (Some (Pass a)) = None
released_at (Some (Up a)) = None
released_at (Some (Held a d v)) = None
released_at (Some (Slow a d v r y)) = Some (r, y)
released_at (Some (Fast a d v r y)) = Some (r, y)

-- the switch finished it
abbrev pub is_fast : Option Fate → Bool
is_fast None = false
is_fast (Some (Pass a)) = false
is_fast (Some (Up a)) = false
is_fast (Some (Held a d v)) = false
is_fast (Some (Slow a d v r y)) = false
is_fast (Some (Fast a d v r y)) = true

-- its preprocessing is under way
abbrev pub is_passing : Option Fate → Bool
is_passing None = false
is_passing (Some (Pass a)) = true
is_passing (Some (Up a)) = false
is_passing (Some (Held a d v)) = false
is_passing (Some (Slow a d v r y)) = false
is_passing (Some (Fast a d v r y)) = false

-- decided by an earlier version, or by an earlier event of the same version
abbrev pub IsEarlier : ℕ × ℕ → ℕ × ℕ → Type 0
IsEarlier x y = (x.0 < y.0) ⊎ ((x.0 ≡ y.0) × (x.1 < y.1))

-- ## The serial run

-- how often a number stands in a list
abbrev pub times : ℕ → List ℕ → ℕ
times p [] = 0
times p (x ∷ xs) = if x == p then suc (times p xs) else times p xs

-- the store that is left, and the verdicts, when the decided packets run in the order that the run tells, from the
-- start store on
abbrev pub run_store : Meaning → Run → Store
run_store m run = serial_store m (start_store m.objects) run.order

abbrev pub run_verdicts : Meaning → Run → List Verdict
run_verdicts m run = serial_verdicts m (start_store m.objects) run.order

-- ## The promises

-- What a run tells is what whole runs do to its decided packets one after the other.
pub record Serialises (m : Meaning) (run : Run) : Type 0 where
  -- every admitted packet is one of the trace
  pub admitted : length run.fates ≤ run.total
  -- the order has each decided packet once, and no other
  pub once : (p : ℕ) → times p run.order ≡ (if is_some (decided_at (slice_get run.fates p)) then 1 else 0)
  -- by version, and in one version by deciding event
  pub ascends : (i j p q : ℕ) (x y : ℕ × ℕ) → slice_get run.order i ≡ Some p → slice_get run.order j ≡ Some q
      → decided_at (slice_get run.fates p) ≡ Some x → decided_at (slice_get run.fates q) ≡ Some y
      → i < j → IsEarlier x y
  -- the serial run leaves the rows that are told
  pub rows : run.objects ≡ parts_of m.objects (run_store m run)
  -- and gives each released packet its verdict, at its place in the order
  pub verdicts : (i p r : ℕ) (y : Verdict) → slice_get run.order i ≡ Some p
      → released_at (slice_get run.fates p) ≡ Some (r, y) → slice_get (run_verdicts m run) i ≡ Some y
  -- a packet that was released before another was admitted stands before it
  pub respects : (i j p q r a : ℕ) (y : Verdict) → slice_get run.order i ≡ Some p → slice_get run.order j ≡ Some q
      → released_at (slice_get run.fates p) ≡ Some (r, y) → admitted_at (slice_get run.fates q) ≡ Some a → r < a → i < j

-- Every admitted packet was released, with its verdict in that serial run.
pub record AllReleased (m : Meaning) (run : Run) : Type 0 where
  pub each : (p : ℕ) → p < length run.fates
      → (i r : ℕ) × (y : Verdict) × (slice_get run.order i ≡ Some p)
      × (released_at (slice_get run.fates p) ≡ Some (r, y)) × (slice_get (run_verdicts m run) i ≡ Some y)

-- The switch shows, of each object that it has, the rows that the serial run leaves.
abbrev pub ShowsWhatIsLeft : Meaning → Run → Type 0
ShowsWhatIsLeft m run = (i : ℕ) (shown : ObjectRows) → slice_get run.switch i ≡ Some shown
    → shown.rows ≡ rows_of (object_at (run_store m run) shown.object)

-- The trace is done: every packet of it was admitted, and released with its verdict in that serial run, and the switch
-- has caught up.
pub record IsDrained (m : Meaning) (run : Run) : Type 0 where
  pub all : length run.fates ≡ run.total
  pub complete : AllReleased m run
  pub shown : ShowsWhatIsLeft m run
