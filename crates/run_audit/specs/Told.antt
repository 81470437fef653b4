-- What a report tells of its packets in its order, and of what they leave, against a serial run.
use Rattle.std.specs.Prelude.{◌≡◌, ◌≢◌, ◌<◌, ◌≤◌, ℕ, List, Option, Some, slice_get, option_map}
use Rattle.packet_fields.specs.declared.packet.Packet.{Packet}
use Rattle.packet_fields.specs.declared.verdict.Verdict.{Verdict}
use Rattle.element_lang.specs.Tree.{Tree}
use Rattle.run_model.specs.declared.fate.Fate.{Fate}
use Rattle.run_model.specs.declared.run.ObjectRows.{ObjectRows}
use Rattle.run_model.specs.declared.run.Run.{Run}
use Rattle.run_model.specs.Meaning.{Meaning}
use Rattle.run_model.specs.Parts.{parts_of}
use Rattle.run_model.specs.Serialises.{admitted_at, released_at, run_store, run_verdicts}
use Rattle.run_audit.specs.Source.{source_of}
use Rattle.run_audit.specs.Counts.{CountsAgree}
use Rattle.run_audit.specs.Order.{InOrder, DifferFirst, first_of}

-- ## What holds of a report that is right

-- a packet that was released before another was admitted stands before it
abbrev pub Respects : Run → Type 0
Respects run = (i j p q r a : ℕ) (y : Verdict) → slice_get run.order i ≡ Some p → slice_get run.order j ≡ Some q
    → released_at (slice_get run.fates p) ≡ Some (r, y) → admitted_at (slice_get run.fates q) ≡ Some a → r < a → i < j

-- each released packet has the verdict of the serial run
abbrev pub HasVerdicts : Meaning → Run → Type 0
HasVerdicts m run = (i p r : ℕ) (y : Verdict) → slice_get run.order i ≡ Some p
    → released_at (slice_get run.fates p) ≡ Some (r, y) → slice_get (run_verdicts m run) i ≡ Some y

-- the rows are those that the serial run leaves
abbrev pub HasRows : Meaning → Run → Type 0
HasRows m run = run.objects ≡ parts_of m.objects (run_store m run)

-- The counts agree, and the report tells a serial run of the source, as `Serialises` says, but that packets which one
-- event of one version decided stand by number.
pub record IsTrueReport (m : Tree) (packets : List Packet) (run : Run) : Type 0 where
  pub counts : CountsAgree packets run
  pub order : InOrder run
  pub respects : Respects run
  pub verdicts : HasVerdicts (source_of m packets) run
  pub rows : HasRows (source_of m packets) run

-- ## What is wrong with another

-- the packet at this place of an order was admitted after one was released that doesn't stand before it, and that may
-- be the packet itself
pub record IsLate (fates : List Fate) (order : List ℕ) (j : ℕ) : Type 0 where
  pub i : ℕ
  pub p : ℕ
  pub q : ℕ
  pub r : ℕ
  pub a : ℕ
  pub y : Verdict
  pub other : slice_get order i ≡ Some p
  pub this : slice_get order j ≡ Some q
  pub released : released_at (slice_get fates p) ≡ Some (r, y)
  pub admitted : admitted_at (slice_get fates q) ≡ Some a
  pub earlier : r < a
  pub not_before : j ≤ i

-- the packet at this place was released, and not with the verdict of the serial run
pub record IsFalse (m : Meaning) (run : Run) (j : ℕ) : Type 0 where
  pub q : ℕ
  pub r : ℕ
  pub y : Verdict
  pub this : slice_get run.order j ≡ Some q
  pub released : released_at (slice_get run.fates q) ≡ Some (r, y)
  pub differs : slice_get (run_verdicts m run) j ≢ Some y

-- this is the number of the packet at the first such place of the order
pub record IsFirst (Is : ℕ → Type 0) (order : List ℕ) (p : ℕ) : Type 0 where
  pub place : ℕ
  pub number : slice_get order place ≡ Some p
  pub is : Is place
  pub first : (i : ℕ) → i < place → Is i → ⊥

-- which object a part is of
abbrev pub object_of : Option ObjectRows → Option ℕ
object_of part = option_map (λ (p : ObjectRows). p.object) part

-- the object of the part that is wanted at the first place at which another one is told, or none; where no more are
-- wanted, it is the object of the part that is told
pub record IsFirstUnlike (told wanted : List ObjectRows) (object : ℕ) : Type 0 where
  pub place : ℕ
  pub first : DifferFirst told wanted place
  pub number : first_of (object_of (slice_get wanted place)) (object_of (slice_get told place)) ≡ Some object

-- the rows aren't those that the serial run leaves, and this is the first object with others
abbrev pub IsUnlike : Meaning → Run → ℕ → Type 0
IsUnlike m run object = IsFirstUnlike run.objects (parts_of m.objects (run_store m run)) object
