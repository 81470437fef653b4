-- What is asked of answers, so that whole runs of packets, one after the other, do the same.
use Rattle.std.specs.Prelude.{◌≡◌, ◌<◌, ◌≤◌, ℕ, Bool, true, Some, List, length}
use Rattle.packet_fields.specs.declared.verdict.Verdict.{Verdict}
use Rattle.state_store.specs.Kept.{IsKept}
use Rattle.state_store.specs.Store.{Store, object_at, start_store}
use Rattle.writeback_table.specs.declared.command.Update.{Update}
use Rattle.writeback_table.specs.Batches.{changed_by, count_of, TakesAll}
use Rattle.replay_state.specs.Answers.{Answers, Setup}

-- two stores have the same replicated objects
abbrev pub IsAlike : (ℕ → Bool) → Store → Store → Type 0
IsAlike replicated store other = (o : ℕ) → replicated o ≡ true → object_at store o ≡ object_at other o

-- what holds of a packet and a store that keeps what was declared
pub record IsSoundAt (setup : Setup) (a : Answers) (store : Store) (n : ℕ) : Type 0 where
  -- the server's run leaves a store that keeps what was declared
  pub kept : IsKept setup.objects (a.after store n)
  -- a packet that the switch finishes leaves each store with the same replicated objects, and has its verdict there
  pub fast : (verdict : Verdict) (other : Store) → a.pre store n ≡ Some verdict → IsKept setup.objects other
      → IsAlike setup.replicated store other → (a.after other n ≡ other) × (a.post other n ≡ verdict)
  -- the changes turn each replicated object into the one that the run leaves; each finds room there in turn, and there
  -- is room to stage them
  pub changed : (o : ℕ) → setup.replicated o ≡ true
      → object_at (a.after store n) o ≡ changed_by o (object_at store o) (a.changes store n)
  pub taken : (o : ℕ) → setup.replicated o ≡ true → TakesAll o (object_at store o) (a.changes store n)
  pub room : (o : ℕ) → setup.replicated o ≡ true → count_of o (a.changes store n) ≤ setup.writeback

pub record AreSound (setup : Setup) (a : Answers) : Type 0 where
  pub start : IsKept setup.objects (start_store setup.objects)
  pub each : (n : ℕ) (store : Store) → n < setup.total → IsKept setup.objects store → IsSoundAt setup a store n
  -- changes that fit into one batch find room to be staged
  pub fits : (updates : List Update) (o : ℕ) → setup.fits updates ≡ true → setup.replicated o ≡ true
      → count_of o updates ≤ setup.writeback

-- Whatever else they are, no server's run makes more changes than there are instructions for them.
pub record AreFew (setup : Setup) (a : Answers) : Type 0 where
  pub each : (n : ℕ) (store : Store) → length (a.changes store n) ≤ setup.writes
