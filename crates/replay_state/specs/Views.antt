-- What a pass under way sees of the objects that the switch keeps.
use Rattle.std.specs.Prelude.{◌≡◌, ◌<◌, ℕ, true, Some, length, slice_get}
use Rattle.state_store.specs.Kept.{IsKept}
use Rattle.state_store.specs.Store.{Contents, Store, object_at}
use Rattle.writeback_table.specs.Pair.{visible}
use Rattle.replay_state.specs.Answers.{Setup}
use Rattle.replay_state.specs.State.{State, Pass, store_at}
use Rattle.replay_state.specs.Tables.{pair_now}

-- the table of object o that its lookups see: with the bit that stood at its entry, over the tables as they are now
abbrev pub view_of : Setup → State → Pass → ℕ → Contents
view_of setup st pass o = visible pass.bit (pair_now setup st o)

-- each pass sees the objects of the version with which it entered
pub record KeepViews (setup : Setup) (st : State) : Type 0 where
  pub each : (j o : ℕ) (pass : Pass) → slice_get st.passes j ≡ Some pass → setup.replicated o ≡ true
      → view_of setup st pass o ≡ (object_at (store_at st.stores pass.version) o).contents
  pub kept : (j : ℕ) (pass : Pass) → slice_get st.passes j ≡ Some pass
      → IsKept setup.objects (store_at st.stores pass.version)
  -- which is one of those so far
  pub begun : (j : ℕ) (pass : Pass) → slice_get st.passes j ≡ Some pass → pass.version < length st.stores

-- the pass that a packet would enter with now, or one that is under way, sees the objects of this store
abbrev pub Sees : Setup → State → Pass → Store → Type 0
Sees setup st pass store = (o : ℕ) → setup.replicated o ≡ true
    → view_of setup st pass o ≡ (object_at store o).contents
