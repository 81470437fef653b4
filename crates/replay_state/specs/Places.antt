-- Where packets are, and how far they have come.
use Rattle.std.specs.Prelude.{◌≡◌, ◌≢◌, ℕ, true, false, Some, slice_get}
use Rattle.state_store.specs.Store.{Store}
use Rattle.replay_state.specs.State.{State, Pass, Entered, Up, Held}

-- the server ran packet n, and it isn't released
abbrev pub IsHeld : State → ℕ → Type 0
IsHeld st n =
    (admitted decided version : ℕ) × (over : Store)
    × (slice_get st.progress n ≡ Some (Held admitted decided version over))

-- each list of the state has packets that have come so far
pub record HavePlaces (st : State) : Type 0 where
  pub entered : (j : ℕ) (pass : Pass) → slice_get st.passes j ≡ Some pass → pass.pre ≡ true
      → (admitted : ℕ) × (slice_get st.progress pass.number ≡ Some (Entered admitted pass.version))
  pub up : (j n : ℕ) → slice_get st.up j ≡ Some n → (admitted : ℕ) × (slice_get st.progress n ≡ Some (Up admitted))
  pub held : (j n need : ℕ) → slice_get st.held j ≡ Some (n, need) → IsHeld st n
  pub down : (j n : ℕ) → slice_get st.down j ≡ Some n → IsHeld st n
  pub behind : (j : ℕ) (pass : Pass) → slice_get st.passes j ≡ Some pass → pass.pre ≡ false → IsHeld st pass.number
  -- no pass behind the server is over a packet that is still to come down, and none of a kind is over a packet of another
  pub comes_once : (i j n : ℕ) (pass : Pass) → slice_get st.down i ≡ Some n → slice_get st.passes j ≡ Some pass
      → pass.pre ≡ false → pass.number ≢ n
  pub passes_once : (i j : ℕ) (one other : Pass) → slice_get st.passes i ≡ Some one → slice_get st.passes j ≡ Some other
      → one.pre ≡ other.pre → one.number ≡ other.number → i ≡ j
