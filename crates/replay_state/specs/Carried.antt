-- A fact about each packet that went up.
use Rattle.std.specs.Prelude.{◌≡◌, ℕ, false}
pub use Rattle.run_model.specs.Members.{Member}
use Rattle.replay_state.specs.State.{State, Pass}

-- it holds of each packet that is on its way up, at the server, on its way down or in a pass behind the server
pub record Carried (P : ℕ → Type 0) (st : State) : Type 0 where
  pub up : (n : ℕ) → Member n st.up → P n
  pub held : (n need : ℕ) → Member (n, need) st.held → P n
  pub down : (n : ℕ) → Member n st.down → P n
  pub passes : (pass : Pass) → Member pass st.passes → pass.pre ≡ false → P pass.number
