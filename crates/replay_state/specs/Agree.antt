-- Where two lots of answers agree.
use Rattle.std.specs.Prelude.{◌≡◌, ◌≤◌, ℕ, true, false, ⊤, Some, List, [], ◌∷◌, length, slice_get}
use Rattle.state_store.specs.Store.{Store}
use Rattle.replay_state.specs.Answers.{Answers, Setup}
use Rattle.replay_state.specs.State.{State, Pass, Held, store_at}
use Rattle.run_model.specs.declared.event.Event.{Event}
use Rattle.run_model.specs.declared.event.Event.TheVariants.{Admit, Stage, Serve, Down}
use Rattle.replay_state.specs.Step.{applies, pass_of, step}

-- the same ends this pass
pub record EndAlike (a b : Answers) (st : State) (pass : Pass) : Type 0 where
  pub pre : pass.pre ≡ true
      → a.pre (store_at st.stores pass.version) pass.number ≡ b.pre (store_at st.stores pass.version) pass.number
  pub post : (admitted decided version : ℕ) (over : Store) → pass.pre ≡ false
      → slice_get st.progress pass.number ≡ Some (Held admitted decided version over)
      → a.post over pass.number ≡ b.post over pass.number

-- the server's run of a packet is the same
pub record RunAlike (a b : Answers) (st : State) (n : ℕ) : Type 0 where
  pub after : a.after st.store n ≡ b.after st.store n
  pub changes : a.changes st.store n ≡ b.changes st.store n

-- what an event asks has the same answers
abbrev pub AgreeOn : Setup → Answers → Answers → State → Event → Type 0
AgreeOn setup a b st Admit =
    setup.pre_stages ≡ 0 → EndAlike a b st (pass_of st true (length st.progress) setup.pre_stages)
AgreeOn setup a b st (Stage j) =
    (pass : Pass) → pass.left ≤ 1 → slice_get st.passes j ≡ Some pass → EndAlike a b st pass
AgreeOn setup a b st (Serve j) = (n : ℕ) → slice_get st.up j ≡ Some n → RunAlike a b st n
AgreeOn setup a b st (Down j) =
    (n : ℕ) → setup.post_stages ≡ 0 → slice_get st.down j ≡ Some n
    → EndAlike a b st (pass_of st false n setup.post_stages)
AgreeOn setup a b st event = ⊤

-- and so of each event in turn, where it applies
abbrev pub Agree : Setup → Answers → Answers → State → List Event → Type 0
Agree setup a b st [] = ⊤
Agree setup a b st (event ∷ events) =
    (applies setup st event ≡ true → AgreeOn setup a b st event) × Agree setup a b (step setup a st event) events
