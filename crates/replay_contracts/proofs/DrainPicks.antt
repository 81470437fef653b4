-- What drain picks, event by event.
use Rattle.std.proofs.Common.{◌≡◌, List, [], ◌∷◌, ◌++◌, Option, Some, None, refl, sym, ◌∙◌, ap}
use Rattle.std.specs.Prelude.{is_some}
use Rattle.state_store.specs.Store.{start_store}
use Rattle.run_model.specs.declared.event.Event.{Event}
use Rattle.switch_ir.specs.Tables.{Told}
use Rattle.replay_state.specs.Answers.{Answers, Setup}
use Rattle.replay_state.specs.Drain.{Picks, next_event}
use Rattle.replay_state.specs.State.{State, first_state}
use Rattle.replay_state.specs.Step.{state_of, steps}
use Rattle.replay_state.proofs.Laws.{drain_ends-more}
use Rattle.replay_state.proofs.Steps.{steps_append}

pub state_append : (setup : Setup) (a : Answers) (es more : List Event) → state_of setup a (es ++ more) ≡ steps setup a (state_of setup a es) more
state_append setup a es more = steps_append setup a (first_state (start_store setup.objects)) es more

pub some_too : (o p : Option Told) (t : Told) → is_some o ≡ is_some p → o ≡ Some t → (u : Told) × (p ≡ Some u)
some_too o None t same is = let bad = sym same ∙ ap is_some is in cc
some_too o (Some u) t same is = (u, refl)

-- one more that is picked where a state is that of the events so far
pub picks_next : (setup : Setup) (a : Answers) (events more : List Event) (event : Event) (st : State) → st ≡ state_of setup a (events ++ more)
    → Picks setup a (state_of setup a events) more
    → next_event setup st ≡ Some event → Picks setup a (state_of setup a events) (more ++ event ∷ [])
picks_next setup a events more event st is picks next =
    drain_ends-more setup a (state_of setup a events) more event picks (sym (ap (next_event setup) (is ∙ state_append setup a events more)) ∙ next)
