-- All that was given to the link down is what the server sent down.
use Rattle.std.proofs.Common.{◌≡◌, ℕ, Bool, true, false, cond, List, [], ◌∷◌, ◌++◌, length, map, refl, sym, ap, ◌∙◌, Some, None, append-nil, append_assoc}
use Rattle.std.specs.Prelude.{Option, slice_get}
use Rattle.std.proofs.lemmas.Bool.{cond-true}
use Rattle.std.proofs.lemmas.List.{drop_at}
use Rattle.lossy_link.specs.Link.{Link, arrive, confirm, link_step, send}
use Rattle.run_model.specs.declared.event.Event.{Event}
use Rattle.run_model.specs.declared.event.Event.TheVariants.{Hold}
use Rattle.run_model.specs.declared.link_event.Link.{Link as LinkName}
use Rattle.run_model.specs.declared.link_event.LinkEvent.{LinkEvent}
use Rattle.run_model.specs.declared.link_event.LinkEvent.TheVariants.{World as InWorld, Transmit, Deliver, Confirm}
use Rattle.state_store.specs.Store.{start_store}
use Rattle.replay_state.specs.Answers.{Answers, Setup}
use Rattle.replay_state.specs.Journal.{Call, down_frame}
use Rattle.replay_state.specs.Program.{SplitProgram}
use Rattle.replay_state.specs.State.{State, first_state}
use Rattle.replay_state.specs.Step.{applies, let_go, step, steps, tick}
use Rattle.replay_contracts.specs.Inputs.{Inputs, setup_for, whole}
use Rattle.replay_contracts.specs.Replay.{answered}
use Rattle.lossy_replay.specs.Linked.{Linked, at_link, behind, first_linked, gives, let_by, linked_step, linked_steps, performed, performed_if}
use Rattle.lossy_replay.specs.Replay.{frame_let_go, frames_down, linked_by, sent_down, sent_down_from, world_by}
use Rattle.lossy_link.specs.Sender.{unknown}
use Rattle.lossy_link.proofs.Faithful.{arrived_items, confirmed_items, sent_items}
use Rattle.lossy_replay.proofs.Items.{none_behind}
use Rattle.lossy_replay.proofs.NotedItems.{applied_step}
use Rattle.lossy_replay.proofs.EventPerformed.{IsAs, is_as, lets_go}
use Rattle.lossy_replay.proofs.Placed.{keeps_given}

abbrev pub HasSentDown : Inputs → List Call → Linked → Type 0
HasSentDown x calls l = l.down.items ≡ frames_down x calls l.events

-- ---- one event more

one_step_more : (setup : Setup) (a : Answers) (st : State) (events : List Event) (event : Event)
    → steps setup a st (events ++ event ∷ []) ≡ step setup a (steps setup a st events) event
one_step_more setup a st [] event = refl
one_step_more setup a st (first ∷ events) event = one_step_more setup a (step setup a st first) events event

one_more : (x : Inputs) (calls : List Call) (st : State) (events : List Event) (event : Event)
    → sent_down_from x calls st (events ++ event ∷ [])
    ≡ sent_down_from x calls st events ++ sent_down x calls (steps (setup_for x) (answered x calls) st events) event
one_more x calls st [] event = append-nil (sent_down x calls st event)
one_more x calls st (first ∷ events) event =
    let next = step (setup_for x) (answered x calls) st first in
    ap (λ (frames : List (List ℕ)). sent_down x calls st first ++ frames) (one_more x calls next events event)
    ∙ sym (append_assoc (sent_down x calls st first) (sent_down_from x calls next events)
    (sent_down x calls (steps (setup_for x) (answered x calls) next events) event))

-- ---- what an event gives to the link down

let_go_gives : (s : SplitProgram) (calls : List Call) (st : State) (j : ℕ) (o : Option (ℕ × ℕ))
    → map (down_frame s calls (let_go (tick st) j o)) (behind st.down (let_go (tick st) j o).down) ≡ frame_let_go s calls st o
let_go_gives s calls st j None = ap (map (down_frame s calls (tick st))) (none_behind st.down)
let_go_gives s calls st j (Some (n, need)) =
    ap (map (down_frame s calls (let_go (tick st) j (Some (n, need))))) (drop_at st.down (n ∷ []) (length st.down) refl)

given_down : (x : Inputs) (calls : List Call) (l : Linked) (st : State) {event own : Event} → IsAs l event own → applies (setup_for x) st own ≡ true
    → (gives (world_by x calls) l event st (step (setup_for x) (answered x calls) st own)).down.items ≡ l.down.items ++ sent_down x calls st own
given_down x calls l st (lets_go j) may =
    let setup = setup_for x in
    let items = l.down.items in
    let held = slice_get st.held j in
    ap (λ (s : State). items ++ map (down_frame (whole x) calls s) (behind st.down s.down)) (applied_step setup (answered x calls) st (Hold j) may)
    ∙ ap (λ (frames : List (List ℕ)). items ++ frames)
    (let_go_gives (whole x) calls st j held ∙ sym (cond-true (applies setup st (Hold j)) (frame_let_go (whole x) calls st held) [] may))
given_down x calls l st kind may = sym (append-nil l.down.items)

-- ---- one event of a schedule more

sent_by : (x : Inputs) (calls : List Call) (l : Linked) (event own : Event) → let_by l ((world_by x calls).at l.events) event ≡ Some own
    → applies (setup_for x) ((world_by x calls).at l.events) own ≡ true → HasSentDown x calls l
    → HasSentDown x calls (performed (world_by x calls) l event own)
sent_by x calls l event own is may sent =
    let setup = setup_for x in
    let a = answered x calls in
    let w = world_by x calls in
    let first = first_state (start_store x.program.objects) in
    let st = w.at l.events in
    ap (λ (next : State). (gives w l event st next).down.items) (one_step_more setup a first l.events own)
    ∙ (given_down x calls l st (is_as l st event own is) may
    ∙ (ap (λ (items : List (List ℕ)). items ++ sent_down x calls st own) sent ∙ sym (one_more x calls first l.events own)))

sent_if : (x : Inputs) (calls : List Call) (l : Linked) (event own : Event) (b : Bool)
    → let_by l ((world_by x calls).at l.events) event ≡ Some own → applies (setup_for x) ((world_by x calls).at l.events) own ≡ b
    → HasSentDown x calls l → HasSentDown x calls (cond b (performed (world_by x calls) l event own) l)
sent_if x calls l event own true is may sent = sent_by x calls l event own is may sent
sent_if x calls l event own false is may sent = sent

sent_where : (x : Inputs) (calls : List Call) (l : Linked) (event : Event) (o : Option Event)
    → let_by l ((world_by x calls).at l.events) event ≡ o → HasSentDown x calls l
    → HasSentDown x calls (performed_if (setup_for x) (world_by x calls) l event o)
sent_where x calls l event None is sent = sent
sent_where x calls l event (Some own) is sent =
    sent_if x calls l event own (applies (setup_for x) ((world_by x calls).at l.events) own) is refl sent

-- a change of one link that leaves its items
sent_still : (change : Link → Link) → ((l : Link) → (change l).items ≡ l.items) → (x : Inputs) (calls : List Call) (l : Linked)
    (name : LinkName) → HasSentDown x calls l → HasSentDown x calls (at_link change l name)
sent_still change stays x calls l name sent =
    let k = keeps_given change stays l name in k.down ∙ (sent ∙ ap (λ (es : List Event). frames_down x calls es) (sym k.events))

sent_on : (x : Inputs) (calls : List Call) (l : Linked) (event : LinkEvent) → HasSentDown x calls l
    → HasSentDown x calls (linked_step (setup_for x) (world_by x calls) l event)
sent_on x calls l (InWorld event) sent = sent_where x calls l event (let_by l ((world_by x calls).at l.events) event) refl sent
sent_on x calls l (Transmit name j) sent = sent_still (λ one. link_step one (send j)) (λ one. sent_items one (slice_get (unknown one.items one.known) j)) x calls l name sent
sent_on x calls l (Deliver name j) sent = sent_still (λ one. link_step one (arrive j)) (λ one. arrived_items one (slice_get one.sent j)) x calls l name sent
sent_on x calls l (Confirm name j) sent = sent_still (λ one. link_step one (confirm j)) (λ one. confirmed_items one (slice_get one.back j)) x calls l name sent

sent_through : (x : Inputs) (calls : List Call) (l : Linked) (schedule : List LinkEvent) → HasSentDown x calls l
    → HasSentDown x calls (linked_steps (setup_for x) (world_by x calls) l schedule)
sent_through x calls l [] sent = sent
sent_through x calls l (event ∷ schedule) sent =
    sent_through x calls (linked_step (setup_for x) (world_by x calls) l event) schedule (sent_on x calls l event sent)

pub all_sent_down : (x : Inputs) (calls : List Call) (schedule : List LinkEvent) → HasSentDown x calls (linked_by x calls schedule)
all_sent_down x calls schedule = sent_through x calls first_linked schedule refl
