-- A replay over links goes on by one event.
use Rattle.std.proofs.Common.{◌≡◌, ◌⊎◌, ◌≤◌, ◌+◌, ℕ, List, [], ◌∷◌, ◌++◌, length, refl, sym, ap, ◌∙◌, subst, Some, arith, append-nil, append_assoc, inl, inr}
use Rattle.std.proofs.lemmas.List.{length_push}
use Rattle.lossy_link.specs.Link.{Link}
use Rattle.run_model.specs.declared.event.Event.{Event}
use Rattle.run_model.specs.declared.link_event.Link.{Link as LinkName}
use Rattle.run_model.specs.declared.link_event.LinkEvent.{LinkEvent}
use Rattle.switch_ir.specs.Port.{PortState}
use Rattle.switch_ir.specs.Tables.{Told}
use Rattle.replay_state.proofs.Laws.{a_run_is_answered_by_its_calls-state_stays as state_stays}
use Rattle.replay_state.specs.Journal.{Call}
use Rattle.replay_state.specs.State.{State}
use Rattle.replay_contracts.specs.Inputs.{Inputs, setup_for, whole}
use Rattle.replay_contracts.specs.Replay.{IsReplay}
use Rattle.replay_course.specs.declared.course.Course.{Course}
use Rattle.lossy_replay.specs.Linked.{World, Linked, at_link, first_linked, linked_step}
use Rattle.lossy_replay.specs.Linking.{AreLinks, ArePlaced, HasFew, IsLinking, StayPlaced}
use Rattle.lossy_replay.specs.Replay.{HasItems, frames_down, linked_by, world_by, world_of}
use Rattle.lossy_replay.specs.declared.line.Line.{Line}
use Rattle.lossy_replay.specs.Ways.{IsWay}
use Rattle.lossy_replay.specs.declared.links.Links.{Links}
use Rattle.lossy_replay.specs.declared.way.Way.{Way}
use Rattle.lossy_replay.proofs.CourseItems.{one_event_more}
use Rattle.lossy_replay.proofs.Placed.{keeps_given, placed_still}

pub few_more : (n m : ℕ) (line : Line) → n ≤ m → HasFew n line → HasFew m line
few_more n m line more few = record { items = omega (arith, few.items); sent = omega (arith, few.sent); got = omega (arith, few.got) }

-- the links of frames may be others, those of commands and acknowledgements stay
pub ways_on : (n m : ℕ) (l new : Linked) (links : Links) (up down : Way) → AreLinks n l links → n ≤ m → new.ctl ≡ l.ctl → new.ack ≡ l.ack
    → IsWay new.up new.ran up → IsWay new.down new.taken down → HasFew m up.line → HasFew m down.line
    → AreLinks m new (record links { up = up; down = down })
ways_on n m l new links up down are more ctl ack is_up is_down few_up few_down = record {
  up = is_up;
  down = is_down;
  ctl = are.ctl;
  ctl_is = are.ctl_is ∙ sym ctl;
  ack = are.ack;
  ack_is = are.ack_is ∙ sym ack;
  few_up = few_up;
  few_down = few_down;
  few_ctl = few_more n m links.ctl more are.few_ctl;
  few_ack = few_more n m links.ack more are.few_ack;
}

-- links that stay as they are
pub links_stay : (n : ℕ) (l : Linked) (links : Links) → AreLinks n l links → AreLinks (n + 1) l links
links_stay n l links are =
    ways_on n (n + 1) l l links links.up links.down are (omega arith) refl refl are.up are.down
    (few_more n (n + 1) links.up.line (omega arith) are.few_up) (few_more n (n + 1) links.down.line (omega arith) are.few_down)

-- ---- each event of a schedule

-- both parts of nothing are nothing
pub no_parts : {X : Type 0} (xs ys : List X) → [] ≡ xs ++ ys → (xs ≡ []) × (ys ≡ [])
no_parts [] ys is = (refl, sym is)
no_parts (x ∷ xs) ys is = absurd cc

-- what stands before the last event, or all
last_or : {X : Type 0} (schedule before behind : List X) (event : X) → schedule ++ event ∷ [] ≡ before ++ behind
    → (behind ≡ []) ⊎ ((rest : List X) × (schedule ≡ before ++ rest))
last_or [] [] behind event is = inr ([], refl)
last_or [] (b ∷ before) behind event is = let rest : [] ≡ before ++ behind = cc in inl (no_parts before behind rest).1
last_or (s ∷ schedule) [] behind event is = inr (s ∷ schedule, refl)
last_or (s ∷ schedule) (b ∷ before) behind event is =
    let first : s ≡ b = cc in
    let rest : schedule ++ event ∷ [] ≡ before ++ behind = cc in
    elim (last_or schedule before behind event rest) [
      | inl none ↦ inl none
      | inr more ↦ inr (more.0, (λ i. first i ∷ more.1 i))
    ]

pub placed_more : (x : Inputs) (schedule : List LinkEvent) (event : LinkEvent) (calls : List Call) → StayPlaced x schedule calls
    → ((more : List Call) → ArePlaced (world_by x (calls ++ more)) (linked_by x (calls ++ more) (schedule ++ event ∷ [])))
    → StayPlaced x (schedule ++ event ∷ []) calls
placed_more x schedule event calls before_it now = λ more before behind is.
    elim (last_or schedule before behind event is) [
      | inl none ↦ subst (λ (s : List LinkEvent). ArePlaced (world_by x (calls ++ more)) (linked_by x (calls ++ more) s))
          (is ∙ (ap (λ (s : List LinkEvent). before ++ s) none ∙ append-nil before)) (now more)
      | inr rest ↦ before_it more before rest.0 rest.1
    ]

pub placed_behind : (x : Inputs) (schedule : List LinkEvent) (calls one : List Call) → StayPlaced x schedule calls → StayPlaced x schedule (calls ++ one)
placed_behind x schedule calls one placed = λ more before behind is.
    subst (λ (cs : List Call). ArePlaced (world_by x cs) (linked_by x cs before)) (sym (append_assoc calls one more)) (placed (one ++ more) before behind is)

-- the links as they are now
pub placed_now : (x : Inputs) (schedule : List LinkEvent) (links : Links) (c : Course) (port : PortState)
    (linking : IsLinking x schedule links c port) (more : List Call) → ArePlaced (world_by x (linking.calls ++ more)) linking.linked
placed_now x schedule links c port linking more =
    subst (λ (l : Linked). ArePlaced (world_by x (linking.calls ++ more)) l) (linking.stands more)
    (linking.placed more schedule [] (sym (append-nil schedule)))

pub stays_at : (x : Inputs) (events : List Event) (calls more : List Call) (st : State) (port : PortState)
    → IsReplay x events calls st port → (world_by x (calls ++ more)).at events ≡ st
stays_at x events calls more st port replay = sym (state_stays (setup_for x) (whole x) x.packets events calls more st replay.answered)

pub told_at : (x : Inputs) (events : List Event) (calls : List Call) (st : State) (port : PortState) (tables : Told)
    → IsReplay x events calls st port → port.told ≡ Some tables → (world_of x).at events ≡ st
told_at x events calls st port tables replay is = sym (replay.told tables is).tied.same

-- an event that no event of the world comes of
pub stays_in_world : (x : Inputs) (schedule : List LinkEvent) (event : LinkEvent) (links next : Links) (c : Course) (port : PortState)
    (linking : IsLinking x schedule links c port) (l' : Linked)
    → ((w : World) → w.at linking.linked.events ≡ linking.st → linked_step (setup_for x) w linking.linked event ≡ l')
    → l'.events ≡ linking.linked.events → HasItems x l' linking.calls linking.st → AreLinks (length schedule + 1) l' next
    → ((w : World) → ArePlaced w linking.linked → ArePlaced w l')
    → IsLinking x (schedule ++ event ∷ []) next c port
stays_in_world x schedule event links next c port linking l' steps events items are placed =
    let setup = setup_for x in
    let long = length_push schedule event in
    let stands : (more : List Call) → linked_by x (linking.calls ++ more) (schedule ++ event ∷ []) ≡ l' = λ more.
    one_event_more setup (world_by x (linking.calls ++ more)) first_linked schedule event
    ∙ (ap (λ (l : Linked). linked_step setup (world_by x (linking.calls ++ more)) l event) (linking.stands more)
    ∙ steps (world_by x (linking.calls ++ more)) (stays_at x linking.linked.events linking.calls more linking.st port linking.replay)) in
    record {
      plain = linking.plain;
      calls = linking.calls;
      st = linking.st;
      linked = l';
      stands = stands;
      placed = placed_more x schedule event linking.calls linking.placed
          (λ more. subst (λ (l : Linked). ArePlaced (world_by x (linking.calls ++ more)) l) (sym (stands more))
          (placed (world_by x (linking.calls ++ more)) (placed_now x schedule links c port linking more)));
      replay = subst (λ (es : List Event). IsReplay x es linking.calls linking.st port) (sym events) linking.replay;
      shown = linking.shown;
      going = linking.going;
      counted = linking.counted ∙ ap (λ (es : List Event). length es) (sym events);
      few = subst (λ (es : List Event). length es ≤ length (schedule ++ event ∷ [])) (sym events) (omega (arith, linking.few, long));
      items = items;
      links_are = subst (λ (n : ℕ). AreLinks n l' next) (sym long) are;
      told = λ tables is.
          one_event_more setup (world_of x) first_linked schedule event
          ∙ (ap (λ (l : Linked). linked_step setup (world_of x) l event) (linking.told tables is)
          ∙ steps (world_of x) (told_at x linking.linked.events linking.calls linking.st port tables linking.replay is));
    }

-- ---- an event of a link

-- a change of one link that leaves its items
pub link_on : (change : Link → Link) → ((l : Link) → (change l).items ≡ l.items) → (x : Inputs) (schedule : List LinkEvent) (event : LinkEvent)
    (name : LinkName) (links next : Links) (c : Course) (port : PortState) (linking : IsLinking x schedule links c port)
    → ((w : World) → linked_step (setup_for x) w linking.linked event ≡ at_link change linking.linked name)
    → AreLinks (length schedule + 1) (at_link change linking.linked name) next → IsLinking x (schedule ++ event ∷ []) next c port
link_on change stays x schedule event name links next c port linking steps are =
    let l = linking.linked in
    let l' = at_link change l name in
    let k = keeps_given change stays l name in
    let items = linking.items in
    let sent_down = k.down ∙ (items.down ∙ ap (λ (es : List Event). frames_down x linking.calls es) (sym k.events)) in
    stays_in_world x schedule event links next c port linking l' (λ w at. steps w) k.events
    (record { up = k.up ∙ items.up; down = sent_down; ctl = k.ctl ∙ items.ctl; ack = k.ack ∙ items.ack }) are
    (λ w. placed_still w l l' k (length schedule + 1) next are)
