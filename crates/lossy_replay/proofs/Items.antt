-- What was given to the links in all, after one event more.
use Rattle.std.proofs.Common.{◌≡◌, ◌<◌, ◌≤◌, ◌+◌, ℕ, Bool, true, false, not, cond, List, [], ◌∷◌, ◌++◌, length, map, take, drop, refl, sym, ap, ◌∙◌, subst, Option, Some, None, arith, append-nil}
use Rattle.std.specs.Prelude.{◌==◌, nat_lt, remove, slice_get}
use Rattle.std.proofs.lemmas.Bool.{cond-true, eq-eqb, ltb-true}
use Rattle.std.proofs.lemmas.List.{drop_at, map-append, map_push}
use Rattle.std.proofs.lemmas.Option.{slice_get_past}
use Rattle.packet_fields.specs.declared.packet.Packet.{Packet}
use Rattle.packet_fields.specs.declared.verdict.Verdict.{Verdict}
use Rattle.writeback_table.specs.declared.command.Command.{Command}
use Rattle.writeback_table.specs.declared.command.Update.{Update}
use Rattle.lossy_link.specs.CommandBytes.{bytes_of}
use Rattle.output_commit.specs.Batches.{commands_in, merged}
use Rattle.output_commit.proofs.Laws.{a_batch_takes_up_others}
use Rattle.run_model.specs.declared.event.Event.{Event}
use Rattle.run_model.specs.declared.event.Event.TheVariants.{Admit, Send, Apply}
use Rattle.state_store.specs.Store.{Store}
use Rattle.replay_state.proofs.Laws.{a_run_is_answered_by_its_calls-fresh_up as fresh_up, a_run_is_answered_by_its_calls-once as end_once}
use Rattle.replay_state.proofs.Laws.{a_run_is_answered_by_its_calls-state_stays as state_stays, commands_are_applied_in_order}
use Rattle.replay_state.proofs.Laws.{passes_with_no_stages_end_at_once-fast as fast_step, passes_with_no_stages_end_at_once-slow as slow_step}
use Rattle.replay_state.specs.Answers.{Answers, Setup}
use Rattle.replay_state.specs.Commands.{applied_by, one_or_none}
use Rattle.replay_state.specs.Journal.{AsksCommand, AsksDown, AsksStageDown, AsksStageUp, AsksUp, Question, asks, asks_command, asks_down, question_of}
use Rattle.replay_state.specs.Journal.{Call, CalledStageUp, CalledUp, Finished, GoingUp, SentUp, UpAnswer}
use Rattle.replay_state.specs.Journal.{IsAnswered, frame_in, has_passed, is_up_end, journal, one_if, or_else, up_answer, up_end, up_ends, verdict_in}
use Rattle.replay_state.specs.Program.{SplitProgram, packet_at}
use Rattle.replay_state.specs.State.{State, Progress, applied_commands, seen, store_at}
use Rattle.replay_state.specs.Step.{applies, came, came_down, ended, entered, happens, idled, let_go, pass_of, served, state_of, step, tick, waits, with_changes}
use Rattle.replay_contracts.specs.Inputs.{Inputs, setup_for, whole}
use Rattle.replay_contracts.specs.Replay.{answered}
use Rattle.replay_course.specs.declared.course.Course.{Course}
use Rattle.lossy_replay.specs.Linked.{Linked, behind}
use Rattle.lossy_replay.specs.Linking.{newest, noted}
use Rattle.lossy_replay.specs.Replay.{HasItems, frames_down, frames_in, world_by}
use Rattle.lossy_replay.proofs.NotedItems.{HasFrames, applied_step, has_given, last_is, newest_up}
use Rattle.lossy_replay.proofs.EventPerformed.{IsAs, admits, after_event, does_next, lets_go, sends, serves, takes}
use Rattle.lemmas.proofs.Lists.{get_within, take_next, take_within}
use Rattle.lemmas.proofs.Tests.{and_first}
use Rattle.output_commit.proofs.MergedBatches.{push_commands}
use Rattle.replay_contracts.proofs.Asked.{none_asked}
use Rattle.split_answers.proofs.Tells.{end_up}

-- ---- the commands that were sent

abbrev pub sent_of : State → List Command
sent_of st = take st.sent (commands_in st.batches)

pub one_sent : (setup : Setup) (a : Answers) (st : State) → applies setup st Send ≡ true
    → sent_of (step setup a st Send) ≡ sent_of st ++ one_or_none (slice_get (commands_in (step setup a st Send).batches) st.sent)
one_sent setup a st may =
    let after = merged setup.fits st.sent st.batches in
    let step_is : step setup a st Send ≡ happens setup a (tick st) Send =
    cond-true (applies setup st Send) (happens setup a (tick st) Send) (idled (tick st)) may in
    let is = a_batch_takes_up_others setup.fits st.sent st.batches in
    let there = get_within (commands_in after) st.sent (is.goes_on (ltb-true st.sent (length (commands_in st.batches)) may)) in
    ap sent_of step_is
    ∙ (take_next (commands_in after) st.sent there.0 there.1
    ∙ ((λ i. is.stays st.sent (omega arith) i ++ there.0 ∷ [])
    ∙ (ap (λ (o : Option Command). sent_of st ++ one_or_none o) (sym there.1)
    ∙ ap (λ (s : State). sent_of st ++ one_or_none (slice_get (commands_in s.batches) st.sent)) (sym step_is))))

-- changes that come behind leave them
pub changes_behind : (store : Store) (updates : List Update) (st : State) → st.sent ≤ length (commands_in st.batches)
    → sent_of (with_changes store updates st) ≡ sent_of st
changes_behind store [] st few = refl
changes_behind store (u ∷ updates) st few =
    let more = (record { updates = u ∷ updates; versions = 1 }) ∷ [] in
    ap (take st.sent) (push_commands st.batches more) ∙ take_within (commands_in st.batches) (commands_in more) st.sent few

-- ---- what events leave of those that were sent

served_sent : (a : Answers) (st : State) (j : ℕ) (o : Option ℕ) → st.sent ≤ length (commands_in st.batches)
    → sent_of (served a st j o) ≡ sent_of st
served_sent a st j None few = refl
served_sent a st j (Some n) few = changes_behind (a.after st.store n) (a.changes st.store n) st few

pub let_go_only : (st : State) (j : ℕ) (o : Option (ℕ × ℕ)) → (let next = let_go st j o in next ≡ record st { held = next.held; down = next.down })
let_go_only st j None = refl
let_go_only st j (Some (n, need)) = refl

pub entered_only : (a : Answers) (st first : State) (n left : ℕ)
    → (let next = entered a st (pass_of first false n left) in next ≡ record st { passes = next.passes; progress = next.progress })
entered_only a st first n left =
    elim (left == 0) as (λ (b : Bool). let next = cond b (ended a st (pass_of first false n left)) (record st { passes = st.passes ++ pass_of first false n left ∷ [] }) in
    next ≡ record st { passes = next.passes; progress = next.progress }) [ true ↦ refl | false ↦ refl ]

down_sent : (setup : Setup) (a : Answers) (st : State) (j : ℕ) (o : Option ℕ) → sent_of (came_down setup a st j o) ≡ sent_of st
down_sent setup a st j None = refl
down_sent setup a st j (Some n) = ap sent_of (entered_only a (record st { down = remove st.down j }) st n setup.post_stages)

-- a packet that comes in
pub admitted_only : (setup : Setup) (a : Answers) (st : State) (o : Option Verdict) → setup.pre_stages ≡ 0
    → applies setup st Admit ≡ true → a.pre (store_at st.stores (seen st)) (length st.progress) ≡ o
    → (let next = step setup a st Admit in next ≡ record st { events = next.events; up = next.up; progress = next.progress })
admitted_only setup a st (Some y) none may is =
    subst (λ (s : State). s ≡ record st { events = s.events; up = s.up; progress = s.progress }) (sym (fast_step setup a st y none may is)) refl
admitted_only setup a st None none may is =
    subst (λ (s : State). s ≡ record st { events = s.events; up = s.up; progress = s.progress }) (sym (slow_step setup a st none may is)) refl

-- ---- the frames of calls

pub frames_behind : (calls more : List Call) → frames_in (calls ++ more) ≡ frames_in calls ++ frames_in more
frames_behind [] more = refl
frames_behind (CalledUp fine n packet (SentUp frame) ∷ calls) more = ap (λ (fs : List (List ℕ)). frame ∷ fs) (frames_behind calls more)
frames_behind (CalledStageUp n (SentUp frame) ∷ calls) more = ap (λ (fs : List (List ℕ)). frame ∷ fs) (frames_behind calls more)
frames_behind (call ∷ calls) more = frames_behind calls more

-- no packet comes in
abbrev NoneUp : List Question → Type 0
NoneUp [] = Unit {0}
NoneUp (AsksUp fine n packet ends ∷ qs) = ⊥
NoneUp (AsksStageUp n ends ∷ qs) = ⊥
NoneUp (AsksCommand c ∷ qs) = NoneUp qs
NoneUp (AsksDown fine n frame ends ∷ qs) = NoneUp qs
NoneUp (AsksStageDown n ends ∷ qs) = NoneUp qs

no_frames : (one : List Call) → NoneUp (map question_of one) → frames_in one ≡ []
no_frames [] none = refl
no_frames (CalledUp fine n packet answer ∷ one) none = absurd none
no_frames (CalledStageUp n answer ∷ one) none = absurd none
no_frames (call ∷ one) none = no_frames one none

command_none_up : (o : Option Command) → NoneUp (asks_command o)
command_none_up None = tt
command_none_up (Some c) = tt

down_none_up : (setup : Setup) (s : SplitProgram) (calls : List Call) (st : State) (o : Option ℕ) → NoneUp (asks_down setup s calls st o)
down_none_up setup s calls st None = tt
down_none_up setup s calls st (Some n) = tt

-- calls for which that holds give no frames more
same_frames : (calls one : List Call) (qs : List Question) → map question_of one ≡ qs → NoneUp qs → frames_in calls ≡ frames_in (calls ++ one)
same_frames calls one qs asks none =
    sym (frames_behind calls one
    ∙ (ap (λ (fs : List (List ℕ)). frames_in calls ++ fs) (no_frames one (subst NoneUp (sym asks) none)) ∙ append-nil (frames_in calls)))

-- ---- a packet comes in

came_by : (one : List Call) (fine : Bool) (n : ℕ) (packet : Packet) → map question_of one ≡ AsksUp fine n packet true ∷ []
    → (answer : UpAnswer) × (one ≡ CalledUp fine n packet answer ∷ []) × (is_up_end answer ≡ true)
came_by (CalledUp f m p answer ∷ one) fine n packet is =
    let fine_is : f ≡ fine = cc in
    let number_is : m ≡ n = cc in
    let packet_is : p ≡ packet = cc in
    let ends : is_up_end answer ≡ true = cc in
    let behind : map question_of one ≡ [] = cc in
    let none = none_asked one behind in
    (answer, (λ i. CalledUp (fine_is i) (number_is i) (packet_is i) answer ∷ none i), ends)
came_by one fine n packet is = absurd cc

-- what one call answers of its packet
answered_by : (fine : Bool) (n : ℕ) (packet : Packet) (answer : UpAnswer) → is_up_end answer ≡ true
    → up_answer (CalledUp fine n packet answer ∷ []) n ≡ Some answer
answered_by fine n packet answer ends =
    ap (λ (o : Option UpAnswer). or_else o None) (cond-true (n == n) (up_end answer) None (eq-eqb n n refl) ∙ end_up answer ends)

pub none_behind : (ns : List ℕ) → behind ns ns ≡ []
none_behind ns = ap (drop (length ns)) (sym (append-nil ns)) ∙ drop_at ns [] (length ns) refl

-- the frames of those that go up since then are those of the call
up_given : (setup : Setup) (s : SplitProgram) (calls : List Call) (st : State) (fine : Bool) (n : ℕ) (packet : Packet) (answer : UpAnswer)
    → is_up_end answer ≡ true → setup.pre_stages ≡ 0 → applies setup st Admit ≡ true → up_answer calls (length st.progress) ≡ Some answer
    → map (λ (n : ℕ). frame_in (up_answer calls n)) (behind st.up (step setup (journal s calls) st Admit).up)
    ≡ frames_in (CalledUp fine n packet answer ∷ [])
up_given setup s calls st fine n packet (Finished y) ends none may is =
    ap (λ (next : State). map (λ (n : ℕ). frame_in (up_answer calls n)) (behind st.up next.up))
    (fast_step setup (journal s calls) st y none may (ap verdict_in is))
    ∙ ap (map (λ (n : ℕ). frame_in (up_answer calls n))) (none_behind st.up)
up_given setup s calls st fine n packet (SentUp frame) ends none may is =
    ap (λ (next : State). map (λ (n : ℕ). frame_in (up_answer calls n)) (behind st.up next.up))
    (slow_step setup (journal s calls) st none may (ap verdict_in is))
    ∙ (ap (map (λ (n : ℕ). frame_in (up_answer calls n))) (drop_at st.up (length st.progress ∷ []) (length st.up) refl)
    ∙ ap (λ (o : Option UpAnswer). frame_in o ∷ []) is)
up_given setup s calls st fine n packet GoingUp ends none may is = absurd cc

-- ---- the frames that went up

-- A replay that goes on with an event of the world, and the course behind it.
pub record TakesEvent (x : Inputs) (events : List Event) (calls one : List Call) (st : State) (own : Event) (before : ℕ) (c : Course) : Type 0 where
  pub plain : (setup_for x).pre_stages ≡ 0
  pub by_calls : IsAnswered (setup_for x) (whole x) x.packets events calls st
  pub before_is : before ≡ length st.up
  pub sent_within : st.sent ≤ length (commands_in st.batches)
  pub may : applies (setup_for x) st own ≡ true
  pub questions : map question_of one ≡ asks (setup_for x) (whole x) x.packets (calls ++ one) st own
  pub frames : HasFrames (world_by x (calls ++ one)) (step (setup_for x) (answered x (calls ++ one)) st own) c

no_command : (b : Bool) → (let none : List Command = [] in cond b none none ≡ none)
no_command true = refl
no_command false = refl

abbrev pub blank : Command → List ℕ
blank command = []

module _ (x : Inputs) (l : Linked) (events : List Event) (calls one : List Call) (st : State) (before : ℕ) (c : Course) where
  abbrev Goes : Event → Type 0
  Goes own = TakesEvent x events calls one st own before c

  -- the answers of all calls, and the state behind an event
  abbrev answers : Answers
  answers = answered x (calls ++ one)

  abbrev state_behind : Event → State
  state_behind own = step (setup_for x) answers st own

  -- the frame of the packet that comes in
  admit_up : Goes Admit → newest before c.up.items ≡ frames_in one
  admit_up g =
      let setup = setup_for x in
      let n = length st.progress in
      let packet = packet_at x.packets n in
      let ends_now : (setup.pre_stages == 0) ≡ true = eq-eqb setup.pre_stages 0 g.plain in
      let came = came_by one setup.fine n packet (g.questions ∙ ap (λ (b : Bool). AsksUp setup.fine n packet b ∷ []) ends_now) in
      let answer = came.0 in
      let past : slice_get st.progress n ≡ None = slice_get_past st.progress n (omega arith) in
      let none : up_ends n calls ≡ 0 =
      (end_once setup (whole x) x.packets events calls st g.by_calls).up n ∙ ap (λ (o : Option Progress). one_if (has_passed o)) past in
      let told : up_answer (calls ++ one) n ≡ Some answer =
      fresh_up calls one n none ∙ (ap (λ (cs : List Call). up_answer cs n) came.1 ∙ answered_by setup.fine n packet answer came.2) in
      ap (λ (k : ℕ). newest k c.up.items) g.before_is
      ∙ (newest_up (world_by x (calls ++ one)) c st (state_behind Admit) g.frames (has_given setup answers l st admits g.plain g.may)
      ∙ (up_given setup (whole x) (calls ++ one) st setup.fine n packet answer came.2 g.plain g.may told ∙ sym (ap frames_in came.1)))

  -- calls that no packet comes in by
  quiet_up : {own : Event} → Goes own → NoneUp (asks (setup_for x) (whole x) x.packets (calls ++ one) st own)
      → frames_in calls ≡ frames_in (calls ++ one)
  quiet_up {own = own} g none = same_frames calls one (asks (setup_for x) (whole x) x.packets (calls ++ one) st own) g.questions none

  up_items : {event own : Event} → IsAs l event own → Goes own → l.up.items ≡ frames_in calls
      → (after_event (noted c before l event) l own).up.items ≡ frames_in (calls ++ one)
  up_items admits g up = (λ i. up i ++ admit_up g i) ∙ sym (frames_behind calls one)
  up_items does_next g up = up ∙ quiet_up g (command_none_up (slice_get (commands_in st.batches) st.done))
  up_items (takes j k at) g up = up ∙ quiet_up g (down_none_up (setup_for x) (whole x) (calls ++ one) st (slice_get st.down k))
  up_items kind g up = up ∙ quiet_up g tt

  -- ---- the commands that were sent

  quiet_sent : {own : Event} → Goes own → sent_of (happens (setup_for x) answers (tick st) own) ≡ sent_of st
      → map bytes_of (sent_of st) ≡ map bytes_of (sent_of (state_behind own))
  quiet_sent {own = own} g stays =
      sym (ap (λ (cs : List Command). map bytes_of cs) (ap sent_of (applied_step (setup_for x) answers st own g.may) ∙ stays))

  ctl_items : {event own : Event} → IsAs l event own → Goes own → l.ctl.items ≡ map bytes_of (sent_of st)
      → (after_event (noted c before l event) l own).ctl.items ≡ map bytes_of (sent_of (state_behind own))
  ctl_items admits g ctl =
      ctl ∙ sym (ap (λ (s : State). map bytes_of (sent_of s)) (admitted_only (setup_for x) answers st _ g.plain g.may refl))
  ctl_items (serves j k at) g ctl = ctl ∙ quiet_sent g (served_sent answers (tick st) k (slice_get st.up k) g.sent_within)
  ctl_items sends g ctl =
      let next = state_behind Send in
      let counted : next.sent ≡ st.sent + 1 = ap (λ (s : State). s.sent) (applied_step (setup_for x) answers st Send g.may) in
      let last = last_is c.commit st next g.frames.batches g.frames.sent counted in
      (λ i. ctl i ++ map bytes_of (one_or_none (last i)))
      ∙ (sym (map-append bytes_of (sent_of st) (one_or_none (slice_get (commands_in next.batches) st.sent)))
      ∙ ap (λ (cs : List Command). map bytes_of cs) (sym (one_sent (setup_for x) answers st g.may)))
  ctl_items (lets_go j) g ctl = ctl ∙ quiet_sent g (ap sent_of (let_go_only (tick st) j (slice_get st.held j)))
  ctl_items (takes j k at) g ctl = ctl ∙ quiet_sent g (down_sent (setup_for x) answers (tick st) k (slice_get st.down k))
  ctl_items kind g ctl = ctl ∙ quiet_sent g refl

  -- ---- the commands that were applied

  in_order : {own : Event} → Goes own → applied_commands st ++ applied_by (setup_for x) st own ≡ applied_commands (state_behind own)
  in_order {own = own} g =
      let setup = setup_for x in
      let is : st ≡ state_of setup answers events = state_stays setup (whole x) x.packets events calls one st g.by_calls in
      sym (subst (λ (s : State). applied_commands (step setup answers s own) ≡ applied_commands s ++ applied_by setup s own) (sym is)
      (commands_are_applied_in_order setup answers events own))

  quiet_ack : {own : Event} → Goes own → applied_by (setup_for x) st own ≡ []
      → map blank (applied_commands st) ≡ map blank (applied_commands (state_behind own))
  quiet_ack g none =
      ap (λ (cs : List Command). map blank cs)
      (sym (append-nil (applied_commands st)) ∙ (ap (λ (cs : List Command). applied_commands st ++ cs) (sym none) ∙ in_order g))

  ack_items : {event own : Event} → IsAs l event own → Goes own → l.ack.items ≡ map blank (applied_commands st)
      → (after_event (noted c before l event) l own).ack.items ≡ map blank (applied_commands (state_behind own))
  ack_items does_next g ack =
      let setup = setup_for x in
      let below : st.done < st.sent =
      ltb-true st.done st.sent (and_first (nat_lt st.done st.sent) (not (waits st.passes (slice_get (commands_in st.batches) st.done))) g.may) in
      let there = get_within (commands_in st.batches) st.done (omega (arith, below, g.sent_within)) in
      let one_more : applied_by setup st Apply ≡ there.0 ∷ [] =
      cond-true (applies setup st Apply) (one_or_none (slice_get (commands_in st.batches) st.done)) [] g.may ∙ ap one_or_none there.1 in
      (λ i. ack i ++ [] ∷ [])
      ∙ (sym (map_push blank (applied_commands st) there.0)
      ∙ ap (λ (cs : List Command). map blank cs) (ap (λ (cs : List Command). applied_commands st ++ cs) (sym one_more) ∙ in_order g))
  ack_items {own = own} kind g ack = ack ∙ quiet_ack g (no_command (applies (setup_for x) st own))

  -- ---- all that was given

  pub items_on : {event own : Event} → IsAs l event own → Goes own → HasItems x l calls st
      → (after_event (noted c before l event) l own).down.items ≡ frames_down x (calls ++ one) (l.events ++ own ∷ [])
      → HasItems x (after_event (noted c before l event) l own) (calls ++ one) (state_behind own)
  items_on kind g items down = record {
    up = up_items kind g items.up;
    down = down;
    ctl = ctl_items kind g items.ctl;
    ack = ack_items kind g items.ack;
  }
