-- An event of the world that is performed.
use Rattle.std.proofs.Common.{◌≡◌, ◌≤◌, ◌+◌, ℕ, true, false, List, [], ◌∷◌, ◌++◌, length, refl, sym, ap, ◌∙◌, subst, Option, Some, None, cond, arith, append-nil, append_assoc, true≢false}
use Rattle.std.specs.Prelude.{is_some, slice_get}
use Rattle.replay_state.specs.Carried.{Member}
use Rattle.std.proofs.lemmas.Bool.{cond-true}
use Rattle.std.proofs.lemmas.List.{length_push}
use Rattle.run_model.specs.declared.event.Event.{Event}
use Rattle.run_model.specs.declared.link_event.LinkEvent.{LinkEvent}
use Rattle.run_model.specs.declared.link_event.LinkEvent.TheVariants.{World as InWorld}
use Rattle.switch_ir.specs.Port.{PortState}
use Rattle.switch_ir.specs.Tables.{Told}
use Rattle.replay_state.specs.Places.{HavePlaces}
use Rattle.output_commit.specs.Batches.{Batch, commands_in}
use Rattle.switch_ir.specs.declared.journal.Entry.{Entry}
use Rattle.switch_ir.specs.declared.journal.Entry.TheVariants as entry
use Rattle.replay_state.specs.Journal.{Call, SentUp, asks, down_frame, UpAnswer, frame_in, over_in, up_answer}
use Rattle.replay_state.specs.State.{State}
use Rattle.replay_state.specs.Step.{applies, step}
use Rattle.replay_contracts.specs.Called.{journal_of}
use Rattle.replay_contracts.specs.Inputs.{Inputs, setup_for, whole}
use Rattle.replay_contracts.specs.Replay.{IsReplay, answered}
use Rattle.replay_contracts.specs.Replayer.{Fails}
use Rattle.replay_contracts.specs.declared.job.ReplayError.TheVariants as errors
use Rattle.replay_contracts.specs.declared.job.Stepped.{Stepped}
use Rattle.replay_course.specs.declared.course.Course.{Course}
use Rattle.replay_course.specs.Going.{HasAdvanced, MayCall}
use Rattle.replay_course.specs.Shown.{IsShown}
use Rattle.lossy_replay.specs.Linked.{World, Linked, first_linked, let_by, linked_step}
use Rattle.lossy_replay.specs.Linking.{AreLinks, ArePlaced, IsLinking, IsLinkingShort, noted}
use Rattle.lossy_replay.specs.Replay.{linked_by, world_by, world_of}
use Rattle.lossy_replay.specs.declared.links.Links.{Links}
use Rattle.lossy_replay.proofs.CourseItems.{one_event_more}
use Rattle.lossy_replay.proofs.GoingOn.{links_stay, placed_behind, placed_more, placed_now, stays_at, stays_in_world, told_at, ways_on}
use Rattle.lossy_replay.proofs.Items.{TakesEvent, items_on}
use Rattle.lossy_replay.proofs.NotedItems.{HasFrames, has_given, noted_is}
use Rattle.lossy_replay.proofs.Placed.{IsPerformed, frames_stay, placed_on}
use Rattle.lossy_replay.proofs.EventPerformed.{after_event, is_as, performs}
use Rattle.lossy_replay.proofs.SentDown.{HasSentDown, all_sent_down}
use Rattle.replay_contracts.proofs.CallsOfEvent.{journal_append}
use Rattle.replay_contracts.proofs.Laws.{a_replay_goes_on}
use Rattle.replay_course.proofs.DrainEvents.{map_length}
use Rattle.replay_course.proofs.Lists.{get_member}
use Rattle.replay_course.proofs.ShownOutputs.{down_at, up_at}
use Rattle.replay_course.proofs.Laws.{the_next_calls_may_be_made}
use Rattle.replay_state.proofs.Laws.{a_run_is_answered_by_its_calls-gone as went_up, packets_are_where_they_are_told}
use Rattle.replay_contracts.proofs.KnowingOn.{answer_stays}

-- ---- the worlds of a replay

-- a course shows the frames that calls answered, which are those of a world
shows_frames : (x : Inputs) (w : World) (calls : List Call) (st : State) (c : Course) → IsShown (whole x) calls st c
    → ((n : ℕ) (frame : List ℕ) → Member n st.up → up_answer calls n ≡ Some (SentUp frame) → w.up n ≡ frame)
    → ((n : ℕ) → Member n st.down → w.down st n ≡ down_frame (whole x) calls st n) → HasFrames w st c
shows_frames x w calls st c shown up down = record {
  up = shown.up;
  up_frames = λ j item is.
      up item.0 item.1 (get_member st.up j item.0 (up_at (whole x) calls st c shown j item is)) (shown.up_frames j item is);
  down = shown.down;
  down_frames = λ j item is.
      down item.0 (get_member st.down j item.0 (down_at (whole x) calls st c shown j item is)) ∙ sym (shown.down_frames j item is);
  batches = shown.batches;
  sent = shown.sent;
}

frames_by : (x : Inputs) (events : List Event) (calls more : List Call) (st : State) (port : PortState) (c : Course)
    → IsReplay x events calls st port → IsShown (whole x) calls st c → HasFrames (world_by x (calls ++ more)) st c
frames_by x events calls more st port c replay shown =
    shows_frames x (world_by x (calls ++ more)) calls st c shown
    (λ n frame here is. ap frame_in (answer_stays calls more n (SentUp frame) is))
    (λ n here.
    let went = (went_up (setup_for x) (whole x) x.packets events calls st replay.answered).down n here in
    ap (λ (answer : Option UpAnswer). (whole x).serve_down (over_in (slice_get st.progress n)) (frame_in answer))
    (answer_stays calls more n (SentUp went.0) went.1 ∙ sym went.1))

frames_of : (x : Inputs) (events : List Event) (calls : List Call) (st : State) (port : PortState) (c : Course) (tables : Told)
    → IsReplay x events calls st port → port.told ≡ Some tables → IsShown (whole x) calls st c → HasFrames (world_of x) st c
frames_of x events calls st port c tables replay is shown =
    let framed = (replay.told tables is).tied.framed in
    shows_frames x (world_of x) calls st c shown
    (λ n frame here answer. ap frame_in (sym (framed.up n here) ∙ answer))
    (λ n here. ap (λ (answer : Option UpAnswer). (whole x).serve_down (over_in (slice_get st.progress n)) (frame_in answer)) (sym (framed.down n here)))

-- where it is told after calls, it was told before them
was_told : (old new : Option Told) (tables : Told) → is_some new ≡ is_some old → new ≡ Some tables → (t : Told) × (old ≡ Some t)
was_told None new tables same is = absurd (true≢false (sym (ap is_some is) ∙ same))
was_told (Some t) new tables same is = (t, refl)

-- ---- one event more

links_events : (n : ℕ) (given l : Linked) (own : Event) (links : Links) → AreLinks n given links → AreLinks n (after_event given l own) links
links_events n given l own links are =
    ways_on n n given (after_event given l own) links links.up links.down are (omega arith) refl refl are.up are.down are.few_up are.few_down

-- what an event leaves of the links
abbrev pub noted_on : Linked → Course → Course → Event → Event → Linked
noted_on l c after event own = after_event (noted after (length c.up.items) l event) l own

no_stages : (x : Inputs) → x.manner.fine ≡ false → (setup_for x).pre_stages ≡ 0
no_stages x plain = ap (λ b. cond b (whole x).pre_stages 0) plain

sent_there : (x : Inputs) (calls : List Call) (st : State) (c : Course) → IsShown (whole x) calls st c → st.sent ≤ length (commands_in st.batches)
sent_there x calls st c shown =
    subst (λ (bs : List Batch). st.sent ≤ length (commands_in bs)) shown.batches
    (subst (λ (n : ℕ). n ≤ length (commands_in c.commit.batches)) shown.sent shown.sent_within)

-- what the course did is done by the links too
pub world_on : (x : Inputs) (schedule : List LinkEvent) (event own : Event) (links next : Links)
    (c after : Course) (old new : PortState) (stepped : Stepped) (linking : IsLinking x schedule links c old)
    → HasAdvanced x own stepped c old after new → let_by linking.linked linking.st event ≡ Some own
    → applies (setup_for x) linking.st own ≡ true
    → AreLinks (length schedule + 1) (noted after (length c.up.items) linking.linked event) next
    → IsLinking x (schedule ++ InWorld event ∷ []) next after new
world_on x schedule event own links next c after old new stepped linking turned is may are =
    let setup = setup_for x in
    let l = linking.linked in
    let st = linking.st in
    let t = turned.turns l.events linking.calls st linking.replay linking.shown in
    let calls = linking.calls ++ t.one in
    let events = l.events ++ own ∷ [] in
    let st' = step setup (answered x calls) st own in
    let replay = a_replay_goes_on x l.events own linking.calls t.one st old new linking.going.prepared.ready linking.replay t.asks t.called in
    let before : length c.up.items ≡ length st.up = map_length _ c.up.items st.up linking.shown.up in
    let kind = is_as l st event own is in
    let given = has_given setup (answered x calls) l st kind (no_stages x linking.plain) may in
    let long = length_push schedule (InWorld event) in
    let leads : (w : World) → w.at l.events ≡ st → w.at events ≡ st' → HasFrames w st' after
    → linked_step setup w l (InWorld event) ≡ noted_on l c after event own =
    λ w now then frames. performs setup w l event own st st' now then is may
    ∙ ap (λ (g : Linked). after_event g l own) (noted_is w l after event st st' (length c.up.items) before frames given) in
    let shows : (more : List Call) → HasFrames (world_by x (calls ++ more)) st' after = λ more.
    frames_by x events calls more st' new after replay t.shown in
    let at_now : (more : List Call) → (world_by x (calls ++ more)).at l.events ≡ st = λ more.
    ap (λ (cs : List Call). (world_by x cs).at l.events) (append_assoc linking.calls t.one more)
    ∙ stays_at x l.events linking.calls (t.one ++ more) st old linking.replay in
    let stands : (more : List Call) → linked_by x (calls ++ more) (schedule ++ InWorld event ∷ []) ≡ noted_on l c after event own = λ more.
    one_event_more setup (world_by x (calls ++ more)) first_linked schedule (InWorld event)
    ∙ (ap (λ (m : Linked). linked_step setup (world_by x (calls ++ more)) m (InWorld event))
    (ap (λ (cs : List Call). linked_by x cs schedule) (append_assoc linking.calls t.one more) ∙ linking.stands (t.one ++ more))
    ∙ leads (world_by x (calls ++ more)) (at_now more) (stays_at x events calls more st' new replay) (shows more)) in
    let g : TakesEvent x l.events linking.calls t.one st own (length c.up.items) after = record {
      plain = no_stages x linking.plain;
      by_calls = linking.replay.answered;
      before_is = before;
      sent_within = sent_there x linking.calls st c linking.shown;
      may = may;
      questions = t.asks ∙ cond-true (applies setup st own) (asks setup (whole x) x.packets calls st own) [] may;
      frames = subst (λ (cs : List Call). HasFrames (world_by x cs) st' after) (append-nil calls) (shows []);
    } in
    let p : IsPerformed setup (answered x calls) l st own = record {
      pre = no_stages x linking.plain;
      post = ap (λ b. cond b (whole x).post_stages 0) linking.plain;
      may = may;
      links = links;
      most = length schedule;
      are = linking.links_are;
    } in
    let was : HavePlaces st = subst HavePlaces (sym linking.replay.answered.run) (packets_are_where_they_are_told setup (answered x linking.calls) l.events) in
    let now : HavePlaces st' = subst HavePlaces (sym replay.answered.run) (packets_are_where_they_are_told setup (answered x calls) events) in
    record {
      plain = linking.plain;
      calls = calls;
      st = st';
      linked = noted_on l c after event own;
      stands = stands;
      placed = placed_more x schedule (InWorld event) calls (placed_behind x schedule linking.calls t.one linking.placed)
          (λ more.
          let w = world_by x (calls ++ more) in
          let noted_so = noted_is w l after event st st' (length c.up.items) before (shows more) given in
          let stay = frames_stay setup (answered x calls) l st event own kind p w (λ over n. (whole x).serve_down over (frame_in (up_answer (calls ++ more) n))) (λ s n. refl) was now in
          let placed : ArePlaced w l =
          subst (λ (cs : List Call). ArePlaced (world_by x cs) l) (sym (append_assoc linking.calls t.one more))
          (placed_now x schedule links c old linking (t.one ++ more)) in
          subst (λ (m : Linked). ArePlaced w m) (sym (stands more))
          (subst (λ (g : Linked). ArePlaced w (after_event g l own)) noted_so
          (placed_on setup (answered x calls) l st w event own kind p (at_now more) (stays_at x events calls more st' new replay) stay
          (length schedule + 1) next (subst (λ (g : Linked). AreLinks (length schedule + 1) g next) (sym noted_so) are) placed)));
      replay = replay;
      shown = t.shown;
      going = turned.going;
      counted = turned.counted ∙ (ap (λ (n : ℕ). n + 1) linking.counted ∙ sym (length_push l.events own));
      few = omega (arith, linking.few, long, length_push l.events own);
      items = items_on x l l.events linking.calls t.one st (length c.up.items) after kind g linking.items
          (subst (HasSentDown x calls) (ap (λ (cs : List Call). linked_by x cs (schedule ++ InWorld event ∷ [])) (sym (append-nil calls)) ∙ stands [])
          (all_sent_down x calls (schedule ++ InWorld event ∷ [])));
      links_are = subst (λ (n : ℕ). AreLinks n (noted_on l c after event own) next) (sym long)
          (links_events (length schedule + 1) (noted after (length c.up.items) l event) l own next are);
      told = λ tables told_is.
          let w = world_of x in
          let was = was_told old.told new.told tables turned.stays.told told_is in
          one_event_more setup w first_linked schedule (InWorld event)
          ∙ (ap (λ (m : Linked). linked_step setup w m (InWorld event)) (linking.told was.0 was.1)
          ∙ leads w (told_at x l.events linking.calls st old was.0 linking.replay was.1) (told_at x events calls st' new tables replay told_is)
          (frames_of x events calls st' new after tables replay told_is t.shown));
    }

-- ---- an event that isn't performed

pub not_on : (x : Inputs) (schedule : List LinkEvent) (event : Event) (links : Links) (c : Course) (port : PortState)
    (linking : IsLinking x schedule links c port)
    → ((w : World) → w.at linking.linked.events ≡ linking.st → linked_step (setup_for x) w linking.linked (InWorld event) ≡ linking.linked)
    → IsLinking x (schedule ++ InWorld event ∷ []) links c port
not_on x schedule event links c port linking stays =
    let l = linking.linked in
    stays_in_world x schedule (InWorld event) links links c port linking l stays refl linking.items
    (links_stay (length schedule) l links linking.links_are) (λ w placed. placed)

-- ---- the calls

pub may_call_there : (x : Inputs) (links : Links) (c : Course) (port : PortState) → IsLinkingShort x links c port → MayCall x c port
may_call_there x links c port way =
    let l = way.linking in
    the_next_calls_may_be_made x l.linked.events l.calls l.st c port l.replay l.shown l.going

-- where there is no memory behind an event that the course performed
pub fails_behind : (x : Inputs) (own : Event) (stepped : Stepped) (links : Links) (c after : Course) (old new : PortState)
    → IsLinkingShort x links c old → HasAdvanced x own stepped c old after new → Fails errors.NoMemory old new
fails_behind x own stepped links c after old new way turned =
    let linking = way.linking in
    let l = linking.linked in
    let t = turned.turns l.events linking.calls linking.st linking.replay linking.shown in
    let replay = a_replay_goes_on x l.events own linking.calls t.one linking.st old new linking.going.prepared.ready linking.replay t.asks t.called in
    record {
      code = turned.going.loaded ∙ sym linking.going.loaded;
      told = turned.stays.told;
      journal = (
        journal_of t.one,
        replay.called.journal
            ∙ (ap (λ (es : List Entry). entry.Load ∷ es) (journal_append linking.calls t.one)
            ∙ ap (λ (es : List Entry). es ++ journal_of t.one) (sym linking.replay.called.journal)),
      );
      fault = turned.stays.faults;
    }
