-- What an event gives to the links, by the course that it leaves.
use Rattle.std.proofs.Common.{◌≡◌, ◌⊎◌, ◌+◌, ◌-◌, ℕ, true, false, List, [], ◌∷◌, ◌++◌, length, map, refl, sym, ap, ◌∙◌, inl, inr, Some, None, arith}
use Rattle.std.specs.Prelude.{◌==◌, Option, slice_get}
use Rattle.std.proofs.lemmas.Bool.{cond-false, cond-true, ne_eqb}
use Rattle.lossy_link.specs.CommandBytes.{bytes_of}
use Rattle.output_commit.specs.Batches.{commands_in}
use Rattle.output_commit.specs.Commit.{Commit, commands, last_sent}
use Rattle.packet_fields.specs.declared.verdict.Verdict.{Verdict}
use Rattle.writeback_table.specs.declared.command.Command.{Command}
use Rattle.run_model.specs.declared.event.Event.{Event}
use Rattle.run_model.specs.declared.event.Event.TheVariants.{Admit, Stage, Serve, Send, Apply, Ack, Hold, Down}
use Rattle.replay_state.specs.Answers.{Answers, Setup}
use Rattle.replay_state.proofs.Laws.{passes_with_no_stages_end_at_once-fast as fast_step, passes_with_no_stages_end_at_once-slow as slow_step}
use Rattle.replay_state.specs.Commands.{one_or_none}
use Rattle.replay_state.specs.State.{State, seen, store_at}
use Rattle.replay_state.specs.Step.{applies, happens, idled, let_go, may_go, step, tick}
use Rattle.replay_course.specs.declared.course.Course.{Course}
use Rattle.lossy_replay.specs.Linked.{World, Linked, behind, gives, given_all}
use Rattle.lossy_replay.specs.Linking.{newest, noted}
use Rattle.lossy_replay.proofs.CourseItems.{none_newer, one_newer}
use Rattle.lossy_replay.proofs.EventPerformed.{IsAs, admits, sends, lets_go}

-- a course shows the frames of a world
pub record HasFrames (w : World) (st : State) (c : Course) : Type 0 where
  pub up : map (λ item. item.0) c.up.items ≡ st.up
  pub up_frames : (j : ℕ) (item : ℕ × List ℕ) → slice_get c.up.items j ≡ Some item → w.up item.0 ≡ item.1
  pub down : map (λ item. item.0) c.down.items ≡ st.down
  pub down_frames : (j : ℕ) (item : ℕ × List ℕ) → slice_get c.down.items j ≡ Some item → w.down st item.0 ≡ item.1
  pub batches : c.commit.batches ≡ st.batches
  pub sent : c.commit.sent ≡ st.sent

-- ---- a packet comes in

abbrev pub GoesUp : State → State → Type 0
GoesUp st next = (next.up ≡ st.up) ⊎ ((n : ℕ) × (next.up ≡ st.up ++ n ∷ []))

pub newest_up : (w : World) (c : Course) (st next : State) → HasFrames w next c → GoesUp st next
    → newest (length st.up) c.up.items ≡ map w.up (behind st.up next.up)
newest_up w c st next shows (inl same) =
    none_newer w.up c.up.items st.up (shows.up ∙ same) ∙ sym (ap (λ (ns : List ℕ). map w.up (behind st.up ns)) same)
newest_up w c st next shows (inr (n, more)) =
    one_newer w.up c.up.items st.up (length st.up) n (omega arith) (shows.up ∙ more) shows.up_frames
    ∙ sym (ap (λ (ns : List ℕ). map w.up (behind st.up ns)) more)

-- ---- a command is sent

pub last_is : (c : Commit) (st next : State) → c.batches ≡ next.batches → c.sent ≡ next.sent → next.sent ≡ st.sent + 1
    → last_sent c ≡ slice_get (commands_in next.batches) st.sent
last_is c st next batches sent one =
    let some : (c.sent == 0) ≡ false = ne_eqb c.sent 0 (λ none. absurd (omega (arith, none, sent, one))) in
    let place : c.sent - 1 ≡ st.sent = omega (arith, sent, one) in
    cond-false (c.sent == 0) None (slice_get (commands c) (c.sent - 1)) some
    ∙ (ap (slice_get (commands c)) place ∙ ap (λ bs. slice_get (commands_in bs) st.sent) batches)

-- ---- what each event does to the lists

abbrev pub HasGiven : Event → State → State → Type 0
HasGiven Admit st next = GoesUp st next
HasGiven (Stage j) st next = Unit {0}
HasGiven (Serve j) st next = Unit {0}
HasGiven Send st next = next.sent ≡ st.sent + 1
HasGiven Apply st next = Unit {0}
HasGiven Ack st next = Unit {0}
HasGiven (Hold j) st next = (n : ℕ) × (next.down ≡ st.down ++ n ∷ [])
HasGiven (Down j) st next = Unit {0}

pub noted_is : (w : World) (l : Linked) (c : Course) (event : Event) (st next : State) (before : ℕ) → before ≡ length st.up
    → HasFrames w next c → HasGiven event st next → gives w l event st next ≡ noted c before l event
noted_is w l c Admit st next before is shows given =
    ap (λ (frames : List (List ℕ)). record l { up = given_all l.up frames })
    (sym (newest_up w c st next shows given) ∙ sym (ap (λ (n : ℕ). newest n c.up.items) is))
noted_is w l c Send st next before is shows given =
    ap (λ (command : Option Command). record l { ctl = given_all l.ctl (map bytes_of (one_or_none command)) })
    (sym (last_is c.commit st next shows.batches shows.sent given))
noted_is w l c (Hold j) st next before is shows given =
    ap (λ (frames : List (List ℕ)). record l { down = given_all l.down frames })
    (sym (one_newer (w.down next) c.down.items st.down 0 given.0 (omega arith) (shows.down ∙ given.1) shows.down_frames
    ∙ sym (ap (λ (ns : List ℕ). map (w.down next) (behind st.down ns)) given.1)))
noted_is w l c event st next before is shows given = refl

admit_given : (setup : Setup) (a : Answers) (st : State) (o : Option Verdict) → setup.pre_stages ≡ 0
    → applies setup st Admit ≡ true → a.pre (store_at st.stores (seen st)) (length st.progress) ≡ o → GoesUp st (step setup a st Admit)
admit_given setup a st (Some y) none does is = inl (ap (λ (s : State). s.up) (fast_step setup a st y none does is))
admit_given setup a st None none does is = inr (length st.progress, ap (λ (s : State). s.up) (slow_step setup a st none does is))

held_given : (st : State) (j known : ℕ) (o : Option (ℕ × ℕ)) → may_go known o ≡ true
    → (n : ℕ) × ((let_go (tick st) j o).down ≡ st.down ++ n ∷ [])
held_given st j known None may = absurd cc
held_given st j known (Some (n, need)) may = (n, refl)

pub applied_step : (setup : Setup) (a : Answers) (st : State) (event : Event) → applies setup st event ≡ true
    → step setup a st event ≡ happens setup a (tick st) event
applied_step setup a st event does = cond-true (applies setup st event) (happens setup a (tick st) event) (idled (tick st)) does

-- the event of the schedule, and the one of the world as which it is performed
pub has_given : (setup : Setup) (a : Answers) (l : Linked) (st : State) {event own : Event} → IsAs l event own → setup.pre_stages ≡ 0
    → applies setup st own ≡ true → HasGiven event st (step setup a st own)
has_given setup a l st admits none may = admit_given setup a st (a.pre (store_at st.stores (seen st)) (length st.progress)) none may refl
has_given setup a l st sends none may = ap (λ (s : State). s.sent) (applied_step setup a st Send may)
has_given setup a l st (lets_go j) none may =
    let given = held_given st j _ (slice_get st.held j) may in
    (given.0, ap (λ (s : State). s.down) (applied_step setup a st (Hold j) may) ∙ given.1)
has_given setup a l st kind none may = tt
