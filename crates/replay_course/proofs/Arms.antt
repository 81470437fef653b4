-- What the calls in each event come to.
use Rattle.std.proofs.Common.{◌≡◌, ◌<◌, ◌≤◌, ◌+◌, ◌-◌, ℕ, zero, suc, Bool, true, false, eqb, leb, List, [], ◌∷◌, ◌++◌, Some, None, inl, inr, refl, sym, ap, subst, ◌∙◌, arith, length, get_or, map}
use Rattle.std.specs.Prelude.{Ok, slice_get, slice_set, remove, nat_lt, not, ◌&&◌, IfSome, IsSome, if◌then◌else◌}
use Rattle.std.specs.List.{AllByRecursion as Each}
use Rattle.std.proofs.lemmas.Bool.{cases_Bool, cases_lt, eqb-true, le-ltb, leb-false, leb-true, lt-ltb, eqb-true as same_is, le-ltb as past_is, leb-true as within_is}
use Rattle.std.proofs.lemmas.Option.{same_Some, slice_get-get_or, slice_get_past, slice_get_within}
use Rattle.packet_fields.specs.declared.packet.Packet.{Packet}
use Rattle.flat_ir.specs.Arrivals.{IsArrival}
use Rattle.transfer_header.specs.Frames.{IsFrame}
use Rattle.transfer_header.specs.Told.{number_in}
use Rattle.output_commit.specs.Batches.{commands_in, visible}
use Rattle.run_model.specs.declared.event.Event.{Event}
use Rattle.run_model.specs.declared.event.Event.TheVariants as event
use Rattle.switch_ir.specs.Port.{PortState, HasDownPass, HasUpPass, IsDownFrame, IsUpFrame, StagesDown, StagesUp}
use Rattle.switch_ir.specs.UnderWay.{EndsDownAtOnce, EndsUpAtOnce, GoesDown, GoesUp}
use Rattle.switch_ir.specs.declared.port.DownEnd.{DownEnd}
use Rattle.switch_ir.specs.declared.port.DownEnd.TheVariants as down
use Rattle.switch_ir.specs.declared.port.UpEnd.{UpEnd}
use Rattle.switch_ir.specs.declared.port.UpEnd.TheVariants as up
use Rattle.replay_state.specs.Answers.{Answers, Setup}
use Rattle.replay_state.specs.Carried.{Carried}
use Rattle.replay_state.specs.Journal.{AsksDown, AsksStageDown, AsksStageUp, AsksUp, Call, CalledDown, CalledStageDown, CalledStageUp, CalledUp, GoingDown, GoingUp, HasGoneUp, SentUp}
use Rattle.replay_state.specs.Journal.{asks, asks_down, asks_stage, down_answer, down_end, down_frame, frame_in, is_down_end, is_up_end, journal, over_in, question_of, up_answer, up_end}
use Rattle.replay_state.specs.Places.{HavePlaces, IsHeld}
use Rattle.replay_state.specs.Program.{SplitProgram, packet_at}
use Rattle.replay_state.specs.declared.pass.Pass.{Pass}
use Rattle.replay_state.specs.State.{Entered, State, seen}
use Rattle.replay_state.specs.Step.{applies, came, came_down, ended, happens, may_go, pass_of, staged, step, tick, waits}
use Rattle.split_answers.specs.Over.{IsGiven}
use Rattle.split_answers.specs.Through.{answer_of, down_answer_of, down_end_of, end_of}
use Rattle.split_answers.specs.UnderWay.{IsOnSwitch, highest_of, passes_of}
use Rattle.replay_contracts.specs.Called.{WasMade}
use Rattle.replay_contracts.specs.Inputs.{Inputs, code_for, setup_for, whole}
use Rattle.replay_contracts.specs.Replay.{answered}
use Rattle.replay_contracts.specs.Replayer.{stepped_by}
use Rattle.replay_contracts.specs.declared.job.Stepped.{Stepped}
use Rattle.replay_contracts.specs.declared.job.Stepped.TheVariants.{Did, Idle}
use Rattle.replay_course.specs.declared.course.Course.{Course}
use Rattle.replay_course.specs.Going.{FitsDown, FitsUp, HasAdvanced, CanGoOn, IsSound, IsUpPassOf, IsDownPassOf, TakesDown, TakesOneMore, TakesUp, came_to, less_one, pass_for, unapplied}
use Rattle.replay_course.specs.Idle.{finds_nothing}
use Rattle.replay_course.specs.Shown.{IsShown}
use Rattle.replay_course.proofs.ToldByCalls.{keeps_all}
use Rattle.replay_course.proofs.PassCounts.{before_server, each_set, remove_at_most, remove_before, set_count}
use Rattle.replay_course.proofs.Lists.{each_remove, get_member, get_removed}
use Rattle.replay_course.proofs.ShownOutputs.{down_at, moved_shown, number_of}
use Rattle.replay_course.proofs.SoundCourse.{FramedDown, HasLeft, makes_room, taken_sound}
use Rattle.replay_course.proofs.Costs.{one_less_undecided}
use Rattle.replay_course.proofs.ShownPasses.{pass_is, passes_shown}
use Rattle.replay_course.proofs.EventsTaken.{answers_down, answers_up, call_turned, came_is, carried_down, carried_passes, down_call, fates_count, have_gone, have_places, idle_turned, placed_after, quiet_turned, stage_down_call, stage_up_call, up_call}
use Rattle.lemmas.proofs.Lists.{each_got, get_past, get_pushed, map_remove}
use Rattle.lemmas.proofs.Numbers.{le_trans, same_within}
use Rattle.replay_contracts.proofs.KnowingOn.{answer_stays}
use Rattle.replay_course.proofs.DrainEvents.{map_length}

-- ## Events that can't apply

-- what an idle event shows
abbrev pub ShowsIdle : Course → Course → Type 0
ShowsIdle c after = (s : SplitProgram) (setup : Setup) (a : Answers) (calls : List Call) (st : State) (ev : Event) → applies setup st ev ≡ false
    → IsShown s calls st c → IsShown s calls (step setup a st ev) after

-- an event that finds nothing doesn't apply
nothing_applies : (x : Inputs) (calls : List Call) (st : State) (c : Course) (ev : Event) → IsShown (whole x) calls st c
    → finds_nothing (length x.packets) c ev ≡ true → applies (setup_for x) st ev ≡ false
nothing_applies x calls st c event.Admit h none = past_is _ _ (subst (λ n. length x.packets ≤ n) (fates_count (whole x) calls st c h) (within_is _ _ none))
nothing_applies x calls st c (event.Stage j) h none = past_is _ _ (subst (λ (l : List Pass). length l ≤ j) h.passes (within_is _ _ none))
nothing_applies x calls st c (event.Serve j) h none = past_is _ _ (subst (λ n. n ≤ j) (map_length _ c.up.items st.up h.up) (within_is _ _ none))
nothing_applies x calls st c event.Send h none =
    past_is _ _ (same_within _ _ (sym (ap (λ bs. length (commands_in bs)) h.batches) ∙ sym (same_is _ _ none) ∙ h.sent))
nothing_applies x calls st c event.Apply h none =
    ap (λ (b : Bool). b && not (waits st.passes (slice_get (commands_in st.batches) st.done)))
    (past_is _ _ (same_within _ _ (sym h.sent ∙ sym (same_is _ _ none) ∙ h.done)))
nothing_applies x calls st c event.Ack h none = past_is _ _ (same_within _ _ (sym h.done ∙ sym (same_is _ _ none) ∙ h.acked))
nothing_applies x calls st c (event.Hold j) h none =
    ap (may_go (visible st.batches st.acked)) (slice_get_past st.held j (subst (λ n. n ≤ j) (map_length _ c.commit.held st.held h.held) (within_is _ _ none)))
nothing_applies x calls st c (event.Down j) h none = past_is _ _ (subst (λ n. n ≤ j) (map_length _ c.down.items st.down h.down) (within_is _ _ none))

-- from a course that is the one before
pub nothing_turned : (x : Inputs) (ev : Event) (stepped : Stepped) (before c after : Course) (port : PortState) → before ≡ c → CanGoOn x c port
    → finds_nothing (length x.packets) c ev ≡ true → stepped ≡ Idle
    → ((y : Inputs) → IsSound y before → IsSound y after) → unapplied after ≡ unapplied before → after.events ≡ before.events + 1 → ShowsIdle before after
    → HasAdvanced x ev stepped c port after port
nothing_turned x ev stepped before c after port is going none idle sound same counted shows =
    let there = subst (λ (z : Course). CanGoOn x z port) (sym is) going in
    let nothing = subst (λ (z : Course). finds_nothing (length x.packets) z ev ≡ true) (sym is) none in
    subst (λ (z : Course). HasAdvanced x ev stepped z port after port) is
    (idle_turned x ev stepped before after port there idle (sound x there.sound) same counted
    (λ calls st h. nothing_applies x calls st before ev h nothing)
    (λ calls st off h. shows (whole x) (setup_for x) (answered x calls) calls st ev off h))

-- ## Events that call for nothing

pub counted_turned : (x : Inputs) (ev : Event) (stepped : Stepped) (c after : Course) (port : PortState) → CanGoOn x c port
    → ((calls : List Call) (st : State) → asks (setup_for x) (whole x) x.packets calls st ev ≡ [])
    → ((calls : List Call) (st : State) → IsShown (whole x) calls st c → stepped ≡ stepped_by (applies (setup_for x) st ev))
    → ((calls : List Call) (st : State) → IsShown (whole x) calls st c → IsShown (whole x) calls (step (setup_for x) (answered x calls) st ev) after)
    → ((y : Inputs) → IsSound y c → IsSound y after) → unapplied after ≤ unapplied c → after.events ≡ c.events + 1 → HasAdvanced x ev stepped c port after port
counted_turned x ev stepped c after port going none so shows sound fewer counted =
    quiet_turned x ev stepped c after port port going (keeps_all port) (sound x going.sound) (le_trans _ _ _ fewer going.spare) counted
    (λ calls st h may. none calls st) (λ events calls st replay h. (so calls st h, shows calls st h))

-- ## How calls end

-- a call over a packet that arrived ends its pass just where that has no stages
ends_at_once : (end : UpEnd) → EndsUpAtOnce end → is_up_end (answer_of end) ≡ true
ends_at_once (up.Finished verdict) h = refl
ends_at_once (up.Up frame) h = refl
ends_at_once up.Going h = absurd h

ends_so : (left : Bool) (end : UpEnd) → GoesUp left end → is_up_end (answer_of end) ≡ not left
ends_so left (up.Finished verdict) h = ap not (sym h)
ends_so left (up.Up frame) h = ap not (sym h)
ends_so left up.Going h = ap not (sym h)

-- it ends as its answer says
end_back : (end : UpEnd) → end ≡ end_of (answer_of end)
end_back (up.Finished verdict) = refl
end_back (up.Up frame) = refl
end_back up.Going = refl

not_zero : (n : ℕ) → eqb (suc n) 0 ≡ false
not_zero n = elim (cases_Bool (eqb (suc n) 0)) [ inl t ↦ let bad = eqb-true (suc n) 0 t in absurd (omega arith) | inr f ↦ f ]

none_left : (highest : ℕ) → not (nat_lt 0 highest) ≡ eqb highest 0
none_left zero = refl
none_left (suc n) = ap not (lt-ltb 0 (suc n) (omega arith)) ∙ sym (not_zero n)

module _ (x : Inputs) (end : UpEnd) (n : ℕ) (packet : Packet) (old new : PortState) (loaded : old.code ≡ Some (code_for x)) where
  pub up_ends_so : (fine : Bool) → TakesUp fine (Ok end) n packet old new → is_up_end (answer_of end) ≡ eqb (if fine then (whole x).pre_stages else 0) 0
  up_ends_so false takes = ends_at_once end takes.ends
  up_ends_so true takes = ends_so _ end (takes.1.goes (code_for x) loaded) ∙ none_left (whole x).pre_stages

  pub up_made : (fine : Bool) → TakesUp fine (Ok end) n packet old new → WasMade (CalledUp fine n packet (answer_of end)) old new
  up_made false takes = subst (λ e. TakesUp false (Ok e) n packet old new) (end_back end) takes
  up_made true takes = subst (λ e. TakesUp true (Ok e) n packet old new) (end_back end) takes

  pub up_spare : (fine : Bool) → TakesUp fine (Ok end) n packet old new → old.spare ≤ new.spare
  up_spare false takes = takes.kept.spare
  up_spare true takes = takes.1.kept.spare

  framed : (fine : Bool) → TakesUp fine (Ok end) n packet old new → IsUpFrame (code_for x) n packet.port packet.bytes end
  framed false takes = takes.frame (code_for x) loaded
  framed true takes = takes.1.frame (code_for x) loaded

-- a frame that goes up has the layout of its way
pub up_fits : (x : Inputs) (pass : Pass) (n arrival : ℕ) (bytes : List ℕ) (end : UpEnd) → IsUpFrame (code_for x) n arrival bytes end
    → (is_up_end (answer_of end) ≡ false → 0 < pass.left) → FitsUp x pass end
up_fits x pass n arrival bytes (up.Finished verdict) shape left = tt
up_fits x pass n arrival bytes (up.Up frame) shape left = record { number = n; port = arrival; values = shape.0; packet = bytes; is = shape.1 }
up_fits x pass n arrival bytes up.Going shape left = left refl

-- so do calls over packets that come down
down_ends_at_once : (end : DownEnd) → EndsDownAtOnce end → is_down_end (down_answer_of end) ≡ true
down_ends_at_once (down.Verdict verdict) h = refl
down_ends_at_once down.Going h = absurd h

down_ends_by : (left : Bool) (end : DownEnd) → GoesDown left end → is_down_end (down_answer_of end) ≡ not left
down_ends_by left (down.Verdict verdict) h = ap not (sym h)
down_ends_by left down.Going h = ap not (sym h)

down_end_back : (end : DownEnd) → end ≡ down_end_of (down_answer_of end)
down_end_back (down.Verdict verdict) = refl
down_end_back down.Going = refl

module _ (x : Inputs) (end : DownEnd) (n : ℕ) (frame : List ℕ) (old new : PortState) (loaded : old.code ≡ Some (code_for x)) where
  pub down_ends_so : (fine : Bool) → TakesDown fine (Ok end) frame old new → is_down_end (down_answer_of end) ≡ eqb (if fine then (whole x).post_stages else 0) 0
  down_ends_so false takes = down_ends_at_once end takes.ends
  down_ends_so true takes = down_ends_by _ end (takes.1.goes (code_for x) loaded) ∙ none_left (whole x).post_stages

  pub down_made : (fine : Bool) → TakesDown fine (Ok end) frame old new → WasMade (CalledDown fine n frame (down_answer_of end)) old new
  down_made false takes = subst (λ e. TakesDown false (Ok e) frame old new) (down_end_back end) takes
  down_made true takes = subst (λ e. TakesDown true (Ok e) frame old new) (down_end_back end) takes

  pub down_spare : (fine : Bool) → TakesDown fine (Ok end) frame old new → old.spare ≤ new.spare
  down_spare false takes = takes.kept.spare
  down_spare true takes = takes.1.kept.spare

pub down_fits : (pass : Pass) (end : DownEnd) → (is_down_end (down_answer_of end) ≡ false → 0 < pass.left) → FitsDown pass end
down_fits pass (down.Verdict verdict) left = tt
down_fits pass down.Going left = left refl

has_some : (n : ℕ) (b : Bool) → b ≡ eqb n 0 → b ≡ false → 0 < n
has_some zero b is off = let bad : false ≡ true = sym off ∙ is in cc
has_some (suc n) b is off = omega arith

-- ## A packet that arrives

here_at : (list packets : List Packet) (number count : ℕ) (p : Packet) → list ≡ packets → number ≡ count
    → number < length list → p ≡ get_or list number p → slice_get packets count ≡ Some p
here_at list packets number count p same is less at =
    subst (λ l. slice_get l count ≡ Some p) same (subst (λ n. slice_get list n ≡ Some p) is
    (slice_get-get_or list number p less ∙ ap (λ q. Some q) (sym at)))

pub arriving : (x : Inputs) (c : Course) (packet : Packet) (number : ℕ) (list : List Packet) → number ≡ length c.fates.items → list ≡ x.packets
    → number < length list → packet ≡ get_or list number packet → slice_get x.packets (length c.fates.items) ≡ Some packet
arriving x c packet number list is same less at = here_at list x.packets number _ packet same is less at

-- what is shown where the call over a packet that arrived has ended so
abbrev pub ShowsUp : Course → Pass → UpEnd → Course → Type 0
ShowsUp mid pass end after = (s : SplitProgram) (calls more : List Call) (st : State) → IsShown s calls st mid → IsUpPassOf calls st pass
    → up_answer (calls ++ more) pass.number ≡ up_end (answer_of end)
    → IsShown s (calls ++ more) (came_to (journal s (calls ++ more)) st pass (is_up_end (answer_of end))) after

abbrev pub ShowsDown : Course → Pass → DownEnd → Course → Type 0
ShowsDown mid pass end after = (s : SplitProgram) (calls more : List Call) (st : State) → IsShown s calls st mid
    → IsDownPassOf calls st pass (came_to (journal s (calls ++ more)) st pass (is_down_end (down_answer_of end)))
    → down_answer (calls ++ more) pass.number ≡ down_end (down_answer_of end)
    → IsShown s (calls ++ more) (came_to (journal s (calls ++ more)) st pass (is_down_end (down_answer_of end))) after

-- the state in which a packet came may let it in
may_come_in : (calls : List Call) (st : State) (stages : ℕ) → Carried (HasGoneUp calls) st → IsUpPassOf calls (came (tick st)) (pass_of (tick st) true (length st.progress) stages)
may_come_in calls st stages gone = record {
  gone = record { up = gone.up; held = gone.held; down = gone.down; passes = gone.passes };
  pre = refl;
  entered = (st.events + 1, get_pushed st.progress (Entered (st.events + 1) (seen st)));
}

pub admit_turned : (x : Inputs) (c mid after : Course) (old new : PortState) (packet : Packet) (pass : Pass) (end : UpEnd)
    → CanGoOn x c old → slice_get x.packets (length c.fates.items) ≡ Some packet → pass ≡ pass_for c true (length c.fates.items)
    → TakesUp x.manner.fine (Ok end) pass.number packet old new
    → ((s : SplitProgram) (calls : List Call) (st : State) → IsShown s calls st c → IsShown s calls (came (tick st)) mid)
    → ((y : Inputs) → IsSound y c → length c.fates.items < length y.packets → IsSound y mid × TakesOneMore y mid)
    → ShowsUp mid pass end after → ((y : Inputs) → IsSound y mid → TakesOneMore y mid → FitsUp y pass end → IsSound y after)
    → unapplied after ≡ unapplied c → after.events ≡ c.events + 1 → HasAdvanced x event.Admit Did c old after new
admit_turned x c mid after old new packet pass end going here pass_so takes_so mid_shown mid_sound shows sound same counted =
    let setup = setup_for x in
    let answer = answer_of end in
    let n = length c.fates.items in
    let fine = x.manner.fine in
    let stages : c.pre_stages ≡ setup.pre_stages = going.sound.pre_stages in
    let number : pass.number ≡ n = ap (λ (p : Pass). p.number) pass_so in
    let left : pass.left ≡ setup.pre_stages = ap (λ (p : Pass). p.left) pass_so ∙ stages in
    let takes : TakesUp fine (Ok end) n packet old new = subst (λ k. TakesUp fine (Ok end) k packet old new) number takes_so in
    let loaded = going.loaded in
    let ends : is_up_end answer ≡ eqb setup.pre_stages 0 = up_ends_so x end n packet old new loaded fine takes in
    let less = slice_get_within x.packets n packet here in
    let first = mid_sound x going.sound less in
    let fits : FitsUp x pass end = up_fits x pass n packet.port packet.bytes end (framed x end n packet old new loaded fine takes)
    (λ off. subst (λ k. 0 < k) (sym left) (has_some setup.pre_stages (is_up_end answer) ends off)) in
    let spare : unapplied after ≤ new.spare = let more = up_spare x end n packet old new loaded fine takes in let before = going.spare in subst (λ k. k ≤ new.spare) (sym same) (omega arith) in
    let arrival : IsArrival packet = each_got IsArrival x.packets n packet going.prepared.ready.arrivals here in
    call_turned x event.Admit c after old new (CalledUp fine n packet answer) going arrival (up_made x end n packet old new loaded fine takes)
    (sound x first.0 first.1 fits) spare counted
    (λ events calls st replay h.
    let count = fates_count (whole x) calls st c h in
    let at : slice_get x.packets (length st.progress) ≡ Some packet = subst (λ k. slice_get x.packets k ≡ Some packet) count here in
    let packet_is : packet_at x.packets (length st.progress) ≡ packet = same_Some _ _ (sym (slice_get-get_or x.packets (length st.progress) _ (slice_get_within x.packets (length st.progress) packet at)) ∙ at) in
    let may : applies setup st event.Admit ≡ true = lt-ltb _ _ (slice_get_within x.packets (length st.progress) packet at) in
    let call = CalledUp fine n packet answer in
    let all = calls ++ call ∷ [] in
    let now : pass ≡ pass_of (tick st) true (length st.progress) setup.pre_stages =
    pass_so ∙ pass_is (whole x) calls st c true n h ∙ (λ i. pass_of (tick st) true (count i) (stages i)) in
    let told : up_answer all pass.number ≡ up_end answer = subst (λ k. up_answer all k ≡ up_end answer) (sym number)
    (answers_up x events calls st n answer call None replay.answered (ap (slice_get st.progress) count ∙ get_past st.progress) refl (up_call fine n packet answer)) in
    let came_shown = shows (whole x) calls (call ∷ []) (came (tick st)) (mid_shown (whole x) calls st h)
    (subst (IsUpPassOf calls (came (tick st))) (sym now) (may_come_in calls st setup.pre_stages (have_gone x events calls st replay.answered))) told in
    let a = answered x all in
    record {
      may = may;
      asks_so = λ i. AsksUp fine (count i) (sym packet_is i) (ends i) ∷ [];
      shown = subst (λ w. IsShown (whole x) all w after)
          ((λ i. came_to a (came (tick st)) (now i) (ends i)) ∙ came_is a (came (tick st)) (pass_of (tick st) true (length st.progress) setup.pre_stages) (eqb setup.pre_stages 0)) came_shown;
    })

-- ## A pass takes a stage

last_by : (stage left highest : ℕ) → stage + left ≡ highest → 0 < left → not (nat_lt (suc stage) highest) ≡ leb left 1
last_by stage left highest is some = elim (cases_Bool (leb left 1)) [
  | inl t ↦ let low = leb-true left 1 t in ap not (le-ltb (suc stage) highest (omega arith)) ∙ sym t
  | inr f ↦ let high = leb-false left 1 f in ap not (lt-ltb (suc stage) highest (omega arith)) ∙ sym f
]

all_stages : (fine : Bool) (highest stage left : ℕ) → stage + left ≡ (if fine then highest else 0) → 0 < left → stage + left ≡ highest
all_stages true highest stage left is some = is
all_stages false highest stage left is some = absurd (omega arith)

module _ (x : Inputs) (c : Course) (old new : PortState) (j : ℕ) (pass : Pass) (going : CanGoOn x c old) (here : slice_get c.passes j ≡ Some pass)
    (on : IsOnSwitch (setup_for x) x.packets old.passes pass) where
  module _ (pre : pass.pre ≡ true) where
    pub up_there : old.passes.pre pass.number ≡ Some on.own
    up_there = ap (λ b. passes_of b old.passes pass.number) (sym pre) ∙ on.there

    pub has_up_pass : HasUpPass old pass.number
    has_up_pass = subst IsSome (sym up_there) refl

    up_left : on.own.stage + pass.left ≡ (whole x).pre_stages
    up_left = all_stages x.manner.fine _ _ _ (on.left ∙ ap (λ b. highest_of b (setup_for x)) pre) on.some

    pub stage_ends : (end : UpEnd) → StagesUp (Ok end) pass.number old new → is_up_end (answer_of end) ≡ leb pass.left 1
    stage_ends end stages =
        ends_so _ end (stages.goes (code_for x) on.own going.loaded up_there) ∙ last_by on.own.stage pass.left (whole x).pre_stages up_left on.some

    stage_frame : (end : UpEnd) → StagesUp (Ok end) pass.number old new → IsUpFrame (code_for x) pass.number on.own.packet.port on.own.packet.bytes end
    stage_frame end stages = stages.frame (code_for x) on.own going.loaded up_there

  module _ (post : pass.pre ≡ false) where
    pub down_there : old.passes.post pass.number ≡ Some on.own
    down_there = ap (λ b. passes_of b old.passes pass.number) (sym post) ∙ on.there

    pub has_down_pass : HasDownPass old pass.number
    has_down_pass = subst IsSome (sym down_there) refl

    down_left : on.own.stage + pass.left ≡ (whole x).post_stages
    down_left = all_stages x.manner.fine _ _ _ (on.left ∙ ap (λ b. highest_of b (setup_for x)) post) on.some

    pub stage_down_ends : (end : DownEnd) → StagesDown (Ok end) pass.number old new → is_down_end (down_answer_of end) ≡ leb pass.left 1
    stage_down_ends end stages =
        down_ends_by _ end (stages.goes (code_for x) on.own going.loaded down_there) ∙ last_by on.own.stage pass.left (whole x).post_stages down_left on.some

staged_at : (x : Inputs) (calls : List Call) (st : State) (c : Course) (j : ℕ) (pass : Pass) → IsShown (whole x) calls st c → slice_get c.passes j ≡ Some pass
    → slice_get st.passes j ≡ Some pass
staged_at x calls st c j pass h here = ap (λ l. slice_get l j) (sym h.passes) ∙ here

stage_applies : (x : Inputs) (st : State) (j : ℕ) (pass : Pass) → slice_get st.passes j ≡ Some pass → applies (setup_for x) st (event.Stage j) ≡ true
stage_applies x st j pass at = lt-ltb _ _ (slice_get_within st.passes j pass at)

-- what a stage does, by whether it is the last
staged_is : (a : Answers) (st : State) (j : ℕ) (pass : Pass) → slice_get st.passes j ≡ Some pass
    → staged a (tick st) j (slice_get st.passes j)
    ≡ (if leb pass.left 1 then ended a (record (tick st) { passes = remove st.passes j }) pass
    else record (tick st) { passes = slice_set st.passes j (record pass { left = pass.left - 1 }) })
staged_is a st j pass at = ap (staged a (tick st) j) at

asks_side : (x : Inputs) (calls : List Call) (st : State) (j : ℕ) (pass : Pass) (pre ends : Bool) → slice_get st.passes j ≡ Some pass → pass.pre ≡ pre → ends ≡ leb pass.left 1
    → (if pre then AsksStageUp pass.number ends ∷ [] else AsksStageDown pass.number ends ∷ []) ≡ asks (setup_for x) (whole x) x.packets calls st (event.Stage j)
asks_side x calls st j pass pre ends at side is =
    (λ i. if sym side i then AsksStageUp pass.number (is i) ∷ [] else AsksStageDown pass.number (is i) ∷ []) ∙ sym (ap asks_stage at)

one_left : (left : ℕ) → 1 < left → 0 < left - 1
one_left left h = omega arith

-- the pass goes on, with a stage less
pub stage_goes_on : (x : Inputs) (c after : Course) (old new : PortState) (j : ℕ) (pass : Pass) (call : Call)
    → CanGoOn x c old → slice_get c.passes j ≡ Some pass → IsGiven (code_for x) call → WasMade call old new → old.spare ≤ new.spare → leb pass.left 1 ≡ false
    → ((calls : List Call) (st : State) → slice_get st.passes j ≡ Some pass → question_of call ∷ [] ≡ asks (setup_for x) (whole x) x.packets (calls ++ call ∷ []) st (event.Stage j))
    → after ≡ record c { passes = slice_set c.passes j (less_one pass); events = c.events + 1 } → HasAdvanced x (event.Stage j) Did c old after new
stage_goes_on x c after old new j pass call going here given was more some asks_so is =
    let less = less_one pass in
    let later : Course = record c { passes = slice_set c.passes j less; events = c.events + 1 } in
    let same : before_server later.passes ≡ before_server c.passes = set_count (λ (p : Pass). p.pre) c.passes j pass less here refl in
    let left = one_left pass.left (leb-false pass.left 1 some) in
    subst (λ (z : Course). HasAdvanced x (event.Stage j) Did c old z new) (sym is)
    (call_turned x (event.Stage j) c later old new call going given was
    (taken_sound x c later going.sound refl (each_set HasLeft c.passes j less going.sound.left left) (omega arith) going.sound.down)
    (le_trans _ _ _ going.spare more) refl
    (λ events calls st replay h.
    let at = staged_at x calls st c j pass h here in
    let a = answered x (calls ++ call ∷ []) in
    let now : State = record (tick st) { passes = slice_set st.passes j less } in
    record {
      may = stage_applies x st j pass at;
      asks_so = asks_so calls st at;
      shown = subst (λ w. IsShown (whole x) (calls ++ call ∷ []) w later)
          (sym (staged_is a st j pass at
          ∙ ap (λ (b : Bool). if b then ended a (record (tick st) { passes = remove st.passes j }) pass else record (tick st) { passes = slice_set st.passes j (record pass { left = pass.left - 1 }) }) some))
          (passes_shown (whole x) calls (call ∷ []) st c later pass h (have_gone x events calls st replay.answered) now refl refl
          (ap (λ l. slice_set l j less) h.passes) (ap (λ n. n + 1) h.events));
    }))

pub stage_up_goes_on : (x : Inputs) (c after : Course) (old new : PortState) (j : ℕ) (pass : Pass) → CanGoOn x c old
    → slice_get c.passes j ≡ Some pass → IsOnSwitch (setup_for x) x.packets old.passes pass → pass.pre ≡ true → StagesUp (Ok up.Going) pass.number old new
    → after ≡ record c { passes = slice_set c.passes j (less_one pass); events = c.events + 1 } → HasAdvanced x (event.Stage j) Did c old after new
stage_up_goes_on x c after old new j pass going here on pre stages is =
    let call = CalledStageUp pass.number GoingUp in
    let more : false ≡ leb pass.left 1 = stage_ends x c old new j pass going here on pre up.Going stages in
    stage_goes_on x c after old new j pass call going here tt (has_up_pass x c old new j pass going here on pre, stages) stages.kept.spare (sym more)
    (λ calls st at. asks_side x (calls ++ call ∷ []) st j pass true false at pre more) is

pub stage_down_goes_on : (x : Inputs) (c after : Course) (old new : PortState) (j : ℕ) (pass : Pass) → CanGoOn x c old
    → slice_get c.passes j ≡ Some pass → IsOnSwitch (setup_for x) x.packets old.passes pass → pass.pre ≡ false → StagesDown (Ok down.Going) pass.number old new
    → after ≡ record c { passes = slice_set c.passes j (less_one pass); events = c.events + 1 } → HasAdvanced x (event.Stage j) Did c old after new
stage_down_goes_on x c after old new j pass going here on post stages is =
    let call = CalledStageDown pass.number GoingDown in
    let more : false ≡ leb pass.left 1 = stage_down_ends x c old new j pass going here on post down.Going stages in
    stage_goes_on x c after old new j pass call going here tt (has_down_pass x c old new j pass going here on post, stages) stages.kept.spare (sym more)
    (λ calls st at. asks_side x (calls ++ call ∷ []) st j pass false false at post more) is

-- a stage call that isn't going on has ended the pass
ends_up_here : (end : UpEnd) → (end ≡ up.Going → ⊥) → is_up_end (answer_of end) ≡ true
ends_up_here (up.Finished verdict) not_going = refl
ends_up_here (up.Up frame) not_going = refl
ends_up_here up.Going not_going = absurd (not_going refl)

ends_down_here : (end : DownEnd) → (end ≡ down.Going → ⊥) → is_down_end (down_answer_of end) ≡ true
ends_down_here (down.Verdict verdict) not_going = refl
ends_down_here down.Going not_going = absurd (not_going refl)

-- its last stage has ended it
ended_is : (a : Answers) (st : State) (j : ℕ) (pass : Pass) → slice_get st.passes j ≡ Some pass → leb pass.left 1 ≡ true
    → came_to a (record (tick st) { passes = remove st.passes j }) pass true ≡ staged a (tick st) j (slice_get st.passes j)
ended_is a st j pass at last =
    sym (staged_is a st j pass at
    ∙ ap (λ (b : Bool). if b then ended a (record (tick st) { passes = remove st.passes j }) pass else record (tick st) { passes = slice_set st.passes j (record pass { left = pass.left - 1 }) }) last)

module _ (x : Inputs) (c mid after : Course) (old new : PortState) (j : ℕ) (pass : Pass) (going : CanGoOn x c old) (here : slice_get c.passes j ≡ Some pass)
    (on : IsOnSwitch (setup_for x) x.packets old.passes pass) (is : mid ≡ record c { passes = remove c.passes j; events = c.events + 1 })
    (same : unapplied after ≡ unapplied mid) (counted : after.events ≡ mid.events) where
  abbrev without : Course
  without = record c { passes = remove c.passes j; events = c.events + 1 }

  mid_sound : IsSound x mid
  mid_sound = subst (IsSound x) (sym is) (taken_sound x c without going.sound refl (each_remove HasLeft c.passes j going.sound.left)
      (remove_at_most c.passes j pass here) going.sound.down)

  mid_shown : (calls : List Call) (st : State) → IsShown (whole x) calls st c → IsShown (whole x) calls (record (tick st) { passes = remove st.passes j }) mid
  mid_shown calls st h = subst (IsShown (whole x) calls (record (tick st) { passes = remove st.passes j })) (sym is)
      (moved_shown (whole x) calls calls st (record (tick st) { passes = remove st.passes j }) c without h refl refl (ap (λ l. remove l j) h.passes)
      h.up h.up_frames (λ k n need at. refl) h.down h.down_frames h.fates (ap (λ n. n + 1) h.events) h.idle)

  enough_spare : old.spare ≤ new.spare → unapplied after ≤ new.spare
  enough_spare more = subst (λ k. k ≤ new.spare) (sym (same ∙ ap unapplied is)) (le_trans _ _ _ going.spare more)

  counted_so : after.events ≡ c.events + 1
  counted_so = counted ∙ ap (λ (z : Course). z.events) is

  -- a packet that arrived
  pub stage_up_ends : (end : UpEnd) → (end ≡ up.Going → ⊥) → pass.pre ≡ true → StagesUp (Ok end) pass.number old new → ShowsUp mid pass end after
      → ((y : Inputs) → IsSound y mid → TakesOneMore y mid → FitsUp y pass end → IsSound y after) → HasAdvanced x (event.Stage j) Did c old after new
  stage_up_ends end not_going pre stages shows sound =
      let answer = answer_of end in
      let call = CalledStageUp pass.number answer in
      let ends = ends_up_here end not_going in
      let last : is_up_end answer ≡ leb pass.left 1 = stage_ends x c old new j pass going here on pre end stages in
      let fits = up_fits x pass pass.number on.own.packet.port on.own.packet.bytes end (stage_frame x c old new j pass going here on pre end stages) (λ off. let bad = sym ends ∙ off in cc) in
      let room : TakesOneMore x mid = subst (TakesOneMore x) (sym is) (makes_room x c without going.sound.within
      (one_less_undecided _ _ _ _ _ _ _ (let r = remove_before c.passes j pass here pre in omega arith) refl refl) refl) in
      call_turned x (event.Stage j) c after old new call going tt
      (has_up_pass x c old new j pass going here on pre, subst (λ e. StagesUp (Ok e) pass.number old new) (end_back end) stages)
      (sound x mid_sound room fits) (enough_spare stages.kept.spare) counted_so
      (λ events calls st replay h.
      let at = staged_at x calls st c j pass h here in
      let entered = (have_places x events calls st replay.answered).entered j pass at pre in
      let told = answers_up x events calls st pass.number answer call _ replay.answered entered.1 refl (stage_up_call pass.number answer) in
      let out : State = record (tick st) { passes = remove st.passes j } in
      let a = answered x (calls ++ call ∷ []) in
      record {
        may = stage_applies x st j pass at;
        asks_so = asks_side x (calls ++ call ∷ []) st j pass true (is_up_end answer) at pre last;
        shown = subst (λ w. IsShown (whole x) (calls ++ call ∷ []) w after) (ap (came_to a out pass) ends ∙ ended_is a st j pass at (sym last ∙ ends))
            (shows (whole x) calls (call ∷ []) out (mid_shown calls st h)
            (record { gone = carried_passes (HasGoneUp calls) st j (have_gone x events calls st replay.answered); pre = pre; entered = entered }) told);
      })

  -- one that came down
  pub stage_down_ends_it : (end : DownEnd) → (end ≡ down.Going → ⊥) → pass.pre ≡ false → StagesDown (Ok end) pass.number old new → ShowsDown mid pass end after
      → ((y : Inputs) → IsSound y mid → pass.pre ≡ false → FitsDown pass end → IsSound y after) → HasAdvanced x (event.Stage j) Did c old after new
  stage_down_ends_it end not_going post stages shows sound =
      let answer = down_answer_of end in
      let call = CalledStageDown pass.number answer in
      let ends = ends_down_here end not_going in
      let last : is_down_end answer ≡ leb pass.left 1 = stage_down_ends x c old new j pass going here on post end stages in
      call_turned x (event.Stage j) c after old new call going tt
      (has_down_pass x c old new j pass going here on post, subst (λ e. StagesDown (Ok e) pass.number old new) (down_end_back end) stages)
      (sound x mid_sound post (down_fits pass end (λ off. let bad = sym ends ∙ off in cc))) (enough_spare stages.kept.spare) counted_so
      (λ events calls st replay h.
      let at = staged_at x calls st c j pass h here in
      let may = stage_applies x st j pass at in
      let held = (have_places x events calls st replay.answered).behind j pass at post in
      let told = answers_down x events calls st pass.number answer call _ replay.answered held.4 refl (stage_down_call pass.number answer) in
      let asks_so = asks_side x (calls ++ call ∷ []) st j pass false (is_down_end answer) at post last in
      let out : State = record (tick st) { passes = remove st.passes j } in
      let a = answered x (calls ++ call ∷ []) in
      let is : came_to a out pass (is_down_end answer) ≡ staged a (tick st) j (slice_get st.passes j) =
      ap (came_to a out pass) ends ∙ ended_is a st j pass at (sym last ∙ ends) in
      let places_then = subst HavePlaces (sym is) (placed_after x (event.Stage j) events calls call st may asks_so replay.answered) in
      record {
        may = may;
        asks_so = asks_so;
        shown = subst (λ w. IsShown (whole x) (calls ++ call ∷ []) w after) is (shows (whole x) calls (call ∷ []) out (mid_shown calls st h)
            (record { gone = carried_passes (HasGoneUp calls) st j (have_gone x events calls st replay.answered); post = post; held = held; places = places_then }) told);
      })

-- ## A frame that comes down

pub not_less : (j n : ℕ) → (j < n → false ≡ true) → n ≤ j
not_less j n h = elim (cases_lt j n) [
  | inl less ↦ let no_way : false ≡ true = h less in cc
  | inr past ↦ past
]

pub framed_down : (x : Inputs) (c : Course) (port : PortState) (j n : ℕ) (frame : List ℕ) → CanGoOn x c port
    → slice_get c.down.items j ≡ Some (n, frame) → IsDownFrame port frame
framed_down x c port j n frame going here =
    subst (λ o. IfSome o (λ code. IsFrame 2 code.down frame)) (sym going.loaded)
    (each_got (FramedDown x) c.down.items j (n, frame) going.sound.down here)

pub down_turned : (x : Inputs) (c mid after : Course) (old new : PortState) (j n : ℕ) (frame : List ℕ) (pass : Pass) (end : DownEnd)
    → CanGoOn x c old → slice_get c.down.items j ≡ Some (n, frame) → number_in frame ≡ n → pass ≡ pass_for mid false n
    → TakesDown x.manner.fine (Ok end) frame old new → mid ≡ record c { down = mid.down; events = c.events + 1 } → mid.down.items ≡ remove c.down.items j
    → ShowsDown mid pass end after → ((y : Inputs) → IsSound y mid → pass.pre ≡ false → FitsDown pass end → IsSound y after)
    → unapplied after ≡ unapplied mid → after.events ≡ mid.events → HasAdvanced x (event.Down j) Did c old after new
down_turned x c mid after old new j n frame pass end going here numbered pass_so takes mid_is down shows sound same counted =
    let setup = setup_for x in
    let answer = down_answer_of end in
    let fine = x.manner.fine in
    let stages : mid.post_stages ≡ setup.post_stages = ap (λ (z : Course). z.post_stages) mid_is ∙ going.sound.post_stages in
    let post : pass.pre ≡ false = ap (λ (p : Pass). p.pre) pass_so in
    let number : pass.number ≡ n = ap (λ (p : Pass). p.number) pass_so in
    let left : pass.left ≡ setup.post_stages = ap (λ (p : Pass). p.left) pass_so ∙ stages in
    let ends : is_down_end answer ≡ eqb setup.post_stages 0 = down_ends_so x end n frame old new going.loaded fine takes in
    let fits : FitsDown pass end = down_fits pass end (λ off. subst (λ k. 0 < k) (sym left) (has_some setup.post_stages (is_down_end answer) ends off)) in
    let framed = each_got (FramedDown x) c.down.items j (n, frame) going.sound.down here in
    let without : Course = record c { down = mid.down; events = c.events + 1 } in
    let mid_sound : IsSound x mid = subst (IsSound x) (sym mid_is) (taken_sound x c without going.sound refl going.sound.left (omega arith)
    (subst (Each (FramedDown x)) (sym down) (each_remove (FramedDown x) c.down.items j going.sound.down))) in
    let spare : unapplied after ≤ new.spare = subst (λ k. k ≤ new.spare) (sym (same ∙ ap unapplied mid_is))
    (le_trans _ _ _ going.spare (down_spare x end n frame old new going.loaded fine takes)) in
    let call = CalledDown fine n frame answer in
    call_turned x (event.Down j) c after old new call going (framed, numbered) (down_made x end n frame old new going.loaded fine takes)
    (sound x mid_sound post fits) spare (counted ∙ ap (λ (z : Course). z.events) mid_is)
    (λ events calls st replay h.
    let s = whole x in
    let all = calls ++ call ∷ [] in
    let a = answered x all in
    let at = down_at s calls st c h j (n, frame) here in
    let may : applies setup st (event.Down j) ≡ true = lt-ltb _ _ (slice_get_within st.down j n at) in
    let stand = have_places x events calls st replay.answered in
    let held = stand.down j n at in
    let carried = have_gone x events calls st replay.answered in
    let out : State = record (tick st) { down = remove st.down j } in
    let mid_shown : IsShown s calls out mid = subst (IsShown s calls out) (sym mid_is) (moved_shown s calls calls st out c without h refl refl h.passes
    h.up h.up_frames (λ k m need e. refl) (ap (map number_of) down ∙ map_remove number_of c.down.items j ∙ ap (λ l. remove l j) h.down)
    (λ k item e. let r = get_removed c.down.items j k item (sym (ap (λ l. slice_get l k) down) ∙ e) in h.down_frames r.0 item r.1)
    h.fates (ap (λ z. z + 1) h.events) h.idle) in
    let now : pass ≡ pass_of (tick st) false n setup.post_stages = pass_so ∙ pass_is s calls out mid false n mid_shown ∙ ap (pass_of (tick st) false n) stages in
    let went = carried.down n (get_member st.down j n at) in
    let frame_is : frame ≡ down_frame s all st n = h.down_frames j (n, frame) here
    ∙ ap (λ u. s.serve_down (over_in (slice_get st.progress n)) (frame_in u)) (went.1 ∙ sym (answer_stays calls (call ∷ []) n (SentUp went.0) went.1)) in
    let asks_so : question_of call ∷ [] ≡ asks setup s x.packets all st (event.Down j) =
    (λ i. AsksDown fine n (frame_is i) (ends i) ∷ []) ∙ ap (asks_down setup s all st) (sym at) in
    let is : came_to a out pass (is_down_end answer) ≡ happens setup a (tick st) (event.Down j) =
    (λ i. came_to a out (now i) (ends i)) ∙ came_is a out (pass_of (tick st) false n setup.post_stages) (eqb setup.post_stages 0) ∙ ap (came_down setup a (tick st) j) (sym at) in
    let told : down_answer all pass.number ≡ down_end answer = subst (λ k. down_answer all k ≡ down_end answer) (sym number)
    (answers_down x events calls st n answer call _ replay.answered held.4 refl (down_call fine n frame answer)) in
    let places_then = subst HavePlaces (sym is) (placed_after x (event.Down j) events calls call st may asks_so replay.answered) in
    let held_so : IsHeld out pass.number = subst (IsHeld out) (sym number) held in
    let came_shown = shows s calls (call ∷ []) out mid_shown
    (record { gone = carried_down (HasGoneUp calls) st j carried; post = post; held = held_so; places = places_then }) told in
    record {
      may = may;
      asks_so = asks_so;
      shown = subst (λ w. IsShown s all w after) is came_shown;
    })
