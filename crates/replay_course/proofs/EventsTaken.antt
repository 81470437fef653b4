-- An event leads from one replay that a course shows to the next.
use Rattle.std.proofs.Common.{◌≡◌, ◌≤◌, ◌+◌, ℕ, suc, Bool, true, false, List, [], ◌∷◌, ◌++◌, Option, Some, None, inl, inr, refl, sym, ap, subst, ◌∙◌, arith, length, map, ltb}
use Rattle.std.specs.Prelude.{slice_get, remove, if◌then◌else◌}
use Rattle.std.proofs.lemmas.Bool.{cases_Bool, eq-eqb}
use Rattle.std.proofs.lemmas.List.{append-nil, length-map}
use Rattle.std.proofs.lemmas.Option.{none-some}
use Rattle.packet_fields.specs.declared.packet.Packet.{Packet}
use Rattle.writeback_table.specs.declared.command.Command.{Command}
use Rattle.run_model.specs.declared.event.Event.{Event}
use Rattle.run_model.specs.declared.event.Event.TheVariants as event
use Rattle.switch_ir.specs.Port.{PortState, IsCommandOf}
use Rattle.output_commit.specs.Batches.{fits}
use Rattle.output_commit.specs.Commit.{Commit, commands, next}
use Rattle.replay_state.specs.Answers.{Answers, Setup}
use Rattle.replay_state.specs.Carried.{Carried}
use Rattle.replay_state.specs.Journal.{Call, CalledCommand, CalledDown, CalledStageDown, CalledStageUp, CalledUp, DownAnswer, HasGoneUp, IsAnswered, UpAnswer, asked, asks, asks_command, down_answer, down_end, has_come_down, has_passed, journal, one_if, only_for, or_else, question_of, up_answer, up_end}
use Rattle.replay_state.proofs.Laws.{a_run_is_answered_by_its_calls-fresh_down as fresh_down, a_run_is_answered_by_its_calls-fresh_up as fresh_up}
use Rattle.replay_state.proofs.Laws.{a_run_is_answered_by_its_calls-gone as went_up, a_run_is_answered_by_its_calls-once as end_once, a_run_is_answered_by_its_calls-step as answers_step, packets_are_where_they_are_told}
use Rattle.replay_state.specs.Places.{HavePlaces}
use Rattle.replay_state.specs.Program.{SplitProgram, setup_of}
use Rattle.replay_state.specs.declared.pass.Pass.{Pass}
use Rattle.replay_state.specs.State.{Progress, State, fate_of}
use Rattle.replay_state.specs.Step.{applies, ended, happens, idled, step, tick}
use Rattle.split_answers.specs.Over.{IsGiven}
use Rattle.replay_contracts.specs.Called.{KeepsCalls, WasMade}
use Rattle.replay_contracts.specs.Inputs.{Inputs, code_for, setup_for, whole}
use Rattle.replay_contracts.specs.Replay.{IsReplay, answered}
use Rattle.replay_contracts.specs.Replayer.{stepped_by}
use Rattle.replay_contracts.specs.declared.job.Stepped.{Stepped}
use Rattle.replay_contracts.specs.declared.job.Stepped.TheVariants.{Did, Idle}
use Rattle.replay_course.specs.declared.course.Course.{Course}
use Rattle.replay_course.specs.Going.{HasAdvanced, CanGoOn, IsPrepared, IsSound, came_to, unapplied}
use Rattle.replay_course.specs.Shown.{IsShown}
use Rattle.replay_course.proofs.ToldByCalls.{called_once, keeps_all, kept_stays, made_stays}
use Rattle.replay_contracts.proofs.Calls.{made_leaves}
use Rattle.replay_course.proofs.Lists.{member_kept}
use Rattle.replay_course.proofs.Named.{commands_named}
use Rattle.lemmas.proofs.Lists.{each_got}

-- ## What stands in a replay

pub have_places : (x : Inputs) (events : List Event) (calls : List Call) (st : State) → IsAnswered (setup_for x) (whole x) x.packets events calls st → HavePlaces st
have_places x events calls st h = subst HavePlaces (sym h.run) (packets_are_where_they_are_told (setup_for x) (journal (whole x) calls) events)

pub have_gone : (x : Inputs) (events : List Event) (calls : List Call) (st : State) → IsAnswered (setup_for x) (whole x) x.packets events calls st → Carried (HasGoneUp calls) st
have_gone x = went_up (setup_for x) (whole x) x.packets

-- what fits is what the commit holds to
pub fits_same : (x : Inputs) (c : Course) → IsPrepared x → IsSound x c → (setup_for x).fits ≡ fits c.commit.writeback
fits_same x c prepared sound = ap (λ m. (setup_of (whole x) x.packets m).fits) prepared.manner ∙ ap fits (sym sound.writeback)

-- ## Events that call for no packet and no command

pub quiet_turned : (x : Inputs) (ev : Event) (stepped : Stepped) (c after : Course) (old new : PortState) → CanGoOn x c old → KeepsCalls old new
    → IsSound x after → unapplied after ≤ new.spare → after.events ≡ c.events + 1
    → ((calls : List Call) (st : State) → IsShown (whole x) calls st c → (applies (setup_for x) st ev ≡ true → asks (setup_for x) (whole x) x.packets calls st ev ≡ []))
    → ((events : List Event) (calls : List Call) (st : State) → IsReplay x events calls st old → IsShown (whole x) calls st c
    → (stepped ≡ stepped_by (applies (setup_for x) st ev)) × IsShown (whole x) calls (step (setup_for x) (answered x calls) st ev) after)
    → HasAdvanced x ev stepped c old after new
quiet_turned x ev stepped c after old new going kept sound spare counted asks_none shows = record {
  stays = kept_stays old new kept;
  counted = counted;
  going = record { prepared = going.prepared; sound = sound; loaded = kept.code ∙ going.loaded; spare = spare };
  turns = λ events calls st replay shown.
      let was = shows events calls st replay shown in
      let same = sym (append-nil calls) in
      record {
        one = [];
        asks = subst (λ cs. [] ≡ asked (setup_for x) (whole x) x.packets cs st ev) same (sym (nothing calls st (asks_none calls st shown)));
        called = kept;
        stepped_so = was.0;
        shown = subst (λ cs. IsShown (whole x) cs (step (setup_for x) (answered x cs) st ev) after) same was.1;
      };
}
  where
    nothing : (calls : List Call) (st : State) → (applies (setup_for x) st ev ≡ true → asks (setup_for x) (whole x) x.packets calls st ev ≡ [])
        → asked (setup_for x) (whole x) x.packets calls st ev ≡ []
    nothing calls st h = elim (cases_Bool (applies (setup_for x) st ev)) [ inl t ↦ rw t (h t) | inr f ↦ rw f refl ]

pub no_ask : (x : Inputs) (ev : Event) (calls : List Call) (st : State) → applies (setup_for x) st ev ≡ false → applies (setup_for x) st ev ≡ true
    → asks (setup_for x) (whole x) x.packets calls st ev ≡ []
no_ask x ev calls st f t = let bad = sym f ∙ t in cc

-- an event that can't apply
pub idle_turned : (x : Inputs) (ev : Event) (stepped : Stepped) (c after : Course) (port : PortState) → CanGoOn x c port → stepped ≡ Idle
    → IsSound x after → unapplied after ≡ unapplied c → after.events ≡ c.events + 1
    → ((calls : List Call) (st : State) → IsShown (whole x) calls st c → applies (setup_for x) st ev ≡ false)
    → ((calls : List Call) (st : State) → applies (setup_for x) st ev ≡ false → IsShown (whole x) calls st c → IsShown (whole x) calls (step (setup_for x) (answered x calls) st ev) after)
    → HasAdvanced x ev stepped c port after port
idle_turned x ev stepped c after port going idle sound same counted never shows =
    quiet_turned x ev stepped c after port port going (keeps_all port) sound (subst (λ n. n ≤ port.spare) (sym same) going.spare) counted
    (λ calls st h. no_ask x ev calls st (never calls st h))
    (λ events calls st replay h. (idle ∙ ap stepped_by (sym (never calls st h)), shows calls st (never calls st h) h))

pub fates_count : (s : SplitProgram) (calls : List Call) (st : State) (c : Course) → IsShown s calls st c → length c.fates.items ≡ length st.progress
fates_count s calls st c h = ap length h.fates ∙ length-map st.progress fate_of

-- ## Events that call the switch once

-- what the state does by the call, and what the course shows then
pub record Leads (x : Inputs) (ev : Event) (calls : List Call) (call : Call) (st : State) (after : Course) : Type 0 where
  pub may : applies (setup_for x) st ev ≡ true
  pub asks_so : question_of call ∷ [] ≡ asks (setup_for x) (whole x) x.packets (calls ++ call ∷ []) st ev
  pub shown : IsShown (whole x) (calls ++ call ∷ []) (happens (setup_for x) (answered x (calls ++ call ∷ [])) (tick st) ev) after

asked_once : (x : Inputs) (ev : Event) (calls : List Call) (call : Call) (st : State) (after : Course) → Leads x ev calls call st after
    → map question_of (call ∷ []) ≡ asked (setup_for x) (whole x) x.packets (calls ++ call ∷ []) st ev
asked_once x ev calls call st after leads =
    leads.asks_so ∙ ap (λ (b : Bool). if b then asks (setup_for x) (whole x) x.packets (calls ++ call ∷ []) st ev else []) (sym leads.may)

pub stepped_once : (x : Inputs) (ev : Event) (calls : List Call) (st : State) → applies (setup_for x) st ev ≡ true
    → step (setup_for x) (answered x calls) st ev ≡ happens (setup_for x) (answered x calls) (tick st) ev
stepped_once x ev calls st may = ap (λ (b : Bool). if b then happens (setup_for x) (answered x calls) (tick st) ev else idled (tick st)) may

pub call_turned : (x : Inputs) (ev : Event) (c after : Course) (old new : PortState) (call : Call) → CanGoOn x c old
    → IsGiven (code_for x) call → WasMade call old new → IsSound x after → unapplied after ≤ new.spare → after.events ≡ c.events + 1
    → ((events : List Event) (calls : List Call) (st : State) → IsReplay x events calls st old → IsShown (whole x) calls st c → Leads x ev calls call st after)
    → HasAdvanced x ev Did c old after new
call_turned x ev c after old new call going given was sound spare counted leads = record {
  stays = made_stays call old new was;
  counted = counted;
  going = record {
    prepared = going.prepared;
    sound = sound;
    loaded = (made_leaves call old new was).loaded ∙ going.loaded;
    spare = spare;
  };
  turns = λ events calls st replay h.
      let l = leads events calls st replay h in
      record {
        one = call ∷ [];
        asks = asked_once x ev calls call st after l;
        called = called_once (code_for x) call old new given was;
        stepped_so = ap stepped_by (sym l.may);
        shown = subst (λ w. IsShown (whole x) (calls ++ call ∷ []) w after) (sym (stepped_once x ev (calls ++ call ∷ []) st l.may)) l.shown;
      };
}

-- where packets are behind an event
pub placed_after : (x : Inputs) (ev : Event) (events : List Event) (calls : List Call) (call : Call) (st : State) → applies (setup_for x) st ev ≡ true
    → question_of call ∷ [] ≡ asks (setup_for x) (whole x) x.packets (calls ++ call ∷ []) st ev
    → IsAnswered (setup_for x) (whole x) x.packets events calls st
    → HavePlaces (happens (setup_for x) (answered x (calls ++ call ∷ [])) (tick st) ev)
placed_after x ev events calls call st may asks_so answered_so =
    subst HavePlaces (stepped_once x ev (calls ++ call ∷ []) st may)
    (have_places x (events ++ ev ∷ []) (calls ++ call ∷ []) _
    (answers_step (setup_for x) (whole x) x.packets events ev calls (call ∷ []) st answered_so
    (asks_so ∙ ap (λ (b : Bool). if b then asks (setup_for x) (whole x) x.packets (calls ++ call ∷ []) st ev else []) (sym may))))

-- ## Answers of a call

or_none : {X : Type 0} (o : Option X) → or_else o None ≡ o
or_none None = refl
or_none (Some x) = refl

for_own : {X : Type 0} (n : ℕ) (o : Option X) → or_else (only_for n n o) None ≡ o
for_own n o = let t = eq-eqb n n refl in (rw t refl) ∙ or_none o

-- the call is over the packet of number n, on its way up, and answers so
abbrev pub IsUpCall : ℕ → UpAnswer → Call → Type 0
IsUpCall n answer call = up_answer (call ∷ []) n ≡ up_end answer

pub up_call : (fine : Bool) (n : ℕ) (packet : Packet) (answer : UpAnswer) → IsUpCall n answer (CalledUp fine n packet answer)
up_call fine n packet answer = for_own n (up_end answer)

pub stage_up_call : (n : ℕ) (answer : UpAnswer) → IsUpCall n answer (CalledStageUp n answer)
stage_up_call n answer = for_own n (up_end answer)

abbrev pub IsDownCall : ℕ → DownAnswer → Call → Type 0
IsDownCall n answer call = down_answer (call ∷ []) n ≡ down_end answer

pub down_call : (fine : Bool) (n : ℕ) (frame : List ℕ) (answer : DownAnswer) → IsDownCall n answer (CalledDown fine n frame answer)
down_call fine n frame answer = for_own n (down_end answer)

pub stage_down_call : (n : ℕ) (answer : DownAnswer) → IsDownCall n answer (CalledStageDown n answer)
stage_down_call n answer = for_own n (down_end answer)

-- no call before it ended that pass
pub answers_up : (x : Inputs) (events : List Event) (calls : List Call) (st : State) (n : ℕ) (answer : UpAnswer) (call : Call) (o : Option Progress)
    → IsAnswered (setup_for x) (whole x) x.packets events calls st → slice_get st.progress n ≡ o → has_passed o ≡ false → IsUpCall n answer call
    → up_answer (calls ++ call ∷ []) n ≡ up_end answer
answers_up x events calls st n answer call o answered_so at none is =
    fresh_up calls (call ∷ []) n ((end_once (setup_for x) (whole x) x.packets events calls st answered_so).up n ∙ ap (λ p. one_if (has_passed p)) at ∙ ap one_if none) ∙ is

pub answers_down : (x : Inputs) (events : List Event) (calls : List Call) (st : State) (n : ℕ) (answer : DownAnswer) (call : Call) (o : Option Progress)
    → IsAnswered (setup_for x) (whole x) x.packets events calls st → slice_get st.progress n ≡ o → has_come_down o ≡ false → IsDownCall n answer call
    → down_answer (calls ++ call ∷ []) n ≡ down_end answer
answers_down x events calls st n answer call o answered_so at none is =
    fresh_down calls (call ∷ []) n ((end_once (setup_for x) (whole x) x.packets events calls st answered_so).down n ∙ ap (λ p. one_if (has_come_down p)) at ∙ ap one_if none) ∙ is

-- a pass that ends, or goes on
pub came_is : (a : Answers) (st : State) (pass : Pass) (b : Bool) → came_to a st pass b ≡ (if b then ended a st pass else record st { passes = st.passes ++ pass ∷ [] })
came_is a st pass true = refl
came_is a st pass false = refl

-- what went up stays so where a pass or a packet is taken out of its list
pub carried_passes : (P : ℕ → Type 0) (st : State) (j : ℕ) → Carried P st → Carried P (record (tick st) { passes = remove st.passes j })
carried_passes P st j h = record {
  up = h.up;
  held = h.held;
  down = h.down;
  passes = λ pass member post. h.passes pass (member_kept st.passes j pass member) post;
}

pub carried_down : (P : ℕ → Type 0) (st : State) (j : ℕ) → Carried P st → Carried P (record (tick st) { down = remove st.down j })
carried_down P st j h = record {
  up = h.up;
  held = h.held;
  down = λ n member. h.down n (member_kept st.down j n member);
  passes = h.passes;
}

-- ## Commands

pub apply_turned : (x : Inputs) (c after : Course) (old new : PortState) (command : Command) → CanGoOn x c old
    → IsCommandOf (code_for x) command → WasMade (CalledCommand command) old new → suc new.spare ≡ old.spare
    → IsSound x after → unapplied c ≡ 1 + unapplied after → after.events ≡ c.events + 1
    → ((s : SplitProgram) (setup : Setup) (calls : List Call) (st : State) → IsShown s calls st c → true ≡ applies setup st event.Apply)
    → ((s : SplitProgram) (setup : Setup) (packets : List Packet) (calls : List Call) (st : State) → IsShown s calls st c
    → asks_command (Some command) ≡ asked setup s packets calls st event.Apply)
    → ((s : SplitProgram) (setup : Setup) (a : Answers) (calls : List Call) (st : State) → IsShown s calls st c
    → IsShown s (calls ++ CalledCommand command ∷ []) (step setup a st event.Apply) after)
    → HasAdvanced x event.Apply Did c old after new
apply_turned x c after old new command going named was spare sound one_less counted applied asks_so shows =
    call_turned x event.Apply c after old new (CalledCommand command) going named was sound (let before = going.spare in omega arith) counted
    (λ events calls st replay h.
    let may : applies (setup_for x) st event.Apply ≡ true = sym (applied (whole x) (setup_for x) calls st h) in
    record {
      may = may;
      asks_so = asks_so (whole x) (setup_for x) x.packets calls st h
          ∙ ap (λ (b : Bool). if b then asks (setup_for x) (whole x) x.packets calls st event.Apply else []) may;
      shown = subst (λ w. IsShown (whole x) (calls ++ CalledCommand command ∷ []) w after) (stepped_once x event.Apply (calls ++ CalledCommand command ∷ []) st may)
          (shows (whole x) (setup_for x) (answered x (calls ++ CalledCommand command ∷ [])) calls st h);
    })

-- the next command is one of the code, behind those that were applied
pub next_at : (k : Commit) (command : Command) → Some command ≡ next k → slice_get (commands k) k.done ≡ Some command
next_at k command e = elim (cases_Bool (ltb k.done k.sent)) [
  | inl t ↦ let here : Some command ≡ slice_get (commands k) k.done = e ∙ (rw t refl) in sym here
  | inr f ↦ let none : next k ≡ None = (rw f refl) in absurd (none-some _ (sym none ∙ sym e))
]

pub next_named : (x : Inputs) (c : Course) (command : Command) → IsSound x c → Some command ≡ next c.commit → IsCommandOf (code_for x) command
next_named x c command sound here =
    each_got (IsCommandOf (code_for x)) (commands c.commit) c.commit.done command (commands_named (code_for x) c.commit.batches sound.updates) (next_at c.commit command here)

-- the same of an event by its name
pub at_event : (x : Inputs) (named ev : Event) (stepped : Stepped) (c after : Course) (old new : PortState) → named ≡ ev
    → HasAdvanced x ev stepped c old after new → HasAdvanced x named stepped c old after new
at_event x named ev stepped c after old new is h = subst (λ e. HasAdvanced x e stepped c old after new) (sym is) h

-- where no command is to be applied
pub no_command_turned : (x : Inputs) (c after : Course) (port : PortState) → CanGoOn x c port
    → ((s : SplitProgram) (setup : Setup) (calls : List Call) (st : State) → IsShown s calls st c → false ≡ applies setup st event.Apply)
    → ((s : SplitProgram) (setup : Setup) (packets : List Packet) (calls : List Call) (st : State) → IsShown s calls st c
    → [] ≡ asked setup s packets calls st event.Apply)
    → ((s : SplitProgram) (setup : Setup) (a : Answers) (calls : List Call) (st : State) → IsShown s calls st c
    → IsShown s (calls ++ []) (step setup a st event.Apply) after)
    → ((y : Inputs) → IsSound y c → IsSound y after) → unapplied c ≡ 0 + unapplied after → after.events ≡ c.events + 1
    → HasAdvanced x event.Apply Idle c port after port
no_command_turned x c after port going never asks_none shows sound same counted =
    let less : unapplied after ≡ unapplied c = omega arith in
    idle_turned x event.Apply Idle c after port going refl (sound x going.sound) less counted
    (λ calls st h. sym (never (whole x) (setup_for x) calls st h))
    (λ calls st off h. subst (λ cs. IsShown (whole x) cs (step (setup_for x) (answered x calls) st event.Apply) after) (append-nil calls)
    (shows (whole x) (setup_for x) (answered x calls) calls st h))
