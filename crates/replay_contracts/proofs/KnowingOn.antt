-- Over a switch that tells its tables, what each pass under way knows after an event, and what the last stage answers.
use Rattle.std.proofs.Common.{◌≡◌, ◌≤◌, ◌<◌, ◌+◌, ℕ, zero, suc, Bool, true, false, leb, List, [], ◌∷◌, ◌++◌, Some, None, inl, inr, map, refl, sym, ap, ◌∙◌, subst, arith}
use Rattle.std.specs.Prelude.{slice_get, if◌then◌else◌}
use Rattle.std.specs.List.{AllByRecursion as Each}
use Rattle.std.proofs.lemmas.Bool.{cases_Bool, le-leb, false≢true}
use Rattle.packet_fields.specs.declared.packet.Packet.{Packet}
use Rattle.packet_fields.specs.declared.verdict.Verdict.{Verdict}
use Rattle.state_store.specs.Kept.{IsKept}
use Rattle.state_store.specs.Store.{Store}
use Rattle.flat_ir.specs.Arrivals.{IsArrival}
use Rattle.flat_ir.specs.Blocks.{nothing}
use Rattle.switch_ir.specs.Code.{Code}
use Rattle.switch_ir.specs.Meaning.{down_given}
use Rattle.switch_ir.specs.Port.{PortState, OfItsParts, IsHandedDown, IsNothing}
use Rattle.switch_ir.specs.Staged.{EndsBy, EndsDownBy, post_staging, pre_staging, staging}
use Rattle.switch_ir.specs.Tables.{Told}
use Rattle.switch_ir.specs.UnderWay.{EndsWith, HasEntered, HasGoneOn, PassState}
use Rattle.switch_ir.specs.declared.port.DownEnd.TheVariants as down
use Rattle.run_model.specs.declared.event.Event.{Event}
use Rattle.run_model.specs.declared.event.Event.TheVariants.{Stage}
use Rattle.replay_state.specs.Answers.{Setup}
use Rattle.replay_state.specs.Carried.{Carried}
use Rattle.replay_state.specs.Journal.{Call, CalledStageUp, CalledStageDown, EndOnce, HasGoneUp, UpAnswer, SentUp, DownAnswer, Released, GoingDown}
use Rattle.replay_state.specs.Journal.{asked, asks, asks_stage, down_answer, down_ends, down_frame, frame_in, has_come_down, has_passed, is_up_end, is_down_end, one_if, only_for, or_else, over_in, question_of, told, up_answer, up_ends}
use Rattle.replay_state.specs.Places.{HavePlaces}
use Rattle.replay_state.specs.Program.{SplitProgram, packet_at}
use Rattle.replay_state.specs.declared.pass.Pass.{Pass}
use Rattle.replay_state.specs.State.{State, applied_commands, seen, store_at}
use Rattle.replay_state.specs.Step.{applies}
use Rattle.replay_state.specs.Tied.{EndsRight, IsRight}
use Rattle.replay_state.specs.Views.{KeepViews}
use Rattle.split_answers.specs.Through.{IsThrough, end_of}
use Rattle.split_answers.specs.UnderWay.{AreShown, KnowsItsOwn, KnowsOver, KnowTheirOwn, Views, passes_of}
use Rattle.replay_contracts.specs.Called.{WasCalled}
use Rattle.replay_contracts.specs.Inputs.{Inputs, IsReady, code_for, setup_for, whole}
use Rattle.replay_contracts.proofs.Asked.{asked_stage_up, asked_stage_down}
use Rattle.replay_contracts.proofs.OnSwitch.{OnList}
use Rattle.replay_contracts.proofs.PassingOn.{Kept, Rests, around}
use Rattle.replay_contracts.proofs.PassMoves.{Around, Enters, less}
use Rattle.run_model.proofs.Members.{get_member}
use Rattle.replay_state.proofs.Answered.{up_stays}
use Rattle.replay_state.proofs.Laws.{a_run_is_answered_by_its_calls-fresh_down, a_run_is_answered_by_its_calls-fresh_up}
use Rattle.split_answers.proofs.Laws.{a_told_pass_in_stages_is_right-down, a_told_pass_in_stages_is_right-enters_down, a_told_pass_in_stages_is_right-enters_up, a_told_pass_in_stages_is_right-goes_on, a_told_pass_in_stages_is_right-up}
use Rattle.split_answers.proofs.Tells.{end_up, only_one}

-- ## Answers that stand

pub answer_stays : (calls more : List Call) (n : ℕ) (answer : UpAnswer) → up_answer calls n ≡ Some answer → up_answer (calls ++ more) n ≡ Some answer
answer_stays calls more n answer e = sym (up_stays calls more n (answer, e)) ∙ e

one_up : (n : ℕ) (answer : UpAnswer) → is_up_end answer ≡ true → up_answer (CalledStageUp n answer ∷ []) n ≡ Some answer
one_up n answer ended = ap (λ o. or_else (only_for n n o) None) (end_up answer ended) ∙ only_one n answer

-- each packet of the trace can arrive, and so can the one that stands for those behind it
pub arrives_at : (packets : List Packet) (n : ℕ) → Each IsArrival packets → IsArrival (packet_at packets n)
arrives_at [] zero all = record { port = omega arith; bytes = λ i. omega arith; size = omega arith }
arrives_at [] (suc n) all = record { port = omega arith; bytes = λ i. omega arith; size = omega arith }
arrives_at (p ∷ ps) zero all = all.0
arrives_at (p ∷ ps) (suc n) all = arrives_at ps n all.1

-- the stages of a pass in a fine run; one that is under way is in one
last_stage : (fine : Bool) (stage left highest : ℕ) → stage + left ≡ (if fine then highest else 0) → 0 < left → left ≤ 1 → suc stage ≡ highest
last_stage true stage left highest e some few = omega (arith, e, some, few)
last_stage false stage left highest e some few = absurd (omega (arith, e, some))

-- what an event asks that is a stage
pub asked_at_stage : (setup : Setup) (s : SplitProgram) (packets : List Packet) (calls : List Call) (st : State) (event : Event) (j : ℕ) → applies setup st event ≡ true → event ≡ Stage j
    → asked setup s packets calls st event ≡ asks_stage (slice_get st.passes j)
asked_at_stage setup s packets calls st event j t e = rw t (ap (asks setup s packets calls st) e)

-- ## Over told tables

module _ (x : Inputs) (ready : IsReady x) (calls one : List Call) (st : State) (old : PortState) (before : Told) (is_told : old.told ≡ Some before)
    (places : HavePlaces st)
    (through : IsThrough (code_for x) (applied_commands st) before) (knows : KnowTheirOwn x.program x.split x.writeback x.packets calls st old.passes)
    (views : KeepViews (setup_for x) st) (carried : Carried (HasGoneUp calls) st) where
  abbrev code : Code
  code = code_for x

  abbrev s : SplitProgram
  s = whole x

  abbrev KnowsBy : Bool → Packet → List ℕ → Store → Bool → PassState → Type 0
  KnowsBy pre packet frame store bit own = KnowsOver pre x.program x.split x.writeback packet frame store bit own

  -- what stands around the event
  abbrev g : Around
  g = around (setup_for x) s x.packets (calls ++ one) code st old

  -- what is known so is known over the same frame, store and bit
  also : (pre : Bool) (packet : Packet) (frame other : List ℕ) (store there : Store) (bit by : Bool) (own : PassState) → (pre ≡ false → frame ≡ other) → store ≡ there → bit ≡ by
      → KnowsBy pre packet frame store bit own → KnowsBy pre packet other there by own
  also true packet frame other store there bit by own frames stores bits k =
      subst (λ b. KnowsBy true packet other there b own) bits (subst (λ z. KnowsBy true packet other z bit own) stores k)
  also false packet frame other store there bit by own frames stores bits k =
      subst (λ b. KnowsBy false packet other there b own) bits (subst (λ z. KnowsBy false packet other z bit own) stores (subst (λ h. KnowsBy false packet h store bit own) (frames refl) k))

  views_at : (j : ℕ) (p : Pass) → slice_get st.passes j ≡ Some p → Views x.program x.split x.writeback p.bit (applied_commands st) (store_at st.stores p.version)
  views_at j p at o shown = views.each j o p at shown

  -- the frame of a packet in a pass behind the server stays
  frame_stays : (i : ℕ) (r : Pass) (next : State) → slice_get st.passes i ≡ Some r → r.pre ≡ false → slice_get next.progress r.number ≡ slice_get st.progress r.number
      → down_frame s (calls ++ one) next r.number ≡ down_frame s calls st r.number
  frame_stays i r next at behind same =
      let up = carried.passes r (get_member st.passes i r at) behind in
      ap (λ o. s.serve_down (over_in o) (frame_in (up_answer (calls ++ one) r.number))) same
      ∙ ap (λ o. s.serve_down (over_in (slice_get st.progress r.number)) (frame_in o)) (answer_stays calls one r.number (SentUp up.0) up.1 ∙ sym up.1)

  -- ## After an event

  module _ (event : Event) (next : State) (rests : Rests st next event) where
    abbrev pub K : Pass → PassState → Type 0
    K p own = KnowsItsOwn x.program x.split x.writeback x.packets (calls ++ one) next p own

    pub stays : (free : ℕ → Type 0) → ((i : ℕ) (r : Pass) → slice_get st.passes i ≡ Some r → free i → r.pre ≡ false → slice_get next.progress r.number ≡ slice_get st.progress r.number)
        → (i : ℕ) (r : Pass) (own : PassState) → slice_get st.passes i ≡ Some r → passes_of r.pre old.passes r.number ≡ Some own → free i → K r own
    stays free progress i r own at there is_free =
        also r.pre (packet_at x.packets r.number) (down_frame s calls st r.number) (down_frame s (calls ++ one) next r.number) (store_at st.stores r.version) (store_at next.stores r.version) r.bit r.bit own
        (λ behind. sym (frame_stays i r next at behind (progress i r at is_free behind)))
        (sym (rests.stores r.version (views.begun i r at))) refl (knows i r own at there)

    -- a pass that comes
    pub comes : before.bit ≡ g.bit → IsKept x.program.objects (store_at st.stores (seen st))
        → AreShown x.program x.split x.writeback (applied_commands st) (store_at st.stores (seen st))
        → (p : Pass) (own : PassState) → p.bit ≡ g.bit → p.version ≡ seen st → Kept st next p → Enters g p own → K p own
    comes bit_is kept_now shows p own bit version kept enters =
        let store = store_at st.stores (seen st) in
        let stores : store ≡ store_at next.stores p.version = sym (ap (λ l. store_at l p.version) kept.0 ∙ ap (store_at st.stores) version) in
        let bits : before.bit ≡ p.bit = bit_is ∙ sym bit in
        let packet = packet_at x.packets p.number in
        let frame = down_frame s (calls ++ one) st p.number in
        let there = down_frame s (calls ++ one) next p.number in
        elim (cases_Bool p.pre) [
          | inl t ↦
              let entered = subst (λ o. HasEntered (pre_staging code) IsNothing packet o own) is_told (enters.up t) in
              let k : KnowsBy true packet frame store before.bit own =
              a_told_pass_in_stages_is_right-enters_up x.program x.split x.writeback store (applied_commands st) before packet own ready.split kept_now
              (arrives_at x.packets p.number ready.arrivals) through shows entered in
              subst (λ z. KnowsBy z packet there (store_at next.stores p.version) p.bit own) (sym t)
              (also true packet frame there store (store_at next.stores p.version) before.bit p.bit own (λ no. absurd (false≢true (sym no))) stores bits k)
          | inr t ↦
              let down = enters.down t in
              let entered = subst (λ o. OfItsParts code frame
              (λ number arrived values. HasEntered (post_staging code) (IsHandedDown code values arrived) arrived o own)) is_told down.1 in
              let k : KnowsBy false packet frame store before.bit own = (
                down.0,
                λ number port values bytes parts.
                    a_told_pass_in_stages_is_right-enters_down x.program x.split x.writeback store
                    (applied_commands st) before frame own ready.split kept_now down.0 through shows
                    number port values bytes parts (entered number port values bytes parts),
              ) in
              subst (λ z. KnowsBy z packet there (store_at next.stores p.version) p.bit own) (sym t)
              (also false packet frame there store (store_at next.stores p.version) before.bit p.bit own (λ no. ap (λ o. s.serve_down (over_in o) (frame_in (up_answer (calls ++ one) p.number))) (sym (kept.1 t))) stores bits k)
        ]

    -- a pass that goes on
    goes_over : (pre : Bool) (packet : Packet) (frame : List ℕ) (bit : Bool) (store : Store) (own after : PassState) → IsKept x.program.objects store
        → Views x.program x.split x.writeback bit (applied_commands st) store → KnowsBy pre packet frame store bit own → HasGoneOn (staging pre code) (Some before) own after → KnowsBy pre packet frame store bit after
    goes_over true packet frame bit store own after kept sees k gone =
        a_told_pass_in_stages_is_right-goes_on x.program x.split x.writeback store
        (applied_commands st) before true nothing packet bit own after ready.split kept through sees k gone
    goes_over false packet frame bit store own after kept sees k gone = (
      k.0,
      λ number port values bytes parts.
          let arrived : Packet = record { port = port; bytes = bytes } in
          a_told_pass_in_stages_is_right-goes_on x.program x.split x.writeback store (applied_commands st) before false
          (down_given code values arrived) arrived bit own after
          ready.split kept through sees (k.1 number port values bytes parts) gone,
    )

    pub moves : (j : ℕ) (p : Pass) (own after : PassState) → slice_get st.passes j ≡ Some p → passes_of p.pre old.passes p.number ≡ Some own → Kept st next p
        → HasGoneOn (staging p.pre code) (Some before) own after → K (less p) after
    moves j p own after at was kept gone =
        let packet = packet_at x.packets p.number in
        let store = store_at st.stores p.version in
        let k = goes_over p.pre packet (down_frame s calls st p.number) p.bit store own after (views.kept j p at) (views_at j p at)
        (knows j p own at was) gone in
        also p.pre packet (down_frame s calls st p.number) (down_frame s (calls ++ one) next p.number) store (store_at next.stores p.version) p.bit p.bit after
        (λ behind. sym (frame_stays j p next at behind (kept.1 behind)))
        (sym (ap (λ l. store_at l p.version) kept.0)) refl k

  -- ## The last stage

  module _ (once : EndOnce calls st) (loaded : old.code ≡ Some code) (new : PortState) (called : WasCalled code one old new)
      (on : OnList (setup_for x) x.packets st.passes old.passes) where
    ends_up_right : (j : ℕ) (p : Pass) → p.left ≤ 1 → slice_get st.passes j ≡ Some p → p.pre ≡ true → map question_of one ≡ asks_stage (Some p)
        → IsRight s (store_at st.stores p.version) p.number (packet_at x.packets p.number) (up_answer (calls ++ one) p.number)
    ends_up_right j p few at t asked =
        let n = p.number in
        let is = on.each j p at in
        let call = asked_stage_up one n (leb p.left 1) (rw t at asked) in
        let ended : is_up_end call.answer ≡ true = call.ended ∙ le-leb p.left 1 few in
        let made = subst (λ cs. WasCalled code cs old new) call.is called in
        let there : old.passes.pre n ≡ Some is.own = sym (ap (λ b. passes_of b old.passes n) t) ∙ is.there in
        let ends = subst (λ o. EndsWith (pre_staging code) o is.own (λ reads. EndsBy code reads n is.own.packet (end_of call.answer))) is_told (made.2.1.told code is.own loaded there) in
        let k = subst (λ b. KnowsBy b (packet_at x.packets n) (down_frame s calls st n) (store_at st.stores p.version) p.bit is.own) t (knows j p is.own at is.there) in
        let highest = subst (λ b. is.own.stage + p.left ≡ (if b then (setup_for x).pre_stages else (setup_for x).post_stages)) t is.left in
        let right = a_told_pass_in_stages_is_right-up x.program x.split x.writeback (store_at st.stores p.version) (applied_commands st) before
        (packet_at x.packets n) p.bit is.own n call.answer
        ready.split (views.kept j p at) (arrives_at x.packets n ready.arrivals) through (views_at j p at) k
        (last_stage x.manner.fine is.own.stage p.left code.pre.highest highest is.some few) ended ends in
        let no_end : up_ends n calls ≡ 0 = once.up n ∙ ap (λ o. one_if (has_passed o)) (places.entered j p at t).1 in
        let answer_is : up_answer (calls ++ one) n ≡ Some call.answer = a_run_is_answered_by_its_calls-fresh_up calls one n no_end
        ∙ ap (λ cs. up_answer cs n) call.is ∙ one_up n call.answer ended in
        subst (IsRight s (store_at st.stores p.version) n (packet_at x.packets n)) (sym answer_is) right

    released : (answer : DownAnswer) → is_down_end answer ≡ true → (verdict : Verdict) × (answer ≡ Released verdict)
    released (Released verdict) e = (verdict, refl)
    released GoingDown e = absurd (false≢true e)

    ends_down_right : (j : ℕ) (p : Pass) → p.left ≤ 1 → slice_get st.passes j ≡ Some p → p.pre ≡ false → map question_of one ≡ asks_stage (Some p)
        → told (down_answer (calls ++ one) p.number) ≡ s.post (down_frame s (calls ++ one) st p.number)
    ends_down_right j p few at t asked =
        let n = p.number in
        let is = on.each j p at in
        let call = asked_stage_down one n (leb p.left 1) (rw t at asked) in
        let y = released call.answer (call.ended ∙ le-leb p.left 1 few) in
        let one_is : one ≡ CalledStageDown n (Released y.0) ∷ [] = call.is ∙ ap (λ z. CalledStageDown n z ∷ []) y.1 in
        let made = subst (λ cs. WasCalled code cs old new) one_is called in
        let there : old.passes.post n ≡ Some is.own = sym (ap (λ b. passes_of b old.passes n) t) ∙ is.there in
        let ends = subst (λ o. EndsWith (post_staging code) o is.own (λ reads. EndsDownBy code reads is.own.packet (down.Verdict y.0))) is_told (made.2.1.told code is.own loaded there) in
        let k = subst (λ b. KnowsBy b (packet_at x.packets n) (down_frame s calls st n) (store_at st.stores p.version) p.bit is.own) t (knows j p is.own at is.there) in
        let highest = subst (λ b. is.own.stage + p.left ≡ (if b then (setup_for x).pre_stages else (setup_for x).post_stages)) t is.left in
        let right = a_told_pass_in_stages_is_right-down x.program x.split x.writeback (store_at st.stores p.version) (applied_commands st) before
        (down_frame s calls st n) p.bit is.own y.0
        ready.split (views.kept j p at) k.0 through (views_at j p at) k.1
        (last_stage x.manner.fine is.own.stage p.left code.post.highest highest is.some few) ends in
        let held = places.behind j p at t in
        let no_end : down_ends n calls ≡ 0 = once.down n ∙ ap (λ o. one_if (has_come_down o)) held.4 in
        ap told (a_run_is_answered_by_its_calls-fresh_down calls one n no_end ∙ ap (λ cs. down_answer cs n) one_is ∙ only_one n y.0) ∙ right
        ∙ ap s.post (sym (frame_stays j p st at t refl))

    pub last_right : (j : ℕ) → map question_of one ≡ asks_stage (slice_get st.passes j) → (p : Pass) → p.left ≤ 1 → slice_get st.passes j ≡ Some p → EndsRight s x.packets (calls ++ one) st p
    last_right j asked p few at = record {
      pre = λ t. ends_up_right j p few at t (asked ∙ ap asks_stage at);
      post = λ t. ends_down_right j p few at t (asked ∙ ap asks_stage at);
    }
