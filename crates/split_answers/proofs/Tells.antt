-- A switch whose calls are answered over the tables that it tells answers right.
use Rattle.std.proofs.Common.{◌≡◌, ℕ, Bool, true, false, List, [], ◌∷◌, ◌++◌, Some, None, length, map, take, eqb, refl, sym, ap, ◌∙◌, subst, arith}
use Rattle.std.specs.List.{AllByRecursion as Each}
use Rattle.std.proofs.lemmas.Bool.{eq-eqb}
use Rattle.std.proofs.lemmas.List.{take_all}
use Rattle.packet_fields.specs.declared.packet.Packet.{Packet}
use Rattle.packet_fields.specs.declared.verdict.Verdict.{Verdict}
use Rattle.state_store.specs.Kept.{IsKept}
use Rattle.state_store.specs.Store.{Store}
use Rattle.flat_ir.specs.Program.{Program}
use Rattle.split_model.specs.declared.split.Part.{Part}
use Rattle.transfer_header.specs.Frames.{IsFrame}
use Rattle.writeback_table.specs.declared.command.Command.{Command}
use Rattle.writeback_table.specs.Batches.{seen_after}
use Rattle.writeback_table.specs.Commands.{bit_through, pair_through}
use Rattle.writeback_table.specs.Pair.{Pair, visible, first_pair}
use Rattle.run_model.specs.declared.event.Event.{Event}
use Rattle.run_model.specs.declared.event.Event.TheVariants.{Admit, Stage, Down}
use Rattle.switch_ir.specs.declared.port.DownEnd.TheVariants as down
use Rattle.switch_ir.specs.Code.{Code}
use Rattle.switch_ir.specs.Emitted.{emitted}
use Rattle.switch_ir.specs.Port.{EndsDown, EndsUp}
use Rattle.switch_ir.specs.Tables.{Told}
use Rattle.replay_state.specs.Answers.{Setup}
use Rattle.output_commit.specs.Batches.{commands_in}
use Rattle.replay_state.specs.State.{State, applied_commands, seen, store_at}
use Rattle.replay_state.specs.Step.{applies}
use Rattle.replay_state.specs.Program.{Manner, SplitProgram, packet_at, setup_of}
use Rattle.replay_state.specs.Journal.{UpAnswer, GoingUp, Released}
use Rattle.replay_state.specs.Journal.{Call, CalledUp, CalledDown, one_if, has_passed, has_come_down, EndOnce}
use Rattle.replay_state.specs.Journal.{or_else, only_for, up_end, up_answer, down_answer, told, up_ends, down_ends, down_frame}
use Rattle.replay_state.specs.Journal.{AsksUp, AsksDown, question_of, asks, asked, asks_down, is_up_end}
use Rattle.replay_state.specs.Places.{HavePlaces}
use Rattle.replay_state.specs.Tables.{LookupsShow}
use Rattle.replay_state.specs.Tied.{IsRight, Tells}
use Rattle.split_answers.specs.Over.{AreAnswersOver, IsGiven}
use Rattle.split_answers.specs.Through.{IsThrough, end_of}
use Rattle.split_answers.specs.Whole.{IsSplit, whole_of}
use Rattle.lemmas.proofs.Lists.{get_past}
use Rattle.replay_state.proofs.Laws.{a_run_is_answered_by_its_calls-fresh_down, a_run_is_answered_by_its_calls-fresh_up}
use Rattle.split_answers.specs.UnderWay.{AreShown}
use Rattle.split_answers.proofs.Passed.{passes_down, passes_up}

-- ---- the one call that an event asks

pub only_one : {X : Type 0} (n : ℕ) (x : X) → or_else (only_for n n (Some x)) None ≡ Some x
only_one n x = let same = eq-eqb n n refl in rw same refl

pub end_up : (answer : UpAnswer) → is_up_end answer ≡ true → up_end answer ≡ Some answer
end_up GoingUp h = cc
end_up answer h = refl

module _ (code : Code) (tables : Told) where
  -- the answer to the one call for a packet
  pub record AnswersUp (one : List Call) (n : ℕ) (packet : Packet) : Type 0 where
    pub answer : UpAnswer
    pub is : up_answer one n ≡ Some answer
    pub ended : is_up_end answer ≡ true
    pub over : EndsUp code tables n packet (end_of answer)

  one_up : (one : List Call) (fine ends : Bool) (n : ℕ) (packet : Packet) → ends ≡ true → map question_of one ≡ AsksUp fine n packet ends ∷ []
      → AreAnswersOver code tables one
      → AnswersUp one n packet
  one_up (CalledUp own m p answer ∷ []) fine ends n packet t e h =
      let same : m ≡ n = cc in
      let one_packet : p ≡ packet = cc in
      let ended : is_up_end answer ≡ true = cc in
      record {
        answer = answer;
        is = ap (λ k. or_else (only_for m k (up_end answer)) None) (sym same) ∙ ap (λ o. or_else (only_for m m o) None) (end_up answer ended) ∙ only_one m answer;
        ended = ended;
        over = subst (λ k. EndsUp code tables k packet (end_of answer)) same (subst (λ x. EndsUp code tables m x (end_of answer)) one_packet h.0);
      }
  one_up one fine ends n packet t e h = cc

  pub record AnswersDown (one : List Call) (n : ℕ) (frame : List ℕ) : Type 0 where
    pub verdict : Verdict
    pub is : down_answer one n ≡ Some verdict
    pub framed : IsFrame 2 code.down frame
    pub over : EndsDown code tables frame (down.Verdict verdict)

  one_down : (one : List Call) (fine ends : Bool) (n : ℕ) (frame : List ℕ) → ends ≡ true → map question_of one ≡ AsksDown fine n frame ends ∷ []
      → Each (IsGiven code) one
      → AreAnswersOver code tables one → AnswersDown one n frame
  one_down (CalledDown own m f (Released y) ∷ []) fine ends n frame t e g h =
      let same : m ≡ n = cc in
      let one_frame : f ≡ frame = cc in
      record {
        verdict = y;
        is = ap (λ k. or_else (only_for m k (Some y)) None) (sym same) ∙ only_one m y;
        framed = subst (IsFrame 2 code.down) one_frame g.0.0;
        over = subst (λ x. EndsDown code tables x (down.Verdict y)) one_frame h.0;
      }
  one_down one fine ends n frame t e g h = cc

-- ---- an event

-- what is seen after some commands, and where there are no others
pub seen_first : (o : ℕ) (pair : Pair) (cs : List Command) (n : ℕ) → seen_after o pair (take n cs) (length (take n cs)) ≡ seen_after o pair cs n
seen_first o pair cs n =
    let first = take n cs in
    ap (λ l. visible (bit_through false l) (pair_through o pair l)) (take_all (length first) first (omega arith))

module _ (f : Program) (split : List Part) (writeback : ℕ) (packets : List Packet) (manner : Manner) (calls one : List Call) (st : State) (tables : Told)
    (is : IsSplit f split writeback) (kept : IsKept f.objects (store_at st.stores (seen st)))
    (through : IsThrough (emitted f split writeback) (applied_commands st) tables)
    (once : EndOnce calls st) (places : HavePlaces st) where
  abbrev s : SplitProgram
  s = whole_of f split writeback

  abbrev setup : Setup
  setup = setup_of s packets manner

  abbrev code : Code
  code = emitted f split writeback

  abbrev store : Store
  store = store_at st.stores (seen st)

  tells_admit : LookupsShow setup st store → map question_of one ≡ asks setup s packets (calls ++ one) st Admit → AreAnswersOver code tables one
      → Tells setup s packets (calls ++ one) st Admit
  tells_admit shows e over none =
      let n = length st.progress in
      let u = one_up code tables one _ _ n (packet_at packets n) (ap (λ k. eqb k 0) none) e over in
      let seen_is : AreShown f split writeback (applied_commands st) store =
      λ o rep. seen_first o (first_pair f.objects writeback o) (commands_in st.batches) st.done ∙ shows o rep in
      let right = passes_up f split writeback store (applied_commands st) tables n (packet_at packets n) is kept through seen_is u.answer u.over u.ended in
      let no_end : up_ends n calls ≡ 0 = once.up n ∙ ap (λ o. one_if (has_passed o)) (get_past st.progress) in
      record {
        pre = λ t. subst (IsRight s store n (packet_at packets n)) (sym (a_run_is_answered_by_its_calls-fresh_up calls one n no_end ∙ u.is)) right;
        post = λ t. cc;
      }

  tells_down : (j : ℕ) → map question_of one ≡ asks setup s packets (calls ++ one) st (Down j) → Each (IsGiven code) one → AreAnswersOver code tables one
      → Tells setup s packets (calls ++ one) st (Down j)
  tells_down j e given over n none g =
      let asked_one = e ∙ ap (asks_down setup s (calls ++ one) st) g in
      let frame = down_frame s (calls ++ one) st n in
      let d = one_down code tables one _ _ n frame (ap (λ k. eqb k 0) none) asked_one given over in
      let held = places.down j n g in
      let no_end : down_ends n calls ≡ 0 = once.down n ∙ ap (λ o. one_if (has_come_down o)) held.4 in
      record {
        pre = λ t. cc;
        post = λ t. ap told (a_run_is_answered_by_its_calls-fresh_down calls one n no_end ∙ d.is)
            ∙ passes_down f split writeback (applied_commands st) tables frame is through d.framed d.verdict d.over;
      }

  pub tells : LookupsShow setup st store → (event : Event) → map question_of one ≡ asks setup s packets (calls ++ one) st event → Each (IsGiven code) one
      → AreAnswersOver code tables one
      → ((j : ℕ) → event ≡ Stage j → Tells setup s packets (calls ++ one) st (Stage j)) → Tells setup s packets (calls ++ one) st event
  tells shows Admit e given over staged = tells_admit shows e over
  tells shows (Stage j) e given over staged = staged j refl
  tells shows (Down j) e given over staged = tells_down j e given over
  tells shows event e given over staged = tt

-- an event that applies asks what it asks
pub asked_where : (setup : Setup) (s : SplitProgram) (packets : List Packet) (calls one : List Call) (st : State) (event : Event) → applies setup st event ≡ true
    → asked setup s packets (calls ++ one) st event ≡ asks setup s packets (calls ++ one) st event
asked_where setup s packets calls one st event t = rw t refl
