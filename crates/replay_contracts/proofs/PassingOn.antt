-- What each event does to the passes under way on a switch, and what it leaves of the state that they rest on.
use Rattle.std.proofs.Common.{◌≡◌, ◌<◌, ℕ, zero, suc, Bool, true, false, eqb, leb, List, [], ◌∷◌, ◌++◌, Option, Some, None, inl, inr, length, map, set, refl, sym, ap, ◌∙◌, subst, arith}
use Rattle.std.specs.Prelude.{Ok, ⊤, ◌==◌, nat_le, slice_get, remove, if◌then◌else◌, IfSome}
use Rattle.std.proofs.Math.ListN.{get_or-append}
use Rattle.std.proofs.lemmas.Bool.{cases_Bool, eqb-false, leb-false, ltb-true, ltb-false, true≢false, false≢true}
use Rattle.std.proofs.lemmas.Option.{same_Some, slice_get_within}
use Rattle.packet_fields.specs.declared.packet.Packet.{Packet}
use Rattle.packet_fields.specs.declared.verdict.Verdict.{Verdict}
use Rattle.state_store.specs.Store.{Store}
use Rattle.transfer_header.specs.Frames.{IsFrame}
use Rattle.run_model.specs.declared.event.Event.{Event}
use Rattle.run_model.specs.declared.event.Event.TheVariants.{Admit, Stage, Serve, Send, Apply, Ack, Hold, Down}
use Rattle.switch_ir.specs.Code.{Code}
use Rattle.switch_ir.specs.Port.{PortState, BeginsUp, StagesUp, BeginsDown, StagesDown, OfItsParts, IsHandedDown, IsNothing}
use Rattle.switch_ir.specs.Staged.{post_staging, pre_staging, staging}
use Rattle.switch_ir.specs.Tables.{Told}
use Rattle.switch_ir.specs.UnderWay.{Passes, PassState, UnderWay, HasEntered, HasGoneOn, OthersStay}
use Rattle.writeback_table.specs.declared.command.Command.{Command}
use Rattle.writeback_table.specs.declared.command.Update.{Update}
use Rattle.output_commit.specs.Batches.{commands_in}
use Rattle.replay_state.specs.Answers.{Answers, Setup}
use Rattle.replay_state.specs.Journal.{Call, CalledUp, CalledDown}
use Rattle.replay_state.specs.Journal.{UpAnswer, GoingUp, DownAnswer, Released, GoingDown, is_up_end, is_down_end}
use Rattle.replay_state.specs.Journal.{asks, asked, asks_stage, asks_command, asks_down, down_frame, question_of}
use Rattle.replay_state.specs.Places.{HavePlaces}
use Rattle.replay_state.specs.Program.{SplitProgram, packet_at}
use Rattle.replay_state.specs.declared.pass.Pass.{Pass}
use Rattle.replay_state.specs.State.{Progress, State, bit_behind, seen, store_at}
use Rattle.replay_state.specs.Step.{applies, came, came_in, came_out, ended, entered, happens, pass_of, came_down, ran, served, staged, step, tick, let_go, with_changes}
use Rattle.split_answers.specs.Through.{down_end_of, end_of}
use Rattle.split_answers.specs.UnderWay.{highest_of, passes_of}
use Rattle.replay_contracts.specs.Called.{KeepsCalls, WasCalled, WasMade}
use Rattle.replay_contracts.proofs.Asked.{asked_up, asked_stage_up, asked_down, asked_stage_down, asked_command, none_asked}
use Rattle.replay_state.proofs.AtOnce.{ended_passes, go_passes, served_passes}
use Rattle.transfer_header.proofs.Laws.{frames_are_told_by_place-parts}
use Rattle.replay_contracts.proofs.OnSwitch.{OnList, Others, all_same, get_push_old}
use Rattle.replay_contracts.proofs.PassMoves.{Around, Enters, PassMove, Stay, Come, Move, End, less}
use Rattle.lemmas.proofs.Lists.{get_set_other, get_within}

-- ## What the calls leave

others_up : (n : ℕ) (u w : UnderWay) → w.post ≡ u.post → OthersStay n u.pre w.pre → Others true n u w
others_up n u w post stay true m d = stay m (λ e. d refl (sym e))
others_up n u w post stay false m d = ap (λ (f : Passes). f m) post

others_down : (n : ℕ) (u w : UnderWay) → w.pre ≡ u.pre → OthersStay n u.post w.post → Others false n u w
others_down n u w pre stay true m d = ap (λ (f : Passes). f m) pre
others_down n u w pre stay false m d = stay m (λ e. d refl (sym e))

-- a call that begins a pass, or takes it on, leaves it so: it has ended, or is under way
record Left (pre : Bool) (n : ℕ) (u w : UnderWay) (ends : Bool) (IsNew : PassState → Type 0) : Type 0 where
  others : Others pre n u w
  gone : ends ≡ true → passes_of pre w n ≡ None
  new : ends ≡ false → (own : PassState) × (passes_of pre w n ≡ Some own) × IsNew own

begun_up : (code : Code) (n : ℕ) (packet : Packet) (answer : UpAnswer) (old new : PortState) → old.code ≡ Some code → BeginsUp (Ok (end_of answer)) n packet.port packet.bytes old new
    → Left true n old.passes new.passes (is_up_end answer) (HasEntered (pre_staging code) IsNothing packet old.told)
begun_up code n packet GoingUp old new loaded h =
    record { others = others_up n old.passes new.passes h.post h.others; gone = λ g. absurd (false≢true g); new = λ g. h.pass code loaded }
begun_up code n packet answer old new loaded h = record { others = others_up n old.passes new.passes h.post h.others; gone = λ g. h.pass code loaded; new = λ g. absurd (true≢false g) }

gone_up : (code : Code) (n : ℕ) (answer : UpAnswer) (own : PassState) (old new : PortState) → old.code ≡ Some code → old.passes.pre n ≡ Some own → StagesUp (Ok (end_of answer)) n old new
    → Left true n old.passes new.passes (is_up_end answer) (HasGoneOn (pre_staging code) old.told own)
gone_up code n GoingUp own old new loaded there h =
    record { others = others_up n old.passes new.passes h.post h.others; gone = λ g. absurd (false≢true g); new = λ g. h.pass code own loaded there }
gone_up code n answer own old new loaded there h = record { others = others_up n old.passes new.passes h.post h.others; gone = λ g. h.pass code own loaded there; new = λ g. absurd (true≢false g) }

gone_down : (code : Code) (n : ℕ) (answer : DownAnswer) (own : PassState) (old new : PortState) → old.code ≡ Some code → old.passes.post n ≡ Some own → StagesDown (Ok (down_end_of answer)) n old new
    → Left false n old.passes new.passes (is_down_end answer) (HasGoneOn (post_staging code) old.told own)
gone_down code n (Released y) own old new loaded there h = record { others = others_down n old.passes new.passes h.pre h.others; gone = λ g. h.pass code own loaded there; new = λ g. absurd (true≢false g) }
gone_down code n GoingDown own old new loaded there h =
    record { others = others_down n old.passes new.passes h.pre h.others; gone = λ g. absurd (false≢true g); new = λ g. h.pass code own loaded there }

-- a pass that entered by the parts of its frame; these have one number
abbrev HasBegunDown : Code → Option Told → List ℕ → PassState → Type 0
HasBegunDown code tables frame own = OfItsParts code frame (λ number packet values. HasEntered (post_staging code) (IsHandedDown code values packet) packet tables own)

begun_down : (code : Code) (frame : List ℕ) (framed : IsFrame 2 code.down frame) (answer : DownAnswer) (old new : PortState) → old.code ≡ Some code
    → BeginsDown (Ok (down_end_of answer)) frame old new
    → Left false framed.number old.passes new.passes (is_down_end answer) (HasBegunDown code old.told frame)
begun_down code frame framed (Released y) old new loaded h = record {
  others = others_down framed.number old.passes new.passes h.pre (h.others code loaded framed.number framed.port framed.values framed.packet framed.is);
  gone = λ g. h.pass code loaded framed.number framed.port framed.values framed.packet framed.is;
  new = λ g. absurd (true≢false g);
}
begun_down code frame framed GoingDown old new loaded h =
    let begun = h.pass code loaded framed.number framed.port framed.values framed.packet framed.is in
    record {
      others = others_down framed.number old.passes new.passes h.pre (h.others code loaded framed.number framed.port framed.values framed.packet framed.is);
      gone = λ g. absurd (false≢true g);
      new = λ g. (
        begun.0,
        begun.1,
        λ number port values packet is.
            let other = h.pass code loaded number port values packet is in
            let one_number : framed.number ≡ number = sym (frames_are_told_by_place-parts 2 code.down framed.number framed.port framed.values framed.packet frame framed.is).numbered ∙ (frames_are_told_by_place-parts 2 code.down number port values packet frame is).numbered in
            let same : other.0 ≡ begun.0 = same_Some _ _ (sym other.1 ∙ ap new.passes.post (sym one_number) ∙ begun.1) in
            subst (HasEntered (post_staging code) (IsHandedDown code values (record { port = port; bytes = packet })) (record { port = port; bytes = packet }) old.told) same other.2,
      );
    }

-- ## What the state's passes, stores and progress are

passes_entered : (setup : Setup) (a : Answers) (w : State) (p : Pass) → (entered a w p).passes ≡ (if p.left == 0 then w.passes else w.passes ++ p ∷ [])
passes_entered setup a w p = elim (cases_Bool (eqb p.left 0)) [ inl t ↦ rw t (ended_passes setup a w p) | inr t ↦ rw t refl ]

passes_staged : (setup : Setup) (a : Answers) (w : State) (j : ℕ) (p : Pass)
    → (staged a w j (Some p)).passes ≡ (if nat_le p.left 1 then remove w.passes j else set w.passes j (less p))
passes_staged setup a w j p = elim (cases_Bool (leb p.left 1)) [
  | inl t ↦ rw t
      (ended_passes setup a (record w { passes = remove w.passes j }) p)
  | inr t ↦ rw t refl
]

-- two states have the same stores, and packets for which a test holds have come as far in both
record Same (w v : State) (P : ℕ → Type 0) : Type 0 where
  stores : v.stores ≡ w.stores
  progress : (m : ℕ) → P m → slice_get v.progress m ≡ slice_get w.progress m

set_there : (w : State) (n m : ℕ) (x : Progress) → (m ≡ n → ⊥) → slice_get (set w.progress n x) m ≡ slice_get w.progress m
set_there w n m x d = get_set_other w.progress n m x d

same_came_in : (w : State) (n : ℕ) (o : Option Verdict) → Same w (came_in w n o) (λ m. m ≡ n → ⊥)
same_came_in w n None = record { stores = refl; progress = λ m d. set_there w n m _ d }
same_came_in w n (Some y) = record { stores = refl; progress = λ m d. set_there w n m _ d }

same_came_out : (w : State) (n : ℕ) (verdict : Store → Verdict) → Same w (came_out w n verdict) (λ m. m ≡ n → ⊥)
same_came_out w n verdict = record { stores = refl; progress = λ m d. set_there w n m _ d }

same_ended : (a : Answers) (w : State) (p : Pass) → Same w (ended a w p) (λ m. m ≡ p.number → ⊥)
same_ended a w p = elim (cases_Bool p.pre) [ inl t ↦ rw t (same_came_in w p.number _) | inr t ↦ rw t (same_came_out w p.number _) ]

same_entered : (a : Answers) (w : State) (p : Pass) → Same w (entered a w p) (λ m. eqb p.left 0 ≡ true → m ≡ p.number → ⊥)
same_entered a w p = elim (cases_Bool (eqb p.left 0)) [
  | inl t ↦ let s = same_ended a w p in rw t (record { stores = s.stores; progress = λ m d. s.progress m (d refl) })
  | inr t ↦ rw t (record { stores = refl; progress = λ m d. refl })
]

same_staged : (a : Answers) (w : State) (j : ℕ) (p : Pass) → Same w (staged a w j (Some p)) (λ m. leb p.left 1 ≡ true → m ≡ p.number → ⊥)
same_staged a w j p = elim (cases_Bool (leb p.left 1)) [
  | inl t ↦ let s = same_ended a (record w { passes = remove w.passes j }) p in rw t (record { stores = s.stores; progress = λ m d. s.progress m (d refl) })
  | inr t ↦ rw t (record { stores = refl; progress = λ m d. refl })
]

-- ## One effect

abbrev pub Kept : State → State → Pass → Type 0
Kept st next p = (next.stores ≡ st.stores) × (p.pre ≡ false → slice_get next.progress p.number ≡ slice_get st.progress p.number)

module _ (g : Around) where
  -- a pass enters
  enters : (free : ℕ → Type 0) (Q : Pass → Type 0) (xs : List Pass) (p : Pass) (u w : UnderWay) (IsNew : PassState → Type 0) → ((i : ℕ) (r : Pass) → slice_get xs i ≡ Some r → free i)
      → Left p.pre p.number u w (eqb p.left 0) IsNew → passes_of p.pre u p.number ≡ None → p.left ≡ highest_of p.pre g.setup → p.bit ≡ g.bit → p.version ≡ g.version → (eqb p.left 0 ≡ false → Q p)
      → ((own : PassState) → 0 < p.left → IsNew own → Enters g p own) → PassMove g free Q xs (if p.left == 0 then xs else xs ++ p ∷ []) u w
  enters free Q xs p u w IsNew all left none full bit version q news = elim (cases_Bool (eqb p.left 0)) [
    | inl t ↦ rw t (Stay all refl (all_same g.setup g.packets p.pre p.number u w left.others (left.gone t ∙ sym none)))
    | inr t ↦ let found = left.new t in
        rw t (Come all p found.0 refl bit version (q t) left.others none found.1 (news found.0 (positive p.left (eqb-false p.left 0 t)) found.2))
  ]
    where
      positive : (n : ℕ) → (n ≡ 0 → ⊥) → 0 < n
      positive zero d = absurd (d refl)
      positive (suc n) d = omega arith

  -- the pass at place j takes a stage
  goes_on : (Q : Pass → Type 0) (xs : List Pass) (j : ℕ) (p : Pass) (u w : UnderWay) (own : PassState) → slice_get xs j ≡ Some p → passes_of p.pre u p.number ≡ Some own → (leb p.left 1 ≡ false → Q p)
      → Left p.pre p.number u w (leb p.left 1) (HasGoneOn (staging p.pre g.code) g.tables own) → PassMove g (λ i. i ≡ j → ⊥) Q xs (if nat_le p.left 1 then remove xs j else set xs j (less p)) u w
  goes_on Q xs j p u w own here there q left = elim (cases_Bool (leb p.left 1)) [
    | inl t ↦ rw t (End j (λ i d. d) p here refl left.others (left.gone t))
    | inr t ↦ let found = left.new t in
        rw t (Move j (λ i d. d) p own found.0 here (leb-false p.left 1 t) refl (q t) left.others there found.1 found.2)
  ]

-- ## An event

-- the places of passes that an event leaves alone
abbrev pub Free : Event → ℕ → Type 0
Free (Stage j) i = i ≡ j → ⊥
Free event i = ⊤

-- what stands around an event of a replay, and what it does to the passes under way
abbrev pub around : Setup → SplitProgram → List Packet → List Call → Code → State → PortState → Around
around setup s packets calls code st old =
    record { setup = setup; packets = packets; code = code; tables = old.told; frame = down_frame s calls st; bit = bit_behind st.batches st.done; version = seen st }

abbrev pub EventMoves : Around → State → PortState → PortState → Event → State → Type 0
EventMoves g st old new event next = PassMove g (Free event) (Kept st next) st.passes next.passes old.passes new.passes

module _ (setup : Setup) (s : SplitProgram) (packets : List Packet) (calls one : List Call) (a : Answers) (code : Code) (st : State) (old new : PortState)
    (plain : setup.fine ≡ false → (setup.pre_stages ≡ 0) × (setup.post_stages ≡ 0))
    (loaded : old.code ≡ Some code) (places : HavePlaces st) (on : OnList setup packets st.passes old.passes) (called : WasCalled code one old new) where
  abbrev w : State
  w = tick st

  abbrev g : Around
  g = around setup s packets calls code st old

  abbrev MovesTo : Event → State → Type 0
  MovesTo event next = EventMoves g st old new event next

  kept_so : (free : ℕ → Type 0) (Q : Pass → Type 0) (mid : PortState) (ys : List Pass) → KeepsCalls mid new → PassMove g free Q st.passes ys old.passes mid.passes → PassMove g free Q st.passes ys old.passes new.passes
  kept_so free Q mid ys kept h = subst (PassMove g free Q st.passes ys old.passes) (sym kept.passes) h

  -- a call that leaves all passes
  left_all : (free : ℕ → Type 0) (Q : Pass → Type 0) (mid : PortState) → ((i : ℕ) (r : Pass) → slice_get st.passes i ≡ Some r → free i) → mid.passes ≡ old.passes → PassMove g free Q st.passes st.passes old.passes mid.passes
  left_all free Q mid all same = Stay all refl (λ k m. ap (λ (u : UnderWay). passes_of k u m) same)

  -- a pass that ends at its entry
  at_once : (free : ℕ → Type 0) (Q : Pass → Type 0) (mid : PortState) (left : ℕ) (ys : List Pass) → left ≡ 0 → PassMove g free Q st.passes st.passes old.passes mid.passes
      → PassMove g free Q st.passes (if left == 0 then st.passes else ys) old.passes mid.passes
  at_once free Q mid left ys none h = subst (λ k. PassMove g free Q st.passes (if k == 0 then st.passes else ys) old.passes mid.passes) (sym none) h

  -- no call
  no_call : (free : ℕ → Type 0) (Q : Pass → Type 0) → ((i : ℕ) (r : Pass) → slice_get st.passes i ≡ Some r → free i) → one ≡ [] → PassMove g free Q st.passes st.passes old.passes new.passes
  no_call free Q all e = left_all free Q new all (subst (λ cs. WasCalled code cs old new) e called).passes

  turn_admit : map question_of one ≡ asks setup s packets calls st Admit → MovesTo Admit (happens setup a w Admit)
  turn_admit e =
      let n = length st.progress in
      let packet = packet_at packets n in
      let p = pass_of w true n setup.pre_stages in
      let next = happens setup a w Admit in
      let same = same_entered a (came w) p in
      let u = asked_up one setup.fine n packet (eqb setup.pre_stages 0) e in
      let made = subst (λ cs. WasCalled code cs old new) u.is called in
      let mid = made.0 in
      let xs = if setup.pre_stages == 0 then st.passes else st.passes ++ p ∷ [] in
      let Q : Pass → Type 0 = Kept st next in
      let q : Q p = (same.stores, λ behind. absurd (true≢false behind)) in
      subst (λ l. PassMove g (Free Admit) Q st.passes l old.passes new.passes) (sym (passes_entered setup a (came w) p))
      (kept_so (Free Admit) Q mid xs made.3 (elim (cases_Bool setup.fine) [
        | inl t ↦ let begun = subst (λ b. WasMade (CalledUp b n packet u.answer) old mid) t made.2 in
            let IsNew : PassState → Type 0 = HasEntered (pre_staging code) IsNothing packet old.told in
            let left = subst (λ b. Left true n old.passes mid.passes b IsNew) u.ended (begun_up code n packet u.answer old mid loaded begun.1) in
            enters g (Free Admit) Q st.passes p old.passes mid.passes IsNew (λ i r at. tt) left begun.0 refl refl refl (λ more. q)
            (λ own some is. record { full = refl; some = some; up = λ z. is; down = λ z. absurd (true≢false z) })
        | inr t ↦ let passed = subst (λ b. WasMade (CalledUp b n packet u.answer) old mid) t made.2 in
            at_once (Free Admit) Q mid setup.pre_stages (st.passes ++ p ∷ []) (plain t).0 (left_all (Free Admit) Q mid (λ i r at. tt) passed.kept.passes)
      ]))

  turn_stage : (j : ℕ) (p : Pass) → slice_get st.passes j ≡ Some p → map question_of one ≡ asks_stage (slice_get st.passes j) → MovesTo (Stage j) (happens setup a w (Stage j))
  turn_stage j p here e =
      let xs = if nat_le p.left 1 then remove st.passes j else set st.passes j (less p) in
      let asked_so = e ∙ ap asks_stage here in
      let is = on.each j p here in
      let next = happens setup a w (Stage j) in
      let is_next : next ≡ staged a w j (Some p) = ap (λ o. staged a w j o) here in
      let same = same_staged a w j p in
      let Q : Pass → Type 0 = Kept st next in
      let q : leb p.left 1 ≡ false → Q p = λ more. (
        ap (λ (v : State). v.stores) is_next ∙ same.stores,
        λ behind. ap (λ (v : State). slice_get v.progress p.number) is_next ∙ same.progress p.number (λ t d. true≢false (sym t ∙ more)),
      ) in
      subst (λ l. PassMove g (Free (Stage j)) Q st.passes l old.passes new.passes) (sym (ap (λ (v : State). v.passes) is_next ∙ passes_staged setup a w j p))
      (elim (cases_Bool p.pre) [
        | inl t ↦ let call = asked_stage_up one p.number (leb p.left 1) (rw t at asked_so) in
            let made = subst (λ cs. WasCalled code cs old new) call.is called in
            let there : old.passes.pre p.number ≡ Some is.own = sym (ap (λ b. passes_of b old.passes p.number) t) ∙ is.there in
            let up = subst (λ b. Left true p.number old.passes made.0.passes b (HasGoneOn (pre_staging code) old.told is.own)) call.ended (gone_up code p.number call.answer is.own old made.0 loaded there made.2.1) in
            let left = subst (λ b. Left b p.number old.passes made.0.passes (leb p.left 1) (HasGoneOn (staging b code) old.told is.own)) (sym t) up in
            kept_so (Free (Stage j)) Q made.0 xs made.3 (goes_on g Q st.passes j p old.passes made.0.passes is.own here is.there q left)
        | inr t ↦ let call = asked_stage_down one p.number (leb p.left 1) (rw t at asked_so) in
            let made = subst (λ cs. WasCalled code cs old new) call.is called in
            let there : old.passes.post p.number ≡ Some is.own = sym (ap (λ b. passes_of b old.passes p.number) t) ∙ is.there in
            let down = subst (λ b. Left false p.number old.passes made.0.passes b (HasGoneOn (post_staging code) old.told is.own)) call.ended (gone_down code p.number call.answer is.own old made.0 loaded there made.2.1) in
            let left = subst (λ b. Left b p.number old.passes made.0.passes (leb p.left 1) (HasGoneOn (staging b code) old.told is.own)) (sym t) down in
            kept_so (Free (Stage j)) Q made.0 xs made.3 (goes_on g Q st.passes j p old.passes made.0.passes is.own here is.there q left)
      ])

  turn_down : (j n : ℕ) → slice_get st.down j ≡ Some n → map question_of one ≡ asks_down setup s calls st (slice_get st.down j) → MovesTo (Down j) (happens setup a w (Down j))
  turn_down j n here e =
      let frame = down_frame s calls st n in
      let p = pass_of w false n setup.post_stages in
      let call = asked_down one setup.fine n frame (eqb setup.post_stages 0) (e ∙ ap (asks_down setup s calls st) here) in
      let made = subst (λ cs. WasCalled code cs old new) call.is called in
      let mid = made.0 in
      let framed = made.1.0 in
      let xs = if setup.post_stages == 0 then st.passes else st.passes ++ p ∷ [] in
      let number : framed.number ≡ n = sym (frames_are_told_by_place-parts 2 code.down framed.number framed.port framed.values framed.packet frame framed.is).numbered ∙ made.1.1 in
      let next = happens setup a w (Down j) in
      let is_next : next ≡ entered a (record w { down = remove w.down j }) p = ap (λ o. came_down setup a w j o) here in
      let same = same_entered a (record w { down = remove w.down j }) p in
      let Q : Pass → Type 0 = Kept st next in
      let q : eqb p.left 0 ≡ false → Q p = λ more. (
        ap (λ (v : State). v.stores) is_next ∙ same.stores,
        λ behind. ap (λ (v : State). slice_get v.progress n) is_next ∙ same.progress n (λ t d. true≢false (sym t ∙ more)),
      ) in
      subst (λ l. PassMove g (Free (Down j)) Q st.passes l old.passes new.passes)
      (sym (ap (λ (v : State). v.passes) is_next ∙ passes_entered setup a (record w { down = remove w.down j }) p))
      (kept_so (Free (Down j)) Q mid xs made.3 (elim (cases_Bool setup.fine) [
        | inl t ↦ let begun = subst (λ b. WasMade (CalledDown b n frame call.answer) old mid) t made.2 in
            let none_of_frame = subst (λ o. IfSome o (λ c. OfItsParts c frame (λ m packet values. old.passes.post m ≡ None))) loaded begun.0 in
            let none : old.passes.post n ≡ None = subst (λ m. old.passes.post m ≡ None) number (none_of_frame framed.number framed.port framed.values framed.packet framed.is) in
            let IsNew : PassState → Type 0 = HasBegunDown code old.told frame in
            let by_frame = subst (λ b. Left false framed.number old.passes mid.passes b IsNew) call.ended
            (begun_down code frame framed call.answer old mid loaded begun.1) in
            let left = subst (λ m. Left false m old.passes mid.passes (eqb setup.post_stages 0) IsNew) number by_frame in
            enters g (Free (Down j)) Q st.passes p old.passes mid.passes IsNew (λ i r at. tt) left none refl refl refl q
            (λ own some is. record { full = refl; some = some; up = λ z. absurd (false≢true z); down = λ z. (framed, is) })
        | inr t ↦ let passed = subst (λ b. WasMade (CalledDown b n frame call.answer) old mid) t made.2 in
            at_once (Free (Down j)) Q mid setup.post_stages (st.passes ++ p ∷ []) (plain t).1 (left_all (Free (Down j)) Q mid (λ i r at. tt) passed.kept.passes)
      ]))

  turn_apply : map question_of one ≡ asks_command (slice_get (commands_in st.batches) st.done) → MovesTo Apply (happens setup a w Apply)
  turn_apply e = by_command (slice_get (commands_in st.batches) st.done) e
    where
      by_command : (o : Option Command) → map question_of one ≡ asks_command o → MovesTo Apply (happens setup a w Apply)
      by_command None e = no_call (Free Apply) (Kept st (happens setup a w Apply)) (λ i r at. tt) (none_asked one e)
      by_command (Some c) e =
          let made = subst (λ cs. WasCalled code cs old new) (asked_command one c e) called in
          kept_so (Free Apply) (Kept st (happens setup a w Apply)) made.0 st.passes made.3 (left_all (Free Apply) (Kept st (happens setup a w Apply)) made.0 (λ i r at. tt) made.2.passes)

  alone : (event : Event) (next : State) → ((i : ℕ) (r : Pass) → slice_get st.passes i ≡ Some r → Free event i) → next.passes ≡ st.passes → one ≡ [] → MovesTo event next
  alone event next all same e = subst (λ l. PassMove g (Free event) (Kept st next) st.passes l old.passes new.passes) (sym same) (no_call (Free event) (Kept st next) all e)

  turn_happens : (event : Event) → applies setup st event ≡ true → map question_of one ≡ asks setup s packets calls st event → MovesTo event (happens setup a w event)
  turn_happens Admit t e = turn_admit e
  turn_happens (Stage j) t e = let p = get_within st.passes j (ltb-true j (length st.passes) t) in turn_stage j p.0 p.1 e
  turn_happens (Serve j) t e = alone (Serve j) (happens setup a w (Serve j)) (λ i r at. tt) (served_passes setup a w j (slice_get st.up j)) (none_asked one e)
  turn_happens Send t e = alone Send (happens setup a w Send) (λ i r at. tt) refl (none_asked one e)
  turn_happens Apply t e = turn_apply e
  turn_happens Ack t e = alone Ack (happens setup a w Ack) (λ i r at. tt) refl (none_asked one e)
  turn_happens (Hold j) t e = alone (Hold j) (happens setup a w (Hold j)) (λ i r at. tt) (go_passes setup a w j (slice_get st.held j)) (none_asked one e)
  turn_happens (Down j) t e = let n = get_within st.down j (ltb-true j (length st.down) t) in turn_down j n.0 n.1 e

  -- a stage that doesn't apply is of no pass
  all_free : (event : Event) → applies setup st event ≡ false → (i : ℕ) (r : Pass) → slice_get st.passes i ≡ Some r → Free event i
  all_free (Stage j) t i r at = λ e. let past = ltb-false j (length st.passes) t in let within = slice_get_within st.passes i r at in omega arith
  all_free event t i r at = tt

  pub turn_step : (event : Event) → map question_of one ≡ asked setup s packets calls st event → MovesTo event (step setup a st event)
  turn_step event e = elim (cases_Bool (applies setup st event)) [
    | inl t ↦ let is : happens setup a w event ≡ step setup a st event = rw t refl in subst (MovesTo event) is (turn_happens event t (rw t at e))
    | inr t ↦ alone event (step setup a st event) (all_free event t) (rw t refl) (none_asked one (rw t at e))
  ]

-- ## What passes rest on

-- the stores so far stay, and the progress of packets that are in a pass behind the server
pub record Rests (st next : State) (event : Event) : Type 0 where
  pub stores : (v : ℕ) → v < length st.stores → store_at next.stores v ≡ store_at st.stores v
  pub progress : (i : ℕ) (r : Pass) → slice_get st.passes i ≡ Some r → Free event i → r.pre ≡ false → slice_get next.progress r.number ≡ slice_get st.progress r.number

module _ (setup : Setup) (a : Answers) (st : State) (places : HavePlaces st) where
  -- what stands in no list that an event touches
  abbrev v : State
  v = tick st

  pushed : (p : Progress) (m : ℕ) (x : Progress) → slice_get st.progress m ≡ Some x → slice_get (st.progress ++ p ∷ []) m ≡ slice_get st.progress m
  pushed p m x at = get_push_old st.progress p x m at ∙ sym at

  rests_admit : Rests st (happens setup a v Admit) Admit
  rests_admit =
      let p = pass_of v true (length st.progress) setup.pre_stages in
      let same = same_entered a (came v) p in
      record {
        stores = λ k low. ap (λ l. store_at l k) same.stores;
        progress = λ i r at free behind.
            let held = places.behind i r at behind in
            let within = slice_get_within st.progress r.number _ held.4 in
            same.progress r.number (λ t e. absurd (omega (arith, within, e))) ∙ pushed _ r.number _ held.4;
      }

  rests_stage : (j : ℕ) (p : Pass) → slice_get st.passes j ≡ Some p → Rests st (happens setup a v (Stage j)) (Stage j)
  rests_stage j p here =
      let is_next : happens setup a v (Stage j) ≡ staged a v j (Some p) = ap (λ o. staged a v j o) here in
      let same = same_staged a v j p in
      record {
        stores = λ k low. ap (λ (z : State). store_at z.stores k) is_next ∙ ap (λ l. store_at l k) same.stores;
        progress = λ i r at free behind.
            ap (λ (z : State). slice_get z.progress r.number) is_next
            ∙ same.progress r.number (λ t e. elim (cases_Bool p.pre) [
              | inl pre ↦ let came_so = places.entered j p here pre in let held = places.behind i r at behind in
                  let both = sym (ap (slice_get st.progress) e ∙ came_so.1) ∙ held.4 in cc
              | inr post ↦ free (places.passes_once i j r p at here (behind ∙ sym post) e)
            ]);
      }

  rests_serve : (j n : ℕ) → slice_get st.up j ≡ Some n → Rests st (happens setup a v (Serve j)) (Serve j)
  rests_serve j n here =
      let is_next : happens setup a v (Serve j) ≡ served a v j (Some n) = ap (λ o. served a v j o) here in
      record {
        stores = λ k low. ap (λ (z : State). store_at z.stores k) is_next ∙ stores_after (a.changes st.store n) k low;
        progress = λ i r at free behind.
            let held = places.behind i r at behind in
            let came_so = places.up j n here in
            let apart : r.number ≡ n → ⊥ = λ e. let both = sym (ap (slice_get st.progress) e ∙ came_so.1) ∙ held.4 in cc in
            ap (λ (z : State). slice_get z.progress r.number) is_next ∙ progress_after (a.changes st.store n) r.number apart;
      }
    where
      stores_after : (us : List Update) (k : ℕ) → k < length st.stores → store_at (ran a v (with_changes (a.after st.store n) us v) j n).stores k ≡ store_at st.stores k
      stores_after [] k low = refl
      stores_after (u ∷ us) k low = get_or-append st.stores (a.after st.store n ∷ []) [] k low

      progress_after : (us : List Update) (m : ℕ) → (m ≡ n → ⊥) → slice_get (ran a v (with_changes (a.after st.store n) us v) j n).progress m ≡ slice_get st.progress m
      progress_after [] m d = set_there st n m _ d
      progress_after (u ∷ us) m d = set_there st n m _ d

  rests_down : (j n : ℕ) → slice_get st.down j ≡ Some n → Rests st (happens setup a v (Down j)) (Down j)
  rests_down j n here =
      let p = pass_of v false n setup.post_stages in
      let is_next : happens setup a v (Down j) ≡ entered a (record v { down = remove v.down j }) p = ap (λ o. came_down setup a v j o) here in
      let same = same_entered a (record v { down = remove v.down j }) p in
      record {
        stores = λ k low. ap (λ (z : State). store_at z.stores k) is_next ∙ ap (λ l. store_at l k) same.stores;
        progress = λ i r at free behind.
            ap (λ (z : State). slice_get z.progress r.number) is_next ∙ same.progress r.number (λ t e. places.comes_once j i n r here at behind e);
      }

  rests_let_go : (j : ℕ) (o : Option (ℕ × ℕ)) → Rests st (let_go v j o) (Hold j)
  rests_let_go j None = record { stores = λ k low. refl; progress = λ i r at free behind. refl }
  rests_let_go j (Some (n, need)) = record { stores = λ k low. refl; progress = λ i r at free behind. refl }

  rests_happens : (event : Event) → applies setup st event ≡ true → Rests st (happens setup a v event) event
  rests_happens Admit t = rests_admit
  rests_happens (Stage j) t = let p = get_within st.passes j (ltb-true j (length st.passes) t) in rests_stage j p.0 p.1
  rests_happens (Serve j) t = let n = get_within st.up j (ltb-true j (length st.up) t) in rests_serve j n.0 n.1
  rests_happens (Hold j) t = rests_let_go j (slice_get st.held j)
  rests_happens (Down j) t = let n = get_within st.down j (ltb-true j (length st.down) t) in rests_down j n.0 n.1
  rests_happens event t = record { stores = λ k low. refl; progress = λ i r at free behind. refl }

  pub rests_step : (event : Event) → Rests st (step setup a st event) event
  rests_step event = elim (cases_Bool (applies setup st event)) [
    | inl t ↦ let is : happens setup a v event ≡ step setup a st event = rw t refl in subst (λ z. Rests st z event) is (rests_happens event t)
    | inr t ↦ rw t (record { stores = λ k low. refl; progress = λ i r at free behind. refl })
  ]
