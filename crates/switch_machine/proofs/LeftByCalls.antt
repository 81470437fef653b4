-- What the calls of a switch in memory over packets leave, as a port tells it.
use Rattle.std.proofs.Common.{◌≡◌, ◌≢◌, ◌∙◌, ◌==◌, ℕ, Option, Some, None, refl, sym, ap, subst, ◌++◌, [], append-nil, if◌then◌else◌, suc, Bool, true, false, IfOk}
use Rattle.std.proofs.Common.{List, Result, Ok, Err, arith}
use Rattle.std.specs.Prelude.{IsSome, nat_lt, IsErrAnd}
use Rattle.std.proofs.lemmas.Bool.{cond-false, cond-true, eq-eqb, false≢true, ne_eqb, true≢false}
use Rattle.std.proofs.lemmas.Option.{same_Some}
use Rattle.switch_ir.specs.Code.{code_of, Code}
use Rattle.switch_ir.specs.Tables.{Told}
use Rattle.switch_ir.specs.UnderWay.{Passes, PassState, UnderWay, BegunDown, BegunUp, EndsDownAtOnce, EndsUpAtOnce, EndsWith, GoesDown, GoesUp, HasEntered, HasGoneOn}
use Rattle.switch_ir.specs.UnderWay.{LeavesDown, LeavesUp, OthersStay}
use Rattle.switch_machine.specs.declared.loaded.Loaded.{Loaded}
use Rattle.switch_machine.specs.declared.sides.Side.{Side}
use Rattle.switch_machine.specs.declared.sides.Side.TheVariants.{Before, Behind}
use Rattle.switch_machine.specs.ActivePasses.{with_pass}
use Rattle.switch_machine.specs.Kept.{AreSafe}
use Rattle.switch_machine.specs.Loading.{code_in}
use Rattle.switch_machine.specs.Sides.{of_side, down_of, entry_for, is_going, side_of, up_from, IsOf}
use Rattle.switch_machine.specs.UnderWay.{under_way, passes_on, Begins, Enters, Settles, Stages, StaysLoaded}
use Rattle.gal_io.specs.Count.{IsCountedIf}
use Rattle.packet_fields.specs.declared.packet.Packet.{Packet}
use Rattle.flat_ir.specs.Blocks.{nothing, Reading}
use Rattle.transfer_header.specs.Frames.{IsFrame}
use Rattle.switch_ir.specs.Journal.{JournalState}
use Rattle.switch_ir.specs.declared.journal.Entry.{Entry}
use Rattle.switch_ir.specs.declared.journal.Entry.TheVariants as entry
use Rattle.switch_ir.specs.declared.port.PortError.{PortError}
use Rattle.switch_ir.specs.declared.port.PortError.TheVariants.{NoMemory}
use Rattle.switch_ir.specs.declared.port.UpEnd.{UpEnd}
use Rattle.switch_ir.specs.declared.port.UpEnd.TheVariants as up
use Rattle.switch_ir.specs.declared.port.DownEnd.{DownEnd}
use Rattle.switch_ir.specs.Port.{has_failed, noted, BeginsDown, BeginsUp, EndsDown, EndsUp, HasNoDownPassOf, PassesDown, PassesUp, StagesDown, StagesUp}
use Rattle.switch_ir.specs.Port.{IsDownFrame, IsUpFrame, KeepsTables, OfItsParts}
use Rattle.switch_ir.specs.Meaning.{down_given}
use Rattle.switch_ir.specs.Staged.{post_staging, pre_staging, EndsBy, EndsDownBy}
use Rattle.switch_machine.specs.declared.calls.CallKind.{CallKind}
use Rattle.switch_machine.specs.declared.sides.Event.{Event}
use Rattle.switch_machine.specs.Calls.{IsCountedAs, PassEndsAsPlanned}
use Rattle.switch_machine.specs.Machine.{seen_of, MachineState}
use Rattle.switch_machine.specs.Staging.{passes_at, with_call, EntersDown, IsTakenBy, Leaves, Takes}
use Rattle.switch_machine.proofs.ActivePasses.{put_and_taken}
use Rattle.switch_machine.proofs.PassEnds.{ends_up}
use Rattle.switch_machine.proofs.LoadedCode.{at_side, if_some}
use Rattle.lemmas.proofs.Tests.{false_of_not_and, some_is, value_of_some}

pub stays_safe : (loaded : Option Loaded) (a b : Loaded) (told : Told) → loaded ≡ Some a → code_of b.code ≡ code_of a.code → AreSafe (code_in loaded) told
    → AreSafe (code_in (Some b)) told
stays_safe loaded a b told is same safe code code_is =
    safe code (ap code_in is ∙ ap (λ (x : Code). Some x) (sym same) ∙ code_is)

-- ## Passes

pub at_itself : (number : ℕ) (pass : Option PassState) (passes : Passes) → with_pass number pass passes number ≡ pass
at_itself number pass passes = cond-true (number == number) pass (passes number) (eq-eqb number number refl)

pub at_other : (number n : ℕ) (pass : Option PassState) (passes : Passes) → number ≢ n → with_pass number pass passes n ≡ passes n
at_other number n pass passes other = cond-false (number == n) pass (passes n) (ne_eqb number n other)

-- a machine with a pass under way has code
pub loaded_with : (side : Side) (loaded : Option Loaded) (number : ℕ) → IsSome (of_side side (under_way loaded).pre (under_way loaded).post number) → IsSome (code_in loaded)
loaded_with Before None number some = absurd (false≢true some)
loaded_with Behind None number some = absurd (false≢true some)
loaded_with side (Some l) number some = refl

-- ## How a call ends

-- the error of one that finds no memory
pub without_memory : {A : Type 0} (r : Result A PortError) → IsErrAnd r (λ e. e ≡ NoMemory) → r ≡ Err NoMemory
without_memory (Ok x) h = absurd h
without_memory (Err e) h = ap (λ x. Err x) h

-- one behind the server ends as one before it, but for packets that go up
pub same_end : (end : Result UpEnd PortError) → IfOk end (IsOf Behind) → up_from (down_of end) ≡ end
same_end (Ok (up.Up frame)) of = absurd of
same_end (Ok up.Going) of = refl
same_end (Ok (up.Finished verdict)) of = refl
same_end (Err error) of = refl

pub record IsDown (end : Result UpEnd PortError) : Type 1 where
  pub failed : has_failed end ≡ has_failed (down_of end)
  pub entries : (call : Result DownEnd PortError → Entry) → noted (λ e. call (down_of e)) end ≡ noted call (down_of end)
  pub goes : (left : Bool) → IfOk end (GoesUp left) → IfOk (down_of end) (GoesDown left)
  pub begun : (IsNew : PassState → Type 0) (new : Option PassState) → BegunUp IsNew end new → BegunDown IsNew (down_of end) new
  pub leaves : (IsNew : PassState → Type 0) (old : PassState) (new : Option PassState) → LeavesUp IsNew end old new → LeavesDown IsNew (down_of end) old new
  pub ends : IfOk end EndsUpAtOnce → IfOk (down_of end) EndsDownAtOnce
  pub planned : (fails : Bool) → PassEndsAsPlanned fails end → PassEndsAsPlanned fails (down_of end)

pub is_down : (end : Result UpEnd PortError) → IfOk end (IsOf Behind) → IsDown end
is_down (Ok (up.Up frame)) of = absurd of
is_down (Err NoMemory) of = record { failed = refl; entries = λ _. refl; goes = λ _ h. h; begun = λ _ _ h. h; leaves = λ _ _ _ h. h; ends = λ h. h; planned = λ _ h. h }
is_down end of = record { failed = refl; entries = λ _. refl; goes = λ _ h. h; begun = λ _ _ h. h; leaves = λ _ _ _ h. h; ends = λ h. h; planned = λ _ h. h }

-- ## What a call leaves of the passes of a side

stay_others : (number : ℕ) (old new : Passes) → new ≡ old → OthersStay number old new
stay_others number old new h n other = ap (λ (ps : Passes). ps n) h

change_others : (number : ℕ) (pass : Option PassState) (old new : Passes) → new ≡ with_pass number pass old → OthersStay number old new
change_others number pass old new h n other = ap (λ (ps : Passes). ps n) h ∙ at_other number n pass old other

changed : (number : ℕ) (pass : Option PassState) (old new : Passes) → new ≡ with_pass number pass old → new number ≡ pass
changed number pass old new h = ap (λ (ps : Passes). ps number) h ∙ at_itself number pass old

module _ (number : ℕ) (IsNew : PassState → Type 0) (old new : Passes) where
  -- of one that began
  pub others_begun : (end : UpEnd) → Begins number IsNew old new end → OthersStay number old new
  others_begun up.Going h = change_others number (Some h.0) old new h.2
  others_begun end h = stay_others number old new h

  pub begun_of : (end : UpEnd) → Begins number IsNew old new end → old number ≡ None → BegunUp IsNew (Ok end) (new number)
  begun_of up.Going h none = (h.0, changed number (Some h.0) old new h.2, h.1)
  begun_of end h none = ap (λ (ps : Passes). ps number) h ∙ none

  -- one that goes to its end at once leaves them as before
  pub whole_stays : (end : UpEnd) → GoesUp false end → Begins number IsNew old new end → (new ≡ old) × EndsUpAtOnce end
  whole_stays up.Going goes h = absurd (true≢false (sym goes))
  whole_stays end goes h = (h, tt)

  -- of one that took a stage
  pub others_settled : (end : UpEnd) → Settles number IsNew old new end → OthersStay number old new
  others_settled up.Going h = change_others number (Some h.0) old new h.2
  others_settled end h = change_others number None old new h

  pub settled_of : (Is : PassState → Type 0) (before : PassState) (end : UpEnd) → ((p : PassState) → IsNew p → Is p)
      → Settles number IsNew old new end → LeavesUp Is (Ok end) before (new number)
  settled_of Is before up.Going go h = (h.0, changed number (Some h.0) old new h.2, go h.0 h.1)
  settled_of Is before end go h = changed number None old new h

  pub settles_last : (end : UpEnd) → is_going end ≡ false → new ≡ with_pass number None old → Settles number IsNew old new end
  settles_last up.Going ends is = absurd (true≢false ends)
  settles_last end ends is = is

-- one that goes on has stages left
pub going_is : (end : UpEnd) → is_going end ≡ true → end ≡ up.Going
going_is up.Going going = refl
going_is end going = absurd (true≢false (sym going))

pub going_left : (end : UpEnd) (left : Bool) → is_going end ≡ true → GoesUp left end → left ≡ true
going_left end left going h = subst (GoesUp left) (going_is end going) h

-- a pass that began just now is taken out again
pub undone : (side : Side) (code : Code) (told : Told) (whole : Bool) (number : ℕ) (packet : Packet) (given : Reading) (end : UpEnd) (old between new : Passes)
    → Enters side code told whole number packet given end old between → (whole ≡ false → old number ≡ None)
    → new ≡ (if is_going end then with_pass number None between else between) → new ≡ old
undone side code told whole number packet given up.Going old between new h none is =
    put_and_taken old between new number h.begun.0 (none (false_of_not_and whole _ h.ends.goes)) h.begun.2 is
undone side code told whole number packet given end old between new h none is = is ∙ h.begun

-- ## What a call leaves of the machine

module _ (e : Event) (end : Result UpEnd PortError) (old s new : MachineState) (same : s ≡ old) where
  leaves_of : (code : Option Code) (passes : UnderWay) (journal : JournalState) (faults : ℕ)
      → new ≡ record s { code = code; passes = passes; journal = journal; faults = faults } → code ≡ s.code
      → of_side (side_of e) passes.post passes.pre ≡ of_side (side_of e) s.passes.post s.passes.pre
      → journal ≡ record s.journal { entries = s.journal.entries ++ noted (entry_for e) end } → IsCountedIf (has_failed end) s.faults new.faults → IsSome s.code
      → ((x : Code) → s.code ≡ Some x → IsTakenBy (Takes e x s.tables) end (passes_at (side_of e) s) (passes_at (side_of e) new))
      → Leaves (side_of e) (entry_for e) (Takes e) end old new
  leaves_of code passes journal faults is stays others noted_is rises loaded takes =
      subst (λ (m : MachineState). Leaves (side_of e) (entry_for e) (Takes e) end m new) same (record {
        code = ap (λ (m : MachineState). m.code) is ∙ stays;
        tables = ap (λ (m : MachineState). m.tables) is;
        entries = ap (λ (m : MachineState). m.journal.entries) is ∙ ap (λ (j : JournalState). j.entries) noted_is;
        spare = ap (λ (m : MachineState). m.journal.spare) is ∙ ap (λ (j : JournalState). j.spare) noted_is;
        faults = rises;
        planned = ap (λ (m : MachineState). m.planned) is;
        calls = ap (λ (m : MachineState). m.calls) is;
        other = ap (λ (m : MachineState). of_side (side_of e) m.passes.post m.passes.pre) is ∙ others;
        loaded = value_of_some s.code loaded;
        takes = takes;
      })

-- one that had an answer before it was noted
pub leaves_by : (e : Event) (end : Result UpEnd PortError) (old s : MachineState) → s ≡ old → (l after : Loaded) (journal : JournalState)
    → s.code ≡ Some (code_of l.code) → s.passes ≡ under_way (Some l) → StaysLoaded (side_of e) l after
    → IsTakenBy (Takes e (code_of l.code) s.tables) end (passes_on (side_of e) l) (passes_on (side_of e) after)
    → journal ≡ record s.journal { entries = s.journal.entries ++ noted (entry_for e) end } → has_failed end ≡ false
    → Leaves (side_of e) (entry_for e) (Takes e) end old (record s { code = Some (code_of after.code); passes = under_way (Some after); journal = journal })
leaves_by e end old s same l after journal code_is passes_is stays takes noted_is fine =
    let side = side_of e in
    let code : Option Code = Some (code_of after.code) in
    let new : MachineState = record s { code = code; passes = under_way (Some after); journal = journal } in
    let Taken : Code × Passes × Passes → Type 0 = λ (x, ps, qs). IsTakenBy (Takes e x s.tables) end ps qs in
    leaves_of e end old s new same code (under_way (Some after)) journal s.faults refl (ap (λ (x : Code). Some x) stays.code ∙ sym code_is)
    (stays.other ∙ sym (ap (λ (u : UnderWay). of_side side u.post u.pre) passes_is)) noted_is
    (subst (λ failed. IsCountedIf failed s.faults s.faults) (sym fine) refl) (some_is s.code (code_of l.code) code_is)
    (λ x there.
    let before = sym (at_side side l) ∙ sym (ap (λ (u : UnderWay). of_side side u.pre u.post) passes_is) in
    subst Taken (λ i. (same_Some (code_of l.code) x (sym code_is ∙ there) i, before i, sym (at_side side after) i)) takes)

-- one without memory leaves no entry
pub none_noted : (old new : JournalState) → new ≡ old → new ≡ record old { entries = old.entries ++ [] }
none_noted old new is = is ∙ ap (λ (es : List Entry). record old { entries = es }) (sym (append-nil old.entries))

-- one that has no answer
pub leaves_error : (e : Event) (error : PortError) (old s new : MachineState) → s ≡ old → (journal : JournalState) (faults : ℕ) → IsSome old.code
    → new ≡ record s { journal = journal; faults = faults } → journal ≡ record s.journal { entries = s.journal.entries ++ noted (entry_for e) (Err error) }
    → IsCountedIf (has_failed {A = UpEnd} (Err error)) s.faults new.faults → Leaves (side_of e) (entry_for e) (Takes e) (Err error) old new
leaves_error e error old s new same journal faults loaded is noted_is rises =
    leaves_of e (Err error) old s new same s.code s.passes journal faults is refl refl noted_is rises (subst (λ (m : MachineState). IsSome m.code) (sym same) loaded)
    (λ x there. ap (passes_at (side_of e)) is)

-- ## What a port tells of it

module _ (side : Side) (call : Result UpEnd PortError → Entry) (IsTaken : Code → Told → UpEnd → Passes → Passes → Type 0) (end : Result UpEnd PortError) where
  pub counted_of : (kind : CallKind) (old new : MachineState) → Leaves side call IsTaken end (with_call kind old) new → IsCountedAs kind (has_failed end) old new
  counted_of kind old new l = record { planned = l.planned; calls = l.calls; faults = l.faults }

  keeps_tables : (old new : MachineState) → Leaves side call IsTaken end old new → KeepsTables (seen_of old) (seen_of new)
  keeps_tables old new l = record { code = l.code; told = ap (λ (t : Told). Some t) l.tables; spare = omega (arith, l.spare) }

-- what holds of an answer that leaves the passes so, and of an error that leaves them as before
by_taken : (Is : Result UpEnd PortError → Type 0) (IsTaken : UpEnd → Passes → Passes → Type 0) (old new : Passes) (end : Result UpEnd PortError)
    → ((e : UpEnd) → IsTaken e old new → Is (Ok e)) → ((e : PortError) → new ≡ old → Is (Err e)) → IsTakenBy IsTaken end old new → Is end
by_taken Is IsTaken old new (Ok e) taken same h = taken e h
by_taken Is IsTaken old new (Err e) taken same h = same e h

-- before the server
module _ (end : Result UpEnd PortError) (old new : MachineState) where
  abbrev pre_old : Passes
  pre_old = old.passes.pre

  abbrev pre_new : Passes
  pre_new = new.passes.pre

  module _ (number port : ℕ) (bytes : List ℕ) where
    abbrev arrived : Packet
    arrived = record { port = port; bytes = bytes }

    abbrev Arrives : Bool → Code → Told → UpEnd → Passes → Passes → Type 0
    Arrives whole code told = Enters Before code told whole number arrived nothing

    arrived_framed : (whole : Bool) (x : Code) → IsTakenBy (Arrives whole x old.tables) end pre_old pre_new → IfOk end (IsUpFrame x number port bytes)
    arrived_framed whole x = by_taken (λ r. IfOk r (IsUpFrame x number port bytes)) (Arrives whole x old.tables) pre_old pre_new end (λ e h. h.ends.frame) (λ e same. tt)

    arrived_told : (whole : Bool) (x : Code) (tables : Told) → Some old.tables ≡ Some tables → IsTakenBy (Arrives whole x old.tables) end pre_old pre_new
        → IfOk end (EndsUp x tables number arrived)
    arrived_told whole x tables are h = subst (λ (t : Told). IfOk end (EndsUp x t number arrived)) (same_Some old.tables tables are)
        (by_taken (λ r. IfOk r (EndsUp x old.tables number arrived)) (Arrives whole x old.tables) pre_old pre_new end
        (λ e h. ends_up x old.tables number arrived e h.ends.told) (λ e same. tt) h)

    pub passes_up : Leaves Before (λ e. entry.Up number port bytes e) (Arrives true) end old new → PassesUp end number port bytes (seen_of old) (seen_of new)
    passes_up l =
        let x = l.loaded.0 in
        let whole = by_taken (λ r. (pre_new ≡ pre_old) × IfOk r EndsUpAtOnce) (Arrives true x old.tables) pre_old pre_new end
        (λ e h. whole_stays number _ pre_old pre_new e h.ends.goes h.begun) (λ e same. (same, tt)) (l.takes x l.loaded.1) in
        let kept = keeps_tables Before _ (Arrives true) end old new l in
        record {
          kept = record { code = kept.code; told = kept.told; passes = λ i. record { pre = whole.0 i; post = l.other i }; spare = kept.spare };
          journal = l.entries;
          faults = l.faults;
          ends = whole.1;
          frame = λ x is. arrived_framed true x (l.takes x is);
          told = λ x tables is are. arrived_told true x tables are (l.takes x is);
        }

    pub begins_up : Leaves Before (λ e. entry.BeginUp number port bytes e) (Arrives false) end old new → old.passes.pre number ≡ None
        → BeginsUp end number port bytes (seen_of old) (seen_of new)
    begins_up l none = record {
      kept = keeps_tables Before _ (Arrives false) end old new l;
      journal = l.entries;
      faults = l.faults;
      post = l.other;
      others = by_taken (λ r. OthersStay number pre_old pre_new) (Arrives false l.loaded.0 old.tables) pre_old pre_new end
          (λ e h. others_begun number _ pre_old pre_new e h.begun) (λ e same. stay_others number pre_old pre_new same) (l.takes l.loaded.0 l.loaded.1);
      goes = λ x is. by_taken (λ r. IfOk r (GoesUp (nat_lt 0 x.pre.highest))) (Arrives false x old.tables) pre_old pre_new end (λ e h. h.ends.goes) (λ e same. tt) (l.takes x is);
      pass = λ x is.
          let Begun : Result UpEnd PortError → Type 0 =
          λ r. BegunUp (HasEntered (pre_staging x) (λ other. other ≡ nothing) arrived (Some old.tables)) r (pre_new number) in
          by_taken Begun (Arrives false x old.tables) pre_old pre_new end (λ e h. begun_of number _ pre_old pre_new e h.begun none)
          (λ e same. ap (λ (ps : Passes). ps number) same ∙ none) (l.takes x is);
      frame = λ x is. arrived_framed false x (l.takes x is);
      told = λ x tables is are. arrived_told false x tables are (l.takes x is);
    }

  pub stages_up : (number : ℕ) → Leaves Before (λ e. entry.StageUp number e) (λ code told. Stages Before code told number) end old new
      → StagesUp end number (seen_of old) (seen_of new)
  stages_up number l =
      let Staged : Code → UpEnd → Passes → Passes → Type 0 = λ x. Stages Before x old.tables number in
      record {
        kept = keeps_tables Before _ (λ code told. Stages Before code told number) end old new l;
        journal = l.entries;
        faults = l.faults;
        post = l.other;
        others = by_taken (λ r. OthersStay number pre_old pre_new) (Staged l.loaded.0) pre_old pre_new end
            (λ e h. others_settled number _ pre_old pre_new e h.settles) (λ e same. stay_others number pre_old pre_new same) (l.takes l.loaded.0 l.loaded.1);
        goes = λ x before is there.
            by_taken (λ r. IfOk r (GoesUp (nat_lt (suc before.stage) x.pre.highest))) (Staged x) pre_old pre_new end (λ e h. (h.ends before there).goes) (λ e same. tt) (l.takes x is);
        pass = λ x before is there.
            let Goes : PassState → Type 0 = HasGoneOn (pre_staging x) (Some old.tables) before in
            by_taken (λ r. LeavesUp Goes r before (pre_new number)) (Staged x) pre_old pre_new end
            (λ e h. settled_of number _ pre_old pre_new Goes before e (λ pass g. g before there) h.settles) (λ e same. ap (λ (ps : Passes). ps number) same ∙ there) (l.takes x is);
        frame = λ x before is there.
            by_taken (λ r. IfOk r (IsUpFrame x number before.packet.port before.packet.bytes)) (Staged x) pre_old pre_new end (λ e h. (h.ends before there).frame) (λ e same. tt) (l.takes x is);
        told = λ x before is there.
            by_taken (λ r. EndsWith (pre_staging x) (Some old.tables) before (λ reads. IfOk r (EndsBy x reads number before.packet))) (Staged x) pre_old pre_new end
            (λ e h. (h.ends before there).told) (λ e same tables own is are. tt) (l.takes x is);
      }

-- what comes of a frame that comes down
told_down : (code : Code) (told : Told) (whole : Bool) (frame : List ℕ) (end : Result UpEnd PortError) (old new : Passes) → IsTakenBy (EntersDown frame whole code told) end old new
    → IfOk (down_of end) (EndsDown code told frame)
told_down code told whole frame (Ok (up.Finished verdict)) old new h = λ number port values packet framed. (h number port values packet framed).ends.told
told_down code told whole frame end old new h = tt

-- behind the server
module _ (end : Result UpEnd PortError) (result : Result DownEnd PortError) (is : result ≡ down_of end) (of : IfOk end (IsOf Behind)) where
  pub planned_down : (fails : Bool) → PassEndsAsPlanned fails end → PassEndsAsPlanned fails result
  planned_down fails h = rw is ((is_down end of).planned fails h)

  pub counted_down : (call : Result UpEnd PortError → Entry) (IsTaken : Code → Told → UpEnd → Passes → Passes → Type 0) (kind : CallKind) (old new : MachineState)
      → Leaves Behind call IsTaken end (with_call kind old) new → IsCountedAs kind (has_failed result) old new
  counted_down call IsTaken kind old new l = rw (is, ← (is_down end of).failed) (counted_of Behind call IsTaken end kind old new l)

module _ (end : Result UpEnd PortError) (result : Result DownEnd PortError) (is : result ≡ down_of end) (of : IfOk end (IsOf Behind)) (old new : MachineState) where
  abbrev down : IsDown end
  down = is_down end of

  abbrev post_old : Passes
  post_old = old.passes.post

  abbrev post_new : Passes
  post_new = new.passes.post

  module _ (frame : List ℕ) (framed : IsDownFrame (seen_of old) frame) where
    frame_of : (x : Code) → old.code ≡ Some x → IsFrame 2 x.down frame
    frame_of x is = if_some old.code x (λ code. IsFrame 2 code.down frame) framed is

    frame_told : (whole : Bool) (x : Code) (tables : Told) → Some old.tables ≡ Some tables → IsTakenBy (EntersDown frame whole x old.tables) end post_old post_new
        → IfOk (down_of end) (EndsDown x tables frame)
    frame_told whole x tables are h =
        subst (λ (t : Told). IfOk (down_of end) (EndsDown x t frame)) (same_Some old.tables tables are) (told_down x old.tables whole frame end post_old post_new h)

    pub passes_down : Leaves Behind (λ e. entry.Down frame (down_of e)) (EntersDown frame true) end old new → PassesDown result frame (seen_of old) (seen_of new)
    passes_down l =
        let x = l.loaded.0 in
        let f = frame_of x l.loaded.1 in
        let whole = by_taken (λ r. (post_new ≡ post_old) × IfOk r EndsUpAtOnce) (EntersDown frame true x old.tables) post_old post_new end
        (λ e h. let g = h f.number f.port f.values f.packet f.is in whole_stays f.number _ post_old post_new e g.ends.goes g.begun) (λ e same. (same, tt)) (l.takes x l.loaded.1) in
        let kept = keeps_tables Behind _ (EntersDown frame true) end old new l in
        subst (λ (r : Result DownEnd PortError). PassesDown r frame (seen_of old) (seen_of new)) (sym is) (record {
          kept = record { code = kept.code; told = kept.told; passes = λ i. record { pre = l.other i; post = whole.0 i }; spare = kept.spare };
          journal = l.entries ∙ ap (λ (es : List Entry). old.journal.entries ++ es) (down.entries (λ e. entry.Down frame e));
          faults = subst (λ failed. IsCountedIf failed old.faults new.faults) down.failed l.faults;
          ends = down.ends whole.1;
          told = λ x tables loaded are. frame_told true x tables are (l.takes x loaded);
        })

    pub begins_down : Leaves Behind (λ e. entry.BeginDown frame (down_of e)) (EntersDown frame false) end old new → HasNoDownPassOf (seen_of old) frame
        → BeginsDown result frame (seen_of old) (seen_of new)
    begins_down l none = subst (λ (r : Result DownEnd PortError). BeginsDown r frame (seen_of old) (seen_of new)) (sym is) (record {
      kept = keeps_tables Behind _ (EntersDown frame false) end old new l;
      journal = l.entries ∙ ap (λ (es : List Entry). old.journal.entries ++ es) (down.entries (λ e. entry.BeginDown frame e));
      faults = subst (λ failed. IsCountedIf failed old.faults new.faults) down.failed l.faults;
      pre = l.other;
      others = λ x loaded number port values packet framed.
          by_taken (λ r. OthersStay number post_old post_new) (EntersDown frame false x old.tables) post_old post_new end
          (λ e h. others_begun number _ post_old post_new e (h number port values packet framed).begun) (λ e same. stay_others number post_old post_new same) (l.takes x loaded);
      goes = λ x loaded.
          let f = frame_of x loaded in
          down.goes (nat_lt 0 x.post.highest) (by_taken (λ r. IfOk r (GoesUp (nat_lt 0 x.post.highest))) (EntersDown frame false x old.tables) post_old post_new end
          (λ e h. (h f.number f.port f.values f.packet f.is).ends.goes) (λ e same. tt) (l.takes x loaded));
      pass = λ x loaded number port values packet framed.
          let q : Packet = record { port = port; bytes = packet } in
          let Entered : PassState → Type 0 = HasEntered (post_staging x) (λ other. other ≡ down_given x values q) q (Some old.tables) in
          let no_pass = if_some old.code x (λ code. OfItsParts code frame (λ n q vs. old.passes.post n ≡ None)) none loaded number port values packet framed in
          down.begun Entered (post_new number) (by_taken (λ r. BegunUp Entered r (post_new number)) (EntersDown frame false x old.tables) post_old post_new end
          (λ e h. begun_of number _ post_old post_new e (h number port values packet framed).begun no_pass) (λ e same. ap (λ (ps : Passes). ps number) same ∙ no_pass) (l.takes x loaded));
      told = λ x tables loaded are. frame_told false x tables are (l.takes x loaded);
    })

  pub stages_down : (number : ℕ) → Leaves Behind (λ e. entry.StageDown number (down_of e)) (λ code told. Stages Behind code told number) end old new
      → StagesDown result number (seen_of old) (seen_of new)
  stages_down number l =
      let Staged : Code → UpEnd → Passes → Passes → Type 0 = λ x. Stages Behind x old.tables number in
      subst (λ (r : Result DownEnd PortError). StagesDown r number (seen_of old) (seen_of new)) (sym is) (record {
        kept = keeps_tables Behind _ (λ code told. Stages Behind code told number) end old new l;
        journal = l.entries ∙ ap (λ (es : List Entry). old.journal.entries ++ es) (down.entries (λ e. entry.StageDown number e));
        faults = subst (λ failed. IsCountedIf failed old.faults new.faults) down.failed l.faults;
        pre = l.other;
        others = by_taken (λ r. OthersStay number post_old post_new) (Staged l.loaded.0) post_old post_new end
            (λ e h. others_settled number _ post_old post_new e h.settles) (λ e same. stay_others number post_old post_new same) (l.takes l.loaded.0 l.loaded.1);
        goes = λ x before loaded there.
            down.goes (nat_lt (suc before.stage) x.post.highest) (by_taken (λ r. IfOk r (GoesUp (nat_lt (suc before.stage) x.post.highest))) (Staged x) post_old post_new end
            (λ e h. (h.ends before there).goes) (λ e same. tt) (l.takes x loaded));
        pass = λ x before loaded there.
            let Goes : PassState → Type 0 = HasGoneOn (post_staging x) (Some old.tables) before in
            down.leaves Goes before (post_new number) (by_taken (λ r. LeavesUp Goes r before (post_new number)) (Staged x) post_old post_new end
            (λ e h. settled_of number _ post_old post_new Goes before e (λ pass g. g before there) h.settles) (λ e same. ap (λ (ps : Passes). ps number) same ∙ there) (l.takes x loaded));
        told = λ x before loaded there.
            by_taken (λ r. EndsWith (post_staging x) (Some old.tables) before (λ reads. IfOk (down_of r) (EndsDownBy x reads before.packet))) (Staged x) post_old post_new end
            (λ e h. (h.ends before there).told) (λ e same tables own is are. tt) (l.takes x loaded);
      })
