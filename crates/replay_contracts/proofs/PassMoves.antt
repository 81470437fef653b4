-- What an event does to the passes under way, of the state and of the switch: all stay, or one comes, goes on or ends.
use Rattle.std.proofs.Common.{◌≡◌, ◌<◌, ◌-◌, ℕ, suc, Bool, true, false, List, [], ◌∷◌, ◌++◌, Option, Some, None, inl, inr, set, refl, sym, ap, ◌∙◌, subst, arith}
use Rattle.std.specs.Prelude.{slice_get, remove}
use Rattle.std.proofs.lemmas.Bool.{cases_Bool, cases_eq}
use Rattle.std.proofs.lemmas.Option.{same_Some, none-some}
use Rattle.packet_fields.specs.declared.packet.Packet.{Packet}
use Rattle.flat_ir.specs.Blocks.{Reading}
use Rattle.transfer_header.specs.Frames.{IsFrame}
use Rattle.switch_ir.specs.Code.{Code}
use Rattle.switch_ir.specs.Port.{OfItsParts, IsHandedDown, IsNothing}
use Rattle.switch_ir.specs.Staged.{Staging, post_staging, pre_staging, staging}
use Rattle.switch_ir.specs.Tables.{Told}
use Rattle.switch_ir.specs.UnderWay.{PassState, ToldPass, UnderWay, EntersTold, HasEntered, HasGoneOn, StagesTold}
use Rattle.replay_state.specs.Answers.{Setup}
use Rattle.replay_state.specs.Program.{packet_at}
use Rattle.replay_state.specs.declared.pass.Pass.{Pass}
use Rattle.split_answers.specs.UnderWay.{IsOnSwitch, highest_of, passes_of}
use Rattle.replay_contracts.proofs.OnSwitch.{OnList, Once, Others, at_own, ended_on, entered_on, moved_on, same_on, was_elsewhere}
use Rattle.lemmas.proofs.Lists.{get_before_pushed, get_set_other, get_set_same}

-- the pass with a stage less to go
abbrev pub less : Pass → Pass
less p = record p { left = p.left - 1 }

-- where it is told, it goes by this bit
abbrev pub GoesBy : Bool → PassState → Type 0
GoesBy bit own = (told : ToldPass) → own.told ≡ Some told → told.bit ≡ bit

-- what stands around an event: what is replayed, with the code, the tables that were told, the frames that come down, the
-- bit and the version
pub record Around : Type 0 where
  pub setup : Setup
  pub packets : List Packet
  pub code : Code
  pub tables : Option Told
  pub frame : ℕ → List ℕ
  pub bit : Bool
  pub version : ℕ

-- A pass has entered on the switch: before the server over the packet of its number, and behind it over the frame that
-- came down.
pub record Enters (g : Around) (p : Pass) (own : PassState) : Type 0 where
  pub full : p.left ≡ highest_of p.pre g.setup
  pub some : 0 < p.left
  pub up : p.pre ≡ true → HasEntered (pre_staging g.code) IsNothing (packet_at g.packets p.number) g.tables own
  pub down : p.pre ≡ false → IsFrame 2 g.code.down (g.frame p.number)
      × OfItsParts g.code (g.frame p.number) (λ number packet values. HasEntered (post_staging g.code) (IsHandedDown g.code values packet) packet g.tables own)

-- Each pass at a free place stays as it was. What holds of a pass that comes or goes on is Q.
pub data PassMove (g : Around) (free : ℕ → Type 0) (Q : Pass → Type 0) (xs ys : List Pass) (u w : UnderWay) : Type 0 where
  Stay : ((i : ℕ) (r : Pass) → slice_get xs i ≡ Some r → free i) → ys ≡ xs → ((k : Bool) (m : ℕ) → passes_of k w m ≡ passes_of k u m) → PassMove g free Q xs ys u w
  Come : ((i : ℕ) (r : Pass) → slice_get xs i ≡ Some r → free i) → (p : Pass) (own : PassState) → ys ≡ xs ++ p ∷ [] → p.bit ≡ g.bit → p.version ≡ g.version → Q p
      → Others p.pre p.number u w → passes_of p.pre u p.number ≡ None → passes_of p.pre w p.number ≡ Some own → Enters g p own → PassMove g free Q xs ys u w
  Move : (j : ℕ) → ((i : ℕ) → (i ≡ j → ⊥) → free i) → (p : Pass) (before after : PassState) → slice_get xs j ≡ Some p → 1 < p.left → ys ≡ set xs j (less p) → Q p
      → Others p.pre p.number u w → passes_of p.pre u p.number ≡ Some before → passes_of p.pre w p.number ≡ Some after → HasGoneOn (staging p.pre g.code) g.tables before after
      → PassMove g free Q xs ys u w
  End : (j : ℕ) → ((i : ℕ) → (i ≡ j → ⊥) → free i) → (p : Pass) → slice_get xs j ≡ Some p → ys ≡ remove xs j → Others p.pre p.number u w → passes_of p.pre w p.number ≡ None
      → PassMove g free Q xs ys u w

-- ## The passes of the state stay on the switch

enters_by : (p : Staging) (Given : Reading → Type 0) (packet : Packet) (tables : Option Told) (o : Option ToldPass) (bit : Bool) → EntersTold p Given packet tables o
    → ((t : Told) → tables ≡ Some t → t.bit ≡ bit) → (told : ToldPass) → o ≡ Some told → told.bit ≡ bit
enters_by p Given packet None o bit h is told e = absurd (none-some told (sym h ∙ e))
enters_by p Given packet (Some t) o bit h is told e = ap (λ (k : ToldPass). k.bit) (same_Some _ _ (sym e ∙ h.1)) ∙ h.2 ∙ is t refl

stages_by : (p : Staging) (t : ℕ) (packet : Packet) (tables : Option Told) (before after : Option ToldPass) (bit : Bool) → StagesTold p t packet tables before after
    → ((told : ToldPass) → before ≡ Some told → told.bit ≡ bit) → (told : ToldPass) → after ≡ Some told → told.bit ≡ bit
stages_by p t packet None before after bit h is told e = absurd (none-some told (sym h ∙ e))
stages_by p t packet (Some tables) None after bit h is told e = absurd (none-some told (sym h ∙ e))
stages_by p t packet (Some tables) (Some old) after bit h is told e = ap (λ (k : ToldPass). k.bit) (same_Some _ _ (sym e ∙ h.1)) ∙ h.2 ∙ is old refl

module _ (g : Around) (told_bit : (t : Told) → g.tables ≡ Some t → t.bit ≡ g.bit) where
  new_bit : (p : Pass) (own : PassState) → p.bit ≡ g.bit → Enters g p own → GoesBy p.bit own
  new_bit p own bit enters told e = elim (cases_Bool p.pre) [
    | inl t ↦ enters_by (pre_staging g.code) IsNothing (packet_at g.packets p.number) g.tables own.told g.bit (enters.up t).told told_bit told e ∙ sym bit
    | inr t ↦ let d = enters.down t in
        let f = d.0 in
        let packet : Packet = record { port = f.port; bytes = f.packet } in
        enters_by (post_staging g.code) (IsHandedDown g.code f.values packet) packet g.tables own.told g.bit (d.1 f.number f.port f.values f.packet f.is).told told_bit told e ∙ sym bit
  ]

  new_stage : (p : Pass) (own : PassState) → Enters g p own → own.stage ≡ 0
  new_stage p own enters = elim (cases_Bool p.pre) [
    | inl t ↦ (enters.up t).stage
    | inr t ↦ let d = enters.down t in let f = d.0 in (d.1 f.number f.port f.values f.packet f.is).stage
  ]

  new_on : (p : Pass) (own : PassState) (w : UnderWay) → p.bit ≡ g.bit → Enters g p own → passes_of p.pre w p.number ≡ Some own → IsOnSwitch g.setup g.packets w p
  new_on p own w bit enters there = record {
    own = own;
    there = there;
    packet = λ t. (enters.up t).packet;
    bit = new_bit p own bit enters;
    left = let z = new_stage p own enters in let full = enters.full in omega arith;
    some = enters.some;
  }

  later_on : (p : Pass) (before after : PassState) (u w : UnderWay) → 1 < p.left → passes_of p.pre u p.number ≡ Some before → passes_of p.pre w p.number ≡ Some after
      → HasGoneOn (staging p.pre g.code) g.tables before after → IsOnSwitch g.setup g.packets u p → IsOnSwitch g.setup g.packets w (less p)
  later_on p before after u w more was there gone is =
      let same : is.own ≡ before = same_Some _ _ (sym is.there ∙ was) in
      record {
        own = after;
        there = there;
        packet = λ t. gone.packet ∙ ap (λ (s : PassState). s.packet) (sym same) ∙ is.packet t;
        bit = stages_by (staging p.pre g.code) (suc before.stage) before.packet g.tables before.told after.told p.bit gone.told (subst (GoesBy p.bit) same is.bit);
        left = let z = gone.stage in let y = is.left in let s = ap (λ (k : PassState). k.stage) same in omega arith;
        some = omega arith;
      }

  pub turn_on : (free : ℕ → Type 0) (Q : Pass → Type 0) (xs ys : List Pass) (u w : UnderWay) → Once xs → OnList g.setup g.packets xs u → PassMove g free Q xs ys u w → OnList g.setup g.packets ys w
  turn_on free Q xs ys u w once on (Stay all same stays) = subst (λ l. OnList g.setup g.packets l w) (sym same) (same_on g.setup g.packets xs u w stays on)
  turn_on free Q xs ys u w once on (Come all p own same bit version q others none there enters) =
      subst (λ l. OnList g.setup g.packets l w) (sym same) (entered_on g.setup g.packets xs p u w others none (new_on p own w bit enters there) on)
  turn_on free Q xs ys u w once on (Move j all p before after here more same q others was there gone) =
      subst (λ l. OnList g.setup g.packets l w) (sym same)
      (moved_on g.setup g.packets xs j p (less p) u w here refl refl others once (later_on p before after u w more was there gone (on.each j p here)) on)
  turn_on free Q xs ys u w once on (End j all p here same others none) =
      subst (λ l. OnList g.setup g.packets l w) (sym same) (ended_on g.setup g.packets xs j p u w here others none once on)

-- ## What holds of each pass on the switch

abbrev pub AllOn : (Pass → PassState → Type 0) → List Pass → UnderWay → Type 0
AllOn K xs u = (j : ℕ) (p : Pass) (own : PassState) → slice_get xs j ≡ Some p → passes_of p.pre u p.number ≡ Some own → K p own

module _ (g : Around) (free : ℕ → Type 0) (Q : Pass → Type 0) (K : Pass → PassState → Type 0) (xs : List Pass) (u : UnderWay) (once : Once xs) (on : OnList g.setup g.packets xs u)
    (stays : (i : ℕ) (r : Pass) (own : PassState) → slice_get xs i ≡ Some r → passes_of r.pre u r.number ≡ Some own → free i → K r own) where
  come_all : (p : Pass) (w : UnderWay) → ((i : ℕ) (r : Pass) → slice_get xs i ≡ Some r → free i) → Others p.pre p.number u w → passes_of p.pre u p.number ≡ None
      → ((own : PassState) → passes_of p.pre w p.number ≡ Some own → K p own) → AllOn K (xs ++ p ∷ []) w
  come_all p w all others none own j r found here there = elim (get_before_pushed xs p r j here) [
    | inl new ↦ subst (λ (q : Pass). (s : PassState) → passes_of q.pre w q.number ≡ Some s → K q s) new.1 own found there
    | inr old ↦ let h = on.each j r old in
        stays j r found old (sym (others r.pre r.number (λ k m. none-some h.own (sym (at_own g.setup g.packets u p r k m ∙ none) ∙ h.there))) ∙ there) (all j r old)
  ]

  move_all : (j : ℕ) (p q : Pass) (w : UnderWay) → ((i : ℕ) → (i ≡ j → ⊥) → free i) → slice_get xs j ≡ Some p → Others p.pre p.number u w
      → ((own : PassState) → passes_of q.pre w q.number ≡ Some own → K q own) → AllOn K (set xs j q) w
  move_all j p q w all at others own i r found here there = elim (cases_eq i j) [
    | inl same ↦
        let is : q ≡ r = same_Some _ _ (sym (get_set_same xs j p q at) ∙ subst (λ k. slice_get (set xs j q) k ≡ Some r) same here) in
        subst (λ (z : Pass). (s : PassState) → passes_of z.pre w z.number ≡ Some s → K z s) is own found there
    | inr d ↦ let old = sym (get_set_other xs j i q d) ∙ here in
        stays i r found old (sym (others r.pre r.number (λ k m. d (once i j r p old at k m))) ∙ there) (all i d)
  ]

  end_all : (j : ℕ) (p : Pass) (w : UnderWay) → ((i : ℕ) → (i ≡ j → ⊥) → free i) → slice_get xs j ≡ Some p → Others p.pre p.number u w → AllOn K (remove xs j) w
  end_all j p w all at others i r found here there =
      let was = was_elsewhere xs j i r here in
      stays was.0 r found was.1 (sym (others r.pre r.number (λ k m. was.2 (once was.0 j r p was.1 at k m))) ∙ there) (all was.0 was.2)

  pub turn_all : (ys : List Pass) (w : UnderWay)
      → ((p : Pass) (own : PassState) → p.bit ≡ g.bit → p.version ≡ g.version → Q p → Enters g p own → K p own)
      → ((j : ℕ) (p : Pass) (before after : PassState) → slice_get xs j ≡ Some p → passes_of p.pre u p.number ≡ Some before → Q p → HasGoneOn (staging p.pre g.code) g.tables before after → K (less p) after)
      → PassMove g free Q xs ys u w → AllOn K ys w
  turn_all ys w comes moves (Stay all same as_before) =
      subst (λ l. AllOn K l w) (sym same) (λ j p own here there. stays j p own here (sym (as_before p.pre p.number) ∙ there) (all j p here))
  turn_all ys w comes moves (Come all p own same bit version q others none there enters) =
      subst (λ l. AllOn K l w) (sym same)
      (come_all p w all others none (λ found at. subst (K p) (same_Some _ _ (sym there ∙ at)) (comes p own bit version q enters)))
  turn_all ys w comes moves (Move j all p before after here more same q others was there gone) =
      subst (λ l. AllOn K l w) (sym same)
      (move_all j p (less p) w all here others (λ found at. subst (K (less p)) (same_Some _ _ (sym there ∙ at)) (moves j p before after here was q gone)))
  turn_all ys w comes moves (End j all p here same others none) = subst (λ l. AllOn K l w) (sym same) (end_all j p w all here others)
