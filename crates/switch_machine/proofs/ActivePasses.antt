-- Passes under way, by their numbers.
use Rattle.std.proofs.Common.{◌≡◌, ◌∙◌, ℕ, suc, ◌==◌, Bool, true, false, cond, List, [], length, Option, Some, None, Result, Ok, Err, refl, sym, ap, subst, arith, inl, inr}
use Rattle.std.specs.Prelude.{nat_lt, OnErr, OnOk}
use Rattle.std.specs.BTreeMap.{BTreeMap, get, is_at}
use Rattle.std.specs.Map.{lookup}
use Rattle.std.specs.Option.{option_map}
use Rattle.std.specs.Ordering.{is_eq, nat_cmp}
use Rattle.std.specs.declared.cmp.Ordering.TheVariants.{Equal, Greater, Less}
use Rattle.std.proofs.lemmas.Bool.{cases_Bool, cond-false, cond-true, cond_both, eqb-true, ltb-true, ne_eqb}
use Rattle.std.proofs.lemmas.Option.{same_Some, none-some}
use Rattle.packet_fields.specs.declared.packet.Packet.{Packet}
use Rattle.flat_ir.specs.Blocks.{Reading}
use Rattle.flat_ir.specs.Plan.{RegisterPlan}
use Rattle.transfer_header.specs.Registers.{ArePlaced, Registers}
use Rattle.switch_ir.specs.Staged.{last_numbers, IsEntered, IsStaged, Staging}
use Rattle.switch_ir.specs.Tables.{seen_tables, view_of, Told}
use Rattle.switch_ir.specs.UnderWay.{EndsWith, HasEntered, HasGoneOn, PassState, ToldPass}
use Rattle.switch_machine.specs.declared.active_pass.ActivePass.{ActivePass}
use Rattle.switch_machine.specs.declared.numbering.ValueRange.{ValueRange}
use Rattle.switch_machine.specs.ActivePasses.{active_in, numbers_in, packet_in, with_pass, AreActivePasses, IsBegun, IsActivePass, NumberedActivePasses}
use Rattle.switch_machine.specs.Ready.{all_placed}
use Rattle.switch_machine.specs.UnderWay.{held, passes_by, shown}
use Rattle.switch_machine.proofs.PlacedSteps.{numbers_placed, plan_placed}

-- ## The map

same_test : (b : Bool) → is_eq (cond b Equal Greater) ≡ b
same_test true = refl
same_test false = refl

at_number : (n m : ℕ) → is_at (nat_cmp n) m ≡ (n == m)
at_number n m = elim (cases_Bool (nat_lt n m)) [
  | inl less ↦ ap is_eq (cond-true (nat_lt n m) Less (cond (n == m) Equal Greater) less) ∙ sym (ne_eqb n m (λ same. omega (arith, same, ltb-true n m less)))
  | inr more ↦ ap is_eq (cond-false (nat_lt n m) Less (cond (n == m) Equal Greater) more) ∙ same_test (n == m)
]

-- a map that was changed at a number
pub with_update : (old new : BTreeMap ℕ ActivePass) (n : ℕ) (o : Option ActivePass)
    → ((m : ℕ) → get nat_cmp new m ≡ cond (is_at (nat_cmp n) m) o (get nat_cmp old m)) → active_in new ≡ with_pass n o (active_in old)
with_update old new n o h = λ i m. (h m ∙ ap (λ b. cond b o (get nat_cmp old m)) (at_number n m)) i

-- what was put in where nothing was, and is taken out again
pub put_and_taken : {X : Type 0} (fs gs hs : ℕ → Option X) (n : ℕ) (g : X) → fs n ≡ None → gs ≡ with_pass n (Some g) fs → hs ≡ with_pass n None gs → hs ≡ fs
put_and_taken {X} fs gs hs n g none put taken = λ i m. one m i
  where
    back : (b : Bool) (o : Option X) → (b ≡ true → o ≡ None) → cond b None (cond b (Some g) o) ≡ o
    back true o none_there = sym (none_there refl)
    back false o none_there = refl

    one : (m : ℕ) → hs m ≡ fs m
    one m =
        (λ i. taken i m)
        ∙ ap (λ (x : Option X). cond (n == m) None x) (λ i. put i m)
        ∙ back (n == m) (fs m) (λ same. subst (λ k. fs k ≡ None) (eqb-true n m same) none)

-- a map without entries
pub none_in : (map : BTreeMap ℕ ActivePass) → map.entries ≡ [] → (n : ℕ) → active_in map n ≡ None
none_in map e n = λ i. lookup (is_at (nat_cmp n)) (e i)

map_chosen : {X Y : Type 0} (f : X → Y) (b : Bool) (o p : Option X) → option_map f (cond b o p) ≡ cond b (option_map f o) (option_map f p)
map_chosen f true o p = refl
map_chosen f false o p = refl

-- ## What holds of passes after a change

pub changed_active : (stages count : ℕ) (fs gs : NumberedActivePasses) (n : ℕ) (o : Option ActivePass) → gs ≡ with_pass n o fs
    → ((f : ActivePass) → o ≡ Some f → IsActivePass stages count f) → AreActivePasses stages count fs → AreActivePasses stages count gs
changed_active stages count fs gs n o is own all m f there =
    cond_both (n == m) o (fs m) (λ r. r ≡ Some f → IsActivePass stages count f) (λ _. own f) (λ _. all m f) (ap (λ (g : NumberedActivePasses). g m) (sym is) ∙ there)

pub put_active : (stages count : ℕ) (fs gs : NumberedActivePasses) (n : ℕ) (g : ActivePass) → gs ≡ with_pass n (Some g) fs
    → IsActivePass stages count g → AreActivePasses stages count fs → AreActivePasses stages count gs
put_active stages count fs gs n g is active_pass = changed_active stages count fs gs n (Some g) is (λ f e. subst (IsActivePass stages count) (same_Some g f e) active_pass)

pub removed_active : (stages count : ℕ) (fs gs : NumberedActivePasses) (n : ℕ) → gs ≡ with_pass n None fs
    → AreActivePasses stages count fs → AreActivePasses stages count gs
removed_active stages count fs gs n is = changed_active stages count fs gs n None is (λ f e. absurd (none-some f e))

-- what was to be put in
pub tried_active : {X E : Type 0} (stages count : ℕ) (fs gs : NumberedActivePasses) (n : ℕ) (g : ActivePass) (r : Result X E) → OnOk r (gs ≡ with_pass n (Some g) fs) → OnErr r (gs ≡ fs)
    → IsActivePass stages count g → AreActivePasses stages count fs → AreActivePasses stages count gs
tried_active stages count fs gs n g (Ok x) put stays active_pass all = put_active stages count fs gs n g put active_pass all
tried_active stages count fs gs n g (Err e) put stays active_pass all = subst (AreActivePasses stages count) (sym stays) all

-- ## What is told of them

module _ (p : Staging) (ranges : List ValueRange) (plan : Option RegisterPlan) where
  pub passes_changed : (fs gs : NumberedActivePasses) (n : ℕ) (o : Option ActivePass) → gs ≡ with_pass n o fs
      → passes_by p ranges plan gs ≡ with_pass n (option_map (shown p ranges plan) o) (passes_by p ranges plan fs)
  passes_changed fs gs n o is = λ i m. one m i
    where
      one : (m : ℕ) → passes_by p ranges plan gs m ≡ with_pass n (option_map (shown p ranges plan) o) (passes_by p ranges plan fs) m
      one m = ap (λ (g : NumberedActivePasses). option_map (shown p ranges plan) (g m)) is ∙ map_chosen (shown p ranges plan) (n == m) o (fs m)

  pub shown_as : (fs : NumberedActivePasses) (n : ℕ) (f : ActivePass) (pass : PassState) → fs n ≡ Some f → passes_by p ranges plan fs n ≡ Some pass
      → shown p ranges plan f ≡ pass
  shown_as fs n f pass there told = same_Some (shown p ranges plan f) pass (sym (ap (option_map (shown p ranges plan)) there) ∙ told)

  -- one that began is told as one that entered
  pub entered_as : (given : Reading) (packet : Packet) (told : Told) (numbers : List ℕ) (f : ActivePass) → IsBegun packet told.bit numbers f
      → IsEntered p given (seen_tables told) packet (numbers_in p ranges 0 (held plan f))
      → HasEntered p (λ other. other ≡ given) packet (Some told) (shown p ranges plan f)
  entered_as given packet told numbers f begun entered =
      record {
        packet = begun.packet_is;
        stage = begun.stage_is;
        told = (
          record { bit = f.bit; numbers = numbers_in p ranges f.stage (held plan f) },
          refl,
          begun.bit_is,
          λ other is. rw (is, begun.bit_is, begun.stage_is) entered,
        );
      }

  -- one that took a stage is told as one that went on
  pub gone_as : (told : Told) (f g : ActivePass) → packet_in g ≡ packet_in f → g.bit ≡ f.bit → g.stage ≡ suc f.stage
      → IsStaged p (suc f.stage) (numbers_in p ranges f.stage (held plan f)) (view_of f.bit told.pairs) (packet_in f) (numbers_in p ranges (suc f.stage) (held plan g))
      → HasGoneOn p (Some told) (shown p ranges plan f) (shown p ranges plan g)
  gone_as told f g packet bit stage staged = record {
    packet = packet;
    stage = stage;
    told = (
      record { bit = g.bit; numbers = numbers_in p ranges g.stage (held plan g) },
      refl,
      bit,
      rw stage staged,
    );
  }

  -- how one ends that is told
  pub ended_as : (told : Told) (f : ActivePass) (before : PassState) (IsAnswer : PassState → Reading → Type 0) → shown p ranges plan f ≡ before
      → IsAnswer (shown p ranges plan f) (last_numbers p (suc f.stage) (numbers_in p ranges f.stage (held plan f)) (view_of f.bit told.pairs) (packet_in f))
      → EndsWith p (Some told) before (IsAnswer before)
  ended_as told f before IsAnswer before_is h tables own told_is own_is =
      let own_eq = same_Some (record { bit = f.bit; numbers = numbers_in p ranges f.stage (held plan f) }) own (ap (λ (b : PassState). b.told) before_is ∙ own_is) in
      let Ended : PassState × ToldPass × Told → Type 0 =
      λ (b, o, t). IsAnswer b (last_numbers p (suc b.stage) o.numbers (view_of o.bit t.pairs) b.packet) in
      subst Ended (λ i. (before_is i, own_eq i, same_Some told tables told_is i)) h

-- ## A pass in registers of its own

-- the registers once a stage is written
pub held_placed : (plan : Option RegisterPlan) (f g : ActivePass) (pairs : List (ℕ × ℕ)) → g.registers.numbers ≡ (all_placed f.registers pairs).numbers
    → held plan g ≡ all_placed (held plan f) pairs
held_placed plan f g pairs is = λ i. record {
  plan = sym (plan_placed (held plan f) pairs) i;
  numbers = (is ∙ numbers_placed f.registers (held plan f) pairs refl) i;
}

pub placed_as : (one other : Registers) → other.plan ≡ one.plan → length other.numbers ≡ length one.numbers → ArePlaced one → ArePlaced other
placed_as one other plan count placed = rw (plan, count) placed

-- the pass of a number is one
pub same_active_pass : (fs : NumberedActivePasses) (n : ℕ) (f g : ActivePass) → fs n ≡ Some f → fs n ≡ Some g → (P : ActivePass → Type 0) → P f → P g
same_active_pass fs n f g there here P h = subst P (same_Some f g (sym there ∙ here)) h
