-- What told files and limits say of the split.
use Rattle.std.proofs.Common.{◌≡◌, ◌∙◌, ℕ, Bool, true, false, List, length, Option, sym, ap, subst}
use Rattle.element_lang.specs.Tree.{Tree}
use Rattle.flat_ir.specs.Program.{Program}
use Rattle.flat_ir.specs.WellFormed.{IsWellFormed}
use Rattle.flatten.specs.Flatten.{flat_of}
use Rattle.split_model.specs.declared.split.Part.{Part}
use Rattle.toml.specs.Data.{Members}
use Rattle.resource_limits.specs.Limits as texts
use Rattle.resource_limits.specs.declared.limits.Limits.{Limits as Allowed}
use Rattle.resource_limits.specs.declared.exceeding.Over.{Over}
use Rattle.resource_limits.specs.Counts.{counts_of}
use Rattle.resource_limits.specs.Kept.{first_excess}
use Rattle.resource_limits.proofs.Laws.{kept_limits_are_not_exceeded}
use Rattle.partition.specs.Choice.{IsChosen, IsRefused, IsUnrefused}
use Rattle.partition.proofs.Laws.{greatest_split_is_one-one}
use Rattle.gallium_cli.specs.declared.refusal.Excess.{Excess}
use Rattle.gallium_cli.specs.declared.refusal.Refusal.{Refusal}
use Rattle.gallium_cli.specs.declared.refusal.Refusal.TheVariants.{Exceeded, NoMemory}
use Rattle.gallium_cli.specs.Lines.{status_of}
use Rattle.gallium_cli.specs.Roles.{legal_split, AreLimits}
use Rattle.gallium_cli.specs.Answers.{IsPlan}
use Rattle.gallium_cli.specs.Splits.{excess_of}
use Rattle.gallium_cli.specs.Causes.{IsOverLimit}
use Rattle.gallium_cli.specs.Promises.{IsToldPlan, IsEarlyFault}
use Rattle.gallium_cli.proofs.Told.{meet, no_some, one_some}

-- ## One split and one refusal

-- where a split is chosen nothing is refused
not_both : (f : Program) (allowed : Allowed) (shrink : Bool) (split : List Part) (over : Over)
    → IsWellFormed f → IsChosen f allowed shrink split
    → IsRefused f allowed shrink over → ⊥
not_both f allowed false split over formed chosen refused =
    let same = greatest_split_is_one-one f (length f.code) true refused.split split formed refused.greatest chosen.greatest in
    let first : List Part → Option Over = λ parts. first_excess (counts_of f parts allowed.writeback) allowed in
    no_some (first split) over ((kept_limits_are_not_exceeded (counts_of f split allowed.writeback) allowed).1 chosen.keeps)
    (sym (ap first same) ∙ refused.exceeds)
not_both f allowed true split over formed chosen refused = refused

-- one limit is the first
one_over : (f : Program) (allowed : Allowed) (shrink : Bool) (over other : Over)
    → IsWellFormed f → IsRefused f allowed shrink over → IsRefused f allowed shrink other → over ≡ other
one_over f allowed false over other formed refused also =
    let same = greatest_split_is_one-one f (length f.code) true also.split refused.split formed also.greatest refused.greatest in
    let first : List Part → Option Over = λ parts. first_excess (counts_of f parts allowed.writeback) allowed in
    one_some (first refused.split) over other refused.exceeds (sym (ap first same) ∙ also.exceeds)
one_over f allowed true over other formed refused also = absurd refused

-- ## One middlebox and one record of limits

equal_limits : (a b : Allowed) → a.table_bits ≡ b.table_bits → a.stages ≡ b.stages → a.writeback ≡ b.writeback
    → a.transfer_bytes ≡ b.transfer_bytes → a ≡ b
equal_limits a b bits stages writeback bytes =
    ap (λ (n : ℕ). record a { table_bits = n }) bits
    ∙ ap (λ (n : ℕ). record a { table_bits = b.table_bits; stages = n }) stages
    ∙ ap (λ (n : ℕ). record a { table_bits = b.table_bits; stages = b.stages; writeback = n }) writeback
    ∙ ap (λ (n : ℕ). record b { transfer_bytes = n }) bytes

one_record : (text : List ℕ) (allowed other : Allowed) → AreLimits text allowed → AreLimits text other → allowed ≡ other
one_record text allowed other one two =
    let same = one_some (texts.document text) one.0.0 two.0.0 one.0.1 two.0.1 in
    let there = subst (λ (table : Members). texts.HasLimits table other) (sym same) two.0.2 in
    equal_limits allowed other
    (one_some _ allowed.table_bits other.table_bits one.0.2.0 there.0)
    (one_some _ allowed.stages other.stages one.0.2.1 there.1)
    (one_some _ allowed.writeback other.writeback one.0.2.2 there.2)
    (one_some _ allowed.transfer_bytes other.transfer_bytes one.0.2.3 there.3)

-- ## The plan that is told, and the one that a call found

record IsSamePlan (m m' : Tree) (allowed allowed' : Allowed) : Type 0 where
  middlebox : m ≡ m'
  limits : allowed ≡ allowed'

same_plan : (told : List ℕ → Option (List ℕ)) (s l : List ℕ) (m m' : Tree) (allowed allowed' : Allowed)
    → IsToldPlan told s l m allowed → IsPlan told s l m' allowed' → IsSamePlan m m' allowed allowed'
same_plan told s l m m' allowed allowed' asked found = record {
  middlebox = (let (text, one, two) = meet _ _ (told s) asked.source found.program.source in two.1.only m one.1);
  limits = (let (text, one, two) = meet _ _ (told l) asked.limits found.limits in one_record text allowed allowed' one.1 two.1);
}

refused_there : (m m' : Tree) (allowed allowed' : Allowed) (shrink : Bool) (over : Over)
    → IsSamePlan m m' allowed allowed' → IsRefused (flat_of m) allowed shrink over
    → IsRefused (flat_of m') allowed' shrink over
refused_there m m' allowed allowed' shrink over same refused =
    subst (λ (n : Tree). IsRefused (flat_of n) allowed' shrink over) same.middlebox
    (subst (λ (a : Allowed). IsRefused (flat_of m) a shrink over) same.limits refused)

-- so what a split text is to spell is one thing
pub same_role : (told : List ℕ → Option (List ℕ)) (s l : List ℕ) (m m' : Tree) (allowed allowed' : Allowed)
    → IsToldPlan told s l m allowed → IsPlan told s l m' allowed'
    → legal_split (flat_of m) allowed ≡ legal_split (flat_of m') allowed'
same_role told s l m m' allowed allowed' asked found =
    let same = same_plan told s l m m' allowed allowed' asked found in
    ap (λ (n : Tree). legal_split (flat_of n) allowed) same.middlebox
    ∙ ap (λ (a : Allowed). legal_split (flat_of m') a) same.limits

-- ## Choosing and refusing exclude each other

-- where the told plan is refused, none was chosen
pub refused_unchosen : (told : List ℕ → Option (List ℕ)) (s l : List ℕ) (shrink : Bool) (m m' : Tree)
    (allowed allowed' : Allowed) (split : List Part) (over : Over) → IsToldPlan told s l m allowed → IsRefused (flat_of m) allowed shrink over
    → IsPlan told s l m' allowed' → IsChosen (flat_of m') allowed' shrink split → ⊥
refused_unchosen told s l shrink m m' allowed allowed' split over asked refused found chosen =
    let same = same_plan told s l m m' allowed allowed' asked found in
    not_both (flat_of m') allowed' shrink split over found.program.bounded.formed chosen
    (refused_there m m' allowed allowed' shrink over same refused)

-- a choice that is open is refused for want of memory alone
pub open_over : (refusal : Refusal) (told : List ℕ → Option (List ℕ)) (s l : List ℕ) (shrink : Bool) (m : Tree)
    (allowed : Allowed) → IsToldPlan told s l m allowed → IsUnrefused (flat_of m) allowed shrink
    → IsOverLimit refusal s l shrink told → IsEarlyFault (status_of refusal)
open_over (Exceeded excess) told s l shrink m allowed asked none (m', allowed', found, (over, refused, is)) =
    let same = same_plan told s l m m' allowed allowed' asked found in
    let back : IsSamePlan m' m allowed' allowed = record { middlebox = sym same.middlebox; limits = sym same.limits } in
    none over (refused_there m' m allowed' allowed shrink over back refused)
open_over NoMemory told s l shrink m allowed asked none over = tt
open_over _ told s l shrink m allowed asked none (m', allowed', found, never) = absurd never

-- where the told plan exceeds a limit first, that one is told
pub same_excess : (excess : Excess) (told : List ℕ → Option (List ℕ)) (s l : List ℕ) (shrink : Bool) (m : Tree)
    (allowed : Allowed) (over : Over) → IsToldPlan told s l m allowed → IsRefused (flat_of m) allowed shrink over
    → IsOverLimit (Exceeded excess) s l shrink told → Exceeded (excess_of m.objects over) ≡ Exceeded excess
same_excess excess told s l shrink m allowed over asked refused (m', allowed', found, (other, also, is)) =
    let same = same_plan told s l m m' allowed allowed' asked found in
    let first = one_over (flat_of m') allowed' shrink over other found.program.bounded.formed
    (refused_there m m' allowed allowed' shrink over same refused) also in
    ap (λ (n : Tree). Exceeded (excess_of n.objects over)) same.middlebox
    ∙ ap (λ (o : Over). Exceeded (excess_of m'.objects o)) first ∙ sym (ap Exceeded is)
