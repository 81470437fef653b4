-- Why the split that a file spells isn't taken: for one cause, and not where it is.
use Rattle.std.proofs.Common.{◌≡◌, ◌≤◌, ◌<◌, ◌∙◌, ℕ, suc, List, length, Option, refl, sym, ap, subst, inl, inr, arith}
use Rattle.std.proofs.lemmas.Bool.{cases_lt, true≢false}
use Rattle.flat_ir.specs.Program.{Program}
use Rattle.resource_limits.proofs.Laws.{kept_limits_are_not_exceeded}
use Rattle.split_validate.proofs.Laws.{a_text_is_of_one_split, one_line_is_first_wrong}
use Rattle.split_model.specs.declared.split.Part.{Part}
use Rattle.split_model.specs.Legal.{IsLegal, IsFirstBroken}
use Rattle.split_validate.specs.SplitLines.{IsSplitText, IsRefused}
use Rattle.split_validate.specs.declared.reading.SplitTextError.TheVariants as errors
use Rattle.resource_limits.specs.declared.limits.Limits.{Limits as Allowed}
use Rattle.resource_limits.specs.declared.exceeding.Over.{Over}
use Rattle.resource_limits.specs.Counts.{counts_of}
use Rattle.resource_limits.specs.Kept.{first_excess}
use Rattle.gallium_cli.specs.declared.refusal.Refusal.{Refusal}
use Rattle.gallium_cli.specs.declared.refusal.Refusal.TheVariants.{Split, Exceeded}
use Rattle.gallium_cli.specs.declared.refusal.SplitFault.TheVariants.{Line, Rule}
use Rattle.gallium_cli.specs.Lines.{status_of}
use Rattle.gallium_cli.specs.Roles.{legal_split, IsSpelled}
use Rattle.gallium_cli.specs.Splits.{IsUnkept, excess_of}
use Rattle.gallium_cli.specs.Promises.{IsStatusOf}
use Rattle.gallium_cli.proofs.Told.{no_some, one_some}

-- ## Rules

-- the lowest broken rule, and where it is broken first
neither_below : (a b : ℕ) → (a < b → ⊥) → (b < a → ⊥) → a ≡ b
neither_below a b one two = elim (cases_lt a b) [
  | inl low ↦ absurd (one low)
  | inr high ↦ elim (cases_lt b a) [ inl low ↦ absurd (two low) | inr same ↦ omega arith ]
]

one_rule : (f : Program) (split : List Part) (rule i other j : ℕ) → IsFirstBroken f split rule i
    → IsFirstBroken f split other j → rule ≡ other
one_rule f split rule i other j one two =
    neither_below rule other (λ low. true≢false (sym one.broken ∙ two.lowest rule i low one.within))
    (λ low. true≢false (sym two.broken ∙ one.lowest other j low two.within))

one_place : (f : Program) (split : List Part) (rule i j : ℕ) → IsFirstBroken f split rule i
    → IsFirstBroken f split rule j → i ≡ j
one_place f split rule i j one two =
    neither_below i j (λ low. true≢false (sym one.broken ∙ two.first i low))
    (λ low. true≢false (sym two.broken ∙ one.first j low))

one_broken : (f : Program) (split : List Part) (rule i other j : ℕ) → IsFirstBroken f split rule i
    → IsFirstBroken f split other j → Split (Rule rule i) ≡ Split (Rule other j)
one_broken f split rule i other j one two =
    let rules = one_rule f split rule i other j one two in
    let places = one_place f split other i j (subst (λ (r : ℕ). IsFirstBroken f split r i) rules one) two in
    ap (λ (r : ℕ). Split (Rule r i)) rules ∙ ap (λ (k : ℕ). Split (Rule other k)) places

-- a legal split breaks none
legal_unbroken : (f : Program) (split : List Part) (rule i : ℕ) → IsLegal f split → IsFirstBroken f split rule i → ⊥
legal_unbroken f split rule i legal broken = true≢false (sym broken.broken ∙ legal.kept rule i broken.within)

-- ## One split of a text

same_split : (f : Program) (text : List ℕ) (split other : List Part) → length f.code ≤ 4096
    → IsSplitText (length f.code) text split → IsSplitText (length f.code) text other → other ≡ split
same_split f text split other few one two = a_text_is_of_one_split (length f.code) text split other (omega arith) one two

-- a text that is refused at a line is of no split
line_unspelled : (f : Program) (text : List ℕ) (number : ℕ) (split : List Part)
    → IsRefused (length f.code) text (errors.Line number) → IsSplitText (length f.code) text split → ⊥
line_unspelled f text number split (before, is, first) spelled = first.none split spelled

-- the split of a text that breaks a rule isn't legal
broken_unspelled : (f : Program) (text : List ℕ) (rule i : ℕ) (split other : List Part) → length f.code ≤ 4096
    → IsSplitText (length f.code) text split → IsFirstBroken f split rule i
    → IsSplitText (length f.code) text other → IsLegal f other → ⊥
broken_unspelled f text rule i split other few spelled broken there legal =
    let same = same_split f text split other few spelled there in
    legal_unbroken f split rule i (subst (λ (s : List Part). IsLegal f s) same legal) broken

-- ## One cause

lines_are : (a b : ℕ) (before before' : ℕ) → errors.Line a ≡ errors.Line (suc before)
    → errors.Line b ≡ errors.Line (suc before') → before ≡ before' → Split (Line a) ≡ Split (Line b)
lines_are a b before before' one two same =
    let first : a ≡ suc before = cc in
    let second : b ≡ suc before' = cc in
    let numbers : a ≡ b = omega arith in
    ap (λ (n : ℕ). Split (Line n)) numbers

pub one_unkept : (cause other : Refusal) (f : Program) (allowed : Allowed) (text : List ℕ)
    → length f.code ≤ 4096 → IsUnkept cause f allowed text → IsUnkept other f allowed text → cause ≡ other
one_unkept (Split (Line a)) (Split (Line b)) f allowed text few (before, is, first) (before', is', first') =
    lines_are a b before before' is is' (one_line_is_first_wrong (length f.code) _ before before' first first')
one_unkept (Split (Line a)) (Split (Rule rule i)) f allowed text few one (split, spelled, broken) =
    absurd (line_unspelled f text a split one spelled)
one_unkept (Split (Line a)) (Exceeded excess) f allowed text few one (split, over, spelled, exceeding, is) =
    absurd (line_unspelled f text a split one spelled)
one_unkept (Split (Rule rule i)) (Split (Line b)) f allowed text few (split, spelled, broken) two =
    absurd (line_unspelled f text b split two spelled)
one_unkept (Split (Rule rule i)) (Split (Rule other j)) f allowed text few (split, spelled, broken) (split', spelled', broken') =
    let same = same_split f text split split' few spelled spelled' in
    one_broken f split rule i other j broken (subst (λ (s : List Part). IsFirstBroken f s other j) same broken')
one_unkept (Split (Rule rule i)) (Exceeded excess) f allowed text few (split, spelled, broken) (split', over, spelled', exceeding, is) =
    absurd (broken_unspelled f text rule i split split' few spelled broken spelled' exceeding.legal)
one_unkept (Exceeded excess) (Split (Line b)) f allowed text few (split, over, spelled, exceeding, is) two =
    absurd (line_unspelled f text b split two spelled)
one_unkept (Exceeded excess) (Split (Rule other j)) f allowed text few (split, over, spelled, exceeding, is) (split', spelled', broken') =
    absurd (broken_unspelled f text other j split' split few spelled' broken' spelled exceeding.legal)
one_unkept (Exceeded excess) (Exceeded excess') f allowed text few (split, over, spelled, exceeding, is) (split', over', spelled', exceeding', is') =
    let same = same_split f text split split' few spelled spelled' in
    let first : List Part → Option Over = λ (s : List Part). first_excess (counts_of f s allowed.writeback) allowed in
    let overs = one_some (first split) over over' exceeding.first (sym (ap first same) ∙ exceeding'.first) in
    ap Exceeded (is ∙ ap (excess_of f.objects) overs ∙ sym is')
one_unkept (Split (Line a)) _ f allowed text few one two = absurd two
one_unkept (Split (Rule rule i)) _ f allowed text few one two = absurd two
one_unkept (Exceeded excess) _ f allowed text few one two = absurd two
one_unkept _ other f allowed text few one two = absurd one

-- ## Bad texts

-- a split that isn't taken is none that may be
pub untaken : (cause : Refusal) (f : Program) (allowed : Allowed) (text : List ℕ) → length f.code ≤ 4096
    → IsUnkept cause f allowed text → IsSpelled (legal_split f allowed) text → ⊥
untaken (Split (Line number)) f allowed text few why (split, spelled, accepted) =
    line_unspelled f text number split why spelled
untaken (Split (Rule rule i)) f allowed text few (split', spelled', broken) (split, spelled, accepted) =
    broken_unspelled f text rule i split' split few spelled' broken spelled accepted.legal
untaken (Exceeded excess) f allowed text few (split', over, spelled', exceeding, is) (split, spelled, accepted) =
    let same = same_split f text split' split few spelled' spelled in
    let first : List Part → Option Over = λ (s : List Part). first_excess (counts_of f s allowed.writeback) allowed in
    no_some (first split') over
    (sym (ap first same) ∙ (kept_limits_are_not_exceeded (counts_of f split allowed.writeback) allowed).1 accepted.keeps)
    exceeding.first
untaken _ f allowed text few why spelled = absurd why

-- its status, by its cause
pub cause_split : (cause : Refusal) (f : Program) (allowed : Allowed) (text : List ℕ) → length f.code ≤ 4096
    → IsUnkept cause f allowed text → IsStatusOf (status_of cause) (legal_split f allowed) text
cause_split (Split (Line number)) f allowed text few why =
    inl (refl, λ legal. line_unspelled f text number legal.0 why legal.1)
cause_split (Split (Rule rule i)) f allowed text few why =
    inl (refl, λ legal. broken_unspelled f text rule i why.0 legal.0 few why.1 why.2 legal.1 legal.2)
cause_split (Exceeded excess) f allowed text few why = inr (refl, (why.0, why.2, why.3.legal))
cause_split _ f allowed text few why = absurd why
