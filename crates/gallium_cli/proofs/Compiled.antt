-- The text that `compile` writes is accepted by `check`.
use Rattle.std.proofs.Common.{◌≡◌, ◌≤◌, ◌⊎◌, ℕ, Bool, List, length, Option, Some, None, IfSome, IsSomeAnd, refl, sym, subst, inl, inr, arith}
use Rattle.std.specs.Prelude.{IsSome}
use Rattle.std.proofs.lemmas.Bool.{cases_lt, true≢false}
use Rattle.element_lang.specs.Accepted.{IsSource}
use Rattle.element_lang.specs.Tree.{Tree}
use Rattle.flatten.specs.Flatten.{flat_of}
use Rattle.split_model.specs.declared.split.Part.{Part}
use Rattle.resource_limits.specs.declared.limits.Limits.{Limits as Allowed}
use Rattle.gallium_cli.specs.declared.status.Status.{Status}
use Rattle.gallium_cli.specs.declared.status.Status.TheVariants as statuses
use Rattle.gallium_cli.specs.Call.{Call}
use Rattle.gallium_cli.specs.Words.{Check}
use Rattle.gallium_cli.specs.Roles.{Role, program, limits, legal_split, size_of, IsSpelled, IsGood, AreLimits, gates_of}
use Rattle.gallium_cli.specs.Answers.{IsChoice, IsCompiled, IsPlan, compiled_text}
use Rattle.gallium_cli.specs.Causes.{EndsFor}
use Rattle.gallium_cli.specs.Promises.{AllOpen, IsCompileText, IsFirstShut, IsRefusedAs, IsToldPlan, IsUnlessFault, WithStatus}
use Rattle.gallium_cli.proofs.Told.{some_then}
use Rattle.gallium_cli.proofs.Exact.{early_is_fault, open_ends, shut_ends}
use Rattle.gallium_cli.proofs.Listed.{compiled_is, source_names}
use Rattle.gallium_cli.proofs.Ranges.{told_in_range}
use Rattle.partition.proofs.Chosen.{few_stages_within_limits}

-- ## Told contents

there : (told : Option (List ℕ)) (P : List ℕ → Type 0) → IsSome told → IfSome told P → IsSomeAnd told P
there None P some h = true≢false (sym some)
there (Some text) P some h = h

some_text : (told : Option (List ℕ)) (P : List ℕ → Type 0) → IsSomeAnd told P → (text : List ℕ) × P text
some_text None P h = absurd h
some_text (Some text) P h = (text, h)

-- the plan that a split was chosen by, where the contents are told
told_plan : (told : List ℕ → Option (List ℕ)) (s l : List ℕ) (m : Tree) (allowed : Allowed) → IsSome (told s)
    → IsSome (told l) → IsPlan told s l m allowed → IsToldPlan told s l m allowed
told_plan told s l m allowed one two plan = record {
  source = some_then _ (λ text. (length text ≤ size_of program) × IsSource text m) (told s)
      (there (told s) _ one plan.program.source) (λ text h. (h.0, h.1.source));
  short = plan.program.bounded.few;
  limits = there (told l) _ two plan.limits;
}

-- ## What a chosen split is told by

choice_spelled : (told : List ℕ → Option (List ℕ)) (s l : List ℕ) (m : Tree) (allowed : Allowed) (shrink : Bool)
    (split : List Part) (writeback : ℕ) → IsToldPlan told s l m allowed → IsChoice (flat_of m) allowed shrink split
    → IsSpelled (legal_split (flat_of m) allowed) (compiled_text (flat_of m) split writeback)
choice_spelled told s l m allowed shrink split writeback plan choice =
    let f = flat_of m in
    let source = some_text (told s) (λ text. (length text ≤ size_of program) × IsSource text m) plan.source in
    let found = some_text (told l) (λ text. (length text ≤ size_of limits) × AreLimits text allowed) plan.limits in
    let ranges = told_in_range found.0 allowed found.1.1.0 in
    let count = choice.legal.count in (
      split,
      compiled_is f split writeback (source_names source.0 m source.1.1) count
          (few_stages_within_limits f allowed split count ranges choice.keeps),
      record { legal = choice.legal; keeps = choice.keeps },
    )

-- the text that a content is to be, and the plan by which it spells a split
record IsSplitFound (told : List ℕ → Option (List ℕ)) (s l : List ℕ) (content : Option (List ℕ)) : Type 0 where
  m : Tree
  allowed : Allowed
  plan : IsToldPlan told s l m allowed
  spelled : IsSomeAnd content (IsSpelled (legal_split (flat_of m) allowed))

split_found : (told : List ℕ → Option (List ℕ)) (s l : List ℕ) (shrink : Bool) (content : Option (List ℕ))
    → IsSome (told s) → IsSome (told l) → IsSomeAnd content (IsCompiled told s l shrink) → IsSplitFound told s l content
split_found told s l shrink None one two h = absurd h
split_found told s l shrink (Some text) one two (m, split, writeback, (allowed, plan, choice, rows), is) =
    let asked = told_plan told s l m allowed one two plan in
    record {
      m = m;
      allowed = allowed;
      plan = asked;
      spelled = subst (IsSpelled (legal_split (flat_of m) allowed)) (sym is)
          (choice_spelled told s l m allowed shrink split writeback asked choice);
    }

-- ## How a check of it ends

-- a text that spells what it is to is good, or too long
good_or_long : (role : Role) (content : Option (List ℕ)) → IsSomeAnd content (IsSpelled role)
    → IsSomeAnd content (IsGood role) ⊎ IsSomeAnd content (IsRefusedAs role statuses.TooLong)
good_or_long role None h = absurd h
good_or_long role (Some text) h = elim (cases_lt (size_of role) (length text)) [
  | inl long ↦ inr (inl (refl, long))
  | inr short ↦ inl (omega arith, h)
]

check_by : (told : List ℕ → Option (List ℕ)) (s l p : List ℕ) → IsSplitFound told s l (told p)
    → AllOpen told (gates_of (Check s l p)) ⊎ IsFirstShut told (gates_of (Check s l p)) (WithStatus statuses.TooLong)
check_by told s l p found =
    let m = found.m in
    let allowed = found.allowed in
    let one : IsSomeAnd (told s) (IsGood program) =
    some_then _ (IsGood program) (told s) found.plan.source (λ text h. (h.0, (m, h.1, found.plan.short))) in
    let two : IsSomeAnd (told l) (IsGood limits) =
    some_then _ (IsGood limits) (told l) found.plan.limits (λ text h. (h.0, (allowed, h.1))) in
    elim (good_or_long (legal_split (flat_of m) allowed) (told p) found.spelled) [
      | inl good ↦ inl (one, (two, ((m, allowed, found.plan, good), tt)))
      | inr long ↦ inr (inr (one, inr (two, inl (m, allowed, found.plan, long))))
    ]

pub compiled_ends : (s l p : List ℕ) (status : Status) (call : Call) → EndsFor (Some (Check s l p)) status call
    → IsCompileText call.work.files.told s l p → (status ≡ statuses.TooLong) ⊎ IsUnlessFault statuses.Done status
compiled_ends s l p status call end text =
    let told = call.work.files.told in
    elim (check_by told s l p (split_found told s l text.shrink (told p) text.source text.limits text.text)) [
      | inl free ↦ inr (open_ends (Check s l p) status call end free)
      | inr shut ↦ elim (shut_ends (WithStatus statuses.TooLong) (Check s l p) status call end shut) [
        | inl is ↦ inl is
        | inr early ↦ inr (inr (early_is_fault status early))
      ]
    ]
