use Rattle.std.proofs.Common.{◌≡◌, ◌≤◌, ◌<◌, ℕ, zero, suc, List, [], ◌∷◌, Some, length, get_or, ap, sym, ◌∙◌, arith}
use Rattle.std.specs.Prelude.{slice_get}
use Rattle.std.proofs.lemmas.Option.{same_Some}
use Rattle.output_commit.specs.declared.span.Span.{Span}
use Rattle.output_commit.specs.Spans.{bit_of, span_len, total}
use Rattle.output_commit.proofs.place.Place.bit.Goals as goal

len_within : (spans : List Span) (i : ℕ) (s : Span) → slice_get spans i ≡ Some s → span_len s ≤ total spans
len_within [] i s h = cc
len_within (x ∷ xs) zero s h = let e = ap span_len (same_Some _ _ h) in omega arith
len_within (x ∷ xs) (suc i) s h = let r = len_within xs i s h in omega arith

there : (spans : List Span) (i : ℕ) (s : Span) → i < length spans → s ≡ get_or spans i s → slice_get spans i ≡ Some s
there [] i s h e = absurd (omega arith)
there (x ∷ xs) zero s h e = ap Some (sym e)
there (x ∷ xs) (suc i) s h e = there xs i s (omega arith) e

pub has_bit-requires : goal.has_bit-requires
has_bit-requires c =
    let at = there c.args.spans.now c.args.self.now.batch c.in-Some.span.now c.in-Some.ensures.lookup.3.0 c.in-Some.ensures.lookup.1 in
    let within = len_within c.args.spans.now c.args.self.now.batch c.in-Some.span.now at in
    let few = c.requires.few_commands in
    omega arith

pub returns-in-Some : goal.returns-in-Some
returns-in-Some c =
    let at = there c.args.spans.now c.args.self.now.batch c.in-Some.span.now c.in-Some.ensures.lookup.3.0 c.in-Some.ensures.lookup.1 in
    c.has_bit.ensures ∙ ap (λ o. bit_of o c.args.self.now.step) (sym at)
