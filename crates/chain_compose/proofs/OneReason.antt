-- There is one reason at most, want of memory aside.
use Rattle.std.proofs.Common.{◌≡◌, ◌≢◌, ◌≤◌, min, ◌⊎◌, inl, inr, ℕ, zero, suc, refl, sym, ap, ◌∙◌, arith}
use Rattle.element_lang.specs.Tree.{Tree}
use Rattle.element_chain.specs.Chain.{Connected}
use Rattle.element_chain.specs.Compose.{composed}
use Rattle.chain_compose.specs.declared.error.ComposeError.{ComposeError}
use Rattle.chain_compose.specs.declared.error.ComposeError.TheVariants.{Byte, Repeat, Statements, TooLarge, NoMemory}
use Rattle.chain_compose.specs.declared.error.What.{What}
use Rattle.chain_compose.specs.declared.error.What.TheVariants.{Objects, Entries, Writes, Depth, Bytes}
use Rattle.chain_compose.specs.Refusals.{IsFirst, amount, allowed, order, IsTooLarge, IsRefused, IsUnrefused, IsLargeRefusal, IsSizeRefusal, statements_in, most_statements}
use Rattle.lemmas.proofs.Numbers.{below_same_above}

first_same : (P : ℕ → Type 0) (a b : ℕ) → IsFirst P a → IsFirst P b → a ≡ b
first_same P a b h k = elim (below_same_above a b) [ inl low ↦ absurd (k.none a low h.here) | inr rest ↦ elim rest [ inl same ↦ same | inr high ↦ absurd (h.none b high k.here) ] ]

abbrev what_of : ℕ → What
what_of zero = Objects
what_of (suc zero) = Entries
what_of (suc (suc zero)) = Writes
what_of (suc (suc (suc zero))) = Depth
what_of (suc (suc (suc (suc n)))) = Bytes

told_by_order : (what : What) → what_of (order what) ≡ what
told_by_order Objects = refl
told_by_order _ = refl

too_much : (m : Tree) (what : What) (have most : ℕ) → IsTooLarge m what have most → amount what m ≤ allowed what → ⊥
too_much m what have most large keeps = absurd (omega (arith, large.count, large.limit, large.above, keeps))

same_what : (m : Tree) (what other : What) (have most have' most' : ℕ) → IsTooLarge m what have most → IsTooLarge m other have' most' → order what ≡ order other
same_what m what other have most have' most' h k = elim (below_same_above (order what) (order other)) [
  | inl low ↦ absurd (too_much m what have most h (k.first what low))
  | inr rest ↦ elim rest [ inl same ↦ same | inr high ↦ absurd (too_much m other have' most' k (h.first other high)) ]
]

same_large : (m : Tree) (what other : What) (have most have' most' : ℕ) → IsTooLarge m what have most → IsTooLarge m other have' most' → TooLarge other have' most' ≡ TooLarge what have most
same_large m what other have most have' most' h k =
    let what_is : other ≡ what = sym (told_by_order other) ∙ ap what_of (sym (same_what m what other have most have' most' h k)) ∙ told_by_order what in
    let have_is : have' ≡ have = k.count ∙ ap (λ (w : What). min (amount w m) 18446744073709551615) what_is ∙ sym h.count in
    let most_is : most' ≡ most = k.limit ∙ ap allowed what_is ∙ sym h.limit in
    ap (λ (w : What). TooLarge w have' most') what_is ∙ ap (λ (n : ℕ). TooLarge what n most') have_is ∙ ap (TooLarge what have) most_is

pub one_reason : (c : Connected) (e found : ComposeError) → e ≢ NoMemory → IsRefused c e → IsRefused c found → (found ≡ e) ⊎ (found ≡ NoMemory)
one_reason c e NoMemory some h k = inr refl
one_reason c NoMemory found some h k = absurd (some refl)
one_reason c (Byte a) (Byte b) some h k = inl (ap Byte (sym (first_same _ a b h k)))
one_reason c (Byte a) (Repeat b) some h k = absurd (k.0 a h.here)
one_reason c (Byte a) Statements some h k = absurd (k.0.reads a h.here)
one_reason c (Byte a) (TooLarge what have most) some h k = absurd (k.0.placed.reads a h.here)
one_reason c (Repeat a) (Byte b) some h k = absurd (h.0 b k.here)
one_reason c (Repeat a) (Repeat b) some h k = inl (ap Repeat (sym (first_same _ a b h.1 k.1)))
one_reason c (Repeat a) Statements some h k = absurd (k.0.repeats a h.1.here)
one_reason c (Repeat a) (TooLarge what have most) some h k = absurd (k.0.placed.repeats a h.1.here)
one_reason c Statements (Byte b) some h k = absurd (h.0.reads b k.here)
one_reason c Statements (Repeat b) some h k = absurd (h.0.repeats b k.1.here)
one_reason c Statements Statements some h k = inl refl
one_reason c Statements (TooLarge what have most) some h k = absurd (omega (arith, h.1, k.0.few))
one_reason c (TooLarge what have most) (Byte b) some h k = absurd (h.0.placed.reads b k.here)
one_reason c (TooLarge what have most) (Repeat b) some h k = absurd (h.0.placed.repeats b k.1.here)
one_reason c (TooLarge what have most) Statements some h k = absurd (omega (arith, k.1, h.0.few))
one_reason c (TooLarge what have most) (TooLarge what' have' most') some h k = inl (same_large (composed c) what what' have most have' most' h.1 k.1)

-- where there is none
pub no_reason : (c : Connected) (e : ComposeError) → IsUnrefused c → IsRefused c e → e ≡ NoMemory
no_reason c (Byte a) none h = absurd (none.few.placed.reads a h.here)
no_reason c (Repeat a) none h = absurd (none.few.placed.repeats a h.1.here)
no_reason c Statements none h = absurd (omega (arith, h.1, none.few.few))
no_reason c (TooLarge what have most) none h = absurd (too_much (composed c) what have most h.1 (none.sizes what))
no_reason c NoMemory none h = refl

pub size_refused : (m : Tree) (e : ComposeError) → statements_in m.body ≤ most_statements → IsSizeRefusal m e → IsLargeRefusal m e
size_refused m (TooLarge what have most) few h = (few, h)
size_refused m NoMemory few h = tt
size_refused m _ few h = absurd h
