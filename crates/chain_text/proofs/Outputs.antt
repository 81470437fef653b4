-- The set of outputs behind one more.
use Rattle.std.proofs.Common.{◌≡◌, ℕ, ◌==◌, ◌&&◌, ◌||◌, Bool, true, false, cond, refl, ap, ap₂, ◌∙◌, arith}
use Rattle.std.specs.Ordering.{nat_cmp, ordering_then, is_eq}
use Rattle.std.specs.declared.cmp.Ordering.{Ordering}
use Rattle.std.specs.declared.cmp.Ordering.TheVariants.{Less}
use Rattle.std.specs.BTreeSet.{BTreeSet, Updates}
use Rattle.std.proofs.lemmas.Bool.Decides.{nat_tests}
use Rattle.chain_text.specs.Built.{output_cmp, is_output}

eq_then : (p q : Ordering) → is_eq (ordering_then p q) ≡ (is_eq p && is_eq q)
eq_then Less q = refl
eq_then _ q = refl

eq_cmp : (a b : ℕ) → is_eq (nat_cmp a b) ≡ (a == b)
eq_cmp a b = grind (arith, nat_tests)

cond_or : (b x : Bool) → cond b true x ≡ (b || x)
cond_or true x = refl
cond_or false x = refl

pub inserted : (old new : BTreeSet (ℕ × ℕ)) (n m output : ℕ) → n ≡ m → Updates output_cmp old new (n, output) true
    → (e o : ℕ) → is_output new e o ≡ (m == e && output == o || is_output old e o)
inserted old new n m output same h e o =
    let at : is_eq (ordering_then (nat_cmp n e) (nat_cmp output o)) ≡ (m == e && output == o) =
    eq_then (nat_cmp n e) (nat_cmp output o) ∙ ap₂ (λ x y. x && y) (eq_cmp n e ∙ ap (λ k. k == e) same) (eq_cmp output o) in
    h.0 (e, o) ∙ cond_or (is_eq (ordering_then (nat_cmp n e) (nat_cmp output o))) (is_output old e o) ∙ ap (λ b. b || is_output old e o) at
