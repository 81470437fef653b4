-- What holds of tests, of orderings and of options.
use Rattle.std.proofs.Common.{Bool, None, Option, Some, T, ap, arith, cond, false, is_some, not, refl, sym, true, ℕ, ◌&&◌, ◌||◌, ◌∙◌, ◌≡◌, ◌≤◌}
use Rattle.std.proofs.lemmas.Bool.{and_parts, false≢true, true≢false}
use Rattle.std.specs.Ordering.{is_eq, is_lt}
use Rattle.std.specs.Prelude.{IsSome, T, if◌then◌else◌, not}
use Rattle.std.specs.declared.cmp.Ordering.{Ordering}
use Rattle.std.specs.declared.cmp.Ordering.TheVariants.{Equal, Less}

pub and_second : (a b : Bool) → (a && b) ≡ true → b ≡ true
and_second a b h = (and_parts a b h).1

pub and_first : (a b : Bool) → (a && b) ≡ true → a ≡ true
and_first a b h = (and_parts a b h).0

pub eq_equal : (o : Ordering) → is_eq o ≡ true → o ≡ Equal
eq_equal Equal e = refl
eq_equal _ e = absurd (cc)

pub or_assoc : (a b c : Bool) → ((a || b) || c) ≡ (a || (b || c))
or_assoc true b c = refl
or_assoc false b c = refl

pub or_false : (b : Bool) → (b || false) ≡ b
or_false true = refl
or_false false = refl

pub true_not_false : true ≡ false → ⊥
true_not_false e = cc

pub same_tests : (a b : Bool) → (a ≡ true → b ≡ true) → (b ≡ true → a ≡ true) → a ≡ b
same_tests true b p q = sym (p refl)
same_tests false true p q = q refl
same_tests false false p q = refl

pub T_first : (a b : Bool) → T (a && b) → T a
T_first true b h = tt
T_first false b h = h

pub T_second : (a b : Bool) → T (a && b) → T b
T_second true b h = h
T_second false b h = absurd h

pub and_false : (b : Bool) → (b && false) ≡ false
and_false true = refl
and_false false = refl

pub less_not_equal : (o : Ordering) → T (is_lt o) → is_eq o ≡ false
less_not_equal Less h = refl
less_not_equal _ h = absurd h

pub some_of_cond : {A P : Type 0} (t : Bool) (x : A) (o : Option A) → cond t o None ≡ Some x → (t ≡ true → o ≡ Some x → P) → P
some_of_cond true x o h k = k refl h
some_of_cond false x o h k = cc

pub or_true : (b : Bool) → (b || true) ≡ true
or_true true = refl
or_true false = refl

pub and_true : (b : Bool) → (b && true) ≡ b
and_true true = refl
and_true false = refl

pub if_within : (fine : Bool) (n most : ℕ) → n ≤ most → (if fine then n else 0) ≤ most
if_within true n most h = h
if_within false n most h = omega arith

pub not_both : (b : Bool) → not b ≡ true → b ≡ true → ⊥
not_both b other is = false≢true (sym (ap not is) ∙ other)

pub true_of_and_not : (a b : Bool) → (a && not b) ≡ false → a ≡ true → b ≡ true
true_of_and_not true true e h = refl
true_of_and_not true false e h = absurd (true≢false e)
true_of_and_not false b e h = absurd (false≢true h)

pub false_of_not_and : (whole left : Bool) → (not whole && left) ≡ true → whole ≡ false
false_of_not_and true left e = absurd (true≢false (sym e))
false_of_not_and false left e = refl

pub lt_less : (o : Ordering) → T (is_lt o) → o ≡ Less
lt_less Less p = refl
lt_less _ p = absurd p

pub never_prop : IsProp ⊥
never_prop a b = absurd a

pub some_is : {A : Type 0} (o : Option A) (x : A) → o ≡ Some x → IsSome o
some_is o x e = ap is_some e

pub value_of_some : {A : Type 0} (o : Option A) → IsSome o → (x : A) × (o ≡ Some x)
value_of_some None e = absurd (false≢true e)
value_of_some (Some x) e = (x, refl)
