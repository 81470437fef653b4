-- What a value that is there says of those that it is made of.
use Rattle.std.proofs.Common.{◌≡◌, Bool, true, false, Option, Some, None, is_some, option_map, option_and_then, refl, sym, ap, ◌∙◌}
use Rattle.std.specs.Prelude.{IsSome}
use Rattle.std.proofs.lemmas.Bool.{false≢true}
use Rattle.element_text.specs.Resolve.{when}
use Rattle.element_text.proofs.Optional.{bound_is}

-- the first link of a chain, and the next, where the first is known
pub first_link : {A B : Type 0} (o : Option A) (f : A → Option B) → IsSome (option_and_then f o) → IsSome o
first_link None f e = e
first_link (Some x) f e = refl

pub next_link : {A B : Type 0} (o : Option A) (f : A → Option B) (x : A) → o ≡ Some x → IsSome (option_and_then f o) → IsSome (f x)
next_link o f x is e = ap (λ p. is_some (option_and_then f p)) (sym is) ∙ e

-- under a function
pub mapped : {A B : Type 0} (o : Option A) (f : A → B) → IsSome (option_map f o) → IsSome o
mapped None f e = e
mapped (Some x) f e = refl

-- a test that lets a value through, and that value
pub test_holds : {A : Type 0} (b : Bool) (o : Option A) → IsSome (when b o) → b ≡ true
test_holds true o e = refl
test_holds false o e = absurd (false≢true e)

pub test_there : {A : Type 0} (b : Bool) (o : Option A) → IsSome (when b o) → IsSome o
test_there true o e = e
test_there false o e = absurd (false≢true e)

-- what such a chain and such a test give
pub chain_is : {A B : Type 0} (o : Option A) (f : A → Option B) (x : A) (y : Option B) → o ≡ Some x → (IsSome (f x) → f x ≡ y) → IsSome (option_and_then f o) → option_and_then f o ≡ y
chain_is o f x y is k e = bound_is o f x y is (k (next_link o f x is e))

pub tested_is : {A : Type 0} (b : Bool) (o y : Option A) → o ≡ y → IsSome (when b o) → when b o ≡ y
tested_is true o y is e = is
tested_is false o y is e = absurd (false≢true e)
