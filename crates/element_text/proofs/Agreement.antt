-- Whether a value is there, told by a test, and what is known of it.
use Rattle.std.proofs.Common.{◌≡◌, Bool, true, false, ◌&&◌, List, [], ◌∷◌, ◌++◌, Option, Some, None, IfSome, is_some, option_map, option_and_then, refl, sym, ap, ◌∙◌, arith}
use Rattle.std.proofs.lemmas.Bool.{false≢true}
use Rattle.std.proofs.lemmas.Option.{IfSome_then}
use Rattle.element_text.specs.Resolve.{when}

-- there is a value exactly where the test holds, and this is known of it
pub record Agrees {A : Type 0} (o : Option A) (b : Bool) (P : A → Type 0) : Type 0 where
  pub same : is_some o ≡ b
  pub known : IfSome o P

-- a value that is there
pub agrees_some : {A : Type 0} (x : A) (P : A → Type 0) → P x → Agrees (Some x) true P
agrees_some x P h = record { same = refl; known = h }

pub agrees_none : {A : Type 0} (P : A → Type 0) → Agrees None false P
agrees_none P = record { same = refl; known = tt }

-- by another test that has the same answer, and with less known
pub agrees_to : {A : Type 0} {o : Option A} {b c : Bool} {P : A → Type 0} → b ≡ c → Agrees o b P → Agrees o c P
agrees_to e h = record { same = h.same ∙ e; known = h.known }

pub agrees_so : {A : Type 0} {o : Option A} {b : Bool} (P Q : A → Type 0) → ((x : A) → P x → Q x) → Agrees o b P → Agrees o b Q
agrees_so {o = o} P Q k h = record { same = h.same; known = IfSome_then o h.known k }

-- one value behind another
pub agrees_bound : {A B : Type 0} {o : Option A} {f : A → Option B} {b c : Bool} {P : A → Type 0} {Q : B → Type 0} → Agrees o b P
    → ((x : A) → P x → Agrees (f x) c Q) → Agrees (option_and_then f o) (b && c) Q
agrees_bound {o = None} {c = c} h k = record { same = ap (λ t. t && c) h.same; known = tt }
agrees_bound {o = Some x} {c = c} h k =
    let rest = k x h.known in
    record { same = rest.same ∙ ap (λ t. t && c) h.same; known = rest.known }

-- behind a test
pub agrees_when : {A : Type 0} (b : Bool) {c : Bool} {o : Option A} {Q : A → Type 0} → (b ≡ true → Agrees o c Q) → Agrees (when b o) (b && c) Q
agrees_when true k = k refl
agrees_when false k = record { same = refl; known = tt }

-- under a function
pub agrees_map : {A B : Type 0} {o : Option A} (f : A → B) {b : Bool} {P : A → Type 0} (Q : B → Type 0) → Agrees o b P → ((x : A) → P x → Q (f x))
    → Agrees (option_map f o) b Q
agrees_map {o = None} f Q h k = record { same = h.same; known = tt }
agrees_map {o = Some x} f Q h k = record { same = h.same; known = k x h.known }

-- a value that is there where the test holds, and of which this is known where it is
pub agrees_from : {A : Type 0} (o : Option A) (b : Bool) (w : A) (Q : A → Type 0) → (b ≡ true → o ≡ Some w) → IfSome o (λ v. (b ≡ true) × Q v) → Agrees o b Q
agrees_from None true w Q f g = absurd (false≢true (ap is_some (f refl)))
agrees_from None false w Q f g = agrees_none Q
agrees_from (Some v) b w Q f g = record { same = sym g.0; known = g.1 }

-- ## Tests

pub swapped : (a b c : Bool) → (a && (b && c)) ≡ (b && (a && c))
swapped a b c = grind arith

-- all of them hold
abbrev pub all_of : List Bool → Bool
all_of [] = true
all_of (b ∷ bs) = b && all_of bs

-- whichever stands first
pub pulled : (xs : List Bool) (y : Bool) (ys : List Bool) → all_of (xs ++ y ∷ ys) ≡ (y && all_of (xs ++ ys))
pulled [] y ys = refl
pulled (x ∷ xs) y ys = ap (λ t. x && t) (pulled xs y ys) ∙ swapped x y (all_of (xs ++ ys))

-- one that fails
pub one_fails : (xs : List Bool) (ys : List Bool) → all_of (xs ++ false ∷ ys) ≡ false
one_fails xs ys = pulled xs false ys
