-- What is known of a value that may be missing.
use Rattle.std.proofs.Common.{◌≡◌, Bool, true, false, Option, Some, None, IfSome, option_map, option_and_then, refl, ap, ◌∙◌}
use Rattle.element_text.specs.Resolve.{when}

-- a fact on what is behind one value and then another
pub if_bound : {A B : Type 0} (o : Option A) (f : A → Option B) (P : A → Type 0) (Q : B → Type 0) → IfSome o P → ((x : A) → P x → IfSome (f x) Q) → IfSome (option_and_then f o) Q
if_bound None f P Q h k = tt
if_bound (Some x) f P Q h k = k x h

-- behind a test
pub if_when : {A : Type 0} (b : Bool) (o : Option A) (Q : A → Type 0) → (b ≡ true → IfSome o Q) → IfSome (when b o) Q
if_when true o Q k = k refl
if_when false o Q k = tt

-- under a function
pub if_map : {A B : Type 0} (o : Option A) (f : A → B) (P : A → Type 0) (Q : B → Type 0) → IfSome o P → ((x : A) → P x → Q (f x)) → IfSome (option_map f o) Q
if_map None f P Q h k = tt
if_map (Some x) f P Q h k = k x h

-- ## The same as a record, whose parts are found by themselves

-- this is known of the value, where there is one
pub record Gives {A : Type 0} (o : Option A) (P : A → Type 0) : Type 0 where
  pub known : IfSome o P

pub gives : {A : Type 0} (o : Option A) (P : A → Type 0) → IfSome o P → Gives o P
gives o P h = record { known = h }

pub gives_bound : {A B : Type 0} {o : Option A} {f : A → Option B} {P : A → Type 0} {Q : B → Type 0} → Gives o P → ((x : A) → P x → Gives (f x) Q)
    → Gives (option_and_then f o) Q
gives_bound {o = None} h k = record { known = tt }
gives_bound {o = Some x} h k = k x h.known

pub gives_when : {A : Type 0} (b : Bool) {o : Option A} {Q : A → Type 0} → (b ≡ true → Gives o Q) → Gives (when b o) Q
gives_when true k = k refl
gives_when false k = record { known = tt }

pub gives_map : {A B : Type 0} {o : Option A} (f : A → B) {P : A → Type 0} (Q : B → Type 0) → Gives o P → ((x : A) → P x → Q (f x)) → Gives (option_map f o) Q
gives_map {o = None} f Q h k = record { known = tt }
gives_map {o = Some x} f Q h k = record { known = k x h.known }

-- behind a test that stands first
pub gives_tested : {A B : Type 0} (b : Bool) (x : A) (f : A → Option B) {Q : B → Type 0} → (b ≡ true → Gives (f x) Q)
    → Gives (option_and_then f (when b (Some x))) Q
gives_tested true x f k = k refl
gives_tested false x f k = record { known = tt }

-- of the value that is there
pub given : {A : Type 0} {o : Option A} {x : A} {P : A → Type 0} → o ≡ Some x → Gives o P → P x
given {o = o} {x = x} {P = P} e h = let k : IfSome (Some x) P = rw e at h.known in k

-- ## Values that are there

-- what follows a value that is there
pub bound_is : {A B : Type 0} (o : Option A) (f : A → Option B) (x : A) (y : Option B) → o ≡ Some x → f x ≡ y → option_and_then f o ≡ y
bound_is o f x y e k = ap (option_and_then f) e ∙ k

-- behind a test that holds
pub when_is : {A : Type 0} (b : Bool) (o y : Option A) → b ≡ true → o ≡ y → when b o ≡ y
when_is b o y e k = ap (λ t. when t o) e ∙ k
