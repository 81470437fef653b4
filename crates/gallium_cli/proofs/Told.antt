-- What is said of a content that is told, and of one where it is told; and walks over the same gates, or the same files.
use Rattle.std.proofs.Common.{◌≡◌, Option, Some, None, IfSome, IsSomeAnd, List, [], ◌∷◌, inl, inr, sym, ◌∙◌}
use Rattle.std.proofs.lemmas.Option.{same_Some}
use Rattle.gallium_cli.specs.Roles.{IsFirst}

-- one that is told has both
pub meet : {X : Type 0} (P Q : X → Type 0) (x : Option X) → IsSomeAnd x P → IfSome x Q → (a : X) × P a × Q a
meet P Q None h k = absurd h
meet P Q (Some a) h k = (a, h, k)

pub some_then : {X : Type 0} (P Q : X → Type 0) (x : Option X) → IsSomeAnd x P → ((a : X) → P a → Q a) → IsSomeAnd x Q
some_then P Q None h follows = absurd h
some_then P Q (Some a) h follows = follows a h

-- there is one at most
pub one_some : {X : Type 0} (x : Option X) (a b : X) → x ≡ Some a → x ≡ Some b → a ≡ b
one_some x a b one two = same_Some a b (sym one ∙ two)

pub no_some : {X : Type 0} (x : Option X) (a : X) → x ≡ None → x ≡ Some a → ⊥
no_some x a none some = cc

-- What two walks come to: both end at one gate, or one ends where the other goes on.
pub walks : {A : Type 0} (IsOpen IsShut IsPassed IsRefused : A → Type 0) (P : Type 0)
    → ((gate : A) → IsShut gate → IsRefused gate → P) → ((gate : A) → IsShut gate → IsPassed gate → P)
    → ((gate : A) → IsOpen gate → IsRefused gate → P) → (gates : List A)
    → IsFirst IsOpen IsShut gates → IsFirst IsPassed IsRefused gates → P
walks IsOpen IsShut IsPassed IsRefused P both passed refused [] one two = absurd one
walks IsOpen IsShut IsPassed IsRefused P both passed refused (gate ∷ gates) (inl one) (inl two) = both gate one two
walks IsOpen IsShut IsPassed IsRefused P both passed refused (gate ∷ gates) (inl one) (inr two) = passed gate one two.0
walks IsOpen IsShut IsPassed IsRefused P both passed refused (gate ∷ gates) (inr one) (inl two) = refused gate one.0 two
walks IsOpen IsShut IsPassed IsRefused P both passed refused (gate ∷ gates) (inr one) (inr two) =
    walks IsOpen IsShut IsPassed IsRefused P both passed refused gates one.1 two.1

-- what ends at a gate where another doesn't passes the same gates
pub at_gates : {A : Type 0} (IsBefore IsAt IsThere : A → Type 0) → ((gate : A) → IsAt gate → IsThere gate)
    → (gates : List A) → IsFirst IsBefore IsAt gates → IsFirst IsBefore IsThere gates
at_gates IsBefore IsAt IsThere follows [] first = absurd first
at_gates IsBefore IsAt IsThere follows (gate ∷ gates) (inl here) = inl (follows gate here)
at_gates IsBefore IsAt IsThere follows (gate ∷ gates) (inr later) =
    inr (later.0, at_gates IsBefore IsAt IsThere follows gates later.1)

-- what each gate at which a walk ends comes to
pub first_at : {A : Type 0} (IsBefore IsAt : A → Type 0) (P : Type 0) → ((gate : A) → IsAt gate → P)
    → (gates : List A) → IsFirst IsBefore IsAt gates → P
first_at IsBefore IsAt P follows [] first = absurd first
first_at IsBefore IsAt P follows (gate ∷ gates) (inl here) = follows gate here
first_at IsBefore IsAt P follows (gate ∷ gates) (inr later) = first_at IsBefore IsAt P follows gates later.1
