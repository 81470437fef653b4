-- What lines tell, one after the other.
use Rattle.std.proofs.Common.{◌≡◌, List, [], ◌∷◌, ◌++◌, Option, Some, None, refl}
use Rattle.state_store.specs.declared.object.ObjectDecl.{ObjectDecl}
use Rattle.std.specs.Prelude.{ℕ}
use Rattle.report_text.specs.Parse.{◌>>=◌}
use Rattle.report_text.specs.Machine.{State, resume, step}

-- what is known behind these lines
abbrev pub walked : List ObjectDecl → State → List (List ℕ) → Option State
walked declared s [] = Some s
walked declared s (l ∷ ls) = step declared s l >>= (λ t. walked declared t ls)

-- what goes on behind an option
bound_on : {A B C : Type 0} (o : Option A) (f : A → Option C) (g : A → Option B) (h : B → Option C) → ((a : A) → f a ≡ (g a >>= h)) → (o >>= f) ≡ ((o >>= g) >>= h)
bound_on None f g h same = refl
bound_on (Some a) f g h same = same a

pub walked_both : (declared : List ObjectDecl) (s : State) (xs ys : List (List ℕ)) → walked declared s (xs ++ ys) ≡ (walked declared s xs >>= (λ t. walked declared t ys))
walked_both declared s [] ys = refl
walked_both declared s (x ∷ xs) ys =
    bound_on (step declared s x) (λ t. walked declared t (xs ++ ys)) (λ t. walked declared t xs) (λ u. walked declared u ys) (λ t. walked_both declared t xs ys)

pub resumed_both : (declared : List ObjectDecl) (s : State) (xs ys : List (List ℕ)) → resume declared s (xs ++ ys) ≡ (walked declared s xs >>= (λ t. resume declared t ys))
resumed_both declared s [] ys = refl
resumed_both declared s (x ∷ xs) ys =
    bound_on (step declared s x) (λ t. resume declared t (xs ++ ys)) (λ t. walked declared t xs) (λ u. resume declared u ys) (λ t. resumed_both declared t xs ys)
