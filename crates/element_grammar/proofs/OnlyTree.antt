-- From what the parser reads or misses to its public contract.
use Rattle.std.proofs.Common.{◌≡◌, ◌≤◌, ◌-◌, ℕ, List, length, map, refl, subst, Result, Ok, Err, IfOk, IfErr, MatchResult}
use Rattle.std.proofs.lemmas.Result.{IfOk-weaker}
use Rattle.element_lang.specs.Token.{Token}
use Rattle.element_lang.specs.Surface.{Surface}
use Rattle.element_lang.specs.Grammar.{Spells, IsFirstWrong}
use Rattle.element_grammar.specs.declared.error.ParseError.{ParseError}
use Rattle.element_grammar.specs.declared.error.ParseError.TheVariants.{Left, NoMemory}
use Rattle.element_grammar.specs.declared.surface.SurfaceTree.{SurfaceTree}
use Rattle.element_grammar.specs.Surface.{surface_tree}
use Rattle.element_grammar.specs.Refused.{SpellsNone}
use Rattle.element_grammar.proofs.FirstWrong.{first_wrong, first_wrong_of, left_fits_of, none_wrong}
use Rattle.element_grammar.proofs.Unique.{one_surface}

pub only_tree : (text : List ℕ) (ts : List Token) (r : Result SurfaceTree ParseError) → IfOk r (λ s. Spells ts (surface_tree text s))
    → IfOk r (λ s. (other : Surface) → Spells ts other → other ≡ surface_tree text s)
only_tree text ts r h = IfOk-weaker r _ _ (λ s p other q. one_surface q p) h

pub wrong_place : {A : Type 0} (f : A → Token) (ps : List A) (r : Result SurfaceTree ParseError) → IfErr r (λ e. SpellsNone (map f ps) e)
    → (left : ℕ) → r ≡ Err (Left left) → (left ≤ length ps) × IsFirstWrong (map f ps) (length ps - left)
wrong_place f ps r h left is =
    let P : Result SurfaceTree ParseError → Type 0 = λ r. IfErr r (λ e. SpellsNone (map f ps) e) in
    let none : SpellsNone (map f ps) (Left left) = subst P is h in
    let stops = none.tells left refl in
    (left_fits_of f ps left stops, first_wrong_of f ps left stops)

pub tree_found : (text : List ℕ) (ts : List Token) (r : Result SurfaceTree ParseError) → IfOk r (λ s. Spells ts (surface_tree text s))
    → IfErr r (λ e. SpellsNone ts e)
    → (s : Surface) → Spells ts s → MatchResult r (λ found. surface_tree text found ≡ s) (λ e. e ≡ NoMemory)
tree_found text ts (Ok found) h k s p = one_surface h p
tree_found text ts (Err NoMemory) h k s p = refl
tree_found text ts (Err (Left left)) h k s p = absurd (none_wrong ts _ s (first_wrong ts left (k.tells left refl)) p)
