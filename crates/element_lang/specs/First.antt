-- The first rule that a source breaks.
use Rattle.std.specs.Prelude.{◌≡◌, ℕ, ◌<◌, ◌==◌, Bool, true, false, ◌&&◌, List, [], ◌∷◌, ◌++◌, map}
use Rattle.std.specs.List.{list_any}
use Rattle.state_store.specs.declared.object.ObjectDecl.{ObjectDecl}
use Rattle.element_lang.specs.declared.broken.Broken.{Broken}
use Rattle.element_lang.specs.Surface.{SurfaceStmt, SurfaceBody, Declared, Surface, choose, repeat, done, stmt}
use Rattle.element_lang.specs.Surface.{object_of}
use Rattle.element_lang.specs.Broken.{Sight, inside, in_repeat, behind, stmt_tests, decl_tests}

-- A declaration or a statement: how many tokens there are from its first one to the end of the source, and the rules
-- that it can
-- break, each with the test that says whether it does.
pub record Site : Type 0 where
  pub at : ℕ
  pub tests : List (ℕ × Bool)

abbrev mutual
  pub sites_within : Sight → SurfaceStmt → List Site
  sites_within sight (choose cond b c) = sites_in (inside sight) b ++ sites_in (inside sight) c
  sites_within sight (repeat index count body) = sites_in (in_repeat sight (repeat index count body)) body
  sites_within sight _ = []

  pub sites_in : Sight → SurfaceBody → List Site
  sites_in sight done = []
  sites_in sight (stmt at s b) =
      record { at = at; tests = stmt_tests sight s } ∷ (sites_within sight s ++ sites_in (behind sight s) b)

abbrev pub declared_sites : List ObjectDecl → List Declared → List Site
declared_sites objects [] = []
declared_sites objects (d ∷ ds) =
    record { at = d.at; tests = decl_tests objects d.decl } ∷ declared_sites (objects ++ object_of d.decl ∷ []) ds

-- what the first statement sees
abbrev pub first_sight : Surface → Sight
first_sight surface =
    record { objects = map (λ d. object_of d.decl) surface.objects; locals = []; repeated = false; ended = false }

-- all declarations and statements, those inside others too, in the order of the text
abbrev pub surface_sites : Surface → List Site
surface_sites surface = declared_sites [] surface.objects ++ sites_in (first_sight surface) surface.body

pub data StandsIn : Site → List Site → Type 0 where
  first : {p : Site} {ps : List Site} → StandsIn p (p ∷ ps)
  later : {p q : Site} {ps : List Site} → StandsIn p ps → StandsIn p (q ∷ ps)

-- it breaks this rule
abbrev pub breaks : List (ℕ × Bool) → ℕ → Bool
breaks tests rule = list_any (λ t. t.0 == rule && t.1) tests

-- One of these declarations and statements stands at the told place. It breaks the told rule and no lower one, and none
-- that
-- stands before it breaks any.
pub record IsFirstBroken (ps : List Site) (b : Broken) : Type 0 where
  pub part : Site
  pub stands : StandsIn part ps
  pub there : part.at ≡ b.at
  pub broken : breaks part.tests b.rule ≡ true
  pub lowest : (rule : ℕ) → rule < b.rule → breaks part.tests rule ≡ false
  pub before : (other : Site) → StandsIn other ps → b.at < other.at → (rule : ℕ) → breaks other.tests rule ≡ false
  pub one : (other : Site) → StandsIn other ps → other.at ≡ b.at → other ≡ part

-- none of them breaks any rule
abbrev pub BreakNone : List Site → Type 0
BreakNone ps = (part : Site) → StandsIn part ps → (rule : ℕ) → breaks part.tests rule ≡ false
