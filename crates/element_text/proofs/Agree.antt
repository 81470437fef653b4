-- A source has a middlebox exactly where none of its declarations and statements breaks a rule.
use Rattle.std.proofs.Common.{◌≡◌, Bool, true, false, not, ◌&&◌, List, [], ◌∷◌, map, Option, Some, None, is_some, is_none, refl, sym, ap, ap₂, ◌∙◌, arith}
use Rattle.std.proofs.lemmas.Bool.{and_parts, false≢true}
use Rattle.state_store.specs.declared.object.ObjectDecl.{ObjectDecl}
use Rattle.element_lang.specs.declared.broken.Broken.{Broken}
use Rattle.element_lang.specs.Token.{Token}
use Rattle.element_lang.specs.Tree.{Tree}
use Rattle.element_lang.specs.Rules.{are_good_objects}
use Rattle.element_lang.specs.Surface.{Declared, Surface, object_of}
use Rattle.element_lang.specs.Grammar.{Spells}
use Rattle.element_lang.specs.Broken.{broken_in, broken_decl, first_broken}
use Rattle.element_text.specs.Resolve.{Env, MadeBody, are_good_decls, decls_of, resolved}
use Rattle.element_text.proofs.Agreement.{agrees_some, agrees_bound, agrees_when}
use Rattle.element_text.proofs.AgreeingScopes.{Seen}
use Rattle.element_text.proofs.AgreeingStmts.{sight_of}
use Rattle.element_text.proofs.AgreeingSights.{none_or}
use Rattle.element_text.proofs.AgreeingBodies.{odd_body, body_agrees}
use Rattle.element_text.proofs.AgreeingDecls.{decls_agree, good_have_values}
use Rattle.element_text.proofs.AgreeingSpells.{spelled_plain}
use Rattle.lemmas.proofs.Tests.{and_true}

objects_same : (ds : List Declared) → map object_of (decls_of ds) ≡ map (λ d. object_of d.decl) ds
objects_same [] = refl
objects_same (d ∷ ds) = ap (λ os. object_of d.decl ∷ os) (objects_same ds)

-- before any statement
seen_first : (objects : List ObjectDecl) → are_good_objects [] objects ≡ true → Seen objects [] (record { objects = objects; locals = []; scope = [] })
seen_first objects e = record {
  same_objects = refl;
  in_scope = record { same = refl; wide = refl };
  values = good_have_values [] objects e;
}

all_tests : (g b x : Bool) → (g && ((b && not x) && true)) ≡ ((g && b) && not x)
all_tests g b x = grind arith

-- There is a middlebox exactly where no rule is broken. A tree that no source spells may have an odd expression, of which
-- the rules say nothing, and then has none either.
pub resolved_same : (s : Surface) → is_some (resolved s) ≡ (is_none (first_broken s) && not (odd_body s.body))
resolved_same s =
    let decls = decls_of s.objects in
    let objects = map object_of decls in
    let env : Env = record { objects = objects; locals = []; scope = [] } in
    let good = are_good_decls decls in
    let b = is_none (broken_in (sight_of objects []) s.body) in
    let x = odd_body s.body in
    let Q : Tree → Type 0 = λ m. Unit {0} in
    let made : MadeBody → Tree = λ r. record { objects = objects; locals = r.locals; body = r.tree } in
    let h = agrees_when good (λ e.
    agrees_bound (body_agrees objects [] env (seen_first objects (and_parts _ _ e).1) s.body) (λ r f. agrees_some (made r) Q tt)) in
    h.same
    ∙ all_tests good b x
    ∙ ap₂ (λ v os. (v && is_none (broken_in (sight_of os []) s.body)) && not x) (sym (decls_agree s.objects)) (objects_same s.objects)
    ∙ ap (λ v. v && not x) (sym (none_or (broken_decl [] s.objects) (broken_in (sight_of (map (λ (d : Declared). object_of d.decl) s.objects) []) s.body)))

-- of what a source spells
pub spelled_same : (ts : List Token) (s : Surface) → Spells ts s → is_some (resolved s) ≡ is_none (first_broken s)
spelled_same ts s spells = resolved_same s ∙ ap (λ x. is_none (first_broken s) && not x) (spelled_plain ts s spells) ∙ and_true (is_none (first_broken s))

there : {A : Type 0} (o : Option A) → is_some o ≡ true → (x : A) × (o ≡ Some x)
there None e = absurd (false≢true e)
there (Some x) e = (x, refl)

absent : {A : Type 0} (o : Option A) → is_some o ≡ false → o ≡ None
absent None e = refl
absent (Some x) e = absurd (false≢true (sym e))

-- a source that breaks no rule has a middlebox
pub unbroken : (ts : List Token) (s : Surface) → Spells ts s → first_broken s ≡ None → (m : Tree) × (resolved s ≡ Some m)
unbroken ts s spells e = there (resolved s) (spelled_same ts s spells ∙ ap is_none e)

-- and one that breaks a rule has none
pub broken : (s : Surface) (b : Broken) → first_broken s ≡ Some b → resolved s ≡ None
broken s b e = absent (resolved s) (resolved_same s ∙ ap (λ o. is_none o && not (odd_body s.body)) e)
