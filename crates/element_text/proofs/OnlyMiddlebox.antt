-- What the resolution of a whole source says of the middleboxes that have its names.
use Rattle.std.proofs.Common.{◌≡◌, true, List, [], Some, IsTrue, sym, ap, ◌∙◌, map}
use Rattle.state_store.specs.declared.object.ObjectDecl.{ObjectDecl}
use Rattle.element_lang.specs.declared.tree.Local.{Local}
use Rattle.element_lang.specs.Tree.{BodyTree, Tree}
use Rattle.element_lang.specs.Rules.{is_good}
use Rattle.element_lang.specs.Surface.{SurfaceBody, Declared, Surface, unplaced, named, object_of}
use Rattle.element_text.proofs.Kept.{Entries}
use Rattle.element_text.specs.Scopes.{known_of}
use Rattle.element_text.proofs.Unplaced.{resolved_whole}
use Rattle.element_text.specs.Resolve.{Env, with_locals, made_body, are_good_decls, decls_of, resolved}

-- the environment of a source's first statement
abbrev pub first_env : List ObjectDecl → Env
first_env objects = record { objects = objects; locals = []; scope = [] }

-- the first environment is empty
pub first_is : {objects decls : List ObjectDecl} {locals : List Local} {known : Entries} → objects ≡ decls → locals ≡ [] → known ≡ []
    → ◌≡◌ {A = Env} (record { objects = objects; locals = locals; scope = map known_of known }) (first_env decls)
first_is objects_are no_locals no_known = rw (objects_are, no_locals, no_known)

-- the middlebox that was made, with the objects and the locals behind its body
pub resolved_made : (decls : List Declared) (body : SurfaceBody) (env next : Env) (b : BodyTree) → are_good_decls (decls_of decls) ≡ true
    → env ≡ first_env (map object_of (decls_of decls)) → made_body env body ≡ Some (record { tree = b; locals = next.locals }) → next ≡ with_locals env next.locals
    → resolved (record { objects = decls; body = body }) ≡ Some (record { objects = next.objects; locals = next.locals; body = b })
resolved_made decls body env next b good first made kept =
    let objects : next.objects ≡ map object_of (decls_of decls) = ap (λ (e : Env). e.objects) kept ∙ ap (λ (e : Env). e.objects) first in
    let here = rw first at made in
    rw (good, here, objects)

-- A middlebox that has the names and keeps the rules is the one that is made.
pub only_one : (s : Surface) (made : Tree) → resolved s ≡ Some made → (m : Tree) → unplaced s ≡ named m → IsTrue (is_good m) → m ≡ made
only_one s made is m same good = let e : Some m ≡ Some made = sym (resolved_whole s m good same) ∙ is in cc
