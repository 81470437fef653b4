-- A middlebox that is made of a surface tree keeps the rules, and is that tree once its names are put back.
use Rattle.std.proofs.Common.{◌≡◌, ℕ, ◌+◌, true, List, [], ◌∷◌, length, map, Some, IsTrue, ◌==◌, refl, sym, ap, ap₂, arith}
use Rattle.std.specs.List.{list_all, AllByRecursion}
use Rattle.std.proofs.lemmas.List.Elements.{All-from_recursion}
use Rattle.std.proofs.lemmas.Bool.{eqb-true, eq-eqb, and_parts, false≢true}
use Rattle.state_store.specs.declared.object.ObjectDecl.{ObjectDecl}
use Rattle.element_lang.specs.declared.tree.Local.{Local}
use Rattle.element_lang.specs.Tree.{Tree}
use Rattle.element_lang.specs.Token.{IsName}
use Rattle.element_lang.specs.Accepted.{HasNames}
use Rattle.element_lang.specs.Rules.{same_widths, declared_by, is_good}
use Rattle.element_lang.specs.Surface.{Literal, SurfaceRow, SurfaceDecl, Declared, Surface, table_decl, map_decl, vector_decl, int_decl, literals, named_row, named_decl, named, unplaced_decl, unplaced, value_row, object_of}
use Rattle.element_text.specs.Names.{declared_name, HasSurfaceNames}
use Rattle.element_text.specs.Resolve.{Env, MadeBody, decls_of, is_written_row, are_written, is_written, are_good_decls, resolved}
use Rattle.element_text.proofs.Optional.{Gives, gives, gives_bound, gives_when, given}
use Rattle.element_text.proofs.NamesInScope.{keeps_all}
use Rattle.element_text.proofs.SoundExprs.{fits_none}
use Rattle.element_text.proofs.SoundStmts.{IsBodyMade, body_made}

-- ## Declarations that are written with the declared widths

-- literals with these widths are their numbers with the widths put back
literals_named : (widths : List ℕ) (ls : List Literal) → same_widths (map (λ l. l.width) ls) widths ≡ true → literals widths (map (λ l. l.value) ls) ≡ ls
literals_named [] [] e = refl
literals_named (w ∷ ws) [] e = refl
literals_named [] (l ∷ ls) e = absurd (false≢true e)
literals_named (w ∷ ws) (l ∷ ls) e =
    let p = and_parts _ _ e in
    let one : ℕ → Literal = λ v. record { value = l.value; width = v } in
    ap₂ (λ v rest. one v ∷ rest) (sym (eqb-true l.width w p.0)) (literals_named ws ls p.1)

row_named : (keys values : List ℕ) (row : SurfaceRow) → is_written_row keys values row ≡ true → named_row keys values (value_row row) ≡ row
row_named keys values row e =
    let p = and_parts _ _ e in
    let both : List Literal → List Literal → SurfaceRow = λ a b. record { keys = a; values = b } in
    ap₂ both (literals_named keys row.keys p.0) (literals_named values row.values p.1)

rows_named : (keys values : List ℕ) (rows : List SurfaceRow) → are_written keys values rows ≡ true → map (named_row keys values) (map value_row rows) ≡ rows
rows_named keys values [] e = refl
rows_named keys values (row ∷ rows) e =
    let p = and_parts _ _ e in
    ap₂ (λ a b. a ∷ b) (row_named keys values row p.0) (rows_named keys values rows p.1)

-- the object of a declaration is written as it was
pub decl_named : (d : SurfaceDecl) → is_written d ≡ true → named_decl (object_of d) ≡ d
decl_named (table_decl word keys values rows) e = ap (table_decl word keys values) (rows_named keys values rows e)
decl_named (map_decl word keys values capacity) e = refl
decl_named (vector_decl word size values) e = refl
decl_named (int_decl word width start) e = refl

-- an object as it is declared, at the place 0
abbrev declared_at : SurfaceDecl → Declared
declared_at d = record { at = 0; decl = d }

decls_named : (ds : List Declared) → list_all is_written (decls_of ds) ≡ true → map (λ o. declared_at (named_decl o)) (map object_of (decls_of ds)) ≡ map unplaced_decl ds
decls_named [] e = refl
decls_named (d ∷ ds) e =
    let p = and_parts _ _ e in
    ap₂ (λ a b. declared_at a ∷ b) (decl_named d.decl p.0) (decls_named ds p.1)

-- objects keep the names of their declarations
object_named : (d : SurfaceDecl) → IsName (declared_name d) → IsName (object_of d).name
object_named (table_decl word keys values rows) h = h
object_named (map_decl word keys values capacity) h = h
object_named (vector_decl word size values) h = h
object_named (int_decl word width start) h = h

objects_named : (ds : List Declared) → AllByRecursion (λ (d : Declared). IsName (declared_name d.decl)) ds → AllByRecursion (λ (o : ObjectDecl). IsName o.name) (map object_of (decls_of ds))
objects_named [] h = tt
objects_named (d ∷ ds) h = (object_named d.decl h.0, objects_named ds h.1)

-- ## The whole middlebox

record IsResolved (s : Surface) (m : Tree) : Type 0 where
  same : named m ≡ unplaced s
  good : is_good m ≡ true
  names : HasSurfaceNames s → HasNames m

-- before any statement
abbrev start : Surface → Env
start s = record { objects = map object_of (decls_of s.objects); locals = []; scope = [] }

whole : (s : Surface) (b : MadeBody) → are_good_decls (decls_of s.objects) ≡ true → IsBodyMade (start s) s.body b
    → IsResolved s (record { objects = map object_of (decls_of s.objects); locals = b.locals; body = b.tree })
whole s b e q =
    let objects : List ObjectDecl = map object_of (decls_of s.objects) in
    let m : Tree = record { objects = objects; locals = b.locals; body = b.tree } in
    let count : length b.locals ≡ 0 + declared_by b.tree = q.count in
    let counted : declared_by b.tree == length b.locals ≡ true = eq-eqb _ _ (omega arith) in
    let p = and_parts _ _ e in
    let h = q.holds m (keeps_all b.locals) refl [] (fits_none m) in
    record {
      same = rw (decls_named s.objects p.0, h.named);
      good = rw (p.1, counted, h.good);
      names = λ n. record {
        objects = All-from_recursion (λ (o : ObjectDecl). IsName o.name) objects (objects_named s.objects n.objects);
        locals = All-from_recursion (λ (l : Local). IsName l.name) b.locals (q.names n.body tt);
      };
    }

all_resolved : (s : Surface) → Gives (resolved s) (IsResolved s)
all_resolved s =
    gives_when (are_good_decls (decls_of s.objects)) (λ e. gives_bound (body_made (start s) s.body) (λ b q.
    let m : Tree = record { objects = map object_of (decls_of s.objects); locals = b.locals; body = b.tree } in
    gives (Some m) (IsResolved s) (whole s b e q)))

-- with its names put back it is the tree that it was made of, without the places
pub resolved_named : (s : Surface) (m : Tree) → resolved s ≡ Some m → unplaced s ≡ named m
resolved_named s m e = sym (given e (all_resolved s)).same

-- and it keeps the rules
pub resolved_good : (s : Surface) (m : Tree) → resolved s ≡ Some m → IsTrue (is_good m)
resolved_good s m e = (given e (all_resolved s)).good

-- and has names that can be written where the surface tree has
pub resolved_names : (s : Surface) (m : Tree) → resolved s ≡ Some m → HasSurfaceNames s → HasNames m
resolved_names s m e = (given e (all_resolved s)).names
