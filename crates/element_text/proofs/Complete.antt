-- A middlebox that keeps the rules is made of itself with its names put back.
use Rattle.std.proofs.Common.{◌≡◌, ℕ, ◌+◌, ◌≤◌, true, List, [], ◌∷◌, length, map, Some, IsTrue, slice_index, ◌==◌, refl, sym, ap, ap₂, ◌∙◌, arith}
use Rattle.std.specs.List.{list_all}
use Rattle.std.proofs.lemmas.Bool.{eqb-true, eq-eqb, and_parts, and_from, false≢true}
use Rattle.std.proofs.lemmas.List.{length-map}
use Rattle.state_store.specs.declared.object.Kind.{Kind}
use Rattle.state_store.specs.declared.object.Kind.TheVariants.{Table, Map, Vector, Int}
use Rattle.state_store.specs.declared.object.Row.{Row}
use Rattle.state_store.specs.declared.object.ObjectDecl.{ObjectDecl}
use Rattle.state_store.specs.Kept.{have_widths}
use Rattle.gal_bits.specs.Fits.{same_list}
use Rattle.element_lang.specs.Tree.{Tree}
use Rattle.element_lang.specs.Rules.{same_widths, are_good_rows, is_good_object, are_good_objects, declared_by, is_good}
use Rattle.element_lang.specs.Surface.{literals, named_row, named_as, Declared, named_decl, named, value_row, object_of}
use Rattle.element_text.specs.Resolve.{decls_of, are_written, is_written, resolved}
use Rattle.element_text.proofs.CompleteExprs.{reads_none}
use Rattle.element_text.proofs.CompleteStmts.{body_read}
use Rattle.lemmas.proofs.Lists.{take_whole}

-- ## Rows of a table, with the widths put back

literals_values : (widths ns : List ℕ) → map (λ l. l.value) (literals widths ns) ≡ ns
literals_values widths [] = refl
literals_values [] (n ∷ ns) = ap (λ r. n ∷ r) (literals_values [] ns)
literals_values (w ∷ ws) (n ∷ ns) = ap (λ r. n ∷ r) (literals_values ws ns)

literals_widths : (widths ns : List ℕ) → have_widths widths ns ≡ true → same_widths (map (λ l. l.width) (literals widths ns)) widths ≡ true
literals_widths [] [] e = refl
literals_widths [] (n ∷ ns) e = absurd (false≢true e)
literals_widths (w ∷ ws) [] e = absurd (false≢true e)
literals_widths (w ∷ ws) (n ∷ ns) e = and_from _ _ (eq-eqb w w refl) (literals_widths ws ns (and_parts _ _ e).1)

row_kept : (keys values : List ℕ) (row : Row) → value_row (named_row keys values row) ≡ row
row_kept keys values row =
    let both : List ℕ → List ℕ → Row = λ a b. record { keys = a; values = b } in
    ap₂ both (literals_values keys row.keys) (literals_values values row.values)

rows_kept : (keys values : List ℕ) (rows : List Row) → map value_row (map (named_row keys values) rows) ≡ rows
rows_kept keys values [] = refl
rows_kept keys values (row ∷ rows) = ap₂ (λ a b. a ∷ b) (row_kept keys values row) (rows_kept keys values rows)

rows_written : (keys values : List ℕ) (seen : List (List ℕ)) (rows : List Row) → are_good_rows keys values seen rows ≡ true
    → are_written keys values (map (named_row keys values) rows) ≡ true
rows_written keys values seen [] e = refl
rows_written keys values seen (row ∷ rows) e =
    let p = and_parts _ _ e in
    let r = and_parts _ _ (and_parts _ _ p.0).0 in
    and_from _ _ (and_from _ _ (literals_widths keys row.keys r.0) (literals_widths values row.values r.1)) (rows_written keys values (row.keys ∷ seen) rows p.1)

-- ## Declarations

no_elements : {A : Type 0} (xs : List A) → (length xs == 0) ≡ true → [] ≡ xs
no_elements [] e = refl
no_elements (x ∷ xs) e = absurd (omega (arith, eqb-true (length (x ∷ xs)) 0 e))

-- an object, of its parts that a declaration does not say as they are
rebuilt : (d : ObjectDecl) (kind : Kind) (keys values : List ℕ) (size start : ℕ) (rows : List Row)
    → kind ≡ d.kind → keys ≡ d.keys → values ≡ d.values → size ≡ d.size → start ≡ d.start → rows ≡ d.rows
    → ◌≡◌ {A = ObjectDecl} (record { name = d.name; kind = kind; keys = keys; values = values; size = size; start = start; rows = rows }) d
rebuilt d kind keys values size start rows k a b n s r = rw (k, a, b, n, s, r)

-- a good object is that of its declaration
object_kept : (k : Kind) (d : ObjectDecl) → k ≡ d.kind → is_good_object k d ≡ true → object_of (named_as k d) ≡ d
object_kept Table d kind e =
    let q = and_parts _ _ (and_parts _ _ e).0 in
    let written = map (named_row d.keys d.values) d.rows in
    let size_is : length written ≡ d.size = length-map d.rows (named_row d.keys d.values) ∙ sym (eqb-true d.size (length d.rows) (and_parts _ _ q.0).1) in
    rebuilt d Table d.keys d.values (length written) 0 (map value_row written) kind refl refl size_is (sym (eqb-true d.start 0 q.1)) (rows_kept d.keys d.values d.rows)
object_kept Map d kind e =
    let p = and_parts _ _ e in
    let q = and_parts _ _ p.0 in
    rebuilt d Map d.keys d.values d.size 0 [] kind refl refl refl (sym (eqb-true d.start 0 q.1)) (no_elements d.rows p.1)
object_kept Vector d kind e =
    let p = and_parts _ _ e in
    let q = and_parts _ _ p.0 in
    let s = and_parts _ _ (and_parts _ _ q.0).0 in
    rebuilt d Vector (32 ∷ []) d.values d.size 0 [] kind (sym (same_list d.keys (32 ∷ []) s.0)) refl refl (sym (eqb-true d.start 0 q.1)) (no_elements d.rows p.1)
object_kept Int d kind e =
    let w = slice_index d.values 0 in
    let p = and_parts _ _ e in
    let r = and_parts _ _ (and_parts _ _ p.0).0 in
    let t = and_parts _ _ (and_parts _ _ r.0).0 in
    rebuilt d Int [] (w ∷ []) 1 d.start [] kind (no_elements d.keys t.0) (sym (same_list d.values (w ∷ []) t.1)) (sym (eqb-true d.size 1 r.1)) refl (no_elements d.rows p.1)

-- and its declaration is written with the declared widths
decl_written : (k : Kind) (d : ObjectDecl) → is_good_object k d ≡ true → is_written (named_as k d) ≡ true
decl_written Table d e = rows_written d.keys d.values [] d.rows (and_parts _ _ e).1
decl_written _ d e = refl

-- what is known of a good object
pub decl_kept : (d : ObjectDecl) → is_good_object d.kind d ≡ true → (object_of (named_decl d) ≡ d) × (is_written (named_decl d) ≡ true)
decl_kept d e = (object_kept d.kind d refl e, decl_written d.kind d e)

-- the declarations of objects, each at the place 0
abbrev declarations : List ObjectDecl → List Declared
declarations = map (λ o. record { at = 0; decl = named_decl o })

-- and of good ones
decls_kept : (names : List (List ℕ)) (ds : List ObjectDecl) → are_good_objects names ds ≡ true
    → (map object_of (decls_of (declarations ds)) ≡ ds) × (list_all is_written (decls_of (declarations ds)) ≡ true)
decls_kept names [] e = (refl, refl)
decls_kept names (d ∷ ds) e =
    let p = and_parts _ _ e in
    let first = decl_kept d (and_parts _ _ p.0).0 in
    let rest = decls_kept (d.name ∷ names) ds p.1 in
    (ap₂ (λ a b. a ∷ b) first.0 rest.0, and_from _ _ first.1 rest.1)

-- ## The whole middlebox

pub resolved_complete : (m : Tree) → IsTrue (is_good m) → resolved (named m) ≡ Some m
resolved_complete m e =
    let p = and_parts _ _ e in
    let q = and_parts _ _ p.0 in
    let kept = decls_kept [] m.objects q.0 in
    let count : 0 + declared_by m.body ≡ length m.locals = omega (arith, eqb-true (declared_by m.body) (length m.locals) q.1) in
    let within : 0 + declared_by m.body ≤ length m.locals = omega arith in
    rw (kept.0, kept.1, q.0, body_read m q.0 m.body [] 0 [] (reads_none m) within p.1, count, take_whole m.locals)
