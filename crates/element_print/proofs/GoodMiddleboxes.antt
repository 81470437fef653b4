-- A middlebox that keeps the rules is spelled by the tokens that are printed.
use Rattle.std.proofs.Common.{◌≡◌, ℕ, zero, suc, ◌<◌, ◌≤◌, true, List, [], ◌∷◌, ◌++◌, map, length, Some, slice_get, slice_index, refl, sym, ap, subst, append_assoc, arith}
use Rattle.state_store.specs.declared.object.Kind.{Kind}
use Rattle.state_store.specs.declared.object.Kind.TheVariants.{Table, Map, Vector, Int}
use Rattle.state_store.specs.declared.object.Row.{Row}
use Rattle.state_store.specs.declared.object.ObjectDecl.{ObjectDecl}
use Rattle.state_store.specs.Kept.{have_widths}
use Rattle.element_lang.specs.declared.mark.Mark.TheVariants as marks
use Rattle.element_lang.specs.Token.{Token, fixed}
use Rattle.element_lang.specs.Tree.{Tree}
use Rattle.element_lang.specs.Surface.{SurfaceBody, Declared, literals, named_row, named_as, named_decl, named_body, named, unplaced_decl, unplaced_body}
use Rattle.element_lang.specs.Grammar.{IsMiddlebox, is_process, is_declared}
use Rattle.element_lang.specs.Rules.{are_widths, are_good_rows, is_good_object, are_good_objects, is_good_body, is_good}
use Rattle.element_print.specs.Printed.{decl_tokens, decls_tokens, body_tokens, print_tokens}
use Rattle.element_print.specs.ReadsBack.{IsSpelled}
use Rattle.element_print.proofs.GoodExprs.{same_length}
use Rattle.element_print.proofs.SpelledStmts.{BodySpelled}
use Rattle.element_print.proofs.SpelledDecls.{AreFull, DeclSpelled, table_spelled, map_spelled, vector_spelled, int_spelled}
use Rattle.element_print.proofs.GoodTrees.{HaveValues, good_body}
use Rattle.lemmas.proofs.Tests.{and_first, and_second}
use Rattle.std.proofs.lemmas.Bool.{leb-true}

some_widths : (ws : List ℕ) → are_widths ws ≡ true → 0 < length ws
some_widths ws h = let some : 1 ≤ length ws = leb-true 1 (length ws) (and_first _ _ (and_first _ _ (and_first _ _ h))) in omega arith

have_values : (kind : Kind) (o : ObjectDecl) → is_good_object kind o ≡ true → 0 < length o.values
have_values Int o h = omega (arith, same_length o.values (slice_index o.values 0 ∷ []) (and_second _ _ (and_first _ _ (and_first _ _ (and_first _ _ (and_first _ _ h))))))
have_values _ o h = some_widths o.values (and_second _ _ (and_first _ _ (and_first _ _ (and_first _ _ h))))

-- an object of a list keeps its rules
good_at : (names : List (List ℕ)) (os : List ObjectDecl) (i : ℕ) (o : ObjectDecl) → are_good_objects names os ≡ true → slice_get os i ≡ Some o
    → is_good_object o.kind o ≡ true
good_at names [] i o h is = cc
good_at names (p ∷ ps) zero o h is = let same : p ≡ o = cc in subst (λ q. is_good_object q.kind q ≡ true) same (and_first _ _ (and_first _ _ h))
good_at names (p ∷ ps) (suc i) o h is = good_at (p.name ∷ names) ps i o (and_second _ _ h) is

pub good_values : (names : List (List ℕ)) (os : List ObjectDecl) → are_good_objects names os ≡ true → HaveValues os
good_values names os h = record { some = λ i o is. have_values o.kind o (good_at names os i o h is) }

literal_count : (ws ns : List ℕ) → length (literals ws ns) ≡ length ns
literal_count ws [] = refl
literal_count [] (n ∷ ns) = omega (arith, literal_count [] ns)
literal_count (w ∷ ws) (n ∷ ns) = omega (arith, literal_count ws ns)

width_count : (ws ns : List ℕ) → have_widths ws ns ≡ true → length ns ≡ length ws
width_count [] [] h = refl
width_count [] (n ∷ ns) h = cc
width_count (w ∷ ws) [] h = cc
width_count (w ∷ ws) (n ∷ ns) h = omega (arith, width_count ws ns (and_second _ _ h))

full_rows : (keys values : List ℕ) (seen : List (List ℕ)) (rows : List Row) → 0 < length keys → 0 < length values
    → are_good_rows keys values seen rows ≡ true → AreFull (map (named_row keys values) rows)
full_rows keys values seen [] k v h = tt
full_rows keys values seen (row ∷ rows) k v h = (
  omega (arith, literal_count keys row.keys, width_count keys row.keys (and_first _ _ (and_first _ _ (and_first _ _ h)))),
  omega (arith, literal_count values row.values, width_count values row.values (and_second _ _ (and_first _ _ (and_first _ _ h)))),
  full_rows keys values (row.keys ∷ seen) rows k v (and_second _ _ h),
)

good_decl : (kind : Kind) (o : ObjectDecl) → is_good_object kind o ≡ true → DeclSpelled (named_as kind o)
good_decl Table o h =
    let keys : 0 < length o.keys = some_widths o.keys (and_first _ _ (and_first _ _ (and_first _ _ (and_first _ _ h)))) in
    table_spelled o.name o.keys o.values (map (named_row o.keys o.values) o.rows) keys (have_values Table o h)
    (full_rows o.keys o.values [] o.rows keys (have_values Table o h) (and_second _ _ h))
good_decl Map o h = map_spelled o.name o.keys o.values o.size (some_widths o.keys (and_first _ _ (and_first _ _ (and_first _ _ (and_first _ _ h))))) (have_values Map o h)
good_decl Vector o h = vector_spelled o.name o.size o.values (have_values Vector o h)
good_decl Int o h = int_spelled o.name (slice_index o.values 0) o.start

abbrev declared : ObjectDecl → Declared
declared o = record { at = 0; decl = named_decl o }

-- placed declarations and a placed body are spelled, which are these without their places
record Stand (os : List ObjectDecl) (b : SurfaceBody) : Type 0 where
  objects : List Declared
  body : SurfaceBody
  spelled : IsMiddlebox objects body
      (decls_tokens (map declared os) ++ fixed marks.Process ∷ fixed marks.LeftBrace ∷ (body_tokens b ++ fixed marks.RightBrace ∷ [])) []
  same_objects : map unplaced_decl objects ≡ map declared os
  same_body : unplaced_body body ≡ b

stand : (names : List (List ℕ)) (os : List ObjectDecl) (b : SurfaceBody) → are_good_objects names os ≡ true → BodySpelled b → Stand os b
stand names [] b h k =
    let (placed, is, same) = k.stands [] in
    record { objects = []; body = placed; spelled = is_process is; same_objects = refl; same_body = same }
stand names (o ∷ os) b h k =
    let rest = stand (o.name ∷ names) os b (and_second _ _ h) k in
    let ends : List Token = decls_tokens (map declared os) ++ fixed marks.Process ∷ fixed marks.LeftBrace ∷ (body_tokens b ++ fixed marks.RightBrace ∷ []) in
    let d = named_decl o in
    let here = good_decl o.kind o (and_first _ _ (and_first _ _ h)) ends in
    let first : Declared = record { at = length (decl_tokens d ++ ends); decl = d } in
    let P : List Token → Type 0 = λ ts. IsMiddlebox (first ∷ rest.objects) rest.body ts [] in
    record {
      objects = first ∷ rest.objects;
      body = rest.body;
      spelled = subst P (sym (append_assoc (decl_tokens d) (decls_tokens (map declared os)) _)) (is_declared here rest.spelled);
      same_objects = ap (λ ds. declared o ∷ ds) rest.same_objects;
      same_body = rest.same_body;
    }

pub good_objects_of : (m : Tree) → is_good m ≡ true → are_good_objects [] m.objects ≡ true
good_objects_of m h = and_first _ _ (and_first _ _ h)

pub good_body_of : (m : Tree) → is_good m ≡ true → is_good_body m [] 0 m.body ≡ true
good_body_of m h = and_second _ _ h

pub good_middlebox : (m : Tree) → is_good m ≡ true → IsSpelled (print_tokens (named m)) m
good_middlebox m h =
    let body = good_body m (good_values [] m.objects (good_objects_of m h)) [] 0 m.body (good_body_of m h) in
    let all = stand [] m.objects (named_body m m.body) (good_objects_of m h) body in
    record {
      surface = record { objects = all.objects; body = all.body };
      spells = all.spelled;
      named = cc (all.same_objects, all.same_body);
    }
