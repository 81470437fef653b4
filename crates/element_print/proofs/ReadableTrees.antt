-- The tokens of printed statements are read again as they are printed.
use Rattle.std.proofs.Common.{◌≡◌, ℕ, suc, ◌+◌, ◌<◌, ◌≤◌, Bool, true, false, ◌&&◌, ◌||◌, ◌==◌, nat_le, List, [], ◌∷◌, ◌++◌, map, length, Option, Some, None, slice_get, refl, sym, ◌∙◌, arith}
use Rattle.std.specs.List.{list_any}
use Rattle.std.proofs.lemmas.List.Folds.{list_any-append}
use Rattle.state_store.specs.declared.object.ObjectDecl.{ObjectDecl}
use Rattle.element_lang.specs.declared.mark.Mark.TheVariants as marks
use Rattle.element_lang.specs.Token.{Token, fixed, number, IsName}
use Rattle.element_lang.specs.Token as tokens
use Rattle.element_lang.specs.Accepted.{HasNames}
use Rattle.element_lang.specs.Tree.{ExprTree, Exprs, StmtTree, BodyTree, Tree}
use Rattle.element_lang.specs.Tree.StmtTree.{let_local, assign, set_field, look, put, del, choose, repeat, send, drop}
use Rattle.element_lang.specs.Tree.BodyTree.{done, stmt}
use Rattle.element_lang.specs.Surface.{SurfaceBody, local_name, object_name, named_expr, named_exprs, named_stmt, named_body}
use Rattle.element_lang.specs.Surface as surface
use Rattle.element_lang.specs.Widths.{local_widths}
use Rattle.element_lang.specs.Rules.{is_good_expr, are_good_exprs, is_good_stmt, is_good_body, widths_of, fits_keys, is_count, counted_from, binds, declared_in, declared_by}
use Rattle.element_print.specs.Printed.{expr_tokens, exprs_tokens, joined, keyed, in_braces, else_tokens, stmt_tokens, body_tokens}
use Rattle.element_print.proofs.BoolParts.{is_equal}
use Rattle.element_print.proofs.Words.{Readable, fixed_readable, field_readable, name_readable, number_readable}
use Rattle.element_print.proofs.TextTokens.{AllReadable, readable_append}
use Rattle.element_print.proofs.ReadableExprs.{AllParts, InScope, closing, readables, joined_readable, exprs_readable, local_named, object_named, expr_readable, all_exprs}
use Rattle.lemmas.proofs.Tests.{and_first, and_second}
use Rattle.std.proofs.lemmas.Bool.{leb-true}

-- ## Names of locals that are declared

either : (a b : Bool) (P : Type 0) → (a || b) ≡ true → (a ≡ true → P) → (b ≡ true → P) → P
either true b P h f g = f refl
either false b P h f g = g h

among : (n : ℕ) (xs : List ℕ) (x : ℕ) → counted_from n xs ≡ true → list_any (λ y. y == x) xs ≡ true → x < n + length xs
among n [] x h is = cc
among n (y ∷ ys) x h is =
    let first : y ≡ n = is_equal y n (and_first (y == n) (counted_from (n + 1) ys) h) in
    either (y == x) (list_any (λ y. y == x) ys) (x < n + length (y ∷ ys)) is
    (λ same. omega (arith, is_equal y x same))
    (λ later. omega (arith, among (n + 1) ys x (and_second (y == n) (counted_from (n + 1) ys) h) later))

pub more_in_scope : (m : Tree) (scope : List ℕ) (n : ℕ) (xs : List ℕ) → InScope m scope → counted_from n xs ≡ true → n + length xs ≤ length m.locals
    → InScope m (xs ++ scope)
more_in_scope m scope n xs known h room = record {
  within = λ x is.
      either (list_any (λ y. y == x) xs) (list_any (λ y. y == x) scope) (x < length m.locals) (sym (list_any-append (λ y. y == x) xs scope) ∙ is)
      (λ new. omega (arith, among n xs x h new)) (λ old. known.within x old);
}

first_named : (m : Tree) (x n : ℕ) (xs : List ℕ) → HasNames m → counted_from n (x ∷ xs) ≡ true → n + suc (length xs) ≤ length m.locals → IsName (local_name m x)
first_named m x n xs names h room =
    let first : x ≡ n = is_equal x n (and_first (x == n) (counted_from (n + 1) xs) h) in
    local_named m x names (omega arith)

declared_names : (m : Tree) (n : ℕ) (xs : List ℕ) → HasNames m → counted_from n xs ≡ true → n + length xs ≤ length m.locals
    → AllParts (map (λ word. tokens.name word ∷ []) (map (local_name m) xs))
declared_names m n [] names h room = tt
declared_names m n (x ∷ xs) names h room = (
  (name_readable (local_name m x) (first_named m x n xs names h (omega arith)), tt),
  declared_names m (n + 1) xs names (and_second (x == n) (counted_from (n + 1) xs) h) (omega arith),
)

object_there : (declaration : Option ObjectDecl) (ws : List ℕ) → fits_keys declaration ws ≡ true → (o : ObjectDecl) × (declaration ≡ Some o)
object_there None ws h = absurd cc
object_there (Some o) ws h = (o, refl)

named_object : (m : Tree) (object : ℕ) (ws : List ℕ) → HasNames m → fits_keys (slice_get m.objects object) ws ≡ true
    → Readable (tokens.name (object_name m object))
named_object m object ws names h =
    let (o, is) = object_there (slice_get m.objects object) ws h in
    name_readable (object_name m object) (object_named m object o names is)

-- ## Statements

braced : (ts : List Token) → AllReadable ts → AllReadable (in_braces ts)
braced ts h = (fixed_readable marks.LeftBrace, closing ts marks.RightBrace h)

keyed_readable : (m : Tree) (widths scope : List ℕ) (object : ℕ) (keys : Exprs) → HasNames m → InScope m scope
    → are_good_exprs widths scope keys ≡ true → fits_keys (slice_get m.objects object) (widths_of widths keys) ≡ true
    → AllReadable (keyed (object_name m object) (named_exprs m keys))
keyed_readable m widths scope object keys names known h fits =
    let all = all_exprs m widths scope keys names known h in (
      named_object m object (widths_of widths keys) names fits,
      (fixed_readable marks.LeftBracket, closing (exprs_tokens (named_exprs m keys)) marks.RightBracket (exprs_readable (named_exprs m keys) all)),
    )

value_closed : (m : Tree) (widths scope : List ℕ) (e : ExprTree) → HasNames m → InScope m scope → is_good_expr widths scope e ≡ true
    → AllReadable (expr_tokens (named_expr m e) ++ fixed marks.Semicolon ∷ [])
value_closed m widths scope e names known h = closing (expr_tokens (named_expr m e)) marks.Semicolon (expr_readable m widths scope e names known h)

else_readable : (b : SurfaceBody) → AllReadable (body_tokens b) → AllReadable (else_tokens b (body_tokens b))
else_readable surface.done h = tt
else_readable (surface.stmt at s b) h = (fixed_readable marks.Else, braced (body_tokens (surface.stmt at s b)) h)

after_stmt : (m : Tree) (scope : List ℕ) (next : ℕ) (s : StmtTree) → InScope m scope → is_good_stmt m scope next s ≡ true
    → next + declared_in s ≤ length m.locals → InScope m (binds s ++ scope)
after_stmt m scope next (let_local x e) known h room = more_in_scope m scope next (x ∷ []) known (and_second _ _ (and_first _ _ h)) (omega arith)
after_stmt m scope next (look found into object keys) known h room = more_in_scope m scope next (found ∷ into) known (and_second _ _ (and_first _ _ h)) (omega arith)
after_stmt m scope next (put ok object keys values) known h room = more_in_scope m scope next (ok ∷ []) known (and_second _ _ (and_first _ _ h)) (omega arith)
after_stmt m scope next (del was object keys) known h room = more_in_scope m scope next (was ∷ []) known (and_second _ _ (and_first _ _ h)) (omega arith)
after_stmt m scope next _ known h room = known

count_readable : (n : ℕ) → is_count n ≡ true → Readable (number n)
count_readable n h = let small : n ≤ 64 = leb-true n 64 (and_second (nat_le 1 n) (nat_le n 64) h) in number_readable n (omega arith)

mutual
  stmt_readable : (m : Tree) (scope : List ℕ) (next : ℕ) (s : StmtTree) → HasNames m → InScope m scope → is_good_stmt m scope next s ≡ true
      → next + declared_in s ≤ length m.locals → AllReadable (stmt_tokens (named_stmt m s))
  stmt_readable m scope next (let_local x e) names known h room =
      let named : IsName (local_name m x) = first_named m x next [] names (and_second _ _ (and_first _ _ h)) room in
      (fixed_readable marks.Let, (name_readable _ named, (fixed_readable marks.Assign, value_closed m _ scope e names known (and_first _ _ (and_first _ _ (and_first _ _ h))))))
  stmt_readable m scope next (assign x e) names known h room =
      let named = local_named m x names (known.within x (and_second _ _ (and_first _ _ h))) in
      (name_readable (local_name m x) named, (fixed_readable marks.Assign, value_closed m _ scope e names known (and_first _ _ (and_first _ _ h))))
  stmt_readable m scope next (set_field f e) names known h room =
      (field_readable f, (fixed_readable marks.Assign, value_closed m _ scope e names known (and_first _ _ (and_first _ _ h))))
  stmt_readable m scope next (look found into object keys) names known h room =
      let words : List (List Token) = map (λ word. tokens.name word ∷ []) (map (local_name m) (found ∷ into)) in
      let listed : AllReadable (joined marks.Comma words) = joined_readable marks.Comma words (declared_names m next (found ∷ into) names (and_second _ _ (and_first _ _ h)) (omega arith)) in
      let key : AllReadable (keyed (object_name m object) (named_exprs m keys)) =
      keyed_readable m (local_widths m) scope object keys names known (and_first _ _ (and_first _ _ (and_first _ _ (and_first _ _ (and_first _ _ h)))))
      (and_second _ _ (and_first _ _ (and_first _ _ (and_first _ _ (and_first _ _ h))))) in
      search (readables, listed, key) depth 9
  stmt_readable m scope next (put ok object keys values) names known h room =
      let named : IsName (local_name m ok) = first_named m ok next [] names (and_second _ _ (and_first _ _ h)) room in
      let both : (are_good_exprs (local_widths m) scope keys && are_good_exprs (local_widths m) scope values) ≡ true =
      and_first _ _ (and_first _ _ (and_first _ _ (and_first _ _ (and_first _ _ (and_first _ _ h))))) in
      let key : AllReadable (keyed (object_name m object) (named_exprs m keys)) =
      keyed_readable m (local_widths m) scope object keys names known (and_first _ _ both) (and_second _ _ (and_first _ _ (and_first _ _ (and_first _ _ (and_first _ _ h))))) in
      let stored : AllReadable (exprs_tokens (named_exprs m values)) =
      exprs_readable (named_exprs m values) (all_exprs m (local_widths m) scope values names known (and_second (are_good_exprs (local_widths m) scope keys) _ both)) in
      search (readables, name_readable (local_name m ok) named, key, stored) depth 12
  stmt_readable m scope next (del was object keys) names known h room =
      let named : IsName (local_name m was) = first_named m was next [] names (and_second _ _ (and_first _ _ h)) room in
      let key : AllReadable (keyed (object_name m object) (named_exprs m keys)) =
      keyed_readable m (local_widths m) scope object keys names known (and_first _ _ (and_first _ _ (and_first _ _ (and_first _ _ (and_first _ _ h)))))
      (and_second _ _ (and_first _ _ (and_first _ _ (and_first _ _ h)))) in
      search (readables, name_readable (local_name m was) named, key) depth 9
  stmt_readable m scope next (choose cond first second) names known h room =
      let test : AllReadable (expr_tokens (named_expr m cond)) = expr_readable m (local_widths m) scope cond names known (and_first _ _ (and_first _ _ (and_first _ _ h))) in
      let one : AllReadable (body_tokens (named_body m first)) = body_readable m scope next first names known (and_second _ _ (and_first _ _ h)) (omega arith) in
      let two : AllReadable (body_tokens (named_body m second)) = body_readable m scope (next + declared_by first) second names known (and_second _ _ h) (omega arith) in
      search (readables, test, one, else_readable (named_body m second) two) depth 9
  stmt_readable m scope next (repeat index n body) names known h room =
      let room_first : next + 1 ≤ length m.locals = omega arith in
      let room_inside : next + 1 + declared_by body ≤ length m.locals = omega arith in
      let counted : counted_from next (index ∷ []) ≡ true = and_second _ _ (and_first _ _ (and_first _ _ h)) in
      let named : IsName (local_name m index) = first_named m index next [] names counted room_first in
      let times : is_count n ≡ true = and_first _ _ (and_first _ _ (and_first _ _ (and_first _ _ (and_first _ _ (and_first _ _ h))))) in
      let inside = more_in_scope m scope next (index ∷ []) known counted room_first in
      let inner : AllReadable (body_tokens (named_body m body)) = body_readable m (index ∷ scope) (next + 1) body names inside (and_second _ _ h) room_inside in
      search (readables, name_readable (local_name m index) named, count_readable n times, inner) depth 9
  stmt_readable m scope next (send port) names known h room = (fixed_readable marks.Send, value_closed m _ scope port names known (and_first _ _ h))
  stmt_readable m scope next drop names known h room = (fixed_readable marks.Drop, (fixed_readable marks.Semicolon, tt))

  pub body_readable : (m : Tree) (scope : List ℕ) (next : ℕ) (b : BodyTree) → HasNames m → InScope m scope → is_good_body m scope next b ≡ true
      → next + declared_by b ≤ length m.locals → AllReadable (body_tokens (named_body m b))
  body_readable m scope next done names known h room = tt
  body_readable m scope next (stmt s b) names known h room =
      let good : is_good_stmt m scope next s ≡ true = and_first _ _ (and_first _ _ h) in
      readable_append (stmt_tokens (named_stmt m s)) (body_tokens (named_body m b))
      (stmt_readable m scope next s names known good (omega arith))
      (body_readable m (binds s ++ scope) (next + declared_in s) b names (after_stmt m scope next s known good (omega arith)) (and_second _ _ h) (omega arith))
