-- A statement with no other inside it has numbers exactly where it breaks no rule.
use Rattle.std.proofs.Common.{◌≡◌, ℕ, ◌+◌, Bool, true, false, not, ◌&&◌, ◌||◌, List, [], ◌∷◌, ◌++◌, length, ◌==◌, Option, Some, None, is_none, slice_get, if◌then◌else◌, refl, sym, ap, ap₂, subst, ◌∙◌, arith}
use Rattle.std.specs.List.{list_all}
use Rattle.std.specs.Str.{bytes_eq}
use Rattle.std.proofs.lemmas.Bool.{eqb-true, eq-eqb, and_parts}
use Rattle.std.proofs.lemmas.List.{append-nil}
use Rattle.packet_fields.specs.declared.field.Field.{Field}
use Rattle.packet_fields.specs.Table.{row}
use Rattle.state_store.specs.declared.object.ObjectDecl.{ObjectDecl}
use Rattle.element_lang.specs.declared.tree.Local.{Local}
use Rattle.element_lang.specs.Tree as trees
use Rattle.element_lang.specs.Rules.{is_width, fits_keys, fits_values, can_put, can_del}
use Rattle.element_lang.specs.Rules as rules
use Rattle.element_lang.specs.Surface.{SurfaceExpr, SurfaceExprs, SurfaceStmt, SurfaceBody, let_local, assign, set_field, look, put, del, choose, repeat, send, drop, done, stmt}
use Rattle.element_lang.specs.Broken.{Sight, local_named, object_named, width_of_local, width_in, widths_in, in_expr, in_exprs, always_ends, own_exprs, value_widths, locals_of, are_free, binds, stmt_tests}
use Rattle.element_text.specs.Resolve.{Env, TypedList, object_from, declared, all_declared, numbers_from, values_of, Made, made_stmt}
use Rattle.element_text.proofs.Agreement.{Agrees, agrees_some, agrees_to, agrees_bound, agrees_when, all_of}
use Rattle.element_text.proofs.AgreeingExprs.{is_odd, is_wrong, local_agrees, expr_agrees, exprs_agree}
use Rattle.element_text.proofs.AgreeingScopes.{has_values, Seen, object_agrees, sole_agrees, is_even, even_lengths, all_agree}
use Rattle.element_text.proofs.AgreeingTests.{none_of, in_joined, own_tests, tests_apart}
use Rattle.lemmas.proofs.Tests.{same_tests}

-- a statement outside any repeat, behind none that always ends
abbrev pub sight_of : List ObjectDecl → List Local → Sight
sight_of objects locals = record { objects = objects; locals = locals; repeated = false; ended = false }

-- a repeat stands in it, at any depth
abbrev mutual
  pub has_repeat : SurfaceStmt → Bool
  has_repeat (repeat index count body) = true
  has_repeat (choose cond first second) = have_repeats first || have_repeats second
  has_repeat _ = false

  pub have_repeats : SurfaceBody → Bool
  have_repeats done = false
  have_repeats (stmt at s b) = has_repeat s || have_repeats b

-- what is known of a statement with numbers
pub record Follows (objects : List ObjectDecl) (locals : List Local) (s : SurfaceStmt) (made : Made) : Type 0 where
  pub seen : Seen objects (locals ++ binds (sight_of objects locals) s) made.env
  pub ends : rules.always_ends made.tree ≡ always_ends s
  pub repeats : rules.repeats made.tree ≡ has_repeat s

-- it has numbers exactly where it breaks no rule, and none of its expressions is odd
abbrev pub StmtAgrees : List ObjectDecl → List Local → Env → SurfaceStmt → Type 0
StmtAgrees objects locals env s = Agrees (made_stmt env s) (none_of (stmt_tests (sight_of objects locals) s) && not (in_exprs is_odd (own_exprs s)))
    (Follows objects locals s)

-- ## What the tests come to

equal_turned : (a b : ℕ) → (a == b) ≡ (b == a)
equal_turned a b = same_tests (a == b) (b == a) (λ e. eq-eqb b a (sym (eqb-true a b e))) (λ e. eq-eqb a b (sym (eqb-true b a e)))

let_tests : (e f : Bool) → (not e && (f && true)) ≡ (not (e || false) && (f && true))
let_tests e f = grind arith

assign_tests : (e u q : Bool) → (not e && (not u && (q && true))) ≡ (not (e || false) && (not u && (not (not q) && true)))
assign_tests e u q = grind arith

field_tests : (e w q : Bool) → (not e && ((w && q) && true)) ≡ (not (e || false) && (not (not q) && (not (not w) && true)))
field_tests e w q = grind arith

look_tests : (o k f n d : Bool) → (not o && (not k && (f && ((n && d) && true)))) ≡ (not k && (not o && (not (not f || not n) && (d && true))))
look_tests o k f n d = grind arith

put_tests : (o k v c f g d : Bool)
    → (not o && (not k && (not v && (((c && f) && g) && (d && true))))) ≡ (not (k || v) && (not o && (not (not f || not g) && (not (not c) && (d && true)))))
put_tests o k v c f g d = grind arith

del_tests : (o k c f d : Bool) → (not o && (not k && ((c && f) && (d && true)))) ≡ (not k && (not o && (not (not f) && (not (not c) && (d && true)))))
del_tests o k c f d = grind arith

pub send_tests : (e q : Bool) → (not e && (q && true)) ≡ (not (e || false) && (not (not q) && true))
send_tests e q = grind arith

-- ## Each statement

-- the values of a declared object have widths of values
values_wide : (os : List ObjectDecl) (word : List ℕ) → list_all has_values os ≡ true → list_all is_width (value_widths (object_named os word)) ≡ true
values_wide [] word e = refl
values_wide (o ∷ os) word e =
    let p = and_parts _ _ e in
    by_test (bytes_eq word o.name) (object_named os word) p.0 (values_wide os word p.1)
  where
    by_test : (b : Bool) (more : Option ObjectDecl) → list_all is_width o.values ≡ true → list_all is_width (value_widths more) ≡ true
        → list_all is_width (value_widths (if b then Some o else more)) ≡ true
    by_test true more h k = h
    by_test false more h k = k

same_values : (o : Option ObjectDecl) → values_of o ≡ value_widths o
same_values None = refl
same_values (Some o) = refl

pub follows : {objects : List ObjectDecl} {locals : List Local} (s : SurfaceStmt) (made : Made)
    → Seen objects (locals ++ binds (sight_of objects locals) s) made.env → rules.always_ends made.tree ≡ always_ends s → rules.repeats made.tree ≡ has_repeat s
    → Agrees (Some made) true (Follows objects locals s)
follows {objects = objects} {locals = locals} s made a b c = agrees_some made (Follows objects locals s) (record { seen = a; ends = b; repeats = c })

module _ (objects : List ObjectDecl) (locals : List Local) (env : Env) (h : Seen objects locals env) where
  -- by the tests of its expressions, and all others
  by_parts : (s : SurfaceStmt)
      → Agrees (made_stmt env s) (not (in_exprs (is_wrong locals) (own_exprs s)) && all_of (own_tests (sight_of objects locals) s)) (Follows objects locals s)
      → StmtAgrees objects locals env s
  by_parts s k = agrees_to (sym (tests_apart (sight_of objects locals) s)) k

  -- a statement that declares nothing
  unchanged : Seen objects (locals ++ []) env
  unchanged = subst (λ ls. Seen objects ls env) (sym (append-nil locals)) h

  object_seen : (word : List ℕ)
      → Agrees (object_from 0 env.objects word) (not (is_none (object_named objects word))) (λ o. slice_get env.objects o ≡ object_named objects word)
  object_seen word =
      subst (λ os. Agrees (object_from 0 os word) (not (is_none (object_named objects word))) (λ o. slice_get os o ≡ object_named objects word))
      (sym h.same_objects) (object_agrees objects word)

  pub let_agrees : (word : List ℕ) (value : SurfaceExpr) → StmtAgrees objects locals env (let_local word value)
  let_agrees word value =
      let w = width_in locals value in
      let l : Local = record { name = word; width = w } in
      let free = are_free objects locals (l ∷ []) in
      let s = let_local word value in
      by_parts s (agrees_to (let_tests (in_expr (is_wrong locals) value) free)
      (agrees_bound (expr_agrees locals env.scope h.in_scope value) (λ v f.
      agrees_bound (subst (λ x. Agrees (declared env word x) free (Seen objects (locals ++ l ∷ []))) (sym f.width) (sole_agrees objects locals env h word w f.wide))
      (λ next k. follows s (record { tree = trees.let_local (length env.locals) v.tree; env = next }) k refl refl))))

  pub assign_agrees : (word : List ℕ) (value : SurfaceExpr) → StmtAgrees objects locals env (assign word value)
  assign_agrees word value =
      let own = width_of_local (local_named locals word) in
      let unknown = is_none (local_named locals word) in
      let s = assign word value in
      by_parts s (agrees_to (assign_tests (in_expr (is_wrong locals) value) unknown (own == width_in locals value))
      (agrees_bound (expr_agrees locals env.scope h.in_scope value) (λ v f. agrees_bound (local_agrees locals env.scope word h.in_scope) (λ k g.
      agrees_to (ap₂ (λ a b. (a == b) && true) g.width f.width) (agrees_when (k.decl.width == v.width) (λ t.
      follows s (record { tree = trees.assign k.number v.tree; env = env }) unchanged refl refl))))))

  pub field_agrees : (f : Field) (value : SurfaceExpr) → StmtAgrees objects locals env (set_field f value)
  field_agrees f value =
      let w = width_in locals value in
      let own = (row f).width in
      let may = (row f).writable in
      let s = set_field f value in
      by_parts s (agrees_to (field_tests (in_expr (is_wrong locals) value) may (own == w))
      (agrees_bound (expr_agrees locals env.scope h.in_scope value) (λ v g.
      agrees_to (ap (λ b. (may && b) && true) (ap (λ a. a == own) g.width ∙ equal_turned w own)) (agrees_when (may && v.width == own) (λ t.
      follows s (record { tree = trees.set_field f v.tree; env = env }) unchanged refl refl)))))

  pub send_agrees : (port : SurfaceExpr) → StmtAgrees objects locals env (send port)
  send_agrees port =
      let s = send port in
      by_parts s (agrees_to (send_tests (in_expr (is_wrong locals) port) (width_in locals port == 8))
      (agrees_bound (expr_agrees locals env.scope h.in_scope port) (λ v g.
      agrees_to (ap (λ a. (a == 8) && true) g.width) (agrees_when (v.width == 8) (λ t.
      follows s (record { tree = trees.send v.tree; env = env }) unchanged refl refl)))))

  pub drop_agrees : StmtAgrees objects locals env drop
  drop_agrees = by_parts drop (follows drop (record { tree = trees.drop; env = env }) unchanged refl refl)

  pub look_agrees : (found : List ℕ) (into : List (List ℕ)) (object : List ℕ) (keys : SurfaceExprs)
      → StmtAgrees objects locals env (look found into object keys)
  look_agrees found into object keys =
      let d = object_named objects object in
      let ws = widths_in locals keys in
      let vs = value_widths d in
      let e = in_exprs (is_wrong locals) keys in
      let unknown = is_none d in
      let even = is_even into vs in
      let more = locals_of (found ∷ into) (1 ∷ vs) in
      let free = are_free objects locals more in
      let s = look found into object keys in
      let all = all_agree objects locals env h (found ∷ into) (1 ∷ vs) (values_wide objects object h.values) in
      by_parts s (agrees_to (ap (λ b. not unknown && (not e && (fits_keys d ws && ((b && free) && true)))) (even_lengths into vs)
      ∙ look_tests unknown e (fits_keys d ws) (length into == length vs) free)
      (agrees_bound (object_seen object) (λ o is. agrees_bound (exprs_agree locals env.scope h.in_scope keys) (λ ks f.
      agrees_to (ap₂ (λ a b. fits_keys a b && ((even && free) && true)) is f.widths) (agrees_when (fits_keys (slice_get env.objects o) ks.widths) (λ t.
      agrees_bound (subst (λ x. Agrees (all_declared env (found ∷ into) (1 ∷ x)) (even && free) (Seen objects (locals ++ more)))
      (sym (ap values_of is ∙ same_values d)) all) (λ next k.
      follows s (record { tree = trees.look (length env.locals) (numbers_from (length env.locals + 1) into) o ks.trees; env = next }) k refl refl)))))))

  -- what a statement that changes an object declares: whether that was done
  answered : (word : List ℕ)
      → Agrees (declared env word 1) (are_free objects locals (record { name = word; width = 1 } ∷ []))
      (Seen objects (locals ++ record { name = word; width = 1 } ∷ []))
  answered word = sole_agrees objects locals env h word 1 refl

  pub put_agrees : (ok object : List ℕ) (keys values : SurfaceExprs) → StmtAgrees objects locals env (put ok object keys values)
  put_agrees ok object keys values =
      let d = object_named objects object in
      let ws = widths_in locals keys in
      let vs = widths_in locals values in
      let l : Local = record { name = ok; width = 1 } in
      let free = are_free objects locals (l ∷ []) in
      let s = put ok object keys values in
      let fit : ℕ → TypedList → TypedList → Bool =
      λ o ks xs. can_put (slice_get env.objects o) && fits_keys (slice_get env.objects o) ks.widths && fits_values (slice_get env.objects o) xs.widths in
      by_parts s (agrees_to (put_tests (is_none d) (in_exprs (is_wrong locals) keys) (in_exprs (is_wrong locals) values)
      (can_put d) (fits_keys d ws) (fits_values d vs) free
      ∙ ap (λ b. not b && all_of (own_tests (sight_of objects locals) s)) (sym (in_joined (is_wrong locals) keys values)))
      (agrees_bound (object_seen object) (λ o is. agrees_bound (exprs_agree locals env.scope h.in_scope keys) (λ ks f.
      agrees_bound (exprs_agree locals env.scope h.in_scope values) (λ xs k.
      agrees_to (ap (λ b. b && (free && true)) (ap (λ x. can_put x && fits_keys x ks.widths && fits_values x xs.widths) is
      ∙ ap₂ (λ a b. can_put d && fits_keys d a && fits_values d b) f.widths k.widths)) (agrees_when (fit o ks xs) (λ t.
      agrees_bound (answered ok) (λ next j.
      follows s (record { tree = trees.put (length env.locals) o ks.trees xs.trees; env = next }) j refl refl))))))))

  pub del_agrees : (was object : List ℕ) (keys : SurfaceExprs) → StmtAgrees objects locals env (del was object keys)
  del_agrees was object keys =
      let d = object_named objects object in
      let l : Local = record { name = was; width = 1 } in
      let free = are_free objects locals (l ∷ []) in
      let s = del was object keys in
      by_parts s (agrees_to (del_tests (is_none d) (in_exprs (is_wrong locals) keys) (can_del d) (fits_keys d (widths_in locals keys)) free)
      (agrees_bound (object_seen object) (λ o is. agrees_bound (exprs_agree locals env.scope h.in_scope keys) (λ ks f.
      agrees_to (ap₂ (λ a b. (can_del a && fits_keys a b) && (free && true)) is f.widths)
      (agrees_when (can_del (slice_get env.objects o) && fits_keys (slice_get env.objects o) ks.widths) (λ t.
      agrees_bound (answered was) (λ next j.
      follows s (record { tree = trees.del (length env.locals) o ks.trees; env = next }) j refl refl)))))))
