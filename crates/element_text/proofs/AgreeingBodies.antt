-- A body of statements has numbers exactly where none of its statements breaks a rule.
use Rattle.std.proofs.Common.{◌≡◌, ℕ, Bool, true, false, not, ◌&&◌, ◌||◌, List, [], ◌∷◌, ◌++◌, length, ◌==◌, if◌then◌else◌, is_none, refl, sym, ap, ap₂, subst, ◌∙◌, arith}
use Rattle.std.proofs.lemmas.List.{append-nil}
use Rattle.state_store.specs.declared.object.ObjectDecl.{ObjectDecl}
use Rattle.element_lang.specs.declared.tree.Local.{Local}
use Rattle.element_lang.specs.Tree as trees
use Rattle.element_lang.specs.Tree.{StmtTree, BodyTree}
use Rattle.element_lang.specs.Rules.{is_count, is_empty}
use Rattle.element_lang.specs.Rules as rules
use Rattle.element_lang.specs.Surface.{SurfaceExpr, SurfaceStmt, SurfaceBody, let_local, assign, set_field, look, put, del, choose, repeat, send, drop, done, stmt}
use Rattle.element_lang.specs.Broken.{width_in, in_expr, in_exprs, always_ends, ends_always, own_exprs, are_free, stmt_tests, binds, broken_within, broken_in}
use Rattle.element_text.specs.Resolve.{Env, Made, MadeBody, with_locals, is_done, made_condition, made_stmt, made_body}
use Rattle.element_text.proofs.Agreement.{Agrees, agrees_some, agrees_to, agrees_bound, agrees_when}
use Rattle.element_text.proofs.AgreeingExprs.{is_odd, is_wrong, expr_agrees}
use Rattle.element_text.proofs.AgreeingScopes.{Seen, sole_agrees}
use Rattle.element_text.proofs.AgreeingTests.{none_of, tests_apart}
use Rattle.element_text.proofs.AgreeingStmts.{sight_of, have_repeats, Follows, follows, StmtAgrees, let_agrees, assign_agrees, field_agrees, look_agrees, put_agrees, del_agrees, send_agrees, drop_agrees, send_tests}
use Rattle.element_text.proofs.AgreeingSights.{none_or, first_kept, ended_body, kept, repeated_body}
use Rattle.lemmas.proofs.Tests.{and_true}

-- an expression in it is odd, at any depth
abbrev mutual
  pub odd_within : SurfaceStmt → Bool
  odd_within (choose cond first second) = odd_body first || odd_body second
  odd_within (repeat index count body) = odd_body body
  odd_within _ = false

  pub odd_body : SurfaceBody → Bool
  odd_body done = false
  odd_body (stmt at s b) = (in_exprs is_odd (own_exprs s) || odd_within s) || odd_body b

abbrev pub odd_in : SurfaceStmt → Bool
odd_in s = in_exprs is_odd (own_exprs s) || odd_within s

-- what is known of a body with numbers
pub record BodyFollows (body : SurfaceBody) (made : MadeBody) : Type 0 where
  pub ends : rules.ends_always made.tree ≡ ends_always body
  pub repeats : rules.any_repeats made.tree ≡ have_repeats body
  pub empty : is_empty made.tree ≡ is_done body

-- a body ends with its only statement, or with those behind it
tree_ends : (s : StmtTree) (b : BodyTree) → rules.ends_always (trees.stmt s b) ≡ (if is_empty b then rules.always_ends s else rules.ends_always b)
tree_ends s trees.done = refl
tree_ends s (trees.stmt t b) = refl

body_ends : (at : ℕ) (s : SurfaceStmt) (b : SurfaceBody) → ends_always (stmt at s b) ≡ (if is_done b then always_ends s else ends_always b)
body_ends at s done = refl
body_ends at s (stmt next t b) = refl

follows_stmt : (objects : List ObjectDecl) (locals : List Local) (at : ℕ) (s : SurfaceStmt) (b : SurfaceBody) (first : Made) (rest : MadeBody)
    → Follows objects locals s first → BodyFollows b rest → BodyFollows (stmt at s b) (record { tree = trees.stmt first.tree rest.tree; locals = rest.locals })
follows_stmt objects locals at s b first rest f g = record {
  ends = tree_ends first.tree rest.tree
      ∙ ap₂ (λ x y. if x then y else rules.ends_always rest.tree) g.empty f.ends
      ∙ ap (λ y. if is_done b then always_ends s else y) g.ends
      ∙ sym (body_ends at s b);
  repeats = ap₂ (λ x y. x || y) f.repeats g.repeats;
  empty = refl;
}

-- ## What the tests come to

choose_tests : (t o a x b y : Bool) → ((t && not o) && ((a && not x) && ((b && not y) && true))) ≡ ((t && (a && b)) && not (o || (x || y)))
choose_tests t o a x b y = grind arith

repeat_tests : (c f n b x r : Bool)
    → (c && (f && ((b && not x) && ((not r && not n) && true)))) ≡ (((not (not c || false) && (not n && (f && true))) && (b && not r)) && not x)
repeat_tests c f n b x r = grind arith

next_tests : (t w o g b x : Bool) → (((t && w) && not o) && (g && ((b && not x) && true))) ≡ ((t && (w && (g && b))) && not (o || x))
next_tests t w o g b x = grind arith

own_alone : (t o : Bool) → (t && not o) ≡ ((t && true) && not (o || false))
own_alone t o = grind arith

-- ## Statements and bodies

abbrev StmtKept : List ObjectDecl → List Local → Env → SurfaceStmt → Type 0
StmtKept objects locals env s = Agrees (made_stmt env s) (kept (sight_of objects locals) s && not (odd_in s)) (Follows objects locals s)

abbrev BodyKept : List ObjectDecl → List Local → Env → SurfaceBody → Type 0
BodyKept objects locals env b = Agrees (made_body env b) (is_none (broken_in (sight_of objects locals) b) && not (odd_body b)) (BodyFollows b)

-- a statement with no other inside
only_own : (objects : List ObjectDecl) (locals : List Local) (env : Env) (s : SurfaceStmt) → StmtAgrees objects locals env s
    → Agrees (made_stmt env s) ((none_of (stmt_tests (sight_of objects locals) s) && true) && not (in_exprs is_odd (own_exprs s) || false))
    (Follows objects locals s)
only_own objects locals env s h = agrees_to (own_alone (none_of (stmt_tests (sight_of objects locals) s)) (in_exprs is_odd (own_exprs s))) h

condition_agrees : (objects : List ObjectDecl) (locals : List Local) (env : Env) → Seen objects locals env → (cond : SurfaceExpr)
    → Agrees (made_condition env cond) (not (in_expr (is_wrong locals) cond) && ((width_in locals cond == 1) && true)) (λ c. Unit {0})
condition_agrees objects locals env h cond = agrees_bound (expr_agrees locals env.scope h.in_scope cond) (λ c f.
    agrees_to (ap (λ a. (a == 1) && true) f.width) (agrees_when (c.width == 1) (λ e. agrees_some c.tree (λ t. Unit {0}) tt)))

-- other locals that are declared, of which none is in scope
seen_still : (objects : List ObjectDecl) (locals : List Local) (env : Env) (more : List Local) → Seen objects locals env
    → Seen objects locals (with_locals env more)
seen_still objects locals env more h = record { same_objects = h.same_objects; in_scope = h.in_scope; values = h.values }

module _ (objects : List ObjectDecl) (locals : List Local) (env : Env) (h : Seen objects locals env) where
  left_scope : (more : List Local) → Seen objects (locals ++ []) (with_locals env more)
  left_scope more = subst (λ ls. Seen objects ls (with_locals env more)) (sym (append-nil locals)) (seen_still objects locals env more h)

  choose_agrees : (cond : SurfaceExpr) (first second : SurfaceBody) → BodyKept objects locals env first
      → ((more : List Local) → BodyKept objects locals (with_locals env more) second) → StmtKept objects locals env (choose cond first second)
  choose_agrees cond first second one other =
      let s = choose cond first second in
      let sight = sight_of objects locals in
      let e = in_expr (is_wrong locals) cond in
      let q = width_in locals cond == 1 in
      let t = none_of (stmt_tests sight s) in
      let o = in_exprs is_odd (own_exprs s) in
      let a = is_none (broken_in sight first) in
      let b = is_none (broken_in sight second) in
      let x = odd_body first in
      let y = odd_body second in
      let own = send_tests e q ∙ sym (tests_apart sight s) in
      agrees_to (ap (λ i. i && ((a && not x) && ((b && not y) && true))) own ∙ choose_tests t o a x b y
      ∙ ap (λ i. (t && i) && not (o || (x || y))) (sym (none_or (broken_in sight first) (broken_in sight second))))
      (agrees_bound (condition_agrees objects locals env h cond) (λ c u. agrees_bound one (λ i f. agrees_bound (other i.locals) (λ j g.
      follows s (record { tree = trees.choose c i.tree j.tree; env = with_locals env j.locals }) (left_scope j.locals)
      (ap₂ (λ v w. v && w) f.ends g.ends) (ap₂ (λ v w. v || w) f.repeats g.repeats)))))

  repeat_agrees : (index : List ℕ) (count : ℕ) (body : SurfaceBody)
      → ((inside : Env) → Seen objects (locals ++ record { name = index; width = 32 } ∷ []) inside
      → BodyKept objects (locals ++ record { name = index; width = 32 } ∷ []) inside body) → StmtKept objects locals env (repeat index count body)
  repeat_agrees index count body all =
      let s = repeat index count body in
      let sight = sight_of objects locals in
      let l : Local = record { name = index; width = 32 } in
      let within = locals ++ l ∷ [] in
      let c = is_count count in
      let free = are_free objects locals (l ∷ []) in
      let b = is_none (broken_in (sight_of objects within) body) in
      let x = odd_body body in
      let r = have_repeats body in
      let n = ends_always body in
      let goes_on : MadeBody → Bool = λ i. not (rules.any_repeats i.tree) && not (rules.ends_always i.tree) in
      let own = sym (tests_apart sight s) ∙ and_true (none_of (stmt_tests sight s)) in
      agrees_to (repeat_tests c free n b x r ∙ ap₂ (λ i j. (i && j) && not x) own (sym (repeated_body objects within false body)))
      (agrees_when c (λ t. agrees_bound (sole_agrees objects locals env h index 32 refl) (λ inside k. agrees_bound (all inside k) (λ i f.
      agrees_to (ap₂ (λ v w. (not v && not w) && true) f.repeats f.ends) (agrees_when (goes_on i) (λ u.
      follows s (record { tree = trees.repeat (length env.locals) count i.tree; env = with_locals env i.locals }) (left_scope i.locals) refl refl))))))

mutual
  stmt_agrees : (objects : List ObjectDecl) (locals : List Local) (env : Env) → Seen objects locals env → (s : SurfaceStmt) → StmtKept objects locals env s
  stmt_agrees objects locals env h (let_local word value) = only_own objects locals env (let_local word value) (let_agrees objects locals env h word value)
  stmt_agrees objects locals env h (assign word value) = only_own objects locals env (assign word value) (assign_agrees objects locals env h word value)
  stmt_agrees objects locals env h (set_field f value) = only_own objects locals env (set_field f value) (field_agrees objects locals env h f value)
  stmt_agrees objects locals env h (look found into object keys) =
      only_own objects locals env (look found into object keys) (look_agrees objects locals env h found into object keys)
  stmt_agrees objects locals env h (put ok object keys values) =
      only_own objects locals env (put ok object keys values) (put_agrees objects locals env h ok object keys values)
  stmt_agrees objects locals env h (del was object keys) = only_own objects locals env (del was object keys) (del_agrees objects locals env h was object keys)
  stmt_agrees objects locals env h (send port) = only_own objects locals env (send port) (send_agrees objects locals env h port)
  stmt_agrees objects locals env h drop = only_own objects locals env drop (drop_agrees objects locals env h)
  stmt_agrees objects locals env h (choose cond first second) =
      choose_agrees objects locals env h cond first second (body_agrees objects locals env h first)
      (λ more. body_agrees objects locals (with_locals env more) (seen_still objects locals env more h) second)
  stmt_agrees objects locals env h (repeat index count body) =
      repeat_agrees objects locals env h index count body (λ inside k. body_agrees objects (locals ++ record { name = index; width = 32 } ∷ []) inside k body)

  pub body_agrees : (objects : List ObjectDecl) (locals : List Local) (env : Env) → Seen objects locals env → (b : SurfaceBody) → BodyKept objects locals env b
  body_agrees objects locals env h done =
      agrees_some (record { tree = trees.done; locals = env.locals }) (BodyFollows done) (record { ends = refl; repeats = refl; empty = refl })
  body_agrees objects locals env h (stmt at s b) =
      let sight = sight_of objects locals in
      let after = locals ++ binds sight s in
      let tests = none_of (stmt_tests sight s) in
      let inner = is_none (broken_within sight s) in
      let o = odd_in s in
      let others = is_none (broken_in (sight_of objects after) b) in
      let x = odd_body b in
      let goes_on = not (always_ends s) || is_done b in
      let behind_it = sym (ended_body objects after false (always_ends s) b) in
      agrees_to (next_tests tests inner o goes_on others x
      ∙ ap (λ i. i && not (o || x)) (ap (λ i. tests && (inner && i)) behind_it ∙ sym (first_kept sight at s b)))
      (agrees_bound (stmt_agrees objects locals env h s) (λ first f.
      agrees_to (ap (λ i. (not i || is_done b) && ((others && not x) && true)) f.ends)
      (agrees_when (not (rules.always_ends first.tree) || is_done b) (λ t. agrees_bound (body_agrees objects after first.env f.seen b) (λ rest g.
      agrees_some (record { tree = trees.stmt first.tree rest.tree; locals = rest.locals }) (BodyFollows (stmt at s b))
      (follows_stmt objects locals at s b first rest f g))))))
