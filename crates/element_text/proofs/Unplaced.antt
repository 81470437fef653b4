-- Places don't matter to the middlebox that a surface tree has.
use Rattle.std.proofs.Common.{◌≡◌, not, ◌&&◌, ◌||◌, List, [], ◌∷◌, length, map, Option, Some, None, option_and_then, IsTrue, refl, sym, ap, ap₂, ◌∙◌}
use Rattle.element_lang.specs.Tree as trees
use Rattle.element_lang.specs.Tree.{ExprTree, Tree}
use Rattle.element_lang.specs.Rules.{always_ends, ends_always, any_repeats, is_count, is_good}
use Rattle.element_lang.specs.Surface.{SurfaceStmt, SurfaceBody, SurfaceDecl, Declared, Surface, choose, repeat, done, stmt, unplaced_stmt, unplaced_body, unplaced_decl, unplaced, named, object_of}
use Rattle.element_text.specs.Resolve.{when, Env, Made, MadeBody, declared, with_locals, is_done, made_condition, made_stmt, made_body, are_good_decls, decls_of, resolved}
use Rattle.element_text.proofs.SoundStmts.{unplaced_done}
use Rattle.element_text.proofs.Complete.{resolved_complete}

-- what follows a value, where it is the same at each
same_behind : {A B : Type 0} (o : Option A) (f g : A → Option B) → ((x : A) → f x ≡ g x) → option_and_then f o ≡ option_and_then g o
same_behind None f g h = refl
same_behind (Some x) f g h = h x

mutual
  stmt_unplaced : (env : Env) (s : SurfaceStmt) → made_stmt env (unplaced_stmt s) ≡ made_stmt env s
  stmt_unplaced env (choose cond first second) =
      let end = λ (c : ExprTree) (a b : MadeBody). Some (record { tree = trees.choose c a.tree b.tree; env = with_locals env b.locals }) in
      let rest = λ (c : ExprTree) (b : SurfaceBody) (a : MadeBody). option_and_then (end c a) (made_body (with_locals env a.locals) b) in
      same_behind (made_condition env cond) (λ c. option_and_then (rest c (unplaced_body second)) (made_body env (unplaced_body first)))
      (λ c. option_and_then (rest c second) (made_body env first)) (λ c.
      ap (option_and_then (rest c (unplaced_body second))) (body_unplaced env first)
      ∙ same_behind (made_body env first) (rest c (unplaced_body second)) (rest c second)
      (λ a. ap (option_and_then (end c a)) (body_unplaced (with_locals env a.locals) second)))
  stmt_unplaced env (repeat index count body) =
      let end = λ (b : MadeBody). when (not (any_repeats b.tree) && not (ends_always b.tree))
      (Some (record { tree = trees.repeat (length env.locals) count b.tree; env = with_locals env b.locals })) in
      let rest = λ (b : SurfaceBody) (inside : Env). option_and_then end (made_body inside b) in
      ap (when (is_count count))
      (same_behind (declared env index 32) (rest (unplaced_body body)) (rest body) (λ inside. ap (option_and_then end) (body_unplaced inside body)))
  stmt_unplaced env _ = refl

  body_unplaced : (env : Env) (b : SurfaceBody) → made_body env (unplaced_body b) ≡ made_body env b
  body_unplaced env done = refl
  body_unplaced env (stmt at s b) =
      let end = λ (first : Made) (rest : MadeBody). Some (record { tree = trees.stmt first.tree rest.tree; locals = rest.locals }) in
      let rest = λ (b : SurfaceBody) (first : Made). when (not (always_ends first.tree) || is_done b) (option_and_then (end first) (made_body first.env b)) in
      ap (option_and_then (rest (unplaced_body b))) (stmt_unplaced env s)
      ∙ same_behind (made_stmt env s) (rest (unplaced_body b)) (rest b) (λ first.
      ap₂ (λ d o. when (not (always_ends first.tree) || d) (option_and_then (end first) o)) (unplaced_done b) (body_unplaced first.env b))

decls_unplaced : (ds : List Declared) → decls_of (map unplaced_decl ds) ≡ decls_of ds
decls_unplaced [] = refl
decls_unplaced (d ∷ ds) = ap (λ l. d.decl ∷ l) (decls_unplaced ds)

pub resolved_unplaced : (s : Surface) → resolved (unplaced s) ≡ resolved s
resolved_unplaced s =
    let first : List SurfaceDecl → Env = λ ds. record { objects = map object_of ds; locals = []; scope = [] } in
    let end : List SurfaceDecl → Option MadeBody → Option Tree = λ ds o.
    when (are_good_decls ds) (option_and_then (λ b. Some (record { objects = map object_of ds; locals = b.locals; body = b.tree })) o) in
    ap (λ ds. end ds (made_body (first ds) (unplaced_body s.body))) (decls_unplaced s.objects)
    ∙ ap (end (decls_of s.objects)) (body_unplaced (first (decls_of s.objects)) s.body)

-- A surface tree that is a good middlebox with its names put back has that middlebox.
pub resolved_whole : (s : Surface) (m : Tree) → IsTrue (is_good m) → unplaced s ≡ named m → resolved s ≡ Some m
resolved_whole s m good same = sym (resolved_unplaced s) ∙ ap resolved same ∙ resolved_complete m good
