-- What a choice between two bodies that has numbers is made of.
use Rattle.std.proofs.Common.{Vec, Global, ◌≡◌, ℕ, List, Some, sym, ap, ◌∙◌}
use Rattle.element_lang.specs.Tree as trees
use Rattle.element_lang.specs.Tree.{ExprTree, StmtTree}
use Rattle.element_lang.specs.Surface as surface
use Rattle.element_grammar.specs.declared.surface.At.{At}
use Rattle.element_grammar.specs.declared.surface.SurfaceExpr.{SurfaceExpr}
use Rattle.element_grammar.specs.declared.surface.SurfaceStmt.{SurfaceStmt, fold-roll-SurfaceStmt}
use Rattle.element_grammar.specs.declared.surface.SurfaceStmt.TheVariants.{If, rolls-If}
use Rattle.element_grammar.specs.declared.surface.SurfaceStmt.TheOpen.{SurfaceStmt-F}
use Rattle.element_grammar.specs.Surface.{surface_expr, surface_body, stmt_step, surface_stmt}
use Rattle.element_text.specs.Resolve.{Env, MadeBody, with_locals, made_condition, made_stmt, made_body}

-- the choice that a source spells, of the bodies that were read
pub choice_read : (text : List ℕ) (cond : SurfaceExpr) (left right : Vec (At SurfaceStmt) Global) {first second : List (At SurfaceStmt)}
    → first ≡ left.items → second ≡ right.items
    → surface_stmt text (If cond left right) ≡ surface.choose (surface_expr text cond) (surface_body text first) (surface_body text second)
choice_read text cond left right {first = first} {second = second} first_is second_is =
    ap (surface_stmt text) (sym (rolls-If cond left right)) ∙ fold-roll-SurfaceStmt surface.SurfaceStmt (stmt_step text) (SurfaceStmt-F.If cond left right)
    ∙ ap (λ l. surface.choose (surface_expr text cond) (surface_body text l) (surface_body text right.items)) (sym first_is)
    ∙ ap (λ l. surface.choose (surface_expr text cond) (surface_body text first) (surface_body text l)) (sym second_is)

module _ (env : Env) (cond : surface.SurfaceExpr) (first second : surface.SurfaceBody) (c : ExprTree) (tested : made_condition env cond ≡ Some c) where
  pub choice_made : (next last : Env) (a b : MadeBody) (s : StmtTree) → made_body env first ≡ Some a → next ≡ with_locals env a.locals
      → made_body next second ≡ Some b → last ≡ with_locals next b.locals → s ≡ trees.choose c a.tree b.tree
      → made_stmt env (surface.choose cond first second) ≡ Some (record { tree = s; env = last })
  choice_made next last a b s made is made_second last_is s_is =
      let behind = rw is at made_second in
      rw (tested, made, behind, last_is, s_is, is)
