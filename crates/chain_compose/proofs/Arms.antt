-- Each kind of statement, pushed.
use Rattle.std.proofs.Common.{◌≡◌, ℕ, List, [], ◌∷◌, ◌++◌, sym, ap, ◌∙◌}
use Rattle.element_lang.specs.declared.tree.Stmt.{Stmt}
use Rattle.element_lang.specs.Tree.{StmtTree}
use Rattle.element_lang.specs.View.{stmt_tree}
use Rattle.element_chain.specs.Compose.{Spot, Sends, stmt_placed}
use Rattle.chain_compose.specs.Parts.{numbering, placed, placed_behind, one_placed}
use Rattle.chain_compose.proofs.Steps.{pushed}

pub arm : (spot : Spot) (sent : Sends) (s made : Stmt) (t : StmtTree) (out out' : List Stmt) (names names' widths widths' : List ℕ) → stmt_tree s ≡ t
    → out' ≡ out ++ made ∷ []
    → one_placed (stmt_tree made) names' widths' ≡ stmt_placed spot sent t (numbering names widths)
    → placed names' widths' out' ≡ placed_behind out (stmt_placed spot sent (stmt_tree s) (numbering names widths))
arm spot sent s made t out out' names names' widths widths' tree_is is one_is =
    pushed out out' made names' widths' (stmt_placed spot sent t (numbering names widths)) is one_is
    ∙ ap (λ (u : StmtTree). placed_behind out (stmt_placed spot sent u (numbering names widths))) (sym tree_is)
