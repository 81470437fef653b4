-- Statements that are put behind others, one after the other.
use Rattle.std.proofs.Common.{◌≡◌, ℕ, List, [], ◌∷◌, ◌++◌, ap, ◌∙◌}
use Rattle.element_lang.specs.declared.tree.Stmt.{Stmt}
use Rattle.element_lang.specs.Tree.{StmtTree, BodyTree}
use Rattle.element_lang.specs.Tree.BodyTree.{done, stmt}
use Rattle.element_lang.specs.View.{stmt_tree, body_tree}
use Rattle.packet_fields.specs.declared.field.Field.{Field}
use Rattle.element_chain.specs.Compose.{followed, one, cleared, clearing, Placed, Spot, Sends, stmt_placed, body_placed}
use Rattle.chain_compose.specs.Parts.{numbering, placed, placed_behind, one_placed}
use Rattle.chain_compose.proofs.Trees.{followed_assoc, body_push}
use Rattle.element_chain.proofs.GoodBodies.{followed_done}

-- the same, of trees
abbrev behind : BodyTree → Placed → Placed
behind out made = record made { body = followed out made.body }

-- statements and those behind them
rest_behind : (out : BodyTree) (first : Placed) (spot : Spot) (sent : Sends) (b : BodyTree) (now : Placed) → now ≡ behind out first
    → behind now.body (body_placed spot sent b now.numbering) ≡ behind out (record { body = followed first.body (body_placed spot sent b first.numbering).body; numbering = (body_placed spot sent b first.numbering).numbering })
rest_behind out first spot sent b now is =
    let rest = body_placed spot sent b first.numbering in
    ap (λ (p : Placed). behind p.body (body_placed spot sent b p.numbering)) is
    ∙ ap (λ (a : BodyTree). let p : Placed = record { body = a; numbering = rest.numbering } in p) (followed_assoc out first.body rest.body)

pub put_more : (spot : Spot) (sent : Sends) (s : StmtTree) (b : BodyTree) (out out' : List Stmt) (names names' widths widths' : List ℕ)
    → placed names' widths' out' ≡ placed_behind out (stmt_placed spot sent s (numbering names widths))
    → placed_behind out' (body_placed spot sent b (numbering names' widths')) ≡ placed_behind out (body_placed spot sent (stmt s b) (numbering names widths))
put_more spot sent s b out out' names names' widths widths' is =
    rest_behind (body_tree out) (stmt_placed spot sent s (numbering names widths)) spot sent b (placed names' widths' out') is

-- behind the last one
pub put_none : (spot : Spot) (sent : Sends) (out : List Stmt) (names widths : List ℕ)
    → placed_behind out (body_placed spot sent done (numbering names widths)) ≡ placed names widths out
put_none spot sent out names widths =
    ap (λ (a : BodyTree). let p : Placed = record { body = a; numbering = numbering names widths } in p) (followed_done (body_tree out))

-- one statement is pushed
pub pushed : (out out' : List Stmt) (s : Stmt) (names widths : List ℕ) (made : Placed) → out' ≡ out ++ s ∷ []
    → one_placed (stmt_tree s) names widths ≡ made → placed names widths out' ≡ placed_behind out made
pushed out out' s names widths made is one_is =
    ap (placed names widths) is
    ∙ ap (λ (a : BodyTree). let p : Placed = record { body = a; numbering = numbering names widths } in p) (body_push out s)
    ∙ ap (placed_behind out) one_is

-- ## clearing
pub cleared_more : (out out' : BodyTree) (f : Field) (fs : List Field) (all : BodyTree) → out' ≡ followed out (one (cleared f))
    → followed out (clearing (f ∷ fs)) ≡ all → followed out' (clearing fs) ≡ all
cleared_more out out' f fs all is before =
    ap (λ (b : BodyTree). followed b (clearing fs)) is ∙ followed_assoc out (one (cleared f)) (clearing fs) ∙ before
