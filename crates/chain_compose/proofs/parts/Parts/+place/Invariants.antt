use Rattle.std.proofs.Common.{◌≡◌, ◌+◌, ◌*◌, length, drop}
use Rattle.element_lang.specs.View.{stmt_tree, body_tree}
use Rattle.element_chain.specs.Compose.{body_placed}
use Rattle.chain_compose.specs.Declares.{AllDeclareBelow}
use Rattle.chain_compose.specs.Parts.{own_tree, spot_of, sends_of, numbering, placed_behind}
use Rattle.chain_compose.specs.Refusals.{statements_of, statements_in}
use Rattle.chain_compose.proofs.Weights.{level, entered}
use Rattle.chain_compose.proofs.parts.Parts.+place.Given as goal

-- a level weighs more than all that is within an element, and a statement more than the tests of all wires
abbrev pub decreases-put_body : goal.decreases-put_body
decreases-put_body l = level l.self.now.classes.now l.place.levels + 300 * statements_in (body_tree l.body.now) + 299

abbrev pub decreases-put_stmt : goal.decreases-put_stmt
decreases-put_stmt l = level l.self.now.classes.now l.place.levels + 300 * statements_of (stmt_tree l.stmt.now) + 298

abbrev pub decreases-choose : goal.decreases-choose
decreases-choose l =
    level l.self.now.classes.now l.place.levels + 300 * (statements_in (body_tree l.yes.now) + statements_in (body_tree l.no.now)) + 300

abbrev pub decreases-repeat : goal.decreases-repeat
decreases-repeat l = level l.self.now.classes.now l.place.levels + 300 * statements_in (body_tree l.body.now) + 300

abbrev pub decreases-put_sent : goal.decreases-put_sent
decreases-put_sent l = level l.self.now.classes.now l.place.levels + 299

abbrev pub decreases-put_tests : goal.decreases-put_tests
decreases-put_tests l = level l.self.now.classes.now l.place.levels + length l.wires.now + 1

abbrev pub decreases-put_end : goal.decreases-put_end
decreases-put_end l = level l.self.now.classes.now l.place.levels

abbrev pub decreases-put_element : goal.decreases-put_element
decreases-put_element l = entered l.self.now.classes.now l.place.levels

-- the statements so far, and what is left
abbrev pub invariant-put_body-loop-stmt : goal.invariant-put_body-loop-stmt
invariant-put_body-loop-stmt l = record {
  known : AllDeclareBelow (length (own_tree l.self l.place).locals) (body_tree (drop l.stmt-index l.body));
  told : placed_behind l.out.items (body_placed (spot_of l.self l.place) (sends_of l.self l.place) (body_tree (drop l.stmt-index l.body)) (numbering l.names.items l.widths.items)) ≡ placed_behind l.fn.out.items (body_placed (spot_of l.self l.place) (sends_of l.self l.place) (body_tree l.body) (numbering l.fn.names.items l.fn.widths.items));
}
