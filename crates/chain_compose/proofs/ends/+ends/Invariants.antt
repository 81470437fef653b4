use Rattle.std.proofs.Common.{◌+◌, ◌*◌}
use Rattle.element_lang.specs.View.{stmt_tree, body_tree}
use Rattle.chain_compose.specs.Refusals.{statements_of, statements_in}
use Rattle.chain_compose.proofs.ends.+ends.Given as goal

abbrev pub decreases-always_ends : goal.decreases-always_ends
decreases-always_ends l = 2 * statements_of (stmt_tree l.stmt.now)

abbrev pub decreases-ends_always : goal.decreases-ends_always
decreases-ends_always l = 2 * statements_in (body_tree l.body.now) + 1
