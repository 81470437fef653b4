use Rattle.std.proofs.Common.{◌∙◌, List, sym, ap}
use Rattle.element_lang.specs.declared.tree.Stmt.{Stmt}
use Rattle.element_lang.specs.Tree.StmtTree.{repeat}
use Rattle.element_lang.specs.View.{stmt_tree, body_tree}
use Rattle.chain_compose.specs.Tallies.{scale_lengths}
use Rattle.chain_compose.proofs.Levels.{tree_of_repeat}
use Rattle.chain_compose.proofs.SentFirst.{repeat_told}
use Rattle.chain_compose.proofs.tally.+bare.Goals as goal

pub bare_stmt-returns-in-Repeat : goal.bare_stmt-returns-in-Repeat
bare_stmt-returns-in-Repeat t c =
    let scale = c.args.scale.now in
    let l = scale_lengths scale in
    let s = stmt_tree c.args.stmt.now in
    let b = body_tree c.deref-in-Repeat.result.now in
    repeat_told scale.gauge l scale.wired s c.in-Repeat.index c.in-Repeat.count b c.weight-own.result c.turns.result c.bare_count-in-Repeat.result c.saturating_mul-all.result c.saturating_add-in-Repeat.result
    (ap stmt_tree c.in-Repeat.is ∙ tree_of_repeat _ _ _
    ∙ ap (λ (ss : List Stmt). repeat c.in-Repeat.index c.in-Repeat.count (body_tree ss)) (sym c.deref-in-Repeat.ensures.value))
    c.weight-own.ensures c.turns.ensures c.bare_count-in-Repeat.ensures c.saturating_mul-all.ensures c.saturating_add-in-Repeat.ensures
