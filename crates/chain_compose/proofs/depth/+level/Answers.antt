use Rattle.std.proofs.Common.{◌∙◌, ap}
use Rattle.element_lang.specs.View.{stmt_tree, body_tree}
use Rattle.chain_compose.specs.SendLevels.{level_in}
use Rattle.element_print.specs.Lengths.{capped}
use Rattle.element_lang.specs.declared.tree.Stmt.{Stmt}
use Rattle.std.proofs.Common.{List}
use Rattle.chain_compose.proofs.DeepCaps.{level_of_blocks, level_of_block}
use Rattle.chain_compose.proofs.Levels.{tree_of_repeat}
use Rattle.element_print.proofs.Ifs.{tree_of_if}
use Rattle.chain_compose.proofs.depth.+level.Goals as goal

pub level_of-returns-in-If : goal.level_of-returns-in-If
level_of-returns-in-If t c =
    level_of_blocks _ _ _ _ _ _ _ _ (ap stmt_tree c.in-If.is ∙ tree_of_if _ _ _)
    (c.level_in.ensures ∙ ap (λ (ss : List Stmt). capped (level_in (body_tree ss))) c.deref.ensures.value)
    (c.level_in-in-If.ensures ∙ ap (λ (ss : List Stmt). capped (level_in (body_tree ss))) c.deref-in-If.ensures.value)
    c.deeper.ensures c.further_in.ensures

pub level_of-returns-in-Repeat : goal.level_of-returns-in-Repeat
level_of-returns-in-Repeat t c =
    level_of_block _ _ _ _ _ _ (ap stmt_tree c.in-Repeat.is ∙ tree_of_repeat _ _ _)
    (c.level_in-in-Repeat.ensures ∙ ap (λ (ss : List Stmt). capped (level_in (body_tree ss))) c.deref-in-Repeat.ensures.value)
    c.further_in-in-Repeat.ensures
