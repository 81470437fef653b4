use Rattle.std.proofs.Common.{◌≡◌, ◌≤◌, ◌+◌, ◌++◌, length, drop}
use Rattle.state_store.specs.Store.{Store}
use Rattle.element_lang.specs.View.{expr_trees}
use Rattle.element_lang.specs.Meaning.{values_of}
use Rattle.element_lang.specs.Rules.{count_of}
use Rattle.element_interp.specs.Runs.{packet_of, frame_widths, state_of}
use Rattle.element_interp.specs.Runnable.{AreRunnableExprs}
use Rattle.element_interp.proofs.value.+value.Given as goal

abbrev pub invariant-values-loop-e : goal.invariant-values-loop-e
invariant-values-loop-e l = record {
  told : (store : Store) → l.values ++ values_of (frame_widths l.frame) (packet_of l.frame) (expr_trees (drop l.e-index l.all)) (state_of l.frame l.vars store) ≡ values_of (frame_widths l.frame) (packet_of l.frame) (expr_trees l.all) (state_of l.frame l.vars store);
  count : length l.values + count_of (expr_trees (drop l.e-index l.all)) ≡ count_of (expr_trees l.all);
  few : count_of (expr_trees l.all) ≤ 8;
  good : AreRunnableExprs (expr_trees (drop l.e-index l.all));
}
