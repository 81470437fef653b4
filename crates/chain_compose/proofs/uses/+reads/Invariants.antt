use Rattle.std.proofs.Common.{◌≡◌, drop}
use Rattle.element_lang.specs.View.{expr_trees}
use Rattle.element_chain.specs.Laws.{any_reads_bytes}
use Rattle.chain_compose.proofs.uses.+reads.Given as goal

-- no expression so far reads bytes
abbrev pub invariant-any_reads_bytes-loop-expr : goal.invariant-any_reads_bytes-loop-expr
invariant-any_reads_bytes-loop-expr l = any_reads_bytes (expr_trees l.exprs) ≡ any_reads_bytes (expr_trees (drop l.expr-index l.exprs))
