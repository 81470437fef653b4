-- The conditions of so many blocks.
use Rattle.std.proofs.Common.{◌≡◌, ℕ, suc, List, max, get_or, arith}
use Rattle.flat_ir.specs.declared.program.Block.{Block}
use Rattle.flat_ir.specs.Blocks.{block_at}
use Rattle.split_model.specs.Crossing.{is_value}
use Rattle.transfer_header.specs.BlockSteps.{greatest_below, step_if}
use Rattle.switch_ir.specs.LastReads.{Adds}
use Rattle.switch_ir.specs.Spans.{is_condition}
use Rattle.switch_ir.proofs.NotedSteps.{adds_none, adds_as, adds_then}

pub conditions_none : (blocks : List Block) (steps last : List ℕ) → Adds (λ v. greatest_below 1 (is_condition blocks v) steps) last last
conditions_none blocks steps last = adds_as (λ v. 0) (λ v. greatest_below 1 (is_condition blocks v) steps) last last (λ v. omega arith) (adds_none last)

pub conditions_more : (k : ℕ) (blocks : List Block) (one : Block) (steps : List ℕ) (step : ℕ) (before now after : List ℕ)
    → one ≡ block_at blocks k → step ≡ get_or steps (suc k) 0
    → Adds (λ v. greatest_below (suc k) (is_condition blocks v) steps) before now → Adds (λ v. step_if (is_value v one.cond) step) now after
    → Adds (λ v. greatest_below (suc (suc k)) (is_condition blocks v) steps) before after
conditions_more k blocks one steps step before now after is at =
    adds_then (λ v. greatest_below (suc k) (is_condition blocks v) steps) (λ v. step_if (is_value v one.cond) step) (λ v. greatest_below (suc (suc k)) (is_condition blocks v) steps)
    before now after (λ v. λ i. max (greatest_below (suc k) (is_condition blocks v) steps) (step_if (is_value v (is i).cond) (at i)))
