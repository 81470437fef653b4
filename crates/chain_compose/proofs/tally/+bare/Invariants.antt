use Rattle.std.proofs.Common.{◌≡◌, ◌+◌, ◌-◌, ◌^◌, ◌≤◌, drop}
use Rattle.element_lang.specs.View.{body_tree}
use Rattle.element_print.specs.Lengths.{capped}
use Rattle.chain_compose.specs.Tallies.{bare_count, scale_lengths}
use Rattle.chain_compose.proofs.tally.+bare.Given as goal

abbrev pub invariant-bare_count-loop-stmt : goal.invariant-bare_count-loop-stmt
invariant-bare_count-loop-stmt l =
    (l.total ≤ 2 ^ 64 - 1) × (capped (l.total + bare_count l.scale.gauge (scale_lengths l.scale) l.scale.wired (body_tree (drop l.stmt-index l.body)))
    ≡ capped (bare_count l.scale.gauge (scale_lengths l.scale) l.scale.wired (body_tree l.body)))
