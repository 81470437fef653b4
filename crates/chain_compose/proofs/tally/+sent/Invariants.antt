use Rattle.std.proofs.Common.{◌≡◌, ◌+◌, ◌-◌, ◌^◌, ◌≤◌, drop}
use Rattle.element_lang.specs.View.{body_tree}
use Rattle.element_print.specs.Lengths.{capped}
use Rattle.chain_compose.specs.Tallies.{sent_in}
use Rattle.chain_compose.proofs.tally.+sent.Given as goal

abbrev pub invariant-sent_in-loop-stmt : goal.invariant-sent_in-loop-stmt
invariant-sent_in-loop-stmt l =
    (l.total ≤ 2 ^ 64 - 1) × (capped (l.total + sent_in l.gauge (body_tree (drop l.stmt-index l.body))) ≡ capped (sent_in l.gauge (body_tree l.body)))
