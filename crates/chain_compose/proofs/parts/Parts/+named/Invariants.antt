use Rattle.std.proofs.Common.{◌+◌, ◌*◌, ℕ, List, take}
use Rattle.chain_compose.specs.declared.gauge.Gauge.TheVariants.{Locals}
use Rattle.chain_compose.specs.Counts.{end_count}
use Rattle.chain_compose.specs.NamedFrom.{Naming, IsTally, all_stepped, started, end_from}
use Rattle.chain_compose.specs.Parts.{chain_of}
use Rattle.chain_compose.proofs.NamedCode.{IsTested}
use Rattle.chain_compose.proofs.parts.Parts.+named.Given as goal

abbrev pub decreases-end_from : goal.decreases-end_from
decreases-end_from l = 4 * l.levels

abbrev pub decreases-sent_from : goal.decreases-sent_from
decreases-sent_from l = 4 * l.levels + 1

abbrev pub decreases-step_from : goal.decreases-step_from
decreases-step_from l = 4 * l.levels + 2

abbrev pub decreases-element_from : goal.decreases-element_from
decreases-element_from l = 4 * l.levels + 3

abbrev pub invariant-sent_from-loop-wire : goal.invariant-sent_from-loop-wire
invariant-sent_from-loop-wire l =
    (numbers : List ℕ) (n : Naming) → IsTally numbers l.fn.tally n
    → IsTested l.tables.least (end_count Locals (chain_of l.self) l.levels) (end_from (chain_of l.self) l.tables.least l.levels) (take l.wire-index l.wires) n l.made

abbrev pub invariant-element_from-loop-step : goal.invariant-element_from-loop-step
invariant-element_from-loop-step l =
    IsTally l.names.items l.tally
    (all_stepped l.tables.least (end_count Locals (chain_of l.self) l.levels) (end_from (chain_of l.self) l.tables.least l.levels)
    l.wires (take l.step-index l.step-items) (started l.before))
