use Rattle.std.proofs.Common.{◌≡◌, ◌++◌, map, take}
use Rattle.switch_ir.specs.LastReads.{noted}
use Rattle.switch_ir.specs.Spans.{handed_in, span_of}
use Rattle.switch_ir.proofs.spans.push_handed.Given as goal

abbrev pub invariant-loop-crossing : goal.invariant-loop-crossing
invariant-loop-crossing l = l.spans ≡ l.initial.spans ++ map (span_of (noted l.last)) (handed_in (take l.crossing-index l.crossing-items))
