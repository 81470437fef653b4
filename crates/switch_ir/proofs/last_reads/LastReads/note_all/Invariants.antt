use Rattle.std.proofs.Common.{take}
use Rattle.split_model.specs.Crossing.{is_among}
use Rattle.switch_ir.specs.LastReads.{Raises}
use Rattle.switch_ir.proofs.last_reads.LastReads.note_all.Given as goal

abbrev pub invariant-loop-value : goal.invariant-loop-value
invariant-loop-value l = Raises (λ v. is_among v (take l.value-index l.values)) l.step l.initial.self l.self
