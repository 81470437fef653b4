use Rattle.std.proofs.Common.{take}
use Rattle.std.specs.List.{list_any}
use Rattle.split_model.specs.declared.layout.Crossing.{Crossing}
use Rattle.split_model.specs.Crossing.{is_value}
use Rattle.switch_ir.specs.LastReads.{Raises}
use Rattle.switch_ir.proofs.spans.note_layout.Given as goal

abbrev pub invariant-loop-crossing : goal.invariant-loop-crossing
invariant-loop-crossing l =
    Raises (λ v. list_any (λ (c : Crossing). is_value v c.value) (take l.crossing-index l.crossing-items)) l.step l.initial.last l.last
