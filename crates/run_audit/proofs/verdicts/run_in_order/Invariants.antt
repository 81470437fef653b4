use Rattle.element_lang.specs.View.{tree}
use Rattle.run_audit.specs.Source.{source_of}
use Rattle.run_audit.proofs.Serial.{HasRun}
use Rattle.run_audit.proofs.verdicts.run_in_order.Given as goal

abbrev pub invariant-loop-number : goal.invariant-loop-number
invariant-loop-number l = HasRun (source_of (tree l.m) l.packets) l.run l.number-index l.store
