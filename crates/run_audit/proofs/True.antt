-- A true report serialises where no two packets are decided together, and one that serialises is true.
use Rattle.std.proofs.Common.{List, sym, ◌∙◌, ap, arith}
use Rattle.std.specs.Prelude.{slice_get}
use Rattle.packet_fields.specs.declared.packet.Packet.{Packet}
use Rattle.element_lang.specs.Tree.{Tree}
use Rattle.run_model.specs.Meaning.{Meaning}
use Rattle.run_model.specs.declared.run.Run.{Run}
use Rattle.run_model.specs.Serialises.{Serialises, times}
use Rattle.run_audit.specs.Source.{source_of}
use Rattle.run_audit.specs.Counts.{CountsAgree}
use Rattle.run_audit.specs.Order.{HaveOwnEvents}
use Rattle.run_audit.specs.Told.{IsTrueReport}
use Rattle.run_audit.proofs.Places.{once_in_order, ascends_in_order}
use Rattle.run_audit.proofs.OneOrder.{serial_order, own_events}

pub serial_report : (m : Tree) (packets : List Packet) (run : Run) → IsTrueReport m packets run → HaveOwnEvents run.fates
    → Serialises (source_of m packets) run
serial_report m packets run told own = record {
  admitted = let few = told.counts.admitted in let all = told.counts.total in omega arith;
  once = λ p. ap (times p) told.order ∙ once_in_order run.fates p;
  ascends = λ i j p q x y hi hj.
      ascends_in_order run.fates own i j p q x y (sym (ap (λ l. slice_get l i) told.order) ∙ hi)
      (sym (ap (λ l. slice_get l j) told.order) ∙ hj);
  rows = told.rows;
  verdicts = told.verdicts;
  respects = told.respects;
}

pub true_report : (m : Tree) (packets : List Packet) (run : Run) → CountsAgree packets run
    → Serialises (source_of m packets) run → IsTrueReport m packets run
true_report m packets run counts serial = record {
  counts = counts;
  order = serial_order run.fates run.order serial.once serial.ascends;
  respects = serial.respects;
  verdicts = serial.verdicts;
  rows = serial.rows;
}

pub serial_events : (m : Meaning) (run : Run) → Serialises m run → HaveOwnEvents run.fates
serial_events m run serial = own_events run.fates run.order serial.once serial.ascends
