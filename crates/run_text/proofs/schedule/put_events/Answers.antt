use Rattle.std.proofs.Common.{arith}
use Rattle.std.proofs.lemmas.Grind.{common_steps}
use Rattle.run_model.specs.declared.event.Event.{Event}
use Rattle.run_model.specs.declared.event.Event.TheVariants.{Admit}
use Rattle.run_text.specs.Printed.{IsLineOf, event_text}
use Rattle.run_text.specs.Trace.{event_line}
use Rattle.run_text.proofs.PrintedLines.{one_more}
use Rattle.run_text.proofs.schedule.put_events.Goals as goal

pub loop-event-preserved : goal.loop-event-preserved
loop-event-preserved c = record {
  text = grind (arith, common_steps);
  back = one_more (λ (e : Event). IsLineOf event_line (event_text e) e) c.args.events.now c.loop-event.event-index Admit
      (omega arith) c.loop-event.invariant.back c.in_ok-put_event.ensures.back;
}
