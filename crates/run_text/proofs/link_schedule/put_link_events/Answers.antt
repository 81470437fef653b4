use Rattle.std.proofs.Common.{◌≡◌, false, arith}
use Rattle.std.proofs.lemmas.Grind.{common_steps}
use Rattle.run_model.specs.declared.event.Event.TheVariants as world
use Rattle.run_model.specs.declared.link_event.LinkEvent.{LinkEvent}
use Rattle.run_model.specs.declared.link_event.LinkEvent.TheVariants.{World}
use Rattle.run_model.specs.LinkEvents.{takes_stage}
use Rattle.run_text.specs.LinkSchedule.{link_event_line, link_event_text}
use Rattle.run_text.specs.Printed.{IsLineOf}
use Rattle.run_text.proofs.PrintedLines.{one_more}
use Rattle.run_text.proofs.link_schedule.put_link_events.Goals as goal

pub loop-event-preserved : goal.loop-event-preserved
loop-event-preserved c = record {
  text = grind (arith, common_steps);
  back = one_more (λ (e : LinkEvent). takes_stage e ≡ false → IsLineOf link_event_line (link_event_text e) e) c.args.events.now c.loop-event.event-index (World world.Admit)
      (omega arith) c.loop-event.invariant.back c.in_ok-put_link_event.ensures.back;
}
