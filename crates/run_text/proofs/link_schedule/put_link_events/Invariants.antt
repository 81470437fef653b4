use Rattle.std.proofs.Common.{◌≡◌, false, ℕ, ◌<◌, ◌++◌, drop, map, get_or}
use Rattle.run_model.specs.declared.link_event.LinkEvent.{LinkEvent}
use Rattle.run_model.specs.LinkEvents.{takes_stage}
use Rattle.run_text.specs.LinkSchedule.{link_event_line, link_event_text}
use Rattle.gal_io.specs.Lines.{lined}
use Rattle.run_text.specs.Printed.{IsLineOf}
use Rattle.run_text.proofs.link_schedule.put_link_events.Given as goal

-- the text so far, and the lines ahead, are the whole; and each line so far is read as its event, unless that is a stage
abbrev pub invariant-loop-event : goal.invariant-loop-event
invariant-loop-event l = record {
  text : l.text ++ lined (map link_event_text (drop l.event-index l.events)) ≡ l.initial.text ++ lined (map link_event_text l.events);
  back : (k : ℕ) (d : LinkEvent) → k < l.event-index → takes_stage (get_or l.events k d) ≡ false → IsLineOf link_event_line (link_event_text (get_or l.events k d)) (get_or l.events k d);
}
