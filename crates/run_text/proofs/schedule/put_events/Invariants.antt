use Rattle.std.proofs.Common.{◌≡◌, ℕ, ◌<◌, ◌++◌, drop, map, get_or}
use Rattle.run_model.specs.declared.event.Event.{Event}
use Rattle.gal_io.specs.Lines.{lined}
use Rattle.run_text.specs.Printed.{IsLineOf, event_text}
use Rattle.run_text.specs.Trace.{event_line}
use Rattle.run_text.proofs.schedule.put_events.Given as goal

-- the text so far, and the lines ahead, are the whole; and each line so far is read as its event
abbrev pub invariant-loop-event : goal.invariant-loop-event
invariant-loop-event l = record {
  text : l.text ++ lined (map event_text (drop l.event-index l.events)) ≡ l.initial.text ++ lined (map event_text l.events);
  back : (k : ℕ) (d : Event) → k < l.event-index → IsLineOf event_line (event_text (get_or l.events k d)) (get_or l.events k d);
}
