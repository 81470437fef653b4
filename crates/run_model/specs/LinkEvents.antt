-- The events that a schedule over links may have.
use Rattle.std.specs.Prelude.{◌≡◌, ◌≤◌, Bool, true, false, List, length, All}
use Rattle.run_model.specs.declared.event.Event.TheVariants as world
use Rattle.run_model.specs.declared.link_event.LinkEvent.{LinkEvent}
use Rattle.run_model.specs.declared.link_event.LinkEvent.TheVariants.{World}
use Rattle.run_model.specs.Sizes.{most_events}

-- it is one stage of a pass
abbrev pub takes_stage : LinkEvent → Bool
takes_stage (World (world.Stage j)) = true
takes_stage _ = false

-- each pass takes one event, and there are no more events than a schedule may have
pub record IsLinkSchedule (events : List LinkEvent) : Type 0 where
  pub few : length events ≤ most_events
  pub whole : All (λ event. takes_stage event ≡ false) events
