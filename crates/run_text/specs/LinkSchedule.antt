-- The text of a schedule over links: which events a text spells, or why it is refused; and the text of events.
use Rattle.std.specs.Prelude.{ℕ, List, ◌++◌, codes, decimal, map, if◌then◌else◌, Option, Some, None, Result, Ok, Err}
use Rattle.std.specs.Str.{bytes_eq}
use Rattle.std.specs.List.{before_first, after_first, list_any}
use Rattle.gal_io.specs.Lines.{lines, is_space, lined}
use Rattle.gal_io.specs.Number.{number_up_to}
use Rattle.run_model.specs.declared.event.Event.{Event}
use Rattle.run_model.specs.declared.event.Event.TheVariants as world
use Rattle.run_model.specs.declared.link_event.Link.{Link}
use Rattle.run_model.specs.declared.link_event.Link.TheVariants.{Up, Down, Ctl, Ack}
use Rattle.run_model.specs.declared.link_event.LinkEvent.{LinkEvent}
use Rattle.run_model.specs.declared.link_event.LinkEvent.TheVariants.{World, Transmit, Deliver, Confirm}
use Rattle.run_model.specs.Sizes.{most_events}
use Rattle.run_text.specs.declared.refusal.LineKind.{LineKind}
use Rattle.run_text.specs.declared.refusal.LineKind.TheVariants.{Form, Number}
use Rattle.run_text.specs.declared.refusal.LinesError.{LinesError}
use Rattle.run_text.specs.Printed.{event_text}
use Rattle.run_text.specs.Trace.{at_most, largest, line_values, numbered, word_event}

abbrev pub link_name : Link → List ℕ
link_name Up = codes "up"
link_name Down = codes "down"
link_name Ctl = codes "ctl"
link_name Ack = codes "ack"

abbrev pub link_named : List ℕ → Option Link
link_named name =
    if bytes_eq name (codes "up") then Some Up
    else (if bytes_eq name (codes "down") then Some Down
    else (if bytes_eq name (codes "ctl") then Some Ctl
    else (if bytes_eq name (codes "ack") then Some Ack
    else None)))

abbrev pub place_with : Option Link → Option ℕ → Result (Link × ℕ) LineKind
place_with None number = Err Form
place_with (Some link) None = Err Number
place_with (Some link) (Some number) = Ok (link, number)

-- the name of a link, a space and a number below 2 ^ 32
abbrev pub place_line : List ℕ → Result (Link × ℕ) LineKind
place_line text =
    if list_any is_space text
    then place_with (link_named (before_first is_space text)) (number_up_to largest (after_first is_space text))
    else Err Form

abbrev pub at_place : (Link → ℕ → LinkEvent) → Result (Link × ℕ) LineKind → Result LinkEvent LineKind
at_place event (Ok place) = Ok (event place.0 place.1)
at_place event (Err kind) = Err kind

abbrev pub in_world : Result Event LineKind → Result LinkEvent LineKind
in_world (Ok event) = Ok (World event)
in_world (Err kind) = Err kind

-- the event of a letter, and of what stands behind its space
abbrev pub letter_event : List ℕ → List ℕ → Result LinkEvent LineKind
letter_event letter behind =
    if bytes_eq letter (codes "u") then in_world (numbered world.Serve (number_up_to largest behind))
    else (if bytes_eq letter (codes "h") then in_world (numbered world.Hold (number_up_to largest behind))
    else (if bytes_eq letter (codes "d") then in_world (numbered world.Down (number_up_to largest behind))
    else (if bytes_eq letter (codes "x") then at_place Transmit (place_line behind)
    else (if bytes_eq letter (codes "y") then at_place Deliver (place_line behind)
    else (if bytes_eq letter (codes "z") then at_place Confirm (place_line behind)
    else Err Form)))))

abbrev pub link_event_by : Option Event → List ℕ → Result LinkEvent LineKind
link_event_by (Some event) line = Ok (World event)
link_event_by None line =
    if list_any is_space line then letter_event (before_first is_space line) (after_first is_space line) else Err Form

-- A line of a schedule over links is one of `a`, `c`, `w` and `k`; or one of `u`, `h` and `d`, a space and a number below
-- 2 ^ 32; or one of `x`, `y` and `z`, a space, the name of a link, a space and such a number.
abbrev pub link_event_line : List ℕ → Result LinkEvent LineKind
link_event_line line = link_event_by (word_event line) line

-- the events that the text of a schedule over links spells
abbrev pub link_schedule_of : List ℕ → Result (List LinkEvent) LinesError
link_schedule_of text = at_most most_events (line_values link_event_line 1 (lines text))

-- ---- as it is printed

abbrev pub place_text : Link → ℕ → List ℕ
place_text link number = link_name link ++ (codes " " ++ decimal number)

abbrev pub link_event_text : LinkEvent → List ℕ
link_event_text (World event) = event_text event
link_event_text (Transmit link number) = codes "x " ++ place_text link number
link_event_text (Deliver link number) = codes "y " ++ place_text link number
link_event_text (Confirm link number) = codes "z " ++ place_text link number

-- a line for each event
abbrev pub link_schedule_text : List LinkEvent → List ℕ
link_schedule_text events = lined (map link_event_text events)
