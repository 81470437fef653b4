-- Schedules over links: what is read takes no stages, and what is printed reads back.
use Rattle.std.proofs.Common.{◌≡◌, ℕ, ◌≤◌, Bool, true, false, inl, inr, List, length, refl, ap, ◌∙◌, arith}
use Rattle.std.specs.Prelude.{All, IfOk, OnOk, Option, Some, None, Result, Ok, Err, codes, nat_le, if◌then◌else◌}
use Rattle.std.specs.Fmt.{decimal}
use Rattle.std.specs.List.{after_first, before_first, list_all, list_any}
use Rattle.std.specs.Str.{bytes_eq}
use Rattle.std.proofs.lemmas.Bool.{cases_Bool, true≢false}
use Rattle.std.proofs.lemmas.Bool.Decides.{nat_tests}
use Rattle.gal_io.specs.Lines.{lines, is_space}
use Rattle.gal_io.specs.Number.{number_up_to}
use Rattle.run_model.specs.declared.event.Event.{Event}
use Rattle.run_model.specs.declared.event.Event.TheVariants as world
use Rattle.run_model.specs.declared.link_event.Link.{Link}
use Rattle.run_model.specs.declared.link_event.Link.TheVariants.{Up, Down, Ctl, Ack}
use Rattle.run_model.specs.declared.link_event.LinkEvent.{LinkEvent}
use Rattle.run_model.specs.declared.link_event.LinkEvent.TheVariants.{World, Transmit, Deliver, Confirm}
use Rattle.run_model.specs.LinkEvents.{IsLinkSchedule, takes_stage}
use Rattle.run_model.specs.Sizes.{most_events}
use Rattle.run_text.specs.declared.refusal.LineKind.{LineKind}
use Rattle.run_text.specs.declared.refusal.LineKind.TheVariants.{Form}
use Rattle.run_text.specs.declared.refusal.LinesError.{LinesError}
use Rattle.run_text.specs.LinkSchedule.{at_place, in_world, letter_event, link_event_by, link_event_line, link_event_text, link_schedule_of, link_schedule_text, place_line, place_text, place_with}
use Rattle.run_text.specs.Printed.{IsLineOf, event_text}
use Rattle.run_text.specs.Trace.{at_most, event_line, largest, line_values, numbered, values_until}
use Rattle.run_text.proofs.AllValues.{all_lines, all_of_most}
use Rattle.run_text.proofs.LineSteps.{none_ends}
use Rattle.gal_io.proofs.NumberLemmas.{decimal_digits, number_back}
use Rattle.run_text.proofs.PrintedBack.{within}
use Rattle.gal_io.proofs.ToldLines.{plain, digits_plain}
use Rattle.run_text.proofs.PrintedLines.{AreLines, values_back}

-- no line ends a schedule over links, so its events are those of all lines
pub link_values : (text : List ℕ) → at_most most_events (values_until (λ _. false) link_event_line 1 (lines text)) ≡ link_schedule_of text
link_values text = ap (at_most most_events) (none_ends link_event_line (lines text))

-- ---- no event that is read takes a stage

abbrev IsWhole : LinkEvent → Type 0
IsWhole event = takes_stage event ≡ false

whole_world : (event : ℕ → Event) → ((j : ℕ) → IsWhole (World (event j))) → (number : Option ℕ) → IfOk (in_world (numbered event number)) IsWhole
whole_world event each None = tt
whole_world event each (Some j) = each j

whole_place : (event : Link → ℕ → LinkEvent) → ((link : Link) (j : ℕ) → IsWhole (event link j)) → (place : Result (Link × ℕ) LineKind) → IfOk (at_place event place) IsWhole
whole_place event each (Ok place) = each place.0 place.1
whole_place event each (Err kind) = tt

-- where either is, so is the one that a test takes
whole_either : (test : Bool) (one other : Result LinkEvent LineKind) → IfOk one IsWhole → IfOk other IsWhole → IfOk (if test then one else other) IsWhole
whole_either true one other h k = h
whole_either false one other h k = k

whole_letter : (letter behind : List ℕ) → IfOk (letter_event letter behind) IsWhole
whole_letter letter behind =
    let number = number_up_to largest behind in
    let place = place_line behind in
    whole_either (bytes_eq letter (codes "u")) (in_world (numbered world.Serve number)) _ (whole_world world.Serve (λ j. refl) number)
    (whole_either (bytes_eq letter (codes "h")) (in_world (numbered world.Hold number)) _ (whole_world world.Hold (λ j. refl) number)
    (whole_either (bytes_eq letter (codes "d")) (in_world (numbered world.Down number)) _ (whole_world world.Down (λ j. refl) number)
    (whole_either (bytes_eq letter (codes "x")) (at_place Transmit place) _ (whole_place Transmit (λ link j. refl) place)
    (whole_either (bytes_eq letter (codes "y")) (at_place Deliver place) _ (whole_place Deliver (λ link j. refl) place)
    (whole_either (bytes_eq letter (codes "z")) (at_place Confirm place) (Err Form) (whole_place Confirm (λ link j. refl) place) tt)))))

abbrev IsWord : Option Event → Type 0
IsWord word = (line : List ℕ) → IfOk (link_event_by word line) IsWhole

whole_behind : IsWord None
whole_behind line =
    let letter = letter_event (before_first is_space line) (after_first is_space line) in
    whole_either (list_any is_space line) letter (Err Form) (whole_letter (before_first is_space line) (after_first is_space line)) tt

word_either : (test : Bool) (one other : Option Event) → IsWord one → IsWord other → IsWord (if test then one else other)
word_either true one other h k = h
word_either false one other h k = k

whole_line : (line : List ℕ) → IfOk (link_event_line line) IsWhole
whole_line line =
    word_either (bytes_eq line (codes "a")) (Some world.Admit) _ (λ l. refl)
    (word_either (bytes_eq line (codes "c")) (Some world.Send) _ (λ l. refl)
    (word_either (bytes_eq line (codes "w")) (Some world.Apply) _ (λ l. refl)
    (word_either (bytes_eq line (codes "k")) (Some world.Ack) None (λ l. refl) whole_behind))) line

whole_links : (text : List ℕ) → IfOk (link_schedule_of text) (All IsWhole)
whole_links text = all_of_most IsWhole most_events (line_values link_event_line 1 (lines text)) (all_lines IsWhole link_event_line whole_line 1 (lines text))

few_links : (given : Result (List LinkEvent) LinesError) → IfOk (at_most most_events given) (λ events. length events ≤ most_events)
few_links (Err e) = tt
few_links (Ok events) = elim (cases_Bool (nat_le (length events) most_events)) [
  | inl short ↦ rw short (grind (arith, nat_tests))
  | inr long ↦ rw long tt
]

both_fit : (given : Result (List LinkEvent) LinesError) → IfOk given (λ events. length events ≤ most_events) → IfOk given (All IsWhole) → IfOk given IsLinkSchedule
both_fit (Ok events) few whole = record { few = few; whole = whole }
both_fit (Err e) few whole = tt

pub links_fit : (text : List ℕ) → IfOk (link_schedule_of text) IsLinkSchedule
links_fit text = both_fit (link_schedule_of text) (few_links (line_values link_event_line 1 (lines text))) (whole_links text)

-- ---- what is printed reads back

pub on_ok : {A E : Type 0} {P Q : Type 0} (given : Result A E) → (P → Q) → OnOk given P → OnOk given Q
on_ok (Ok a) goes h = goes h
on_ok (Err e) goes h = tt

-- an event of the world is told as in a schedule
pub world_back : (event : Event) → IsLineOf event_line (event_text event) event → takes_stage (World event) ≡ false
    → IsLineOf link_event_line (event_text event) (World event)
world_back (world.Stage j) h whole = absurd (true≢false whole)
world_back (world.Serve j) h whole = record { whole = h.whole; told = h.told; says = ap in_world h.says }
world_back (world.Hold j) h whole = record { whole = h.whole; told = h.told; says = ap in_world h.says }
world_back (world.Down j) h whole = record { whole = h.whole; told = h.told; says = ap in_world h.says }
world_back _ h whole = record { whole = h.whole; told = h.told; says = refl }

place_plain : (link : Link) (j : ℕ) → j ≤ largest → list_all plain (place_text link j) ≡ true
place_plain Up j fits = digits_plain (decimal j) (decimal_digits j (omega arith))
place_plain _ j fits = digits_plain (decimal j) (decimal_digits j (omega arith))

place_back : (link : Link) (j : ℕ) → j ≤ largest → place_line (place_text link j) ≡ Ok (link, j)
place_back Up j fits = ap (place_with (Some Up)) (number_back largest j fits (omega arith))
place_back Down j fits = ap (place_with (Some Down)) (number_back largest j fits (omega arith))
place_back Ctl j fits = ap (place_with (Some Ctl)) (number_back largest j fits (omega arith))
place_back Ack j fits = ap (place_with (Some Ack)) (number_back largest j fits (omega arith))

pub transmit_back : (link : Link) (j : ℕ) → j ≤ largest → IsLineOf link_event_line (link_event_text (Transmit link j)) (Transmit link j)
transmit_back link j fits =
    record { whole = place_plain link j fits; told = refl; says = ap (at_place Transmit) (place_back link j fits) }

pub deliver_back : (link : Link) (j : ℕ) → j ≤ largest → IsLineOf link_event_line (link_event_text (Deliver link j)) (Deliver link j)
deliver_back link j fits =
    record { whole = place_plain link j fits; told = refl; says = ap (at_place Deliver) (place_back link j fits) }

pub confirm_back : (link : Link) (j : ℕ) → j ≤ largest → IsLineOf link_event_line (link_event_text (Confirm link j)) (Confirm link j)
confirm_back link j fits =
    record { whole = place_plain link j fits; told = refl; says = ap (at_place Confirm) (place_back link j fits) }

pub links_back : (events : List LinkEvent) → AreLines link_event_line link_event_text events → length events ≤ most_events
    → link_schedule_of (link_schedule_text events) ≡ Ok events
links_back events h few = ap (at_most most_events) (values_back link_event_line link_event_text events h) ∙ within most_events events few
