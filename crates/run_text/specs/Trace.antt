-- The text of a trace, and of a schedule: which values a text spells, or why it is refused.
use Rattle.std.specs.Prelude.{ℕ, suc, ◌+◌, ◌-◌, ◌^◌, Bool, true, false, List, [], ◌∷◌, ◌++◌, length, nat_le}
use Rattle.std.specs.Prelude.{if◌then◌else◌, Option, Some, None, Result, Ok, Err, codes}
use Rattle.std.specs.Str.{bytes_eq}
use Rattle.std.specs.List.{before_first, after_first, list_any}
use Rattle.gal_io.specs.Lines.{is_skipped, is_space, lines}
use Rattle.gal_io.specs.Number.{number_up_to}
use Rattle.packet_fields.specs.declared.packet.Packet.{Packet}
use Rattle.run_model.specs.declared.event.Event.{Event}
use Rattle.run_model.specs.declared.event.Event.TheVariants.{Admit, Stage, Serve, Send, Apply, Ack, Hold, Down}
use Rattle.run_text.specs.declared.body.Body.{Body}
use Rattle.run_text.specs.declared.plan.Plan.{Plan}
use Rattle.run_text.specs.declared.refusal.LineKind.{LineKind}
use Rattle.run_text.specs.declared.refusal.LineKind.TheVariants.{Form, Number, Hex, Long, AfterDrain}
use Rattle.run_text.specs.declared.refusal.LinesError.{LinesError}
use Rattle.run_text.specs.declared.refusal.LinesError.TheVariants.{Line, TooMany}
use Rattle.packet_fields.specs.Sizes.{largest_packet}
use Rattle.run_text.specs.Body.{spelled}
use Rattle.run_model.specs.Sizes.{most_packets, most_events}

-- a value in front of those of the lines behind
abbrev pub in_front : {X : Type 0} → X → Result (List X) LinesError → Result (List X) LinesError
in_front x (Ok xs) = Ok (x ∷ xs)
in_front x (Err e) = Err e

-- what a line gives, in front of what the lines behind it give; a refused line comes before any behind it
abbrev pub with_line : {X : Type 0} → ℕ → Result X LineKind → Result (List X) LinesError → Result (List X) LinesError
with_line n (Ok x) behind = in_front x behind
with_line n (Err kind) behind = Err (Line n kind)

-- the values of lines that are numbered from n on, one for each line that isn't skipped, or the first refused line
abbrev pub line_values : {X : Type 0} → (List ℕ → Result X LineKind) → ℕ → List (List ℕ) → Result (List X) LinesError
line_values value n [] = Ok []
line_values value n (l ∷ ls) =
    if is_skipped l then line_values value (suc n) ls else with_line n (value l) (line_values value (suc n) ls)

-- the values of lines, and then of those behind them
abbrev pub followed_by : {X : Type 0} → Result (List X) LinesError → Result (List X) LinesError
    → Result (List X) LinesError
followed_by (Ok xs) (Ok ys) = Ok (xs ++ ys)
followed_by (Ok xs) (Err e) = Err e
followed_by (Err e) behind = Err e

-- a line that stands where none may
abbrev pub after_drain : {X : Type 0} → List ℕ → Result X LineKind
after_drain line = Err AfterDrain

-- the values of the lines before the first one that ends them, which are numbered from n on; behind that one, none may
-- stand
abbrev pub values_until : {X : Type 0} → (List ℕ → Bool) → (List ℕ → Result X LineKind) → ℕ → List (List ℕ)
    → Result (List X) LinesError
values_until ends value n ls =
    let before = before_first ends ls in
    followed_by (line_values value n before) (line_values after_drain (length before + suc n) (after_first ends ls))

-- at most so many values; their number is tested where no line is refused
abbrev pub at_most : {X : Type 0} → ℕ → Result (List X) LinesError → Result (List X) LinesError
at_most most (Ok xs) = if nat_le (length xs) most then Ok xs else Err (TooMany (length xs) most)
at_most most (Err e) = Err e

-- its bytes, where a packet may have so many
abbrev pub short_bytes : Option Body → Result (List ℕ) LineKind
short_bytes (Some body) = if nat_le (length body.bytes) largest_packet then Ok body.bytes else Err Long
short_bytes None = Err Hex

-- the bytes that the body of a line spells
abbrev pub body_of : List ℕ → Result (List ℕ) LineKind
body_of body = short_bytes (spelled body)

abbrev pub packet_with : ℕ → Result (List ℕ) LineKind → Result Packet LineKind
packet_with port (Ok bytes) = Ok (record { port = port; bytes = bytes })
packet_with port (Err kind) = Err kind

abbrev pub packet_by : Option ℕ → List ℕ → Result Packet LineKind
packet_by None body = Err Number
packet_by (Some port) body = packet_with port (body_of body)

-- A line of a trace is a port, a space and a body. The first space divides.
abbrev pub packet_line : List ℕ → Result Packet LineKind
packet_line line =
    if list_any is_space line then packet_by (number_up_to 255 (before_first is_space line)) (after_first is_space line)
    else Err Form

-- the packets that the text of a trace spells
abbrev pub trace_of : List ℕ → Result (List Packet) LinesError
trace_of text = at_most most_packets (line_values packet_line 1 (lines text))

abbrev pub numbered : (ℕ → Event) → Option ℕ → Result Event LineKind
numbered event None = Err Number
numbered event (Some j) = Ok (event j)

-- the largest number of an item
abbrev pub largest : ℕ
largest = 2 ^ 32 - 1

-- a space and a number below 2 ^ 32 behind the first letter
abbrev pub item_line : (ℕ → Event) → List ℕ → Result Event LineKind
item_line event line =
    if list_any is_space line then numbered event (number_up_to largest (after_first is_space line)) else Err Form

-- the events that name no item
abbrev pub word_event : List ℕ → Option Event
word_event line =
    if bytes_eq line (codes "a") then Some Admit
    else (if bytes_eq line (codes "c") then Some Send
    else (if bytes_eq line (codes "w") then Some Apply
    else (if bytes_eq line (codes "k") then Some Ack
    else None)))

abbrev pub event_by : Option Event → List ℕ → Result Event LineKind
event_by (Some event) line = Ok event
event_by None line =
    let letter = before_first is_space line in
    if bytes_eq letter (codes "u") then item_line Serve line
    else (if bytes_eq letter (codes "h") then item_line Hold line
    else (if bytes_eq letter (codes "d") then item_line Down line
    else (if bytes_eq letter (codes "s") then item_line Stage line
    else Err Form)))

-- A line of a schedule is one of `a`, `c`, `w` and `k`, or one of `u`, `h`, `d` and `s`, a space and a number below
-- 2 ^ 32.
abbrev pub event_line : List ℕ → Result Event LineKind
event_line line = event_by (word_event line) line

-- the line that ends a schedule
abbrev pub is_drain : List ℕ → Bool
is_drain line = bytes_eq line (codes "drain")

-- the word that begins a schedule whose passes take an event for each stage
abbrev pub is_fine : List ℕ → Bool
is_fine line = bytes_eq line (codes "fine")

-- How many lines there are up to the word `fine`, and those behind it, where it is the first line that isn't skipped.
-- In front of these stand n others.
abbrev pub behind_fine : ℕ → List (List ℕ) → Option (ℕ × List (List ℕ))
behind_fine n [] = None
behind_fine n (l ∷ ls) =
    if is_skipped l then behind_fine (n + 1) ls else (if is_fine l then Some (n + 1, ls) else None)

abbrev pub plan_of : Bool → Bool → Result (List Event) LinesError → Result Plan LinesError
plan_of fine drain (Ok events) = Ok (record { fine = fine; events = events; drain = drain })
plan_of fine drain (Err e) = Err e

-- the plan that lines spell in front of which n others stand: their events, and whether `drain` stands behind them
abbrev pub plan_behind : Bool → ℕ → List (List ℕ) → Result Plan LinesError
plan_behind fine n ls =
    plan_of fine (list_any is_drain ls) (at_most most_events (values_until is_drain event_line (n + 1) ls))

abbrev pub plan_by : List (List ℕ) → Option (ℕ × List (List ℕ)) → Result Plan LinesError
plan_by ls None = plan_behind false 0 ls
plan_by ls (Some (n, behind)) = plan_behind true n behind

-- the plan that the text of a schedule spells; it is fine where its first line says so
abbrev pub schedule_of : List ℕ → Result Plan LinesError
schedule_of text = plan_by (lines text) (behind_fine 0 (lines text))
