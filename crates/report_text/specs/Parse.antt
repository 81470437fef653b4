-- What the lines of a report spell, one by one.
use Rattle.std.specs.Prelude.{ℕ, zero, suc, ◌-◌, ◌^◌, List, [], ◌∷◌, ◌++◌, length, take, drop, nat_lt, ◌==◌}
use Rattle.std.specs.Prelude.{codes}
use Rattle.std.specs.Prelude.{if◌then◌else◌, Option, Some, None}
use Rattle.std.specs.Str.{bytes_eq}
use Rattle.std.specs.List.{position_or_len}
use Rattle.gal_io.specs.Number.{number_up_to}
use Rattle.packet_fields.specs.declared.verdict.Verdict.{Verdict}
use Rattle.packet_fields.specs.declared.verdict.Verdict.TheVariants.{Drop, Send}
use Rattle.state_store.specs.declared.object.Row.{Row}
use Rattle.run_model.specs.declared.fate.Fate.{Fate}
use Rattle.run_model.specs.declared.fate.Fate.TheVariants.{Pass, Up, Held, Slow, Fast}
use Rattle.run_text.specs.declared.body.Body.{Body}
use Rattle.run_text.specs.Body.{spelled}
use Rattle.gal_io.specs.Lines.{is_space}
use Rattle.run_text.specs.Trace.{largest}
use Rattle.report_text.specs.declared.head.PacketCounts.{PacketCounts}
use Rattle.report_text.specs.declared.head.EventCounts.{EventCounts}
use Rattle.report_text.specs.declared.head.Versions.{Versions}
use Rattle.report_text.specs.declared.fate.Stamps.{Stamps}

infixl 10 ◌>>=◌
abbrev pub ◌>>=◌ : {A B : Type 0} → Option A → (A → Option B) → Option B
(Some a) >>= f = f a
None >>= f = None

-- what follows the word that the line begins with
abbrev pub after : List ℕ → List ℕ → Option (List ℕ)
after word line =
    if nat_lt (length line) (length word) then None
    else (if bytes_eq (take (length word) line) word then Some (drop (length word) line) else None)

-- the value, where nothing follows
abbrev pub whole : {A : Type 0} → A → List ℕ → Option A
whole a [] = Some a
whole a (byte ∷ rest) = None

abbrev pub number_with : Option ℕ → List ℕ → Option (ℕ × List ℕ)
number_with None rest = None
number_with (Some n) rest = Some (n, rest)

-- the number up to the first space, and what follows it from that space on
unfoldable pub number_at : ℕ → List ℕ → Option (ℕ × List ℕ)
number_at most line =
    let at = position_or_len is_space line in number_with (number_up_to most (take at line)) (drop at line)

-- the number behind a word
unfoldable pub labelled : ℕ → List ℕ → List ℕ → Option (ℕ × List ℕ)
labelled most word line = after word line >>= number_at most

unfoldable pub counts_of : List ℕ → Option PacketCounts
counts_of line = do
  total ← labelled largest (codes "packets ") line
  admitted ← labelled largest (codes " admitted ") total.1
  decided ← labelled largest (codes " decided ") admitted.1
  released ← labelled largest (codes " released ") decided.1
  whole (record { total = total.0; admitted = admitted.0; decided = decided.0; released = released.0 }) released.1

unfoldable pub events_of : List ℕ → Option EventCounts
events_of line = do
  events ← labelled largest (codes "events ") line
  idle ← labelled largest (codes " idle ") events.1
  whole (record { events = events.0; idle = idle.0 }) idle.1

unfoldable pub versions_of : List ℕ → Option Versions
versions_of line = do
  version ← labelled largest (codes "version ") line
  visible ← labelled largest (codes " visible ") version.1
  whole (record { version = version.0; visible = visible.0 }) visible.1

-- its bytes, where they are printed so
abbrev pub as_printed : Option Body → Option (List ℕ)
as_printed (Some body) = if body.printed then Some body.bytes else None
as_printed None = None

-- the bytes of a packet in lower-case digits, or `-` for none
abbrev pub body_at : List ℕ → Option (List ℕ)
body_at body = as_printed (spelled body)

abbrev pub send_at : List ℕ → Option Verdict
send_at line = do
  port ← labelled 255 (codes " send ") line
  body ← after (codes " ") port.1
  bytes ← body_at body
  Some (Send port.0 bytes)

unfoldable pub verdict_at : List ℕ → Option Verdict
verdict_at line = if bytes_eq line (codes " drop") then Some Drop else send_at line

unfoldable pub released_at : List ℕ → Option (ℕ × Verdict)
released_at line = do
  released ← labelled largest (codes " released ") line
  verdict ← verdict_at released.1
  Some (released.0, verdict)

unfoldable pub stamps_at : List ℕ → Option (Stamps × List ℕ)
stamps_at line = do
  admitted ← labelled largest (codes " admitted ") line
  decided ← labelled largest (codes " decided ") admitted.1
  version ← labelled largest (codes " version ") decided.1
  Some (record { admitted = admitted.0; decided = decided.0; version = version.0 }, version.1)

-- the event that admitted a packet, of which nothing else is told
unfoldable pub admitted_at : List ℕ → Option ℕ
admitted_at line = do
  admitted ← labelled largest (codes " admitted ") line
  whole admitted.0 admitted.1

abbrev pub pass_at : List ℕ → Option Fate
pass_at line = admitted_at line >>= (λ admitted. Some (Pass admitted))

abbrev pub up_at : List ℕ → Option Fate
up_at line = admitted_at line >>= (λ admitted. Some (Up admitted))

abbrev pub slow_by : Stamps → ℕ × Verdict → Fate
slow_by s o = Slow s.admitted s.decided s.version o.0 o.1

abbrev pub fast_by : Stamps → ℕ × Verdict → Fate
fast_by s o = Fast s.admitted s.decided s.version o.0 o.1

-- what follows the stamps of a packet that the server ran
abbrev pub held_or : Stamps → List ℕ → Option Fate
held_or s line =
    if bytes_eq line (codes " held") then Some (Held s.admitted s.decided s.version)
    else (released_at line >>= (λ o. Some (slow_by s o)))

unfoldable pub slow_at : List ℕ → Option Fate
slow_at line = stamps_at line >>= (λ s. held_or s.0 s.1)

unfoldable pub fast_at : List ℕ → Option Fate
fast_at line = do
  s ← stamps_at line
  o ← released_at s.1
  Some (fast_by s.0 o)

-- the first of these that is there
abbrev pub or_else : {A : Type 0} → Option (List ℕ) → (List ℕ → Option A) → Option A → Option A
or_else (Some rest) f other = f rest
or_else None f other = other

abbrev pub path_at : List ℕ → Option Fate
path_at line =
    or_else (after (codes " pass") line) pass_at
    (or_else (after (codes " up") line) up_at
    (or_else (after (codes " slow") line) slow_at
    (after (codes " fast") line >>= fast_at)))

-- the fate of the packet of this number
unfoldable pub fate_of : ℕ → List ℕ → Option Fate
fate_of number line = do
  packet ← labelled largest (codes "packet ") line
  (if packet.0 == number then path_at packet.1 else None)

-- a number below a bound, behind a space
abbrev pub below : ℕ → ℕ × List ℕ → Option (ℕ × List ℕ)
below bound x = if nat_lt x.0 bound then Some x else None

unfoldable pub number_below : ℕ → List ℕ → Option (ℕ × List ℕ)
number_below bound line = labelled largest (codes " ") line >>= below bound

-- so many such numbers, behind those that were read
abbrev pub numbers_at : List ℕ → ℕ → ℕ → List ℕ → Option (List ℕ × List ℕ)
numbers_at before zero bound line = Some (before, line)
numbers_at before (suc n) bound line =
    number_below bound line >>= (λ x. numbers_at (before ++ x.0 ∷ []) n bound x.1)

-- so many, and nothing behind them
abbrev pub all_numbers : ℕ → ℕ → List ℕ → Option (List ℕ)
all_numbers n bound line = numbers_at [] n bound line >>= (λ all. whole all.0 all.1)

abbrev pub order_at : ℕ → ℕ → List ℕ → Option (List ℕ)
order_at count bound line =
    if nat_lt 0 count then all_numbers count bound line
    else (if bytes_eq line (codes " -") then Some [] else None)

unfoldable pub order_of : ℕ → ℕ → List ℕ → Option (List ℕ)
order_of count bound line = after (codes "order") line >>= order_at count bound

-- the greatest number of a width, at most 64 bits
abbrev pub most_of : ℕ → ℕ
most_of w = if nat_lt w 64 then 2 ^ w - 1 else 2 ^ 64 - 1

-- a number of a width before a space
unfoldable pub key_number : ℕ → List ℕ → Option (ℕ × List ℕ)
key_number w line = do
  number ← number_at (most_of w) line
  rest ← after (codes " ") number.1
  Some (number.0, rest)

-- the numbers of a key, behind those that were read
abbrev pub keys_at : List ℕ → List ℕ → List ℕ → Option (List ℕ × List ℕ)
keys_at before [] line = Some (before, line)
keys_at before (w ∷ ws) line = key_number w line >>= (λ x. keys_at (before ++ x.0 ∷ []) ws x.1)

-- the numbers of a value, each behind a space, behind those that were read
abbrev pub values_at : List ℕ → List ℕ → List ℕ → Option (List ℕ × List ℕ)
values_at before [] line = Some (before, line)
values_at before (w ∷ ws) line =
    labelled (most_of w) (codes " ") line >>= (λ x. values_at (before ++ x.0 ∷ []) ws x.1)

unfoldable pub row_of : List ℕ → List ℕ → List ℕ → Option Row
row_of keys values line = do
  key ← keys_at [] keys line
  rest ← after (codes "->") key.1
  value ← values_at [] values rest
  whole (record { keys = key.0; values = value.0 }) value.1

-- the number of rows of the object of this name
unfoldable pub count_of : List ℕ → List ℕ → List ℕ → Option ℕ
count_of word name line = do
  rest ← after word line
  named ← after name rest
  count ← labelled largest (codes " ") named
  whole count.0 count.1
