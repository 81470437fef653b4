-- What is known of a report when so many of its lines were read, and what one line more tells.
use Rattle.std.specs.Prelude.{◌≡◌, ℕ, zero, suc, ◌+◌, ◌*◌, ◌-◌, ◌^◌, Bool, true, false, ◌||◌, ◌&&◌, List, [], ◌∷◌, ◌++◌}
use Rattle.std.specs.Prelude.{length, nat_lt, nat_le, ◌==◌, codes, if◌then◌else◌, Option, Some, None, slice_get}
use Rattle.std.specs.Prelude.{slice_index, drop}
use Rattle.std.specs.Str.{bytes_eq}
use Rattle.std.specs.Ordering.{is_lt}
use Rattle.gal_io.specs.Lines.{is_skipped}
use Rattle.state_store.specs.declared.object.ObjectDecl.{ObjectDecl}
use Rattle.state_store.specs.declared.object.Row.{Row}
use Rattle.state_store.specs.Kinds.{is_table}
use Rattle.state_store.specs.Store.{key_cmp}
use Rattle.run_model.specs.declared.fate.Fate.{Fate}
use Rattle.run_model.specs.declared.run.ObjectRows.{ObjectRows}
use Rattle.run_model.specs.declared.run.Run.{Run}
use Rattle.report_text.specs.declared.head.PacketCounts.{PacketCounts}
use Rattle.report_text.specs.declared.head.EventCounts.{EventCounts}
use Rattle.report_text.specs.declared.head.Versions.{Versions}
use Rattle.report_text.specs.declared.stage.Side.{Side}
use Rattle.report_text.specs.declared.stage.Side.TheVariants.{OnServer, OnSwitch}
use Rattle.report_text.specs.declared.stage.Stage.{Stage}
use Rattle.report_text.specs.declared.stage.Stage.TheVariants.{Title, Packets, Events, Version, Drained, Fates}
use Rattle.report_text.specs.declared.stage.Stage.TheVariants.{Server, Switch, Table, Ended}
use Rattle.report_text.specs.Parse.{◌>>=◌, counts_of, events_of, versions_of, fate_of, order_of, row_of, count_of}
use Rattle.report_text.specs.Parse.{most_of}

-- the parts that were read, the rows of the part that is being read, and what is awaited
pub record State : Type 0 where
  pub counts : PacketCounts
  pub events : EventCounts
  pub versions : Versions
  pub drained : Bool
  pub fates : List Fate
  pub order : List ℕ
  pub server : List ObjectRows
  pub switch : List ObjectRows
  pub rows : List Row
  pub stage : Stage

abbrev pub no_counts : PacketCounts
no_counts = record { total = 0; admitted = 0; decided = 0; released = 0 }

-- before the first line
abbrev pub at_start : State
at_start = record {
  counts = no_counts;
  events = record { events = 0; idle = 0 };
  versions = record { version = 0; visible = 0 };
  drained = false;
  fates = [];
  order = [];
  server = [];
  switch = [];
  rows = [];
  stage = Title;
}

-- How many keys are greater than this one, where so many are by the numbers in front. Numbers that are missing are 0.
abbrev pub keys_above : ℕ → List ℕ → List ℕ → ℕ
keys_above above [] key = above
keys_above above (w ∷ ws) key = keys_above (above * 2 ^ w + (most_of w - slice_index key 0)) ws (drop 1 key)

abbrev pub is_behind : Option Row → List ℕ → Bool
is_behind None key = true
is_behind (Some row) key = is_lt (key_cmp row.keys key)

-- the key of the last of these rows is less
abbrev pub is_after : List Row → List ℕ → Bool
is_after rows key = is_behind (slice_get rows (length rows - 1)) key

-- the part that was read is put behind the others
abbrev pub closed_by : Side → ObjectRows → State → State
closed_by OnServer part s =
    record s { server = s.server ++ part ∷ []; rows = []; stage = Server (part.object + 1) }
closed_by OnSwitch part s =
    record s { switch = s.switch ++ part ∷ []; rows = []; stage = Switch (part.object + 1) }

-- the part of an object ends where no row is left
abbrev pub with_left : Side → ℕ → ℕ → State → State
with_left side number zero s = closed_by side (record { object = number; rows = s.rows }) s
with_left side number (suc behind) s = record s { stage = Table side number behind }

abbrev pub then_put : {X : Type 0} → (X → State) → Option X → Option State
then_put put None = None
then_put put (Some x) = Some (put x)

-- the answer to a line, and what is known then, are what it tells
abbrev pub taken : Bool → State → Option State → Type 0
taken true now told = told ≡ Some now
taken false now told = told ≡ None

abbrev pub title_read : State → List ℕ → Option State
title_read s line = if bytes_eq line (codes "report 1") then Some (record s { stage = Packets }) else None

-- no packet can be named on the order line where none was admitted
abbrev pub counts_read : State → Option PacketCounts → Option State
counts_read s None = None
counts_read s (Some c) =
    if c.decided == 0 || nat_lt 0 c.admitted then Some (record s { counts = c; stage = Events }) else None

abbrev pub events_read : State → Option EventCounts → Option State
events_read s events = then_put (λ e. record s { events = e; stage = Version }) events

abbrev pub versions_read : State → Option Versions → Option State
versions_read s versions = then_put (λ v. record s { versions = v; stage = Drained }) versions

abbrev pub drained_read : State → List ℕ → Option State
drained_read s line =
    if bytes_eq line (codes "drained yes") then Some (record s { drained = true; stage = Fates })
    else (if bytes_eq line (codes "drained no") then Some (record s { drained = false; stage = Fates })
    else None)

abbrev pub fate_read : State → Option Fate → Option State
fate_read s fate = then_put (λ f. record s { fates = s.fates ++ f ∷ [] }) fate

abbrev pub order_read : State → Option (List ℕ) → Option State
order_read s order = then_put (λ o. record s { order = o; stage = Server 0 }) order

-- a line for each admitted packet, and the order line behind them
abbrev pub packet_read : State → List ℕ → Option State
packet_read s line =
    if nat_lt (length s.fates) s.counts.admitted then fate_read s (fate_of (length s.fates) line)
    else order_read s (order_of s.counts.decided s.counts.admitted line)

abbrev pub has_keys : ℕ → List ℕ → Bool
has_keys count widths = count == 0 || nat_le (count - 1) (keys_above 0 widths [])

-- the line that begins the part of an object, where there are keys for so many rows
abbrev pub part_opened : Side → ℕ → ℕ → State → Option ObjectDecl → Option State
part_opened side number count s None = None
part_opened side number count s (Some object) =
    if has_keys count object.keys then Some (with_left side number count s) else None

-- the first object that is no table and has this switch line, of those from number n on, and its number of rows
abbrev pub shown_or : ℕ → Option ℕ → Option (ℕ × ℕ) → Option (ℕ × ℕ)
shown_or n (Some count) other = Some (n, count)
shown_or n None other = other

abbrev pub shown_count : ObjectDecl → List ℕ → Option ℕ
shown_count object line = if is_table object.kind then None else count_of (codes "switch ") object.name line

abbrev pub shown_from : ℕ → List ObjectDecl → List ℕ → Option (ℕ × ℕ)
shown_from n [] line = None
shown_from n (object ∷ objects) line = shown_or n (shown_count object line) (shown_from (suc n) objects line)

abbrev pub shown_opened : List ObjectDecl → State → Option (ℕ × ℕ) → Option State
shown_opened declared s None = None
shown_opened declared s (Some x) = part_opened OnSwitch x.0 x.1 s (slice_get declared x.0)

-- the last line, or the part of an object from this number on
abbrev pub switch_read : List ObjectDecl → State → ℕ → List ℕ → Option State
switch_read declared s n line =
    if bytes_eq line (codes "end") then Some (record s { stage = Ended })
    else shown_opened declared s (shown_from n (drop n declared) line)

-- the first object that is no table, of those from number n on
abbrev pub next_from : ℕ → List ObjectDecl → Option ℕ
next_from n [] = None
next_from n (object ∷ objects) = if is_table object.kind then next_from (suc n) objects else Some n

abbrev pub count_by : List ℕ → Option ObjectDecl → Option ℕ
count_by line None = None
count_by line (Some object) = count_of (codes "object ") object.name line

abbrev pub server_opened : List ObjectDecl → State → ℕ → Option ℕ → Option State
server_opened declared s number None = None
server_opened declared s number (Some count) = part_opened OnServer number count s (slice_get declared number)

abbrev pub server_by : List ObjectDecl → State → List ℕ → Option ℕ → Option State
server_by declared s line None = switch_read declared s 0 line
server_by declared s line (Some number) = server_opened declared s number (count_by line (slice_get declared number))

abbrev pub server_read : List ObjectDecl → State → ℕ → List ℕ → Option State
server_read declared s n line = server_by declared s line (next_from n (drop n declared))

-- a row that has a greater key than those before it, and leaves keys for those behind it
abbrev pub row_put : Side → ℕ → ℕ → State → ObjectDecl → Option Row → Option State
row_put side number behind s object None = None
row_put side number behind s object (Some row) =
    if is_after s.rows row.keys && nat_le behind (keys_above 0 object.keys row.keys)
    then Some (with_left side number behind (record s { rows = s.rows ++ row ∷ [] })) else None

abbrev pub row_read : Side → ℕ → ℕ → State → List ℕ → Option ObjectDecl → Option State
row_read side number behind s line None = None
row_read side number behind s line (Some object) =
    row_put side number behind s object (row_of object.keys object.values line)

abbrev pub step_at : List ObjectDecl → State → List ℕ → Stage → Option State
step_at declared s line Title = title_read s line
step_at declared s line Packets = counts_read s (counts_of line)
step_at declared s line Events = events_read s (events_of line)
step_at declared s line Version = versions_read s (versions_of line)
step_at declared s line Drained = drained_read s line
step_at declared s line Fates = packet_read s line
step_at declared s line (Server n) = server_read declared s n line
step_at declared s line (Switch n) = switch_read declared s n line
step_at declared s line (Table side number behind) =
    row_read side number behind s line (slice_get declared number)
step_at declared s line Ended = None

-- what one line more tells, if a report can have it there
abbrev pub step : List ObjectDecl → State → List ℕ → Option State
step declared s line = step_at declared s line s.stage

-- the same of any line
abbrev pub line_read : List ObjectDecl → State → List ℕ → Option State
line_read declared s line = if is_skipped line then Some s else step declared s line

-- the run that was told
abbrev pub run_of : State → Run
run_of s = record {
  total = s.counts.total;
  decided = s.counts.decided;
  released = s.counts.released;
  events = s.events.events;
  idle = s.events.idle;
  version = s.versions.version;
  visible = s.versions.visible;
  drained = s.drained;
  fates = s.fates;
  order = s.order;
  objects = s.server;
  switch = s.switch;
}

abbrev pub ended_by : State → Stage → Option Run
ended_by s Ended = Some (run_of s)
ended_by s _ = None

-- the run, where no line is awaited
abbrev pub ended : State → Option Run
ended s = ended_by s s.stage

-- the run that these lines tell behind those that were read
abbrev pub resume : List ObjectDecl → State → List (List ℕ) → Option Run
resume declared s [] = ended s
resume declared s (line ∷ ls) = step declared s line >>= (λ t. resume declared t ls)
