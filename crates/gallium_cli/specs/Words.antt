-- The words of a command.
use Rattle.std.specs.Prelude.{ℕ, Bool, true, false, ◌&&◌, List, [], ◌∷◌, Option, Some, None, if◌then◌else◌, codes}
use Rattle.std.specs.Prelude.{option_and_then, ◌==◌, ◌-◌, ◌^◌}
use Rattle.std.specs.Str.{bytes_eq}
use Rattle.gal_io.specs.Number.{number_up_to}
use Rattle.gallium_cli.specs.declared.words.Form.{Form}
use Rattle.gallium_cli.specs.declared.words.Form.TheVariants as forms
use Rattle.gallium_cli.specs.declared.words.SplitForm.{SplitForm}
use Rattle.gallium_cli.specs.declared.words.SplitForm.TheVariants as splits

-- whose split a replay goes by
pub data Splitting : Type 0 where
  -- every instruction is left to the server
  ServerAlone : Splitting
  -- it is the one that is chosen within the limits of a file, which may shrink to keep them or not
  Within : (limits : List ℕ) (shrink : Bool) → Splitting
  -- it is the one that a file spells, and has to keep the limits of another
  Spelled : (limits split : List ℕ) → Splitting

-- what a command asks for, with the names of its files
pub data Request : Type 0 where
  Run : (source trace : List ℕ) → Request
  Compile : (source limits : List ℕ) (shrink : Bool) → Request
  Replay : (source trace schedule : List ℕ) (by : Splitting) → Request
  -- a replay over links that lose, repeat and reorder, by the split that is chosen within the limits of a file
  Lossy : (source trace schedule limits : List ℕ) → Request
  Check : (source limits split : List ℕ) → Request
  -- whether a report of packets that came to a middlebox is true
  Audit : (source trace report : List ℕ) → Request
  -- one source of the chain of a file
  Chain : (wiring : List ℕ) → Request
  -- a replay of so many packets that are made from a number
  Gen : (seed count : ℕ) → Request
  -- the packets of a capture, each of which arrives by this port
  PcapIn : (capture : List ℕ) (port : ℕ) → Request
  -- a capture of the packets of a trace: its numbers have the highest byte first where `big`, and its fractions of
  -- seconds are nanoseconds where `nano`
  PcapOut : (trace : List ℕ) (big nano : Bool) → Request

-- a port in decimal
abbrev pub port_of : List ℕ → Option ℕ
port_of word = number_up_to 255 word

-- whether the highest byte comes first
abbrev pub order_of : List ℕ → Option Bool
order_of word =
    if bytes_eq word (codes "big") then Some true else (if bytes_eq word (codes "little") then Some false else None)

-- whether fractions are nanoseconds
abbrev pub unit_of : List ℕ → Option Bool
unit_of word =
    if bytes_eq word (codes "nano") then Some true else (if bytes_eq word (codes "micro") then Some false else None)

abbrev pub with_port : List ℕ → Option ℕ → Option Request
with_port capture (Some port) = Some (PcapIn capture port)
with_port capture None = None

abbrev pub with_kind : List ℕ → Option Bool → Option Bool → Option Request
with_kind trace (Some big) (Some nano) = Some (PcapOut trace big nano)
with_kind trace big nano = None

-- what these words behind `pcap` ask for
abbrev pub pcap_in : List ℕ → List ℕ → List ℕ → Option Request
pcap_in way capture port = if bytes_eq way (codes "in") then with_port capture (port_of port) else None

abbrev pub pcap_out : List ℕ → List ℕ → List ℕ → List ℕ → Option Request
pcap_out way trace order unit =
    if bytes_eq way (codes "out") then with_kind trace (order_of order) (unit_of unit) else None

-- a number of packets in decimal: at least one, and at most 16,384
abbrev pub count_of : List ℕ → Option ℕ
count_of word = option_and_then (λ count. if count == 0 then None else Some count) (number_up_to 16384 word)

abbrev pub with_count : Option ℕ → Option ℕ → Option Request
with_count (Some seed) (Some count) = Some (Gen seed count)
with_count seed count = None

-- what these words behind `gen` ask for: the seed is any number below 2 ^ 64 in decimal
abbrev pub made_by : List ℕ → List ℕ → Option Request
made_by seed count = with_count (number_up_to (2 ^ 64 - 1) seed) (count_of count)

-- what these words ask for: the place of a word alone tells what it is
abbrev pub request_of : List (List ℕ) → Option Request
request_of (word ∷ wiring ∷ []) = if bytes_eq word (codes "chain") then Some (Chain wiring) else None
request_of (word ∷ source ∷ second ∷ []) =
    if bytes_eq word (codes "run") then Some (Run source second)
    else (if bytes_eq word (codes "compile") then Some (Compile source second false)
    else (if bytes_eq word (codes "gen") then made_by source second else None))
request_of (word ∷ source ∷ second ∷ third ∷ []) =
    if bytes_eq word (codes "pcap") then pcap_in source second third
    else (if bytes_eq word (codes "replay") then Some (Replay source second third ServerAlone)
    else (if bytes_eq word (codes "check") then Some (Check source second third)
    else (if bytes_eq word (codes "audit") then Some (Audit source second third)
    else (if bytes_eq word (codes "compile") && bytes_eq third (codes "shrink") then Some (Compile source second true)
    else None))))
request_of (word ∷ source ∷ trace ∷ schedule ∷ limits ∷ []) =
    if bytes_eq word (codes "pcap") then pcap_out source trace schedule limits
    else (if bytes_eq word (codes "replay") then Some (Replay source trace schedule (Within limits false))
    else (if bytes_eq word (codes "lossy") then Some (Lossy source trace schedule limits) else None))
request_of (word ∷ source ∷ trace ∷ schedule ∷ limits ∷ last ∷ []) =
    if bytes_eq word (codes "replay") && bytes_eq last (codes "shrink")
    then Some (Replay source trace schedule (Within limits true))
    else None
request_of (word ∷ source ∷ trace ∷ schedule ∷ limits ∷ by ∷ split ∷ []) =
    if bytes_eq word (codes "replay") && bytes_eq by (codes "split")
    then Some (Replay source trace schedule (Spelled limits split))
    else None
request_of _ = None

abbrev pub split_asked : SplitForm → Splitting
split_asked splits.ServerAlone = ServerAlone
split_asked (splits.Within limits shrink) = Within limits.now shrink
split_asked (splits.Spelled limits split) = Spelled limits.now split.now

abbrev pub asked_by : Form → Request
asked_by (forms.Run source trace) = Run source.now trace.now
asked_by (forms.Compile source limits shrink) = Compile source.now limits.now shrink
asked_by (forms.Replay source trace schedule split) = Replay source.now trace.now schedule.now (split_asked split)
asked_by (forms.Lossy source trace schedule limits) = Lossy source.now trace.now schedule.now limits.now
asked_by (forms.Check source limits split) = Check source.now limits.now split.now
asked_by (forms.Audit source trace report) = Audit source.now trace.now report.now
asked_by (forms.Chain wiring) = Chain wiring.now
asked_by (forms.Gen seed count) = Gen seed count.packets
asked_by (forms.PcapIn capture port) = PcapIn capture.now port
asked_by (forms.PcapOut trace big nano) = PcapOut trace.now big nano

-- a replay, which is what calls the switch
abbrev pub is_replay : Request → Bool
is_replay (Replay s t c by) = true
is_replay (Lossy s t c l) = true
is_replay (Gen seed count) = true
is_replay _ = false
