-- Traces and schedules that are printed read back.
use Rattle.std.proofs.Common.{◌≡◌, ℕ, suc, inl, inr, ◌≤◌, ◌+◌, ◌/◌, ◌%◌, Bool, true, false, ◌&&◌, leb, eqb, List, [], ◌∷◌, ◌++◌, length, map, Some, None, refl, sym, ap, ◌∙◌, arith}
use Rattle.std.specs.Prelude.{Ok, codes, slice_index}
use Rattle.std.specs.Fmt.{decimal}
use Rattle.std.specs.Str.{bytes_eq}
use Rattle.std.specs.List.{list_all, list_any}
use Rattle.std.proofs.lemmas.Bool.{cases_lt, le-leb}
use Rattle.std.proofs.lemmas.Option.{none-some}
use Rattle.std.proofs.lemmas.Bool.Decides.{nat_tests}
use Rattle.std.proofs.lemmas.Fmt.{decimal_nonempty}
use Rattle.hex.specs.Hex.{IsBytes, encode_lower, encode_with, lower_digits, hex_digit_value, decode_of}
use Rattle.hex.proofs.HexLemmas.{decode_of-encode_lower, IsDigits-lower_digits}
use Rattle.gal_io.specs.Lines.{is_skipped, lines, lined}
use Rattle.packet_fields.specs.declared.packet.Packet.{Packet}
use Rattle.packet_fields.specs.Sizes.{largest_packet}
use Rattle.run_model.specs.declared.event.Event.{Event}
use Rattle.run_model.specs.declared.event.Event.TheVariants.{Admit, Stage, Serve, Hold, Down}
use Rattle.run_text.specs.declared.plan.Plan.{Plan}
use Rattle.run_text.specs.Body.{body_with, spelled}
use Rattle.run_text.specs.Report.{body_text}
use Rattle.run_text.specs.Printed.{IsLineOf, drain_lines, event_text, fine_lines, packet_text, schedule_text, trace_text}
use Rattle.run_model.specs.Sizes.{most_packets, most_events}
use Rattle.run_text.specs.Trace.{at_most, behind_fine, body_of, event_line, is_drain, largest, numbered, packet_line, plan_behind, plan_by, schedule_of, trace_of, values_until, short_bytes}
use Rattle.gal_io.proofs.ToldLines.{digits_plain, digits_told, plain}
use Rattle.gal_io.proofs.Spaces.{digits_unspaced, after_space, before_space, space_there}
use Rattle.run_text.proofs.LineSteps.{ahead_values, all_lines}
use Rattle.gal_io.proofs.NumberLemmas.{decimal_digits, number_back}
use Rattle.run_text.proofs.PrintedLines.{AreLines, lines_lined, none_lined, values_lined, values_back}
use Rattle.lemmas.proofs.Lists.{list_all_append, bytes_eq_same}
use Rattle.gal_io.specs.Number.{number_up_to}

-- ---- bodies

digit_plain : (c v : ℕ) → hex_digit_value c ≡ Some v → plain c ≡ true
digit_plain c v h = elim (cases_lt c 32) [
  | inl low ↦
      let f : leb 65 c ≡ false = grind (arith, nat_tests, low) in
      let g : leb 97 c ≡ false = grind (arith, nat_tests, low) in
      let k : leb 48 c ≡ false = grind (arith, nat_tests, low) in
      absurd (none-some v (rw (f, g, k) at h))
  | inr high ↦ le-leb 32 c high
]

encoded_plain : (bytes : List ℕ) → IsBytes bytes → list_all plain (encode_lower bytes) ≡ true
unfolding encode_with
encoded_plain [] h = refl
encoded_plain (b ∷ bytes) h =
    let small = h 0 in
    let first = digit_plain (slice_index lower_digits (b / 16)) (b / 16) (IsDigits-lower_digits (b / 16) (omega arith)) in
    let second = digit_plain (slice_index lower_digits (b % 16)) (b % 16) (IsDigits-lower_digits (b % 16) (omega arith)) in
    let rest = encoded_plain bytes (λ i. h (suc i)) in
    rw (first, second) rest

pub body_plain : (bytes : List ℕ) → IsBytes bytes → list_all plain (body_text bytes) ≡ true
body_plain [] h = refl
body_plain (b ∷ bytes) h = encoded_plain (b ∷ bytes) h

-- a body of two digits or more is no dash
digits_back : (x y : ℕ) (more bytes : List ℕ) → decode_of (x ∷ (y ∷ more)) ≡ Ok bytes → encode_lower bytes ≡ x ∷ (y ∷ more) → spelled (x ∷ (y ∷ more)) ≡ Some (body_with bytes true)
digits_back x y more bytes h e =
    let dash : bytes_eq (x ∷ (y ∷ more)) (codes "-") ≡ false = elim (eqb x 45) as (λ t. (t && false) ≡ false) [ true ↦ refl | false ↦ refl ] in
    rw (dash, h) (rw (e, bytes_eq_same (x ∷ (y ∷ more))) refl)

pub spelled_back : (bytes : List ℕ) → IsBytes bytes → spelled (body_text bytes) ≡ Some (body_with bytes true)
unfolding encode_with
spelled_back [] h = refl
spelled_back (b ∷ bytes) h =
    digits_back (slice_index lower_digits (b / 16)) (slice_index lower_digits (b % 16)) (encode_with lower_digits bytes) (b ∷ bytes) (decode_of-encode_lower (b ∷ bytes) h) refl

body_back : (bytes : List ℕ) → IsBytes bytes → length bytes ≤ largest_packet → body_of (body_text bytes) ≡ Ok bytes
body_back bytes h short = ap short_bytes (spelled_back bytes h) ∙ rw (le-leb (length bytes) largest_packet short) refl

pub within : {X : Type 0} (most : ℕ) (xs : List X) → length xs ≤ most → at_most most (Ok xs) ≡ Ok xs
within most xs few = rw (le-leb (length xs) most few) refl

-- ---- packets

pub packet_back : (packet : Packet) → packet.port ≤ 255 → IsBytes packet.bytes → length packet.bytes ≤ largest_packet → IsLineOf packet_line (packet_text packet) packet
packet_back packet fits bytes short =
    let port = decimal packet.port in
    let body = body_text packet.bytes in
    let digits = decimal_digits packet.port (omega arith) in
    record {
      whole = list_all_append plain port (32 ∷ body) (digits_plain port digits) (body_plain packet.bytes bytes);
      told = digits_told port (32 ∷ body) (decimal_nonempty packet.port (omega arith)) digits;
      says = rw (
        space_there port body,
        before_space port body (digits_unspaced port digits),
        after_space port body (digits_unspaced port digits),
        number_back 255 packet.port fits (omega arith),
        body_back packet.bytes bytes short,
      ) refl;
    }

pub trace_back : (packets : List Packet) → AreLines packet_line packet_text packets → length packets ≤ most_packets → trace_of (trace_text packets) ≡ Ok packets
trace_back packets h few = ap (at_most most_packets) (values_back packet_line packet_text packets h) ∙ within most_packets packets few

-- ---- events

-- a letter names an event of the item behind its space
pub record Names (letter : ℕ) (event : ℕ → Event) : Type 0 where
  pub line : (item : List ℕ) → event_line (letter ∷ 32 ∷ item) ≡ numbered event (number_up_to largest item)
  pub told : (item : List ℕ) → is_skipped (letter ∷ 32 ∷ item) ≡ false
  pub whole : plain letter ≡ true

pub names_serve : Names 117 Serve
names_serve = record { line = λ item. refl; told = λ item. refl; whole = refl }

pub names_hold : Names 104 Hold
names_hold = record { line = λ item. refl; told = λ item. refl; whole = refl }

pub names_down : Names 100 Down
names_down = record { line = λ item. refl; told = λ item. refl; whole = refl }

pub names_stage : Names 115 Stage
names_stage = record { line = λ item. refl; told = λ item. refl; whole = refl }

pub item_back : (letter : ℕ) (event : ℕ → Event) (j : ℕ) → Names letter event → j ≤ largest → IsLineOf event_line (letter ∷ 32 ∷ decimal j) (event j)
item_back letter event j names fits = record {
  whole = rw names.whole (digits_plain (decimal j) (decimal_digits j (omega arith)));
  told = names.told (decimal j);
  says = names.line (decimal j) ∙ ap (numbered event) (number_back largest j fits (omega arith));
}

no_drain : (event : Event) → is_drain (event_text event) ≡ false
no_drain Admit = refl
no_drain _ = refl

drain_read : (drain : Bool) → lines (lined (drain_lines drain)) ≡ drain_lines drain
drain_read true = refl
drain_read false = refl

drain_there : (drain : Bool) → list_any is_drain (drain_lines drain) ≡ drain
drain_there true = refl
drain_there false = refl

drain_alone : (drain : Bool) (m : ℕ) → ahead_values is_drain event_line false m (drain_lines drain) ≡ Ok []
drain_alone true m = refl
drain_alone false m = refl

-- the lines of events, with `drain` behind them where it is asked for
abbrev Lined : Plan → List (List ℕ)
Lined plan = map event_text plan.events ++ drain_lines plan.drain

lines_read : (plan : Plan) → AreLines event_line event_text plan.events → lines (lined (map event_text plan.events) ++ lined (drain_lines plan.drain)) ≡ Lined plan
lines_read plan h =
    lines_lined event_line event_text plan.events (lined (drain_lines plan.drain)) h ∙ ap (λ ls. map event_text plan.events ++ ls) (drain_read plan.drain)

-- they spell the plan, whatever stands in front of them
lines_planned : (plan : Plan) (n : ℕ) → AreLines event_line event_text plan.events → length plan.events ≤ most_events → plan_behind plan.fine n (Lined plan) ≡ Ok plan
lines_planned plan n h few =
    let events = plan.events in
    let behind = drain_lines plan.drain in
    let drain : list_any is_drain (Lined plan) ≡ plan.drain = none_lined is_drain event_text events behind no_drain ∙ drain_there plan.drain in
    let values : values_until is_drain event_line (n + 1) (Lined plan) ≡ Ok events =
    sym (all_lines is_drain event_line (n + 1) (Lined plan)) ∙ values_lined is_drain event_line event_text events (n + 1) behind h no_drain (drain_alone plan.drain) in
    rw (drain, values, within most_events events few) refl

no_fine_drain : (drain : Bool) → behind_fine 0 (drain_lines drain) ≡ None
no_fine_drain true = refl
no_fine_drain false = refl

-- no event is the word `fine`
no_fine : (events : List Event) (drain : Bool) → behind_fine 0 (map event_text events ++ drain_lines drain) ≡ None
no_fine [] drain = no_fine_drain drain
no_fine (Admit ∷ events) drain = refl
no_fine (_ ∷ events) drain = refl

fine_read : (text : List ℕ) → lines (lined (fine_lines true) ++ text) ≡ codes "fine" ∷ lines text
fine_read text = refl

planned_by : (plan : Plan) (fine : Bool) (text : List ℕ) → plan.fine ≡ fine → lines text ≡ Lined plan
    → ((n : ℕ) → plan_behind fine n (Lined plan) ≡ Ok plan) → schedule_of (lined (fine_lines fine) ++ text) ≡ Ok plan
planned_by plan true text is read told =
    ap (λ ls. plan_by ls (behind_fine 0 ls)) (fine_read text) ∙ ap (plan_behind true 1) read ∙ told 1
planned_by plan false text is read told =
    ap (λ ls. plan_by ls (behind_fine 0 ls)) read ∙ ap (plan_by (Lined plan)) (no_fine plan.events plan.drain) ∙ told 0

pub schedule_back : (plan : Plan) → AreLines event_line event_text plan.events → length plan.events ≤ most_events → schedule_of (schedule_text plan) ≡ Ok plan
schedule_back plan h few = planned_by plan plan.fine _ refl (lines_read plan h) (λ n. lines_planned plan n h few)
