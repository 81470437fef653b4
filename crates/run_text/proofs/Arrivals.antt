-- Each packet of a trace may arrive.
use Rattle.std.proofs.Common.{◌≡◌, ap, refl, ℕ, ◌≤◌, true, false, inl, inr, List, [], ◌∷◌, length, arith}
use Rattle.std.specs.Prelude.{IfOk, Option, Some, None, Result, Ok, Err, codes, nat_le, if◌then◌else◌}
use Rattle.std.specs.List.{after_first, before_first, list_any}
use Rattle.std.specs.Str.{bytes_eq}
use Rattle.std.proofs.lemmas.Bool.Decides.{nat_tests}
use Rattle.std.proofs.lemmas.Bool.{cases_Bool}
use Rattle.hex.specs.Hex.{IsBytes, decode_of}
use Rattle.hex.specs.declared.error.FromHexError.{FromHexError}
use Rattle.hex.proofs.HexLemmas.{decode_of-ok}
use Rattle.gal_io.specs.Lines.{lines, is_space}
use Rattle.gal_io.specs.Number.{number_up_to}
use Rattle.packet_fields.specs.Arrivals.{AreArrivals, IsArrival}
use Rattle.packet_fields.specs.Sizes.{largest_packet}
use Rattle.run_text.specs.Body.{body_with, spelled_by}
use Rattle.run_text.specs.Trace.{at_most, body_of, line_values, packet_by, packet_line, packet_with, short_bytes, trace_of, values_until}
use Rattle.run_text.specs.declared.refusal.LineKind.{LineKind}
use Rattle.run_text.specs.declared.refusal.LineKind.TheVariants.{Form}
use Rattle.run_text.proofs.LineSteps.{none_ends}
use Rattle.run_text.proofs.AllValues.{all_lines, all_of_most}
use Rattle.gal_io.proofs.NumberLemmas.{number_small}
use Rattle.run_model.specs.Sizes.{most_packets}

-- ---- a line of a trace

record IsBody (body : List ℕ) : Type 0 where
  bytes : IsBytes body
  size : length body ≤ largest_packet

decoded : (body : List ℕ) (given : Result (List ℕ) FromHexError) → decode_of body ≡ given → IfOk given IsBytes
decoded body (Ok bytes) h = (decode_of-ok body bytes h).3
decoded body (Err e) h = tt

few_bytes : (body : List ℕ) (given : Result (List ℕ) FromHexError) → IfOk given IsBytes → IfOk (short_bytes (spelled_by body given)) IsBody
few_bytes body (Err e) h = tt
few_bytes body (Ok bytes) h = elim (cases_Bool (nat_le (length bytes) largest_packet)) [
  | inl short ↦ rw short (record { bytes = h; size = grind (arith, nat_tests) })
  | inr long ↦ rw long tt
]

is_body : (body : List ℕ) → IfOk (body_of body) IsBody
is_body [] = tt
is_body (b ∷ bs) = elim (bytes_eq (b ∷ bs) (codes "-")) as (λ dash. IfOk (short_bytes (if dash then Some (body_with [] true) else spelled_by (b ∷ bs) (decode_of (b ∷ bs)))) IsBody) [
  | true ↦ record { bytes = λ i. omega arith; size = omega arith }
  | false ↦ few_bytes (b ∷ bs) (decode_of (b ∷ bs)) (decoded (b ∷ bs) (decode_of (b ∷ bs)) refl)
]

arrives_with : (port : ℕ) (given : Result (List ℕ) LineKind) → port ≤ 255 → IfOk given IsBody → IfOk (packet_with port given) IsArrival
arrives_with port (Ok bytes) small h = record { port = omega arith; bytes = h.bytes; size = h.size }
arrives_with port (Err kind) small h = tt

arrives_by : (port : Option ℕ) (body : List ℕ) → ((n : ℕ) → port ≡ Some n → n ≤ 255) → IfOk (packet_by port body) IsArrival
arrives_by None body small = tt
arrives_by (Some port) body small = arrives_with port (body_of body) (small port refl) (is_body body)

line_arrives : (line : List ℕ) → IfOk (packet_line line) IsArrival
line_arrives line = elim (list_any is_space line) as (λ b. IfOk (if b then packet_by (number_up_to 255 (before_first is_space line)) (after_first is_space line) else Err Form) IsArrival) [
  | true ↦ arrives_by (number_up_to 255 (before_first is_space line)) (after_first is_space line) (λ n is. number_small 255 n (before_first is_space line) is)
  | false ↦ tt
]

pub trace_arrives : (text : List ℕ) → IfOk (trace_of text) AreArrivals
trace_arrives text = all_of_most IsArrival most_packets (line_values packet_line 1 (lines text)) (all_lines IsArrival packet_line line_arrives 1 (lines text))

-- a trace has no last line, so its packets are those of all lines
pub trace_values : (text : List ℕ) → at_most most_packets (values_until (λ _. false) packet_line 1 (lines text)) ≡ trace_of text
trace_values text = ap (at_most most_packets) (none_ends packet_line (lines text))
