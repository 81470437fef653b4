-- A run has few spans.
use Rattle.std.proofs.Common.{◌+◌, ◌≤◌, ℕ, zero, suc, Bool, true, false, cond, List, [], map, length, length-append, arith}
use Rattle.std.proofs.lemmas.List.{length-map}
use Rattle.flat_ir.specs.Program.{Program}
use Rattle.split_model.specs.declared.split.Part.{Part}
use Rattle.split_model.specs.Crossing.{crosses_up}
use Rattle.split_model.specs.Layouts.{number_of, up_values, values_below, values_of}
use Rattle.server_runtime.specs.Spans.{is_taken, numbers_of, span_from, spans_below, values_at, writes_at}
use Rattle.server_runtime.proofs.Numbers.{below_suc, count_at}
use Rattle.split_model.proofs.ValueLists.{count_results, few_pass}

writes_few : (f : Program) (i : ℕ) (b : Bool) → length (cond b (numbers_of f (values_at f i)) []) ≤ count_at f i
writes_few f i true = omega (arith, length-map (values_at f i) (number_of f), count_results i (count_at f i))
writes_few f i false = omega arith

pub spans_few : (f : Program) (split : List Part) (k : ℕ) → length (spans_below f split (suc k)) ≤ length (values_of f) + length (values_below f k)
spans_few f split zero =
    let ws = writes_at f split 0 in
    omega (arith, length-map ws (span_from f split 0), length-map (up_values f split) (number_of f), few_pass (crosses_up f split) (values_of f))
spans_few f split (suc k) =
    let ws = writes_at f split (suc k) in
    omega (
      arith,
      length-append (spans_below f split (suc k)) (map (span_from f split (suc k)) ws),
      length-map ws (span_from f split (suc k)),
      spans_few f split k,
      writes_few f k (is_taken f split k),
      below_suc f k,
    )
