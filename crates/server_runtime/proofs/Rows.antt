-- An instruction's results in registers.
use Rattle.std.proofs.Common.{◌≡◌, ◌+◌, ◌-◌, ℕ, suc, List, [], ◌∷◌, ◌++◌, length, slice_index, refl, ap, ◌∙◌, arith}
use Rattle.std.proofs.lemmas.List.{map-append}
use Rattle.flat_ir.specs.Program.{Program}
use Rattle.split_model.specs.Layouts.{first_results, number_of, values_below}
use Rattle.transfer_header.specs.Registers.{written, Registers}
use Rattle.transfer_header.specs.Steps.{all_written, Contents}
use Rattle.server_runtime.specs.Spans.{numbers_of}

written_push : (registers : Registers) (xs : List ℕ) (x : ℕ) (numbers : Contents) → all_written registers (xs ++ x ∷ []) numbers ≡ written (all_written registers xs numbers) x (numbers x)
written_push registers [] x numbers = refl
written_push registers (y ∷ ys) x numbers = written_push (written registers y (numbers y)) ys x numbers

module _ (f : Program) (i : ℕ) (registers : Registers) where
  abbrev first : ℕ
  first = length (values_below f i)

  -- the registers once the first values of the instruction have their numbers, so many of them
  abbrev pub row_part : List ℕ → ℕ → Registers
  row_part row k = all_written registers (numbers_of f (first_results i k)) (λ n. slice_index row (n - first))

  pub row_more : (row : List ℕ) (k : ℕ) → row_part row (suc k) ≡ written (row_part row k) (first + k) (slice_index row k)
  row_more row k =
      let numbers : Contents = λ n. slice_index row (n - first) in
      let place : first + k - first ≡ k = omega arith in
      ap (λ (ns : List ℕ). all_written registers ns numbers) (map-append (number_of f) (first_results i k) (record { instruction = i; result = k } ∷ []))
      ∙ written_push registers (numbers_of f (first_results i k)) (first + k) numbers
      ∙ ap (λ p. written (row_part row k) (first + k) (slice_index row p)) place
