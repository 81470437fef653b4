-- Where the numbers of first values stand.
use Rattle.std.proofs.Common.{◌≡◌, ◌^◌, ◌<◌, ℕ, Bool, true, false, List, length, slice_index, Option, Some, None, IsSome, if◌then◌else◌, refl, sym, ap, ◌∙◌, arith}
use Rattle.std.specs.Prelude.{unwrap_or, slice_set}
use Rattle.std.proofs.lemmas.List.{get_or_past, length-set}
use Rattle.flat_ir.specs.Program.{is_named, Program}
use Rattle.split_model.specs.Layouts.{number_of}
use Rattle.transfer_header.specs.Registers.{number_by, place_by, place_of, placed, set_by, written, Registers}
use Rattle.server_runtime.specs.Registers.{first_of, no_place, register_reads, seat_in, AreSeats}

-- registers in which values have the places that they had
pub still_seats : (f : Program) (seats : List ℕ) (before after : Registers) → ((value : ℕ) → place_of after value ≡ place_of before value)
    → AreSeats f seats before → AreSeats f seats after
still_seats f seats before after same are = record {
  count = are.count;
  each = λ i lt. are.each i lt ∙ ap (λ (o : Option ℕ). unwrap_or (if is_named f (first_of i) then o else None) no_place) (sym (same (number_of f (first_of i))));
}

-- ## The number at a seat

past_all : (numbers : List ℕ) → length numbers < 2 ^ 32 → slice_index numbers no_place ≡ 0
past_all numbers few = get_or_past numbers no_place 0 (omega (arith, few))

at_place : (numbers : List ℕ) (o : Option ℕ) → length numbers < 2 ^ 32 → slice_index numbers (unwrap_or o no_place) ≡ number_by numbers o
at_place numbers (Some place) few = refl
at_place numbers None few = past_all numbers few

pub at_named : (numbers : List ℕ) (b : Bool) (o : Option ℕ) → length numbers < 2 ^ 32
    → slice_index numbers (unwrap_or (if b then o else None) no_place) ≡ (if b then number_by numbers o else 0)
at_named numbers true o few = at_place numbers o few
at_named numbers false o few = past_all numbers few

-- it is the value's
pub seat_reads : (f : Program) (registers : Registers) (i : ℕ) → length registers.numbers < 2 ^ 32
    → slice_index registers.numbers (seat_in f registers i) ≡ register_reads f registers (first_of i)
seat_reads f registers i few = at_named registers.numbers (is_named f (first_of i)) (place_of registers (number_of f (first_of i))) few

-- ## A number that is put at a seat

set_there : (numbers : List ℕ) (o : Option ℕ) (to : ℕ) → IsSome o → slice_set numbers (unwrap_or o no_place) to ≡ set_by numbers o to
set_there numbers (Some place) to some = refl
set_there numbers None to some = absurd (cc)

pub named_place : (b : Bool) (o : Option ℕ) → b ≡ true → (if b then o else None) ≡ o
named_place true o e = refl
named_place false o e = absurd (cc)

-- it is put into the value's register
pub put_there : (registers : Registers) (place : Option ℕ) (value to : ℕ) → place ≡ place_of registers value → IsSome (place_of registers value)
    → placed registers (unwrap_or place no_place) to ≡ written registers value to
put_there registers place value to is has =
    ap (λ (o : Option ℕ). placed registers (unwrap_or o no_place) to) is
    ∙ ap (λ (ns : List ℕ). record { plan = registers.plan; numbers = ns }) (set_there registers.numbers (place_of registers value) to has)

pub place_placed : (registers : Registers) (place to value : ℕ) → place_of (placed registers place to) value ≡ place_of registers value
place_placed registers place to value = ap (λ n. place_by registers.plan n value) (length-set registers.numbers place to)
