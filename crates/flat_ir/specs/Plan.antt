-- A register for each value that has a span.
use Rattle.std.specs.Prelude.{◌≡◌, ◌≢◌, ℕ, ◌<◌, ◌≤◌, true, List, [], ◌∷◌, slice_get, slice_index, Option, Some, Contains, refl}
use Rattle.std.specs.Coded.{Coded, code_by, coded×, coded_ℕ, coded_list}
use Rattle.std.specs.Option.{option_map}
use Rattle.std.specs.FinMap as map
use Rattle.slot_table.specs.Table.{Contents}
use Rattle.flat_ir.specs.declared.spans.Span.{Span}
use Rattle.flat_ir.specs.Spans.{covers, overlap}

-- rows from values to registers, and how many registers there are
pub record RegisterPlan : Type 0 where
  pub rows : Contents
  pub count : ℕ

abbrev pub plan_code : Coded RegisterPlan
plan_code =
    code_by (Contents × ℕ) (coded× (map.code (coded_list coded_ℕ) (coded_list coded_ℕ)) coded_ℕ)
    (λ p. (p.rows, p.count)) (λ p. record { rows = p.0; count = p.1 }) (λ _. refl)

abbrev pub register_in : Contents → ℕ → Option ℕ
register_in rows value = option_map (λ words. slice_index words 0) (map.get rows (value ∷ []))

-- the register of a value, if it has one
abbrev pub register_of : RegisterPlan → ℕ → Option ℕ
register_of plan value = register_in plan.rows value

-- each register is below a number
abbrev pub AreBelow : Contents → ℕ → Type 0
AreBelow rows count = (value register : ℕ) → register_in rows value ≡ Some register → register < count

-- the registers of the first values, each at its value
abbrev pub AreFirst : Contents → List (Option ℕ) → Type 0
AreFirst rows first = (value : ℕ) (register : Option ℕ) → slice_get first value ≡ Some register
    → register ≡ register_in rows value

-- two values that are needed at one step have two registers
abbrev pub AreApart : List Span → Contents → Type 0
AreApart spans rows = (a b : Span) (step : ℕ) → Contains spans a → Contains spans b → a.value ≢ b.value
    → covers step a ≡ true → covers step b ≡ true → register_in rows a.value ≢ register_in rows b.value

-- the greatest number of spans that cover one step, or 0 where there are none
pub record IsGreatestOverlap (spans : List Span) (count : ℕ) : Type 0 where
  pub all : (step : ℕ) → overlap spans step ≤ count
  pub some : (step : ℕ) × (overlap spans step ≡ count)
