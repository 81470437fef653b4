-- Numbers that are written one after the other.
use Rattle.std.proofs.Common.{◌≡◌, ◌≢◌, ℕ, ◌<◌, ◌||◌, Bool, true, false, cond, List, [], ◌∷◌, length, Option, Some, None, IsSome, refl, sym, ap, subst, ◌∙◌, inl, inr, arith, length-set}
use Rattle.std.specs.Prelude.{◌==◌}
use Rattle.std.specs.List.{list_any}
use Rattle.std.proofs.lemmas.Bool.{cases_eq, eq-eqb, ne_eqb, or_left}
use Rattle.std.proofs.lemmas.List.{get_or-set_same, get_or-set_other}
use Rattle.transfer_header.specs.Registers.{Registers, place_by, place_of, number_by, set_by, content_of, written, HasRegister, ArePlaced}
use Rattle.transfer_header.specs.Steps.{Contents, is_among, with_numbers, all_written}
use Rattle.transfer_header.proofs.LayoutValues.{IsSet}
use Rattle.transfer_header.proofs.Members.{at_front, behind}

-- ---- places stay
pub size_by : (numbers : List ℕ) (place : Option ℕ) (to : ℕ) → length (set_by numbers place to) ≡ length numbers
size_by numbers None to = refl
size_by numbers (Some place) to = length-set numbers place to

pub places_written : (registers : Registers) (value to other : ℕ) → place_of (written registers value to) other ≡ place_of registers other
places_written registers value to other = ap (λ n. place_by registers.plan n other) (size_by registers.numbers (place_of registers value) to)

pub places_all : (registers : Registers) (values : List ℕ) (numbers : Contents) (other : ℕ) → place_of (all_written registers values numbers) other ≡ place_of registers other
places_all registers [] numbers other = refl
places_all registers (value ∷ values) numbers other = places_all (written registers value (numbers value)) values numbers other ∙ places_written registers value (numbers value) other

pub has_written : (registers : Registers) (value to other : ℕ) → HasRegister registers other → HasRegister (written registers value to) other
has_written registers value to other has = subst (λ (place : Option ℕ). IsSome place) (sym (places_written registers value to other)) has

pub placed_written : (registers : Registers) (value to : ℕ) → ArePlaced registers → ArePlaced (written registers value to)
placed_written registers value to placed v p e =
    omega (arith, placed v p (sym (places_written registers value to v) ∙ e), size_by registers.numbers (place_of registers value) to)

-- ---- one write
pub itself_by : (numbers : List ℕ) (place : Option ℕ) (to : ℕ) → IsSome place → ((p : ℕ) → place ≡ Some p → p < length numbers) → number_by (set_by numbers place to) place ≡ to
itself_by numbers None to some within = absurd (cc)
itself_by numbers (Some place) to some within = get_or-set_same numbers place to 0 (within place refl)

other_by : (numbers : List ℕ) (place other : Option ℕ) (to : ℕ) → place ≢ other → number_by (set_by numbers place to) other ≡ number_by numbers other
other_by numbers None other to apart = refl
other_by numbers (Some place) None to apart = refl
other_by numbers (Some place) (Some there) to apart = get_or-set_other numbers place there to 0 (λ e. apart (ap (λ p. Some p) (sym e)))

pub written_itself : (registers : Registers) (value to : ℕ) → HasRegister registers value → ArePlaced registers → content_of (written registers value to) value ≡ to
written_itself registers value to has placed =
    ap (number_by (set_by registers.numbers (place_of registers value) to)) (places_written registers value to value)
    ∙ itself_by registers.numbers (place_of registers value) to has (placed value)

-- A write leaves the numbers of all values in other registers.
pub a_write_keeps_others : (registers : Registers) (value to other : ℕ) → place_of registers value ≢ place_of registers other
    → content_of (written registers value to) other ≡ content_of registers other
a_write_keeps_others registers value to other apart =
    ap (number_by (set_by registers.numbers (place_of registers value) to)) (places_written registers value to other)
    ∙ other_by registers.numbers (place_of registers value) (place_of registers other) to apart

-- what `set` says of the registers after it
pub is_set : (before after : Registers) (value to : ℕ) → after ≡ written before value to → content_of after value ≡ to
    → ((other : ℕ) → place_of before value ≢ place_of before other → content_of after other ≡ content_of before other) → IsSet before after value to
is_set before after value to all number others = record {
  plan = ap (λ (r : Registers). r.plan) all;
  count = ap (λ (r : Registers). length r.numbers) all ∙ size_by before.numbers (place_of before value) to;
  number = number;
  others = others;
}

pub has_here : (before after : Registers) (value : ℕ) → ((other : ℕ) → place_of after other ≡ place_of before other) → HasRegister before value → HasRegister after value
has_here before after value same has = subst (λ (place : Option ℕ). IsSome place) (sym (same value)) has

-- ---- all writes of a step
-- values that are apart from one
pub record AreOut (registers : Registers) (values : List ℕ) (value : ℕ) : Type 0 where
  pub apart : (other : ℕ) → is_among other values ≡ true → other ≢ value → place_of registers other ≢ place_of registers value

still_out : (registers : Registers) (first to : ℕ) (values : List ℕ) (value : ℕ) → AreOut registers (first ∷ values) value → AreOut (written registers first to) values value
still_out registers first to values value out = record {
  apart = λ other c differ same. out.apart other (behind first other values c) differ (sym (places_written registers first to other) ∙ same ∙ places_written registers first to value);
}

either : (b : Bool) (x y : ℕ) → y ≡ x → cond b x y ≡ x
either true x y e = refl
either false x y e = e

pub all_written_is : (registers : Registers) (values : List ℕ) (numbers : Contents) (value : ℕ) → HasRegister registers value → ArePlaced registers → AreOut registers values value
    → content_of (all_written registers values numbers) value ≡ with_numbers values numbers (content_of registers) value
all_written_is registers [] numbers value has placed out = refl
all_written_is registers (first ∷ values) numbers value has placed out =
    let next = written registers first (numbers first) in
    let later = list_any (λ (x : ℕ). x == value) values in
    let rest = all_written_is next values numbers value (has_written registers first (numbers first) value has)
    (placed_written registers first (numbers first) placed) (still_out registers first (numbers first) values value out) in
    elim (cases_eq first value) [
      | inl same ↦ (
          let now : content_of next value ≡ numbers value = ap (λ (x : ℕ). content_of (written registers x (numbers x)) value) same ∙ written_itself registers value (numbers value) has placed in
          rest ∙ either later (numbers value) (content_of next value) now
          ∙ sym (ap (λ (b : Bool). cond b (numbers value) (content_of registers value)) (or_left (first == value) later (eq-eqb first value same)))
          )
      | inr other ↦ (
          let kept = a_write_keeps_others registers first (numbers first) value (out.apart first (at_front first values) other) in
          rest ∙ ap (λ (x : ℕ). cond later (numbers value) x) kept
          ∙ sym (ap (λ (b : Bool). cond (b || later) (numbers value) (content_of registers value)) (ne_eqb first value other))
          )
    ]

pub placed_all : (registers : Registers) (values : List ℕ) (numbers : Contents) → ArePlaced registers → ArePlaced (all_written registers values numbers)
placed_all registers [] numbers placed = placed
placed_all registers (first ∷ values) numbers placed = placed_all (written registers first (numbers first)) values numbers (placed_written registers first (numbers first) placed)
