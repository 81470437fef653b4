-- The first line of a text of events, told by a few bytes.
use Rattle.std.proofs.Common.{◌≡◌, ℕ, ◌+◌, ◌-◌, ◌≤◌, true, false, inl, inr, List, [], ◌∷◌, ◌++◌, length, length-append, get_or, take, drop, eqb, Some, refl, sym, subst, ap, ◌&&◌, arith}
use Rattle.std.specs.Fmt.{decimal}
use Rattle.std.proofs.lemmas.Fmt.{decimal_digit}
use Rattle.std.proofs.lemmas.Bool.{cases_lt, le-leb}
use Rattle.std.proofs.lemmas.Bool.Decides.{nat_tests}
use Rattle.std.proofs.lemmas.List.{take_rest}
use Rattle.std.proofs.lemmas.Option.{none-some}
use Rattle.run_model.specs.declared.event.Event.{Event}
use Rattle.run_text.specs.Printed.{IsLineOf}
use Rattle.run_text.specs.Said.{IsFirst}
use Rattle.run_text.specs.Trace.{event_by, event_line, is_drain, word_event}
use Rattle.gal_io.proofs.ToldLines.{line_plain}

-- a line with its end in front of a text
first_line : (line : List ℕ) (event : Event) (behind : List ℕ) → IsLineOf event_line line event → is_drain line ≡ false → IsFirst is_drain event_line (line ++ (10 ∷ behind)) event behind
first_line line event behind h goes = record {
  line = line;
  divides = line_plain line behind h.whole;
  shorter = omega (arith, length-append line (10 ∷ behind));
  told = h.told;
  goes_on = goes;
  spells = h.says;
}

-- no byte below `a` names an event
word_high : (letter : ℕ) (event : Event) → Some event ≡ word_event (letter ∷ []) → 97 ≤ letter
word_high letter event h = elim (cases_lt letter 97) [
  | inl low ↦
      let a : eqb letter 97 ≡ false = grind (arith, nat_tests, low) in
      let c : eqb letter 99 ≡ false = grind (arith, nat_tests, low) in
      let w : eqb letter 119 ≡ false = grind (arith, nat_tests, low) in
      let k : eqb letter 107 ≡ false = grind (arith, nat_tests, low) in
      absurd (none-some event (sym (rw (a, c, w, k) at h)))
  | inr high ↦ high
]

-- a letter that names an event is a line that spells it
word_line : (letter : ℕ) (event : Event) → Some event ≡ word_event (letter ∷ []) → IsLineOf event_line (letter ∷ []) event
word_line letter event h =
    let high = word_high letter event h in
    record {
      whole = rw (le-leb 32 letter (omega arith)) refl;
      told = grind (arith, nat_tests, high);
      says = ap (λ word. event_by word (letter ∷ [])) (sym h);
    }

no_drain_letter : (letter : ℕ) → is_drain (letter ∷ []) ≡ false
no_drain_letter letter = elim (eqb letter 100) as (λ b. (b && false) ≡ false) [ true ↦ refl | false ↦ refl ]

no_drain_item : (letter : ℕ) (item : List ℕ) → is_drain (letter ∷ 32 ∷ item) ≡ false
no_drain_item letter item = elim (eqb letter 100) as (λ b. (b && false) ≡ false) [ true ↦ refl | false ↦ refl ]

word_first : (letter : ℕ) (event : Event) (behind : List ℕ) → Some event ≡ word_event (letter ∷ []) → IsFirst is_drain event_line (letter ∷ 10 ∷ behind) event behind
word_first letter event behind h = first_line (letter ∷ []) event behind (word_line letter event h) (no_drain_letter letter)

item_first : (letter digit : ℕ) (event : Event) (behind : List ℕ) → 48 ≤ digit → digit ≤ 57 → IsLineOf event_line (letter ∷ 32 ∷ decimal (digit - 48)) event
    → IsFirst is_drain event_line (letter ∷ 32 ∷ digit ∷ 10 ∷ behind) event behind
item_first letter digit event behind low high h =
    let same : 48 + (digit - 48) ≡ digit = omega arith in
    let text : decimal (digit - 48) ≡ digit ∷ [] = subst (λ d. decimal (digit - 48) ≡ d ∷ []) same (decimal_digit (digit - 48) (omega arith)) in
    first_line (letter ∷ 32 ∷ digit ∷ []) event behind (subst (λ ds. IsLineOf event_line (letter ∷ 32 ∷ ds) event) text h) (no_drain_item letter (digit ∷ []))

-- a text that begins with a letter that names an event, and the end of its line
pub word_at : (text : List ℕ) (event : Event) → Some event ≡ word_event (get_or text 0 0 ∷ []) → get_or text 1 0 ≡ 10
    → IsFirst is_drain event_line text event (take (length text - 2) (drop 2 text))
word_at (letter ∷ feed ∷ behind) event h fed = rw (take_rest (letter ∷ feed ∷ behind) 2, fed) (word_first letter event behind h)
word_at _ event h fed = absurd (omega (arith, fed))

-- a text that begins with a letter, a space, a digit, and the end of its line
pub item_at : (text : List ℕ) (event : Event) → IsLineOf event_line (get_or text 0 0 ∷ 32 ∷ decimal (get_or text 2 0 - 48)) event
    → get_or text 1 0 ≡ 32 → 48 ≤ get_or text 2 0 → get_or text 2 0 ≤ 57 → get_or text 3 0 ≡ 10
    → IsFirst is_drain event_line text event (take (length text - 4) (drop 4 text))
item_at (letter ∷ gap ∷ digit ∷ feed ∷ behind) event h space low high fed =
    rw (take_rest (letter ∷ gap ∷ digit ∷ feed ∷ behind) 4, fed, space) (item_first letter digit event behind low high h)
item_at _ event h space low high fed = absurd (omega (arith, fed))
