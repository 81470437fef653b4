-- What a receiver keeps, and what it answers.
use Rattle.std.proofs.Common.{◌≡◌, ◌<◌, ◌≤◌, ◌-◌, ℕ, Bool, true, false, ◌||◌, cond, List, [], ◌∷◌, length, get_or, sym, ap, ◌∙◌, arith}
use Rattle.std.proofs.lemmas.Bool.{cond-false, cond-true, le-ltb, lt-ltb}
use Rattle.std.specs.Prelude.{nat_lt}
use Rattle.std.specs.BTreeSet.{IsEmpty, contains}
use Rattle.std.specs.Int.{w32, from_be_bytes}
use Rattle.std.specs.List.{list_any}
use Rattle.std.specs.Ordering.{eq_by_cmp, nat_cmp}
use Rattle.lossy_link.specs.declared.answers.Took.{Took}
use Rattle.lossy_link.specs.declared.answers.Took.TheVariants.{New, Again, Early, Malformed}
use Rattle.lossy_link.specs.Datagrams.{item_in, number_in}
use Rattle.lossy_link.specs.declared.numbers.Numbers.{Numbers}
use Rattle.lossy_link.specs.Numbers.{AreNumbersOf, has_number}
use Rattle.lossy_link.specs.Receiver.{Receiver, after_take, is_delivered, is_early, take_answer, took_number, with_item, with_pair}

-- the number that the first four bytes spell
pub four_read : (bytes : List ℕ) (n : ℕ) → 4 ≤ length bytes
    → n ≡ from_be_bytes w32 (get_or bytes 0 0 ∷ get_or bytes 1 0 ∷ get_or bytes 2 0 ∷ get_or bytes 3 0 ∷ [])
    → n ≡ number_in bytes
unfolding number_in
four_read (a ∷ b ∷ c ∷ d ∷ rest) n long is = is
four_read _ n long is = absurd (omega arith)

-- no numbers
pub numbers_first : (ordered : Bool) (numbers : Numbers) → numbers.marks.items ≡ [] → IsEmpty numbers.others → AreNumbersOf ordered [] numbers
numbers_first ordered numbers no_marks no_others = record {
  each = λ n. by_order n ordered;
  few = let none = ap (λ (l : List Bool). length l) no_marks in omega arith;
}
  where
    by_order : (n : ℕ) (b : Bool) → has_number b [] numbers n ≡ false
    by_order n true = le-ltb n 0 (omega arith)
    by_order n false =
        ap (λ (l : List Bool). get_or l n false || contains nat_cmp numbers.others n) no_marks
        ∙ ap (λ (keys : List ℕ). list_any (λ k. eq_by_cmp nat_cmp n k) keys) no_others

-- ---- answers

-- what a receiver answers and is then
pub record IsTaken (r : Receiver) (bytes : List ℕ) (answer : Took) (after : Receiver) : Type 0 where
  pub says : answer ≡ take_answer r bytes
  pub leaves : after ≡ after_take r bytes

by_answer : (r : Receiver) (bytes : List ℕ) (t : Took) → take_answer r bytes ≡ t → IsTaken r bytes t (with_item r (item_in bytes) t)
by_answer r bytes t is =
    record { says = sym is; leaves = ap (λ (k : Took). with_item r (item_in bytes) k) (sym is) }

pub takes_short : (r : Receiver) (bytes : List ℕ) → length bytes < 4 → IsTaken r bytes Malformed r
takes_short r bytes short =
    by_answer r bytes Malformed
    (cond-true (nat_lt (length bytes) 4) Malformed (took_number r (number_in bytes)) (lt-ltb (length bytes) 4 short))

long : (r : Receiver) (bytes : List ℕ) → 4 ≤ length bytes → take_answer r bytes ≡ took_number r (number_in bytes)
long r bytes four =
    cond-false (nat_lt (length bytes) 4) Malformed (took_number r (number_in bytes)) (le-ltb (length bytes) 4 four)

pub takes_again : (r : Receiver) (bytes : List ℕ) → 4 ≤ length bytes → is_delivered r.pairs (number_in bytes) ≡ true
    → IsTaken r bytes (Again (number_in bytes)) r
takes_again r bytes four holds =
    let n = number_in bytes in
    by_answer r bytes (Again n)
    (long r bytes four ∙ cond-true (is_delivered r.pairs n) (Again n) (cond (is_early r n) (Early n) (New n)) holds)

fresh : (r : Receiver) (bytes : List ℕ) → 4 ≤ length bytes → is_delivered r.pairs (number_in bytes) ≡ false
    → take_answer r bytes ≡ cond (is_early r (number_in bytes)) (Early (number_in bytes)) (New (number_in bytes))
fresh r bytes four fails =
    let n = number_in bytes in
    long r bytes four ∙ cond-false (is_delivered r.pairs n) (Again n) (cond (is_early r n) (Early n) (New n)) fails

pub takes_early : (r : Receiver) (bytes : List ℕ) → 4 ≤ length bytes → is_delivered r.pairs (number_in bytes) ≡ false
    → is_early r (number_in bytes) ≡ true → IsTaken r bytes (Early (number_in bytes)) r
takes_early r bytes four fails early =
    let n = number_in bytes in
    by_answer r bytes (Early n) (fresh r bytes four fails ∙ cond-true (is_early r n) (Early n) (New n) early)

pub takes_new : (r : Receiver) (bytes : List ℕ) → 4 ≤ length bytes → is_delivered r.pairs (number_in bytes) ≡ false
    → is_early r (number_in bytes) ≡ false → IsTaken r bytes (New (number_in bytes)) (with_pair r (number_in bytes) (item_in bytes))
takes_new r bytes four fails due =
    let n = number_in bytes in
    by_answer r bytes (New n) (fresh r bytes four fails ∙ cond-false (is_early r n) (Early n) (New n) due)
