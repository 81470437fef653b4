-- Lemmas for the crates that run programs: numbers that fit their widths, at each place.
use Rattle.std.proofs.Common.{◌≡◌, ◌<◌, ◌^◌, ℕ, zero, suc, true, List, [], ◌∷◌, length, replicate, nat_lt, slice_index}
use Rattle.std.proofs.Common.{slice_set, refl, sym, ap, subst, lit<, true≢false}
use Rattle.std.proofs.lemmas.Bool.{and_from, and_parts, lt-ltb, ltb-true}
use Rattle.std.proofs.lemmas.Nat.{pow_pos}
use Rattle.state_store.specs.Kept.{have_widths}

-- the values at all places fit the widths there
abbrev pub AtWidths : List ℕ → List ℕ → Type 0
AtWidths widths values = (place : ℕ) → slice_index values place < 2 ^ slice_index widths place

pub at_widths : (widths values : List ℕ) → have_widths widths values ≡ true → AtWidths widths values
at_widths [] [] h place = lit< tt
at_widths [] (n ∷ ns) h place = absurd (true≢false (sym h))
at_widths (w ∷ ws) [] h place = absurd (true≢false (sym h))
at_widths (w ∷ ws) (n ∷ ns) h zero = ltb-true n (2 ^ w) (and_parts (nat_lt n (2 ^ w)) (have_widths ws ns) h).0
at_widths (w ∷ ws) (n ∷ ns) h (suc place) =
    at_widths ws ns (and_parts (nat_lt n (2 ^ w)) (have_widths ws ns) h).1 place

pub one_width : (w n : ℕ) (ws ns : List ℕ) → n < 2 ^ w → have_widths ws ns ≡ true
    → have_widths (w ∷ ws) (n ∷ ns) ≡ true
one_width w n ws ns fits h = and_from (nat_lt n (2 ^ w)) (have_widths ws ns) (lt-ltb n (2 ^ w) fits) h

-- zeros fit any widths
pub zeros_have_widths : (widths : List ℕ) → have_widths widths (replicate (length widths) 0) ≡ true
zeros_have_widths [] = refl
zeros_have_widths (w ∷ widths) =
    one_width w 0 widths (replicate (length widths) 0) (pow_pos w) (zeros_have_widths widths)

pub zero_at : (n place w : ℕ) → slice_index (replicate n 0) place < 2 ^ w
zero_at zero place w = pow_pos w
zero_at (suc n) zero w = pow_pos w
zero_at (suc n) (suc place) w = zero_at n place w

-- a number of a list in which one is another
pub at_place : (P : ℕ → Type 0) (values : List ℕ) (n value place : ℕ) → P (slice_index values place)
    → (n ≡ place → P value) → P (slice_index (slice_set values n value) place)
at_place P [] n value place before after = before
at_place P (x ∷ values) zero value zero before after = after refl
at_place P (x ∷ values) zero value (suc place) before after = before
at_place P (x ∷ values) (suc n) value zero before after = before
at_place P (x ∷ values) (suc n) value (suc place) before after =
    at_place P values n value place before (λ same. after (ap suc same))

-- values in which one is another that fits
pub set_fits : (widths values : List ℕ) (x value : ℕ) → AtWidths widths values → value < 2 ^ slice_index widths x
    → AtWidths widths (slice_set values x value)
set_fits widths values x value fit fits place =
    at_place (λ n. n < 2 ^ slice_index widths place) values x value place (fit place)
    (λ same. subst (λ n. value < 2 ^ slice_index widths n) same fits)
