-- What pairs of hexadecimal digits spell.
use Rattle.std.proofs.Common.{◌≡◌, ℕ, zero, suc, ◌+◌, ◌*◌, ◌/◌, ◌%◌, ◌<◌, ◌≤◌, ◌≢◌, ◌==◌, ◌&&◌, Bool, List, [], ◌∷◌, ◌++◌, append-nil, take, drop, length, get_or, slice_index, set, true, false, Result, Ok, Err, refl, sym, ap, ◌∙◌, subst, arith, true≢false, below_more, length-set, get_or-set_other, get_or-set_same}
use Rattle.std.specs.Prelude.{MatchResult}
use Rattle.std.specs.List.{list_all, list_any}
use Rattle.std.proofs.lemmas.Bool.{agree_below_at, and_from, and_parts, eqb-true, eq-eqb, false_from_ne_true}
use Rattle.std.proofs.lemmas.List.Folds.{Any-from_list_any, list_all_at, list_any_at}
use Rattle.std.proofs.lemmas.List.{drop_all, get_or_default, take_all}
use Rattle.std.proofs.lemmas.Grind.{same_number_lists}
use Rattle.std.proofs.lemmas.Slice.Eq.{bytes_eq-Decides}
use Rattle.std.specs.Result.{result_unwrap_or}
use Rattle.std.specs.Str.{bytes_eq}
use Rattle.hex.specs.Hex.{IsBytes, decode_of, decode_pairs, encode_lower, encode_with, lower_digits, pair_value, ◌>>=◌}
use Rattle.hex.specs.declared.error.FromHexError.{FromHexError}
use Rattle.hex.proofs.HexLemmas.{decode_of-encode_lower, decode_of-even, decode_of-ok, length-encode_with}
use Rattle.run_text.specs.Body.{is_by_capitals, is_printed_digit}

same_Ok : {A : Type 0} (x y : A) (r : Result A FromHexError) → r ≡ Ok x → r ≡ Ok y → x ≡ y
same_Ok x y r hx hy = ap (λ s. result_unwrap_or s x) (sym hx ∙ hy)

-- ---- a text of pairs

-- what an `Ok` after `>>=` shows
bind_ok : {A B : Type 0} (r : Result A FromHexError) (f : A → Result B FromHexError) (y : B) → (r >>= f) ≡ Ok y → (x : A) × (r ≡ Ok x) × (f x ≡ Ok y)
bind_ok (Ok x) f y h = (x, refl, h)
bind_ok (Err e) f y h = cc h

-- what spells the byte at a place
abbrev Spells : List ℕ → ℕ → ℕ → Type 0
Spells text k byte = (at : ℕ) × (pair_value (get_or text (2 * k) 0) (get_or text (2 * k + 1) 0) at ≡ Ok byte)

-- a pair in front of a text that spells its bytes
front_spells : (a b at byte : ℕ) (rest bytes : List ℕ) → pair_value a b at ≡ Ok byte
    → ((k : ℕ) → k < length bytes → Spells rest k (get_or bytes k 0))
    → (k : ℕ) → k < length (byte ∷ bytes) → Spells (a ∷ b ∷ rest) k (get_or (byte ∷ bytes) k 0)
front_spells a b at byte rest bytes first later zero small = (at, first)
front_spells a b at byte rest bytes first later (suc k) small =
    let spells = later k (omega arith) in
    let even : 2 * suc k ≡ suc (suc (2 * k)) = omega arith in
    let odd : 2 * suc k + 1 ≡ suc (suc (2 * k + 1)) = omega arith in
    (spells.0, rw (odd, even) spells.1)

pairs_spell : (at : ℕ) (text bytes : List ℕ) → decode_pairs at text ≡ Ok bytes → (k : ℕ) → k < length bytes → Spells text k (get_or bytes k 0)
unfolding decode_pairs
pairs_spell at [] bytes h =
    let P : List ℕ → Type 0 = λ bs. (k : ℕ) → k < length bs → Spells [] k (get_or bs k 0) in
    subst P (same_Ok [] bytes (Ok []) refl h) (λ k small. absurd (omega arith))
pairs_spell at (a ∷ []) bytes h = cc h
pairs_spell at (a ∷ b ∷ rest) bytes h =
    let first = bind_ok (pair_value a b at) _ bytes h in
    let behind = bind_ok (decode_pairs (at + 2) rest) _ bytes first.2 in
    let P : List ℕ → Type 0 = λ bs. (k : ℕ) → k < length bs → Spells (a ∷ b ∷ rest) k (get_or bs k 0) in
    subst P (same_Ok (first.0 ∷ behind.0) bytes (Ok (first.0 ∷ behind.0)) refl behind.2) (front_spells a b at first.0 rest behind.0 first.1 (pairs_spell (at + 2) rest behind.0 behind.1))

text_spells : (text bytes : List ℕ) → decode_of text ≡ Ok bytes → (k : ℕ) → k < length bytes → Spells text k (get_or bytes k 0)
text_spells text bytes h = pairs_spell 0 text bytes (sym (decode_of-even text (decode_of-ok text bytes h).0) ∙ h)

-- ---- bytes that are filled in

-- those in front are the ones that the text spells, where it spells as many as there are
abbrev pub Fills : List ℕ → List ℕ → ℕ → Type 0
Fills text bytes n = (found : List ℕ) → decode_of text ≡ Ok found → length found ≡ length bytes → (k : ℕ) → k < n → get_or bytes k 0 ≡ get_or found k 0

pub fills_more : (text bytes : List ℕ) (n byte : ℕ) → n < length bytes
    → ((at other : ℕ) → pair_value (get_or text (2 * n) 0) (get_or text (2 * n + 1) 0) at ≡ Ok other → byte ≡ other)
    → Fills text bytes n → Fills text (set bytes n byte) (n + 1)
fills_more text bytes n byte room is before found h same =
    let size : length found ≡ length bytes = same ∙ length-set bytes n byte in
    let here = text_spells text found h n (omega arith) in
    below_more (λ k. get_or (set bytes n byte) k 0 ≡ get_or found k 0) n
    (λ k small. let other : k ≢ n = omega arith in rw get_or-set_other (before found h size k small))
    (rw get_or-set_same (is here.0 (get_or found n 0) here.1))

pub fills_all : (text bytes : List ℕ) (n : ℕ) → length bytes ≤ n → Fills text bytes n → (found : List ℕ) → decode_of text ≡ Ok found → length found ≡ length bytes → bytes ≡ found
fills_all text bytes n all fills found h same = same_number_lists bytes found (sym same) (λ k small. fills found h same k (omega arith))

-- as many bytes as pairs
pub half : (text bytes : List ℕ) → decode_of text ≡ Ok bytes → length bytes ≡ length text / 2
half text bytes h = let size = (decode_of-ok text bytes h).2 in omega (arith, size)

-- bytes that were written over all of others
pub whole_written : (bytes others : List ℕ) (n : ℕ) → length bytes ≡ n → length others ≡ n → take n (bytes ++ drop (length bytes) others) ≡ bytes
whole_written bytes others n size same =
    let none = drop_all (length bytes) others (omega arith) in
    rw (none, append-nil) (take_all n bytes (omega arith))

-- ---- what is printed

-- where a digit that is printed stands among the sixteen
place_of : (digit : ℕ) → is_printed_digit digit ≡ true → (place : ℕ) × (place < 16) × (slice_index lower_digits place ≡ digit)
place_of digit is =
    let found = Any-from_list_any (λ d. d == digit) lower_digits is in
    let small : found.0 < 16 = found.2 in
    (found.0, small, get_or_default lower_digits found.0 0 found.1 found.2 ∙ found.3 ∙ eqb-true found.1 digit found.4)

bytes_front : (byte : ℕ) (bytes : List ℕ) → byte < 256 → IsBytes bytes → IsBytes (byte ∷ bytes)
bytes_front byte bytes room fits zero = room
bytes_front byte bytes room fits (suc k) = fits k

-- the byte of two digits that are printed, in front of others
front_printed : (a b : ℕ) (rest bytes : List ℕ) → is_printed_digit a ≡ true → is_printed_digit b ≡ true → IsBytes bytes
    → encode_lower bytes ≡ rest → (all : List ℕ) × IsBytes all × (encode_lower all ≡ a ∷ b ∷ rest)
unfolding encode_with
front_printed a b rest bytes first second fits same =
    let high = place_of a first in
    let low = place_of b second in
    let byte = high.0 * 16 + low.0 in
    let above : byte / 16 ≡ high.0 = omega (arith, high.1, low.1) in
    let below : byte % 16 ≡ low.0 = omega (arith, high.1, low.1) in
    let room : byte < 256 = omega (arith, high.1, low.1) in
    (byte ∷ bytes, bytes_front byte bytes room fits, rw (above, below, high.2, low.2, same) refl)

-- pairs of digits that are printed are what is printed of some bytes
printed_pairs : (text : List ℕ) → length text % 2 ≡ 0 → list_all is_printed_digit text ≡ true
    → (bytes : List ℕ) × IsBytes bytes × (encode_lower bytes ≡ text)
unfolding encode_with
printed_pairs [] even all = ([], (λ k. omega arith), refl)
printed_pairs (a ∷ []) even all = absurd (omega arith)
printed_pairs (a ∷ b ∷ rest) even all =
    let first = and_parts (is_printed_digit a) _ all in
    let second = and_parts (is_printed_digit b) _ first.1 in
    let behind = printed_pairs rest (omega arith) second.1 in
    front_printed a b rest behind.0 first.0 second.0 behind.1 behind.2

-- each digit of the sixteen is printed
place_is_printed : (place : ℕ) → place < 16 → is_printed_digit (slice_index lower_digits place) ≡ true
place_is_printed place small = list_any_at (λ d. d == slice_index lower_digits place) lower_digits place 0 small (eq-eqb _ _ refl)

-- what is printed holds no other digits
all_printed : (bytes : List ℕ) → IsBytes bytes → list_all is_printed_digit (encode_lower bytes) ≡ true
unfolding encode_with
all_printed [] fits = refl
all_printed (b ∷ rest) fits =
    let room : b < 256 = fits 0 in
    and_from _ _ (place_is_printed (b / 16) (omega arith)) (and_from _ _ (place_is_printed (b % 16) (omega arith)) (all_printed rest (λ k. fits (suc k))))

-- whether a text is pairs of digits that are printed tells whether it is what is printed of the bytes that it spells
abbrev pub Tells : List ℕ → Bool → Type 0
Tells text is = MatchResult (decode_of text) (λ bytes. is ≡ bytes_eq (encode_lower bytes) text) (λ e. is ≡ false)

printed_tells : (text bytes : List ℕ) → IsBytes bytes → encode_lower bytes ≡ text → Tells text true
printed_tells text bytes fits same =
    let reads : decode_of text ≡ Ok bytes = ap decode_of (sym same) ∙ decode_of-encode_lower bytes fits in
    rw reads (sym ((bytes_eq-Decides (encode_lower bytes) text).1 same))

other_tells : (text : List ℕ) → ((bytes : List ℕ) → IsBytes bytes → encode_lower bytes ≡ text → ⊥) → (r : Result (List ℕ) FromHexError) → decode_of text ≡ r → Tells text false
other_tells text other (Ok bytes) reads =
    let fits = (decode_of-ok text bytes reads).3 in
    rw reads (sym (false_from_ne_true _ (λ is. other bytes fits ((bytes_eq-Decides (encode_lower bytes) text).0 is))))
other_tells text other (Err e) reads = rw reads refl

printed_passes : (text bytes : List ℕ) → IsBytes bytes → encode_lower bytes ≡ text → (length text % 2 == 0 && list_all is_printed_digit text) ≡ true
printed_passes text bytes fits same =
    let twice = length-encode_with lower_digits bytes in
    let size : length text ≡ 2 * length bytes = ap length (sym same) ∙ twice in
    let even : length text % 2 ≡ 0 = omega (arith, size) in
    and_from _ _ (eq-eqb _ _ even) (ap (list_all is_printed_digit) (sym same) ∙ all_printed bytes fits)

-- none of the sixteen is a capital
printed_no_capital : (digit : ℕ) → is_printed_digit digit ≡ true → is_by_capitals digit ≡ false
printed_no_capital digit is =
    let place = place_of digit is in
    ap is_by_capitals (sym place.2) ∙ agree_below_at (λ k. is_by_capitals (slice_index lower_digits k)) (λ k. false) 16 place.0 refl place.1

-- a text with capitals isn't printed
pub capitals_tell : (text : List ℕ) → list_any is_by_capitals text ≡ true → Tells text false
capitals_tell text capitals =
    let found = Any-from_list_any is_by_capitals text capitals in
    let other = false_from_ne_true (is_printed_digit found.1) (λ is. true≢false (sym found.4 ∙ printed_no_capital found.1 is)) in
    let none = list_all_at is_printed_digit text found.0 found.1 found.2 (ap is_printed_digit found.3 ∙ other) in
    other_tells text (λ bytes fits same. true≢false (sym (ap (list_all is_printed_digit) (sym same) ∙ all_printed bytes fits) ∙ none)) (decode_of text) refl

pub printed_or_not : (text : List ℕ) → Tells text (length text % 2 == 0 && list_all is_printed_digit text)
printed_or_not text = by (length text % 2 == 0 && list_all is_printed_digit text) refl
  where
    by : (b : Bool) → (length text % 2 == 0 && list_all is_printed_digit text) ≡ b → Tells text b
    by true is =
        let parts = and_parts (length text % 2 == 0) (list_all is_printed_digit text) is in
        let found = printed_pairs text (eqb-true _ _ parts.0) parts.1 in
        printed_tells text found.0 found.1 found.2
    by false is = other_tells text (λ bytes fits same. true≢false (sym (printed_passes text bytes fits same) ∙ is)) (decode_of text) refl
