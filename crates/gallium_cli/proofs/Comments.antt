-- Which lines of a text are skipped where it is read as a split, and which aren't.
use Rattle.std.proofs.Common.{◌≡◌, ℕ, zero, suc, ◌+◌, ◌-◌, ◌<◌, Bool, true, false, not, cond, eqb, leb, List, [], ◌∷◌, ◌++◌, length, take, ◌%◌, ◌/◌, ◌==◌, map}
use Rattle.std.proofs.Common.{refl, sym, ap, ◌∙◌, arith, append_assoc}
use Rattle.std.specs.List.{list_all, onto_first}
use Rattle.std.specs.Fmt.{decimal, digits, digits_onto, digit_glyph}
use Rattle.std.proofs.lemmas.Bool.{and_parts, leb-true, not-true}
use Rattle.std.proofs.lemmas.Bool.Decides.{nat_tests}
use Rattle.gal_io.specs.Lines.{fed_lines, lines, without_return, is_skipped, told_of}
use Rattle.lemmas.proofs.Lists.{list_all_append}

-- ## Bytes that end no line

abbrev pub goes_on : ℕ → Bool
goes_on byte = not (eqb byte 10)

abbrev pub IsUnended : List ℕ → Type 0
IsUnended bytes = list_all goes_on bytes ≡ true

pub unended : (xs ys : List ℕ) → IsUnended xs → IsUnended ys → IsUnended (xs ++ ys)
unended xs ys h k = list_all_append goes_on xs ys h k

-- ## Decimals

-- a digit or a byte above digits
abbrev is_high : ℕ → Bool
is_high byte = leb 48 byte

glyph_by : (t : Bool) (d : ℕ) → is_high (cond t (48 + d) (cond false (55 + d) (87 + d))) ≡ true
glyph_by true d = grind (arith, nat_tests)
glyph_by false d = grind (arith, nat_tests)

high_glyph : (d : ℕ) → is_high (digit_glyph false d) ≡ true
high_glyph d = glyph_by _ d

-- one byte at least, and each is a digit or above digits
abbrev AreDigits : List ℕ → Type 0
AreDigits ds = (list_all is_high ds ≡ true) × (0 < length ds)

one_more : (d : ℕ) (acc : List ℕ) → list_all is_high acc ≡ true → AreDigits (digit_glyph false d ∷ acc)
one_more d acc h = (rw (high_glyph d) h, omega arith)

digits_by : (t : Bool) (xs ys : List ℕ) → AreDigits xs → AreDigits ys → AreDigits (cond t xs ys)
digits_by true xs ys one other = one
digits_by false xs ys one other = other

digits_before : (k n : ℕ) (acc : List ℕ) → list_all is_high acc ≡ true → AreDigits (digits_onto (suc k) 10 false n acc)
digits_before zero n acc h =
    let more = digit_glyph false (n % 10) ∷ acc in
    digits_by (n / 10 == 0) more more (one_more (n % 10) acc h) (one_more (n % 10) acc h)
digits_before (suc k) n acc h =
    let more = digit_glyph false (n % 10) ∷ acc in
    let one = one_more (n % 10) acc h in
    digits_by (n / 10 == 0) more (digits_onto (suc k) 10 false (n / 10) more) one (digits_before k (n / 10) more one.0)

are_digits : (n : ℕ) → AreDigits (decimal n)
unfolding digits
are_digits n = digits_before 63 n [] refl

high_unended : (xs : List ℕ) → list_all is_high xs ≡ true → IsUnended xs
high_unended [] h = refl
high_unended (x ∷ xs) h =
    let parts = and_parts (is_high x) (list_all is_high xs) h in
    let above = leb-true 48 x parts.0 in
    let on : goes_on x ≡ true = grind (arith, nat_tests) in
    rw on (high_unended xs parts.1)

pub decimal_unended : (n : ℕ) → IsUnended (decimal n)
decimal_unended n = high_unended (decimal n) (are_digits n).0

-- ## Lines

-- a text that ends no line
pub record Piece : Type 0 where
  pub text : List ℕ
  pub unended : IsUnended text

abbrev pub piece : (text : List ℕ) → IsUnended text → Piece
piece text h = record { text = text; unended = h }

abbrev pub number : ℕ → Piece
number n = piece (decimal n) (decimal_unended n)

abbrev pub space : Piece
space = piece (32 ∷ []) refl

-- pieces, one after the other, and what comes behind them
abbrev pub joined : List Piece → List ℕ → List ℕ
joined [] last = last
joined (p ∷ ps) last = p.text ++ joined ps last

pub joined_unended : (ps : List Piece) (last : Piece) → IsUnended (joined ps last.text)
joined_unended [] last = last.unended
joined_unended (p ∷ ps) last = unended p.text (joined ps last.text) p.unended (joined_unended ps last)

-- the bytes of one line, and its end
joined_line : (ps : List Piece) → joined ps (10 ∷ []) ≡ joined ps [] ++ (10 ∷ [])
joined_line [] = refl
joined_line (p ∷ ps) = ap (λ t. p.text ++ t) (joined_line ps) ∙ sym (append_assoc p.text (joined ps []) (10 ∷ []))

line_unended : (ps : List Piece) → IsUnended (joined ps [])
line_unended ps = joined_unended ps (piece [] refl)

fed_ended : (line rest : List ℕ) → IsUnended line → fed_lines (line ++ (10 ∷ rest)) ≡ line ∷ fed_lines rest
fed_ended [] rest h = refl
fed_ended (byte ∷ line) rest h =
    let parts = and_parts (goes_on byte) (list_all goes_on line) h in
    let other : eqb byte 10 ≡ false = not-true (eqb byte 10) parts.0 in
    rw other (ap (onto_first byte) (fed_ended line rest parts.1))

lines_ended : (line rest : List ℕ) → IsUnended line
    → lines ((line ++ (10 ∷ [])) ++ rest) ≡ without_return line ∷ lines rest
lines_ended line rest h = ap lines (append_assoc line (10 ∷ []) rest) ∙ ap (map without_return) (fed_ended line rest h)

-- ## Comments

-- no line of the text is told
abbrev pub IsSkipped : List ℕ → Type 0
IsSkipped text = (rest : List ℕ) → told_of (lines (text ++ rest)) ≡ told_of (lines rest)

pub both_skipped : (xs ys : List ℕ) → IsSkipped xs → IsSkipped ys → IsSkipped (xs ++ ys)
both_skipped xs ys h k = λ rest. ap (λ t. told_of (lines t)) (append_assoc xs ys rest) ∙ h (ys ++ rest) ∙ k rest

cut_comment : (t : Bool) (n : ℕ) (line : List ℕ) → is_skipped (cond t (take n (35 ∷ line)) (35 ∷ line)) ≡ true
cut_comment true zero line = refl
cut_comment true (suc n) line = refl
cut_comment false n line = refl

skip_one : (line : List ℕ) (ls : List (List ℕ)) → is_skipped line ≡ true → told_of (line ∷ ls) ≡ told_of ls
skip_one line ls h = rw h refl

pub comment : (ps : List Piece) → IsSkipped (35 ∷ joined ps (10 ∷ []))
comment ps = λ rest.
    let line : List ℕ = 35 ∷ joined ps [] in
    ap (λ (t : List ℕ). told_of (lines ((35 ∷ t) ++ rest))) (joined_line ps) ∙ ap told_of (lines_ended line rest (line_unended ps))
    ∙ skip_one (without_return line) (lines rest) (cut_comment _ (length line - 1) (joined ps []))

-- ## Lines that are told

-- every line of the text is
abbrev pub IsTold : List ℕ → Type 0
IsTold text =
    (rest : List ℕ) → told_of (lines rest) ≡ lines rest → told_of (lines (text ++ rest)) ≡ lines (text ++ rest)

pub both_told : (xs ys : List ℕ) → IsTold xs → IsTold ys → IsTold (xs ++ ys)
both_told xs ys h k = λ rest told.
    let whole = append_assoc xs ys rest in
    ap (λ t. told_of (lines t)) whole ∙ h (ys ++ rest) (k rest told) ∙ ap lines (sym whole)

cut_told : (t : Bool) (m n a b : ℕ) (line : List ℕ) → m ≡ suc n
    → is_skipped (cond t (take m (a ∷ b ∷ line)) (a ∷ b ∷ line)) ≡ eqb a 35
cut_told true m n a b line same = ap (λ (k : ℕ). is_skipped (take k (a ∷ b ∷ line))) same
cut_told false m n a b line same = refl

tell_one : (line : List ℕ) (ls : List (List ℕ)) → is_skipped line ≡ false → told_of (line ∷ ls) ≡ line ∷ told_of ls
tell_one line ls h = rw h refl

whole_told : (a b : ℕ) (line rest : List ℕ) → eqb a 35 ≡ false → IsUnended (a ∷ b ∷ line)
    → told_of (lines rest) ≡ lines rest
    → told_of (lines (((a ∷ b ∷ line) ++ (10 ∷ [])) ++ rest)) ≡ lines (((a ∷ b ∷ line) ++ (10 ∷ [])) ++ rest)
whole_told a b line rest other h told =
    let cut = lines_ended (a ∷ b ∷ line) rest h in
    let first = without_return (a ∷ b ∷ line) in
    ap told_of cut ∙ tell_one first (lines rest) (cut_told _ _ (length line) a b line (omega arith) ∙ other)
    ∙ ap (λ (ls : List (List ℕ)). first ∷ ls) told ∙ sym cut

-- one line that begins with no `#` and has more than one byte
pub told_line : (a b : ℕ) (ps : List Piece) → eqb a 35 ≡ false → goes_on a ≡ true → goes_on b ≡ true
    → IsTold (a ∷ b ∷ joined ps (10 ∷ []))
told_line a b ps other on next = λ rest told.
    let whole : a ∷ b ∷ joined ps (10 ∷ []) ≡ (a ∷ b ∷ joined ps []) ++ (10 ∷ []) =
    ap (λ (t : List ℕ). a ∷ b ∷ t) (joined_line ps) in
    let all : IsUnended (a ∷ b ∷ joined ps []) = rw (on, next) (line_unended ps) in
    ap (λ (t : List ℕ). told_of (lines (t ++ rest))) whole ∙ whole_told a b (joined ps []) rest other all told
    ∙ ap (λ (t : List ℕ). lines (t ++ rest)) (sym whole)

high_one : (a : ℕ) → is_high a ≡ true → (eqb a 35 ≡ false) × (goes_on a ≡ true)
high_one a h = let above = leb-true 48 a h in (grind (arith, nat_tests), grind (arith, nat_tests))

number_first : (ds : List ℕ) (ps : List Piece) → AreDigits ds → IsTold (ds ++ (32 ∷ joined ps (10 ∷ [])))
number_first [] ps are = let some = are.1 in absurd (omega arith)
number_first (a ∷ []) ps are =
    let one = high_one a (and_parts (is_high a) true are.0).0 in
    told_line a 32 ps one.0 one.1 refl
number_first (a ∷ b ∷ ds) ps are =
    let parts = and_parts (is_high a) (list_all is_high (b ∷ ds)) are.0 in
    let more = and_parts (is_high b) (list_all is_high ds) parts.1 in
    let one = high_one a parts.0 in
    told_line a b (piece ds (high_unended ds more.1) ∷ space ∷ ps) one.0 one.1 (high_one b more.0).1

-- a line that begins with a number and a space
pub numbered : (n : ℕ) (ps : List Piece) → IsTold (decimal n ++ (32 ∷ joined ps (10 ∷ [])))
numbered n ps = number_first (decimal n) ps (are_digits n)
