-- Names and numbers are read again as they are printed.
use Rattle.std.proofs.Common.{◌≡◌, ℕ, ◌+◌, ◌-◌, ◌*◌, ◌^◌, ◌<◌, ◌≤◌, Bool, true, false, cond, ◌&&◌, List, [], ◌∷◌, ◌++◌, length, nat_lt, Option, Some, None, refl, sym, ap, ◌∙◌, arith, rules, codes, if◌then◌else◌, decimal, nat_eq}
use Rattle.std.specs.List.{list_all, take_while, starts_with}
use Rattle.std.specs.Str.{all_ascii_digits}
use Rattle.std.proofs.lemmas.List.Sums.{take_while-cons}
use Rattle.std.proofs.lemmas.Str.Parse.{IsNumeralModel, numerals_by_fold}
use Rattle.std.proofs.lemmas.Fmt.{digits_decimal, digits_value-decimal, decimal_nonempty}
use Rattle.std.proofs.lemmas.Bool.Decides.{nat_tests}
use Rattle.packet_fields.specs.declared.field.Field.{Field}
use Rattle.element_lang.specs.declared.mark.Mark.{Mark}
use Rattle.element_lang.specs.Mark.{symbol_in_front}
use Rattle.element_lang.specs.Token.{Token, fixed, number, name, field, IsName, Lexeme, gap, lexeme, sized_lexeme, word_lexeme, word_token, number_lexeme, number_token, number_value, decimal_value, decimal_digit, with_digit, symbol_of, is_blank, is_letter, is_digit, is_word_byte, is_number_byte}
use Rattle.element_print.specs.Printed.{token_text}
use Rattle.element_print.proofs.Marks.{Stop, space, feed, mark_read, mark_front, mark_ascii, field_read, field_front, field_ascii}
use Rattle.lemmas.proofs.Lists.{first_taken}
use Rattle.lemmas.proofs.Tests.{and_false, and_first, and_second}
use Rattle.std.proofs.lemmas.Bool.{and_from, lt-ltb}

-- ## What is taken from the front

ends_word : {b : ℕ} → Stop b → is_word_byte b ≡ false
ends_word space = refl
ends_word feed = refl

ends_number : {b : ℕ} → Stop b → is_number_byte b ≡ false
ends_number space = refl
ends_number feed = refl

take_all : (p : ℕ → Bool) (bs : List ℕ) → list_all p bs ≡ true → take_while p bs ≡ bs
take_all p [] h = refl
take_all p (b ∷ bs) h = take_while-cons p b bs ∙ ap (λ t. cond t (b ∷ take_while p bs) []) (and_first (p b) (list_all p bs) h)
    ∙ ap (λ cs. b ∷ cs) (take_all p bs (and_second (p b) (list_all p bs) h))

take_until : (p : ℕ → Bool) (bs : List ℕ) (b : ℕ) (cs : List ℕ) → list_all p bs ≡ true → p b ≡ false → take_while p (bs ++ b ∷ cs) ≡ bs
take_until p [] b cs h stop = take_while-cons p b cs ∙ ap (λ t. cond t (b ∷ take_while p cs) []) stop
take_until p (a ∷ bs) b cs h stop =
    take_while-cons p a (bs ++ b ∷ cs) ∙ ap (λ t. cond t (a ∷ take_while p (bs ++ b ∷ cs)) []) (and_first (p a) (list_all p bs) h)
    ∙ ap (λ cs. a ∷ cs) (take_until p bs b cs (and_second (p a) (list_all p bs) h) stop)

all_taken : (p : ℕ → Bool) (bs : List ℕ) → length (take_while p bs) ≡ length bs → list_all p bs ≡ true
all_taken p [] h = refl
all_taken p (b ∷ bs) h =
    let (first, others) = first_taken (p b) b bs (take_while p bs) (ap length (sym (take_while-cons p b bs)) ∙ h) in
    ap (λ t. t && list_all p bs) first ∙ all_taken p bs others

-- ## Names

pub same_lexeme : (x y : Lexeme) → Some x ≡ Some y → (x.token ≡ y.token) × (x.len ≡ y.len)
same_lexeme x y h =
    let same : x ≡ y = cc in
    (ap (λ (x : Lexeme). x.token) same, ap (λ (x : Lexeme). x.len) same)

not_a_number : (n : Option ℕ) (len : ℕ) (word : List ℕ) (x : ℕ) → sized_lexeme len (number_token n) ≡ Some (record { token = name word; len = x }) → ⊥
not_a_number None len word x h = cc
not_a_number (Some n) len word x h = let (token, same_len) = same_lexeme _ _ h in cc

not_a_symbol : (m : Option Mark) (word : List ℕ) (x : ℕ) → symbol_of m ≡ Some (record { token = name word; len = x }) → ⊥
not_a_symbol None word x h = cc
not_a_symbol (Some m) word x h = let (token, same_len) = same_lexeme _ _ h in cc

-- the first byte of a name is a letter, and its bytes are those of a word
letter_first : (l d : Bool) (w : List ℕ) (digits : List ℕ) (m : Option Mark) (word : List ℕ)
    → (if l then word_lexeme w else (if d then number_lexeme digits else symbol_of m)) ≡ Some (record { token = name word; len = length word })
    → (l ≡ true) × (word_lexeme w ≡ Some (record { token = name word; len = length word }))
letter_first true d w digits m word h = (refl, h)
letter_first false true w digits m word h = absurd (not_a_number (number_value digits) (length digits) word (length word) h)
letter_first false false w digits m word h = absurd (not_a_symbol m word (length word) h)

token_within : (t : Option Token) (len : ℕ) (word : List ℕ) (x : ℕ) → sized_lexeme len t ≡ Some (record { token = name word; len = x })
    → (t ≡ Some (name word)) × (len ≡ x)
token_within None len word x h = cc
token_within (Some t) len word x h = let (token, same_len) = same_lexeme _ _ h in (ap Some token, same_len)

pub record Named (word : List ℕ) : Type 0 where
  pub first : ℕ
  pub rest : List ℕ
  pub is : word ≡ first ∷ rest
  pub letter : is_letter first ≡ true
  pub bytes : list_all is_word_byte word ≡ true
  pub token : word_token word ≡ Some (name word)

pub name_is : (word : List ℕ) → IsName word → Named word
name_is [] h = cc
name_is (b ∷ bs) h =
    let w = take_while is_word_byte (b ∷ bs) in
    let (letter, whole) = letter_first (is_letter b) (is_digit b) w (take_while is_number_byte (b ∷ bs)) (symbol_in_front (b ∷ bs)) (b ∷ bs) h in
    let (token, len) = token_within (word_token w) (length w) (b ∷ bs) (length (b ∷ bs)) whole in
    let all = all_taken is_word_byte (b ∷ bs) len in
    record { first = b; rest = bs; is = refl; letter = letter; bytes = all; token = ap word_token (sym (take_all is_word_byte (b ∷ bs) all)) ∙ token }

choose_word : (l d : Bool) (w digits : List ℕ) (m : Option Mark) → l ≡ true
    → (if l then word_lexeme w else (if d then number_lexeme digits else symbol_of m)) ≡ word_lexeme w
choose_word true d w digits m e = refl
choose_word false d w digits m e = cc

word_read : (word : List ℕ) (b : ℕ) (bs : List ℕ) → Named word → Stop b → lexeme (word ++ b ∷ bs) ≡ Some (record { token = name word; len = length word })
word_read [] b bs h stop = let e = h.is in cc
word_read (a ∷ rest) b bs h stop =
    let first : a ≡ h.first = let e = h.is in cc in
    let letter : is_letter a ≡ true = ap is_letter first ∙ h.letter in
    let all : List ℕ = a ∷ (rest ++ b ∷ bs) in
    let taken = take_until is_word_byte (a ∷ rest) b bs h.bytes (ends_word stop) in
    choose_word (is_letter a) (is_digit a) (take_while is_word_byte all) (take_while is_number_byte all) (symbol_in_front all) letter
    ∙ ap word_lexeme taken
    ∙ ap (sized_lexeme (length (a ∷ rest))) h.token

no_gap : (blank slash more : Bool) (x y : ℕ) → blank ≡ false → slash ≡ false → (if blank then x else (if slash && more then y else 0)) ≡ 0
no_gap false false more x y e f = refl
no_gap false true more x y e f = cc
no_gap true slash more x y e f = cc

letter_solid : (a : ℕ) → is_letter a ≡ true → is_blank a ≡ false
letter_solid a h = grind (arith, nat_tests)

letter_no_slash : (a : ℕ) → is_letter a ≡ true → nat_eq 47 a ≡ false
letter_no_slash a h = grind (arith, nat_tests)

name_front : (word : List ℕ) (bs : List ℕ) → Named word → gap false (word ++ bs) ≡ 0
name_front [] bs h = let e = h.is in cc
name_front (a ∷ rest) bs h =
    let first : a ≡ h.first = let e = h.is in cc in
    let letter : is_letter a ≡ true = ap is_letter first ∙ h.letter in
    no_gap (is_blank a) (nat_eq 47 a) _ _ _ (letter_solid a letter) (letter_no_slash a letter)

small_word_byte : (b : ℕ) → is_word_byte b ≡ true → nat_lt b 128 ≡ true
small_word_byte b h = grind (arith, nat_tests)

pub all_of : (p q : ℕ → Bool) → ((b : ℕ) → p b ≡ true → q b ≡ true) → (bs : List ℕ) → list_all p bs ≡ true → list_all q bs ≡ true
all_of p q step [] h = refl
all_of p q step (b ∷ bs) h = and_from (q b) (list_all q bs) (step b (and_first (p b) (list_all p bs) h)) (all_of p q step bs (and_second (p b) (list_all p bs) h))

-- ## Numbers

abbrev value_behind : ℕ → List ℕ → ℕ
value_behind n [] = n
value_behind n (b ∷ bs) = value_behind (n * 10 + (b - 48)) bs

own : IsNumeralModel (λ ds. all_ascii_digits ds ≡ true) (value_behind 0)
own = numerals_by_fold _ (search rules) value_behind (search rules)

-- further digits make a number no less
at_least : (n : ℕ) (bs : List ℕ) → n ≤ value_behind n bs
at_least n [] = omega arith
at_least n (b ∷ bs) = omega (arith, at_least (n * 10 + (b - 48)) bs)

with_next : (n b : ℕ) → is_digit b ≡ true → n * 10 + (b - 48) < 2 ^ 64 → with_digit 10 n (decimal_digit b) ≡ Some (n * 10 + (b - 48))
with_next n b digit fits =
    let n' = n * 10 + (b - 48) in
    ap (λ t. with_digit 10 n (if t then Some (b - 48) else None)) digit ∙ ap (λ t. if t then Some n' else None) (lt-ltb n' (2 ^ 64) fits)

value_read : (n : ℕ) (bs : List ℕ) → all_ascii_digits bs ≡ true → value_behind n bs < 2 ^ 64 → decimal_value (Some n) bs ≡ Some (value_behind n bs)
value_read n [] h fits = refl
value_read n (b ∷ bs) h fits =
    let digit = and_first (is_digit b) (all_ascii_digits bs) h in
    let next = with_next n b digit (omega (arith, at_least (n * 10 + (b - 48)) bs)) in
    ap (λ v. decimal_value v bs) next ∙ value_read (n * 10 + (b - 48)) bs (and_second (is_digit b) (all_ascii_digits bs) h) fits

digit_no_x : (b : ℕ) → is_digit b ≡ true → nat_eq 120 b ≡ false
digit_no_x b h = grind (arith, nat_tests)

not_hex : (bs : List ℕ) → all_ascii_digits bs ≡ true → starts_with nat_eq bs (codes "0x") ≡ false
not_hex [] h = refl
not_hex (a ∷ []) h = and_false (nat_eq 48 a)
not_hex (a ∷ b ∷ bs) h =
    let digit : is_digit b ≡ true = and_first (is_digit b) (all_ascii_digits bs) (and_second (is_digit a) (all_ascii_digits (b ∷ bs)) h) in
    ap (λ t. nat_eq 48 a && (t && true)) (digit_no_x b digit) ∙ and_false (nat_eq 48 a)

digit_first : (a : ℕ) → is_digit a ≡ true → is_letter a ≡ false
digit_first a h = grind (arith, nat_tests)

digit_solid : (a : ℕ) → is_digit a ≡ true → is_blank a ≡ false
digit_solid a h = grind (arith, nat_tests)

digit_no_slash : (a : ℕ) → is_digit a ≡ true → nat_eq 47 a ≡ false
digit_no_slash a h = grind (arith, nat_tests)

number_digit : (b : ℕ) → is_digit b ≡ true → is_number_byte b ≡ true
number_digit b h = grind (arith, nat_tests)

small_digit : (b : ℕ) → is_digit b ≡ true → nat_lt b 128 ≡ true
small_digit b h = grind (arith, nat_tests)

choose_number : (l d : Bool) (w digits : List ℕ) (m : Option Mark) → l ≡ false → d ≡ true
    → (if l then word_lexeme w else (if d then number_lexeme digits else symbol_of m)) ≡ number_lexeme digits
choose_number false true w digits m e f = refl
choose_number false false w digits m e f = cc
choose_number true d w digits m e f = cc

digits_all : (ds : List ℕ) → all_ascii_digits ds ≡ true → list_all is_digit ds ≡ true
digits_all [] h = refl
digits_all (d ∷ ds) h = and_from (is_digit d) (list_all is_digit ds) (and_first (is_digit d) (all_ascii_digits ds) h)
    (digits_all ds (and_second (is_digit d) (all_ascii_digits ds) h))

digits_read : (ds : List ℕ) (n : ℕ) (b : ℕ) (bs : List ℕ) → 0 < length ds → all_ascii_digits ds ≡ true → number_value ds ≡ Some n → Stop b
    → lexeme (ds ++ b ∷ bs) ≡ Some (record { token = number n; len = length ds })
digits_read [] n b bs some digits value stop = absurd (omega arith)
digits_read (a ∷ rest) n b bs some digits value stop =
    let digit : is_digit a ≡ true = and_first (is_digit a) (all_ascii_digits rest) digits in
    let numbers : list_all is_number_byte (a ∷ rest) ≡ true = all_of is_digit is_number_byte number_digit (a ∷ rest) (digits_all (a ∷ rest) digits) in
    let taken = take_until is_number_byte (a ∷ rest) b bs numbers (ends_number stop) in
    let all : List ℕ = a ∷ (rest ++ b ∷ bs) in
    choose_number (is_letter a) (is_digit a) (take_while is_word_byte all) (take_while is_number_byte all) (symbol_in_front all) (digit_first a digit) digit
    ∙ ap number_lexeme taken
    ∙ ap (λ v. sized_lexeme (length (a ∷ rest)) (number_token v)) value

digits_front : (ds bs : List ℕ) → 0 < length ds → all_ascii_digits ds ≡ true → gap false (ds ++ bs) ≡ 0
digits_front [] bs some digits = absurd (omega arith)
digits_front (a ∷ rest) bs some digits =
    let digit : is_digit a ≡ true = and_first (is_digit a) (all_ascii_digits rest) digits in
    no_gap (is_blank a) (nat_eq 47 a) _ _ _ (digit_solid a digit) (digit_no_slash a digit)

not_taken : (t : Bool) (x y : Option ℕ) → t ≡ false → (if t then x else y) ≡ y
not_taken false x y e = refl
not_taken true x y e = cc

decimal_read : (n : ℕ) → n < 2 ^ 64 → number_value (decimal n) ≡ Some n
decimal_read n fits =
    let digits : all_ascii_digits (decimal n) ≡ true = digits_decimal own n fits in
    let value : value_behind 0 (decimal n) ≡ n = digits_value-decimal own n fits in
    not_taken (starts_with nat_eq (decimal n) (codes "0x")) _ (decimal_value (Some 0) (decimal n)) (not_hex (decimal n) digits)
    ∙ value_read 0 (decimal n) digits (omega (arith, value)) ∙ ap Some value

-- ## Any token

-- a token that is read again as it is printed
pub record Readable (t : Token) : Type 0 where
  pub read : {b : ℕ} (bs : List ℕ) → Stop b → lexeme (token_text t ++ b ∷ bs) ≡ Some (record { token = t; len = length (token_text t) })
  pub front : {b : ℕ} (bs : List ℕ) → Stop b → gap false (token_text t ++ b ∷ bs) ≡ 0
  pub ascii : list_all (λ b. nat_lt b 128) (token_text t) ≡ true

pub fixed_readable : (m : Mark) → Readable (fixed m)
fixed_readable m = record { read = mark_read m; front = mark_front m; ascii = mark_ascii m }

pub field_readable : (f : Field) → Readable (field f)
field_readable f = record { read = field_read f; front = λ {b} bs stop. field_front f (b ∷ bs); ascii = field_ascii f }

pub name_readable : (word : List ℕ) → IsName word → Readable (name word)
name_readable word h =
    let named = name_is word h in
    record {
      read = λ {b} bs stop. word_read word b bs named stop;
      front = λ {b} bs stop. name_front word (b ∷ bs) named;
      ascii = all_of is_word_byte (λ b. nat_lt b 128) small_word_byte word named.bytes;
    }

pub number_readable : (n : ℕ) → n < 2 ^ 64 → Readable (number n)
number_readable n fits =
    let digits : all_ascii_digits (decimal n) ≡ true = digits_decimal own n fits in
    record {
      read = λ {b} bs stop. digits_read (decimal n) n b bs (decimal_nonempty n fits) digits (decimal_read n fits) stop;
      front = λ {b} bs stop. digits_front (decimal n) (b ∷ bs) (decimal_nonempty n fits) digits;
      ascii = all_of is_digit (λ b. nat_lt b 128) small_digit (decimal n) (digits_all (decimal n) digits);
    }
