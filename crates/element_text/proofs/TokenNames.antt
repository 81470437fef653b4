-- Each name among the tokens of a text is a name when it stands alone.
use Rattle.std.proofs.Common.{◌≡◌, ℕ, ◌+◌, ◌==◌, Bool, true, false, ◌||◌, List, [], ◌∷◌, length, drop, Option, Some, None, cond, refl, sym, ap, subst, ◌∙◌}
use Rattle.std.specs.Prelude.{if◌then◌else◌, take_while}
use Rattle.std.specs.List.{list_any}
use Rattle.std.proofs.lemmas.Bool.{or_left}
use Rattle.std.proofs.lemmas.List.Sums.{take_while-cons}
use Rattle.packet_fields.specs.declared.field.Field.{Field}
use Rattle.packet_fields.specs.Table.{field_named}
use Rattle.element_lang.specs.declared.mark.Mark.{Mark}
use Rattle.element_lang.specs.Mark.{keyword, symbol_in_front}
use Rattle.element_lang.specs.Token.{Token, fixed, number, name, field, Lexeme, Placed, IsName, AreTokens, HasTokens, gap, lexeme, sized_lexeme, is_letter, is_digit, is_word_byte, is_number_byte, field_token, plain_word, word_token, word_lexeme, number_token, number_value, number_lexeme, symbol_of}
use Rattle.element_lang.specs.Accepted.{plain}

-- every name among these tokens is one when it stands alone
abbrev pub AreNamed : List Token → Type 0
AreNamed [] = Unit {0}
AreNamed (name word ∷ ts) = IsName word × AreNamed ts
AreNamed (fixed m ∷ ts) = AreNamed ts
AreNamed (number n ∷ ts) = AreNamed ts
AreNamed (field f ∷ ts) = AreNamed ts

-- a name is a word
pub some_token : (len : ℕ) (o : Option Token) (x : Lexeme) → sized_lexeme len o ≡ Some x → o ≡ Some x.token
some_token len None x e = cc
some_token len (Some t) x e = let same : ◌≡◌ {A = Lexeme} (record { token = t; len = len }) x = cc in ap (λ (y : Lexeme). Some y.token) same

pub no_number : (len : ℕ) (o : Option ℕ) (x : Lexeme) (word : List ℕ) → sized_lexeme len (number_token o) ≡ Some x → x.token ≡ name word → ⊥
no_number len None x word e n = cc
no_number len (Some v) x word e n = let same : Some (number v) ≡ Some x.token = some_token len (Some (number v)) x e in cc

pub no_symbol : (o : Option Mark) (x : Lexeme) (word : List ℕ) → symbol_of o ≡ Some x → x.token ≡ name word → ⊥
no_symbol None x word e n = cc
no_symbol (Some m) x word e n = let same : Some (fixed m) ≡ Some x.token = some_token _ (Some (fixed m)) x e in cc

name_is_word : (letter digit : Bool) (word digits : List ℕ) (m : Option Mark) (x : Lexeme) (w : List ℕ)
    → (if letter then word_lexeme word else (if digit then number_lexeme digits else symbol_of m)) ≡ Some x → x.token ≡ name w
    → (letter ≡ true) × (word_lexeme word ≡ Some x)
name_is_word true digit word digits m x w e n = (refl, e)
name_is_word false true word digits m x w e n = absurd (no_number (length digits) (number_value digits) x w e n)
name_is_word false false word digits m x w e n = absurd (no_symbol m x w e n)

-- the word that a name is
pub word_is : (dots : Bool) (f : Option Field) (word : List ℕ) (m : Option Mark) (w : List ℕ)
    → (if dots then field_token f else Some (plain_word word m)) ≡ Some (name w) → word ≡ w
word_is true None word m w e = cc
word_is true (Some f) word m w e = cc
word_is false f word None w e = cc
word_is false f word (Some m) w e = cc

-- a word goes on over all of itself
held : (p : ℕ → Bool) (xs : List ℕ) → take_while p (take_while p xs) ≡ take_while p xs
held p [] = refl
held p (x ∷ xs) = by_test (p x) refl (held p xs)
  where
    by_test : (t : Bool) → p x ≡ t → take_while p (take_while p xs) ≡ take_while p xs → take_while p (take_while p (x ∷ xs)) ≡ take_while p (x ∷ xs)
    by_test true e rest =
        let first : take_while p (x ∷ xs) ≡ x ∷ take_while p xs = take_while-cons p x xs ∙ ap (λ b. cond b (x ∷ take_while p xs) []) e in
        ap (take_while p) first ∙ take_while-cons p x (take_while p xs) ∙ ap (λ b. cond b (x ∷ take_while p (take_while p xs)) []) e ∙ ap (λ l. x ∷ l) rest
        ∙ sym first
    by_test false e rest =
        let first : take_while p (x ∷ xs) ≡ [] = take_while-cons p x xs ∙ ap (λ b. cond b (x ∷ take_while p xs) []) e in
        ap (take_while p) first ∙ sym first

-- a letter and what goes on behind it, alone
lexeme_alone : (b : ℕ) (rest : List ℕ) → is_letter b ≡ true → take_while is_word_byte (b ∷ rest) ≡ b ∷ rest → lexeme (b ∷ rest) ≡ word_lexeme (b ∷ rest)
lexeme_alone b rest letter whole =
    ap (λ l. if l then word_lexeme (take_while is_word_byte (b ∷ rest)) else
    (if is_digit b then number_lexeme (take_while is_number_byte (b ∷ rest)) else symbol_of (symbol_in_front (b ∷ rest)))) letter
    ∙ ap word_lexeme whole

word_alone : (b : ℕ) (rest word : List ℕ) → is_letter b ≡ true → word ≡ b ∷ rest → take_while is_word_byte word ≡ word → word_token word ≡ Some (name word)
    → IsName word
word_alone b rest word letter is whole token =
    let first : take_while is_word_byte (b ∷ rest) ≡ b ∷ rest = ap (take_while is_word_byte) (sym is) ∙ whole ∙ is in
    ap lexeme is ∙ lexeme_alone b rest letter first ∙ ap word_lexeme (sym is) ∙ ap (sized_lexeme (length word)) token

name_alone : (bs : List ℕ) (x : Lexeme) (w : List ℕ) → lexeme bs ≡ Some x → x.token ≡ name w → IsName w
name_alone [] x w e n = cc
name_alone (b ∷ bs) x w e n =
    let word : List ℕ = take_while is_word_byte (b ∷ bs) in
    let parts = name_is_word (is_letter b) (is_digit b) word (take_while is_number_byte (b ∷ bs)) (symbol_in_front (b ∷ bs)) x w e n in
    let token : word_token word ≡ Some (name w) = some_token (length word) (word_token word) x parts.1 ∙ ap Some n in
    let same : word ≡ w = word_is (list_any (λ b. b == 46) word) (field_named word) word (keyword word) w token in
    let goes_on : is_word_byte b ≡ true = or_left (is_letter b || is_digit b || b == 95) (b == 46)
    (or_left (is_letter b || is_digit b) (b == 95) (or_left (is_letter b) (is_digit b) parts.0)) in
    let split : word ≡ b ∷ take_while is_word_byte bs = take_while-cons is_word_byte b bs ∙ ap (λ t. cond t (b ∷ take_while is_word_byte bs) []) goes_on in
    let P : List ℕ → Type 0 = IsName in
    subst P same (word_alone b (take_while is_word_byte bs) word parts.0 split (held is_word_byte (b ∷ bs)) (token ∙ ap (λ l. Some (name l)) (sym same)))

named_more : (t : Token) (ts : List Token) → ((w : List ℕ) → t ≡ name w → IsName w) → AreNamed ts → AreNamed (t ∷ ts)
named_more (name w) ts h k = (h w refl, k)
named_more _ ts h k = k

all_named : (ts : List Placed) (offset : ℕ) (bs : List ℕ) (stop : ℕ) (rest : List ℕ) → HasTokens offset bs ts stop rest → AreNamed (plain ts)
all_named [] offset bs stop rest h = tt
all_named (t ∷ ts) offset bs stop rest (x, found, made, more) =
    let n : ℕ = gap false bs in
    let token : t.token ≡ x.token = ap (λ (p : Placed). p.token) made in
    named_more t.token (plain ts) (λ w e. name_alone (drop n bs) x w found (sym token ∙ e))
    (all_named ts (offset + n + x.len) (drop x.len (drop n bs)) stop rest more)

pub tokens_named : (text : List ℕ) (ts : List Placed) → AreTokens text ts → AreNamed (plain ts)
tokens_named text ts h = all_named ts 0 text (length text) [] h
