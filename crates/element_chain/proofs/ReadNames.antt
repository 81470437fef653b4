-- The names of the whole can be read.
use Rattle.std.proofs.Common.{inl, inr, ◌≡◌, ℕ, suc, ◌+◌, ◌<◌, ◌≤◌, ◌^◌, ◌==◌, ◌&&◌, ◌||◌, Bool, true, false, cond, List, [], ◌∷◌, ◌++◌, length, refl, sym, ap, ◌∙◌, arith, true≢false, Option, Some, None, codes, take_while, if◌then◌else◌}
use Rattle.std.specs.Fmt.{decimal}
use Rattle.std.specs.List.{list_any, list_all, All}
use Rattle.std.specs.Str.{bytes_eq}
use Rattle.std.specs.Str.Parse.{AllDigits}
use Rattle.std.specs.Char.{digit_value}
use Rattle.std.proofs.lemmas.Bool.{and_from, eqb-true, false_from_ne_true, or_cases, or_left, or_parts}
use Rattle.std.proofs.lemmas.Bool.Decides.{nat_tests}
use Rattle.std.proofs.lemmas.Fmt.{decimal_is_IsNumeral}
use Rattle.std.proofs.lemmas.List.Elements.{All-nil, All-cons, All-head, All-tail}
use Rattle.std.proofs.lemmas.List.Sums.{take_while-cons}
use Rattle.state_store.specs.declared.object.ObjectDecl.{ObjectDecl}
use Rattle.element_lang.specs.declared.mark.Mark.{Mark}
use Rattle.element_lang.specs.declared.mark.Mark.TheVariants.{Vector, Else}
use Rattle.element_lang.specs.declared.tree.Local.{Local}
use Rattle.element_lang.specs.Mark.{keyword}
use Rattle.element_lang.specs.Token.{Token, name, Lexeme, IsName, is_letter, is_digit, is_number_byte, is_word_byte, sized_lexeme, word_lexeme, word_token, plain_word, field_token, number_lexeme, number_token, number_value, symbol_of}
use Rattle.packet_fields.specs.Table.{field_named}
use Rattle.element_lang.specs.Mark.{symbol_in_front}
use Rattle.element_lang.specs.Tree.{Tree}
use Rattle.element_lang.specs.Accepted.{HasNames}
use Rattle.element_chain.specs.Chain.{Connected, element_at}
use Rattle.element_chain.specs.Compose.{prefixed, named_objects, objects_from, locals_from, composed, entry_within}
use Rattle.lemmas.proofs.Lists.{first_taken, list_all_append}
use Rattle.lemmas.proofs.Tests.{and_first, and_second}

-- ## bytes
digit_byte : (b : ℕ) → digit_value b < 10 → is_number_byte b ≡ true
digit_byte b low = let from : 48 ≤ b = grind (arith, nat_tests, low) in let to : b ≤ 57 = grind (arith, nat_tests, low) in grind (arith, nat_tests, from, to)

digits_bytes : (ds : List ℕ) → AllDigits 10 ds → list_all is_number_byte ds ≡ true
digits_bytes [] all = refl
digits_bytes (d ∷ ds) all = and_from _ _ (digit_byte d all.0) (digits_bytes ds all.1)

word_bytes : (bs : List ℕ) → list_all is_number_byte bs ≡ true → list_all is_word_byte bs ≡ true
word_bytes [] h = refl
word_bytes (b ∷ bs) h = and_from _ _ (or_left (is_number_byte b) (b == 46) (and_first _ _ h)) (word_bytes bs (and_second (is_number_byte b) _ h))

no_dot : (b : ℕ) → is_number_byte b ≡ true → (b == 46) ≡ false
no_dot b h = false_from_ne_true (b == 46) (λ e. true≢false (sym h ∙ ap is_number_byte (eqb-true b 46 e)))

no_dots : (bs : List ℕ) → list_all is_number_byte bs ≡ true → list_any (λ b. b == 46) bs ≡ false
no_dots [] h = refl
no_dots (b ∷ bs) h = ap (λ x. x || list_any (λ b. b == 46) bs) (no_dot b (and_first _ _ h)) ∙ no_dots bs (and_second (is_number_byte b) _ h)

taken : (p : ℕ → Bool) (bs : List ℕ) → list_all p bs ≡ true → take_while p bs ≡ bs
taken p [] h = refl
taken p (b ∷ bs) h =
    take_while-cons p b bs ∙ ap (λ t. cond t (b ∷ take_while p bs) []) (and_first (p b) (list_all p bs) h) ∙ ap (λ cs. b ∷ cs) (taken p bs (and_second (p b) (list_all p bs) h))

-- ## a letter, a digit, and more
choose_word : (l d : Bool) (w digits : List ℕ) (m : Option Mark) → l ≡ true → (if l then word_lexeme w else (if d then number_lexeme digits else symbol_of m)) ≡ word_lexeme w
choose_word true d w digits m e = refl
choose_word false d w digits m e = absurd (true≢false (sym e))

word_is : (word : List ℕ) → list_any (λ b. b == 46) word ≡ false → keyword word ≡ None → word_lexeme word ≡ Some (record { token = name word; len = length word })
word_is word dots none =
    ap (λ x. sized_lexeme (length word) (cond x (field_token (field_named word)) (Some (plain_word word (keyword word))))) dots
    ∙ ap (λ k. sized_lexeme (length word) (Some (plain_word word k))) none

name_from : (b : ℕ) (bs : List ℕ) → is_letter b ≡ true → list_all is_number_byte (b ∷ bs) ≡ true → keyword (b ∷ bs) ≡ None → IsName (b ∷ bs)
name_from b bs letter bytes none =
    let word : List ℕ = b ∷ bs in
    choose_word (is_letter b) (is_digit b) (take_while is_word_byte word) (take_while is_number_byte word) (symbol_in_front word) letter
    ∙ ap word_lexeme (taken is_word_byte word (word_bytes word bytes)) ∙ word_is word (no_dots word bytes) none

no_letter : (d letter : ℕ) → 57 < letter → digit_value d < 10 → (letter == d) ≡ false
no_letter d letter past low = let to : d ≤ 57 = grind (arith, nat_tests, low) in grind (arith, nat_tests, to, past)

keyword_v : (d : ℕ) (rest : List ℕ) → (101 == d) ≡ false → keyword (118 ∷ d ∷ rest) ≡ None
keyword_v d rest other = ap (λ x. cond (x && bytes_eq (codes "ctor") rest) (Some Vector) None) other

keyword_e : (d : ℕ) (rest : List ℕ) → (108 == d) ≡ false → keyword (101 ∷ d ∷ rest) ≡ None
keyword_e d rest other = ap (λ x. cond (x && bytes_eq (codes "se") rest) (Some Else) None) other

v_name : (ds : List ℕ) → 0 < length ds → AllDigits 10 ds → IsName (118 ∷ ds)
v_name [] some all = absurd (omega (arith, some))
v_name (d ∷ ds) some all = name_from 118 (d ∷ ds) refl (and_from _ _ refl (digits_bytes (d ∷ ds) all)) (keyword_v d ds (no_letter d 101 (omega arith) all.0))

e_name : (ds a : List ℕ) → 0 < length ds → AllDigits 10 ds → list_all is_number_byte a ≡ true → IsName (101 ∷ (ds ++ 95 ∷ a))
e_name [] a some all bytes = absurd (omega (arith, some))
e_name (d ∷ ds) a some all bytes =
    name_from 101 (d ∷ (ds ++ 95 ∷ a)) refl
    (and_from _ _ refl (list_all_append is_number_byte (d ∷ ds) (95 ∷ a) (digits_bytes (d ∷ ds) all) (and_from _ _ refl bytes)))
    (keyword_e d (ds ++ 95 ∷ a) (no_letter d 108 (omega arith) all.0))

-- ## a name has no dot
same_lexeme : (x y : Lexeme) → Some x ≡ Some y → (x.token ≡ y.token) × (x.len ≡ y.len)
same_lexeme x y h =
    let same : x ≡ y = cc in
    (ap (λ (x : Lexeme). x.token) same, ap (λ (x : Lexeme). x.len) same)

pub not_a_number : (n : Option ℕ) (len : ℕ) (word : List ℕ) (x : ℕ) → sized_lexeme len (number_token n) ≡ Some (record { token = name word; len = x }) → ⊥
not_a_number None len word x h = cc
not_a_number (Some n) len word x h = let (token, same_len) = same_lexeme _ _ h in cc

pub not_a_symbol : (m : Option Mark) (word : List ℕ) (x : ℕ) → symbol_of m ≡ Some (record { token = name word; len = x }) → ⊥
not_a_symbol None word x h = cc
not_a_symbol (Some m) word x h = let (token, same_len) = same_lexeme _ _ h in cc

pub letter_first : (l d : Bool) (w digits : List ℕ) (m : Option Mark) (word : List ℕ)
    → (if l then word_lexeme w else (if d then number_lexeme digits else symbol_of m)) ≡ Some (record { token = name word; len = length word })
    → word_lexeme w ≡ Some (record { token = name word; len = length word })
letter_first true d w digits m word h = h
letter_first false true w digits m word h = absurd (not_a_number (number_value digits) (length digits) word (length word) h)
letter_first false false w digits m word h = absurd (not_a_symbol m word (length word) h)

all_taken : (p : ℕ → Bool) (bs : List ℕ) → length (take_while p bs) ≡ length bs → list_all p bs ≡ true
all_taken p [] h = refl
all_taken p (b ∷ bs) h =
    let (first, others) = first_taken (p b) b bs (take_while p bs) (ap length (sym (take_while-cons p b bs)) ∙ h) in
    ap (λ t. t && list_all p bs) first ∙ all_taken p bs others

token_within : (t : Option Token) (len : ℕ) (word : List ℕ) (x : ℕ) → sized_lexeme len t ≡ Some (record { token = name word; len = x }) → (t ≡ Some (name word)) × (len ≡ x)
token_within None len word x h = cc
token_within (Some t) len word x h = let (token, same_len) = same_lexeme _ _ h in (ap Some token, same_len)

no_field : (o : Option Rattle.packet_fields.specs.declared.field.Field.Field) (word : List ℕ) → field_token o ≡ Some (name word) → ⊥
no_field None word h = cc
no_field (Some f) word h = cc

dots_by : (x : Bool) (w word : List ℕ) → cond x (field_token (field_named w)) (Some (plain_word w (keyword w))) ≡ Some (name word) → x ≡ false
dots_by true w word h = absurd (no_field (field_named w) word h)
dots_by false w word h = refl

plain_byte : (b : ℕ) → is_word_byte b ≡ true → (b == 46) ≡ false → is_number_byte b ≡ true
plain_byte b h other = elim (or_cases (is_number_byte b) (b == 46) h) [ inl is ↦ is | inr dot ↦ absurd (true≢false (sym dot ∙ other)) ]

plain_bytes : (bs : List ℕ) → list_all is_word_byte bs ≡ true → list_any (λ b. b == 46) bs ≡ false → list_all is_number_byte bs ≡ true
plain_bytes [] h none = refl
plain_bytes (b ∷ bs) h none =
    let two = or_parts (b == 46) (list_any (λ b. b == 46) bs) none in
    and_from _ _ (plain_byte b (and_first _ _ h) two.0) (plain_bytes bs (and_second (is_word_byte b) _ h) two.1)

name_bytes : (word : List ℕ) → IsName word → list_all is_number_byte word ≡ true
name_bytes [] h = refl
name_bytes (b ∷ bs) h =
    let w : List ℕ = take_while is_word_byte (b ∷ bs) in
    let whole = letter_first (is_letter b) (is_digit b) w (take_while is_number_byte (b ∷ bs)) (symbol_in_front (b ∷ bs)) (b ∷ bs) h in
    let parts = token_within (word_token w) (length w) (b ∷ bs) (length (b ∷ bs)) whole in
    let all : list_all is_word_byte (b ∷ bs) ≡ true = all_taken is_word_byte (b ∷ bs) parts.1 in
    let same : w ≡ b ∷ bs = taken is_word_byte (b ∷ bs) all in
    let none : list_any (λ b. b == 46) w ≡ false = dots_by (list_any (λ b. b == 46) w) w (b ∷ bs) parts.0 in
    plain_bytes (b ∷ bs) all (sym (ap (list_any (λ b. b == 46)) same) ∙ none)

-- ## the names of a whole
prefixed_name : (e : ℕ) (a : List ℕ) → e < 2 ^ 64 → IsName a → IsName (prefixed e a)
prefixed_name e a small is =
    let numeral = (decimal_is_IsNumeral e small).0 in
    e_name (decimal e) a numeral.0 numeral.1 (name_bytes a is)

names_in : (e : ℕ) (os rest : List ObjectDecl) → e < 2 ^ 64 → All (λ (o : ObjectDecl). IsName o.name) os → All (λ (o : ObjectDecl). IsName o.name) rest → All (λ (o : ObjectDecl). IsName o.name) (named_objects e os ++ rest)
names_in e [] rest small own others = others
names_in e (o ∷ os) rest small own others =
    All-cons (λ (o : ObjectDecl). IsName o.name) (record o { name = prefixed e o.name }) (named_objects e os ++ rest)
    (prefixed_name e o.name small (All-head (λ (o : ObjectDecl). IsName o.name) o os own))
    (names_in e os rest small (All-tail (λ (o : ObjectDecl). IsName o.name) o os own) others)

object_names : (e : ℕ) (ms : List Tree) → e + length ms < 2 ^ 64 → ((i : ℕ) → i < length ms → HasNames (element_at ms i)) → All (λ (o : ObjectDecl). IsName o.name) (objects_from e ms)
object_names e [] small have = All-nil (λ (o : ObjectDecl). IsName o.name)
object_names e (m ∷ ms) small have =
    names_in e m.objects (objects_from (suc e) ms) (omega (arith, small)) (have 0 (omega arith)).objects
    (object_names (suc e) ms (omega (arith, small)) (λ i lt. have (suc i) (omega (arith, lt))))

local_names : (k : ℕ) (ws : List ℕ) → k + length ws < 2 ^ 64 → All (λ (l : Local). IsName l.name) (locals_from k ws)
local_names k [] small = All-nil (λ (l : Local). IsName l.name)
local_names k (w ∷ ws) small =
    let numeral = (decimal_is_IsNumeral k (omega (arith, small))).0 in
    All-cons (λ (l : Local). IsName l.name) (record { name = codes "v" ++ decimal k; width = w }) (locals_from (suc k) ws)
    (v_name (decimal k) numeral.0 numeral.1) (local_names (suc k) ws (omega (arith, small)))

pub whole_named : (c : Connected) → length c.elements < 2 ^ 64 → length (entry_within c (length c.elements)).numbering.widths < 2 ^ 64 → ((e : ℕ) → e < length c.elements → HasNames (element_at c.elements e)) → HasNames (composed c)
whole_named c small few have = record {
  objects = object_names 0 c.elements (omega (arith, small)) have;
  locals = local_names 0 (entry_within c (length c.elements)).numbering.widths (omega (arith, few));
}
