-- The objects of a source are ones that a report can tell.
use Rattle.std.proofs.Common.{◌≡◌, ℕ, ◌<◌, ◌^◌, ◌==◌, Bool, true, false, not, ◌&&◌, ◌||◌, nat_lt, nat_le, List, [], ◌∷◌, length, Option, Some, None, refl, sym}
use Rattle.std.proofs.Common.{ap, ◌∙◌, arith, true≢false, ◌⊎◌, inl, inr}
use Rattle.std.specs.Prelude.{All, IsTrue, take_while, slice_index}
use Rattle.std.specs.List.{list_all, list_any}
use Rattle.std.specs.Str.{bytes_eq}
use Rattle.std.proofs.lemmas.Bool.{cases_Bool, eqb-true, leb-true, lt-ltb, and_from, or_cases}
use Rattle.std.proofs.lemmas.Slice.Eq.{bytes_eq-Decides}
use Rattle.std.proofs.lemmas.List.Sums.{take_while-cons}
use Rattle.std.proofs.lemmas.List.Elements.{All-head, All-tail}
use Rattle.state_store.specs.declared.object.Kind.{Kind}
use Rattle.state_store.specs.declared.object.Kind.TheVariants.{Vector, Int}
use Rattle.state_store.specs.declared.object.ObjectDecl.{ObjectDecl}
use Rattle.element_lang.specs.Mark.{symbol_in_front}
use Rattle.element_lang.specs.Token.{Token, name, IsName, sized_lexeme, word_token, is_letter, is_digit, is_word_byte, is_number_byte}
use Rattle.element_lang.specs.Accepted.{HasNames}
use Rattle.element_lang.specs.Rules as rules
use Rattle.element_lang.specs.Rules.{same_widths, is_width, is_good_object, are_good_objects, is_good_body, declared_by}
use Rattle.element_lang.specs.Tree.{Tree}
use Rattle.report_text.specs.Form.{is_plain, are_widths, is_declared, are_apart, are_declared}
use Rattle.element_chain.proofs.ReadNames.{letter_first}
use Rattle.element_print.proofs.ReadableDecls.{all_widths}
use Rattle.element_print.proofs.Words.{same_lexeme}
use Rattle.gallium_cli.proofs.Bounds.{fitting_width}
use Rattle.lemmas.proofs.Lists.{first_taken}
use Rattle.lemmas.proofs.Tests.{and_first, and_second}

-- ## Names

letter_above : (b : ℕ) → is_letter b ≡ true → 32 < b
letter_above b h = elim (or_cases (nat_le 65 b && nat_le b 90) (nat_le 97 b && nat_le b 122) h) [
  | inl upper ↦ let low = leb-true 65 b (and_first (nat_le 65 b) (nat_le b 90) upper) in omega arith
  | inr lower ↦ let low = leb-true 97 b (and_first (nat_le 97 b) (nat_le b 122) lower) in omega arith
]

digit_above : (b : ℕ) → is_digit b ≡ true → 32 < b
digit_above b h = let low = leb-true 48 b (and_first (nat_le 48 b) (nat_le b 57) h) in omega arith

number_above : (b : ℕ) → is_number_byte b ≡ true → 32 < b
number_above b h = elim (or_cases (is_letter b || is_digit b) (b == 95) h) [
  | inl word ↦ elim (or_cases (is_letter b) (is_digit b) word) [
    | inl letter ↦ letter_above b letter
    | inr digit ↦ digit_above b digit
  ]
  | inr line ↦ let is = eqb-true b 95 line in omega arith
]

-- the bytes of words are above a blank
is_above : (b : ℕ) → is_word_byte b ≡ true → nat_lt 32 b ≡ true
is_above b h = lt-ltb 32 b (elim (or_cases (is_number_byte b) (b == 46) h) [
  | inl word ↦ number_above b word
  | inr dot ↦ let is = eqb-true b 46 dot in omega arith
])

len_within : (t : Option Token) (len : ℕ) (word : List ℕ) (x : ℕ)
    → sized_lexeme len t ≡ Some (record { token = name word; len = x }) → len ≡ x
len_within None len word x h = cc
len_within (Some t) len word x h = (same_lexeme _ _ h).1

-- where all bytes are taken, all of them are above a blank
all_above : (bs : List ℕ) → length (take_while is_word_byte bs) ≡ length bs → list_all (nat_lt 32) bs ≡ true
all_above [] h = refl
all_above (b ∷ bs) h =
    let (first, others) =
    first_taken (is_word_byte b) b bs (take_while is_word_byte bs) (ap length (sym (take_while-cons is_word_byte b bs)) ∙ h) in
    and_from (nat_lt 32 b) (list_all (nat_lt 32) bs) (is_above b first) (all_above bs others)

pub name_plain : (word : List ℕ) → IsName word → is_plain word ≡ true
name_plain [] h = refl
name_plain (b ∷ bs) h =
    let w = take_while is_word_byte (b ∷ bs) in
    let whole =
    letter_first (is_letter b) (is_digit b) w (take_while is_number_byte (b ∷ bs)) (symbol_in_front (b ∷ bs)) (b ∷ bs) h in
    all_above (b ∷ bs) (len_within (word_token w) (length w) (b ∷ bs) (length (b ∷ bs)) whole)

-- ## Widths

no_widths : (ws : List ℕ) → (length ws == 0) ≡ true → are_widths ws ≡ true
no_widths [] h = refl
no_widths (w ∷ ws) h = let none = eqb-true (length (w ∷ ws)) 0 h in absurd (omega arith)

-- the keys of an object, and its values
key_widths : (kind : Kind) (o : ObjectDecl) → is_good_object kind o ≡ true → are_widths o.keys ≡ true
key_widths Vector o h =
    fitting_width o.keys 32 (and_first (same_widths o.keys (32 ∷ [])) _ (and_first _ _ (and_first _ _ (and_first _ _ h)))) refl
key_widths Int o h = no_widths o.keys (and_first (length o.keys == 0) _ (and_first _ _ (and_first _ _ (and_first _ _ (and_first _ _ h)))))
key_widths _ o h = all_widths o.keys (and_first (rules.are_widths o.keys) _ (and_first _ _ (and_first _ _ (and_first _ _ h))))

value_widths : (kind : Kind) (o : ObjectDecl) → is_good_object kind o ≡ true → are_widths o.values ≡ true
value_widths Int o h =
    let first = slice_index o.values 0 in
    let wide = and_first _ _ (and_first _ _ (and_first _ _ h)) in
    let widths = and_first _ _ wide in
    fitting_width o.values first (and_second _ (same_widths o.values (first ∷ [])) widths) (and_second _ (is_width first) wide)
value_widths _ o h = all_widths o.values (and_second _ (rules.are_widths o.values) (and_first _ _ (and_first _ _ (and_first _ _ h))))

-- ## Objects

all_declared : (names : List (List ℕ)) (os : List ObjectDecl) → are_good_objects names os ≡ true
    → All (λ (o : ObjectDecl). IsName o.name) os → list_all is_declared os ≡ true
all_declared names [] h named = refl
all_declared names (o ∷ os) h named =
    let good = and_first (is_good_object o.kind o) _ (and_first _ _ h) in
    let plain = name_plain o.name (All-head (λ (d : ObjectDecl). IsName d.name) o os named) in
    and_from (is_declared o) (list_all is_declared os)
    (and_from (is_plain o.name && are_widths o.keys) (are_widths o.values)
    (and_from (is_plain o.name) (are_widths o.keys) plain (key_widths o.kind o good)) (value_widths o.kind o good))
    (all_declared (o.name ∷ names) os (and_second _ (are_good_objects (o.name ∷ names) os) h)
    (All-tail (λ (d : ObjectDecl). IsName d.name) o os named))

abbrev Among : List ℕ → List (List ℕ) → Type 0
Among x [] = ⊥
Among x (n ∷ ns) = (n ≡ x) ⊎ Among x ns

neither : (a b : Bool) → not (a || b) ≡ true → (a ≡ false) × (not b ≡ true)
neither true b h = absurd (true≢false (sym h))
neither false b h = (refl, h)

unequal : (taken word : List ℕ) (names : List (List ℕ)) → Among taken names
    → not (list_any (bytes_eq word) names) ≡ true → bytes_eq taken word ≡ false
unequal taken word [] there apart = absurd there
unequal taken word (n ∷ ns) (inl is) apart = elim (cases_Bool (bytes_eq taken word)) [
  | inl yes_same ↦
      let same : taken ≡ word = (bytes_eq-Decides taken word).0 yes_same in
      let itself : bytes_eq word word ≡ true = (bytes_eq-Decides word word).1 refl in
      let other = (neither (bytes_eq word n) (list_any (bytes_eq word) ns) apart).0 in
      absurd (true≢false (sym (ap (bytes_eq word) (is ∙ same) ∙ itself) ∙ other))
  | inr apart_here ↦ apart_here
]
unequal taken word (n ∷ ns) (inr later) apart =
    unequal taken word ns later (neither (bytes_eq word n) (list_any (bytes_eq word) ns) apart).1

-- a name that is taken is that of no other object
new_names : (taken : List ℕ) (names : List (List ℕ)) (os : List ObjectDecl) → are_good_objects names os ≡ true
    → Among taken names → list_any (λ (d : ObjectDecl). bytes_eq taken d.name) os ≡ false
new_names taken names [] h there = refl
new_names taken names (o ∷ os) h there =
    let own = and_second (is_good_object o.kind o) (not (list_any (bytes_eq o.name) names)) (and_first _ _ h) in
    let here = unequal taken o.name names there own in
    let rest =
    new_names taken (o.name ∷ names) os (and_second _ (are_good_objects (o.name ∷ names) os) h) (inr there) in
    ap (λ b. b || list_any (λ (d : ObjectDecl). bytes_eq taken d.name) os) here ∙ rest

all_apart : (names : List (List ℕ)) (os : List ObjectDecl) → are_good_objects names os ≡ true → are_apart os ≡ true
all_apart names [] h = refl
all_apart names (o ∷ os) h =
    let rest = and_second _ (are_good_objects (o.name ∷ names) os) h in
    and_from (not (list_any (λ (d : ObjectDecl). bytes_eq o.name d.name) os)) (are_apart os)
    (ap not (new_names o.name (o.name ∷ names) os rest (inl refl))) (all_apart (o.name ∷ names) os rest)

pub declared_objects : (m : Tree) → IsTrue (rules.is_good m) → HasNames m → length m.objects < 2 ^ 32
    → IsTrue (are_declared m.objects)
declared_objects m good names few =
    let objects =
    and_first (are_good_objects [] m.objects) (declared_by m.body == length m.locals) (and_first _ (is_good_body m [] 0 m.body) good) in
    and_from (nat_lt (length m.objects) (2 ^ 32) && list_all is_declared m.objects) (are_apart m.objects)
    (and_from (nat_lt (length m.objects) (2 ^ 32)) (list_all is_declared m.objects) (lt-ltb (length m.objects) (2 ^ 32) few)
    (all_declared [] m.objects objects names.objects)) (all_apart [] m.objects objects)
