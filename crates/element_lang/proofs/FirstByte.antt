-- A mark that stands in front of some bytes is among those that begin with the first of them.
use Rattle.std.proofs.Common.{◌≡◌, ◌<◌, ℕ, Bool, true, false, cond, List, [], ◌∷◌, length, slice_get, slice_index, nat_eq, None, Some, refl, sym, ap, ◌∙◌, lit<, arith}
use Rattle.std.specs.List.{filter, find, starts_with}
use Rattle.std.specs.Str.{bytes_eq}
use Rattle.std.proofs.lemmas.Bool.{and_parts}
use Rattle.std.proofs.lemmas.Option.{none-some, same_Some}
use Rattle.element_lang.specs.declared.mark.Mark.{Mark}
use Rattle.element_lang.specs.declared.mark.Mark.TheVariants.{Table}
use Rattle.element_lang.specs.Mark.{spelling, begins, keyword, keywords, keywords_from, stands, symbols, symbols_from, symbol_in_front}
use Rattle.element_lang.proofs.Longest.{first_is_longest}

find_step : (P Q : Mark → Bool) (m : Mark) (ms : List Mark) (p q : Bool) → P m ≡ p → Q m ≡ q → (p ≡ true → q ≡ true)
    → find P (filter Q ms) ≡ find P ms → find P (filter Q (m ∷ ms)) ≡ find P (m ∷ ms)
find_step P Q m ms p true at among h rest =
    (λ i. find P (cond (among i) (m ∷ filter Q ms) (filter Q ms))) ∙ ap (λ o. cond (P m) (Some m) o) rest
find_step P Q m ms false false at among h rest =
    (λ i. find P (cond (among i) (m ∷ filter Q ms) (filter Q ms))) ∙ (rest ∙ (λ i. cond (sym at i) (Some m) (find P ms)))
find_step P Q m ms true false at among h rest = let bad : false ≡ true = h refl in cc

-- what is looked for is found among those that meet a test, where it meets that test itself
find_among : (P Q : Mark → Bool) (ms : List Mark) → ((m : Mark) → P m ≡ true → Q m ≡ true) → find P (filter Q ms) ≡ find P ms
find_among P Q [] h = refl
find_among P Q (m ∷ ms) h = find_step P Q m ms (P m) (Q m) refl refl (h m) (find_among P Q ms h)

whole_begins : (s : List ℕ) (b : ℕ) (bs : List ℕ) → bytes_eq s (b ∷ bs) ≡ true → nat_eq (slice_index s 0) b ≡ true
whole_begins [] b bs e = cc
whole_begins (c ∷ cs) b bs e = (and_parts (nat_eq c b) (bytes_eq cs bs) e).0

front_begins : (s : List ℕ) (b : ℕ) (bs : List ℕ) → 0 < length s → starts_with nat_eq (b ∷ bs) s ≡ true → nat_eq (slice_index s 0) b ≡ true
front_begins [] b bs some e = absurd (omega arith)
front_begins (c ∷ cs) b bs some e = (and_parts (nat_eq c b) (starts_with nat_eq bs cs) e).0

-- each mark is written with some byte
pub written : (m : Mark) → 0 < length (spelling m)
written Table = lit< tt
written _ = lit< tt

pub keyword_by_first : (word : List ℕ) (b : ℕ) → slice_get word 0 ≡ Some b
    → find (λ m. bytes_eq (spelling m) word) (keywords_from b) ≡ keyword word
unfolding keywords_from
keyword_by_first [] b e = absurd (none-some b e)
keyword_by_first (c ∷ cs) b e =
    (λ i. find (λ m. bytes_eq (spelling m) (c ∷ cs)) (filter (begins (sym (same_Some _ _ e) i)) keywords))
    ∙ find_among (λ m. bytes_eq (spelling m) (c ∷ cs)) (begins c) keywords (λ m. whole_begins (spelling m) c cs)

pub no_keyword : (word : List ℕ) → slice_get word 0 ≡ None → None ≡ keyword word
no_keyword [] e = refl
no_keyword (c ∷ cs) e = absurd (none-some c (sym e))

pub symbol_by_first : (bs : List ℕ) (b : ℕ) → slice_get bs 0 ≡ Some b → find (stands bs) (symbols_from b) ≡ symbol_in_front bs
unfolding symbols_from
symbol_by_first [] b e = absurd (none-some b e)
symbol_by_first (c ∷ cs) b e =
    (λ i. find (stands (c ∷ cs)) (filter (begins (sym (same_Some _ _ e) i)) symbols))
    ∙ (find_among (stands (c ∷ cs)) (begins c) symbols (λ m. front_begins (spelling m) c cs (written m)) ∙ first_is_longest (c ∷ cs))

pub no_symbol : (bs : List ℕ) → slice_get bs 0 ≡ None → None ≡ symbol_in_front bs
no_symbol [] e = refl
no_symbol (c ∷ cs) e = absurd (none-some c (sym e))
