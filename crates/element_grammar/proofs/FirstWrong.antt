-- Where the machine stops is the first wrong token, and there is no other.
use Rattle.std.proofs.Common.{◌≡◌, ◌≤◌, ◌<◌, ◌-◌, ℕ, suc, List, [], ◌∷◌, ◌++◌, length, take, drop, map, Some, None, refl, sym, ap, subst, ◌∙◌, append_assoc, arith, length-append, ◌⊎◌, inl, inr}
use Rattle.std.proofs.Math.Nat.{eq-or-lt_of_le}
use Rattle.std.proofs.lemmas.List.{take-append-drop, length-map}
use Rattle.element_lang.specs.Token.{Token}
use Rattle.element_lang.specs.Surface.{Surface}
use Rattle.element_lang.specs.Grammar.{Spells, Begins, IsFirstWrong}
use Rattle.element_grammar.specs.Machine.{middlebox, left_at}
use Rattle.element_grammar.proofs.Runs.{reads_middlebox}
use Rattle.element_grammar.proofs.Viable.{Completes, nothing, next, takes_middlebox}
use Rattle.element_grammar.proofs.ViableStops.{StopsAt, Stops, stops_at}

take_front : (front rest : List Token) → take (length front) (front ++ rest) ≡ front
take_front [] [] = refl
take_front [] (t ∷ rest) = refl
take_front (t ∷ front) rest = ap (λ l. t ∷ l) (take_front front rest)

take_one_more : (front : List Token) (t : Token) (rest : List Token) → take (suc (length front)) (front ++ t ∷ rest) ≡ front ++ t ∷ []
take_one_more front t rest =
    let n : suc (length front) ≡ length (front ++ t ∷ []) = omega (arith, length-append front (t ∷ [])) in
    ap (λ n. take n (front ++ t ∷ rest)) n ∙ ap (λ l. take (length (front ++ t ∷ [])) l) (sym (append_assoc front (t ∷ []) rest))
    ∙ take_front (front ++ t ∷ []) rest

spells_same : {ts us : List Token} (surface : Surface) → ts ≡ us → Spells ts surface → Spells us surface
spells_same surface same p = let P : List Token → Type 0 = λ ts. Spells ts surface in subst P same p

whole_of : {ts : List Token} → Completes (middlebox ∷ []) ts → (surface : Surface) × Spells ts surface
whole_of (next (takes_middlebox {ds = ds} {b = b} p) nothing) = (record { objects = ds; body = b }, p)

none_spelled : (ts : List Token) (left : ℕ) (surface : Surface) → left_at (middlebox ∷ []) ts ≡ Some left → Spells ts surface → ⊥
none_spelled ts left surface e p = let h : left_at (middlebox ∷ []) ts ≡ None = reads_middlebox p [] in cc

no_longer : (front rest : List Token) → StopsAt (middlebox ∷ []) front rest → length front < length (front ++ rest)
    → Begins (take (suc (length front)) (front ++ rest)) → ⊥
no_longer front [] stops lt b = absurd (omega (arith, length-append front []))
no_longer front (t ∷ rest) stops lt b =
    let h : take (suc (length front)) (front ++ t ∷ rest) ++ b.0 ≡ front ++ t ∷ b.0 =
    ap (λ l. l ++ b.0) (take_one_more front t rest) ∙ append_assoc front (t ∷ []) b.0 in
    none_spelled (front ++ t ∷ b.0) (suc (length b.0)) b.1 (stops b.0) (spells_same b.1 h b.2)

wrong_behind : (front rest more : List Token) (left : ℕ) (surface : Surface) → Spells (front ++ more) surface → StopsAt (middlebox ∷ []) front rest
    → left_at (middlebox ∷ []) (front ++ rest) ≡ Some left → IsFirstWrong (front ++ rest) (length front)
wrong_behind front rest more left surface p stops e = record {
  within = omega (arith, length-append front rest);
  begins = (more, surface, spells_same surface (ap (λ l. l ++ more) (sym (take_front front rest))) p);
  wrong = no_longer front rest stops;
  too_short = λ _ surface p. none_spelled (front ++ rest) left surface e p;
}

wrong_where : (ts : List Token) (left : ℕ) → left_at (middlebox ∷ []) ts ≡ Some left → Stops (middlebox ∷ []) ts left → IsFirstWrong ts (length ts - left)
wrong_where ts left e s =
    let w = whole_of s.viable in
    let M : List Token → Type 0 = λ l. left_at (middlebox ∷ []) l ≡ Some left in
    let h = wrong_behind s.front s.rest s.more left w.0 w.1 s.stops (subst M (sym s.whole) e) in
    let n : length s.front ≡ length ts - left = omega (arith, length-append s.front s.rest, ap length s.whole, s.count) in
    let P : List Token → Type 0 = λ l. IsFirstWrong l (length ts - left) in
    let Q : ℕ → Type 0 = λ n. IsFirstWrong (s.front ++ s.rest) n in
    subst P s.whole (subst Q n h)

pub first_wrong : (ts : List Token) (left : ℕ) → left_at (middlebox ∷ []) ts ≡ Some left → IsFirstWrong ts (length ts - left)
first_wrong ts left e = wrong_where ts left e (stops_at ts (middlebox ∷ []) left e)

pub left_fits : (ts : List Token) (left : ℕ) → left_at (middlebox ∷ []) ts ≡ Some left → left ≤ length ts
left_fits ts left e = let s = stops_at ts (middlebox ∷ []) left e in omega (arith, length-append s.front s.rest, ap length s.whole, s.count)

-- the same, where the tokens are seen through a map
pub first_wrong_of : {A : Type 0} (f : A → Token) (ts : List A) (left : ℕ) → left_at (middlebox ∷ []) (map f ts) ≡ Some left
    → IsFirstWrong (map f ts) (length ts - left)
first_wrong_of f ts left e = let P : ℕ → Type 0 = λ n. IsFirstWrong (map f ts) (n - left) in subst P (length-map ts f) (first_wrong (map f ts) left e)

pub left_fits_of : {A : Type 0} (f : A → Token) (ts : List A) (left : ℕ) → left_at (middlebox ∷ []) (map f ts) ≡ Some left → left ≤ length ts
left_fits_of f ts left e = omega (arith, left_fits (map f ts) left e, length-map ts f)

-- tokens that spell a source have no wrong token
pub none_wrong : (ts : List Token) (place : ℕ) (surface : Surface) → IsFirstWrong ts place → Spells ts surface → ⊥
none_wrong ts place surface h p = go (eq-or-lt_of_le h.within)
  where
    go : (place ≡ length ts) ⊎ (place < length ts) → ⊥
    go (inl e) = h.too_short e surface p
    go (inr lt) = h.wrong lt (drop (suc place) ts, surface, spells_same surface (sym (take-append-drop (suc place) ts)) p)
