-- The first wrong token of tokens that spell no statements.
use Rattle.std.proofs.Common.{◌≡◌, ◌≢◌, ◌⊎◌, inl, inr, ⊎_elim, ℕ, suc, ◌+◌, ◌<◌, ◌≤◌, max, List, [], ◌∷◌, ◌++◌, length, take, drop, refl, sym, ap, subst, ◌∙◌, arith, append_assoc, append-nil, length-append}
use Rattle.std.proofs.lemmas.Bool.{cases_lt}
use Rattle.std.proofs.lemmas.List.{take-append-drop, take-take}
use Rattle.chain_text.specs.Token.{Token}
use Rattle.chain_text.specs.declared.shape.TheConstants.{DECLARATION, WIRE}
use Rattle.chain_text.specs.Grammar.{Statement, declares, wires, statement_tokens, spelled, Begins, IsFirstWrong}
use Rattle.chain_text.specs.Shapes.{fit_of}
use Rattle.chain_text.proofs.FitOfShapes.{fit_few, fit_within, fits_whole, filled, disagree, declaration_of, wire_of, declaration_is, wire_is, declaration_shape, wire_shape}

-- ## the tokens behind statements

one_behind : (s : Statement) (more : List Token) (ss : List Statement) → statement_tokens s ++ more ≡ spelled ss → (us : List Statement) × (more ≡ spelled us)
one_behind (declares a b) more [] e = absurd (cc)
one_behind (wires a k j b) more [] e = absurd (cc)
one_behind (declares a b) more (declares c d ∷ us) e = (us, cc)
one_behind (declares a b) more (wires c k j d ∷ us) e = absurd (cc)
one_behind (wires a k j b) more (declares c d ∷ us) e = absurd (cc)
one_behind (wires a k j b) more (wires c l i d ∷ us) e = (us, cc)

pub behind : (ss : List Statement) (more : List Token) (us : List Statement) → spelled ss ++ more ≡ spelled us → (vs : List Statement) × (more ≡ spelled vs)
behind [] more us e = (us, e)
behind (s ∷ ss) more us e =
    let next = one_behind s (spelled ss ++ more) us (sym (append_assoc (statement_tokens s) (spelled ss) more) ∙ e) in
    behind ss more next.0 next.1

pub spelled-append : (ss us : List Statement) → spelled (ss ++ us) ≡ spelled ss ++ spelled us
spelled-append [] us = refl
spelled-append (s ∷ ss) us = ap (λ l. statement_tokens s ++ l) (spelled-append ss us) ∙ sym (append_assoc (statement_tokens s) (spelled ss) (spelled us))

-- tokens spell one list of statements at most
one_first : (s t : Statement) (more rest : List Token) → statement_tokens s ++ more ≡ statement_tokens t ++ rest → (s ≡ t) × (more ≡ rest)
one_first (declares a b) (declares c d) more rest e = (cc, cc)
one_first (declares a b) (wires c k j d) more rest e = absurd (cc)
one_first (wires a k j b) (declares c d) more rest e = absurd (cc)
one_first (wires a k j b) (wires c l i d) more rest e = (cc, cc)

some_tokens : (s : Statement) (more : List Token) → [] ≡ statement_tokens s ++ more → ⊥
some_tokens (declares a b) more e = cc
some_tokens (wires a k j b) more e = cc

pub one_list : (ss us : List Statement) → spelled ss ≡ spelled us → ss ≡ us
one_list [] [] e = refl
one_list [] (u ∷ us) e = absurd (some_tokens u (spelled us) e)
one_list (s ∷ ss) [] e = absurd (some_tokens s (spelled ss) (sym e))
one_list (s ∷ ss) (u ∷ us) e =
    let both = one_first s u (spelled ss) (spelled us) e in
    ap (λ x. x ∷ ss) both.0 ∙ ap (λ l. u ∷ l) (one_list ss us both.1)

take_behind : {A : Type 0} → (front rest : List A) (n : ℕ) → take (length front + n) (front ++ rest) ≡ front ++ take n rest
take_behind [] rest n = ap (λ k. take k rest) (omega arith)
take_behind (t ∷ front) rest n =
    let more : length (t ∷ front) + n ≡ suc (length front + n) = omega arith in
    ap (λ k. take k (t ∷ front ++ rest)) more ∙ ap (λ l. t ∷ l) (take_behind front rest n)

pub wrong_behind : (ss : List Statement) (rest : List Token) (n : ℕ) → IsFirstWrong rest n → IsFirstWrong (spelled ss ++ rest) (length (spelled ss) + n)
wrong_behind ss rest n h = record {
  within = omega (arith, length-append (spelled ss) rest, h.within);
  begins = begun h.begins;
  wrong = λ lt b. not_on (omega (arith, length-append (spelled ss) rest)) b;
  too_short = λ all us e. h.too_short (omega (arith, length-append (spelled ss) rest)) (behind ss rest us e).0 (behind ss rest us e).1;
}
  where
    begun : Begins (take n rest) → Begins (take (length (spelled ss) + n) (spelled ss ++ rest))
    begun (more, us, e) = (
      more,
      ss ++ us,
      ap (λ l. l ++ more) (take_behind (spelled ss) rest n) ∙ append_assoc (spelled ss) (take n rest) more
          ∙ ap (λ l. spelled ss ++ l) e ∙ sym (spelled-append ss us),
    )

    not_on : n < length rest → Begins (take (suc (length (spelled ss) + n)) (spelled ss ++ rest)) → ⊥
    not_on lt (more, us, e) =
        let next : suc (length (spelled ss) + n) ≡ length (spelled ss) + suc n = omega arith in
        let split : spelled ss ++ (take (suc n) rest ++ more) ≡ spelled us =
        sym (append_assoc (spelled ss) (take (suc n) rest) more) ∙ ap (λ l. l ++ more) (sym (take_behind (spelled ss) rest (suc n)))
        ∙ ap (λ k. take k (spelled ss ++ rest) ++ more) (sym next) ∙ e in
        let found = behind ss (take (suc n) rest ++ more) us split in
        h.wrong lt (more, found.0, found.1)

-- ## where neither shape fits

begins_so : (ts : List Token) (n : ℕ) (more : List Token) (s : Statement) → take n ts ++ more ≡ statement_tokens s → Begins (take n ts)
begins_so ts n more s e = (more, s ∷ [], e ∙ sym (append-nil (statement_tokens s)))

begins_declaration : (ts : List Token) (n : ℕ) → n ≡ fit_of DECLARATION ts → Begins (take n ts)
begins_declaration ts n e =
    let f = filled DECLARATION ts in
    let P : ℕ → Type 0 = λ n. Begins (take n ts) in
    let us : List Token = take (fit_of DECLARATION ts) ts ++ f.0 in
    subst P (sym e) (begins_so ts (fit_of DECLARATION ts) f.0 (declaration_of us) (declaration_is us f.1))

begins_wire : (ts : List Token) (n : ℕ) → n ≡ fit_of WIRE ts → Begins (take n ts)
begins_wire ts n e =
    let f = filled WIRE ts in
    let P : ℕ → Type 0 = λ n. Begins (take n ts) in
    let us : List Token = take (fit_of WIRE ts) ts ++ f.0 in
    subst P (sym e) (begins_so ts (fit_of WIRE ts) f.0 (wire_of us) (wire_is us f.1))

max_cases : (a b : ℕ) → (max a b ≡ a) ⊎ (max a b ≡ b)
max_cases a b = ⊎_elim (λ lt. inr (omega arith)) (λ le. inl (omega arith)) (cases_lt a b)

not_begun : (ts : List Token) (n : ℕ) → fit_of DECLARATION ts < 4 → fit_of WIRE ts < 10 → fit_of DECLARATION ts ≤ n → fit_of WIRE ts ≤ n → n < length ts
    → (more : List Token) (ss : List Statement) → take (suc n) ts ++ more ≡ spelled ss → ⊥
not_begun [] n d w low low' lt more ss e = omega arith
not_begun (t ∷ ts) n d w low low' lt more [] e = cc
not_begun (t ∷ ts) n d w low low' lt more (declares a b ∷ ss) e =
    disagree DECLARATION (statement_tokens (declares a b)) (t ∷ ts) more (spelled ss) n (declaration_shape a b) d low lt e
not_begun (t ∷ ts) n d w low low' lt more (wires a k j b ∷ ss) e =
    disagree WIRE (statement_tokens (wires a k j b)) (t ∷ ts) more (spelled ss) n (wire_shape a b k j) w low' lt e

not_whole : (ts : List Token) → 0 < length ts → fit_of DECLARATION ts < 4 → fit_of WIRE ts < 10 → (ss : List Statement) → ts ≡ spelled ss → ⊥
not_whole ts some d w [] e = let none : length ts ≡ 0 = ap length e in omega arith
not_whole ts some d w (declares a b ∷ ss) e =
    let all : fit_of DECLARATION ts ≡ 4 = ap (fit_of DECLARATION) e ∙ fits_whole DECLARATION (statement_tokens (declares a b)) (spelled ss) (declaration_shape a b) in
    omega arith
not_whole ts some d w (wires a k j b ∷ ss) e =
    let all : fit_of WIRE ts ≡ 10 = ap (fit_of WIRE) e ∙ fits_whole WIRE (statement_tokens (wires a k j b)) (spelled ss) (wire_shape a b k j) in
    omega arith

pub first_wrong : (ts : List Token) → 0 < length ts → fit_of DECLARATION ts ≢ 4 → fit_of WIRE ts ≢ 10
    → IsFirstWrong ts (max (fit_of DECLARATION ts) (fit_of WIRE ts))
first_wrong ts some d w =
    let few : fit_of DECLARATION ts < 4 = omega (arith, fit_few DECLARATION ts) in
    let few' : fit_of WIRE ts < 10 = omega (arith, fit_few WIRE ts) in
    record {
      within = omega (arith, fit_within DECLARATION ts, fit_within WIRE ts);
      begins = ⊎_elim (begins_declaration ts _) (begins_wire ts _) (max_cases (fit_of DECLARATION ts) (fit_of WIRE ts));
      wrong = λ lt b. not_begun ts (max (fit_of DECLARATION ts) (fit_of WIRE ts)) few few' (omega arith) (omega arith) lt b.0 b.1 b.2;
      too_short = λ all ss e. not_whole ts some few few' ss e;
    }

-- ## one first wrong token at most

-- what begins statements still begins them when it is cut
begins_cut : (ts : List Token) (n m : ℕ) → n ≤ m → Begins (take m ts) → Begins (take n ts)
begins_cut ts n m le (more, ss, e) =
    let whole : take n ts ++ drop n (take m ts) ≡ take m ts = ap (λ l. l ++ drop n (take m ts)) (sym (take-take n m ts le)) ∙ take-append-drop n (take m ts) in
    (drop n (take m ts) ++ more, ss, sym (append_assoc (take n ts) (drop n (take m ts)) more) ∙ ap (λ l. l ++ more) whole ∙ e)

not_before : (ts : List Token) (a b : ℕ) → IsFirstWrong ts a → IsFirstWrong ts b → a < b → ⊥
not_before ts a b h k lt = h.wrong (omega (arith, k.within)) (begins_cut ts (suc a) b (omega arith) k.begins)

pub one_place : (ts : List Token) (a b : ℕ) → IsFirstWrong ts a → IsFirstWrong ts b → a ≡ b
one_place ts a b h k =
    let low : a < b → ⊥ = not_before ts a b h k in
    let high : b < a → ⊥ = not_before ts b a k h in
    omega arith

-- statements have none
pub none_wrong : (ss : List Statement) (place : ℕ) → IsFirstWrong (spelled ss) place → ⊥
none_wrong ss place h =
    let begins : Begins (take (suc place) (spelled ss)) = (drop (suc place) (spelled ss), ss, take-append-drop (suc place) (spelled ss)) in
    let low : place < length (spelled ss) → ⊥ = λ lt. h.wrong lt begins in
    let within = h.within in
    h.too_short (omega arith) ss refl
