-- How many tokens fit a shape, and what those that fit all of it are.
use Rattle.std.proofs.Common.{◌≡◌, ℕ, zero, suc, ◌+◌, ◌<◌, ◌≤◌, Bool, true, false, cond, List, [], ◌∷◌, ◌++◌, length, take, drop, map, get_or, eqb, refl, sym, ap, ap₂, subst, ◌∙◌, arith}
use Rattle.std.proofs.lemmas.Bool.{false≢true, eqb-true, eq-eqb, cond_both, cond-true}
use Rattle.std.proofs.lemmas.List.{get_or-take, take-append-drop}
use Rattle.chain_text.specs.Token.{Token, name, number, fixed}
use Rattle.lexer.specs.Tokens.{span_text}
use Rattle.chain_text.specs.Tokens.{token_of, tokens_of, PlacedToken as Placed}
use Rattle.chain_text.specs.declared.mark.Mark.{Mark}
use Rattle.chain_text.specs.declared.mark.Mark.TheVariants.{Declares, Arrow, Opens, Closes, Ends}
use Rattle.chain_text.specs.declared.token.Token.{Token as Found}
use Rattle.chain_text.specs.declared.token.Token.TheVariants as found
use Rattle.chain_text.specs.declared.shape.Kind.{Kind}
use Rattle.chain_text.specs.declared.shape.Kind.TheVariants.{Name, Number, Fixed}
use Rattle.chain_text.specs.declared.shape.TheConstants.{DECLARATION, WIRE}
use Rattle.chain_text.specs.Grammar.{Statement, declares, wires, statement_tokens}
use Rattle.chain_text.specs.Shapes.{code, fits, fit_of}
use Rattle.chain_text.specs.Statements.{name_span, number_value, span_at, value_at}

-- the tokens are what they have to be, each of them
abbrev pub HasShape : List Kind → List Token → Type 0
HasShape [] [] = Unit {0}
HasShape [] (u ∷ us) = ⊥
HasShape (k ∷ ks) [] = ⊥
HasShape (k ∷ ks) (u ∷ us) = (fits k u ≡ true) × HasShape ks us

pub fit_few : (ks : List Kind) (ts : List Token) → fit_of ks ts ≤ length ks
fit_few [] ts = omega arith
fit_few (k ∷ ks) [] = omega arith
fit_few (k ∷ ks) (t ∷ ts) =
    cond_both (fits k t) (suc (fit_of ks ts)) 0 (λ n. n ≤ suc (length ks)) (λ _. omega (arith, fit_few ks ts)) (λ _. omega arith)

pub fit_within : (ks : List Kind) (ts : List Token) → fit_of ks ts ≤ length ts
fit_within [] ts = omega arith
fit_within (k ∷ ks) [] = omega arith
fit_within (k ∷ ks) (t ∷ ts) =
    cond_both (fits k t) (suc (fit_of ks ts)) 0 (λ n. n ≤ suc (length ts)) (λ _. omega (arith, fit_within ks ts)) (λ _. omega arith)

pub fits_whole : (ks : List Kind) (us rest : List Token) → HasShape ks us → fit_of ks (us ++ rest) ≡ length ks
fits_whole [] [] rest h = refl
fits_whole [] (u ∷ us) rest h = absurd h
fits_whole (k ∷ ks) [] rest h = absurd h
fits_whole (k ∷ ks) (u ∷ us) rest h = cond-true (fits k u) (suc (fit_of ks (us ++ rest))) 0 h.0 ∙ ap suc (fits_whole ks us rest h.1)

-- ## some more tokens fill a shape up
filler : Kind → Token
filler Name = name []
filler Number = number 0
filler (Fixed m) = fixed m

code_same : (m : Mark) → eqb (code m) (code m) ≡ true
code_same m = eq-eqb (code m) (code m) refl

filler_fits : (k : Kind) → fits k (filler k) ≡ true
unfolding filler
filler_fits (Fixed m) = code_same m
filler_fits _ = refl

all_filled : (ks : List Kind) → HasShape ks (map filler ks)
all_filled [] = tt
all_filled (k ∷ ks) = (filler_fits k, all_filled ks)

pub filled : (ks : List Kind) (ts : List Token) → (more : List Token) × HasShape ks (take (fit_of ks ts) ts ++ more)
filled [] ts = ([], tt)
filled (k ∷ ks) [] = (map filler (k ∷ ks), all_filled (k ∷ ks))
filled (k ∷ ks) (t ∷ ts) = by_test (fits k t) refl (filled ks ts)
  where
    by_test : (b : Bool) → fits k t ≡ b → (more : List Token) × HasShape ks (take (fit_of ks ts) ts ++ more)
        → (more : List Token) × HasShape (k ∷ ks) (take (cond b (suc (fit_of ks ts)) 0) (t ∷ ts) ++ more)
    by_test true h rest = (rest.0, (h, rest.1))
    by_test false h rest = (map filler (k ∷ ks), all_filled (k ∷ ks))

-- tokens that fit all of a shape have it
pub whole_fits : (ks : List Kind) (ts : List Token) → fit_of ks ts ≡ length ks → HasShape ks (take (length ks) ts)
whole_fits [] ts h = tt
whole_fits (k ∷ ks) [] h = absurd (omega arith)
whole_fits (k ∷ ks) (t ∷ ts) h = by_test (fits k t) refl h (λ all. whole_fits ks ts all)
  where
    by_test : (b : Bool) → fits k t ≡ b → cond b (suc (fit_of ks ts)) 0 ≡ suc (length ks)
        → (fit_of ks ts ≡ length ks → HasShape ks (take (length ks) ts)) → HasShape (k ∷ ks) (t ∷ take (length ks) ts)
    by_test true is all rest = (is, rest (omega arith))
    by_test false is all rest = absurd (omega arith)

-- ## tokens that begin otherwise than a shape
pub disagree : (ks : List Kind) (us ts more rest : List Token) (n : ℕ) → HasShape ks us → fit_of ks ts < length ks → fit_of ks ts ≤ n → n < length ts
    → take (suc n) ts ++ more ≡ us ++ rest → ⊥
disagree [] us ts more rest n h few low lt e = omega arith
disagree (k ∷ ks) [] ts more rest n h few low lt e = h
disagree (k ∷ ks) (u ∷ us) [] more rest n h few low lt e = omega arith
disagree (k ∷ ks) (u ∷ us) (t ∷ ts) more rest zero h few low lt e =
    let same : t ≡ u = cc in
    let fit : fits k t ≡ true = subst (λ x. fits k x ≡ true) (sym same) h.0 in
    let more_fit : fit_of (k ∷ ks) (t ∷ ts) ≡ suc (fit_of ks ts) = cond-true (fits k t) (suc (fit_of ks ts)) 0 fit in
    omega (arith, more_fit)
disagree (k ∷ ks) (u ∷ us) (t ∷ ts) more rest (suc n) h few low lt e =
    let same : t ≡ u = cc in
    let fit : fits k t ≡ true = subst (λ x. fits k x ≡ true) (sym same) h.0 in
    let more_fit : fit_of (k ∷ ks) (t ∷ ts) ≡ suc (fit_of ks ts) = cond-true (fits k t) (suc (fit_of ks ts)) 0 fit in
    let behind : take (suc n) ts ++ more ≡ us ++ rest = cc in
    disagree ks us ts more rest n h.1 (omega (arith, more_fit)) (omega (arith, more_fit)) (omega arith) behind

-- ## what the tokens of a shape are
abbrev pub word_of : Token → List ℕ
word_of (name word) = word
word_of _ = []

abbrev pub value_of : Token → ℕ
value_of (number n) = n
value_of _ = 0

name_is : (t : Token) → fits Name t ≡ true → t ≡ name (word_of t)
name_is (name word) h = refl
name_is _ h = absurd (false≢true h)

number_is : (t : Token) → fits Number t ≡ true → t ≡ number (value_of t)
number_is (number n) h = refl
number_is _ h = absurd (false≢true h)

abbrev mark_at : ℕ → Mark
mark_at n = get_or (Declares ∷ Arrow ∷ Opens ∷ Closes ∷ Ends ∷ []) n Declares

mark_back : (m : Mark) → mark_at (code m) ≡ m
mark_back Declares = refl
mark_back _ = refl

fixed_is : (m : Mark) (t : Token) → fits (Fixed m) t ≡ true → t ≡ fixed m
fixed_is m (fixed k) h =
    let same : code m ≡ code k = eqb-true (code m) (code k) h in
    ap fixed (sym (mark_back k) ∙ ap mark_at (sym same) ∙ mark_back m)
fixed_is m _ h = absurd (false≢true h)

abbrev nth : List Token → ℕ → Token
nth ts i = get_or ts i (fixed Ends)

abbrev pub declaration_of : List Token → Statement
declaration_of ts = declares (word_of (nth ts 0)) (word_of (nth ts 2))

abbrev pub wire_of : List Token → Statement
wire_of ts = wires (word_of (nth ts 0)) (value_of (nth ts 2)) (value_of (nth ts 6)) (word_of (nth ts 8))

-- a token of a kind, but for what another token says
abbrev as_kind : Kind → Token → Token
as_kind Name t = name (word_of t)
as_kind Number t = number (value_of t)
as_kind (Fixed m) t = fixed m

kind_is : (k : Kind) (t : Token) → fits k t ≡ true → t ≡ as_kind k t
kind_is Name t h = name_is t h
kind_is Number t h = number_is t h
kind_is (Fixed m) t h = fixed_is m t h

-- the tokens of a shape, told from some by their places
abbrev as_shape : List Kind → (ℕ → Token) → ℕ → List Token
as_shape [] at i = []
as_shape (k ∷ ks) at i = as_kind k (at i) ∷ as_shape ks at (suc i)

shape_is : (ks : List Kind) (us : List Token) (at : ℕ → Token) (i : ℕ) → ((j : ℕ) → nth us j ≡ at (i + j)) → HasShape ks us → us ≡ as_shape ks at i
shape_is [] [] at i same h = refl
shape_is [] (u ∷ us) at i same h = absurd h
shape_is (k ∷ ks) [] at i same h = absurd h
shape_is (k ∷ ks) (u ∷ us) at i same h =
    let first : i + 0 ≡ i = omega arith in
    let next : (j : ℕ) → i + suc j ≡ suc i + j = λ j. omega arith in
    ap₂ (λ x xs. x ∷ xs) (kind_is k u h.0 ∙ ap (as_kind k) (same 0 ∙ ap at first)) (shape_is ks us at (suc i) (λ j. same (suc j) ∙ ap at (next j)) h.1)

zero_more : (j : ℕ) → 0 + j ≡ j
zero_more j = omega arith

pub declaration_is : (us : List Token) → HasShape DECLARATION us → us ≡ statement_tokens (declaration_of us)
declaration_is us h = shape_is DECLARATION us (nth us) 0 (λ j. sym (ap (nth us) (zero_more j))) h

pub wire_is : (us : List Token) → HasShape WIRE us → us ≡ statement_tokens (wire_of us)
wire_is us h = shape_is WIRE us (nth us) 0 (λ j. sym (ap (nth us) (zero_more j))) h

-- every statement has one of the two shapes
pub declaration_shape : (element class : List ℕ) → HasShape DECLARATION (statement_tokens (declares element class))
declaration_shape element class = (refl, (refl, (refl, (refl, tt))))

pub wire_shape : (from to : List ℕ) (output input : ℕ) → HasShape WIRE (statement_tokens (wires from output input to))
wire_shape from to output input = (refl, (refl, (refl, (refl, (refl, (refl, (refl, (refl, (refl, (refl, tt))))))))))

-- ## the names and numbers of the tokens that were found
word_found : (text : List ℕ) (t : Found) → word_of (token_of text t) ≡ span_text text (name_span t)
word_found text (found.Name span) = refl
word_found text _ = refl

pub word_at : (text : List ℕ) (ps : List Placed) (i : ℕ) → word_of (nth (tokens_of text ps) i) ≡ span_text text (span_at ps i)
word_at text [] i = refl
word_at text (p ∷ ps) zero = word_found text p.token
word_at text (p ∷ ps) (suc i) = word_at text ps i

value_found : (text : List ℕ) (t : Found) → value_of (token_of text t) ≡ number_value t
value_found text (found.Name span) = refl
value_found text _ = refl

pub number_at : (text : List ℕ) (ps : List Placed) (i : ℕ) → value_of (nth (tokens_of text ps) i) ≡ value_at ps i
number_at text [] i = refl
number_at text (p ∷ ps) zero = value_found text p.token
number_at text (p ∷ ps) (suc i) = number_at text ps i

-- ## the statement in front of tokens that were found
pub declaration_found : (text : List ℕ) (ps : List Placed) → fit_of DECLARATION (tokens_of text ps) ≡ 4
    → tokens_of text ps ≡ statement_tokens (declares (span_text text (span_at ps 0)) (span_text text (span_at ps 2))) ++ drop 4 (tokens_of text ps)
declaration_found text ps h =
    let ts : List Token = tokens_of text ps in
    let word : (i : ℕ) → i < 4 → word_of (nth (take 4 ts) i) ≡ span_text text (span_at ps i) =
    λ i lt. ap word_of (get_or-take 4 ts i (fixed Ends) lt) ∙ word_at text ps i in
    let F : List ℕ → List ℕ → List Token = λ x y. statement_tokens (declares x y) in
    let front : take 4 ts ≡ F (span_text text (span_at ps 0)) (span_text text (span_at ps 2)) =
    declaration_is (take 4 ts) (whole_fits DECLARATION ts h) ∙ ap₂ F (word 0 (omega arith)) (word 2 (omega arith)) in
    sym (take-append-drop 4 ts) ∙ ap (λ l. l ++ drop 4 ts) front

pub wire_found : (text : List ℕ) (ps : List Placed) → fit_of WIRE (tokens_of text ps) ≡ 10
    → tokens_of text ps ≡ statement_tokens (wires (span_text text (span_at ps 0)) (value_at ps 2) (value_at ps 6) (span_text text (span_at ps 8)))
    ++ drop 10 (tokens_of text ps)
wire_found text ps h =
    let ts : List Token = tokens_of text ps in
    let word : (i : ℕ) → i < 10 → word_of (nth (take 10 ts) i) ≡ span_text text (span_at ps i) =
    λ i lt. ap word_of (get_or-take 10 ts i (fixed Ends) lt) ∙ word_at text ps i in
    let value : (i : ℕ) → i < 10 → value_of (nth (take 10 ts) i) ≡ value_at ps i =
    λ i lt. ap value_of (get_or-take 10 ts i (fixed Ends) lt) ∙ number_at text ps i in
    let from : List ℕ = span_text text (span_at ps 0) in
    let front : take 10 ts ≡ statement_tokens (wires from (value_at ps 2) (value_at ps 6) (span_text text (span_at ps 8))) =
    wire_is (take 10 ts) (whole_fits WIRE ts h)
    ∙ ap₂ (λ x y. statement_tokens (wires x y (value_of (nth (take 10 ts) 6)) (word_of (nth (take 10 ts) 8)))) (word 0 (omega arith)) (value 2 (omega arith))
    ∙ ap₂ (λ x y. statement_tokens (wires from (value_at ps 2) x y)) (value 6 (omega arith)) (word 8 (omega arith)) in
    sym (take-append-drop 10 ts) ∙ ap (λ l. l ++ drop 10 ts) front
