-- The statements that were found so far, and what is left behind them.
use Rattle.std.proofs.Common.{◌≡◌, ℕ, ◌+◌, ◌-◌, ◌≤◌, List, [], ◌∷◌, ◌++◌, length, take, drop, sym, ap, subst, ◌∙◌, arith, append_assoc, append-nil, length-append, length-drop}
use Rattle.std.proofs.lemmas.List.{length-map, map-append, drop-map, drop-drop, take_rest}
use Rattle.chain_text.specs.Token.{Token}
use Rattle.chain_text.specs.Tokens.{token_of, tokens_of, PlacedToken as Placed}
use Rattle.chain_text.specs.declared.statement.Statement.{Statement as Found}
use Rattle.chain_text.specs.Grammar.{Statement, statement_tokens, spelled, IsFirstWrong}
use Rattle.chain_text.specs.Statements.{statement_of, statements_of}
use Rattle.chain_text.proofs.FirstWrong.{spelled-append, wrong_behind}

-- the tokens are those of the statements, and then those from a place on
abbrev pub SoFar : List ℕ → List Placed → List Found → ℕ → Type 0
SoFar text ps found place = tokens_of text ps ≡ spelled (statements_of text found) ++ drop place (tokens_of text ps)

-- what is left from a place on
abbrev pub left_at : List Placed → ℕ → List Placed
left_at ps place = take (length ps - place) (drop place ps)

dropped : (text : List ℕ) (ps : List Placed) (n : ℕ) → drop n (tokens_of text ps) ≡ tokens_of text (left_at ps n)
dropped text ps n = drop-map (λ p. token_of text p.token) n ps ∙ ap (tokens_of text) (sym (take_rest ps n))

spelled_one : (s : Statement) → spelled (s ∷ []) ≡ statement_tokens s
spelled_one s = append-nil (statement_tokens s)

-- one statement more
pub one_more : (text : List ℕ) (ps : List Placed) (found new : List Found) (s : Found) (place size : ℕ) → SoFar text ps found place
    → tokens_of text (left_at ps place) ≡ statement_tokens (statement_of text s) ++ drop (length (statement_tokens (statement_of text s))) (tokens_of text (left_at ps place))
    → size ≡ length (statement_tokens (statement_of text s)) → new ≡ found ++ s ∷ [] → SoFar text ps new (place + size)
one_more text ps found new s place size so_far here size_is pushed =
    let ts : List Token = tokens_of text ps in
    let one : List Token = statement_tokens (statement_of text s) in
    let new_is : spelled (statements_of text new) ≡ spelled (statements_of text found) ++ one =
    ap (λ l. spelled (statements_of text l)) pushed ∙ ap spelled (map-append (statement_of text) found (s ∷ []))
    ∙ spelled-append (statements_of text found) (statement_of text s ∷ []) ∙ ap (λ l. spelled (statements_of text found) ++ l) (spelled_one (statement_of text s)) in
    let rest : drop (length one) (tokens_of text (left_at ps place)) ≡ drop (place + size) ts =
    ap (drop (length one)) (sym (dropped text ps place)) ∙ drop-drop (length one) place ts ∙ ap (λ n. drop (place + n) ts) (sym size_is) in
    so_far ∙ ap (λ l. spelled (statements_of text found) ++ l) (dropped text ps place ∙ here ∙ ap (λ l. one ++ l) rest)
    ∙ sym (append_assoc (spelled (statements_of text found)) one (drop (place + size) ts))
    ∙ ap (λ l. l ++ drop (place + size) ts) (sym new_is)

-- the place is behind the tokens of the statements
place_is : (text : List ℕ) (ps : List Placed) (found : List Found) (place : ℕ) → SoFar text ps found place → place ≤ length ps
    → length (spelled (statements_of text found)) ≡ place
place_is text ps found place so_far within =
    let ts : List Token = tokens_of text ps in
    let front : List Token = spelled (statements_of text found) in
    let all : length ts ≡ length front + (length ts - place) = ap length so_far ∙ length-append front (drop place ts) ∙ ap (λ n. length front + n) (length-drop place ts) in
    omega (arith, all, length-map ps (λ p. token_of text p.token))

-- the first wrong token behind them
pub wrong_at : (text : List ℕ) (ps : List Placed) (found : List Found) (place right : ℕ) → SoFar text ps found place → place ≤ length ps
    → IsFirstWrong (tokens_of text (left_at ps place)) right → IsFirstWrong (tokens_of text ps) (place + right)
wrong_at text ps found place right so_far within h =
    let ts : List Token = tokens_of text ps in
    let ss : List Statement = statements_of text found in
    let P : List Token → Type 0 = λ l. IsFirstWrong l right in
    let Q : List Token → Type 0 = λ l. IsFirstWrong l (length (spelled ss) + right) in
    let R : ℕ → Type 0 = λ n. IsFirstWrong ts (n + right) in
    let rest : IsFirstWrong (drop place ts) right = subst P (sym (dropped text ps place)) h in
    subst R (place_is text ps found place so_far within) (subst Q (sym so_far) (wrong_behind ss (drop place ts) right rest))

left_length : (ps : List Placed) (place : ℕ) → length (left_at ps place) ≡ length ps - place
left_length ps place = ap length (take_rest ps place) ∙ length-drop place ps

-- a statement in front takes no more tokens than there are
pub front_fits : (text : List ℕ) (ps : List Placed) (place : ℕ) (front rest : List Token) → tokens_of text (left_at ps place) ≡ front ++ rest
    → length front ≤ length ps - place
front_fits text ps place front rest e =
    let all : length (left_at ps place) ≡ length front + length rest =
    sym (length-map (left_at ps place) (λ p. token_of text p.token)) ∙ ap length e ∙ length-append front rest in
    omega (arith, all, left_length ps place)

-- and the first wrong token stands no farther than behind the last one
pub wrong_fits : (text : List ℕ) (ps : List Placed) (place right : ℕ) → IsFirstWrong (tokens_of text (left_at ps place)) right → right ≤ length ps - place
wrong_fits text ps place right h =
    omega (arith, h.within, length-map (left_at ps place) (λ p. token_of text p.token), left_length ps place)
