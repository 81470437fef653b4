-- How the greatest number of open brackets is found from front to back.
use Rattle.std.proofs.Common.{◌≡◌, ℕ, ◌+◌, ◌<◌, ◌≤◌, max, List, [], ◌∷◌, length, drop, get_or, ap, arith}
use Rattle.std.proofs.lemmas.List.{at_drop_more}
use Rattle.element_lang.specs.declared.mark.Mark.TheVariants.{LeftParen, RightParen, LeftBracket, RightBracket, LeftBrace, RightBrace}
use Rattle.element_lang.specs.Token.{Token, fixed}
use Rattle.element_lang.specs.Accepted.{open_after, deepest}
use Rattle.element_tokens.specs.Tokens.{PlacedToken, token_of, tokens_of}

-- it is no less than what is open in front
at_least : (n : ℕ) (ts : List Token) → n ≤ deepest n ts
at_least n [] = omega arith
at_least n (t ∷ ts) = omega arith

-- no token opens more than one bracket
one_at_most : (t : Token) (n : ℕ) → open_after t n ≤ n + 1
one_at_most (fixed LeftParen) n = omega arith
one_at_most (fixed LeftBracket) n = omega arith
one_at_most (fixed LeftBrace) n = omega arith
one_at_most (fixed RightParen) n = omega arith
one_at_most (fixed RightBracket) n = omega arith
one_at_most (fixed RightBrace) n = omega arith
one_at_most t n = omega arith

-- the brackets that are open behind some tokens, and the most so far
pub record Deep (text : List ℕ) (tokens : List PlacedToken) (at current most : ℕ) : Type 0 where
  pub all : max most (deepest current (tokens_of text (drop at tokens))) ≡ deepest 0 (tokens_of text tokens)
  pub below : current ≤ most
  pub counted : current ≤ at

-- one more token is read
pub deep_more : (text : List ℕ) (tokens : List PlacedToken) (at current most after higher : ℕ) (d : PlacedToken) → at < length tokens → Deep text tokens at current most → after ≡ open_after (token_of text (get_or tokens at d).token) current → higher ≡ max most after → Deep text tokens (at + 1) after higher
deep_more text tokens at current most after higher d within h is is_higher =
    let t = token_of text (get_or tokens at d).token in
    let rest = tokens_of text (drop (at + 1) tokens) in
    let split = at_drop_more (λ l. deepest current (tokens_of text l)) tokens at d within in
    let step = ap (λ n. deepest n rest) is in
    let above = at_least (open_after t current) rest in
    let one = one_at_most t current in
    record {
      all = omega (arith, h.all, h.below);
      below = omega arith;
      counted = omega (arith, h.counted);
    }
