-- Each text has one answer: the tests of a reader, in order, each with what it leaves.
use Rattle.std.proofs.Common.{◌≡◌, ◌≢◌, ◌⊎◌, inl, inr, Result, Ok, Err, IfErr, ℕ, suc, ◌+◌, ◌-◌, ◌<◌, ◌≤◌, List, [], ◌∷◌, ◌++◌, length, take, drop, map, IsUtf8, refl, sym, ap, ap₂, subst, ◌∙◌, arith, append_assoc}
use Rattle.std.specs.Prelude.{MatchResult}
use Rattle.std.specs.Str.{IsValidUpTo}
use Rattle.std.proofs.Math.Seq.{take-add}
use Rattle.std.proofs.lemmas.List.{take-append-drop}
use Rattle.element_lang.specs.declared.sizes.TheConstants.{MAX_DEPTH}
use Rattle.element_lang.specs.declared.sizes.What.TheVariants.{Depth, Objects, Entries, Writes}
use Rattle.element_lang.specs.declared.tree.Middlebox.{Middlebox}
use Rattle.element_lang.specs.View.{tree}
use Rattle.element_lang.specs.Token.{Token, Placed, AreTokens, lexeme}
use Rattle.element_lang.specs.Tree.{Tree}
use Rattle.element_lang.specs.Surface.{Surface}
use Rattle.element_lang.specs.Grammar.{Spells, Begins, IsFirstWrong}
use Rattle.element_lang.specs.Accepted.{deepest, plain, offset_at, IsSource, IsNotUtf8}
use Rattle.lexer.specs.declared.tokenizer.TokenError.{TokenError}
use Rattle.lexer.specs.declared.tokenizer.TokenError.TheVariants.{NoToken, NoMemory as NoTokenMemory}
use Rattle.element_tokens.specs.Tokens.{PlacedToken as Found, token_of, placed_of, tokens_of}
use Rattle.lexer.specs.TokenError.{IsOnlyPlace, IsTokenError}
use Rattle.element_text.specs.Errors.{token_error}
use Rattle.element_text.specs.declared.error.TextError.{TextError}
use Rattle.element_text.specs.declared.error.TextError.TheVariants as errors
use Rattle.element_text.specs.Refused.{IsRefused}
use Rattle.element_text.specs.Reads.{IsAnswer, IsOnlyRefused, HasOnlyTokens, HasOnlySurface}

-- ## UTF-8

pub prefix_within : {text : List ℕ} {m n : ℕ} → IsNotUtf8 text m → IsNotUtf8 text n → m < n → ⊥
prefix_within {n = n} h k below = h.longest n below (let w = k.within in omega arith) k.begins

one_prefix : {text : List ℕ} (m n : ℕ) → IsNotUtf8 text m → IsNotUtf8 text n → m ≡ n
one_prefix m n h k =
    let low : m < n → ⊥ = prefix_within h k in
    let high : n < m → ⊥ = prefix_within k h in
    omega arith

whole_taken : (text : List ℕ) → take (length text) text ≡ text
whole_taken [] = refl
whole_taken (b ∷ bs) = ap (λ l. b ∷ l) (whole_taken bs)

-- a text that is UTF-8 has no first byte that isn't
pub utf8_whole : {text : List ℕ} {n : ℕ} → IsUtf8 text → IsNotUtf8 text n → ⊥
utf8_whole {text = text} utf8 h =
    let P : List ℕ → Type 0 = IsUtf8 in
    h.longest (length text) h.within (omega arith) (subst P (sym (whole_taken text)) utf8)

pub not_utf8 : (text : List ℕ) (n : ℕ) → (IsUtf8 text → ⊥) → IsValidUpTo text n → IsOnlyRefused text (errors.NotUtf8 n)
not_utf8 text n none valid =
    let here : IsNotUtf8 text n = record { within = valid.short; begins = valid.front; longest = λ m above within. valid.longest m above } in
    record { refused = here; only = only here; none = λ m source. none source.spelling.utf8 }
  where
    only : IsNotUtf8 text n → (other : TextError) → other ≢ errors.NoMemory → IsRefused text other → other ≡ errors.NotUtf8 n
    only here (errors.NotUtf8 m) some h = ap errors.NotUtf8 (one_prefix m n h here)
    only here (errors.Token m) some h = absurd (none h.utf8)
    only here (errors.TooLarge Depth have allowed) some h = absurd (none h.utf8)
    only here (errors.TooLarge Objects have allowed) some h = absurd (none h.utf8)
    only here (errors.TooLarge Entries have allowed) some h = absurd (none h.spelling.utf8)
    only here (errors.TooLarge Writes have allowed) some h = absurd (none h.spelling.utf8)
    only here (errors.Syntax m) some h = absurd (none h.utf8)
    only here (errors.Rule rule m) some h = absurd (none h.utf8)
    only here errors.NoMemory some h = absurd (some refl)

-- ## Tokens

pub no_token : (text : List ℕ) (n : ℕ) → IsUtf8 text → IsOnlyPlace lexeme text n → IsOnlyRefused text (errors.Token n)
no_token text n utf8 place = record { refused = record { utf8 = utf8; none = place.here }; only = only; none = λ m source. place.none source.spelling.placed source.spelling.tokens }
  where
    only : (other : TextError) → other ≢ errors.NoMemory → IsRefused text other → other ≡ errors.Token n
    only (errors.NotUtf8 m) some h = absurd (utf8_whole utf8 h)
    only (errors.Token m) some h = ap errors.Token (place.one m h.none)
    only (errors.TooLarge Depth have allowed) some h = absurd (place.none h.placed h.tokens)
    only (errors.TooLarge Objects have allowed) some h = absurd (place.none h.placed h.tokens)
    only (errors.TooLarge Entries have allowed) some h = absurd (place.none h.spelling.placed h.spelling.tokens)
    only (errors.TooLarge Writes have allowed) some h = absurd (place.none h.spelling.placed h.spelling.tokens)
    only (errors.Syntax m) some h = absurd (place.none h.placed h.tokens)
    only (errors.Rule rule m) some h = absurd (place.none h.placed h.tokens)
    only errors.NoMemory some h = absurd (some refl)

-- ## Open brackets

module _ (text : List ℕ) (placed : List Placed) (read : HasOnlyTokens text placed) where
  -- what is known of other tokens of the text is known of these
  pub moved : (P : List Token → Type 0) (others : List Placed) → AreTokens text others → P (plain others) → P (plain placed)
  moved P others h k = let Q : List Placed → Type 0 = λ ps. P (plain ps) in subst Q (read.only others h) k

  shallow : (others : List Placed) → AreTokens text others → deepest 0 (plain others) ≤ MAX_DEPTH → deepest 0 (plain placed) ≤ MAX_DEPTH
  shallow others h low = moved (λ ts. deepest 0 ts ≤ MAX_DEPTH) others h low

  pub too_deep : (have : ℕ) → have ≡ deepest 0 (plain placed) → MAX_DEPTH < have → IsOnlyRefused text (errors.TooLarge Depth have MAX_DEPTH)
  too_deep have most above = record {
    refused = record { utf8 = read.utf8; placed = placed; tokens = read.tokens; most = most; limit = refl; above = above };
    only = only;
    none = λ m source. deep source.spelling.placed source.spelling.tokens source.spelling.depth;
  }
    where
      deep : (others : List Placed) → AreTokens text others → deepest 0 (plain others) ≤ MAX_DEPTH → ⊥
      deep others h low = let same = shallow others h low in omega arith

      only : (other : TextError) → other ≢ errors.NoMemory → IsRefused text other → other ≡ errors.TooLarge Depth have MAX_DEPTH
      only (errors.NotUtf8 m) some h = absurd (utf8_whole read.utf8 h)
      only (errors.Token m) some h = absurd (read.whole m h.none)
      only (errors.TooLarge Depth other allowed) some h =
          ap₂ (errors.TooLarge Depth) (h.most ∙ ap (λ ps. deepest 0 (plain ps)) (read.only h.placed h.tokens) ∙ sym most) h.limit
      only (errors.TooLarge Objects other allowed) some h = absurd (deep h.placed h.tokens h.depth)
      only (errors.TooLarge Entries other allowed) some h = absurd (deep h.spelling.placed h.spelling.tokens h.spelling.depth)
      only (errors.TooLarge Writes other allowed) some h = absurd (deep h.spelling.placed h.spelling.tokens h.spelling.depth)
      only (errors.Syntax m) some h = absurd (deep h.placed h.tokens h.depth)
      only (errors.Rule rule m) some h = absurd (deep h.placed h.tokens h.depth)
      only errors.NoMemory some h = absurd (some refl)

-- ## Grammar

begins_less : (ts : List Token) (a b : ℕ) → a < b → Begins (take b ts) → Begins (take (suc a) ts)
begins_less ts a b below (more, surface, h) =
    let P : List Token → Type 0 = λ l. Spells l surface in
    let front = take (suc a) ts in
    let between = take (b - suc a) (drop (suc a) ts) in
    let longer : b ≡ suc a + (b - suc a) = omega arith in
    let split : take b ts ≡ front ++ between = ap (λ n. take n ts) longer ∙ take-add (suc a) (b - suc a) ts in
    (between ++ more, surface, subst P (ap (λ l. l ++ more) split ∙ append_assoc front between more) h)

place_within : {ts : List Token} (a b : ℕ) → IsFirstWrong ts a → IsFirstWrong ts b → a < b → ⊥
place_within {ts = ts} a b h k below = h.wrong (let w = k.within in omega arith) (begins_less ts a b below k.begins)

one_place : {ts : List Token} (a b : ℕ) → IsFirstWrong ts a → IsFirstWrong ts b → a ≡ b
one_place a b h k =
    let low : a < b → ⊥ = place_within a b h k in
    let high : b < a → ⊥ = place_within b a k h in
    omega arith

-- tokens that spell a surface tree have no first wrong one
pub none_wrong : (ts : List Token) (place : ℕ) (surface : Surface) → Spells ts surface → IsFirstWrong ts place → ⊥
none_wrong ts place surface spells h =
    let P : List Token → Type 0 = λ l. Spells l surface in
    let begins : Begins (take (suc place) ts) = (drop (suc place) ts, surface, subst P (sym (take-append-drop (suc place) ts)) spells) in
    let low : place < length ts → ⊥ = λ below. h.wrong below begins in
    let within = h.within in
    h.too_short (omega arith) surface spells

module _ (text : List ℕ) (placed : List Placed) (read : HasOnlyTokens text placed) (depth : deepest 0 (plain placed) ≤ MAX_DEPTH) where
  pub wrong_syntax : (place : ℕ) → IsFirstWrong (plain placed) place → IsOnlyRefused text (errors.Syntax (offset_at text placed place))
  wrong_syntax place first = record {
    refused = record { utf8 = read.utf8; placed = placed; tokens = read.tokens; depth = depth; place = place; first = first; there = refl };
    only = only;
    none = λ m source. let k = source.spelling in wrong k.placed k.surface k.tokens k.spells;
  }
    where
      wrong : (others : List Placed) (surface : Surface) → AreTokens text others → Spells (plain others) surface → ⊥
      wrong others surface h spells = none_wrong (plain placed) place surface (moved text placed read (λ ts. Spells ts surface) others h spells) first

      only : (other : TextError) → other ≢ errors.NoMemory → IsRefused text other → other ≡ errors.Syntax (offset_at text placed place)
      only (errors.NotUtf8 m) some h = absurd (utf8_whole read.utf8 h)
      only (errors.Token m) some h = absurd (read.whole m h.none)
      only (errors.TooLarge Depth have allowed) some h =
          let low : deepest 0 (plain h.placed) ≤ MAX_DEPTH = subst (λ ps. deepest 0 (plain ps) ≤ MAX_DEPTH) (sym (read.only h.placed h.tokens)) depth in
          let most = h.most in
          let above = h.above in
          let limit = h.limit in
          absurd (omega arith)
      only (errors.Syntax m) some h =
          let same : h.place ≡ place = one_place h.place place (moved text placed read (λ ts. IsFirstWrong ts h.place) h.placed h.tokens h.first) first in
          ap errors.Syntax (h.there ∙ ap (λ ps. offset_at text ps h.place) (read.only h.placed h.tokens) ∙ ap (offset_at text placed) same)
      only (errors.TooLarge Objects have allowed) some h = absurd (wrong h.placed h.surface h.tokens h.spells)
      only (errors.TooLarge Entries have allowed) some h = let k = h.spelling in absurd (wrong k.placed k.surface k.tokens k.spells)
      only (errors.TooLarge Writes have allowed) some h = let k = h.spelling in absurd (wrong k.placed k.surface k.tokens k.spells)
      only (errors.Rule rule m) some h = absurd (wrong h.placed h.surface h.tokens h.spells)
      only errors.NoMemory some h = absurd (some refl)

-- ## What the readers answer

pub token_answer : (text : List ℕ) → IsUtf8 text → (e : TokenError) → IsTokenError lexeme text e → (token_error e ≡ errors.NoMemory) ⊎ IsOnlyRefused text (token_error e)
token_answer text utf8 (NoToken n) h = inr (no_token text n utf8 h)
token_answer text utf8 NoTokenMemory h = inl refl

-- the tokens that were found, without their offsets
plain_same : (text : List ℕ) (ps : List Found) → plain (map (placed_of text) ps) ≡ tokens_of text ps
plain_same text [] = refl
plain_same text (p ∷ ps) = ap (λ l. token_of text p.token ∷ l) (plain_same text ps)

module _ (text : List ℕ) (ps : List Found) (read : HasOnlyTokens text (map (placed_of text) ps)) where
  pub deep_answer : (have : ℕ) → have ≡ deepest 0 (tokens_of text ps) → MAX_DEPTH < have → IsOnlyRefused text (errors.TooLarge Depth have MAX_DEPTH)
  deep_answer have most above = too_deep text (map (placed_of text) ps) read have (most ∙ ap (deepest 0) (sym (plain_same text ps))) above

  pub syntax_answer : (place offset : ℕ) → deepest 0 (tokens_of text ps) ≤ MAX_DEPTH → IsFirstWrong (tokens_of text ps) place → offset ≡ offset_at text (map (placed_of text) ps) place → IsOnlyRefused text (errors.Syntax offset)
  syntax_answer place offset depth first there =
      let P : List Token → Type 0 = λ ts. deepest 0 ts ≤ MAX_DEPTH in
      let Q : List Token → Type 0 = λ ts. IsFirstWrong ts place in
      let R : ℕ → Type 0 = λ n. IsOnlyRefused text (errors.Syntax n) in
      let back = sym (plain_same text ps) in
      subst R (sym there) (wrong_syntax text (map (placed_of text) ps) read (subst P back depth) place (subst Q back first))

  pub only_surface : (s : Surface) → deepest 0 (tokens_of text ps) ≤ MAX_DEPTH → Spells (tokens_of text ps) s → ((other : Surface) → Spells (tokens_of text ps) other → other ≡ s) → HasOnlySurface text (map (placed_of text) ps) s
  only_surface s depth spells one =
      let P : List Token → Type 0 = λ ts. deepest 0 ts ≤ MAX_DEPTH in
      let Q : List Token → Type 0 = λ ts. Spells ts s in
      let back = sym (plain_same text ps) in
      record {
        read = read;
        depth = subst P back depth;
        spells = subst Q back spells;
        one = λ other h. let R : List Token → Type 0 = λ ts. Spells ts other in one other (subst R (plain_same text ps) h);
      }

-- what an only answer says of every other
answer_error : {text : List ℕ} (e : TextError) → (e ≡ errors.NoMemory) ⊎ IsOnlyRefused text e → IsRefused text e
answer_error {text = text} e (inl none) = let P : TextError → Type 0 = IsRefused text in subst P (sym none) tt
answer_error e (inr h) = h.refused

exact_error : {text : List ℕ} (e : TextError) → (e ≡ errors.NoMemory) ⊎ IsOnlyRefused text e → (other : TextError) → other ≢ errors.NoMemory → IsRefused text other → (e ≡ other) ⊎ (e ≡ errors.NoMemory)
exact_error e (inl none) other some h = inr none
exact_error e (inr k) other some h = inl (sym (k.only other some h))

found_error : {text : List ℕ} (e : TextError) → (e ≡ errors.NoMemory) ⊎ IsOnlyRefused text e → (m : Tree) → IsSource text m → e ≡ errors.NoMemory
found_error e (inl none) m source = none
found_error e (inr k) m source = absurd (k.none m source)

pub answer_refused : (text : List ℕ) (r : Result Middlebox TextError) → IsAnswer text r → IfErr r (λ e. IsRefused text e)
answer_refused text (Ok m) h = tt
answer_refused text (Err e) h = answer_error e h

pub answer_exact : (text : List ℕ) (r : Result Middlebox TextError) → IsAnswer text r → (e : TextError) → e ≢ errors.NoMemory → IsRefused text e → MatchResult r (λ _. ⊥) (λ found. (found ≡ e) ⊎ (found ≡ errors.NoMemory))
answer_exact text (Ok m) h e some k = h.accepted e some k
answer_exact text (Err x) h e some k = exact_error x h e some k

pub answer_found : (text : List ℕ) (r : Result Middlebox TextError) → IsAnswer text r → (m : Tree) → IsSource text m → MatchResult r (λ found. tree found ≡ m) (λ e. e ≡ errors.NoMemory)
answer_found text (Ok found) h m source = sym (h.only m source)
answer_found text (Err e) h m source = found_error e h m source
