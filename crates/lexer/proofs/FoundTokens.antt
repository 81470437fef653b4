-- The tokens that were found so far, and what follows when no more is to be found.
use Rattle.std.proofs.Common.{◌≡◌, ◌≢◌, ◌+◌, ◌<◌, ◌≤◌, ℕ, false, List, [], ◌∷◌, ◌++◌, length, map, drop, Option, Some}
use Rattle.std.proofs.Common.{None, refl, sym, ap, subst, ◌∙◌, arith, append_assoc, append-nil, length-drop}
use Rattle.std.proofs.lemmas.List.{map-append, drop-drop, drop_all}
use Rattle.lexer.specs.declared.token.Lexeme.{Lexeme}
use Rattle.lexer.specs.declared.token.Placed.{Placed}
use Rattle.lexer.specs.Bytes.{gap}
use Rattle.lexer.specs.Tokens.{lexeme_of, placed_of, HasTokens, AreTokens, IsNoToken}
use Rattle.lexer.specs.TokenError.{IsOnlyPlace}
use Rattle.lexer.proofs.Laws.{one_list_or_one_place-apart, one_list_or_one_place-place}

-- where the token behind a place starts
abbrev start_of : List ℕ → ℕ → ℕ
start_of text offset = offset + gap false (drop offset text)

module _ {T : Type 0} (lexeme : List ℕ → Option (Lexeme T)) where
  -- `front` are the tokens before a place
  pub record Found (text : List ℕ) (front : List (Placed T)) (offset : ℕ) : Type 0 where
    pub whole : (ts : List (Placed T)) (stop : ℕ) (rest : List ℕ) → HasTokens lexeme offset (drop offset text) ts stop rest
        → HasTokens lexeme 0 text (front ++ ts) stop rest
    pub within : offset ≤ length text

  pub found_none : {text : List ℕ} {front : List (Placed T)} → front ≡ [] → Found text front 0
  found_none {text = text} e = record {
    whole = λ ts stop rest h. subst (λ l. HasTokens lexeme 0 text (l ++ ts) stop rest) (sym e) h;
    within = omega arith;
  }

  -- one more token is found, which means a token of the language
  pub found_pushed : {S : Type 0} (meaning : List ℕ → S → T) (text : List ℕ) (all new : List (Placed S)) (x : Lexeme S)
      (offset start : ℕ) → Found text (map (placed_of meaning text) all) offset → start ≡ start_of text offset
      → Some (lexeme_of meaning text x) ≡ lexeme (drop start text) → start + x.len ≤ length text
      → new ≡ all ++ record { token = x.token; offset = start } ∷ [] → Found text (map (placed_of meaning text) new) (start + x.len)
  found_pushed {S = S} meaning text all new x offset start h start_is found room e = record {
    whole = λ ts stop rest k.
        let n : ℕ = gap false (drop offset text) in
        let p : Placed S = record { token = x.token; offset = start } in
        let f : Placed S → Placed T = placed_of meaning text in
        let here : drop n (drop offset text) ≡ drop start text = drop-drop n offset text ∙ ap (λ m. drop m text) (sym start_is) in
        let next : drop (start + x.len) text ≡ drop x.len (drop n (drop offset text)) =
        sym (ap (drop x.len) here ∙ drop-drop x.len start text) in
        let pushed : map f all ++ f p ∷ ts ≡ map f new ++ ts =
        sym (ap (λ l. map f l ++ ts) e ∙ ap (λ l. l ++ ts) (map-append f all (p ∷ [])) ∙ append_assoc (map f all) (f p ∷ []) ts) in
        let placed : f p ≡ record { token = meaning text x.token; offset = offset + n } =
        ap (λ (m : ℕ). record { token = meaning text x.token; offset = m }) start_is in
        let behind : HasTokens lexeme (offset + n + x.len) (drop x.len (drop n (drop offset text))) ts stop rest =
        subst (λ m. HasTokens lexeme (m + x.len) (drop x.len (drop n (drop offset text))) ts stop rest) start_is
        (subst (λ bs. HasTokens lexeme (start + x.len) bs ts stop rest) next k) in
        let last = h.whole (f p ∷ ts) stop rest (lexeme_of meaning text x, ap lexeme here ∙ sym found, placed, behind) in
        subst (λ l. HasTokens lexeme 0 text l stop rest) pushed last;
    within = room;
  }

  -- at the end of the text
  pub found_end : {text : List ℕ} {front : List (Placed T)} {offset start : ℕ} → Found text front offset
      → start ≡ start_of text offset → start ≡ length text → AreTokens lexeme text front
  found_end {text = text} {front = front} {offset = offset} h start_is end =
      let n : ℕ = gap false (drop offset text) in
      let nothing : [] ≡ drop n (drop offset text) = sym (drop-drop n offset text ∙ drop_all (offset + n) text (omega arith)) in
      subst (λ l. AreTokens lexeme text l) (append-nil front) (h.whole [] (length text) [] (sym end ∙ start_is, nothing))

  -- at a byte with which no token starts
  stopped : (text : List ℕ) (front : List (Placed T)) (offset start : ℕ) (rest : List ℕ) → Found text front offset
      → start ≡ start_of text offset → rest ≡ drop start text → 0 < length rest → lexeme rest ≡ None → IsNoToken lexeme text start
  stopped text front offset start [] h start_is e some none = absurd (omega arith)
  stopped text front offset start (b ∷ rest) h start_is e some none =
      let n : ℕ = gap false (drop offset text) in
      let here : b ∷ rest ≡ drop n (drop offset text) = e ∙ ap (λ n. drop n text) start_is ∙ sym (drop-drop n offset text) in
      let has = h.whole [] start (b ∷ rest) (start_is, here) in
      (front, b, rest, subst (λ l. HasTokens lexeme 0 text l start (b ∷ rest)) (append-nil front) has, none)

  pub found_error : {text : List ℕ} {front : List (Placed T)} {offset start : ℕ} → lexeme [] ≡ None → Found text front offset
      → start ≡ start_of text offset → start ≤ length text → start ≢ length text → None ≡ lexeme (drop start text)
      → IsOnlyPlace lexeme text start
  found_error {text = text} {front = front} {offset = offset} {start = start} empty h start_is within before none =
      let some : 0 < length (drop start text) = omega (arith, length-drop start text) in
      let here = stopped text front offset start (drop start text) h start_is refl some (sym none) in
      record {
        here = here;
        one = λ other h. one_list_or_one_place-place lexeme text other start h here;
        none = λ ts h. one_list_or_one_place-apart lexeme empty text start ts here h;
      }

pub ruleset found_tokens = (found_none, found_end)
