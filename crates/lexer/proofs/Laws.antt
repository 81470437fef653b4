-- What holds of the tokens of every text, as the definitions give it.
use Rattle.std.proofs.Common.{◌≡◌, ◌+◌, ℕ, false, List, [], ◌∷◌, length, drop, Option, None, refl, sym, ap, subst, ◌∙◌}
use Rattle.std.proofs.lemmas.Option.{none-some, same_Some}
use Rattle.lexer.specs.declared.token.Lexeme.{Lexeme}
use Rattle.lexer.specs.declared.token.Placed.{Placed}
use Rattle.lexer.specs.Bytes.{gap}
use Rattle.lexer.specs.Tokens.{HasTokens, AreTokens, IsNoToken}

module _ {T : Type 0} (lexeme : List ℕ → Option (Lexeme T)) where
  -- two readings of a text, of which neither can go on, are the same
  same : (ts us : List (Placed T)) (offset : ℕ) (bs : List ℕ) (stop stop' : ℕ) (rest rest' : List ℕ) → lexeme rest ≡ None
      → lexeme rest' ≡ None → HasTokens lexeme offset bs ts stop rest → HasTokens lexeme offset bs us stop' rest'
      → (ts ≡ us) × (stop ≡ stop') × (rest ≡ rest')
  same [] [] offset bs stop stop' rest rest' none none' (a, e) (c, f) = (refl, a ∙ sym c, e ∙ sym f)
  same [] (u ∷ us) offset bs stop stop' rest rest' none none' (a, e) (y, g, n, k) =
      absurd (none-some y (sym none ∙ ap lexeme e ∙ g))
  same (t ∷ ts) [] offset bs stop stop' rest rest' none none' (x, f, m, h) (c, e) =
      absurd (none-some x (sym none' ∙ ap lexeme e ∙ f))
  same (t ∷ ts) (u ∷ us) offset bs stop stop' rest rest' none none' (x, f, m, h) (y, g, n, k) =
      let start : ℕ = offset + gap false bs in
      let here : List ℕ = drop (gap false bs) bs in
      let one : y ≡ x = same_Some y x (sym g ∙ f) in
      let behind = subst (λ y. HasTokens lexeme (start + y.len) (drop y.len here) us stop' rest') one k in
      let others = same ts us (start + x.len) (drop x.len here) stop stop' rest rest' none none' h behind in
      let first : t ≡ u = m ∙ ap (λ (x : Lexeme T). record { token = x.token; offset = start }) (sym one) ∙ sym n in
      (λ i. first i ∷ others.0 i, others.1, others.2)

  -- All of a text is one list of tokens, or there is one place in it at which none starts, and not both.
  pub one_list_or_one_place-list : lexeme [] ≡ None → (text : List ℕ) (ts us : List (Placed T))
      → AreTokens lexeme text ts → AreTokens lexeme text us → ts ≡ us
  one_list_or_one_place-list empty text ts us h k = (same ts us 0 text (length text) (length text) [] [] empty empty h k).0

  pub one_list_or_one_place-place : (text : List ℕ) (m n : ℕ) → IsNoToken lexeme text m → IsNoToken lexeme text n → m ≡ n
  one_list_or_one_place-place text m n (ts, b, rest, h, none) (us, c, rest', k, none') =
      (same ts us 0 text m n (b ∷ rest) (c ∷ rest') none none' h k).1

  pub one_list_or_one_place-apart : lexeme [] ≡ None → (text : List ℕ) (n : ℕ) (ts : List (Placed T))
      → IsNoToken lexeme text n → AreTokens lexeme text ts → ⊥
  one_list_or_one_place-apart empty text n ts (us, b, rest, h, none) k =
      let e : b ∷ rest ≡ [] = (same us ts 0 text n (length text) (b ∷ rest) [] none empty h k).2 in cc
