-- A text has one answer.
use Rattle.std.proofs.Common.{◌≡◌, ◌≢◌, ◌⊎◌, inl, inr, ℕ, suc, ◌<◌, ◌≤◌, List, length, Result, Ok, Err, IfOk, IfErr, refl, sym, ap, ap₂, subst, ◌∙◌, arith}
use Rattle.std.specs.Prelude.{MatchResult}
use Rattle.lexer.proofs.Laws.{one_list_or_one_place-list as token_list, one_list_or_one_place-place as token_place}
use Rattle.lexer.proofs.Laws.{one_list_or_one_place-apart as token_apart}
use Rattle.element_chain.specs.declared.chain.Chain.{Chain}
use Rattle.element_chain.specs.declared.chain.Element.{Element}
use Rattle.element_chain.specs.declared.chain.Wire.{Wire}
use Rattle.element_chain.specs.Wiring.{Leads}
use Rattle.chain_text.specs.Token.{Token, Placed, IsNoToken, lexeme}
use Rattle.chain_text.specs.Grammar.{Statement, IsFirstWrong}
use Rattle.chain_text.specs.declared.error.ChainTextError.{ChainTextError}
use Rattle.chain_text.specs.declared.error.ChainTextError.TheVariants as errors
use Rattle.chain_text.specs.Reads.{elements_of, wires_of, plain, offset_at, told, most_elements, IsRefusedAt, IsFirstRefused, AreTaken, IsSpelling, IsChainText, IsOutsideGrammar, HasManyElements, HasRefused, HasNoElement, IsRefused}
use Rattle.chain_text.proofs.FirstWrong.{one_list, one_place, none_wrong}

first_once : (ss : List Statement) (a b : ℕ) → IsFirstRefused ss a → IsFirstRefused ss b → a ≡ b
first_once ss a b h k =
    let low : a < b → ⊥ = λ lt. k.none a lt h.here in
    let high : b < a → ⊥ = λ lt. h.none b lt k.here in
    omega arith

memory_or_not : (e : ChainTextError) → (e ≡ errors.NoMemory) ⊎ (e ≢ errors.NoMemory)
memory_or_not errors.NoMemory = inl refl
memory_or_not _ = inr (λ same. cc)

module _ (text : List ℕ) where
  same_statements : (ss us : List Statement) → IsSpelling text ss → IsSpelling text us → ss ≡ us
  same_statements ss us h k = one_list ss us (sym h.spells ∙ ap plain (token_list lexeme refl text h.placed k.placed h.tokens k.tokens) ∙ k.spells)

  -- a text that spells statements isn't outside the grammar
  no_syntax : (offset : ℕ) (ss : List Statement) → IsNoToken text offset ⊎ IsOutsideGrammar text offset → IsSpelling text ss → ⊥
  no_syntax offset ss (inl h) k = token_apart lexeme refl text offset k.placed h k.tokens
  no_syntax offset ss (inr h) k =
      let P : List Token → Type 0 = λ ts. IsFirstWrong ts h.place in
      none_wrong ss h.place (subst P (ap plain (token_list lexeme refl text h.placed k.placed h.tokens k.tokens) ∙ k.spells) h.first)

  one_syntax : (a b : ℕ) → IsNoToken text a ⊎ IsOutsideGrammar text a → IsNoToken text b ⊎ IsOutsideGrammar text b → a ≡ b
  one_syntax a b (inl h) (inl k) = token_place lexeme text a b h k
  one_syntax a b (inl h) (inr k) = absurd (token_apart lexeme refl text a k.placed h k.tokens)
  one_syntax a b (inr h) (inl k) = absurd (token_apart lexeme refl text b h.placed k h.tokens)
  one_syntax a b (inr h) (inr k) =
      let tokens = token_list lexeme refl text h.placed k.placed h.tokens k.tokens in
      let P : List Placed → Type 0 = λ ps. IsFirstWrong (plain ps) h.place in
      let same : h.place ≡ k.place = one_place (plain k.placed) h.place k.place (subst P tokens h.first) k.first in
      h.there ∙ ap₂ (offset_at text) tokens same ∙ sym k.there

  many_few : (have : ℕ) (us : List Statement) → HasManyElements text have → IsSpelling text us → length (elements_of us) ≤ most_elements → ⊥
  many_few have us h k few =
      let same = ap (λ l. length (elements_of l)) (same_statements h.statements us h.spelling k) in
      let above = h.above in
      omega arith

  refused_taken : (number : ℕ) (us : List Statement) → HasRefused text number → IsSpelling text us → AreTaken us → ⊥
  refused_taken number us h k taken =
      let P : List Statement → Type 0 = λ l. IsRefusedAt l h.place in
      taken.none h.place (subst P (same_statements h.statements us h.spelling k) h.first.here)

  none_some : (us : List Statement) → HasNoElement text → IsSpelling text us → 0 < length (elements_of us) → ⊥
  none_some us h k some =
      let same = ap (λ l. length (elements_of l)) (same_statements h.statements us h.spelling k) in
      let none : length (elements_of h.statements) ≡ 0 = ap length h.none in
      omega arith

  one_number : (a b : ℕ) → HasRefused text a → HasRefused text b → a ≡ b
  one_number a b h k =
      let P : List Statement → Type 0 = λ l. IsFirstRefused l h.place in
      let same : h.place ≡ k.place =
      first_once k.statements h.place k.place (subst P (same_statements h.statements k.statements h.spelling k.spelling) h.first) k.first in
      h.count ∙ ap (λ n. told (suc n)) same ∙ sym k.count

  one_count : (a b : ℕ) → HasManyElements text a → HasManyElements text b → a ≡ b
  one_count a b h k =
      h.count ∙ ap (λ l. told (length (elements_of l))) (same_statements h.statements k.statements h.spelling k.spelling) ∙ sym k.count

  pub one_reason : (a b : ChainTextError) → a ≢ errors.NoMemory → b ≢ errors.NoMemory → IsRefused text a → IsRefused text b → a ≡ b
  one_reason errors.NoMemory b some other h k = absurd (some refl)
  one_reason a errors.NoMemory some other h k = absurd (other refl)
  one_reason (errors.Syntax m) (errors.Syntax n) some other h k = ap errors.Syntax (one_syntax m n h k)
  one_reason (errors.Syntax m) (errors.Elements n) some other h k = absurd (no_syntax m k.statements h k.spelling)
  one_reason (errors.Syntax m) (errors.Statement n) some other h k = absurd (no_syntax m k.statements h k.spelling)
  one_reason (errors.Syntax m) errors.Empty some other h k = absurd (no_syntax m k.statements h k.spelling)
  one_reason (errors.Syntax m) errors.Cycle some other h k = absurd (no_syntax m k.statements h k.spelling)
  one_reason (errors.Elements m) (errors.Syntax n) some other h k = absurd (no_syntax n h.statements k h.spelling)
  one_reason (errors.Elements m) (errors.Elements n) some other h k = ap errors.Elements (one_count m n h k)
  one_reason (errors.Elements m) (errors.Statement n) some other h k = absurd (many_few m k.statements h k.spelling k.few)
  one_reason (errors.Elements m) errors.Empty some other h k = absurd (many_few m k.statements h k.spelling k.taken.few)
  one_reason (errors.Elements m) errors.Cycle some other h k = absurd (many_few m k.statements h k.spelling k.taken.few)
  one_reason (errors.Statement m) (errors.Syntax n) some other h k = absurd (no_syntax n h.statements k h.spelling)
  one_reason (errors.Statement m) (errors.Elements n) some other h k = absurd (many_few n h.statements k h.spelling h.few)
  one_reason (errors.Statement m) (errors.Statement n) some other h k = ap errors.Statement (one_number m n h k)
  one_reason (errors.Statement m) errors.Empty some other h k = absurd (refused_taken m k.statements h k.spelling k.taken)
  one_reason (errors.Statement m) errors.Cycle some other h k = absurd (refused_taken m k.statements h k.spelling k.taken)
  one_reason errors.Empty (errors.Syntax n) some other h k = absurd (no_syntax n h.statements k h.spelling)
  one_reason errors.Empty (errors.Elements n) some other h k = absurd (many_few n h.statements k h.spelling h.taken.few)
  one_reason errors.Empty (errors.Statement n) some other h k = absurd (refused_taken n h.statements k h.spelling h.taken)
  one_reason errors.Empty errors.Empty some other h k = refl
  one_reason errors.Empty errors.Cycle some other h k = absurd (none_some k.statements h k.spelling k.some)
  one_reason errors.Cycle (errors.Syntax n) some other h k = absurd (no_syntax n h.statements k h.spelling)
  one_reason errors.Cycle (errors.Elements n) some other h k = absurd (many_few n h.statements k h.spelling h.taken.few)
  one_reason errors.Cycle (errors.Statement n) some other h k = absurd (refused_taken n h.statements k h.spelling h.taken)
  one_reason errors.Cycle errors.Empty some other h k = absurd (none_some h.statements k h.spelling h.some)
  one_reason errors.Cycle errors.Cycle some other h k = refl

  pub accepted : (chain : Chain) (e : ChainTextError) → e ≢ errors.NoMemory → IsChainText text chain → IsRefused text e → ⊥
  accepted chain errors.NoMemory some h k = some refl
  accepted chain (errors.Syntax n) some h k = no_syntax n h.statements k h.spelling
  accepted chain (errors.Elements n) some h k = many_few n h.statements k h.spelling h.taken.few
  accepted chain (errors.Statement n) some h k = refused_taken n h.statements k h.spelling h.taken
  accepted chain errors.Empty some h k = none_some h.statements k h.spelling h.some
  accepted chain errors.Cycle some h k =
      let P : List Wire → Type 0 = λ ws. Leads ws k.element k.element in
      let same : wires_of (elements_of k.statements) k.statements ≡ chain.wires =
      ap (λ l. wires_of (elements_of l) l) (same_statements k.statements h.statements k.spelling h.spelling) ∙ sym h.wires in
      h.acyclic k.element (subst P same k.leads)

  pub one_chain : (a b : Chain) → IsChainText text a → IsChainText text b → a ≡ b
  one_chain a b h k =
      let same = same_statements h.statements k.statements h.spelling k.spelling in
      let F : List Element → List Wire → Chain = λ es ws. record { elements = es; wires = ws } in
      ap₂ F (h.elements ∙ ap elements_of same ∙ sym k.elements) (h.wires ∙ ap (λ l. wires_of (elements_of l) l) same ∙ sym k.wires)

  -- ## what an answer says of every other
  pub answer_only : (r : Result Chain ChainTextError) → IfOk r (λ chain. IsChainText text chain)
      → IfOk r (λ chain. (other : Chain) → IsChainText text other → other ≡ chain)
  answer_only (Ok chain) h = λ other k. one_chain other chain k h
  answer_only (Err e) h = tt

  exact_error : (found e : ChainTextError) → IsRefused text found → e ≢ errors.NoMemory → IsRefused text e → (found ≡ e) ⊎ (found ≡ errors.NoMemory)
  exact_error found e h some k = elim (memory_or_not found) [ inl is ↦ inr is | inr other ↦ inl (one_reason found e other some h k) ]

  pub answer_exact : (r : Result Chain ChainTextError) → IfOk r (λ chain. IsChainText text chain) → IfErr r (λ e. IsRefused text e)
      → (e : ChainTextError) → e ≢ errors.NoMemory → IsRefused text e → MatchResult r (λ _. ⊥) (λ found. (found ≡ e) ⊎ (found ≡ errors.NoMemory))
  answer_exact (Ok chain) h k e some here = accepted chain e some h here
  answer_exact (Err found) h k e some here = exact_error found e k some here

  found_error : (found : ChainTextError) (chain : Chain) → IsRefused text found → IsChainText text chain → found ≡ errors.NoMemory
  found_error found chain h k = elim (memory_or_not found) [ inl is ↦ is | inr other ↦ absurd (accepted chain found other k h) ]

  pub answer_found : (r : Result Chain ChainTextError) → IfOk r (λ chain. IsChainText text chain) → IfErr r (λ e. IsRefused text e)
      → (chain : Chain) → IsChainText text chain → MatchResult r (λ found. found ≡ chain) (λ e. e ≡ errors.NoMemory)
  answer_found (Ok found) h k chain here = one_chain found chain h here
  answer_found (Err e) h k chain here = found_error e chain k here
