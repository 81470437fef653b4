-- What the reader answers of the statements and tokens of a text.
use Rattle.std.proofs.Common.{◌≡◌, ℕ, ◌<◌, ◌≤◌, List, [], ◌∷◌, length, map, refl, sym, ap, subst, ◌∙◌, arith}
use Rattle.element_chain.specs.declared.chain.Chain.{Chain}
use Rattle.element_chain.specs.declared.chain.Wire.{Wire}
use Rattle.element_chain.specs.Wiring.{Leads, HasNoCycle}
use Rattle.chain_text.specs.Token as lang
use Rattle.chain_text.specs.Tokens.{PlacedToken as Placed, token_of, placed_of, tokens_of}
use Rattle.chain_text.specs.declared.error.ChainTextError.{ChainTextError}
use Rattle.chain_text.specs.declared.error.ChainTextError.TheVariants as errors
use Rattle.chain_text.specs.Grammar.{Statement, spelled, IsFirstWrong}
use Rattle.chain_text.specs.Reads.{elements_of, plain, offset_at, told, most_elements, IsSpelling, IsChainText, IsComposable, IsOutsideGrammar, HasManyElements, HasCycle, IsRefused}
use Rattle.chain_text.specs.Taken.{IsTaken, IsTakeError}

pub many_elements : {text : List ℕ} (ss : List Statement) (count have : ℕ) → IsSpelling text ss → count ≡ length (elements_of ss) → most_elements < count
    → have ≡ told count → HasManyElements text have
many_elements ss count have spelling counted above is = record {
  statements = ss;
  spelling = spelling;
  above = omega (arith, counted);
  count = is ∙ ap told counted;
}

pub take_error : {text : List ℕ} (ss : List Statement) (e : ChainTextError) → IsSpelling text ss → length (elements_of ss) ≤ most_elements → IsTakeError ss e
    → IsRefused text e
take_error ss (errors.Statement number) spelling few h = record {
  statements = ss;
  spelling = spelling;
  few = few;
  place = h.place;
  first = h.first;
  count = h.count;
}
take_error ss errors.NoMemory spelling few h = tt
take_error ss _ spelling few h = absurd h

pub has_a_cycle : {text : List ℕ} (ss : List Statement) (chain : Chain) → IsSpelling text ss → length (elements_of ss) ≤ most_elements → IsTaken ss chain
    → 0 < length chain.elements → (e : ℕ) × Leads chain.wires e e → HasCycle text
has_a_cycle ss chain spelling few h some (e, leads) =
    let P : List Wire → Type 0 = λ ws. Leads ws e e in
    record {
      statements = ss;
      spelling = spelling;
      taken = record { few = few; none = h.none };
      some = omega (arith, ap length h.elements);
      element = e;
      leads = subst P h.wires leads;
    }

pub chain_text : {text : List ℕ} (ss : List Statement) (chain : Chain) → IsSpelling text ss → length (elements_of ss) ≤ most_elements → IsTaken ss chain
    → 0 < length chain.elements → HasNoCycle chain.wires → IsChainText text chain
chain_text ss chain spelling few h some none = record {
  statements = ss;
  spelling = spelling;
  taken = record { few = few; none = h.none };
  some = omega (arith, ap length h.elements);
  elements = h.elements;
  wires = h.wires;
  acyclic = none;
}

pub composable : (ss : List Statement) (chain : Chain) → length (elements_of ss) ≤ most_elements → IsTaken ss chain
    → 0 < length chain.elements → HasNoCycle chain.wires → IsComposable chain
composable ss chain few h some none = record {
  some = some;
  few = omega (arith, ap length h.elements);
  within = h.within;
  once = h.once;
  acyclic = none;
}

-- ## tokens
plain_same : (text : List ℕ) (ps : List Placed) → plain (map (placed_of text) ps) ≡ tokens_of text ps
plain_same text [] = refl
plain_same text (p ∷ ps) = ap (λ l. token_of text p.token ∷ l) (plain_same text ps)

pub spelling_found : (text : List ℕ) (ps : List Placed) (ss : List Statement) → lang.AreTokens text (map (placed_of text) ps) → tokens_of text ps ≡ spelled ss
    → IsSpelling text ss
spelling_found text ps ss h e = record { placed = map (placed_of text) ps; tokens = h; spells = plain_same text ps ∙ e }

pub wrong_found : (text : List ℕ) (ps : List Placed) (place offset : ℕ) → lang.AreTokens text (map (placed_of text) ps) → IsFirstWrong (tokens_of text ps) place
    → offset ≡ offset_at text (map (placed_of text) ps) place → IsOutsideGrammar text offset
wrong_found text ps place offset h wrong there =
    let P : List lang.Token → Type 0 = λ ts. IsFirstWrong ts place in
    record {
      placed = map (placed_of text) ps;
      tokens = h;
      place = place;
      first = subst P (sym (plain_same text ps)) wrong;
      there = there;
    }
