-- Statements that are taken one after the other.
use Rattle.std.proofs.Common.{◌≡◌, ℕ, zero, suc, ◌+◌, ◌<◌, ◌≤◌, true, List, [], ◌∷◌, ◌++◌, length, take, get_or, slice_get, Some, refl, sym, ap, subst, ◌∙◌, arith}
use Rattle.std.proofs.lemmas.List.{length-map, take_more, take_all, take-take, get_or-map}
use Rattle.std.proofs.lemmas.Option.{slice_get-get_or}
use Rattle.chain_text.specs.declared.statement.Statement.{Statement as Found}
use Rattle.chain_text.specs.declared.builder.Builder.{Builder}
use Rattle.element_chain.specs.declared.chain.Chain.{Chain}
use Rattle.element_chain.specs.declared.chain.Element.{Element}
use Rattle.element_chain.specs.declared.chain.Wire.{Wire}
use Rattle.element_chain.specs.Wiring.{AreWithin}
use Rattle.chain_text.specs.Grammar.{Statement}
use Rattle.chain_text.specs.Reads.{is_refused, told, IsRefusedAt, AreWiredOnce}
use Rattle.chain_text.specs.Statements.{statement_of, statements_of}
use Rattle.chain_text.specs.Built.{IsBuilt}
use Rattle.chain_text.specs.Taken.{IsTaken, IsFirstNumber}

-- the statements before a place, with the one at it
one_more : (text : List ℕ) (ss : List Found) (i : ℕ) (d : Found) → i < length ss
    → take (i + 1) (statements_of text ss) ≡ take i (statements_of text ss) ++ statement_of text (get_or ss i d) ∷ []
one_more text ss i d lt =
    let same : get_or (statements_of text ss) i (statement_of text d) ≡ statement_of text (get_or ss i d) = get_or-map (statement_of text) ss i d (statement_of text d) lt in
    take_more (statements_of text ss) i (statement_of text d) (omega (arith, length-map ss (statement_of text))) ∙ ap (λ s. take i (statements_of text ss) ++ s ∷ []) same

pub taken_next : (text : List ℕ) (ss : List Found) (i : ℕ) (d : Found) (new : Builder) → i < length ss
    → IsBuilt (take i (statements_of text ss) ++ statement_of text (get_or ss i d) ∷ []) new → IsBuilt (take (i + 1) (statements_of text ss)) new
taken_next text ss i d new lt h =
    let P : List Statement → Type 0 = λ l. IsBuilt l new in
    subst P (sym (one_more text ss i d lt)) h

-- what stands before a place of the beginning of a list
get_taken : {A : Type 0} → (xs : List A) (i k : ℕ) → i < k → slice_get (take k xs) i ≡ slice_get xs i
get_taken [] i zero lt = refl
get_taken [] i (suc k) lt = refl
get_taken (x ∷ xs) i zero lt = absurd (omega arith)
get_taken (x ∷ xs) zero (suc k) lt = refl
get_taken (x ∷ xs) (suc i) (suc k) lt = get_taken xs i k (omega arith)

pub refused_next : (text : List ℕ) (ss : List Found) (i : ℕ) (d : Found) (number : ℕ) → i < length ss
    → ((place : ℕ) → IsRefusedAt (take i (statements_of text ss)) place → ⊥)
    → is_refused (take i (statements_of text ss)) (statement_of text (get_or ss i d)) ≡ true → number ≡ told (i + 1)
    → IsFirstNumber (statements_of text ss) number
refused_next text ss i d number lt none refused number_is =
    let all : List Statement = statements_of text ss in
    let same : get_or all i (statement_of text d) ≡ statement_of text (get_or ss i d) = get_or-map (statement_of text) ss i d (statement_of text d) lt in
    record {
      place = i;
      first = record {
        here = record {
          statement = statement_of text (get_or ss i d);
          there = slice_get-get_or all i (statement_of text d) (omega (arith, length-map ss (statement_of text))) ∙ ap Some same;
          refused = refused;
        };
        none = λ k before h. none k (record {
          statement = h.statement;
          there = get_taken all k i before ∙ h.there;
          refused = ap (λ l. is_refused l h.statement) (take-take k i all (omega arith)) ∙ h.refused;
        });
      };
      count = number_is ∙ ap told (omega arith);
    }

pub all_taken : (ss : List Statement) (i : ℕ) (b : Builder) (chain : Chain) → IsBuilt (take i ss) b → length ss ≤ i
    → chain.elements ≡ b.elements → chain.wires ≡ b.wires → IsTaken ss chain
all_taken ss i b chain h end es_are ws_are =
    let P : List Statement → Type 0 = λ l. IsBuilt l b in
    let Q : List Element → List Wire → Type 0 = λ es ws. AreWithin (length es) ws in
    let R : List Wire → Type 0 = AreWiredOnce in
    let whole : IsBuilt ss b = subst P (take_all i ss end) h in
    record {
      none = whole.none;
      elements = es_are ∙ whole.elements;
      wires = ws_are ∙ whole.wires;
      within = subst (λ es. Q es chain.wires) (sym es_are) (subst (λ ws. Q b.elements ws) (sym ws_are) whole.within);
      once = subst R (sym ws_are) whole.once;
    }
