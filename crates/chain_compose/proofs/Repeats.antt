-- Elements with a `repeat` within another one, as they are told from a table.
use Rattle.std.proofs.Common.{◌≡◌, ◌<◌, inl, inr, ◌↔◌, ℕ, zero, suc, ◌==◌, ◌||◌, ◌&&◌, Bool, true, false, List, length, map, refl, sym, ap, ◌∙◌, arith, true≢false}
use Rattle.std.proofs.lemmas.Bool.{eqb-true, and_from, cases_lt, or_cases, or_left, or_right}
use Rattle.std.proofs.lemmas.List.{length-map}
use Rattle.element_lang.specs.declared.tree.Middlebox.{Middlebox}
use Rattle.element_lang.specs.Tree.{BodyTree, Tree}
use Rattle.element_lang.specs.Rules.{any_repeats}
use Rattle.element_lang.specs.View.{tree}
use Rattle.element_chain.specs.declared.chain.Wire.{Wire}
use Rattle.element_chain.specs.Chain.{element_at}
use Rattle.element_chain.specs.Laws.{any_sends_again, RepeatsBehind}
use Rattle.element_chain.specs.Wiring.{Leads, AreWithin, leads_by}
use Rattle.chain_compose.specs.declared.matrix.Reach.{Reach}
use Rattle.chain_compose.specs.Parts.{connected}
use Rattle.chain_compose.specs.Reach.{is_shown, ShowsBy, some_below, sends_to, repeats_within}
use Rattle.chain_compose.specs.Refusals.{IsFirst}
use Rattle.chain_compose.proofs.Firsts.{some_at}
use Rattle.chain_compose.proofs.Trees.{no_tree}
use Rattle.lemmas.proofs.Tests.{and_first, and_second}

-- a number of which it holds
one_of : (n : ℕ) (holds : ℕ → Bool) (a b : Bool) → some_below n holds ≡ a → holds n ≡ b → (some_below n holds ≡ true → (i : ℕ) × (i < n) × (holds i ≡ true)) → (a || b) ≡ true
    → (i : ℕ) × (i < suc n) × (holds i ≡ true)
one_of n holds true b is is' found h = let one = found is in (one.0, omega (arith, one.1), one.2)
one_of n holds false b is is' found h = (n, omega arith, is' ∙ h)

pub some_found : (n : ℕ) (holds : ℕ → Bool) → some_below n holds ≡ true → (i : ℕ) × (i < n) × (holds i ≡ true)
some_found zero holds h = absurd (true≢false (sym h))
some_found (suc n) holds h = one_of n holds (some_below n holds) (holds n) refl refl (λ is. some_found n holds is) h

-- an element that does something is there
pub there_is : (ms : List Middlebox) (e : ℕ) (test : BodyTree → Bool) → test BodyTree.done ≡ false → test (element_at (map tree ms) e).body ≡ true → e < length ms
there_is ms e test none h = elim (cases_lt e (length ms)) [
  | inl low ↦ low
  | inr past ↦ absurd (true≢false (sym h ∙ ap (λ (t : Tree). test t.body) (no_tree ms e past) ∙ none))
]

module _ (ms : List Middlebox) (wires : List Wire) (leads : ℕ → ℕ → Bool) (told : (e f : ℕ) → e < length ms → f < length ms → (leads e f ≡ true) ↔ Leads wires e f) where
  is_behind : (e : ℕ) → e < length ms → repeats_within (map tree ms) leads e ≡ true → RepeatsBehind (connected ms wires) e
  is_behind e there h =
      let repeats = and_first (any_repeats (element_at (map tree ms) e).body) (some_below (length (map tree ms)) (sends_to (map tree ms) leads e)) h in
      let found = some_found (length (map tree ms)) (sends_to (map tree ms) leads e) (and_second (any_repeats (element_at (map tree ms) e).body) _ h) in
      let from = found.0 in
      let low : from < length ms = omega (arith, found.1, length-map ms tree) in
      let some : 0 < length ms = omega (arith, low) in
      let reached = and_first (from == 0 || leads 0 from) (any_sends_again (element_at (map tree ms) from).body) (and_first _ _ found.2) in
      record {
        repeats = repeats;
        from = from;
        reached = elim (or_cases (from == 0) (leads 0 from) reached) [ inl entry ↦ inl (eqb-true from 0 entry) | inr behind ↦ inr ((told 0 from some low).0 behind) ];
        sends = and_second (from == 0 || leads 0 from) (any_sends_again (element_at (map tree ms) from).body) (and_first _ _ found.2);
        behind = (told from e low there).0 (and_second ((from == 0 || leads 0 from) && any_sends_again (element_at (map tree ms) from).body) (leads from e) found.2);
      }

  is_told : (e : ℕ) → RepeatsBehind (connected ms wires) e → (e < length ms) × (repeats_within (map tree ms) leads e ≡ true)
  is_told e behind =
      let there : e < length ms = there_is ms e any_repeats refl behind.repeats in
      let from = behind.from in
      let low : from < length ms = there_is ms from any_sends_again refl behind.sends in
      let some : 0 < length ms = omega (arith, low) in
      let reached : (from == 0 || leads 0 from) ≡ true = elim behind.reached [
        | inl entry ↦ or_left (from == 0) (leads 0 from) (ap (λ (k : ℕ). k == 0) entry)
        | inr leads_there ↦ or_right (from == 0) (leads 0 from) ((told 0 from some low).1 leads_there)
      ] in
      let sends = and_from ((from == 0 || leads 0 from) && any_sends_again (element_at (map tree ms) from).body) (leads from e)
      (and_from (from == 0 || leads 0 from) (any_sends_again (element_at (map tree ms) from).body) reached behind.sends) ((told from e low there).1 behind.behind) in
      (there, and_from (any_repeats (element_at (map tree ms) e).body) _ behind.repeats (some_at (length (map tree ms)) (sends_to (map tree ms) leads e) from (omega (arith, low, length-map ms tree)) sends))

  pub none_behind : ((e : ℕ) → e < length ms → repeats_within (map tree ms) leads e ≡ false) → (e : ℕ) → RepeatsBehind (connected ms wires) e → ⊥
  none_behind none e behind = let is = is_told e behind in true≢false (sym is.1 ∙ none e is.0)

  pub first_behind : (e : ℕ) → e < length ms → repeats_within (map tree ms) leads e ≡ true → ((k : ℕ) → k < e → repeats_within (map tree ms) leads k ≡ false) → IsFirst (RepeatsBehind (connected ms wires)) e
  first_behind e there h none = record {
    here = is_behind e there h;
    none = λ k lt behind. true≢false (sym (is_told k behind).1 ∙ none k lt);
  }

-- a table tells whether wires lead
pub shown_leads : (wires : List Wire) (n : ℕ) (reach : Reach) → ShowsBy wires n n reach → ((count e f : ℕ) → AreWithin count wires → (leads_by wires count e f ≡ true) ↔ Leads wires e f) → AreWithin n wires
    → (e f : ℕ) → e < n → f < n → (is_shown reach e f ≡ true) ↔ Leads wires e f
shown_leads wires n reach shows law within e f low low' =
    let is = law n e f within in
    (λ h. is.0 (sym (shows.each e f low low') ∙ h), λ leads. shows.each e f low low' ∙ is.1 leads)
