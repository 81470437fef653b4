-- The first element of which something holds.
use Rattle.std.proofs.Common.{◌≡◌, ◌<◌, ◌≤◌, inl, inr, ℕ, zero, suc, ◌+◌, Bool, true, false, List, length, map, slice_index_or, sym, ap, subst, ◌∙◌, arith, true≢false}
use Rattle.std.proofs.lemmas.Bool.{or_from, or_left, or_right}
use Rattle.std.proofs.lemmas.List.{length-map}
use Rattle.element_lang.specs.declared.tree.Middlebox.{Middlebox}
use Rattle.element_lang.specs.declared.tree.Stmt.{Stmt}
use Rattle.element_lang.specs.Tree.{Tree}
use Rattle.element_lang.specs.View.{tree, body_tree}
use Rattle.element_chain.specs.Chain.{element_at}
use Rattle.element_chain.specs.Laws.{any_uses_bytes}
use Rattle.chain_compose.specs.Refusals.{ReadsBehind, IsFirst}
use Rattle.chain_compose.specs.Reach.{some_below}
use Rattle.chain_compose.proofs.Trees.{tree_at}
use Rattle.lemmas.proofs.Numbers.{below_suc}

-- ## numbers below another
-- it holds of none
pub none_more : (P : ℕ → Type 0) (i : ℕ) → ((e : ℕ) → e < i → P e → ⊥) → (P i → ⊥) → (e : ℕ) → e < i + 1 → P e → ⊥
none_more P i below here e lt holds =
    elim (below_suc e i (omega (arith, lt))) [ inl low ↦ below e low holds | inr same ↦ here (subst P same holds) ]

-- as tests
pub some_at : (n : ℕ) (holds : ℕ → Bool) (i : ℕ) → i < n → holds i ≡ true → some_below n holds ≡ true
some_at zero holds i lt h = absurd (omega (arith, lt))
some_at (suc n) holds i lt h = elim (below_suc i n lt) [
  | inl low ↦ or_left (some_below n holds) (holds n) (some_at n holds i low h)
  | inr same ↦ or_right (some_below n holds) (holds n) (ap holds (sym same) ∙ h)
]

pub none_so_far : (holds : ℕ → Bool) (i : ℕ) → some_below i holds ≡ false → holds i ≡ false → some_below (i + 1) holds ≡ false
none_so_far holds i below here =
    let next : i + 1 ≡ suc i = omega arith in
    ap (λ (n : ℕ). some_below n holds) next ∙ or_from (some_below i holds) (holds i) below here

-- ## elements that read bytes
reads_of : (ms : List Middlebox) (e : ℕ) (m : Middlebox) (b : List Stmt) (r : Bool) → e < length ms → m ≡ slice_index_or ms e m → b ≡ m.body.items → r ≡ any_uses_bytes (body_tree b)
    → any_uses_bytes (element_at (map tree ms) e).body ≡ r
reads_of ms e m b r within is same reads =
    ap (λ (t : Tree). any_uses_bytes t.body) (tree_at ms e m within is) ∙ ap (λ (ss : List Stmt). any_uses_bytes (body_tree ss)) (sym same) ∙ sym reads

pub no_reader : (ms : List Middlebox) (e : ℕ) (m : Middlebox) (b : List Stmt) (r : Bool) → e < length ms → m ≡ slice_index_or ms e m → b ≡ m.body.items → r ≡ any_uses_bytes (body_tree b) → r ≡ false
    → ReadsBehind (map tree ms) e → ⊥
no_reader ms e m b r within is same reads none behind = true≢false (sym behind.reads ∙ reads_of ms e m b r within is same reads ∙ none)

pub a_reader : (ms : List Middlebox) (e : ℕ) (m : Middlebox) (b : List Stmt) (r : Bool) → e < length ms → m ≡ slice_index_or ms e m → b ≡ m.body.items → r ≡ any_uses_bytes (body_tree b) → r ≡ true
    → 0 < e → ((k : ℕ) → k < e → ReadsBehind (map tree ms) k → ⊥) → IsFirst (ReadsBehind (map tree ms)) e
a_reader ms e m b r within is same reads yes_it_does behind none = record {
  here = record {
    behind = behind;
    there = omega (arith, within, length-map ms tree);
    reads = reads_of ms e m b r within is same reads ∙ yes_it_does;
  };
  none = none;
}

pub no_readers : (ms : List Middlebox) (n : ℕ) → length ms ≤ n → ((k : ℕ) → k < n → ReadsBehind (map tree ms) k → ⊥) → (e : ℕ) → ReadsBehind (map tree ms) e → ⊥
no_readers ms n all none e behind = none e (omega (arith, all, behind.there, length-map ms tree)) behind
