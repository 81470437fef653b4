-- Chains that can be composed.
use Rattle.std.proofs.Common.{◌≡◌, ◌<◌, ◌≤◌, ◌^◌, ℕ, zero, suc, Bool, true, false, IsTrue, List, [], ◌∷◌, length, map, refl, sym, subst, arith}
use Rattle.std.specs.List.{All, list_all}
use Rattle.std.proofs.lemmas.Bool.{and_from}
use Rattle.std.proofs.lemmas.List.{length-map}
use Rattle.std.proofs.lemmas.List.Elements.{All-head, All-tail}
use Rattle.element_lang.specs.declared.tree.Middlebox.{Middlebox}
use Rattle.element_lang.specs.Rules.{is_good}
use Rattle.element_lang.specs.Tree.{Tree}
use Rattle.element_lang.specs.View.{tree}
use Rattle.element_chain.specs.declared.chain.Wire.{Wire}
use Rattle.element_chain.specs.Chain.{element_at}
use Rattle.element_chain.specs.Compose.{composed}
use Rattle.element_chain.specs.Laws.{IsFit, IsSmall, any_uses_bytes}
use Rattle.element_chain.specs.Wiring.{AreWithin, HasNoCycle}
use Rattle.chain_compose.specs.Parts.{connected}
use Rattle.chain_compose.specs.Refusals.{NoneReads}
use Rattle.chain_compose.proofs.Repeats.{there_is}

-- what holds of all middleboxes
pub at_each : (P : Tree → Type 0) (ms : List Middlebox) → All (λ (m : Middlebox). P (tree m)) ms → (e : ℕ) → e < length (map tree ms) → P (element_at (map tree ms) e)
at_each P [] all e lt = absurd (omega (arith, lt))
at_each P (m ∷ ms) all zero lt = All-head (λ (k : Middlebox). P (tree k)) m ms all
at_each P (m ∷ ms) all (suc e) lt = at_each P ms (All-tail (λ (k : Middlebox). P (tree k)) m ms all) e (omega (arith, lt))

pub all_good : (ms : List Middlebox) → All (λ (m : Middlebox). IsTrue (is_good (tree m))) ms → list_all (λ (m : Middlebox). is_good (tree m)) ms ≡ true
all_good [] all = refl
all_good (m ∷ ms) all = and_from (is_good (tree m)) _ (All-head (λ (k : Middlebox). IsTrue (is_good (tree k))) m ms all) (all_good ms (All-tail (λ (k : Middlebox). IsTrue (is_good (tree k))) m ms all))

none_uses : (ms : List Middlebox) (wires : List Wire) → NoneReads (connected ms wires) → (e : ℕ) → 0 < e → (b : Bool) → any_uses_bytes (element_at (map tree ms) e).body ≡ b → any_uses_bytes (element_at (map tree ms) e).body ≡ false
none_uses ms wires none e behind false is = is
none_uses ms wires none e behind true is =
    absurd (none e (record { behind = behind; there = omega (arith, there_is ms e any_uses_bytes refl is, length-map ms tree); reads = is }))

pub fits : (ms : List Middlebox) (wires : List Wire) → 0 < length ms → All (λ (m : Middlebox). IsTrue (is_good (tree m))) ms → NoneReads (connected ms wires)
    → All (λ (w : Wire). w.input < 2 ^ 8) wires → AreWithin (length ms) wires → HasNoCycle wires → IsFit (connected ms wires)
fits ms wires some good none inputs within acyclic = record {
  some = omega (arith, some, length-map ms tree);
  good = at_each (λ (t : Tree). IsTrue (is_good t)) ms good;
  plain = λ e behind. none_uses ms wires none e behind (any_uses_bytes (element_at (map tree ms) e).body) refl;
  inputs = inputs;
  within = subst (λ (n : ℕ). AreWithin n wires) (sym (length-map ms tree)) within;
  acyclic = acyclic;
}

pub is_small : (ms : List Middlebox) (wires : List Wire) (m : Middlebox) → length ms ≤ 32 → tree m ≡ composed (connected ms wires) → length m.locals < 2 ^ 64 → IsSmall (connected ms wires)
is_small ms wires m few made low = record {
  elements = omega (arith, few, length-map ms tree);
  locals = subst (λ (t : Tree). length t.locals < 2 ^ 64) made low;
}
