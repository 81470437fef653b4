-- What stands for a send: which wire the packet goes on by.
use Rattle.std.proofs.Common.{◌≡◌, ◌≢◌, ℕ, zero, suc, ◌+◌, ◌<◌, ◌≤◌, ◌==◌, ◌&&◌, true, false, cond, List, [], ◌∷◌, refl, sym, ap, ◌∙◌, arith, Option, Some, None, ⊎_elim}
use Rattle.std.specs.List.{All}
use Rattle.std.proofs.lemmas.List.Elements.{All-head, All-tail}
use Rattle.std.proofs.lemmas.Bool.{eqb-true, cases_eq, cond_both, cond-true, cond-false}
use Rattle.std.proofs.lemmas.Bool.Decides.{nat_tests}
use Rattle.element_chain.specs.declared.chain.Wire.{Wire}
use Rattle.element_chain.specs.Chain.{wire_at}
use Rattle.element_chain.specs.Compose.{with_wire, wires_from, wires_of}
use Rattle.lemmas.proofs.Tests.{and_first, and_second}

-- the first wire of an output
abbrev pub first_at : ℕ → List Wire → Option Wire
first_at output [] = None
first_at output (w ∷ ws) = cond (output == w.output) (Some w) (first_at output ws)

abbrev pub IfWire : (Wire → Type 0) → Option Wire → Type 0
IfWire P None = Unit {0}
IfWire P (Some w) = P w

-- a wire of a chain, at its output
pub found_at : (P : Wire → Type 0) (wires : List Wire) (e output : ℕ) → All P wires → IfWire (λ (w : Wire). P w × (w.from ≡ e) × (w.output ≡ output)) (wire_at wires e output)
found_at P [] e output all = tt
found_at P (w ∷ ws) e output all =
    cond_both (w.from == e && w.output == output) (Some w) (wire_at ws e output) (IfWire (λ (w : Wire). P w × (w.from ≡ e) × (w.output ≡ output)))
    (λ h. (All-head P w ws all, eqb-true w.from e (and_first _ _ h), eqb-true w.output output (and_second (w.from == e) _ h)))
    (λ h. found_at P ws e output (All-tail P w ws all))

abbrev pub EachWire : (Wire → Type 0) → List Wire → Type 0
EachWire P [] = Unit {0}
EachWire P (w ∷ ws) = P w × EachWire P ws

pub each_mapped : (P Q : Wire → Type 0) → ((w : Wire) → P w → Q w) → (ws : List Wire) → EachWire P ws → EachWire Q ws
each_mapped P Q f [] each = tt
each_mapped P Q f (w ∷ ws) each = (f w each.0, each_mapped P Q f ws each.1)

each_with : (P Q : Wire → Type 0) → ((w : Wire) → P w → Q w) → (o : Option Wire) (ws : List Wire) → IfWire P o → EachWire Q ws → EachWire Q (with_wire o ws)
each_with P Q f None ws is each = each
each_with P Q f (Some w) ws is each = (f w is, each)

-- ## the first wire of an output, of all in order, is the one that the chain has there
abbrev IsAtOutput : ℕ → ℕ → Option Wire → Type 0
IsAtOutput e output = IfWire (λ (w : Wire). Unit {0} × (w.from ≡ e) × (w.output ≡ output))

first_other : (e output x : ℕ) (o : Option Wire) (ws : List Wire) → IsAtOutput e output o → x ≢ output → first_at x (with_wire o ws) ≡ first_at x ws
first_other e output x None ws is other = refl
first_other e output x (Some w) ws is other =
    let there : w.output ≡ output = is.2 in cond-false (x == w.output) (Some w) (first_at x ws) (grind (arith, nat_tests, there, other))

first_same : (e output x : ℕ) (o : Option Wire) (ws : List Wire) → IsAtOutput e output o → x ≡ output → first_at x ws ≡ None → first_at x (with_wire o ws) ≡ o
first_same e output x None ws is same none = none
first_same e output x (Some w) ws is same none =
    let there : w.output ≡ output = is.2 in cond-true (x == w.output) (Some w) (first_at x ws) (grind (arith, nat_tests, there, same))

any_wire : (wires : List Wire) (e output : ℕ) → IsAtOutput e output (wire_at wires e output)
any_wire wires e output = found_at (λ (w : Wire). Unit {0}) wires e output (λ k d lt. tt)

-- no wire of a later output is at an earlier one
none_before : (wires : List Wire) (e n output x : ℕ) → x < output → first_at x (wires_from wires e n output) ≡ None
none_before wires e zero output x lt = refl
none_before wires e (suc n) output x lt =
    first_other e output x (wire_at wires e output) (wires_from wires e n (suc output)) (any_wire wires e output) (λ same. absurd (omega (arith, lt, same)))
    ∙ none_before wires e n (suc output) x (omega (arith, lt))

first_from : (wires : List Wire) (e n output x : ℕ) → output ≤ x → x < output + n → first_at x (wires_from wires e n output) ≡ wire_at wires e x
first_from wires e zero output x le lt = absurd (omega (arith, le, lt))
first_from wires e (suc n) output x le lt =
    let rest : List Wire = wires_from wires e n (suc output) in
    ⊎_elim
    (λ same. first_same e output x (wire_at wires e output) rest (any_wire wires e output) same (none_before wires e n (suc output) x (omega (arith, same)))
    ∙ sym (ap (wire_at wires e) same))
    (λ other. first_other e output x (wire_at wires e output) rest (any_wire wires e output) other
    ∙ first_from wires e n (suc output) x (omega (arith, le, other)) (omega (arith, lt)))
    (cases_eq x output)

pub first_of_all : (wires : List Wire) (e x : ℕ) → x < 256 → first_at x (wires_of wires e) ≡ wire_at wires e x
unfolding wires_of
first_of_all wires e x lt = first_from wires e 256 0 x (omega arith) (omega (arith, lt))

-- the outputs have 8 bits
pub each_low : (P : Wire → Type 0) (wires : List Wire) (e n output : ℕ) → output + n ≤ 256 → All P wires → EachWire (λ (w : Wire). P w × (w.from ≡ e) × (w.output < 256)) (wires_from wires e n output)
each_low P wires e zero output few all = tt
each_low P wires e (suc n) output few all =
    each_with (λ (w : Wire). P w × (w.from ≡ e) × (w.output ≡ output)) (λ (w : Wire). P w × (w.from ≡ e) × (w.output < 256)) (λ w is. (is.0, is.1, omega (arith, is.2, few)))
    (wire_at wires e output) (wires_from wires e n (suc output)) (found_at P wires e output all) (each_low P wires e n (suc output) (omega (arith, few)) all)

pub each_of : (P : Wire → Type 0) (wires : List Wire) (e : ℕ) → All P wires → EachWire (λ (w : Wire). P w × (w.from ≡ e)) (wires_of wires e)
unfolding wires_of
each_of P wires e all =
    each_mapped (λ (w : Wire). P w × (w.from ≡ e) × (w.output < 256)) (λ (w : Wire). P w × (w.from ≡ e)) (λ w is. (is.0, is.1))
    (wires_of wires e) (each_low P wires e 256 0 (omega arith) all)
