-- The wires of each element.
use Rattle.std.proofs.Common.{◌≡◌, ◌<◌, ◌≤◌, ℕ, zero, suc, ◌+◌, ◌-◌, List, [], ◌∷◌, ◌++◌, length, slice_index_or, Option, Some, None, inl, inr, refl, sym, ap, ◌∙◌, arith, length-append, append_assoc, append-nil, option_to_list}
use Rattle.std.specs.List.{All}
use Rattle.std.proofs.lemmas.List.Elements.{All-nil, All-cons, All-weaker}
use Rattle.element_chain.specs.declared.chain.Wire.{Wire}
use Rattle.element_chain.specs.Chain.{wire_at}
use Rattle.element_chain.specs.Compose.{with_wire, wires_from, wires_of}
use Rattle.element_chain.specs.Wiring.{IsWithin, AreWithin}
use Rattle.element_chain.proofs.Wired.{EachWire, each_of}
use Rattle.chain_compose.specs.declared.parts.Parts.{Parts}
use Rattle.chain_compose.specs.Parts.{chain_of}
use Rattle.chain_compose.specs.Routes.{all_routes}
use Rattle.chain_compose.proofs.Pushed.{old_pushed, last_pushed}
use Rattle.lemmas.proofs.Numbers.{below_suc}

with_option : (o : Option Wire) (ws : List Wire) → option_to_list o ++ ws ≡ with_wire o ws
with_option None ws = refl
with_option (Some w) ws = refl

pub length-routes : (wires : List Wire) (n : ℕ) → length (all_routes wires n) ≡ n
length-routes wires zero = refl
length-routes wires (suc n) = omega (arith, length-append (all_routes wires n) (wires_of wires n ∷ []), length-routes wires n)

pub routes_at : (wires : List Wire) (n e : ℕ) → e < n → slice_index_or (all_routes wires n) e [] ≡ wires_of wires e
routes_at wires zero e lt = absurd (omega (arith, lt))
routes_at wires (suc n) e lt =
    elim (below_suc e n lt) [
      | inl before ↦
          old_pushed (List Wire) (all_routes wires n) (wires_of wires n) [] e (omega (arith, before, length-routes wires n)) ∙ routes_at wires n e before
      | inr last ↦
          ap (λ (k : ℕ). slice_index_or (all_routes wires n ++ wires_of wires n ∷ []) k []) (last ∙ sym (length-routes wires n))
          ∙ last_pushed (List Wire) (all_routes wires n) (wires_of wires n) [] ∙ ap (wires_of wires) (sym last)
    ]

-- the wires of an element, as the table has them
pub own_wires : (parts : Parts) (e : ℕ) (wires : List Wire) → e < length parts.classes.now → wires ≡ slice_index_or parts.routes.now e []
    → wires ≡ wires_of (chain_of parts).wires e
own_wires parts e wires there is =
    is ∙ ap (λ (r : List (List Wire)). slice_index_or r e []) parts.routed ∙ routes_at (chain_of parts).wires (length parts.classes.now) e there

-- ## one output after the other
pub first_route : (wires : List Wire) (e : ℕ) (found : List Wire) → found ≡ [] → found ++ wires_from wires e (256 - 0) 0 ≡ wires_of wires e
unfolding wires_of
first_route wires e found none = ap (λ (f : List Wire). f ++ wires_from wires e 256 0) none

pub next_route : (wires all : List Wire) (e output : ℕ) (found found' : List Wire) (o : Option Wire) → output < 256 → o ≡ wire_at wires e output
    → found' ≡ found ++ option_to_list o → found ++ wires_from wires e (256 - output) output ≡ all
    → found' ++ wires_from wires e (256 - (output + 1)) (output + 1) ≡ all
next_route wires all e output found found' o lt is more before =
    let rest = wires_from wires e (256 - (output + 1)) (output + 1) in
    let room : suc (256 - (output + 1)) ≡ 256 - output = omega (arith, lt) in
    let next : output + 1 ≡ suc output = omega arith in
    ap (λ (f : List Wire). f ++ rest) more
    ∙ append_assoc found (option_to_list o) rest
    ∙ ap (λ (f : List Wire). found ++ f) (with_option o rest ∙ ap (λ (p : Option Wire). with_wire p rest) is
    ∙ ap (λ (k : ℕ). with_wire (wire_at wires e output) (wires_from wires e (256 - (output + 1)) k)) next
    ∙ ap (λ (k : ℕ). wires_from wires e k output) room)
    ∙ before

-- an element has at most 256 wires
one_more : (o : Option Wire) (ws : List Wire) → length (with_wire o ws) ≤ suc (length ws)
one_more None ws = omega arith
one_more (Some w) ws = omega arith

few_from : (wires : List Wire) (e n output : ℕ) → length (wires_from wires e n output) ≤ n
few_from wires e zero output = omega arith
few_from wires e (suc n) output = omega (arith, one_more (wire_at wires e output) (wires_from wires e n (suc output)), few_from wires e n (suc output))

pub few_wires : (wires : List Wire) (e : ℕ) → length (wires_of wires e) ≤ 256
unfolding wires_of
few_wires wires e = few_from wires e 256 0

-- the wires of an element lead to elements that are there
each_all : (P : Wire → Type 0) (e : ℕ) (ws : List Wire) → EachWire (λ (w : Wire). P w × (w.from ≡ e)) ws → All P ws
each_all P e [] each = All-nil P
each_all P e (w ∷ ws) each = All-cons P w ws each.0.0 (each_all P e ws each.1)

pub own_within : (wires : List Wire) (count e : ℕ) → AreWithin count wires → All (λ (w : Wire). IsWithin count w.to) (wires_of wires e)
own_within wires count e all =
    let Within : Wire → Type 0 = λ w. (w.from < count) × IsWithin count w.to in
    All-weaker Within (λ (w : Wire). IsWithin count w.to) (λ w h. h.1) (wires_of wires e) (each_all Within e (wires_of wires e) (each_of Within wires e all))

-- behind the last output
pub no_route : (wires : List Wire) (e output : ℕ) (found all : List Wire) → 256 ≤ output → found ++ wires_from wires e (256 - output) output ≡ all → found ≡ all
no_route wires e output found all past is =
    let none : 256 - output ≡ 0 = omega (arith, past) in
    sym (append-nil found) ∙ sym (ap (λ (k : ℕ). found ++ wires_from wires e k output) none) ∙ is
