-- Where the wires of a chain lead.
use Rattle.std.specs.Prelude.{◌≡◌, ℕ, zero, suc, ◌<◌, ◌==◌, ◌&&◌, ◌||◌, Bool, false, List, Contains}
use Rattle.std.specs.List.{All, list_any}
use Rattle.element_chain.specs.declared.chain.Target.{Target}
use Rattle.element_chain.specs.declared.chain.Target.TheVariants.{Element, Out}
use Rattle.element_chain.specs.declared.chain.Wire.{Wire}

-- some wire leads from an element to another
abbrev pub IsJoined : List Wire → ℕ → ℕ → Type 0
IsJoined wires e f = (w : Wire) × Contains wires w × (w.from ≡ e) × (w.to ≡ Element f)

-- wires one after the other, at least one, lead from an element to another
pub data Leads (wires : List Wire) : ℕ → ℕ → Type 0 where
  directly : {e f : ℕ} → IsJoined wires e f → Leads wires e f
  onward : {e f g : ℕ} → IsJoined wires e f → Leads wires f g → Leads wires e g

-- no wires lead from an element back to it
abbrev pub HasNoCycle : List Wire → Type 0
HasNoCycle wires = (e : ℕ) → Leads wires e e → ⊥

-- where a wire leads there is an element, if it doesn't lead out
abbrev pub IsWithin : ℕ → Target → Type 0
IsWithin count Out = Unit {0}
IsWithin count (Element e) = e < count

-- wires are between elements that are there
abbrev pub AreWithin : ℕ → List Wire → Type 0
AreWithin count = All (λ (w : Wire). (w.from < count) × IsWithin count w.to)

-- ## as a test
abbrev pub is_to : ℕ → Target → Bool
is_to f Out = false
is_to f (Element g) = g == f

abbrev pub is_joined : List Wire → ℕ → ℕ → Bool
is_joined wires e f = list_any (λ (w : Wire). w.from == e && is_to f w.to) wires

-- wires lead from an element to another by way of elements below this number, if by way of any
abbrev pub leads_by : List Wire → ℕ → ℕ → ℕ → Bool
leads_by wires zero e f = is_joined wires e f
leads_by wires (suc k) e f = leads_by wires k e f || (leads_by wires k e k && leads_by wires k k f)
