-- What was built of statements.
use Rattle.std.specs.Prelude.{◌≡◌, ℕ, Bool, true, ◌&&◌, ◌||◌, ◌==◌, List, length}
use Rattle.std.specs.List.{list_any, list_all}
use Rattle.std.specs.Ordering.{nat_cmp, ordering_then}
use Rattle.std.specs.declared.cmp.Ordering.{Ordering}
use Rattle.std.specs.BTreeSet.{BTreeSet, contains}
use Rattle.element_chain.specs.declared.chain.Element.{Element}
use Rattle.element_chain.specs.declared.chain.Wire.{Wire}
use Rattle.element_chain.specs.Wiring.{AreWithin}
use Rattle.chain_text.specs.Grammar.{Statement, declares, wires}
use Rattle.chain_text.specs.Reads.{elements_of, is_named, is_out, wires_of, IsRefusedAt, AreWiredOnce}
use Rattle.chain_text.specs.declared.builder.Builder.{Builder}

-- the order of outputs
abbrev pub output_cmp : ℕ × ℕ → ℕ × ℕ → Ordering
output_cmp x y = ordering_then (nat_cmp x.0 y.0) (nat_cmp x.1 y.1)

-- whether this output of this element is in a set of outputs
abbrev pub is_output : BTreeSet (ℕ × ℕ) → ℕ → ℕ → Bool
is_output outputs e o = contains output_cmp outputs (e, o)

-- a wire is at this output of this element
abbrev pub is_wired : List Wire → ℕ → ℕ → Bool
is_wired ws e o = list_any (λ (w : Wire). w.from == e && w.output == o) ws

-- the elements have the names that a wire uses
abbrev pub is_known : List Element → Statement → Bool
is_known es (declares element class) = true
is_known es (wires from output input to) = is_named es from && (is_out to || is_named es to)

-- A builder has the elements and wires of the statements, of which none is refused.
pub record IsBuilt (ss : List Statement) (b : Builder) : Type 0 where
  pub none : (place : ℕ) → IsRefusedAt ss place → ⊥
  pub elements : b.elements ≡ elements_of ss
  pub wires : b.wires ≡ wires_of (elements_of ss) ss
  pub outputs : (e o : ℕ) → is_output b.outputs e o ≡ is_wired b.wires e o
  pub known : list_all (is_known (elements_of ss)) ss ≡ true
  pub within : AreWithin (length b.elements) b.wires
  pub once : AreWiredOnce b.wires
