-- A table of which elements wires lead to.
use Rattle.std.specs.Prelude.{◌≡◌, ◌<◌, ℕ, ◌+◌, ◌*◌, Bool, false, List, slice_index_or}
use Rattle.element_chain.specs.declared.chain.Wire.{Wire}
use Rattle.element_chain.specs.Wiring.{leads_by}
use Rattle.chain_text.specs.declared.reach.Reach.{Reach}

-- what it says of two elements
abbrev pub entry : Reach → ℕ → ℕ → Bool
entry r from to = slice_index_or r.rows.items (from * r.count + to) false

-- A table says of each two of so many elements whether wires lead from one to the other by way of elements below a number,
-- if by way of any.
pub record LeadsBy (wires : List Wire) (count way : ℕ) (r : Reach) : Type 0 where
  pub size : r.count ≡ count
  pub entries : (from to : ℕ) → from < count → to < count → entry r from to ≡ leads_by wires way from to
