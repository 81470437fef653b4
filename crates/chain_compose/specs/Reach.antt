-- What is told about which elements wires lead to.
use Rattle.std.specs.Prelude.{◌≡◌, ℕ, zero, suc, ◌<◌, ◌+◌, ◌*◌, ◌==◌, ◌&&◌, ◌||◌, Bool, false, List, length}
use Rattle.std.specs.Prelude.{slice_index_or}
use Rattle.element_lang.specs.Rules.{any_repeats}
use Rattle.element_lang.specs.Tree.{Tree}
use Rattle.element_chain.specs.declared.chain.Wire.{Wire}
use Rattle.element_chain.specs.Chain.{element_at}
use Rattle.element_chain.specs.Laws.{any_sends_again}
use Rattle.element_chain.specs.Wiring.{leads_by}
use Rattle.chain_compose.specs.declared.matrix.Reach.{Reach}

-- what is told of two elements
abbrev pub is_shown : Reach → ℕ → ℕ → Bool
is_shown reach from to = slice_index_or reach.rows.items (from * reach.count + to) false

-- and by way of a third
abbrev pub is_shown_by : Reach → ℕ → ℕ → ℕ → Bool
is_shown_by reach through from to = is_shown reach from to || (is_shown reach from through && is_shown reach through to)

-- of each two elements it is told whether wires lead from one to the other by way of elements below a number
pub record ShowsBy (wires : List Wire) (count through : ℕ) (reach : Reach) : Type 0 where
  pub size : reach.count ≡ count
  pub each : (from to : ℕ) → from < count → to < count → is_shown reach from to ≡ leads_by wires through from to

-- ## elements that are told of
-- something holds of a number below another
abbrev pub some_below : ℕ → (ℕ → Bool) → Bool
some_below zero holds = false
some_below (suc n) holds = some_below n holds || holds n

-- an element is reached, sends within a `repeat`, and wires lead from it to another
abbrev pub sends_to : List Tree → (ℕ → ℕ → Bool) → ℕ → ℕ → Bool
sends_to elements leads to from =
    (from == 0 || leads 0 from) && any_sends_again (element_at elements from).body && leads from to

-- an element has a `repeat` and stands behind such a one
abbrev pub repeats_within : List Tree → (ℕ → ℕ → Bool) → ℕ → Bool
repeats_within elements leads e =
    any_repeats (element_at elements e).body && some_below (length elements) (sends_to elements leads e)
