-- How deep the `send`s of an element stand, and how deep the element then is, by the tests that stand for each.
use Rattle.std.specs.Prelude.{◌≡◌, ℕ, zero, suc, ◌+◌, ◌<◌, max, Bool, true, false, List, [], ◌∷◌, length, slice_index, slice_index_or}
use Rattle.element_lang.specs.Tree.{ExprTree, StmtTree, BodyTree}
use Rattle.element_lang.specs.Tree.StmtTree.{choose, repeat, send}
use Rattle.element_lang.specs.Tree.BodyTree.{done, stmt}
use Rattle.element_print.specs.Lengths.{capped}
use Rattle.element_print.specs.Depths.{expr_depth}
use Rattle.element_chain.specs.declared.chain.Wire.{Wire}
use Rattle.element_chain.specs.declared.chain.Target.{Target}
use Rattle.element_chain.specs.declared.chain.Target.TheVariants.{Element, Out}
use Rattle.element_chain.specs.Chain.{Connected, element_at}
use Rattle.element_chain.specs.Compose.{wires_of}
use Rattle.chain_compose.specs.declared.depth.Own.{Own}
use Rattle.chain_compose.specs.Depths.{placed_depth, end_depth}

-- one level further in, where there is any
abbrev pub further_in : ℕ → ℕ
further_in zero = 0
further_in (suc n) = suc (suc n)

-- The level at which the innermost `send` stands: 1 for the statements of the body itself, one more for those within each
-- block, and 0 where none sends.
abbrev mutual
  pub stmt_level : StmtTree → ℕ
  stmt_level (choose cond first second) = further_in (max (level_in first) (level_in second))
  stmt_level (repeat index count body) = further_in (level_in body)
  stmt_level (send port) = 1
  stmt_level s = 0

  pub level_in : BodyTree → ℕ
  level_in done = 0
  level_in (stmt s b) = max (stmt_level s) (level_in b)

-- how deep the port of a `send` stands in the whole, where wires lead on from its element or not
abbrev pub port_depth : Bool → ExprTree → ℕ
port_depth true port = expr_depth port
port_depth false port = 0

abbrev pub has_wires : List Wire → Bool
has_wires [] = false
has_wires (w ∷ ws) = true

-- statements that are so deep without what stands for a `send`, and whose innermost `send` stands at this level, with
-- tests that are so deep for each
abbrev pub with_tests : ℕ → ℕ → ℕ → ℕ
with_tests own zero tests = own
with_tests own (suc blocks) tests = max own (blocks + tests)

-- ## where it is told how deep each element is
abbrev pub told_depth : List ℕ → Target → ℕ
told_depth depths Out = 0
told_depth depths (Element e) = slice_index depths e

-- an element's own statements
abbrev pub own_depth : Connected → ℕ → ℕ
own_depth c e = placed_depth (port_depth (has_wires (wires_of c.wires e))) (element_at c.elements e).body

abbrev pub own_level : Connected → ℕ → ℕ
own_level c e = level_in (element_at c.elements e).body

-- what is told of an element
pub record IsOwn (c : Connected) (e : ℕ) (own : Own) : Type 0 where
  pub depth : own.depth ≡ capped (own_depth c e)
  pub level : own.level ≡ capped (own_level c e)

abbrev pub nothing_own : Own
nothing_own = record { depth = 0; level = 0 }

-- and of each
pub record AreOwn (c : Connected) (owns : List Own) : Type 0 where
  pub count : length owns ≡ length c.elements
  pub each : (e : ℕ) → e < length c.elements → IsOwn c e (slice_index_or owns e nothing_own)

-- how deep what stands at the end of a wire is, for each element, through so many elements and no more
pub record AreDepths (c : Connected) (n : ℕ) (depths : List ℕ) : Type 0 where
  pub each : (e : ℕ) → e < length c.elements → slice_index depths e ≡ capped (end_depth c n (Element e))
