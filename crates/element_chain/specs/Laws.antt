-- Which chains can be composed, and what they keep.
use Rattle.std.specs.Prelude.{◌≡◌, ◌⊎◌, ℕ, ◌<◌, ◌^◌, Bool, true, false, ◌||◌, IsTrue, List, length}
use Rattle.std.specs.List.{All}
use Rattle.state_store.specs.Kept.{IsKept}
use Rattle.state_store.specs.Store.{Store}
use Rattle.element_lang.specs.Tree.{ExprTree, Exprs, StmtTree, BodyTree, Tree}
use Rattle.element_lang.specs.Tree.ExprTree.{byte, shift, apply, lit, local, field}
use Rattle.element_lang.specs.Tree.Exprs.{no_expr, expr}
use Rattle.element_lang.specs.Tree.StmtTree.{let_local, assign, set_field, look, put, del, choose, repeat, send, drop}
use Rattle.element_lang.specs.Tree.BodyTree.{done, stmt}
use Rattle.element_lang.specs.Rules.{is_good, any_repeats}
use Rattle.element_chain.specs.declared.chain.Wire.{Wire}
use Rattle.element_chain.specs.Chain.{Connected, element_at, store_at}
use Rattle.element_chain.specs.Compose.{composed}
use Rattle.element_chain.specs.Wiring.{Leads, AreWithin, HasNoCycle}

-- a body reads bytes of the packet as it arrived
abbrev mutual
  pub reads_bytes : ExprTree → Bool
  reads_bytes (lit value width) = false
  reads_bytes (local x) = false
  reads_bytes (field f) = false
  reads_bytes (byte index) = true
  reads_bytes (shift op by arg) = reads_bytes arg
  reads_bytes (apply op width args) = any_reads_bytes args

  pub any_reads_bytes : Exprs → Bool
  any_reads_bytes no_expr = false
  any_reads_bytes (expr e es) = reads_bytes e || any_reads_bytes es

abbrev mutual
  pub uses_bytes : StmtTree → Bool
  uses_bytes (let_local x value) = reads_bytes value
  uses_bytes (assign x value) = reads_bytes value
  uses_bytes (set_field f value) = reads_bytes value
  uses_bytes (look found into object keys) = any_reads_bytes keys
  uses_bytes (put ok object keys values) = any_reads_bytes keys || any_reads_bytes values
  uses_bytes (del was object keys) = any_reads_bytes keys
  uses_bytes (choose cond first second) = reads_bytes cond || (any_uses_bytes first || any_uses_bytes second)
  uses_bytes (repeat index count body) = any_uses_bytes body
  uses_bytes (send port) = reads_bytes port
  uses_bytes drop = false

  pub any_uses_bytes : BodyTree → Bool
  any_uses_bytes done = false
  any_uses_bytes (stmt s b) = uses_bytes s || any_uses_bytes b

-- whether a statement or a body sends
abbrev mutual
  pub sends_in : StmtTree → Bool
  sends_in (send port) = true
  sends_in (choose cond first second) = any_sends first || any_sends second
  sends_in (repeat index count body) = any_sends body
  sends_in (let_local x value) = false
  sends_in (assign x value) = false
  sends_in (set_field f value) = false
  sends_in (look found into object keys) = false
  sends_in (put ok object keys values) = false
  sends_in (del was object keys) = false
  sends_in drop = false

  pub any_sends : BodyTree → Bool
  any_sends done = false
  any_sends (stmt s b) = sends_in s || any_sends b

-- whether a statement or a body sends within a `repeat`
abbrev mutual
  pub sends_again : StmtTree → Bool
  sends_again (repeat index count body) = any_sends body
  sends_again (choose cond first second) = any_sends_again first || any_sends_again second
  sends_again (let_local x value) = false
  sends_again (assign x value) = false
  sends_again (set_field f value) = false
  sends_again (look found into object keys) = false
  sends_again (put ok object keys values) = false
  sends_again (del was object keys) = false
  sends_again (send port) = false
  sends_again drop = false

  pub any_sends_again : BodyTree → Bool
  any_sends_again done = false
  any_sends_again (stmt s b) = sends_again s || any_sends_again b

-- ## chains that can be composed
-- Each element keeps the rules, and none but the entry reads bytes of the packet as it arrived. Wires are between elements
-- that are there, by inputs of 8 bits, and have no cycle.
pub record IsFit (c : Connected) : Type 0 where
  pub some : 0 < length c.elements
  pub good : (e : ℕ) → e < length c.elements → IsTrue (is_good (element_at c.elements e))
  pub plain : (e : ℕ) → 0 < e → any_uses_bytes (element_at c.elements e).body ≡ false
  pub inputs : All (λ (w : Wire). w.input < 2 ^ 8) c.wires
  pub within : AreWithin (length c.elements) c.wires
  pub acyclic : HasNoCycle c.wires

-- an element is the entry, or wires lead to it from the entry
abbrev pub IsReached : Connected → ℕ → Type 0
IsReached c e = (e ≡ 0) ⊎ Leads c.wires 0 e

-- an element has a `repeat`, and wires lead to it from one that is reached and sends within a `repeat`
pub record RepeatsBehind (c : Connected) (e : ℕ) : Type 0 where
  pub repeats : any_repeats (element_at c.elements e).body ≡ true
  pub from : ℕ
  pub reached : IsReached c from
  pub sends : any_sends_again (element_at c.elements from).body ≡ true
  pub behind : Leads c.wires from e

-- each element has a store that keeps what it declares
pub record AreKept (elements : List Tree) (stores : List Store) : Type 0 where
  pub count : length stores ≡ length elements
  pub each : (e : ℕ) → e < length elements → IsKept (element_at elements e).objects (store_at stores e)

-- few enough elements and locals that their numbers have names
pub record IsSmall (c : Connected) : Type 0 where
  pub elements : length c.elements < 2 ^ 64
  pub locals : length (composed c).locals < 2 ^ 64
