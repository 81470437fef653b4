use Rattle.std.proofs.Common.{◌≡◌, ◌+◌, ◌*◌, ◌<◌, ℕ, false, get_or, take, vec_len}
use Rattle.element_chain.specs.Wiring.{is_joined}
use Rattle.chain_text.proofs.reach.Reach.direct.Given as goal

-- the rows are those of the wires so far
abbrev pub invariant-loop-wire : goal.invariant-loop-wire
invariant-loop-wire l = record {
  size : vec_len l.rows ≡ l.count * l.count;
  so_far : (e f : ℕ) → e < l.count → f < l.count → get_or l.rows.items (e * l.count + f) false ≡ is_joined (take l.wire-index l.wires) e f;
}
