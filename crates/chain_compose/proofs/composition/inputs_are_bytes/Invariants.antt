use Rattle.std.proofs.Common.{◌<◌, ◌^◌, take}
use Rattle.std.specs.List.{All}
use Rattle.element_chain.specs.declared.chain.Wire.{Wire}
use Rattle.chain_compose.proofs.composition.inputs_are_bytes.Given as goal

-- the inputs so far are bytes
abbrev pub invariant-loop-wire : goal.invariant-loop-wire
invariant-loop-wire l = All (λ (w : Wire). w.input < 2 ^ 8) (take l.wire-index l.wires)
