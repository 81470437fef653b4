use Rattle.std.proofs.Common.{◌<◌, ◌^◌}
use Rattle.std.proofs.lemmas.List.Elements.{All-more}
use Rattle.element_chain.specs.declared.chain.Wire.{Wire}
use Rattle.element_chain.specs.declared.chain.Target.TheVariants.{Element}
use Rattle.chain_compose.proofs.composition.inputs_are_bytes.Goals as goal

pub loop-wire-preserved : goal.loop-wire-preserved
loop-wire-preserved c =
    All-more (λ (w : Wire). w.input < 2 ^ 8) c.args.wires.now c.loop-wire.wire-index (record { from = 0; output = 0; input = 0; to = Element 0 }) c.loop-wire-test.true c.loop-wire.invariant c.is_byte.ensures
