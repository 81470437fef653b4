use Rattle.std.proofs.Common.{◌∙◌, sym, ap}
use Rattle.flat_ir.specs.Blocks.{is_live}
use Rattle.flat_ir.specs.Program.{work_of}
use Rattle.flat_ir.specs.Registers.{packet_of}
use Rattle.gal_bits.specs.Operators.{bit}
use Rattle.flat_ir.proofs.Effects.{no_effect}
use Rattle.flat_ir.proofs.work.compute_number.Goals as goal

pub returns-else-take_effect-clause-number : goal.returns-else-take_effect-clause-number
returns-else-take_effect-clause-number g c =
    let reads = g.R.Numbers.reads c.args.numbers.now in
    let st = c.args.store.now in
    no_effect reads (is_live c.args.f.now.blocks reads c.args.instr.now.block) st (packet_of c.args.arrival.now) (work_of c.args.instr.now.kind)
    (sym (ap bit c.if-take_effect.false) ∙ c.take_effect.ensures.told)
    ∙ c.given_number.ensures st
