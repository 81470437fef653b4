use Rattle.std.proofs.Common.{refl, sym}
use Rattle.switch_ir.specs.Code.{code_of}
use Rattle.switch_machine.proofs.loaded.before.Goals as goal

pub returns-clause-made : goal.returns-clause-made
returns-clause-made c = c.of.ensures.made (code_of c.args.code.now) (sym c.as_slice.ensures) refl refl
