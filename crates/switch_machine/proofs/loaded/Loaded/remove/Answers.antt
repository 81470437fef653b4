use Rattle.switch_ir.specs.Code.{code_of}
use Rattle.switch_machine.proofs.loaded.Loaded.remove.Goals as goal

pub returns-in-Before-clause-passes : goal.returns-in-Before-clause-passes
returns-in-Before-clause-passes c = rw c.in-Before.is (c.remove.ensures.passes (code_of c.args.self.now.code))

pub returns-in-Behind-clause-passes : goal.returns-in-Behind-clause-passes
returns-in-Behind-clause-passes c = rw c.in-Behind.is (c.remove-in-Behind.ensures.passes (code_of c.args.self.now.code))
