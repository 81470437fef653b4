use Rattle.switch_ir.specs.Code.{code_of}
use Rattle.switch_machine.specs.declared.sides.Side.TheVariants.{Before, Behind}
use Rattle.switch_machine.proofs.LoadedCode.{gone_on, pass_is, stages_left}
use Rattle.switch_machine.proofs.loaded.Loaded.go_on.Goals as goal

pub go_on-requires-clause-left : goal.go_on-requires-clause-left
go_on-requires-clause-left c = rw c.in-Before.is at (stages_left c.args.side c.args.self.now c.args.number c.requires.left)

pub returns-in-Before-clause-goes_on : goal.returns-in-Before-clause-goes_on
returns-in-Before-clause-goes_on c =
    let l = c.args.self.now in
    rw c.in-Before.is (gone_on Before l c.args.number c.args.tables.now _ _ (c.go_on.ensures.goes_on (code_of l.code) (pass_is Before l) c.requires.safe))

pub go_on-requires-in-Behind-clause-left : goal.go_on-requires-in-Behind-clause-left
go_on-requires-in-Behind-clause-left c = rw c.in-Behind.is at (stages_left c.args.side c.args.self.now c.args.number c.requires.left)

pub returns-in-Behind-clause-goes_on : goal.returns-in-Behind-clause-goes_on
returns-in-Behind-clause-goes_on c =
    let l = c.args.self.now in
    rw c.in-Behind.is (gone_on Behind l c.args.number c.args.tables.now _ _ (c.go_on-in-Behind.ensures.goes_on (code_of l.code) (pass_is Behind l) c.requires.safe))
