use Rattle.std.proofs.Common.{None, length, refl}
use Rattle.switch_machine.specs.ActivePasses.{active_in}
use Rattle.switch_machine.specs.Sides.{staging}
use Rattle.switch_machine.proofs.ActivePasses.{passes_changed, removed_active, with_update}
use Rattle.switch_machine.proofs.loaded_pass.LoadedPass.remove.Goals as goal

pub returns-clause-made : goal.returns-clause-made
returns-clause-made c = record { side = refl; stages = refl; ranges = refl; plan = refl; marks = refl }

pub returns-clause-passes : goal.returns-clause-passes
returns-clause-passes c code =
    let l = c.args.self.now in
    passes_changed (staging l.side code) l.numbering l.registers.plan (active_in l.active) (active_in c.remove.new.self) c.args.number None
    (with_update l.active c.remove.new.self c.args.number None c.remove.ensures.updates.0)

pub invariant_of-self-clause-are_active : goal.invariant_of-self-clause-are_active
invariant_of-self-clause-are_active c =
    let l = c.args.self.now in
    removed_active (length l.stages) (length l.registers.numbers) (active_in l.active) (active_in c.remove.new.self) c.args.number
    (with_update l.active c.remove.new.self c.args.number None c.remove.ensures.updates.0) l.are_active
