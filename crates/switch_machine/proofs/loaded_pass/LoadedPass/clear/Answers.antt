use Rattle.std.proofs.Common.{◌∙◌, ap, length, refl}
use Rattle.std.proofs.lemmas.List.{length-replicate}
use Rattle.switch_machine.proofs.loaded_pass.LoadedPass.clear.Goals as goal

pub returns-clause-made : goal.returns-clause-made
returns-clause-made c = record { side = refl; stages = refl; ranges = refl; plan = c.clear.ensures.plan; marks = refl }

pub invariant_of-self-clause-are_active : goal.invariant_of-self-clause-are_active
invariant_of-self-clause-are_active c =
    let l = c.args.self.now in
    rw (ap length c.clear.ensures.numbers ∙ length-replicate (length l.registers.numbers) 0) l.are_active
