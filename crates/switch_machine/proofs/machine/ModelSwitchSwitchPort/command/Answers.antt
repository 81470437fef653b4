use Rattle.std.proofs.Common.{sym, subst}
use Rattle.switch_ir.specs.Port.{CanCommand, IsCommandOf}
use Rattle.switch_machine.specs.Machine.{seen_of, MachineState}
use Rattle.switch_machine.specs.Kept.{AreSafe}
use Rattle.switch_machine.specs.Loading.{code_in}
use Rattle.switch_machine.proofs.KeptTables.{safe_after}
use Rattle.switch_machine.proofs.LoadedCode.{if_some}
use Rattle.switch_machine.proofs.machine.ModelSwitchSwitchPort.command.Goals as goal

pub invariant_of-self-2 : goal.invariant_of-self-2
invariant_of-self-2 c =
    let loaded = code_in c.fails.new.self.loaded in
    let command = c.args.command.now in
    let named = subst (λ (m : MachineState). CanCommand (seen_of m) command) (sym c.fails.ensures.counted) c.requires.named in
    record {
      safe = subst (AreSafe loaded) (sym c.apply.ensures)
          (safe_after loaded c.fails.new.self.tables command (λ code is. if_some loaded code (λ x. IsCommandOf x command) named is)
          c.fails.new.self.safe);
    }
