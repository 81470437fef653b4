use Rattle.std.proofs.Common.{◌≡◌, ◌<◌, arith, length, suc}
use Rattle.std.proofs.lemmas.Bool.{ltb-false, ltb-true}
use Rattle.switch_machine.specs.declared.active_pass.ActivePass.{ActivePass}
use Rattle.switch_machine.specs.ActivePasses.{active_in}
use Rattle.switch_machine.proofs.ActivePasses.{same_active_pass}
use Rattle.switch_machine.proofs.loaded_pass.LoadedPass.has_stages_left.Goals as goal

pub returns-clause-left : goal.returns-clause-left
returns-clause-left c more f there =
    let l = c.args.self.now in
    same_active_pass (active_in l.active) c.args.number c.active_pass_of.result.now f c.active_pass_of.ensures there (λ (x : ActivePass). suc (suc x.stage) < length l.stages)
    (omega (arith, ltb-true 2 c.saturating_sub-left.result more, c.saturating_sub-left.ensures, c.len.ensures))

pub returns-clause-last : goal.returns-clause-last
returns-clause-last c none f there =
    let l = c.args.self.now in
    let own = c.active_pass_of.result.now in
    same_active_pass (active_in l.active) c.args.number own f c.active_pass_of.ensures there (λ (x : ActivePass). suc (suc x.stage) ≡ length l.stages)
    (omega (arith, ltb-false 2 c.saturating_sub-left.result none, c.saturating_sub-left.ensures, c.len.ensures, (l.are_active c.args.number own c.active_pass_of.ensures).below))
