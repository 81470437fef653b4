use Rattle.std.proofs.Common.{◌∙◌, arith, map, sym}
use Rattle.std.proofs.lemmas.Option.{none-some}
use Rattle.switch_ir.specs.Code.{pass_step_of}
use Rattle.switch_machine.proofs.ActivePasses.{none_in}
use Rattle.switch_machine.proofs.ReadyStages.{can_all}
use Rattle.switch_machine.proofs.loaded_pass.LoadedPass.of.Goals as goal

pub invariant_of-result : goal.invariant_of-result
invariant_of-result c =
    let pass = c.args.pass.now in
    record {
      can = can_all c.in_ok-numbering.numbering pass.plan (map pass_step_of pass.steps) pass.highest c.in_ok-stages.stages c.in_ok-stages.ensures c.requires;
      room = λ t. omega (arith, c.most.ensures t, c.in_ok-results.ensures.capacity);
      are_active = λ n f there. absurd (none-some f (sym (none_in c.new.result c.new.ensures.empty n) ∙ there));
    }
