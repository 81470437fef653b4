use Rattle.std.proofs.Common.{[], refl}
use Rattle.switch_ir.specs.Passes.{pass_of}
use Rattle.switch_ir.proofs.Codes.{copied_plan}
use Rattle.switch_ir.proofs.code.SwitchCode.copy.Goals as goal

pub invariant_of-result : goal.invariant_of-result
invariant_of-result c =
    let own = c.args.self.now in
    record {
      pre_plan = copied_plan own.tables c.in_ok-tables.tables [] [] own.up c.in_ok-up.up (pass_of own.pre) (pass_of c.in_ok-pre.pre) own.pre.plan c.in_ok-pre.pre.plan
          c.in_ok-tables.ensures refl c.in_ok-up.ensures c.in_ok-pre.ensures.same c.in_ok-pre.ensures.plan own.pre_plan;
      post_plan = copied_plan own.tables c.in_ok-tables.tables own.down c.in_ok-down.down [] [] (pass_of own.post) (pass_of c.in_ok-post.post) own.post.plan c.in_ok-post.post.plan
          c.in_ok-tables.ensures c.in_ok-down.ensures refl c.in_ok-post.ensures.same c.in_ok-post.ensures.plan own.post_plan;
    }
