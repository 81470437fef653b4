use Rattle.std.proofs.Common.{◌∙◌, [], sym, subst, refl}
use Rattle.std.proofs.lemmas.List.{length-map}
use Rattle.flat_ir.specs.Program.{program_of, step_of}
use Rattle.switch_ir.specs.Emitted.{Computes}
use Rattle.switch_ir.specs.Passes.{pass_of}
use Rattle.switch_ir.proofs.Codes.{by_parts, copied_plan}
use Rattle.switch_ir.proofs.PlannedPasses.{pre_planned, post_planned}
use Rattle.switch_ir.proofs.ComputedPasses.{what_is_emitted_computes_the_split}
use Rattle.switch_ir.proofs.emitter.emit.Goals as goal

pub plan_of-requires : goal.plan_of-requires
plan_of-requires c =
    pre_planned (program_of c.args.f.now) c.args.s.now c.requires.bounded c.requires.legal c.requires.stages c.values_are_few.ensures c.in_ok-tables.tables c.new-none.result
    (pass_of c.in_ok-pre.pre) c.len.result c.in_ok-tables.ensures c.new-none.ensures c.in_ok-pre.ensures (c.len.ensures ∙ sym (length-map c.args.f.now.code step_of))

pub plan_of-requires-2 : goal.plan_of-requires-2
plan_of-requires-2 c =
    post_planned (program_of c.args.f.now) c.args.s.now c.requires.bounded c.requires.legal c.requires.stages c.values_are_few.ensures c.in_ok-tables.tables c.in_ok-layouts.layouts.down
    (pass_of c.in_ok-post.post) c.len-2.result c.in_ok-tables.ensures c.in_ok-layouts.ensures.down c.in_ok-post.ensures (c.len-2.ensures ∙ sym (length-map c.args.f.now.code step_of))

pub invariant_of-result : goal.invariant_of-result
invariant_of-result c = record {
  pre_plan = copied_plan c.in_ok-tables.tables c.in_ok-tables.tables c.new-none.result [] c.in_ok-layouts.layouts.up c.in_ok-layouts.layouts.up (pass_of c.in_ok-pre.pre) (pass_of c.in_ok-pre.pre) c.in_ok-pre-2.field-0 c.in_ok-pre-2.field-0
      refl (sym c.new-none.ensures) refl refl refl c.in_ok-pre-2.ensures;
  post_plan = copied_plan c.in_ok-tables.tables c.in_ok-tables.tables c.in_ok-layouts.layouts.down c.in_ok-layouts.layouts.down c.new-none.result [] (pass_of c.in_ok-post.post) (pass_of c.in_ok-post.post) c.in_ok-post-2.field-0 c.in_ok-post-2.field-0
      refl refl (sym c.new-none.ensures) refl refl c.in_ok-post-2.ensures;
}

pub returns-clause-computes : goal.returns-clause-computes
returns-clause-computes c =
    let f = program_of c.args.f.now in
    let split = c.args.s.now in
    subst (Computes f split)
    (sym (by_parts f split _ c.in_ok-pre.ensures c.in_ok-post.ensures c.in_ok-layouts.ensures.up c.in_ok-layouts.ensures.down c.in_ok-tables.ensures c.values-count.ensures))
    (what_is_emitted_computes_the_split f split c.args.writeback c.requires.legal)
