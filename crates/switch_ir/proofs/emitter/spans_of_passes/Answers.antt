use Rattle.std.proofs.Common.{◌∙◌, sym}
use Rattle.std.proofs.lemmas.List.{length-map}
use Rattle.flat_ir.specs.Program.{program_of, step_of}
use Rattle.switch_ir.specs.Passes.{pass_of}
use Rattle.switch_ir.proofs.PlannedPasses.{pre_planned, post_planned}
use Rattle.switch_ir.proofs.emitter.spans_of_passes.Goals as goal

pub spans_of-requires : goal.spans_of-requires
spans_of-requires c =
    pre_planned (program_of c.args.f.now) c.args.s.now c.requires.bounded c.requires.legal c.requires.stages c.values_are_few.ensures c.in_ok-tables.tables c.new-none.result
    (pass_of c.in_ok-pre.pre) c.len.result c.in_ok-tables.ensures c.new-none.ensures c.in_ok-pre.ensures (c.len.ensures ∙ sym (length-map c.args.f.now.code step_of))

pub spans_of-requires-2 : goal.spans_of-requires-2
spans_of-requires-2 c =
    post_planned (program_of c.args.f.now) c.args.s.now c.requires.bounded c.requires.legal c.requires.stages c.values_are_few.ensures c.in_ok-tables.tables c.in_ok-layouts.layouts.down
    (pass_of c.in_ok-post.post) c.len-2.result c.in_ok-tables.ensures c.in_ok-layouts.ensures.down c.in_ok-post.ensures (c.len-2.ensures ∙ sym (length-map c.args.f.now.code step_of))
