use Rattle.std.proofs.Common.{sym, ◌∙◌, subst}
use Rattle.std.specs.List.{AllByRecursion as Each}
use Rattle.flat_ir.specs.Program.{program_of}
use Rattle.flat_ir.specs.Writable.{IsWritable}
use Rattle.server_runtime.proofs.Outcomes.{are_writable}
use Rattle.server_runtime.proofs.run.set_fields.Goals as goal

pub write_fields-requires-clause-writable : goal.write_fields-requires-clause-writable
write_fields-requires-clause-writable c =
    let f = program_of c.args.whole.now.flat in
    subst (Each IsWritable) (sym (c.deref.ensures.value ∙ c.requires.prepared.fields)) (are_writable f c.args.whole.now.split f.fields c.requires.prepared.bounded.formed.fields)
