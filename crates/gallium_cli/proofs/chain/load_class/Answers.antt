use Rattle.std.proofs.Common.{subst, sym}
use Rattle.gallium_cli.specs.declared.refusal.Refusal.{Refusal}
use Rattle.gallium_cli.specs.Lines.{status_of}
use Rattle.gallium_cli.specs.Loads.{LeavesFiles}
use Rattle.gallium_cli.proofs.Chained.{class_goes}
use Rattle.gallium_cli.proofs.chain.load_class.Goals as goal

pub returns-clause-fault : goal.returns-clause-fault
returns-clause-fault g c =
    let before = g.F.Files.seen c.args.files.now in
    let after = g.F.Files.seen c.load.new.files in
    subst (λ (refusal : Refusal). LeavesFiles (status_of refusal) before after) (sym c.of_class.ensures)
    (class_goes c.in-Err.refusal c.in-Ok-from_slice.name c.as_str.result.now before after c.in-Err.ensures.err
    c.in-Err.ensures.fault)
