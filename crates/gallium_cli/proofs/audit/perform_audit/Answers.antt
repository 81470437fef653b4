use Rattle.std.proofs.Common.{refl, ◌∙◌}
use Rattle.gallium_cli.specs.Words.{Audit}
use Rattle.gallium_cli.proofs.Written.{put_ended}
use Rattle.gallium_cli.proofs.audit.perform_audit.Goals as goal

pub returns : goal.returns
returns g c = λ port.
    let found = c.in_ok-found.ensures in
    put_ended _ (Audit c.args.source.now c.args.trace.now c.args.report.now) c.as_slice.result.now
    (g.F.Files.seen c.args.files.now) (g.F.Files.seen c.load_audited.new.files) port port
    (g.O.Sink.seen c.args.out.now) (g.O.Sink.seen c.put.new.out)
    (_, _, _, found.input, found.told, c.as_slice.ensures ∙ c.in-Ok.ensures)
    found.reads.1 found.reads.0 refl refl c.put.ensures.ok c.put.ensures.err
