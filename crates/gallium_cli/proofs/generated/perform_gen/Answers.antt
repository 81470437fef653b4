use Rattle.std.proofs.Common.{refl}
use Rattle.std.proofs.lemmas.Result.{err_from_is_err_and}
use Rattle.gallium_cli.specs.Words.{Gen}
use Rattle.gallium_cli.proofs.Written.{unread, put_ended, replay_ended, summary_put}
use Rattle.gallium_cli.proofs.generated.perform_gen.Goals as goal

pub returns-in_err-text : goal.returns-in_err-text
returns-in_err-text g c = λ files.
    let p = err_from_is_err_and c.from_residual.result c.from_residual.ensures.1 in
    let found = c.in_err-text.ensures in
    rw (p.1, p.2)
    (replay_ended _ (Gen c.args.seed c.args.count.packets) files files
    (g.S.SwitchPort.seen c.args.port.now) (g.S.SwitchPort.seen c.summary.new.port) (g.O.Sink.seen c.args.out.now)
    found.err refl (record { passed = tt; reads = refl }) found.broken found.stays (unread files))

pub returns : goal.returns
returns g c = λ files.
    let found = c.in_ok-text.ensures in
    put_ended _ (Gen c.args.seed c.args.count.packets) c.as_slice.result.now files files
    (g.S.SwitchPort.seen c.args.port.now) (g.S.SwitchPort.seen c.summary.new.port)
    (g.O.Sink.seen c.args.out.now) (g.O.Sink.seen c.put.new.out)
    (summary_put _ _ _ _ _ _ found.ok c.as_slice.ensures) refl (unread files) found.stays found.no_fault
    c.put.ensures.ok c.put.ensures.err
