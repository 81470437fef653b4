use Rattle.std.proofs.Common.{refl}
use Rattle.gallium_cli.specs.Words.{Check}
use Rattle.gallium_cli.specs.Answers.{checked_text}
use Rattle.gallium_cli.proofs.Written.{printed, put_ended}
use Rattle.gallium_cli.proofs.check.perform_check.Goals as goal

pub returns : goal.returns
returns g c = λ port.
    let found = c.in_ok-middlebox.ensures in
    put_ended _ (Check c.args.source.now c.args.limits.now c.args.split.now) c.as_slice.result.now
    (g.F.Files.seen c.args.files.now) (g.F.Files.seen c.load_given.new.files) port port
    (g.O.Sink.seen c.args.out.now) (g.O.Sink.seen c.put.new.out) (
      _,
      _,
      _,
      found.ok,
      printed
          (λ f. checked_text f c.in_ok-middlebox.middlebox.split c.in_ok-middlebox.middlebox.writeback) _ _ _ _
          found.runnable.program c.in-Ok.ensures c.as_slice.ensures,
    )
    found.reads.1 found.reads.0 refl refl c.put.ensures.ok c.put.ensures.err
