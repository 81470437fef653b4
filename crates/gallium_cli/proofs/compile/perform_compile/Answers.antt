use Rattle.std.proofs.Common.{refl}
use Rattle.gallium_cli.specs.Words.{Compile}
use Rattle.gallium_cli.specs.Answers.{compiled_text}
use Rattle.gallium_cli.proofs.Written.{printed, put_ended}
use Rattle.gallium_cli.proofs.compile.perform_compile.Goals as goal

pub returns : goal.returns
returns g c = λ port.
    let found = c.in_ok-middlebox.ensures in
    put_ended _ (Compile c.args.source.now c.args.limits.now c.args.shrink) c.as_slice.result.now
    (g.F.Files.seen c.args.files.now) (g.F.Files.seen c.load_within.new.files) port port
    (g.O.Sink.seen c.args.out.now) (g.O.Sink.seen c.put.new.out) (
      _,
      _,
      _,
      found.ok,
      printed
          (λ f. compiled_text f c.in_ok-middlebox.middlebox.split c.in_ok-middlebox.middlebox.writeback) _ _ _ _
          found.runnable.program c.in-Ok.ensures c.as_slice.ensures,
    )
    found.reads.1 found.reads.0 refl refl c.put.ensures.ok c.put.ensures.err
