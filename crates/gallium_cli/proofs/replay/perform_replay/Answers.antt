use Rattle.std.proofs.Common.{refl, ◌∙◌}
use Rattle.std.proofs.lemmas.Result.{err_from_is_err_and}
use Rattle.gallium_cli.specs.Answers.{IsTraffic}
use Rattle.gallium_cli.specs.Words.{Replay, split_asked}
use Rattle.gallium_cli.proofs.Written.{goes_further, all_reads, replay_goes, more_ended, put_ended, replay_ended, split_ended}
use Rattle.gallium_cli.proofs.Files.{replay_passed, told_before}
use Rattle.gallium_cli.proofs.replay.perform_replay.Goals as goal

pub returns-in_err-middlebox : goal.returns-in_err-middlebox
returns-in_err-middlebox g c =
    let p = err_from_is_err_and c.from_residual.result c.from_residual.ensures.1 in
    let found = c.in_err-middlebox.ensures in
    rw (p.1, p.2)
    (split_ended _ (Replay c.args.source.now c.args.trace.now c.args.schedule.now (split_asked c.args.split)) _ _ _ _ _ _ _ (replay_goes _ _ _ _)
    found.reads.0 found.reads.2 found.reads.1)

pub returns-in_err-packets : goal.returns-in_err-packets
returns-in_err-packets g c =
    let p = err_from_is_err_and c.from_residual-in_err-packets.result c.from_residual-in_err-packets.ensures.1 in
    let found = c.in_ok-middlebox.ensures in
    let none = c.in_err-packets.ensures in
    rw (p.1, p.2)
    (more_ended _ (Replay c.args.source.now c.args.trace.now c.args.schedule.now (split_asked c.args.split)) _ _ _ _ _ _ _ _ _ _ _ (replay_goes _ _ _ _)
    found.ok found.reads.0 found.reads.1 none.reads.0 none.reads.2 none.reads.1)

pub returns-in_err-text : goal.returns-in_err-text
returns-in_err-text g c =
    let p = err_from_is_err_and c.from_residual-in_err-text.result c.from_residual-in_err-text.ensures.1 in
    let found = c.in_ok-middlebox.ensures in
    let came = c.in_ok-packets.ensures in
    let none = c.in_err-text.ensures in
    let f = g.F.Files.seen c.args.files.now in
    let h = g.F.Files.seen c.load_traffic.new.files in
    let traffic = told_before (λ told. IsTraffic told c.args.trace.now c.args.schedule.now c.in_ok-packets.packets c.in_ok-packets.plan) f
    (g.F.Files.seen c.load_split.new.files) found.reads.0 came.ok in
    rw (p.1, p.2)
    (replay_ended _ (Replay c.args.source.now c.args.trace.now c.args.schedule.now (split_asked c.args.split)) f h
    (g.S.SwitchPort.seen c.args.port.now) (g.S.SwitchPort.seen c.report.new.port) (g.O.Sink.seen c.args.out.now) none.err refl
    record {
      passed = replay_passed (split_asked c.args.split) c.args.source.now c.args.trace.now c.args.schedule.now f.told _ _ _ _ _ found.ok traffic;
      reads = all_reads _ _ _ _ f (g.F.Files.seen c.load_split.new.files) h
          (replay_goes c.args.source.now c.args.trace.now c.args.schedule.now (split_asked c.args.split)) found.reads.1 came.reads.1;
    }
    (λ failed. (_, _, _, _, _, found.ok, traffic, none.broken failed))
    none.stays (goes_further _ _ _ _ found.reads.0 came.reads.0))

pub returns : goal.returns
returns g c =
    let found = c.in_ok-middlebox.ensures in
    let came = c.in_ok-packets.ensures in
    let text = c.in_ok-text.ensures in
    let f = g.F.Files.seen c.args.files.now in
    let h = g.F.Files.seen c.load_traffic.new.files in
    let traffic = told_before (λ told. IsTraffic told c.args.trace.now c.args.schedule.now c.in_ok-packets.packets c.in_ok-packets.plan) f
    (g.F.Files.seen c.load_split.new.files) found.reads.0 came.ok in
    put_ended _ (Replay c.args.source.now c.args.trace.now c.args.schedule.now (split_asked c.args.split)) c.as_slice.result.now f h
    (g.S.SwitchPort.seen c.args.port.now) (g.S.SwitchPort.seen c.report.new.port)
    (g.O.Sink.seen c.args.out.now) (g.O.Sink.seen c.put.new.out)
    (_, _, _, _, _, text.ok.0, found.ok, traffic, (c.as_slice.ensures ∙ text.ok.1.0, text.ok.1.1))
    (all_reads _ _ _ _ f (g.F.Files.seen c.load_split.new.files) h
    (replay_goes c.args.source.now c.args.trace.now c.args.schedule.now (split_asked c.args.split)) found.reads.1 came.reads.1)
    (goes_further _ _ _ _ found.reads.0 came.reads.0) text.stays text.no_fault c.put.ensures.ok c.put.ensures.err
