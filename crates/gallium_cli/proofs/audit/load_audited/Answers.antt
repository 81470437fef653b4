use Rattle.std.proofs.lemmas.List.Elements.{recursion_from_All}
use Rattle.std.proofs.lemmas.Result.{err_from_is_err_and}
use Rattle.element_lang.specs.View.{tree}
use Rattle.flat_ir.specs.Arrivals.{IsArrival}
use Rattle.gallium_cli.proofs.Written.{goes_further, reads_in_all}
use Rattle.gallium_cli.proofs.Files.{report_refused}
use Rattle.lemmas.proofs.Numbers.{same_within}
use Rattle.gallium_cli.proofs.audit.load_audited.Goals as goal

pub returns-in_err-run-clause-reads : goal.returns-in_err-run-clause-reads
returns-in_err-run-clause-reads g c =
    let p = err_from_is_err_and c.from_residual-in_err-run.result c.from_residual-in_err-run.ensures.1 in
    let found = c.in_ok-middlebox.ensures in
    let arrive = recursion_from_All IsArrival c.in_ok-middlebox.packets found.arrivals in
    let none = c.in_err-run.ensures in
    rw (p.1, p.2) (
      report_refused _ c.args.source.now c.args.trace.now c.args.report.now (g.F.Files.seen c.args.files.now)
          (g.F.Files.seen c.load_input.new.files) (g.F.Files.seen c.load_report.new.files)
          (tree c.in_ok-middlebox.middlebox) c.in_ok-middlebox.packets
          (record { input = found.ok; declared = found.declared; arrivals = arrive; few = found.few_packets })
          found.reads.0 none.err,
      goes_further _ _ _ _ found.reads.0 none.fault,
      same_within _ _ (reads_in_all 2 1 _ _ _ found.reads.1 none.read),
    )
