use Rattle.std.proofs.Common.{refl}
use Rattle.element_lang.specs.View.{tree}
use Rattle.flat_ir.specs.Program.{program_of}
use Rattle.gallium_cli.specs.Answers.{IsGivenSplit}
use Rattle.gallium_cli.proofs.Files.{told_before}
use Rattle.gallium_cli.proofs.Runnable.{chosen_runs}
use Rattle.gallium_cli.proofs.Written.{given_split}
use Rattle.element_interp.proofs.Laws.{stores_are_kept-start}
use Rattle.gallium_cli.proofs.splitting.load_given.Goals as goal

pub returns-clause-ok : goal.returns-clause-ok
returns-clause-ok g c =
    let found = c.in_ok-flattened.ensures in
    let program = program_of c.in_ok-flattened.flattened.flat in
    let given = told_before
    (λ told. IsGivenSplit told c.args.split.now program c.in_ok-flattened.allowed c.in_ok-parts.parts) _ _
    found.reads.0 c.in_ok-parts.ensures.ok in
    given_split _ c.args.source.now c.args.limits.now c.args.split.now (tree c.in_ok-flattened.flattened.middlebox)
    c.in_ok-flattened.allowed _ c.in_ok-parts.parts found.ok found.program given

pub returns-clause-runnable : goal.returns-clause-runnable
returns-clause-runnable g c =
    let m = tree c.in_ok-flattened.flattened.middlebox in
    let found = c.in_ok-flattened.ensures in
    let given = c.in_ok-parts.ensures in
    chosen_runs m _ c.in_ok-parts.parts c.in_ok-flattened.allowed _ found.good found.program found.ok.program.bounded
    (stores_are_kept-start m found.good) given.ok.accepted.legal given.ok.accepted.keeps given.few_stages found.in_range refl
