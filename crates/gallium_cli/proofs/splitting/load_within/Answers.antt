use Rattle.std.proofs.Common.{refl}
use Rattle.element_lang.specs.View.{tree}
use Rattle.gallium_cli.proofs.Runnable.{chosen_runs}
use Rattle.gallium_cli.proofs.Written.{chosen_split}
use Rattle.element_interp.proofs.Laws.{stores_are_kept-start}
use Rattle.gallium_cli.proofs.splitting.load_within.Goals as goal

pub returns-clause-ok : goal.returns-clause-ok
returns-clause-ok g c =
    let found = c.in_ok-program.ensures in
    let split = c.in_ok-split.ensures in
    chosen_split _ c.args.source.now c.args.limits.now c.args.shrink (tree c.in_ok-program.program.middlebox)
    c.in_ok-program.allowed _ c.in_ok-split.split found.ok found.program split.chosen split.legal split.keeps

pub returns-clause-runnable : goal.returns-clause-runnable
returns-clause-runnable g c =
    let m = tree c.in_ok-program.program.middlebox in
    let found = c.in_ok-program.ensures in
    let split = c.in_ok-split.ensures in
    chosen_runs m _ c.in_ok-split.split c.in_ok-program.allowed _ found.good found.program found.ok.program.bounded
    (stores_are_kept-start m found.good) split.legal split.keeps split.few_stages found.in_range refl
