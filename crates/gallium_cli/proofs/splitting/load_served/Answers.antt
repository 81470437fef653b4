use Rattle.element_lang.specs.View.{tree}
use Rattle.gallium_cli.proofs.Runnable.{served_runs}
use Rattle.gallium_cli.proofs.Written.{served_split}
use Rattle.element_interp.proofs.Laws.{stores_are_kept-start}
use Rattle.gallium_cli.proofs.splitting.load_served.Goals as goal

pub returns-in-Ok-clause-ok : goal.returns-in-Ok-clause-ok
returns-in-Ok-clause-ok g c =
    let found = c.in_ok-program.ensures in
    let split = c.in-Ok.ensures in
    served_split _ c.args.source.now (tree c.in_ok-program.program.middlebox) _ c.in-Ok.split
    record { source = found.ok; bounded = found.sound.1 } found.sound.0 split.greatest split.legal

pub returns-in-Ok-clause-runnable : goal.returns-in-Ok-clause-runnable
returns-in-Ok-clause-runnable g c =
    let m = tree c.in_ok-program.program.middlebox in
    let sound = c.in_ok-program.ensures.sound in
    let split = c.in-Ok.ensures in
    served_runs m _ c.in-Ok.split sound.2 sound.0 sound.1 (stores_are_kept-start m sound.2) split.legal split.greatest
