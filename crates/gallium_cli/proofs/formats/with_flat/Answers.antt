use Rattle.gallium_cli.proofs.Bounds.{bounded_program}
use Rattle.gallium_cli.proofs.formats.with_flat.Goals as goal

pub returns-in-Ok-clause-bounded : goal.returns-in-Ok-clause-bounded
returns-in-Ok-clause-bounded c =
    bounded_program c.args.text.now _ _ c.requires.spells.source c.in-Ok.ensures.program c.in-Ok.ensures.formed c.in-Ok.ensures.bounded
