use Rattle.element_lang.specs.View.{tree}
use Rattle.gallium_cli.proofs.Bounds.{few_objects}
use Rattle.gallium_cli.proofs.Declared.{declared_objects}
use Rattle.gallium_cli.proofs.formats.SourceFormatFormat.read.Goals as goal

pub returns-in-Ok-clause-sound : goal.returns-in-Ok-clause-sound
returns-in-Ok-clause-sound c =
    let m = tree c.in-Ok.m in
    let is = c.in-Ok.ensures.ok in
    let good = is.spelling.good in
    let few = few_objects c.args.text.now m is in
    (good, few, declared_objects m good c.in-Ok.ensures.names few, c.in-Ok.ensures.names)
