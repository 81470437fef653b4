use Rattle.std.proofs.Common.{map}
use Rattle.element_lang.specs.View.{tree}
use Rattle.gallium_cli.specs.Chains.{connected}
use Rattle.gallium_cli.proofs.Chained.{one_source}
use Rattle.gallium_cli.proofs.chain.composed.Goals as goal

pub returns-in-Ok-print-clause-ok : goal.returns-in-Ok-print-clause-ok
returns-in-Ok-print-clause-ok c =
    let made = c.in-Ok.ensures in
    let told = c.in-Ok-print.ensures in
    one_source (connected c.args.chain.now (map tree c.args.classes.now.items)) (tree c.in-Ok.middlebox) c.in-Ok-print.text
    made.made made.unrefused made.rules told.text told.source
    record { verdict = made.verdict; stores = made.stores; objects = made.objects; parts = made.parts }
