use Rattle.std.proofs.Common.{refl}
use Rattle.element_lang.specs.View.{tree}
use Rattle.gallium_cli.proofs.Runnable.{chosen_runs}
use Rattle.gallium_cli.proofs.Written.{made_split, limits_in_range}
use Rattle.element_interp.proofs.Laws.{stores_are_kept-start}
use Rattle.gallium_cli.proofs.generated.made_split.Goals as goal

pub returns-clause-ok : goal.returns-clause-ok
returns-clause-ok c =
    let found = c.in_ok-flattened.ensures in
    let parts = c.in_ok-parts.ensures in
    made_split (tree c.in_ok-flattened.flattened.middlebox) c.translator_limits-allowed.result _ c.in_ok-parts.parts _
    found.source found.bounded found.program c.translator_limits-allowed.ensures parts.chosen parts.legal parts.keeps refl

pub returns-clause-runnable : goal.returns-clause-runnable
returns-clause-runnable c =
    let m = tree c.in_ok-flattened.flattened.middlebox in
    let found = c.in_ok-flattened.ensures in
    let parts = c.in_ok-parts.ensures in
    chosen_runs m _ c.in_ok-parts.parts c.translator_limits-allowed.result _ found.good found.program found.bounded
    (stores_are_kept-start m found.good) parts.legal parts.keeps parts.few_stages
    (limits_in_range _ c.translator_limits-allowed.ensures) refl
