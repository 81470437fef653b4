use Rattle.std.proofs.Common.{◌≡◌, ◌++◌, subst}
use Rattle.element_lang.specs.View.{tree}
use Rattle.run_text.specs.Report.{report_of}
use Rattle.gallium_cli.specs.Links.{link_lines}
use Rattle.gallium_cli.proofs.lossy.report.Goals as goal

pub returns-in-Ok-text_of-clause-ok : goal.returns-in-Ok-text_of-clause-ok
returns-in-Ok-text_of-clause-ok g c =
    let run = c.in-Ok.run' in
    let told =
    subst (λ m. c.in-Ok-text_of.text ≡ report_of (tree m).objects run.run ++ link_lines run) c.in-Ok.ensures.same
    c.in-Ok-text_of.ensures in
    (run, (told, c.in-Ok.ensures.ok))
