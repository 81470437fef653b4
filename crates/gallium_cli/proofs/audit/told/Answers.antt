use Rattle.std.proofs.Common.{◌≡◌, ◌∙◌, ap, rules}
use Rattle.element_lang.specs.View.{tree}
use Rattle.run_audit.specs.declared.error.AuditError.TheVariants as audits
use Rattle.gallium_cli.specs.Reports.{untruth_of}
use Rattle.gallium_cli.proofs.Untrue.{untrue_unread}
use Rattle.gallium_cli.proofs.audit.told.Goals as goal

pub returns-in-Ok : goal.returns-in-Ok
returns-in-Ok c =
    let real : c.args.error ≡ audits.NoMemory → ⊥ = search rules in
    untrue_unread (tree c.args.m.now) c.args.packets.now c.args.text.now c.args.run.now c.args.error c.in-Ok.untruth
    c.requires.spelled c.requires.only real c.requires.refused
    (c.in-Ok.ensures ∙ ap (λ objects. untruth_of objects c.args.error) c.as_slice.ensures)
