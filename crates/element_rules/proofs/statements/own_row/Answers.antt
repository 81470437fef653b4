use Rattle.std.proofs.Common.{map, ap, sym, ◌∙◌}
use Rattle.element_grammar.specs.Surface.{surface_exprs}
use Rattle.element_rules.specs.Seen.{local_of}
use Rattle.element_rules.specs.Tested.{both_faults, list_faults}
use Rattle.element_rules.proofs.Alone.{faults_joined}
use Rattle.element_rules.proofs.statements.own_row.Goals as goal

pub returns-clause-faults : goal.returns-clause-faults
returns-clause-faults c =
    let text = c.args.text.now in
    let locals = map local_of c.args.sight.now.locals.entries in
    let keys = surface_exprs text c.args.keys.now in
    let values = surface_exprs text c.args.values.now in
    c.and.ensures ∙ ap (λ f. both_faults f c.in_ok-values.values.faults) c.in_ok-keys.ensures.faults ∙ ap (both_faults (list_faults locals keys))
    c.in_ok-values.ensures.faults
    ∙ sym (faults_joined locals keys values)
