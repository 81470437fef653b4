use Rattle.std.proofs.Common.{refl}
use Rattle.element_grammar.specs.Surface.{surface_exprs}
use Rattle.element_rules.proofs.Alone.{list_found}
use Rattle.element_rules.proofs.statements.own_expressions.Goals as goal

pub returns-clause-faults : goal.returns-clause-faults
returns-clause-faults c =
    list_found c.args.text.now (surface_exprs c.args.text.now c.args.source.now) c.in_ok-made.made refl c.in_ok-made.ensures
