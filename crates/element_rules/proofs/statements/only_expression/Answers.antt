use Rattle.std.proofs.Common.{refl}
use Rattle.element_grammar.specs.Surface.{surface_expr}
use Rattle.element_rules.proofs.Alone.{only_faults}
use Rattle.element_rules.proofs.statements.only_expression.Goals as goal

pub returns-clause-faults : goal.returns-clause-faults
returns-clause-faults c =
    only_faults c.args.text.now (surface_expr c.args.text.now c.args.source.now) c.in_ok-made.made refl c.in_ok-made.ensures
