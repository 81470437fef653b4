use Rattle.std.proofs.Common.{◌++◌, arith, length-append}
use Rattle.std.specs.Prelude.{codes, decimal}
use Rattle.chain_compose.proofs.objects.prefix_length.Goals as goal

pub returns : goal.returns
returns c = λ name. omega (arith, length-append (decimal c.args.element) (codes "_" ++ name), c.number_length.ensures.value)
