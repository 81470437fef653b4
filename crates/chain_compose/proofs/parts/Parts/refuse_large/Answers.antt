use Rattle.std.proofs.Common.{arith}
use Rattle.element_chain.specs.Compose.{composed}
use Rattle.chain_compose.specs.Parts.{chain_of}
use Rattle.chain_compose.proofs.OneReason.{size_refused}
use Rattle.chain_compose.proofs.parts.Parts.refuse_large.Goals as goal

pub returns-in-Err-clause-err : goal.returns-in-Err-clause-err
returns-in-Err-clause-err c =
    size_refused (composed (chain_of c.args.self.now)) c.in-Err.error (omega (arith, c.in_ok-statements.ensures, c.if-statements-gt-MAX_STATEMENTS.false)) c.in-Err.ensures.err
