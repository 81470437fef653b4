use Rattle.std.proofs.Common.{◌≡◌, rules}
use Rattle.chain_text.specs.declared.error.ChainTextError.TheVariants as chains
use Rattle.gallium_cli.proofs.Chained.{chain_unread}
use Rattle.gallium_cli.proofs.chain.read.Goals as goal

pub returns-in-Err-clause-err : goal.returns-in-Err-clause-err
returns-in-Err-clause-err c =
    let some : c.in-Err.fault ≡ chains.NoMemory → ⊥ = search rules in
    chain_unread c.in-Err.fault c.args.text.now some c.in-Err.ensures.refused c.in-Err.ensures.exact c.in-Err.ensures.found
