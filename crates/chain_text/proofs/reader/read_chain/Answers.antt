use Rattle.chain_text.proofs.OneAnswer.{answer_only, answer_exact, answer_found}
use Rattle.chain_text.proofs.reader.read_chain.Goals as goal

pub returns-clause-only : goal.returns-clause-only
returns-clause-only c = answer_only c.args.text.now c.read_text.result c.read_text.ensures.ok

pub returns-clause-exact : goal.returns-clause-exact
returns-clause-exact c = answer_exact c.args.text.now c.read_text.result c.read_text.ensures.ok c.read_text.ensures.err

pub returns-clause-found : goal.returns-clause-found
returns-clause-found c = answer_found c.args.text.now c.read_text.result c.read_text.ensures.ok c.read_text.ensures.err
