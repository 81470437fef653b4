use Rattle.std.proofs.Common.{◌∙◌}
use Rattle.chain_compose.specs.Parts.{chain_of}
use Rattle.chain_compose.proofs.NamedCode.{all_good}
use Rattle.chain_compose.proofs.WholeBytes.{bytes_counted}
use Rattle.chain_compose.proofs.parts.Parts.bytes.Goals as goal

pub returns : goal.returns
returns c =
    c.all_bytes.ensures
    ∙ bytes_counted (chain_of c.args.self.now) (all_good c.args.self.now) _ _ _ _ c.all_decls_length-decls.ensures c.in_ok-tokens.ensures c.in_ok-names.ensures c.in_ok-digits.ensures
