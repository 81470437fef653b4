use Rattle.std.proofs.Common.{sym, ap, ◌∙◌}
use Rattle.std.proofs.lemmas.Option.{cond_some}
use Rattle.chain_text.specs.Reads.{is_named, number_of}
use Rattle.chain_text.proofs.Outputs.{inserted}
use Rattle.chain_text.proofs.builder.Builder.wire.Goals as goal

pub returns-clause-outputs : goal.returns-clause-outputs
returns-clause-outputs c =
    let es = c.as_slice.result.now in
    let name = c.args.from.now in
    let number = cond_some (is_named es name) (number_of es name) c.in-Some.from (sym c.in-Some.ensures) in
    inserted c.args.self.now.outputs c.insert.new.self c.in-Some.from (number_of c.args.self.now.elements name) c.args.output
    (sym number.1 ∙ ap (λ l. number_of l name) c.as_slice.ensures) c.in_ok-insert.ensures.updates
