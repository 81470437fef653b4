use Rattle.std.proofs.Common.{◌<◌, ◌^◌, arith}
use Rattle.std.proofs.lemmas.List.Elements.{All-from_get_or}
use Rattle.lossy_link.proofs.command.are_words.Goals as goal

pub returns : goal.returns
returns c = All-from_get_or (λ n. n < 2 ^ 64) c.args.numbers.now 0 (λ i below. omega (arith, c.type_inv.numbers i))
