-- The spellings of marks.
use Rattle.std.proofs.Common.{◌<◌, length, lit<}
use Rattle.chain_text.specs.declared.mark.Mark.{Mark}
use Rattle.chain_text.specs.declared.mark.Mark.TheVariants.{Declares}
use Rattle.chain_text.specs.Token.{spelling}

-- each mark is written with some byte
pub spelling_some : (m : Mark) → 0 < length (spelling m)
spelling_some Declares = lit< tt
spelling_some _ = lit< tt
