use Rattle.std.proofs.Common.{◌≡◌, get_or, arith}
use Rattle.lossy_link.proofs.Spelled.{value_back}
use Rattle.lossy_link.proofs.command.read_to.Goals.{then-bytes-lt2+in-1-1, else-bytes-lt2+in-1-1}
use Rattle.lossy_link.proofs.command.read_to.Goals as goal

pub returns-in_ok-read_words-in-1-clause-read_back :
    goal.returns-in_ok-read_words-in-1-clause-read_back
returns-in_ok-read_words-in-1-clause-read_back c to s =
    let bytes = c.args.bytes.now in
    let one : get_or bytes 0 0 ≡ 1 = elim c.in-1-1.branch [ then-bytes-lt2+in-1-1 w ↦ omega arith | else-bytes-lt2+in-1-1 w ↦ omega arith ] in
    value_back c.args.object.now c.in_ok-read_words-in-1.field-0 bytes to one c.in_ok-read_words-in-1.ensures.some s
