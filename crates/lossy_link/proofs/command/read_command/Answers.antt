use Rattle.std.proofs.Common.{◌≡◌, get_or, arith}
use Rattle.lossy_link.proofs.Spelled.{main_back, stage_back}
use Rattle.lossy_link.proofs.command.read_command.Goals.{then-bytes-lt2+in-1-1, else-bytes-lt2+in-1-1, then-bytes-lt2+in-3-1, else-bytes-lt2+in-3-1}
use Rattle.lossy_link.proofs.command.read_command.Goals as goal

pub returns-in_ok-read_update-in-3-clause-read_back :
    goal.returns-in_ok-read_update-in-3-clause-read_back
returns-in_ok-read_update-in-3-clause-read_back c command s =
    let three : get_or c.args.bytes.now 0 0 ≡ 3 = elim c.in-3-1.branch [ then-bytes-lt2+in-3-1 w ↦ omega arith | else-bytes-lt2+in-3-1 w ↦ omega arith ] in
    main_back c.args.objects.now c.args.bytes.now c.in_ok-read_update-in-3.field-0 command three
    c.in_ok-read_update-in-3.ensures.read_back s

pub returns-in_ok-read_update-in-1-clause-read_back :
    goal.returns-in_ok-read_update-in-1-clause-read_back
returns-in_ok-read_update-in-1-clause-read_back c command s =
    let one : get_or c.args.bytes.now 0 0 ≡ 1 = elim c.in-1-1.branch [ then-bytes-lt2+in-1-1 w ↦ omega arith | else-bytes-lt2+in-1-1 w ↦ omega arith ] in
    stage_back c.args.objects.now c.args.bytes.now c.in_ok-read_update-in-1.field-0 command one
    c.in_ok-read_update-in-1.ensures.read_back s
