use Rattle.std.proofs.Common.{◌≡◌, get_or, arith}
use Rattle.run_text.proofs.AtOnce.{word_at, item_at}
use Rattle.run_text.proofs.schedule.EventLineValue.at_once.Goals as goal

pub returns-in_ok-event_with-in-32 : goal.returns-in_ok-event_with-in-32
returns-in_ok-event_with-in-32 c =
    let told = rw c.from.ensures at c.in_ok-event_with-in-32.ensures in
    item_at c.args.text.now c.in_ok-event_with-in-32.field-0 told (omega arith) (omega arith) (omega arith) (omega arith)

pub returns-in_ok-read_letter-in-10 : goal.returns-in_ok-read_letter-in-10
returns-in_ok-read_letter-in-10 c =
    let fed : get_or c.args.text.now 1 0 ≡ 10 = grind arith in
    word_at c.args.text.now c.in_ok-read_letter-in-10.field-0 c.in_ok-read_letter-in-10.ensures fed
