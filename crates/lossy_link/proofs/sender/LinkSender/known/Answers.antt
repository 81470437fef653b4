use Rattle.std.proofs.Common.{ap, length, arith}
use Rattle.std.specs.FinSet as set
use Rattle.lossy_link.specs.Marks.{numbers_set}
use Rattle.lossy_link.specs.Sender.{Sender}
use Rattle.lossy_link.proofs.Confirms.{marks_rise}
use Rattle.lossy_link.proofs.Counted.{known_count}
use Rattle.lossy_link.proofs.KnownNumbers.{rising_short}
use Rattle.lossy_link.proofs.sender.LinkSender.known.Goals as goal

pub overflow_sub-result : goal.overflow_sub-result
overflow_sub-result c =
    let items = c.self.inside.items.items in
    let up = marks_rise items c.self.inside.unknown c.self.invariant in
    omega (arith, c.len.ensures, c.len-2.ensures, rising_short 0 (length items) (numbers_set 0 c.self.inside.unknown) up (omega arith))

pub returns-clause-count : goal.returns-clause-count
returns-clause-count c =
    let items = c.self.inside.items.items in
    let up = marks_rise items c.self.inside.unknown c.self.invariant in
    omega (arith, c.len.ensures, c.len-2.ensures, known_count items (numbers_set 0 c.self.inside.unknown) up, ap (λ (s : Sender). set.len s.known) c.self.view_is)
