use Rattle.std.proofs.Common.{◌≡◌, ◌-◌, []}
use Rattle.report_text.specs.Parse.{numbers_at}
use Rattle.report_text.proofs.order.read_numbers.Given as goal

-- what is ahead, behind the numbers so far, gives what the whole gives
abbrev pub invariant-loop : goal.invariant-loop
invariant-loop l = numbers_at l.numbers.items (l.count - l.counter) l.bound l.ahead ≡ numbers_at [] l.count l.bound l.line
