use Rattle.std.proofs.Common.{◌≡◌, drop}
use Rattle.flatten.specs.Journal.{with_locals, leave_each}
use Rattle.flatten.specs.Tracked.{started}
use Rattle.flatten.proofs.journal.Tracked.keep.Given as goal

abbrev pub invariant-loop-change : goal.invariant-loop-change
invariant-loop-change l = record {
  told : with_locals (leave_each (drop l.change-index l.changes) l.self.state.locals) l.self.state ≡ with_locals (leave_each l.changes l.fn.self.state.locals) l.fn.self.state;
  start : started l.self ≡ started l.fn.self;
}
