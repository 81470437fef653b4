use Rattle.std.proofs.Common.{◌≡◌, length}
use Rattle.flatten.specs.Flatten as pure
use Rattle.flatten.specs.Open.{closed, outermost}
use Rattle.flatten.specs.Pending.{placed}
use Rattle.flatten.specs.Tracked.{started}
use Rattle.flatten.proofs.output.Output.close.Given as goal

abbrev pub invariant-loop-open : goal.invariant-loop-open
invariant-loop-open l = record {
  told : closed l.frame.locals.items l.pending.items (started l.w) (placed l.self l.w.state) ≡ closed l.frame.locals.items l.fn.stretch.pending.items (started l.fn.w) (placed l.fn.self l.fn.w.state);
  start : outermost l.pending.items (started l.w) ≡ outermost l.fn.stretch.pending.items (started l.fn.w);
  wide : length l.w.state.locals ≡ length l.frame.locals.items;
  fields : l.frame.fields.items ≡ pure.field_widths;
}

abbrev pub decreases-loop-open : goal.decreases-loop-open
decreases-loop-open l = length l.pending.items
