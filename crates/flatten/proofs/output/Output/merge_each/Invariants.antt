use Rattle.std.proofs.Common.{◌≡◌, drop}
use Rattle.flatten.specs.Journal as journal
use Rattle.flatten.specs.Pending.{placed}
use Rattle.flatten.specs.Tracked.{started}
use Rattle.flatten.proofs.output.Output.merge_each.Given as goal

-- the changes that are left give from here what all give from the start
abbrev pub invariant-loop-change : goal.invariant-loop-change
invariant-loop-change l = record {
  told : journal.merge_each l.place l.cond l.frame.locals.items (drop l.change-index l.changes) (placed l.self l.w.state) ≡ journal.merge_each l.place l.cond l.frame.locals.items l.changes (placed l.fn.self l.fn.w.state);
  start : started l.w ≡ started l.fn.w;
}
