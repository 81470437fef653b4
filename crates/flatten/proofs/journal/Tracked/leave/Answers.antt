use Rattle.std.proofs.Common.{◌∙◌}
use Rattle.flatten.specs.Journal.{before}
use Rattle.flatten.specs.Tracked.{started}
use Rattle.flatten.proofs.Journals.{length_undone, leave_told}
use Rattle.flatten.proofs.journal.Tracked.leave.Goals as goal

pub returns-clause-state : goal.returns-clause-state
returns-clause-state c =
    let w = c.args.self.now in
    c.in_ok-keep.ensures.state
    ∙ leave_told (started w) (before c.in_ok-first.first (started w)) w.state c.sides.new.self.state c.in_ok-changes.changes.items c.deref.result.now (length_undone w.journal.entries w.state.locals) c.in_ok-first.ensures c.in_ok-changes.ensures.state c.deref.ensures.value
    c.in_ok-changes.ensures.changes
