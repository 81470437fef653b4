use Rattle.flatten.specs.Tracked.{started}
use Rattle.flatten.proofs.Journals.{length_undone, join_told}
use Rattle.flatten.proofs.output.Output.join.Goals as goal

pub returns-clause-told : goal.returns-clause-told
returns-clause-told c =
    let u = c.args.w.now in
    join_told c.args.frame.now.locals.items c.args.place c.args.cond c.args.first (started u) u.state c.sides.new.self.state c.args.self.now c.in_ok-changes.changes.items c.deref.result.now _ _ c.requires.wide
    (length_undone u.journal.entries u.state.locals) c.in_ok-changes.ensures.state c.deref.ensures.value c.in_ok-changes.ensures.changes c.in_ok-merge_each.ensures.told c.in_ok-merge_rest.ensures
