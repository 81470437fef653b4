use Rattle.lossy_replay.proofs.AtWork.{after_give}
use Rattle.lossy_replay.proofs.line.Line.give.Goals as goal

pub returns-clause-link : goal.returns-clause-link
returns-clause-link c =
    (after_give c.args.self.now (record c.args.self.now { sender = c.give.new.self }) c.args.item c.requires.at_work c.requires.few_items
    c.in_ok-number.ensures.ok).link

pub returns-clause-at_work : goal.returns-clause-at_work
returns-clause-at_work c =
    (after_give c.args.self.now (record c.args.self.now { sender = c.give.new.self }) c.args.item c.requires.at_work c.requires.few_items
    c.in_ok-number.ensures.ok).at_work
