use Rattle.std.proofs.Common.{[], arith}
use Rattle.lossy_link.specs.Link.{first_link}
use Rattle.lossy_replay.proofs.AtWork.{work_of}
use Rattle.lossy_link.proofs.Laws.{links_are_faithful}
use Rattle.lossy_replay.proofs.line.Line.new.Goals as goal

pub returns-clause-at_work : goal.returns-clause-at_work
returns-clause-at_work c =
    (work_of _ (first_link c.args.ordered) c.new.ensures c.new-2.ensures c.new-3.ensures.items c.new-4.ensures.items
    (links_are_faithful c.args.ordered []).faithful (omega arith)).at_work
