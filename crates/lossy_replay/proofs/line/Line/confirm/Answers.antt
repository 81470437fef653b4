use Rattle.std.proofs.Common.{ap, ◌∙◌}
use Rattle.lossy_link.specs.Sender.{after_confirm}
use Rattle.lossy_replay.proofs.AtWork.{after_known, number_told, read_at}
use Rattle.lossy_replay.proofs.line.Line.confirm.Goals as goal

pub returns : goal.returns
returns c =
    let me = c.args.self.now in
    let n = c.in-Some.field-0.now in
    let at = read_at me.back.items c.as_slice.result.now c.args.j n c.as_slice.ensures.value c.in-Some.ensures.lookup.0 c.in-Some.ensures.lookup.1 in
    let work = after_known me (record me { sender = c.confirm.new.self }) c.args.j n c.requires.at_work at
    (c.confirm.ensures.after ∙ ap (after_confirm me.sender) (c.to_be_bytes.ensures ∙ number_told n)) in
    record { link = work.link; at_work = work.at_work }
