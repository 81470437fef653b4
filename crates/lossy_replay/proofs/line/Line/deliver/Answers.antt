use Rattle.std.proofs.Common.{append-nil, sym, ◌∙◌}
use Rattle.lossy_link.specs.declared.answers.Took.TheVariants.{New, Again, Early, Malformed}
use Rattle.lossy_replay.proofs.AtWork.{after_deliver}
use Rattle.lossy_replay.proofs.line.Line.deliver.Goals as goal

pub returns-in-New : goal.returns-in-New
returns-in-New c =
    let me = c.args.self.now in
    let arrived = after_deliver me (record me { receiver = c.take.new.self; back = c.push.new.self }) c.args.j c.in-Some.field-0.now
    (New c.in-New.field-0) c.as_slice.result.now c.as_slice-2.result.now c.requires.at_work c.as_slice.ensures.value
    c.in-Some.ensures.lookup.0 c.in-Some.ensures.lookup.1 (c.as_slice-2.ensures ∙ c.in_ok-bytes.ensures) (sym c.in-New.is ∙ c.in_ok-took.ensures.answer)
    c.in_ok-took.ensures.ok c.in_ok-push-in-New.ensures.items in
    record { delivered = arrived.delivered; link = arrived.work.link; at_work = arrived.work.at_work }

pub returns-in-Again : goal.returns-in-Again
returns-in-Again c =
    let me = c.args.self.now in
    let arrived = after_deliver me (record me { receiver = c.take.new.self; back = c.push-in-Again.new.self }) c.args.j c.in-Some.field-0.now
    (Again c.in-Again.field-0) c.as_slice.result.now c.as_slice-2.result.now c.requires.at_work c.as_slice.ensures.value
    c.in-Some.ensures.lookup.0 c.in-Some.ensures.lookup.1 (c.as_slice-2.ensures ∙ c.in_ok-bytes.ensures) (sym c.in-Again.is ∙ c.in_ok-took.ensures.answer)
    c.in_ok-took.ensures.ok c.in_ok-push-in-Again.ensures.items in
    record { delivered = arrived.delivered; link = arrived.work.link; at_work = arrived.work.at_work }

pub returns-in-Early : goal.returns-in-Early
returns-in-Early c =
    let me = c.args.self.now in
    let arrived = after_deliver me (record me { receiver = c.take.new.self }) c.args.j c.in-Some.field-0.now
    (Early c.in-Early.field-0) c.as_slice.result.now c.as_slice-2.result.now c.requires.at_work c.as_slice.ensures.value
    c.in-Some.ensures.lookup.0 c.in-Some.ensures.lookup.1 (c.as_slice-2.ensures ∙ c.in_ok-bytes.ensures) (sym c.in-Early.is ∙ c.in_ok-took.ensures.answer)
    c.in_ok-took.ensures.ok (sym (append-nil me.back.items)) in
    record { delivered = arrived.delivered; link = arrived.work.link; at_work = arrived.work.at_work }

pub returns : goal.returns
returns c =
    let me = c.args.self.now in
    let arrived = after_deliver me (record me { receiver = c.take.new.self }) c.args.j c.in-Some.field-0.now
    Malformed c.as_slice.result.now c.as_slice-2.result.now c.requires.at_work c.as_slice.ensures.value
    c.in-Some.ensures.lookup.0 c.in-Some.ensures.lookup.1 (c.as_slice-2.ensures ∙ c.in_ok-bytes.ensures) (sym c.in-Malformed.is ∙ c.in_ok-took.ensures.answer)
    c.in_ok-took.ensures.ok (sym (append-nil me.back.items)) in
    record { delivered = arrived.delivered; link = arrived.work.link; at_work = arrived.work.at_work }
