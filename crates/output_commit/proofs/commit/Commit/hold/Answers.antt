use Rattle.std.proofs.Common.{◌≡◌, ◌∷◌, [], ◌∙◌, ap, arith, length}
use Rattle.std.proofs.lemmas.List.{append-nil, length-append}
use Rattle.output_commit.specs.Kept.{IsPushed, batches_in}
use Rattle.output_commit.proofs.KeptCommit.{counted_push, on_err, on_ok, pop_same}
use Rattle.output_commit.specs.Commit.{batch_len, commands}
use Rattle.output_commit.proofs.CommandCounts.{batch_commands, commands_total}
use Rattle.output_commit.proofs.commit.Commit.hold.Goals as goal

pub push-requires-clause-few_commands : goal.push-requires-clause-few_commands
push-requires-clause-few_commands c =
    let t = commands_total c.self.inside.batches c.self.invariant.kept in
    let k = c.self.invariant.kept.commands in
    let e = ap (λ z. length (commands z)) c.self.view_is in
    let b = batch_commands c.args.updates.now in
    let a = ap (λ l. batch_len (length l)) c.as_slice.ensures in
    let few = c.requires in
    omega arith

pub invariant_of-self-else-is_err : goal.invariant_of-self-else-is_err
invariant_of-self-else-is_err c =
    counted_push _ _ _ _ _ _ _ _ _ _ _ c.self.invariant (on_ok c.push.result _ c.if-is_err.ensures.value c.push.ensures.ok)

pub returns-then-is_err-clause-err : goal.returns-then-is_err-clause-err
returns-then-is_err-clause-err c =
    let i = c.self.inside in
    let pushed : IsPushed i.batches c.push.new.self [] = on_err c.push.result _ c.if-is_err.ensures.value c.push.ensures.err in
    let same : batches_in c.push.new.self ≡ batches_in i.batches = pushed.batches ∙ append-nil (batches_in i.batches) in
    let count = c.push_back.new.self.ok.0 in
    let put = ap length c.in_ok-push_back.ensures.items in
    let one = length-append i.held.items ((record { number = c.args.number; need = c.args.need; frame = c.args.frame }) ∷ []) in
    let held : c.pop_back.new.self.items ≡ i.held.items =
    pop_same i.held.items c.push_back.new.self.items c.pop_back.new.self.items _ _ c.in_ok-push_back.ensures.items c.pop_back.ensures.rest (omega arith) in
    (λ k. record { writeback = i.writeback; batches = same k; sent = i.sent; done = i.done; acked = i.acked; held = held k }) ∙ c.self.view_is
