use Rattle.std.proofs.Common.{◌≡◌, ◌+◌, ◌-◌, ◌∙◌, true, false, ap, arith, length, nat_lt, sym, subst}
use Rattle.std.proofs.lemmas.Bool.{lt-ltb}
use Rattle.output_commit.specs.Commit.{after_send, commands}
use Rattle.output_commit.specs.Kept.{IsCounted, batches_in}
use Rattle.output_commit.proofs.CommandCounts.{commands_total}
use Rattle.output_commit.proofs.KeptCommit.{after_send_is, begun_len, counted_begin, none_begins, none_sent, sent_merges, some_unsent}
use Rattle.output_commit.proofs.commit.Commit.send_command.Goals as goal

pub returns-then-self : goal.returns-then-self
returns-then-self c =
    let i = c.self.inside in
    let none = none_sent (record { writeback = i.writeback; batches = batches_in i.batches; sent = i.sent; done = i.done; acked = i.acked; held = i.held.items })
    (commands_total i.batches c.self.invariant.kept ∙ sym c.if-self.true) in
    record { did = subst (λ k. false ≡ nat_lt k.sent (length (commands k))) c.self.view_is none.0; after = subst (λ k. k ≡ after_send k) c.self.view_is none.1 }

pub overflow_add-self : goal.overflow_add-self
overflow_add-self c =
    let less = some_unsent _ _ _ _ _ _ _ _ _ c.self.invariant c.if-self.false in
    let k = c.self.invariant.kept.commands in
    let f = c.self.invariant.kept.few in
    omega arith

pub returns-then-self-gt0-clause-did : goal.returns-then-self-gt0-clause-did
returns-then-self-gt0-clause-did c =
    let less = some_unsent _ _ _ _ _ _ _ _ _ c.self.invariant c.if-self.false in
    let t = commands_total c.self.inside.batches c.self.invariant.kept in
    subst (λ k. true ≡ nat_lt k.sent (length (commands k))) c.self.view_is (sym (lt-ltb _ _ (omega arith)))

pub returns-then-self-gt0-clause-after : goal.returns-then-self-gt0-clause-after
returns-then-self-gt0-clause-after c =
    let less = some_unsent _ _ _ _ _ _ _ _ _ c.self.invariant c.if-self.false in
    after_send_is _ c.self.inside.batches.commands (batches_in c.self.inside.batches) less (sym (commands_total c.self.inside.batches c.self.invariant.kept))
    (sym (none_begins c.self.inside.batches c.self.inside.writeback c.self.inside.sent _ _ _ _ _ _ _ c.self.invariant c.if-self-gt0.true)) ∙ ap after_send c.self.view_is

pub commands-requires : goal.commands-requires
commands-requires c = begun_len _ _ _ _ c.begin.ensures

pub invariant_of-self-2 : goal.invariant_of-self-2
invariant_of-self-2 c =
    let i = c.self.inside in
    let none : i.left ≡ 0 = let l = c.if-self-gt0.false in omega arith in
    let counted = subst (λ l. IsCounted i.batches i.sent i.done i.acked l i.applied i.known i.visible i.acknowledged) none c.self.invariant in
    subst (λ n. IsCounted c.begin.new.self (i.sent + 1) i.done i.acked (n - 1) i.applied i.known i.visible i.acknowledged) (sym c.commands.ensures)
    (counted_begin _ _ _ _ _ _ _ _ _ _ _ counted c.begin.ensures)

pub returns-clause-did : goal.returns-clause-did
returns-clause-did c =
    let less = some_unsent _ _ _ _ _ _ _ _ _ c.self.invariant c.if-self.false in
    let t = commands_total c.self.inside.batches c.self.invariant.kept in
    subst (λ k. true ≡ nat_lt k.sent (length (commands k))) c.self.view_is (sym (lt-ltb _ _ (omega arith)))

pub returns-clause-after : goal.returns-clause-after
returns-clause-after c =
    let i = c.self.inside in
    let less = some_unsent _ _ _ _ _ _ _ _ _ c.self.invariant c.if-self.false in
    let none : i.left ≡ 0 = let l = c.if-self-gt0.false in omega arith in
    let counted = subst (λ l. IsCounted i.batches i.sent i.done i.acked l i.applied i.known i.visible i.acknowledged) none c.self.invariant in
    after_send_is _ i.batches.commands (batches_in c.begin.new.self) less (sym (commands_total i.batches c.self.invariant.kept))
    (sent_merges _ _ _ _ _ _ _ _ _ _ _ counted c.begin.ensures) ∙ ap after_send c.self.view_is
