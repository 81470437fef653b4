use Rattle.std.proofs.Common.{◌≡◌, ◌-◌, ◌∙◌, List, arith, ap, length, sym}
use Rattle.std.specs.Prelude.{slice_get}
use Rattle.std.specs.Option.{option_copied}
use Rattle.writeback_table.specs.Commands.{commands_of}
use Rattle.output_commit.specs.Commit.{last_sent}
use Rattle.output_commit.specs.Kept.{batches_in}
use Rattle.output_commit.specs.Spans.{batch_in, span_len}
use Rattle.output_commit.specs.declared.span.Span.{Span}
use Rattle.output_commit.proofs.KeptCommit.{command_is, length_in, span_within}
use Rattle.output_commit.proofs.Sent.{last_stands, some_last}
use Rattle.output_commit.proofs.commit.Commit.sent_command.Goals as goal

pub commands-requires : goal.commands-requires
commands-requires c =
    let is = sym (ap (λ (l : List Span). slice_get l (length l - 1)) c.begun.ensures) ∙ (sym c.last.ensures.value ∙ ap option_copied c.in-Some.is) in
    (last_stands _ _ _ _ _ _ _ _ _ c.in-Some.span.now c.self.invariant is).few

pub overflow_sub-step-2 : goal.overflow_sub-step-2
overflow_sub-step-2 c =
    let is = sym (ap (λ (l : List Span). slice_get l (length l - 1)) c.begun.ensures) ∙ (sym c.last.ensures.value ∙ ap option_copied c.in-Some.is) in
    omega (arith, (last_stands _ _ _ _ _ _ _ _ _ c.in-Some.span.now c.self.invariant is).less, c.commands.ensures)

pub of-requires : goal.of-requires
of-requires c =
    let is = sym (ap (λ (l : List Span). slice_get l (length l - 1)) c.begun.ensures) ∙ (sym c.last.ensures.value ∙ ap option_copied c.in-Some.is) in
    let here = last_stands _ _ _ _ _ _ _ _ _ c.in-Some.span.now c.self.invariant is in
    let within = (span_within c.self.inside.batches (c.self.inside.sent - 1) c.in-Some.span.now _ c.self.invariant.kept here.stands).within in
    let same = ap length c.as_slice.ensures.value in
    omega arith

pub command_at-requires-clause-within : goal.command_at-requires-clause-within
command_at-requires-clause-within c =
    let is = sym (ap (λ (l : List Span). slice_get l (length l - 1)) c.begun.ensures) ∙ (sym c.last.ensures.value ∙ ap option_copied c.in-Some.is) in
    let here = last_stands _ _ _ _ _ _ _ _ _ c.in-Some.span.now c.self.invariant is in
    let stands = span_within c.self.inside.batches (c.self.inside.sent - 1) c.in-Some.span.now _ c.self.invariant.kept here.stands in
    let step = stands.step in
    let full = length_in c.self.inside.batches c.in-Some.span.now stands.within in
    let same = ap length (c.of.ensures ∙ ap (λ us. (batch_in us c.in-Some.span.now).updates) c.as_slice.ensures.value) in
    omega (arith, step, full, same, c.commands.ensures)

pub returns : goal.returns
returns c =
    let is = sym (ap (λ (l : List Span). slice_get l (length l - 1)) c.begun.ensures) ∙ (sym c.last.ensures.value ∙ ap option_copied c.in-Some.is) in
    let here = last_stands _ _ _ _ _ _ _ _ _ c.in-Some.span.now c.self.invariant is in
    let there = command_is c.self.inside.batches (c.self.inside.sent - 1) c.in-Some.span.now _ c.self.invariant.kept here.stands in
    let changes = c.of.ensures ∙ ap (λ us. (batch_in us c.in-Some.span.now).updates) c.as_slice.ensures.value in
    let place : c.commands.result - 1 - c.self.inside.left ≡ span_len c.in-Some.span.now - 1 - c.self.inside.left = omega (arith, c.commands.ensures) in
    let command = c.command_at.ensures
    ∙ (ap (λ us. slice_get (commands_of us) (c.commands.result - 1 - c.self.inside.left)) changes
    ∙ (ap (slice_get (commands_of (batch_in c.self.inside.batches.updates.items c.in-Some.span.now).updates)) place ∙ sym there)) in
    let me = c.self.inside in
    some_last
    (record {
      writeback = me.writeback;
      batches = batches_in me.batches;
      sent = me.sent;
      done = me.done;
      acked = me.acked;
      held = me.held.items;
    })
    c.command_at.result here.some command ∙ ap last_sent c.self.view_is
