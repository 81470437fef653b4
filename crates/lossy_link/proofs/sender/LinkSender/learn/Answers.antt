use Rattle.std.proofs.Common.{◌≡◌, ◌<◌, Some, true, false, length, sym, ap, ◌∙◌, arith}
use Rattle.std.specs.Prelude.{slice_get}
use Rattle.lossy_link.specs.Sender.{Sender, answer_to, with_known}
use Rattle.lossy_link.proofs.Confirms.{sender_by, learned, learned_before}
use Rattle.lossy_link.proofs.sender.LinkSender.learn.Goals as goal

pub returns-then-not-is_set : goal.returns-then-not-is_set
returns-then-not-is_set c =
    let items = c.self.inside.items.items in
    let below : c.args.number < length items = omega (arith, c.requires, ap (λ (s : Sender). length s.items) c.self.view_is) in
    let is : slice_get c.self.inside.unknown c.args.number ≡ Some false = c.is_set.ensures ∙ ap Some c.if-not-is_set.true in
    let learns = learned_before items c.self.inside.unknown c.args.number c.self.invariant below is in
    record {
      answer = learns.says ∙ ap (λ s. answer_to s (Some c.args.number)) c.self.view_is;
      after = sym c.self.view_is ∙ (learns.leaves ∙ ap (λ s. with_known s (Some c.args.number)) c.self.view_is);
    }

pub returns : goal.returns
returns c =
    let items = c.self.inside.items.items in
    let below : c.args.number < length items = omega (arith, c.requires, ap (λ (s : Sender). length s.items) c.self.view_is) in
    let is : slice_get c.self.inside.unknown c.args.number ≡ Some true = c.is_set.ensures ∙ ap Some c.if-not-is_set.false in
    let learns = learned items c.self.inside.unknown c.args.number c.self.invariant below is in
    record {
      answer = learns.says ∙ ap (λ s. answer_to s (Some c.args.number)) c.self.view_is;
      after = ap (λ marks. sender_by items marks) c.clear.ensures ∙ (learns.leaves ∙ ap (λ s. with_known s (Some c.args.number)) c.self.view_is);
    }
