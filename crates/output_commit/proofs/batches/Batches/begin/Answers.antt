use Rattle.std.proofs.Common.{◌<◌, ◌^◌, ◌-◌, ◌∙◌, refl, sym, subst, ap, arith, length, take, drop}
use Rattle.output_commit.specs.Spans.{AreJoined, AreTallied, first_of, total}
use Rattle.output_commit.proofs.BegunBatches.{begins, few_taken, takes_here, waiting_few, waiting_joined}
use Rattle.std.proofs.lemmas.List.{take_rest}
use Rattle.output_commit.proofs.batches.Batches.begin.Goals as goal

pub take_up-taken-requires-clause-few_commands : goal.take_up-taken-requires-clause-few_commands
take_up-taken-requires-clause-few_commands c =
    let b = c.args.self.now in
    let rest = ap (λ l. take (length l - b.next) (drop b.next l)) c.deref.ensures.value ∙ take_rest b.spans.items b.next in
    subst (λ m. total m < 2 ^ 32) (sym rest) (waiting_few b c.requires.kept)

pub take_up-taken-requires-clause-joined : goal.take_up-taken-requires-clause-joined
take_up-taken-requires-clause-joined c =
    let b = c.args.self.now in
    let rest = ap (λ l. take (length l - b.next) (drop b.next l)) c.deref.ensures.value ∙ take_rest b.spans.items b.next in
    subst (λ m. AreJoined (first_of m) m (length c.as_slice.result.now)) (sym rest)
    (subst (λ us. AreJoined (first_of (drop b.next b.spans.items)) (drop b.next b.spans.items) (length us)) (sym c.as_slice.ensures.value) (waiting_joined b c.requires.kept c.requires.waits))

pub overflow_cast-self : goal.overflow_cast-self
overflow_cast-self c =
    let b = c.args.self.now in
    let t = few_taken c.args.most b.updates.items b c.take_up-taken.result.span c.take_up-taken.result.count c.requires.kept
    (takes_here c.args.most b _ _ _ _ c.deref.ensures.value c.as_slice.ensures.value c.take_up-taken.ensures.takes) in
    let k = c.requires.kept.commands in
    let f = c.requires.kept.few in
    omega arith

pub overflow_mul-self : goal.overflow_mul-self
overflow_mul-self c =
    let b = c.args.self.now in
    let t = few_taken c.args.most b.updates.items b c.take_up-taken.result.span c.take_up-taken.result.count c.requires.kept
    (takes_here c.args.most b _ _ _ _ c.deref.ensures.value c.as_slice.ensures.value c.take_up-taken.ensures.takes) in
    let k = c.requires.kept.commands in
    let f = c.requires.kept.few in
    omega arith

pub overflow_sub-self-2 : goal.overflow_sub-self-2
overflow_sub-self-2 c =
    let b = c.args.self.now in
    few_taken c.args.most b.updates.items b c.take_up-taken.result.span c.take_up-taken.result.count c.requires.kept
    (takes_here c.args.most b _ _ _ _ c.deref.ensures.value c.as_slice.ensures.value c.take_up-taken.ensures.takes)

pub returns : goal.returns
returns c =
    let b = c.args.self.now in
    begins c.args.most b _ c.take_up-taken.result.span c.take_up-taken.result.count c.requires.kept c.requires.waits
    (takes_here c.args.most b _ _ _ _ c.deref.ensures.value c.as_slice.ensures.value c.take_up-taken.ensures.takes)
    refl refl refl refl refl (subst (AreTallied c.take_up-taken.new.tally) c.as_slice.ensures.value c.take_up-taken.ensures.tallied)
