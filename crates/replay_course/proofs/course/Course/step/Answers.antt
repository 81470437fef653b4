use Rattle.std.proofs.Common.{ap, refl, sym, ◌∙◌}
use Rattle.replay_course.specs.Idle.{finds_nothing}
use Rattle.replay_course.proofs.Arms.{nothing_turned}
use Rattle.replay_course.proofs.course.Course.step.Goals as goal

pub returns-then-finds_nothing-clause-turned : goal.returns-then-finds_nothing-clause-turned
returns-then-finds_nothing-clause-turned g c =
    let me = c.args.self.now in
    nothing_turned _ c.args.event _ me _ _ _ refl c.requires.going
    (ap (λ n. finds_nothing n me c.args.event) (sym c.len.ensures) ∙ (sym c.finds_nothing.ensures ∙ c.if-finds_nothing.true))
    c.idled.ensures.stepped c.idled.ensures.sound c.idled.ensures.unapplied c.idled.ensures.counted c.idled.ensures.shown
