use Rattle.std.proofs.Common.{◌≡◌, ◌∙◌, ℕ, length, map, sym, ap, arith}
use Rattle.element_lang.specs.View.{tree}
use Rattle.chain_compose.specs.Reach.{is_shown, some_below, sends_to}
use Rattle.chain_compose.proofs.Firsts.{some_at, none_so_far}
use Rattle.chain_compose.proofs.refusals.stands_within.Goals as goal

pub loop-from-preserved : goal.loop-from-preserved
loop-from-preserved c =
    none_so_far (sends_to (map tree c.args.classes.now) (is_shown c.args.reach.now) c.args.element) c.loop-from.from c.loop-from.invariant (sym c.sends_to.ensures ∙ c.if-sends_to.false)

pub returns-then-sends_to : goal.returns-then-sends_to
returns-then-sends_to c =
    sym (some_at (length c.args.classes.now) (sends_to (map tree c.args.classes.now) (is_shown c.args.reach.now) c.args.element) c.loop-from.from c.loop-from-test.true (sym c.sends_to.ensures ∙ c.if-sends_to.true))

pub returns : goal.returns
returns c =
    let all : c.loop-from.from ≡ length c.args.classes.now = omega (arith, c.loop-from.auto.from-end, c.loop-from-test.false) in
    sym (ap (λ (n : ℕ). some_below n (sends_to (map tree c.args.classes.now) (is_shown c.args.reach.now) c.args.element)) (sym all) ∙ c.loop-from.invariant)
