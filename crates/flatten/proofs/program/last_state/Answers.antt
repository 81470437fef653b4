use Rattle.std.proofs.Common.{◌≡◌, subst, ap, sym, ◌∙◌, true, rules, map}
use Rattle.element_lang.specs.Rules.{is_good}
use Rattle.element_lang.specs.View.{body_tree, tree}
use Rattle.flatten.specs.Sized.{IsSizedBody}
use Rattle.flatten.proofs.GoodSizes.{good_sized}
use Rattle.flatten.proofs.program.last_state.Goals as goal

pub body-requires-clause-sized : goal.body-requires-clause-sized
body-requires-clause-sized c =
    let good : is_good (tree c.args.m.now) ≡ true = search (rules, c.requires) in
    subst (λ ss. IsSizedBody c.in_ok-frame.frame.locals.items (body_tree ss)) (sym c.deref.ensures.value)
    (subst (λ ws. IsSizedBody ws (body_tree c.args.m.now.body.items)) (sym (c.in_ok-frame.ensures.locals ∙ ap (map (λ l. l.width)) c.as_slice.ensures)) (good_sized (tree c.args.m.now) good))
