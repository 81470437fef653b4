use Rattle.std.proofs.Common.{◌∙◌, ◌∷◌, ◌+◌, ◌++◌, [], List, ℕ, ap, refl, sym}
use Rattle.std.proofs.lemmas.List.FromFn.{map-range_with_len_more}
use Rattle.switch_machine.specs.Ready.{place_in}
use Rattle.switch_machine.proofs.ready.Resolved.list.Goals as goal

pub loop-place-preserved : goal.loop-place-preserved
loop-place-preserved c =
    let place = place_in c.args.self.now.plan.now in
    let first = c.args.range.first in
    let k = c.loop-place.place in
    c.in_ok-push.ensures.items ∙ ap (λ n. c.loop-place.places.items ++ n ∷ []) c.place.ensures
    ∙ ap (λ (ps : List ℕ). ps ++ place (first + k) ∷ []) c.loop-place.invariant
    ∙ sym (map-range_with_len_more place first k (first + k) refl)
