use Rattle.std.proofs.Common.{◌∙◌, ◌∷◌, [], ap, map, sym}
use Rattle.std.specs.List.{range_with_len}
use Rattle.switch_machine.specs.Ready.{place_in}
use Rattle.switch_machine.proofs.ready.Resolved.places.Goals as goal

pub returns-then-range-eq1 : goal.returns-then-range-eq1
returns-then-range-eq1 c =
    ap (λ n. n ∷ []) c.place.ensures
    ∙ sym (ap (λ n. map (place_in c.args.self.now.plan.now) (range_with_len c.args.range.first n)) c.if-range-eq1.true)
