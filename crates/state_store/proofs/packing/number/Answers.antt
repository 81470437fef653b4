use Rattle.std.proofs.Common.{◌≡◌, ◌*◌, ◌+◌, ◌%◌, ◌^◌, refl, ap₂, ◌∙◌, arith}
use Rattle.state_store.proofs.PackSteps.{of_one, of_two, one_of}
use Rattle.state_store.proofs.packing.number.Goals as goal

pub returns-then-this-eq2-clause-value : goal.returns-then-this-eq2-clause-value
returns-then-this-eq2-clause-value g c =
    let high : c.from.result * 2 ^ 64 % 2 ^ 128 ≡ c.from.result * 2 ^ 64 = omega arith in
    ap₂ (λ x y. x + y) (high ∙ ap₂ (λ x y. x * y) c.from.ensures refl) c.from-low.ensures ∙ of_two c.args.words.now g.row.N c.if-this-eq2.true c.told-words

pub returns-else-this-eq2-clause-value : goal.returns-else-this-eq2-clause-value
returns-else-this-eq2-clause-value g c =
    c.from-low.ensures ∙ of_one c.args.words.now g.row.N (one_of g.row.N c.requires.words c.if-this-eq2.false) c.told-words
