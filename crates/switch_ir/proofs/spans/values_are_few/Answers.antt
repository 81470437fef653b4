use Rattle.std.proofs.Common.{◌≤◌, ◌∙◌, length, subst, arith}
use Rattle.std.proofs.lemmas.List.{take_all}
use Rattle.std.proofs.lemmas.List.Elements.{All-more}
use Rattle.state_store.specs.declared.object.ObjectDecl.{ObjectDecl}
use Rattle.switch_ir.specs.LastReads.{HaveFewValues}
use Rattle.switch_ir.proofs.spans.values_are_few.Goals as goal

pub loop-object-preserved : goal.loop-object-preserved
loop-object-preserved c =
    let items = c.as_slice-object-items.result.now in
    let x = c.object-item.result in
    All-more (λ (d : ObjectDecl). length d.values ≤ 8) items c.loop-object.object-index x c.loop-object-test.true c.loop-object.invariant
    (subst (λ (d : ObjectDecl). length d.values ≤ 8) c.object-item.is (omega (arith, c.len-few.ensures.small)))

pub returns : goal.returns
returns c =
    let items = c.as_slice-object-items.result.now in
    subst HaveFewValues (take_all c.loop-object.object-index items (omega arith) ∙ c.as_slice-object-items.ensures) c.loop-object.invariant
