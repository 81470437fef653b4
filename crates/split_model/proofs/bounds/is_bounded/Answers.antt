use Rattle.std.proofs.Common.{◌∙◌, ◌≤◌, List, sym, subst, arith, All}
use Rattle.std.proofs.lemmas.Bool.{false≢true, leb-true}
use Rattle.std.proofs.lemmas.List.{length-map}
use Rattle.state_store.specs.declared.object.ObjectDecl.{ObjectDecl}
use Rattle.flat_ir.specs.Program.{step_of}
use Rattle.split_model.specs.Bounds.{IsSmall}
use Rattle.split_model.proofs.bounds.is_bounded.Goals as goal
use Rattle.split_model.proofs.bounds.is_bounded.Goals.{then-is_well_formed, else-is_well_formed, then-len-le4096, else-len-le4096}

pub returns-then-len-le64 : goal.returns-then-len-le64
returns-then-len-le64 c =
    let f = c.args.f.now in
    let count = length-map f.code step_of in
    elim c.if-len-le4096.branch [
      | then-len-le4096 w ↦ elim c.if-is_well_formed.branch [
        | then-is_well_formed u ↦
            let few : u.len.result ≤ 4096 = leb-true u.len.result 4096 (sym u.value-is ∙ w.if-len-le4096.true) in
            let objects : w.len-then-len-le4096.result ≤ 64 = leb-true w.len-then-len-le4096.result 64 (sym w.value-is ∙ c.if-len-le64.true) in (
              λ t. record {
                formed = c.is_well_formed.ensures.0 u.if-is_well_formed.true;
                few = omega arith;
                objects = omega arith;
                small = subst (λ (ds : List ObjectDecl). All IsSmall ds) c.as_slice.ensures (c.are_small.ensures.0 t);
              },
              λ b. c.are_small.ensures.1 (subst (λ (ds : List ObjectDecl). All IsSmall ds) (sym c.as_slice.ensures) b.small),
            )
        | else-is_well_formed u ↦ absurd (false≢true (sym u.if-is_well_formed.false ∙ sym u.value-is ∙ w.if-len-le4096.true))
      ]
      | else-len-le4096 w ↦ absurd (false≢true (sym w.if-len-le4096.false ∙ sym w.value-is ∙ c.if-len-le64.true))
    ]
