use Rattle.std.proofs.Common.{◌≡◌, ◌∙◌, ◌+◌, ◌<◌, [], refl, ap, sym, subst, arith, true, false, length, get_or, take, replicate}
use Rattle.flat_ir.specs.declared.program.ValueId.{ValueId}
use Rattle.flat_ir.specs.Program.{program_of, is_among}
use Rattle.dependence.proofs.PlacedCode.{as_many}
use Rattle.dependence.proofs.GuardMarks.{AreMarkedFor, none_marked, is_there, one_marked, all_marked}
use Rattle.dependence.proofs.guard.guards.Goals as goal

pub loop-value-init : goal.loop-value-init
loop-value-init c =
    let f = program_of c.args.f.now in
    let n = as_many c.args.f.now c.args.f.now.code refl in
    subst (AreMarkedFor f []) (sym (c.in_ok-guards.ensures ∙ ap (λ m. replicate m false) (c.len.ensures ∙ n))) (none_marked f)

pub set-requires : goal.set-requires
set-requires c =
    let items = c.deref-value-items.result.now in
    let v : ValueId = record { instruction = 0; result = 0 } in
    let i = c.loop-value.value-index in
    let within : i < length items = omega arith in
    let w = get_or items i v in
    let among = subst (λ vs. is_among w vs ≡ true) c.deref-value-items.ensures.value (is_there items i v within) in
    let inside = c.in_ok-found.ensures.inside w among in
    let n = as_many c.args.f.now c.args.f.now.code refl in
    let count = c.loop-value.invariant.count in
    omega (arith, inside, count, n)

pub loop-value-preserved : goal.loop-value-preserved
loop-value-preserved c =
    let f = program_of c.args.f.now in
    let items = c.deref-value-items.result.now in
    let v : ValueId = record { instruction = 0; result = 0 } in
    let i = c.loop-value.value-index in
    let guards = c.loop-value.guards in
    let within : i < length items = omega arith in
    let w = get_or items i v in
    let among = subst (λ vs. is_among w vs ≡ true) c.deref-value-items.ensures.value (is_there items i v within) in
    let n = as_many c.args.f.now c.args.f.now.code refl in
    let inside = subst (λ m. w.instruction < m) n (c.in_ok-found.ensures.inside w among) in
    subst (AreMarkedFor f (take (i + 1) items)) (sym c.set.ensures)
    (one_marked f items i v guards within (sym (c.in_ok-found.ensures.exact w) ∙ among) inside c.loop-value.invariant)

pub returns : goal.returns
returns c =
    let items = c.deref-value-items.result.now in
    all_marked (program_of c.args.f.now) items c.loop-value.value-index c.loop-value.guards c.loop-value-test.false
    (λ v. ap (is_among v) c.deref-value-items.ensures.value ∙ c.in_ok-found.ensures.exact v) c.loop-value.invariant
