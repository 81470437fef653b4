use Rattle.std.proofs.Common.{◌≡◌, ◌<◌, ◌≤◌, ℕ, Option, Some, None, IfSome, length, refl, sym, subst, ap, arith, ◌∙◌}
use Rattle.std.specs.List.{slice_get}
use Rattle.std.proofs.lemmas.Bool.{ltb-true}
use Rattle.std.proofs.lemmas.Option.{slice_get_read}
use Rattle.slot_table.specs.Table.{Contents, Table}
use Rattle.flat_ir.specs.Plan.{register_in, AreBelow}
use Rattle.flat_ir.proofs.reg_plan.RegPlan.register.Goals as goal

-- a register that was found is below their number
below : (rows : Contents) (count most value : ℕ) (found : Option ℕ) → AreBelow rows count → count ≤ most
    → found ≡ register_in rows value → IfSome found (λ register. register < most)
below rows count most value None all few is = tt
below rows count most value (Some register) all few is = let lt = all value register (sym is) in omega (arith, lt, few)

pub register_in-requires : goal.register_in-requires
register_in-requires c = λ value register e.
    let found = ap (λ (t : Table). register_in t.rows value) (sym c.deref-in-None.ensures) ∙ e in
    let lt = c.self.invariant.0 value register found in omega (arith, lt, c.self.invariant.1)

pub returns-in-Some-clause-below : goal.returns-in-Some-clause-below
returns-in-Some-clause-below c =
    let kept = c.self.inside.first.items in
    let found : slice_get kept c.args.value ≡ Some c.in-Some.register.now =
    subst (λ items. slice_get items c.args.value ≡ Some c.in-Some.register.now) c.deref.ensures.value
    (slice_get_read c.deref.result.now (length c.deref.result.now) c.args.value c.in-Some.register.now refl
    (ltb-true c.args.value (length c.deref.result.now) (sym c.in-Some.ensures.lookup.0)) c.in-Some.ensures.lookup.1) in
    below c.self.inside.registers.value.rows c.self.inside.count c.args.self.now.count c.args.value c.in-Some.register.now
    c.self.invariant.0 (omega (arith, ap (λ p. p.count) c.self.view_is)) (c.self.invariant.2 c.args.value c.in-Some.register.now found)
