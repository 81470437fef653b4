use Rattle.std.proofs.Common.{◌≡◌, ◌∙◌, None, Some, ap, false, subst, suc, sym, true}
use Rattle.std.specs.Prelude.{nat_lt, IsSome}
use Rattle.switch_ir.specs.Code.{code_of, Code}
use Rattle.switch_ir.specs.UnderWay.{HasGoneOn, Passes, PassState}
use Rattle.switch_ir.specs.declared.port.UpEnd.{UpEnd}
use Rattle.switch_machine.specs.ActivePasses.{with_pass}
use Rattle.switch_machine.specs.Kept.{KeepsTables}
use Rattle.switch_machine.specs.Sides.{staging, IsOf}
use Rattle.switch_machine.specs.UnderWay.{passes_on, Puts, Stages, Steps}
use Rattle.lemmas.proofs.Tests.{value_of_some}
use Rattle.switch_machine.proofs.LoadedCode.{stays_both}
use Rattle.switch_machine.proofs.LeftByCalls.{going_is, going_left, settles_last}
use Rattle.switch_machine.proofs.loaded.Loaded.stage.Goals as goal

pub go_on-requires-clause-safe : goal.go_on-requires-clause-safe
go_on-requires-clause-safe c = subst (λ (code : Code). KeepsTables code c.args.tables.now) (sym c.next.ensures.stays.code) c.requires.safe

pub go_on-requires-clause-has_pass : goal.go_on-requires-clause-has_pass
go_on-requires-clause-has_pass c = subst (λ (passes : Passes). IsSome (passes c.args.number)) (sym c.next.ensures.passes) c.requires.has_pass

pub go_on-requires-clause-left : goal.go_on-requires-clause-left
go_on-requires-clause-left c before there =
    let steps = c.in_ok-end.ensures.steps before (ap (λ (passes : Passes). passes c.args.number) (sym c.next.ensures.passes) ∙ there) in
    subst (λ (code : Code). nat_lt (suc before.stage) (staging c.args.side code).code.highest ≡ true) (sym c.next.ensures.stays.code)
    (going_left c.in_ok-end.end _ (sym c.is_going.ensures ∙ c.if-is_going.true) steps.goes)

pub returns-then-is_going-clause-stays : goal.returns-then-is_going-clause-stays
returns-then-is_going-clause-stays c = stays_both c.args.side c.args.self.now c.next.new.self c.go_on.new.self c.next.ensures.stays c.go_on.ensures.stays

pub returns-then-is_going-clause-stages : goal.returns-then-is_going-clause-stages
returns-then-is_going-clause-stages c =
    let side = c.args.side in
    let number = c.args.number in
    let told = c.args.tables.now in
    let code = code_of c.args.self.now.code in
    let going = going_is c.in_ok-end.end (sym c.is_going.ensures ∙ c.if-is_going.true) in
    let Put : Code × Passes → Type 0 =
    λ (x, ps). Puts number (λ pass. (before : PassState) → ps number ≡ Some before → HasGoneOn (staging side x) (Some told) before pass) ps (passes_on side c.go_on.new.self) in
    record {
      settles = subst Put (λ i. (c.next.ensures.stays.code i, c.next.ensures.passes i)) c.go_on.ensures.goes_on;
      ends = λ before there. subst (Steps side code told number before) going (c.in_ok-end.ensures.steps before there);
    }

pub note-requires : goal.note-requires
note-requires c =
    let found = value_of_some (passes_on c.args.side c.args.self.now c.args.number) c.requires.has_pass in
    (c.in_ok-end.ensures.steps found.0 found.1).of

pub returns-clause-stays : goal.returns-clause-stays
returns-clause-stays c = stays_both c.args.side c.args.self.now c.next.new.self c.remove.new.self c.next.ensures.stays c.remove.ensures.stays

pub returns-clause-stages : goal.returns-clause-stages
returns-clause-stages c =
    let side = c.args.side in
    let number = c.args.number in
    let told = c.args.tables.now in
    let code = code_of c.args.self.now.code in
    let old = passes_on side c.args.self.now in
    let new = passes_on side c.remove.new.self in
    subst (λ (end : UpEnd). Stages side code told number end old new) (sym c.in_ok-same.ensures.end) (record {
      settles = settles_last number (λ pass. (before : PassState) → old number ≡ Some before → HasGoneOn (staging side code) (Some told) before pass) old new
          c.in_ok-end.end (sym c.is_going.ensures ∙ c.if-is_going.false) (c.remove.ensures.passes ∙ ap (with_pass number None) c.next.ensures.passes);
      ends = λ before there. c.in_ok-end.ensures.steps before there;
    })

pub returns-clause-side : goal.returns-clause-side
returns-clause-side c =
    let found = value_of_some (passes_on c.args.side c.args.self.now c.args.number) c.requires.has_pass in
    subst (IsOf c.args.side) (sym c.in_ok-same.ensures.end) (c.in_ok-end.ensures.steps found.0 found.1).of
