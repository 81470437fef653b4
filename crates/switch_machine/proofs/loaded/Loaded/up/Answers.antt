use Rattle.std.proofs.Common.{◌∙◌, IfOk, refl, subst}
use Rattle.packet_fields.specs.declared.packet.Packet.{Packet}
use Rattle.flat_ir.specs.Blocks.{nothing}
use Rattle.switch_ir.specs.Code.{code_of}
use Rattle.switch_ir.specs.UnderWay.{Passes}
use Rattle.switch_machine.specs.declared.sides.Side.{Side}
use Rattle.switch_machine.specs.declared.sides.Side.TheVariants.{Before}
use Rattle.switch_machine.specs.UnderWay.{passes_of, Enters}
use Rattle.switch_machine.proofs.LoadedCode.{both_stay, nothing_given, passes_stay, made_stays, pass_is, pass_stays}
use Rattle.std.proofs.lemmas.Result.{on_err_weaker}
use Rattle.switch_machine.proofs.loaded.Loaded.up.Goals as goal

pub begin-requires-clause-pass : goal.begin-requires-clause-pass
begin-requires-clause-pass c = pass_stays (code_of c.args.self.now.code) c.clear.ensures.made (pass_is Before c.args.self.now)

pub returns-clause-stays : goal.returns-clause-stays
returns-clause-stays c = record { code = refl; other = refl }

pub returns-clause-enters : goal.returns-clause-enters
returns-clause-enters c =
    let l = c.args.self.now in
    let code = code_of l.code in
    let packet : Packet = record { port = c.args.port; bytes = c.args.packet.now } in
    let side = c.clear.ensures.made.side ∙ l.pre.side_is in
    let same = passes_stay code c.clear.ensures.made c.clear.ensures.active in
    let Is : Side × Passes → Type 0 =
    λ (s, ps). IfOk c.begin.result (λ end. Enters s code c.args.tables.now c.args.whole c.args.number packet nothing end ps (passes_of code c.begin.new.self)) in
    subst Is (λ i. (side i, same i)) (c.begin.ensures.enters nothing (nothing_given code c.clear.new.self c.clear.ensures.contents))

pub returns-clause-err : goal.returns-clause-err
returns-clause-err c =
    on_err_weaker c.begin.result (λ same. same ∙ passes_stay (code_of c.args.self.now.code) c.clear.ensures.made c.clear.ensures.active) c.begin.ensures.err

pub invariant_of-self-clause-pre : goal.invariant_of-self-clause-pre
invariant_of-self-clause-pre c =
    let l = c.args.self.now in
    made_stays Before (code_of l.code) l.code.pre.plan (both_stay c.clear.ensures.made c.begin.ensures.made) l.pre
