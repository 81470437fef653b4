use Rattle.std.proofs.Common.{◌∙◌, IfOk, List, ap, arith, false, subst, suc, sym}
use Rattle.std.proofs.lemmas.Bool.{le-ltb, lt-ltb}
use Rattle.packet_fields.specs.declared.packet.Packet.{Packet}
use Rattle.transfer_header.specs.Registers.{Registers}
use Rattle.switch_ir.specs.Code.{code_of}
use Rattle.switch_ir.specs.Port.{IsUpFrame}
use Rattle.switch_ir.specs.UnderWay.{GoesUp, PassState}
use Rattle.switch_ir.specs.declared.port.UpEnd.TheVariants.{Going}
use Rattle.switch_machine.specs.declared.numbering.ValueRange.{ValueRange}
use Rattle.switch_machine.specs.declared.sides.Side.{Side}
use Rattle.switch_machine.specs.ActivePasses.{active_in}
use Rattle.switch_machine.specs.Keeping.{kept}
use Rattle.switch_machine.specs.Numbers.{AreHeld}
use Rattle.switch_machine.specs.Sides.{staging, EndsOn}
use Rattle.switch_machine.specs.UnderWay.{numbers_at_last, HasEnd, Steps}
use Rattle.switch_machine.proofs.LoadedCode.{both_stay, pass_stays}
use Rattle.switch_machine.proofs.PassEnds.{going_ends, is_of}
use Rattle.switch_machine.proofs.ActivePasses.{ended_as, shown_as}
use Rattle.lemmas.proofs.Tests.{value_of_some}
use Rattle.std.proofs.lemmas.Result.{IfOk-weaker}
use Rattle.switch_machine.proofs.loaded_pass.LoadedPass.next.Goals as goal

-- ## It has stages left

pub returns-then-has_stages_left-clause-steps : goal.returns-then-has_stages_left-clause-steps
returns-then-has_stages_left-clause-steps c before told =
    let l = c.args.self.now in
    let code = code_of c.args.code.now in
    let f = value_of_some (active_in l.active c.args.number) c.requires.has_pass in
    let is = shown_as (staging l.side code) l.numbering l.registers.plan (active_in l.active) c.args.number f.0 before f.1 told in
    record {
      goes = lt-ltb (suc before.stage) (staging l.side code).code.highest
          (omega (arith, ap (λ (b : PassState). b.stage) is, c.has_stages_left.ensures.left c.if-has_stages_left.true f.0 f.1, c.requires.pass.ready.count));
      of = is_of l.side Going tt;
      frame = tt;
      told = λ tables own is are. going_ends l.side code _ c.args.number before.packet;
    }

-- ## It takes its last stage

pub compute_last-requires-clause-last : goal.compute_last-requires-clause-last
compute_last-requires-clause-last c = c.has_stages_left.ensures.last c.if-has_stages_left.false

pub leaves_work-leaves-requires : goal.leaves_work-leaves-requires
leaves_work-leaves-requires c = pass_stays (code_of c.args.code.now) c.compute_last.ensures.made c.requires.pass

pub returns-clause-steps : goal.returns-clause-steps
returns-clause-steps c before told =
    let l = c.args.self.now in
    let marks = c.leaves_work-leaves.ensures in
    let code = code_of c.args.code.now in
    let tables = c.args.tables.now in
    let p = staging l.side code in
    let f = c.active_pass_of-active_pass.result.now in
    let there = sym (ap (λ active. active_in active c.args.number) (marks.active ∙ c.compute_last.ensures.active)) ∙ c.active_pass_of-active_pass.ensures in
    let is = shown_as p l.numbering l.registers.plan (active_in l.active) c.args.number f before there told in
    let none = le-ltb (suc before.stage) p.code.highest
    (omega (arith, ap (λ (b : PassState). b.stage) is, c.has_stages_left.ensures.last c.if-has_stages_left.false f there, c.requires.pass.ready.count)) in
    let made = both_stay c.compute_last.ensures.made marks.made in
    let reads = numbers_at_last code tables l f in
    let Holds : List ValueRange × Registers × Side → Type 0 = λ (ranges, rs, s). AreHeld ranges rs reads (kept (staging s code)) in
    let held = subst Holds (λ i. (sym marks.made.ranges i, sym marks.registers i, sym made.side i)) (c.compute_last.ensures.values code f c.requires.pass c.requires.safe there) in
    let HasIts : Side × Packet → Type 0 =
    λ (s, q). IfOk c.end.result (HasEnd s code c.args.number q false (EndsOn s code reads c.args.number q)) in
    IfOk-weaker c.end.result _ (Steps l.side code tables c.args.number before)
    (λ end h. record {
      goes = subst (λ left. GoesUp left end) (sym none) h.goes;
      of = h.of;
      frame = subst (λ (q : Packet). IsUpFrame code c.args.number q.port q.bytes end) (ap (λ (b : PassState). b.packet) is) h.frame;
      told = ended_as p l.numbering l.registers.plan tables f before (λ b numbers. EndsOn l.side code numbers c.args.number b.packet end) is h.told;
    })
    (subst HasIts (λ i. (made.side i, c.arrival.ensures.packet i)) (c.end.ensures.ends reads held))
