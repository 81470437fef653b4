use Rattle.std.proofs.Common.{◌≡◌, ◌∙◌, ◌+◌, add-one, ap, arith, length, refl, subst, suc, sym}
use Rattle.packet_fields.specs.declared.packet.Packet.{Packet}
use Rattle.packet_fields.specs.Shape.{shape_of}
use Rattle.switch_ir.specs.Tables.{view_of}
use Rattle.switch_machine.specs.ActivePasses.{active_in, packet_in}
use Rattle.switch_machine.specs.Keeping.{kept}
use Rattle.switch_machine.specs.Numbers.{AreHeld}
use Rattle.switch_machine.specs.Planned.{stage_done}
use Rattle.switch_machine.specs.Ready.{HoldResults}
use Rattle.switch_machine.specs.Sides.{staging}
use Rattle.switch_machine.specs.UnderWay.{held, numbers_at_last}
use Rattle.switch_machine.proofs.ActivePasses.{placed_as, same_active_pass}
use Rattle.switch_machine.proofs.PlacedSteps.{count_placed, plan_placed, step_by_place}
use Rattle.switch_machine.proofs.Laws.{a_pass_ends}
use Rattle.switch_machine.proofs.loaded_pass.LoadedPass.compute_last.Goals as goal

pub copy_numbers-requires : goal.copy_numbers-requires
copy_numbers-requires c =
    sym (c.args.self.now.are_active c.args.number c.active_pass_of-active_pass.result.now c.active_pass_of-active_pass.ensures).numbers

pub run_stage-requires-clause-can : goal.run_stage-requires-clause-can
run_stage-requires-clause-can c = rw c.stage.ensures (c.args.self.now.can (c.active_pass_of-active_pass.result.now.stage + 1))

pub run_stage-requires-clause-room : goal.run_stage-requires-clause-room
run_stage-requires-clause-room c = rw c.stage.ensures (c.args.self.now.room (c.active_pass_of-active_pass.result.now.stage + 1))

pub run_stage-requires-clause-size : goal.run_stage-requires-clause-size
run_stage-requires-clause-size c =
    let are_active = c.args.self.now.are_active c.args.number c.active_pass_of-active_pass.result.now c.active_pass_of-active_pass.ensures in
    omega (arith, are_active.size, ap (λ (q : Packet). length q.bytes) c.arrival.ensures.packet)

pub run_stage-requires-clause-shape : goal.run_stage-requires-clause-shape
run_stage-requires-clause-shape c =
    let are_active = c.args.self.now.are_active c.args.number c.active_pass_of-active_pass.result.now c.active_pass_of-active_pass.ensures in
    c.arrival.ensures.shape ∙ are_active.shape ∙ sym (ap (λ (q : Packet). shape_of q.bytes) c.arrival.ensures.packet)

pub prove-unreachable-requires : goal.prove-unreachable-requires
prove-unreachable-requires c =
    let are_active = c.args.self.now.are_active c.args.number c.active_pass_of-active_pass.result.now c.active_pass_of-active_pass.ensures in
    omega (arith, are_active.below, c.len-count.ensures, c.if-prove.true)

pub returns-clause-made : goal.returns-clause-made
returns-clause-made c = record {
  side = refl;
  stages = refl;
  ranges = refl;
  plan = rw (c.run_stage.ensures.written, plan_placed, c.copy_numbers.ensures);
  marks = refl;
}

pub returns-clause-values : goal.returns-clause-values
returns-clause-values c code found is safe there =
    let l = c.args.self.now in
    let p = staging l.side code in
    let told = c.args.tables.now in
    let f = c.active_pass_of-active_pass.result.now in
    let are_active = l.are_active c.args.number f c.active_pass_of-active_pass.ensures in
    let rs = held l.registers.plan f in
    let view = view_of f.bit told.pairs in
    let packet = packet_in f in
    let done : c.run_stage.new.registers ≡ stage_done l.numbering p.code.steps (suc f.stage) view packet rs =
    rw (c.run_stage.ensures.written, c.copy_numbers.ensures, c.arrival.ensures.packet, c.stage.ensures, add-one f.stage)
    (step_by_place l.numbering is.plan p.code.steps p.code.highest l.stages is.ready view packet rs is.planned_by
    (omega (arith, are_active.numbers, c.are_few.ensures.bounded)) (suc f.stage) (omega (arith, is.ready.count, are_active.below))) in
    same_active_pass (active_in l.active) c.args.number f found c.active_pass_of-active_pass.ensures there
    (λ x. AreHeld l.numbering c.run_stage.new.registers (numbers_at_last code told l x) (kept p))
    (rw done (a_pass_ends code l is rs refl (placed_as l.registers rs refl are_active.numbers c.are_few.ensures.placed) told safe packet f.bit f.stage
    (omega (arith, is.ready.count, c.requires.last f c.active_pass_of-active_pass.ensures))))

pub invariant_of-self : goal.invariant_of-self
invariant_of-self c =
    let l = c.args.self.now in
    record {
      can = l.can;
      room = subst (HoldResults l.stages) (sym c.run_stage.ensures.capacity) l.room;
      are_active = rw (
        c.run_stage.ensures.written,
        count_placed,
        c.copy_numbers.ensures,
        (l.are_active c.args.number c.active_pass_of-active_pass.result.now c.active_pass_of-active_pass.ensures).numbers,
      ) l.are_active;
    }
