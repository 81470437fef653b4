use Rattle.std.proofs.Common.{◌≡◌, ◌∙◌, Some, ap, arith, length, refl, subst, suc, sym}
use Rattle.std.specs.Option.{option_copied_mut}
use Rattle.transfer_header.specs.Registers.{Registers}
use Rattle.packet_fields.specs.Shape.{shape_of}
use Rattle.switch_ir.specs.Staged.{IsStaged}
use Rattle.switch_ir.specs.Tables.{view_of}
use Rattle.switch_ir.specs.UnderWay.{HasGoneOn, PassState}
use Rattle.switch_machine.specs.declared.active_pass.ActivePass.{ActivePass}
use Rattle.switch_machine.specs.ActivePasses.{active_in, numbers_in, packet_in}
use Rattle.switch_machine.specs.Planned.{stage_done}
use Rattle.switch_machine.specs.Ready.{reads_at, ready_at, ready_gives, HoldResults}
use Rattle.switch_machine.specs.Sides.{staging}
use Rattle.switch_machine.specs.UnderWay.{held, shown}
use Rattle.switch_machine.proofs.ActivePasses.{gone_as, held_placed, passes_changed, placed_as, put_active, shown_as, with_update}
use Rattle.switch_machine.proofs.PlacedSteps.{count_placed, step_by_place}
use Rattle.switch_machine.proofs.Laws.{a_pass_goes_on}
use Rattle.switch_machine.proofs.loaded_pass.LoadedPass.go_on.Goals as goal

pub step-requires : goal.step-requires
step-requires c =
    let l = c.args.self.now in
    let are_active = l.are_active c.args.number c.in-Some.active_pass.now (sym c.get_mut.ensures.value ∙ ap option_copied_mut c.in-Some.is) in
    record { can = l.can; within = are_active.below; size = are_active.size; shape = are_active.shape; room = l.room }

pub returns-clause-made : goal.returns-clause-made
returns-clause-made c = record { side = refl; stages = refl; ranges = refl; plan = refl; marks = refl }

pub returns-clause-goes_on : goal.returns-clause-goes_on
returns-clause-goes_on c code is safe =
    let l = c.args.self.now in
    let p = staging l.side code in
    let plan = l.registers.plan in
    let told = c.args.tables.now in
    let f = c.in-Some.active_pass.now in
    let g = c.step.new.self in
    let there = sym c.get_mut.ensures.value ∙ ap option_copied_mut c.in-Some.is in
    let are_active = l.are_active c.args.number f there in
    let rs = held plan f in
    let view = view_of f.bit told.pairs in
    let packet = packet_in f in
    let steps = c.step.ensures.steps in
    let own : held plan g ≡ stage_done l.numbering p.code.steps (suc f.stage) view packet rs =
    held_placed plan f g (ready_gives (ready_at l.stages (suc f.stage)) (reads_at rs.numbers) view packet) (ap (λ (x : ActivePass). x.registers.numbers) steps)
    ∙ step_by_place l.numbering is.plan p.code.steps p.code.highest l.stages is.ready view packet rs is.planned_by
    (omega (arith, are_active.numbers, c.are_few.ensures.bounded)) (suc f.stage) (omega (arith, is.ready.count, are_active.below)) in
    let staged = subst (λ (x : Registers). IsStaged p (suc f.stage) (numbers_in p l.numbering f.stage rs) view packet (numbers_in p l.numbering (suc f.stage) x)) (sym own)
    (a_pass_goes_on code l is rs refl (placed_as l.registers rs refl are_active.numbers c.are_few.ensures.placed) told safe packet f.bit f.stage) in (
      shown p l.numbering plan g,
      λ before told_is. subst (λ (b : PassState). HasGoneOn p (Some told) b (shown p l.numbering plan g))
          (shown_as p l.numbering plan (active_in l.active) c.args.number f before there told_is)
          (gone_as p l.numbering plan told f g (ap packet_in steps) (ap (λ (x : ActivePass). x.bit) steps) (ap (λ (x : ActivePass). x.stage) steps) staged),
      passes_changed p l.numbering plan (active_in l.active) (active_in (c.get_mut.follows.lender g)) c.args.number (Some g)
          (with_update l.active (c.get_mut.follows.lender g) c.args.number (Some g) ((c.get_mut.follows.holds g).3 c.requires.has_pass).0),
    )

pub invariant_of-self : goal.invariant_of-self
invariant_of-self c =
    let l = c.args.self.now in
    let f = c.in-Some.active_pass.now in
    let g = c.step.new.self in
    let there = sym c.get_mut.ensures.value ∙ ap option_copied_mut c.in-Some.is in
    let are_active = l.are_active c.args.number f there in
    let steps = c.step.ensures.steps in
    record {
      can = l.can;
      room = subst (HoldResults l.stages) (sym c.step.ensures.capacity) l.room;
      are_active = put_active (length l.stages) (length l.registers.numbers) (active_in l.active) (active_in (c.get_mut.follows.lender g)) c.args.number g
          (with_update l.active (c.get_mut.follows.lender g) c.args.number (Some g) ((c.get_mut.follows.holds g).3 c.requires.has_pass).0)
          (record {
            size = omega (arith, are_active.size, ap (λ (x : ActivePass). length x.packet) steps);
            shape = ap (λ (x : ActivePass). x.shape) steps ∙ are_active.shape ∙ sym (ap (λ (x : ActivePass). shape_of x.packet) steps);
            numbers = ap (λ (x : ActivePass). length x.registers.numbers) steps
                ∙ count_placed f.registers (ready_gives (ready_at l.stages (suc f.stage)) (reads_at f.registers.numbers) (view_of f.bit c.args.tables.now.pairs) (packet_in f))
                ∙ are_active.numbers;
            below = omega (arith, ap (λ (x : ActivePass). x.stage) steps, c.requires.left f there);
          }) l.are_active;
    }
