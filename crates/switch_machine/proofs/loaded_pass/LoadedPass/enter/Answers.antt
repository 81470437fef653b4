use Rattle.std.proofs.Common.{◌≡◌, ◌∙◌, Bool, Option, Some, ap, arith, length, refl, subst, sym}
use Rattle.packet_fields.specs.declared.packet.Packet.{Packet}
use Rattle.flat_ir.specs.Plan.{RegisterPlan}
use Rattle.flat_ir.specs.Registers.{packet_of}
use Rattle.transfer_header.specs.Registers.{Registers}
use Rattle.switch_ir.specs.Staged.{IsEntered}
use Rattle.switch_ir.specs.Tables.{seen_tables}
use Rattle.switch_machine.specs.ActivePasses.{active_in, numbers_in, IsBegun}
use Rattle.switch_machine.specs.Planned.{stage_done}
use Rattle.switch_machine.specs.Ready.{HoldResults}
use Rattle.switch_machine.specs.Sides.{staging}
use Rattle.switch_machine.specs.UnderWay.{held, passes_by, shown}
use Rattle.switch_machine.proofs.ActivePasses.{entered_as, passes_changed, tried_active}
use Rattle.std.proofs.lemmas.Result.{on_ok_weaker}
use Rattle.switch_machine.proofs.PlacedSteps.{count_placed, plan_placed, step_by_place}
use Rattle.switch_machine.proofs.Laws.{a_pass_enters}
use Rattle.switch_machine.proofs.loaded_pass.LoadedPass.enter.Goals as goal

pub run_stage-requires-clause-can : goal.run_stage-requires-clause-can
run_stage-requires-clause-can c = rw c.stage.ensures (c.args.self.now.can 0)

pub run_stage-requires-clause-room : goal.run_stage-requires-clause-room
run_stage-requires-clause-room c = rw c.stage.ensures (c.args.self.now.room 0)

pub returns-clause-made : goal.returns-clause-made
returns-clause-made c = record { side = refl; stages = refl; ranges = refl; plan = rw (c.run_stage.ensures.written, plan_placed); marks = refl }

pub returns-in_err-active_pass-clause-made : goal.returns-in_err-active_pass-clause-made
returns-in_err-active_pass-clause-made c = record { side = refl; stages = refl; ranges = refl; plan = rw (c.run_stage.ensures.written, plan_placed); marks = refl }

pub returns-clause-enters : goal.returns-clause-enters
returns-clause-enters c code is safe =
    let l = c.args.self.now in
    let p = staging l.side code in
    let told = c.args.tables.now in
    let packet = packet_of c.args.arrival.now in
    let f = c.in_ok-active_pass.active_pass in
    let after = c.run_stage.new.registers in
    let seen = seen_tables told in
    let plan_is : after.plan ≡ l.registers.plan = rw (c.run_stage.ensures.written, plan_placed) in
    let begun = subst (λ (bit : Bool). IsBegun packet bit after.numbers f) c.bit.ensures c.in_ok-active_pass.ensures in
    let same : after ≡ stage_done l.numbering p.code.steps 0 seen packet l.registers =
    rw (c.run_stage.ensures.written, c.as_seen.ensures, c.stage.ensures)
    (step_by_place l.numbering is.plan p.code.steps p.code.highest l.stages is.ready seen packet l.registers is.planned_by c.are_few.ensures.bounded 0 (omega arith)) in
    let own : held l.registers.plan f ≡ stage_done l.numbering p.code.steps 0 seen packet l.registers =
    (λ i. record { plan = sym plan_is i; numbers = begun.numbers_are i }) ∙ same in
    on_ok_weaker c.put_in.result
    (λ put. (
      shown p l.numbering l.registers.plan f,
      λ given begin. entered_as p l.numbering l.registers.plan given packet told after.numbers f begun
          (subst (λ (rs : Registers). IsEntered p given seen packet (numbers_in p l.numbering 0 rs)) (sym own)
          (a_pass_enters code l is l.registers refl c.are_few.ensures.placed told safe packet given begin)),
      ap (λ (plan : Option RegisterPlan). passes_by p l.numbering plan (active_in c.put_in.new.active)) plan_is
          ∙ passes_changed p l.numbering l.registers.plan (active_in l.active) (active_in c.put_in.new.active) c.args.number (Some f) put,
    ))
    c.put_in.ensures.put

pub invariant_of-self : goal.invariant_of-self
invariant_of-self c =
    let l = c.args.self.now in
    record {
      can = l.can;
      room = subst (HoldResults l.stages) (sym c.run_stage.ensures.capacity) l.room;
      are_active = rw (c.run_stage.ensures.written, count_placed) l.are_active;
    }

pub invariant_of-self-2 : goal.invariant_of-self-2
invariant_of-self-2 c =
    let l = c.args.self.now in
    let after = c.run_stage.new.registers in
    let begun = c.in_ok-active_pass.ensures in
    record {
      can = l.can;
      room = subst (HoldResults l.stages) (sym c.run_stage.ensures.capacity) l.room;
      are_active = tried_active (length l.stages) (length after.numbers) (active_in l.active) (active_in c.put_in.new.active) c.args.number c.in_ok-active_pass.active_pass c.put_in.result
          c.put_in.ensures.put c.put_in.ensures.err
          (record {
            size = omega (arith, c.requires.size, ap (λ (q : Packet). length q.bytes) begun.packet_is);
            shape = begun.shape_is;
            numbers = ap length begun.numbers_are;
            below = omega (arith, begun.stage_is, c.requires.left);
          })
          (rw (c.run_stage.ensures.written, count_placed) l.are_active);
    }
