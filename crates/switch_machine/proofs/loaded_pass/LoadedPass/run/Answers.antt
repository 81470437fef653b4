use Rattle.std.proofs.Common.{◌≡◌, ◌∙◌, ap, length, refl, subst, suc, sym}
use Rattle.flat_ir.specs.Registers.{packet_of}
use Rattle.transfer_header.specs.Registers.{Registers}
use Rattle.switch_ir.specs.Tables.{seen_tables}
use Rattle.switch_machine.specs.Planned.{registers_at}
use Rattle.switch_machine.specs.Ready.{HoldResults}
use Rattle.switch_machine.specs.Sides.{staging}
use Rattle.switch_machine.proofs.PlacedSteps.{count_placed_at, plan_placed_at, pass_by_place}
use Rattle.switch_machine.proofs.Laws.{a_pass_is_computed}
use Rattle.switch_machine.proofs.loaded_pass.LoadedPass.run.Goals as goal

pub returns-clause-made : goal.returns-clause-made
returns-clause-made c =
    let l = c.args.self.now in
    record {
      side = refl;
      stages = refl;
      ranges = refl;
      plan = ap (λ (rs : Registers). rs.plan) c.run_pass.ensures.written
          ∙ plan_placed_at l.stages _ (packet_of c.args.arrival.now) l.registers (length l.stages);
      marks = refl;
    }

pub returns-clause-values : goal.returns-clause-values
returns-clause-values c code given is safe begin =
    let l = c.args.self.now in
    let p = staging l.side code in
    let told = c.args.tables.now in
    let packet = packet_of c.args.arrival.now in
    let done : c.run_pass.new.registers ≡ registers_at l.numbering p.code (seen_tables told) packet l.registers (suc p.code.highest) =
    rw (c.run_pass.ensures.written, c.as_seen.ensures)
    (pass_by_place l.numbering is.plan p.code l.stages is.ready (seen_tables told) packet l.registers is.planned_by c.are_few.ensures.bounded) in
    rw done (a_pass_is_computed code l is l.registers refl c.are_few.ensures.placed told safe packet given begin)

pub invariant_of-self : goal.invariant_of-self
invariant_of-self c =
    let l = c.args.self.now in
    record {
      can = l.can;
      room = subst (HoldResults l.stages) (sym c.run_pass.ensures.capacity) l.room;
      are_active = rw (ap (λ (rs : Registers). length rs.numbers) c.run_pass.ensures.written
          ∙ count_placed_at l.stages _ (packet_of c.args.arrival.now) l.registers (length l.stages)) l.are_active;
    }
