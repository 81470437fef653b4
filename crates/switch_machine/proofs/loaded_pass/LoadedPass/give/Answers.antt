use Rattle.std.proofs.Common.{◌≡◌, ◌∙◌, [], ap, arith, refl}
use Rattle.flat_ir.specs.Blocks.{nothing}
use Rattle.flat_ir.specs.Registers.{packet_of}
use Rattle.transfer_header.specs.Steps.{pairs_written}
use Rattle.switch_ir.specs.Code.{code_of}
use Rattle.switch_machine.specs.Numbers.{stage_gives}
use Rattle.switch_machine.specs.Ready.{all_placed}
use Rattle.switch_machine.specs.Staged.{of_stage}
use Rattle.switch_machine.proofs.PlacedSteps.{count_placed, plan_placed, given_is, stage_by_place}
use Rattle.switch_machine.proofs.Laws.{what_is_given}
use Rattle.switch_machine.proofs.loaded_pass.LoadedPass.give.Goals as goal

pub run_steps-requires-clause-can : goal.run_steps-requires-clause-can
run_steps-requires-clause-can c = rw (c.steps.ensures ∙ c.stage.ensures) (c.requires.given.can c.requires.pass.can.given 0 (omega arith))

pub returns-clause-made : goal.returns-clause-made
returns-clause-made c = record {
  side = refl;
  stages = refl;
  ranges = refl;
  plan = rw (c.run_steps.ensures.written, plan_placed);
  marks = refl;
}

pub returns-clause-given : goal.returns-clause-given
returns-clause-given c =
    let l = c.args.self.now in
    let code = code_of c.args.code.now in
    let registers = l.registers in
    let packet = packet_of c.args.arrival.now in
    let given = code.post.given in
    let gives = stage_gives l.numbering (of_stage 0 given) nothing [] packet in
    let same : c.run_steps.new.registers ≡ pairs_written registers gives =
    c.run_steps.ensures.written
    ∙ ap (all_placed registers) (given_is c.args.given.now packet c.none-none.result c.none-none.ensures c.steps.result.now (c.steps.ensures ∙ c.stage.ensures))
    ∙ stage_by_place l.numbering c.args.code.now.post.plan given 0 c.args.given.now c.requires.given [] packet registers c.requires.planned
    c.are_few.ensures.bounded 0 (omega arith) nothing in
    rw (c.requires.side, same) (what_is_given code l c.requires.pass registers refl c.are_few.ensures.placed c.requires.side packet)

pub invariant_of-self-clause-are_active : goal.invariant_of-self-clause-are_active
invariant_of-self-clause-are_active c =
    rw (c.run_steps.ensures.written, count_placed) c.args.self.now.are_active
