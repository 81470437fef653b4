-- Passes, and the code of a switch, as plain data.
use Rattle.std.specs.Prelude.{ℕ, List, map}
use Rattle.flat_ir.specs.declared.program.ValueId.{ValueId}
use Rattle.flat_ir.specs.declared.program.Block.{Block}
use Rattle.flat_ir.specs.declared.program.FieldValue.{FieldValue}
use Rattle.flat_ir.specs.Program.{Work, work_of}
use Rattle.split_model.specs.declared.layout.Crossing.{Crossing}
use Rattle.switch_ir.specs.declared.code.PassStep.{PassStep}
use Rattle.switch_ir.specs.declared.code.Pass.{Pass}
use Rattle.switch_ir.specs.declared.code.Table.{Table}

-- an instruction of a pass: its number in the flat program, its stage, the number of its first value, and what it does
pub record Step : Type 0 where
  pub instruction : ℕ
  pub stage : ℕ
  pub first : ℕ
  pub work : Work

pub record PassCode : Type 0 where
  pub steps : List Step
  -- the consts and fields that the pass reads and is given beside what is handed to it
  pub given : List Step
  pub blocks : List Block
  -- the blocks in which the pass leaves work to others
  pub rest : List ℕ
  pub send : ValueId
  pub port : ValueId
  -- the fields that the pass sets
  pub fields : List FieldValue
  pub highest : ℕ

pub record Code : Type 0 where
  pub pre : PassCode
  pub post : PassCode
  pub up : List Crossing
  pub down : List Crossing
  pub tables : List Table
  pub writeback : ℕ
  -- how many values the flat program has
  pub values : ℕ

-- ## What the Rust values stand for

abbrev pub pass_step_of : PassStep → Step
pass_step_of s = record { instruction = s.instruction; stage = s.stage; first = s.first; work = work_of s.kind }

abbrev pub pass_of : Pass → PassCode
pass_of p = record {
  steps = map pass_step_of p.steps;
  given = map pass_step_of p.given;
  blocks = p.blocks;
  rest = p.rest.items;
  send = p.out.send;
  port = p.out.port;
  fields = p.out.fields.items;
  highest = p.highest;
}
