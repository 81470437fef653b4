-- What the code of a switch stands for as plain data.
use Rattle.switch_ir.specs.declared.code.SwitchCode.{SwitchCode}
pub use Rattle.switch_ir.specs.Passes.{Step, PassCode, Code, pass_step_of, pass_of}

abbrev pub code_of : SwitchCode → Code
code_of c = record {
  pre = pass_of c.pre;
  post = pass_of c.post;
  up = c.up;
  down = c.down;
  tables = c.tables;
  writeback = c.writeback;
  values = c.values;
}
