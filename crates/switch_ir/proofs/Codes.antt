-- Code by its parts.
use Rattle.std.proofs.Common.{◌≡◌, List, length}
use Rattle.flat_ir.specs.Plan.{RegisterPlan}
use Rattle.split_model.specs.declared.layout.Crossing.{Crossing}
use Rattle.transfer_header.specs.Plans.{IsPlanOf}
use Rattle.switch_ir.specs.declared.code.Table.{Table}
use Rattle.switch_ir.specs.Passes.{PassCode}
use Rattle.switch_ir.specs.Spans.{pass_spans}
use Rattle.flat_ir.specs.Program.{Program}
use Rattle.split_model.specs.declared.split.Part.{Part}
use Rattle.split_model.specs.Layouts.{values_of, up_layout, down_layout}
use Rattle.switch_ir.specs.Code.{Code}
use Rattle.switch_ir.specs.Emitted.{pre_code, post_code, tables_from, emitted}

pub by_parts : (f : Program) (split : List Part) (code : Code)
    → code.pre ≡ pre_code f split → code.post ≡ post_code f split → code.up ≡ up_layout f split → code.down ≡ down_layout f split
    → code.tables ≡ tables_from f split 0 f.objects → code.values ≡ length (values_of f) → code ≡ emitted f split code.writeback
by_parts f split code pre post up down tables values = λ i. record {
  pre = pre i;
  post = post i;
  up = up i;
  down = down i;
  tables = tables i;
  writeback = code.writeback;
  values = values i;
}

-- a plan of a pass and its copy
pub copied_plan : (tables tables' : List Table) (handed handed' up up' : List Crossing) (pass pass' : PassCode) (plan plan' : RegisterPlan)
    → tables' ≡ tables → handed' ≡ handed → up' ≡ up → pass' ≡ pass → plan' ≡ plan
    → IsPlanOf (pass_spans tables handed up pass) plan → IsPlanOf (pass_spans tables' handed' up' pass') plan'
copied_plan tables tables' handed handed' up up' pass pass' plan plan' same_tables same_handed same_up same_pass same_plan is =
    rw (same_tables, same_handed, same_up, same_pass, same_plan) is
