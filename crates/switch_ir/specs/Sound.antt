-- What a switch can rely on in its code.
use Rattle.std.specs.Prelude.{◌≡◌, ◌<◌, ◌≤◌, ℕ, Some, length}
use Rattle.std.specs.List.{AllByRecursion as Each, All, AllPairs}
use Rattle.state_store.specs.declared.object.ObjectDecl.{ObjectDecl}
use Rattle.state_store.specs.Kept.{IsKeptObject}
use Rattle.state_store.specs.Store.{start_object}
use Rattle.flat_ir.specs.Blocks.{HasLowParents}
use Rattle.flat_ir.specs.Operands.{CanRun}
pub use Rattle.flat_ir.specs.Writable.{IsWritable}
use Rattle.transfer_header.specs.Registers.{IsRising}
use Rattle.transfer_header.specs.Steps.{IsNeeded}
use Rattle.switch_ir.specs.declared.code.Table.{Table}
use Rattle.switch_ir.specs.Passes.{Step, Code}
use Rattle.switch_ir.specs.Spans.{pre_spans, post_spans, GoByStages}
use Rattle.switch_ir.specs.Tables.{declared_at}

-- the instruction can be computed from numbers and tables
abbrev pub CanStep : Step → Type 0
CanStep s = CanRun s.work

-- an object starts with rows of its widths, and isn't large
pub record IsSound (d : ObjectDecl) : Type 0 where
  pub start : IsKeptObject d (start_object d)
  pub size : d.size ≤ 1048576

pub record CanBeRun (code : Code) : Type 0 where
  -- each instruction can be computed
  pub pre : Each CanStep code.pre.steps
  pub post : Each CanStep code.post.steps
  pub given : Each CanStep code.post.given
  -- a block stands below one with a lower number, and work is left in blocks that are there
  pub blocks : HasLowParents code.pre.blocks
  pub rest : Each (λ b. b ≤ length code.pre.blocks) code.pre.rest
  -- a pass sets fields that can be written
  pub pre_fields : Each IsWritable code.pre.fields
  pub post_fields : Each IsWritable code.post.fields
  -- its passes go by stages
  pub stages : GoByStages code
  -- what goes up is needed after the last stage, and what comes down before the first
  pub up : IsRising code.up
  pub up_needed : All (λ c. IsNeeded (pre_spans code) code.pre.highest c.number) code.up
  pub down : IsRising code.down
  pub down_needed : All (λ c. IsNeeded (post_spans code) 0 c.number) code.down
  -- what is looked up stands in order of declaration, is small, and starts as it was declared
  pub rising : AllPairs (λ (a b : Table). a.number < b.number) code.tables
  pub tables : (o : ℕ) (d : ObjectDecl) → declared_at code.tables o ≡ Some d → IsSound d
  pub writeback : code.writeback ≤ 65536
