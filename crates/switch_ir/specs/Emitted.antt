-- The code of a split program.
use Rattle.std.specs.Prelude.{◌≡◌, ◌≤◌, ◌<◌, ℕ, zero, suc, ◌==◌, Bool, not, true, ◌&&◌, ◌||◌, List, [], ◌∷◌, ◌++◌, length}
use Rattle.std.specs.Prelude.{max, Option, Some, None, if◌then◌else◌}
use Rattle.std.specs.List.{list_any}
use Rattle.packet_fields.specs.declared.packet.Packet.{Packet}
use Rattle.state_store.specs.declared.object.ObjectDecl.{ObjectDecl}
use Rattle.state_store.specs.Kept.{IsKept}
use Rattle.state_store.specs.Store.{Store, start_store}
use Rattle.flat_ir.specs.declared.program.ValueId.{ValueId}
use Rattle.flat_ir.specs.Program.{Program, step_at}
use Rattle.flat_ir.specs.Operands.{CanRun}
use Rattle.flat_ir.specs.Blocks.{Reading}
use Rattle.split_model.specs.declared.split.Part.{Part}
use Rattle.split_model.specs.Split.{pre_stage, post_stage, is_pre, is_post}
use Rattle.split_model.specs.Bounds.{IsBounded, HasFewStages}
use Rattle.split_model.specs.Counts.{is_post_shown, stage_or_zero}
use Rattle.split_model.specs.Crossing.{crosses_down, is_at_hand, is_read_by, is_value}
use Rattle.split_model.specs.Crossing.{is_among as is_value_among}
use Rattle.split_model.specs.Layouts.{values_of, values_below, up_layout, down_layout}
use Rattle.split_model.specs.Legal.{IsLegal}
use Rattle.split_model.specs.Passes.{pre_values, pre_verdict, meets_rest, post_values, post_fields, down_verdict}
use Rattle.split_model.specs.Shown.{is_shown}
use Rattle.transfer_header.specs.Values.{value_by}
use Rattle.switch_ir.specs.Passes.{Step, PassCode, Code}
use Rattle.switch_ir.specs.Meaning.{up_values, up_verdict, goes_up, down_values, down_end}
use Rattle.switch_ir.specs.declared.code.Table.{Table}

abbrev pub is_among : ℕ → List ℕ → Bool
is_among b blocks = list_any (λ c. c == b) blocks

-- instruction i at a stage
abbrev pub step_for : Program → ℕ → ℕ → Step
step_for f i t = record { instruction = i; stage = t; first = length (values_below f i); work = (step_at f i).work }

abbrev pub placed : Program → ℕ → Option ℕ → List Step
placed f i None = []
placed f i (Some t) = step_for f i t ∷ []

-- those of the first n instructions that have a stage
abbrev pub steps_below : Program → (ℕ → Option ℕ) → ℕ → List Step
steps_below f stage zero = []
steps_below f stage (suc n) = steps_below f stage n ++ placed f n (stage n)

abbrev pub steps_of : Program → (ℕ → Option ℕ) → List Step
steps_of f stage = steps_below f stage (length f.code)

-- postprocessing reads the value: one of its instructions does, or it is `send`, `port` or the value of a field that
-- the pass sets
abbrev pub is_read_after : Program → List Part → ValueId → Bool
is_read_after f split v =
    is_read_by f (is_post split) v
    || (is_value_among v (f.send ∷ f.port ∷ []) || list_any (λ w. is_value v w.value) (post_fields f split))

-- the value of a const or a field, which has no other
abbrev pub only_value : ℕ → ValueId
only_value i = record { instruction = i; result = 0 }

-- The pass is given an instruction's value from the code or the packet: it is a const or a field that the server
-- leaves, which postprocessing neither computes nor is handed, and reads.
abbrev pub is_given : Program → List Part → ℕ → Bool
is_given f split i =
    is_at_hand f split (step_at f i).work
    && (not (is_post split i) && (not (crosses_down f split (only_value i)) && is_read_after f split (only_value i)))

-- stage 0 for an instruction whose value the pass is given
abbrev pub given_stage : Program → List Part → ℕ → Option ℕ
given_stage f split i = if is_given f split i then Some 0 else None

-- postprocessing computes the value or reads it
abbrev pub is_used_after : Program → List Part → ValueId → Bool
is_used_after f split v = is_post split v.instruction || is_read_after f split v

-- these blocks and the block of an instruction, where that is outside `pre` and its block isn't among them
abbrev pub with_rest : Program → List Part → ℕ → List ℕ → List ℕ
with_rest f split i blocks =
    let b = (step_at f i).block in
    if not (is_pre split i) && not (is_among b blocks) then blocks ++ b ∷ [] else blocks

-- the blocks that hold one of the first n instructions, outside `pre`; each stands once
abbrev pub rest_below : Program → List Part → ℕ → List ℕ
rest_below f split zero = []
rest_below f split (suc n) = with_rest f split n (rest_below f split n)

-- the highest stage of the first n instructions, 0 where none has one
abbrev pub highest_of : (ℕ → Option ℕ) → ℕ → ℕ
highest_of stage zero = 0
highest_of stage (suc n) = max (highest_of stage n) (stage_or_zero (stage n))

-- the object is looked up in one of the passes
abbrev pub is_looked_up : Program → List Part → ℕ → Bool
is_looked_up f split o = is_shown f split o || is_post_shown f split o

-- the objects that are looked up, of these, which are numbered from o on
abbrev pub tables_from : Program → List Part → ℕ → List ObjectDecl → List Table
tables_from f split o [] = []
tables_from f split o (d ∷ ds) =
    (if is_looked_up f split o then record { number = o; object = d } ∷ [] else []) ++ tables_from f split (suc o) ds

abbrev pub pre_code : Program → List Part → PassCode
pre_code f split = record {
  steps = steps_of f (pre_stage split);
  given = [];
  blocks = f.blocks;
  rest = rest_below f split (length f.code);
  send = f.send;
  port = f.port;
  fields = f.fields;
  highest = highest_of (pre_stage split) (length f.code);
}

abbrev pub post_code : Program → List Part → PassCode
post_code f split = record {
  steps = steps_of f (post_stage split);
  given = steps_of f (given_stage f split);
  blocks = f.blocks;
  rest = [];
  send = f.send;
  port = f.port;
  fields = post_fields f split;
  highest = highest_of (post_stage split) (length f.code);
}

-- the code of a split program, with room for so many rows in each write-back table
abbrev pub emitted : Program → List Part → ℕ → Code
emitted f split writeback = record {
  pre = pre_code f split;
  post = post_code f split;
  up = up_layout f split;
  down = down_layout f split;
  tables = tables_from f split 0 f.objects;
  writeback = writeback;
  values = length (values_of f);
}

-- The code computes the split's passes, over any tables: the values of preprocessing, which packets it finishes, and
-- with which verdict; and the values that postprocessing computes or reads, and its verdict.
pub record Computes (f : Program) (split : List Part) (code : Code) : Type 0 where
  pub up : (tables : Store) (packet : Packet) (v : ValueId)
      → up_values code tables packet v ≡ pre_values f split tables packet v
  pub rest : (reads : Reading) → goes_up code reads ≡ meets_rest f split reads
  pub finished : (tables : Store) (packet : Packet) → up_verdict code tables packet ≡ pre_verdict f split tables packet
  pub down : (down : Reading) (tables : Store) (packet : Packet) (v : ValueId) → is_used_after f split v ≡ true
      → down_values code (value_by down) tables packet v ≡ post_values f split down tables packet v
  pub verdict : (down : Reading) (tables : Store) (packet : Packet)
      → down_end code (value_by down) tables packet ≡ down_verdict f split down tables packet

-- each instruction of a program can be computed from numbers and tables
abbrev pub AllRun : Program → Type 0
AllRun f = (i : ℕ) → i < length f.code → CanRun (step_at f i).work

-- The code is that of a legally split program, whose objects start with rows of their widths.
pub record IsEmitted (code : Code) : Type 0 where
  pub program : Program
  pub split : List Part
  pub bounded : IsBounded program
  pub runs : AllRun program
  pub legal : IsLegal program split
  pub stages : HasFewStages split
  pub kept : IsKept program.objects (start_store program.objects)
  pub is : code ≡ emitted program split code.writeback
  pub writeback : code.writeback ≤ 65536
