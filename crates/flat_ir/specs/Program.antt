-- A flat program as plain data.
use Rattle.std.specs.Prelude.{ℕ, zero, suc, ◌==◌, Bool, false, ◌&&◌, ◌||◌, nat_lt, List, [], ◌∷◌, ◌++◌, map, length, slice_get, slice_index}
use Rattle.std.specs.Prelude.{slice_index_or, unwrap_or}
use Rattle.std.specs.Option.{option_map}
use Rattle.std.specs.List.{list_any}
use Rattle.gal_bits.specs.declared.op.Op.{Op}
use Rattle.packet_fields.specs.declared.field.Field.{Field}
use Rattle.packet_fields.specs.Table.{row}
use Rattle.state_store.specs.declared.object.ObjectDecl.{ObjectDecl}
use Rattle.flat_ir.specs.declared.program.ValueId.{ValueId}
use Rattle.flat_ir.specs.declared.program.Block.{Block}
use Rattle.flat_ir.specs.declared.program.FieldValue.{FieldValue}
use Rattle.flat_ir.specs.declared.program.InstrKind.{InstrKind}
use Rattle.flat_ir.specs.declared.program.InstrKind.TheVariants as it
use Rattle.flat_ir.specs.declared.program.Instr.{Instr}
use Rattle.flat_ir.specs.declared.program.Flat.{Flat}

-- what an instruction does
pub data Work : Type 0 where
  const : (width number : ℕ) → Work
  field : (name : Field) → Work
  apply : (op : Op) (width : ℕ) (args : List ValueId) → Work
  shift : (op : Op) (width : ℕ) (arg : ValueId) (by : ℕ) → Work
  select : (width : ℕ) (cond first second : ValueId) → Work
  byte : (index : ValueId) → Work
  look : (object : ℕ) (keys : List ValueId) → Work
  put : (object : ℕ) (keys values : List ValueId) → Work
  del : (object : ℕ) (keys : List ValueId) → Work

-- an instruction: its block, whether a loop gave it, and what it does
pub record Step : Type 0 where
  pub block : ℕ
  pub looped : Bool
  pub work : Work

-- Block 0 is the root, and block k + 1 the one at place k of the list. `send`, `port` and `fields` are the output.
pub record Program : Type 0 where
  pub objects : List ObjectDecl
  pub blocks : List Block
  pub code : List Step
  pub send : ValueId
  pub port : ValueId
  pub fields : List FieldValue

-- the instruction of a number; past the end, a constant in the root
abbrev pub step_at : Program → ℕ → Step
step_at f i = slice_index_or f.code i (record { block = 0; looped = false; work = const 1 0 })

-- some number below n passes the test
abbrev pub any_below : ℕ → (ℕ → Bool) → Bool
any_below zero test = false
any_below (suc n) test = any_below n test || test n

-- some instruction passes the test
abbrev pub any_step : Program → (ℕ → Bool) → Bool
any_step f test = any_below (length f.code) test

abbrev pub is_value : ValueId → ValueId → Bool
is_value v w = (v.instruction == w.instruction) && (v.result == w.result)

abbrev pub is_among : ValueId → List ValueId → Bool
is_among v vs = list_any (is_value v) vs

-- the values that an instruction reads
abbrev pub operands : Work → List ValueId
operands (apply op width args) = args
operands (shift op width arg by) = arg ∷ []
operands (select width cond first second) = cond ∷ first ∷ second ∷ []
operands (byte index) = index ∷ []
operands (look object keys) = keys
operands (put object keys values) = keys ++ values
operands (del object keys) = keys
operands _ = []

-- the widths of the values of an object's rows
abbrev pub value_widths : List ObjectDecl → ℕ → List ℕ
value_widths objects object = unwrap_or (option_map (λ (d : ObjectDecl). d.values) (slice_get objects object)) []

-- the widths of the results of an instruction
abbrev pub result_widths : List ObjectDecl → Work → List ℕ
result_widths objects (const width number) = width ∷ []
result_widths objects (field name) = (row name).width ∷ []
result_widths objects (apply op width args) = width ∷ []
result_widths objects (shift op width arg by) = width ∷ []
result_widths objects (select width cond first second) = width ∷ []
result_widths objects (byte index) = 8 ∷ []
result_widths objects (look object keys) = 1 ∷ value_widths objects object
result_widths objects _ = 1 ∷ []

-- how many results an instruction has
abbrev pub result_count : List ObjectDecl → Work → ℕ
result_count objects work = length (result_widths objects work)

-- there is such a value
abbrev pub is_named : Program → ValueId → Bool
is_named f v =
    nat_lt v.instruction (length f.code) && nat_lt v.result (result_count f.objects (step_at f v.instruction).work)

-- how many bits a value has
abbrev pub width_of_value : Program → ValueId → ℕ
width_of_value f v = slice_index (result_widths f.objects (step_at f v.instruction).work) v.result

-- ## What the Rust values stand for

abbrev pub work_of : InstrKind → Work
work_of (it.Const width number) = const width number
work_of (it.Field name) = field name
work_of (it.Apply op width args) = apply op width args.items
work_of (it.Shift op width arg by) = shift op width arg by
work_of (it.Select width cond first second) = select width cond first second
work_of (it.Byte index) = byte index
work_of (it.Look object keys) = look object keys.items
work_of (it.Put object keys values) = put object keys.items values.items
work_of (it.Del object keys) = del object keys.items

abbrev pub step_of : Instr → Step
step_of i = record { block = i.block; looped = i.looped; work = work_of i.kind }

abbrev pub program_of : Flat → Program
program_of f = record {
  objects = f.objects;
  blocks = f.blocks;
  code = map step_of f.code;
  send = f.out.send;
  port = f.out.port;
  fields = f.out.fields.items;
}
