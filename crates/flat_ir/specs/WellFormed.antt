-- Which flat programs are well formed.
use Rattle.std.specs.Prelude.{◌≡◌, ◌⊎◌, ℕ, zero, suc, ◌<◌, ◌≤◌, Bool, true, false, List, [], ◌∷◌, length, Some}
use Rattle.std.specs.Prelude.{slice_get, IsTrue}
use Rattle.std.specs.List.{AllByRecursion as Each}
use Rattle.packet_fields.specs.Table.{row, field_index}
use Rattle.state_store.specs.Kinds.{is_table, is_constant}
use Rattle.state_store.specs.declared.object.ObjectDecl.{ObjectDecl}
use Rattle.state_store.specs.Store.{Store, object_at, start_object}
use Rattle.flat_ir.specs.declared.program.ValueId.{ValueId}
use Rattle.flat_ir.specs.declared.program.FieldValue.{FieldValue}
use Rattle.flat_ir.specs.Program.{Program, Work, step_at, operands, is_named, width_of_value}
use Rattle.flat_ir.specs.Program.Work.{field, apply, shift, select, byte, look, put, del}
use Rattle.flat_ir.specs.Blocks.{block_at, line, is_above, HasLowParents}
use Rattle.flat_ir.specs.Fits.{fits}

-- the value's block is this one or stands above it
abbrev pub IsSeenFrom : Program → ℕ → ValueId → Type 0
IsSeenFrom f k v = IsTrue (is_above f.blocks (step_at f v.instruction).block k)

-- the value stands right below block k, in a block that is live where the condition has this polarity
pub record IsInArm (f : Program) (k : ℕ) (cond : ValueId) (polarity : Bool) (v : ValueId) : Type 0 where
  pub arm : ℕ
  pub stands : (step_at f v.instruction).block ≡ suc arm
  pub there : arm < length f.blocks
  pub block : block_at f.blocks arm ≡ record { parent = k; cond = cond; polarity = polarity }

-- Each operand's block is the instruction's or one above it. A side of a select may also stand in that side's arm.
abbrev pub SeesOperands : Program → ℕ → Work → Type 0
SeesOperands f k (select width cond first second) =
    IsSeenFrom f k cond
    × (IsSeenFrom f k first ⊎ IsInArm f k cond true first)
    × (IsSeenFrom f k second ⊎ IsInArm f k cond false second)
SeesOperands f k (apply op width args) = Each (IsSeenFrom f k) args
SeesOperands f k (shift op width arg by) = IsSeenFrom f k arg
SeesOperands f k (byte index) = IsSeenFrom f k index
SeesOperands f k (look object keys) = Each (IsSeenFrom f k) keys
SeesOperands f k (put object keys values) = Each (IsSeenFrom f k) keys × Each (IsSeenFrom f k) values
SeesOperands f k (del object keys) = Each (IsSeenFrom f k) keys
SeesOperands f k _ = Unit {0}

-- what holds of the condition of a block; the root has none
abbrev pub EachCondition : Program → (ValueId → Type 0) → ℕ → Type 0
EachCondition f P zero = Unit {0}
EachCondition f P (suc k) = P (block_at f.blocks k).cond

-- the fields rise in field order, so that each stands once
abbrev pub AreInOrder : List FieldValue → Type 0
AreInOrder [] = Unit {0}
AreInOrder (w ∷ []) = Unit {0}
AreInOrder (w ∷ x ∷ ws) = (field_index w.field < field_index x.field) × AreInOrder (x ∷ ws)

-- the value is there, stands in the root, and has so many bits
pub record IsOutput (f : Program) (width : ℕ) (v : ValueId) : Type 0 where
  pub named : IsTrue (is_named f v)
  pub root : (step_at f v.instruction).block ≡ 0
  pub wide : width_of_value f v ≡ width

-- the field can be written, and its value has its width
pub record IsWritten (f : Program) (w : FieldValue) : Type 0 where
  pub writable : IsTrue (row w.field).writable
  pub output : IsOutput f (row w.field).width w.value

pub record IsWellFormed (f : Program) : Type 0 where
  -- a block stands below one with a lower number
  pub parents : HasLowParents f.blocks
  -- its condition is there, has 1 bit, and stands in its parent or above that
  pub names_conditions : (k : ℕ) → k < length f.blocks → IsTrue (is_named f (block_at f.blocks k).cond)
  pub condition_widths : (k : ℕ) → k < length f.blocks → width_of_value f (block_at f.blocks k).cond ≡ 1
  pub conditions : (k : ℕ) → k < length f.blocks → IsSeenFrom f (block_at f.blocks k).parent (block_at f.blocks k).cond
  -- an instruction stands in a block that is there
  pub blocks : (i : ℕ) → i < length f.code → (step_at f i).block ≤ length f.blocks
  -- after the conditions of this block and of those above it
  pub after_conditions : (i : ℕ) → i < length f.code
      → Each (EachCondition f (λ c. c.instruction < i)) (line f.blocks (step_at f i).block)
  -- and after its operands, which are there, and which it sees
  pub after_operands : (i : ℕ) → i < length f.code → Each (λ v. v.instruction < i) (operands (step_at f i).work)
  pub names : (i : ℕ) → i < length f.code → Each (λ v. IsTrue (is_named f v)) (operands (step_at f i).work)
  pub sees : (i : ℕ) → i < length f.code → SeesOperands f (step_at f i).block (step_at f i).work
  -- what it names fits in count, width and kind
  pub fit : (i : ℕ) → i < length f.code → IsTrue (fits f (step_at f i).work)
  -- whether the packet is sent has 1 bit, and the port 8
  pub send : IsOutput f 1 f.send
  pub port : IsOutput f 8 f.port
  -- fields that are set can be written, and each stands once, in field order
  pub fields : Each (IsWritten f) f.fields
  pub order : AreInOrder f.fields

-- ## What follows from it

-- a put or a del is none of a constant table
abbrev pub WritesNoTable : Program → Work → Type 0
WritesNoTable f (put object keys values) = is_constant f.objects object ≡ false
WritesNoTable f (del object keys) = is_constant f.objects object ≡ false
WritesNoTable f _ = Unit {0}

-- a store in which the constant tables have their declared rows
pub record HasConstantTables (f : Program) (st : Store) : Type 0 where
  pub tables : (o : ℕ) (d : ObjectDecl) → slice_get f.objects o ≡ Some d → is_table d.kind ≡ true
      → object_at st o ≡ start_object d
