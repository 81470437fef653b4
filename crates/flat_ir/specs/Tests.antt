-- Only proofs need this. Well-formedness as tests.
use Rattle.std.specs.Prelude.{ℕ, zero, suc, Bool, true, false, ◌&&◌, ◌||◌, ◌==◌, List, [], ◌∷◌, length, nat_lt, nat_le}
use Rattle.std.specs.List.{list_all}
use Rattle.packet_fields.specs.Table.{row, field_index}
use Rattle.flat_ir.specs.declared.program.ValueId.{ValueId}
use Rattle.flat_ir.specs.declared.program.Block.{Block}
use Rattle.flat_ir.specs.declared.program.FieldValue.{FieldValue}
use Rattle.flat_ir.specs.Program.{Program, Work, step_at, is_named, is_value, width_of_value}
use Rattle.flat_ir.specs.Program.Work.{field, apply, shift, select, byte, look, put, del}
use Rattle.flat_ir.specs.Blocks.{same, block_at, line, is_above}
use Rattle.flat_ir.specs.Fits.{fits}

-- a test holds of each number below one
abbrev pub all_below : ℕ → (ℕ → Bool) → Bool
all_below zero test = true
all_below (suc n) test = all_below n test && test n

abbrev pub low_parents : List Block → Bool
low_parents blocks = all_below (length blocks) (λ k. nat_le (block_at blocks k).parent k)

abbrev pub is_seen : Program → ℕ → ValueId → Bool
is_seen f k v = is_above f.blocks (step_at f v.instruction).block k

-- the condition of the block at a place of the list
abbrev pub is_good_block : Program → ℕ → Bool
is_good_block f k =
    let b = block_at f.blocks k in
    is_named f b.cond && (width_of_value f b.cond == 1 && is_seen f b.parent b.cond)

abbrev pub is_arm : Block → ℕ → ValueId → Bool → Bool
is_arm b k cond polarity = b.parent == k && (is_value b.cond cond && same b.polarity polarity)

-- block n is an arm of a select in block k
abbrev pub is_in_arm : List Block → ℕ → ℕ → ValueId → Bool → Bool
is_in_arm blocks zero k cond polarity = false
is_in_arm blocks (suc arm) k cond polarity = nat_lt arm (length blocks) && is_arm (block_at blocks arm) k cond polarity

-- instruction i of block k may read a value
abbrev pub may_read : Program → ℕ → ℕ → ValueId → Bool
may_read f i k v = nat_lt v.instruction i && (is_named f v && is_seen f k v)

-- and a select there, as one of its sides
abbrev pub may_take : Program → ℕ → ℕ → ValueId → Bool → ValueId → Bool
may_take f i k cond polarity v =
    nat_lt v.instruction i && (is_named f v
    && (is_seen f k v || is_in_arm f.blocks (step_at f v.instruction).block k cond polarity))

abbrev pub reads_well : Program → ℕ → ℕ → Work → Bool
reads_well f i k (apply op width args) = list_all (may_read f i k) args
reads_well f i k (shift op width arg by) = may_read f i k arg
reads_well f i k (select width cond first second) =
    may_read f i k cond && (may_take f i k cond true first && may_take f i k cond false second)
reads_well f i k (byte index) = may_read f i k index
reads_well f i k (look object keys) = list_all (may_read f i k) keys
reads_well f i k (put object keys values) = list_all (may_read f i k) keys && list_all (may_read f i k) values
reads_well f i k (del object keys) = list_all (may_read f i k) keys
reads_well f i k _ = true

-- the condition of a block stands before instruction i
abbrev pub is_before : List Block → ℕ → ℕ → Bool
is_before blocks i zero = true
is_before blocks i (suc k) = nat_lt (block_at blocks k).cond.instruction i

abbrev pub are_before : List Block → ℕ → ℕ → Bool
are_before blocks i k = list_all (is_before blocks i) (line blocks k)

abbrev pub is_good_instr : Program → ℕ → Bool
is_good_instr f i =
    let s = step_at f i in
    nat_le s.block (length f.blocks)
    && (are_before f.blocks i s.block && (reads_well f i s.block s.work && fits f s.work))

abbrev pub is_output : Program → ℕ → ValueId → Bool
is_output f width v = is_named f v && ((step_at f v.instruction).block == 0 && width_of_value f v == width)

abbrev pub is_written : Program → FieldValue → Bool
is_written f w = (row w.field).writable && is_output f (row w.field).width w.value

-- the fields rise, from one of at least this place in field order on
abbrev pub rise_from : ℕ → List FieldValue → Bool
rise_from least [] = true
rise_from least (w ∷ ws) = nat_le least (field_index w.field) && rise_from (suc (field_index w.field)) ws

abbrev pub is_good_out : Program → Bool
is_good_out f = is_output f 1 f.send
    && (is_output f 8 f.port && (list_all (is_written f) f.fields && rise_from 0 f.fields))

abbrev pub well_formed : Program → Bool
well_formed f =
    low_parents f.blocks
    && (all_below (length f.blocks) (is_good_block f) && (all_below (length f.code) (is_good_instr f) && is_good_out f))
