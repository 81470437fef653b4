-- Sets of values, as a mark for each of the first 9 results of each instruction.
use Rattle.std.specs.Prelude.{◌≡◌, ℕ, ◌+◌, ◌*◌, ◌<◌, Bool, false, ◌&&◌, ◌||◌, List, length, map, slice_index_or}
use Rattle.std.specs.List.{filter}
use Rattle.flat_ir.specs.declared.program.ValueId.{ValueId}
use Rattle.flat_ir.specs.declared.program.FieldValue.{FieldValue}
use Rattle.flat_ir.specs.Program.{Program, step_at, operands}
use Rattle.split_model.specs.declared.split.Part.{Part}
use Rattle.split_model.specs.declared.layout.Crossing.{Crossing}
use Rattle.split_model.specs.declared.readers.Reader.{Reader}
use Rattle.split_model.specs.declared.readers.Reader.TheVariants.{Server, Post}
use Rattle.split_model.specs.declared.layouts.Way.{Way}
use Rattle.split_model.specs.declared.layouts.Way.TheVariants.{Up, Down}
use Rattle.split_model.specs.declared.layouts.Crossings.{Crossings}
use Rattle.split_model.specs.Split.{is_server, is_post}
use Rattle.split_model.specs.Crossing.{is_value, is_among, is_server_write}
use Rattle.split_model.specs.Crossing.{is_read_by, guards_write, is_written_value, crosses_up, crosses_down}
use Rattle.split_model.specs.Layouts.{crossing}

abbrev pub is_marked : List Bool → ValueId → Bool
is_marked marks v = slice_index_or marks (9 * v.instruction + v.result) false

-- n instructions have marks, which say of each value whether it passes the test
pub record AreMarked (n : ℕ) (test : ValueId → Bool) (marks : List Bool) : Type 0 where
  pub count : length marks ≡ 9 * n
  pub exact : (v : ValueId) → v.instruction < n → v.result < 9 → is_marked marks v ≡ test v

-- the marks after are those before, and on the values of this test besides
abbrev pub Adds : (ValueId → Bool) → List Bool → List Bool → Type 0
Adds more before after =
    (n : ℕ) (test : ValueId → Bool) → AreMarked n test before → AreMarked n (λ v. test v || more v) after

-- who reads
abbrev pub is_of : Reader → List Part → ℕ → Bool
is_of Server split i = is_server split i
is_of Post split i = is_post split i

-- the reader computes instruction i, which reads the value
abbrev pub is_read_at : Program → List Part → Reader → ℕ → ValueId → Bool
is_read_at f split reader i v = is_of reader split i && is_among v (operands (step_at f i).work)

-- the server sets the field to the value
abbrev pub is_set_to : List Part → FieldValue → ValueId → Bool
is_set_to split w v = is_server_write split w && is_value v w.value

-- which way a value crosses
abbrev pub crosses : Way → Program → List Part → ValueId → Bool
crosses Up f split v = crosses_up f split v
crosses Down f split v = crosses_down f split v

-- those of some values that cross, as a layout has them
abbrev pub crossings_of : Way → Program → List Part → List ValueId → List Crossing
crossings_of way f split vs = map (crossing f) (filter (crosses way f split) vs)

-- what is known of the values once they are marked
pub record AreFound (f : Program) (split : List Part) (found : Crossings) : Type 0 where
  pub post : AreMarked (length f.code) (is_read_by f (is_post split)) found.post
  pub server : AreMarked (length f.code) (is_read_by f (is_server split)) found.server
  pub guards : AreMarked (length f.code) (guards_write f) found.guards
  pub written : AreMarked (length f.code) (is_written_value f split) found.written
