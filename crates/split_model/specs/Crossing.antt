-- Which values are handed up and down.
use Rattle.std.specs.Prelude.{ℕ, ◌==◌, Bool, false, not, ◌&&◌, ◌||◌, List, [], ◌∷◌}
use Rattle.std.specs.List.{list_any}
use Rattle.packet_fields.specs.declared.field.Field.{Field}
use Rattle.packet_fields.specs.Table.{field_index}
use Rattle.flat_ir.specs.declared.program.ValueId.{ValueId}
use Rattle.flat_ir.specs.declared.program.FieldValue.{FieldValue}
pub use Rattle.flat_ir.specs.Guards.{guards_write}
use Rattle.flat_ir.specs.Program.{Program, Work, step_at, operands, is_named}
pub use Rattle.flat_ir.specs.Program.{is_value, is_among}
use Rattle.flat_ir.specs.Program.Work.{field}
use Rattle.split_model.specs.declared.split.Part.{Part}
use Rattle.split_model.specs.Split.{is_carried, is_server, is_post, any_step}
use Rattle.flat_ir.specs.Kinds.{is_const, is_input}

-- an instruction of which a test holds reads the value
abbrev pub is_read_by : Program → (ℕ → Bool) → ValueId → Bool
is_read_by f who v = any_step f (λ i. who i && is_among v (operands (step_at f i).work))

-- the server writes the field, with this value or with some value
abbrev pub is_server_write : List Part → FieldValue → Bool
is_server_write split w = not (is_post split w.value.instruction)

abbrev pub is_written_value : Program → List Part → ValueId → Bool
is_written_value f split v = list_any (λ w. is_server_write split w && is_value v w.value) f.fields

abbrev pub is_written : Program → List Part → Field → Bool
is_written f split name = list_any (λ w. is_server_write split w && (field_index w.field == field_index name)) f.fields

-- a field that the server leaves, which postprocessing reads in the packet
abbrev pub is_left_field : Program → List Part → Work → Bool
is_left_field f split (field name) = not (is_written f split name)
is_left_field f split _ = false

-- what postprocessing has from the code and the packet
abbrev pub is_at_hand : Program → List Part → Work → Bool
is_at_hand f split work = is_const work || is_left_field f split work

-- A value is handed down where it isn't post, and is `send` or `port`, or is read by a post instruction that hasn't it
-- at hand.
abbrev pub crosses_down : Program → List Part → ValueId → Bool
crosses_down f split v =
    (is_named f v && not (is_post split v.instruction))
    && (is_among v (f.send ∷ f.port ∷ [])
    || (not (is_at_hand f split (step_at f v.instruction).work) && is_read_by f (is_post split) v))

-- A carried value, not of a const or a field, is handed up where the server reads it, where it decides on a write,
-- where it is handed down, or where a field is set to it by the server.
abbrev pub crosses_up : Program → List Part → ValueId → Bool
crosses_up f split v =
    (is_named f v && (is_carried split v.instruction && not (is_input (step_at f v.instruction).work)))
    && (is_read_by f (is_server split) v
    || (guards_write f v || (crosses_down f split v || is_written_value f split v)))
