-- Fields that are set leave a packet's length.
use Rattle.std.proofs.Common.{◌≡◌, ℕ, List, [], ◌∷◌, length, Option, Some, None, unwrap_or, refl, ◌∙◌}
use Rattle.std.specs.Option.{option_map}
use Rattle.packet_fields.specs.declared.field.Field.{Field}
use Rattle.packet_fields.specs.Bits.{with_number_at}
use Rattle.packet_fields.specs.Fields.{place, with_field}
use Rattle.packet_fields.specs.Shape.{shape_of}
use Rattle.packet_fields.specs.Table.{row}
use Rattle.flat_ir.specs.declared.program.FieldValue.{FieldValue}
use Rattle.flat_ir.specs.Blocks.{Reading}
use Rattle.flat_ir.specs.Run.{with_writes}
use Rattle.packet_fields.proofs.BitRows.{length-with_number_at}

either_length : (bytes : List ℕ) (width value : ℕ) (o : Option ℕ)
    → length (unwrap_or (option_map (λ first. with_number_at bytes first width value) o) bytes) ≡ length bytes
either_length bytes width value None = refl
either_length bytes width value (Some first) = length-with_number_at bytes first width value

length_with_field : (bytes : List ℕ) (f : Field) (value : ℕ) → length (with_field bytes f value) ≡ length bytes
unfolding with_field
length_with_field bytes f value = either_length bytes (row f).width value (place (shape_of bytes) f)

pub length_with_writes : (ws : List FieldValue) (reads : Reading) (bytes : List ℕ) → length (with_writes ws reads bytes) ≡ length bytes
length_with_writes [] reads bytes = refl
length_with_writes (w ∷ ws) reads bytes = length_with_writes ws reads (with_field bytes w.field (reads w.value)) ∙ length_with_field bytes w.field (reads w.value)
