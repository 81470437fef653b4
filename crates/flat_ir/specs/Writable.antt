-- Fields that may be written.
use Rattle.std.specs.Prelude.{IsTrue}
use Rattle.packet_fields.specs.Table.{row}
use Rattle.flat_ir.specs.declared.program.FieldValue.{FieldValue}

-- the field can be written
abbrev pub IsWritable : FieldValue → Type 0
IsWritable w = IsTrue (row w.field).writable
