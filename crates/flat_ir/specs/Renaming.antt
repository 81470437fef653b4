-- Instructions whose operands have other names.
use Rattle.std.specs.Prelude.{map}
use Rattle.flat_ir.specs.declared.program.ValueId.{ValueId}
use Rattle.flat_ir.specs.Program.{Work}
use Rattle.flat_ir.specs.Program.Work.{const, field, apply, shift, select, byte, look, put, del}

-- the same work, with another name for each operand
abbrev pub renamed : (ValueId → ValueId) → Work → Work
renamed name (const width number) = const width number
renamed name (field f) = field f
renamed name (apply op width args) = apply op width (map name args)
renamed name (shift op width arg by) = shift op width (name arg) by
renamed name (select width cond first second) = select width (name cond) (name first) (name second)
renamed name (byte index) = byte (name index)
renamed name (look object keys) = look object (map name keys)
renamed name (put object keys values) = put object (map name keys) (map name values)
renamed name (del object keys) = del object (map name keys)
