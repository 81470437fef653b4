-- The listing of a flat program: a comment line for each block, instruction and part of the output.
use Rattle.std.specs.Prelude.{ℕ, suc, Bool, true, false, List, [], ◌∷◌, ◌++◌, codes, decimal, slice_get, unwrap_or}
use Rattle.std.specs.Option.{option_map}
use Rattle.gal_io.specs.Lines.{line_end}
use Rattle.gal_bits.specs.declared.op.Op.{Op}
use Rattle.gal_bits.specs.declared.op.Op.TheVariants.{Select}
use Rattle.gal_bits.specs.Operators.{operator_row}
use Rattle.packet_fields.specs.Table.{row}
use Rattle.state_store.specs.declared.object.ObjectDecl.{ObjectDecl}
use Rattle.flat_ir.specs.declared.program.ValueId.{ValueId}
use Rattle.flat_ir.specs.declared.program.Block.{Block}
use Rattle.flat_ir.specs.declared.program.FieldValue.{FieldValue}
use Rattle.flat_ir.specs.Program.{Program, Step, Work}
use Rattle.flat_ir.specs.Program.Work.{const, field, apply, shift, select, byte, look, put, del}

abbrev pub value_text : ValueId → List ℕ
value_text v = decimal v.instruction ++ (codes "." ++ decimal v.result)

-- each value after a space
abbrev pub values_text : List ValueId → List ℕ
values_text [] = []
values_text (v ∷ vs) = codes " " ++ (value_text v ++ values_text vs)

-- an operator's name, its width and its arguments
abbrev pub operator_text : Op → ℕ → List ValueId → List ℕ
operator_text op width args = (operator_row op).name ++ (codes " " ++ (decimal width ++ values_text args))

-- the name of the object of a number
abbrev pub name_of : List ObjectDecl → ℕ → List ℕ
name_of objects object = unwrap_or (option_map (λ (d : ObjectDecl). d.name) (slice_get objects object)) []

-- a word, an object's name and a key
abbrev pub keyed_text : List ℕ → List ObjectDecl → ℕ → List ValueId → List ℕ
keyed_text word objects object keys = word ++ (codes " " ++ (name_of objects object ++ values_text keys))

abbrev pub work_text : List ObjectDecl → Work → List ℕ
work_text objects (const width number) = codes "const " ++ (decimal width ++ (codes " " ++ decimal number))
work_text objects (field name) = codes "field " ++ (row name).name
work_text objects (apply op width args) = operator_text op width args
work_text objects (shift op width arg by) = operator_text op width (arg ∷ []) ++ (codes " " ++ decimal by)
work_text objects (select width cond first second) = operator_text Select width (cond ∷ first ∷ second ∷ [])
work_text objects (byte index) = codes "byte " ++ value_text index
work_text objects (look object keys) = keyed_text (codes "look") objects object keys
work_text objects (put object keys values) = keyed_text (codes "put") objects object keys ++ values_text values
work_text objects (del object keys) = keyed_text (codes "del") objects object keys

-- what marks an instruction that a loop gave
abbrev pub loop_mark : Bool → List ℕ
loop_mark true = codes " loop"
loop_mark false = []

-- instruction i
abbrev pub step_line : List ObjectDecl → ℕ → Step → List ℕ
step_line objects i s =
    codes "# " ++ (decimal i ++ (codes " b"
    ++ (decimal s.block ++ (codes " " ++ (work_text objects s.work ++ (loop_mark s.looped ++ line_end))))))

-- the instructions from number i on
abbrev pub step_lines : List ObjectDecl → ℕ → List Step → List ℕ
step_lines objects i [] = []
step_lines objects i (s ∷ ss) = step_line objects i s ++ step_lines objects (suc i) ss

abbrev pub polarity_text : Bool → List ℕ
polarity_text true = codes "1"
polarity_text false = codes "0"

-- block k
abbrev pub block_line : ℕ → Block → List ℕ
block_line k b =
    codes "# block " ++ (decimal k ++ (codes " in " ++ (decimal b.parent ++ (codes " when " ++ (value_text b.cond
    ++ (codes " is " ++ (polarity_text b.polarity ++ line_end)))))))

-- the blocks from number k on
abbrev pub block_lines : ℕ → List Block → List ℕ
block_lines k [] = []
block_lines k (b ∷ bs) = block_line k b ++ block_lines (suc k) bs

abbrev pub send_line : ValueId → ValueId → List ℕ
send_line send port = codes "# send " ++ (value_text send ++ (codes " port " ++ (value_text port ++ line_end)))

abbrev pub write_line : FieldValue → List ℕ
write_line w = codes "# write " ++ ((row w.field).name ++ (codes " " ++ (value_text w.value ++ line_end)))

abbrev pub write_lines : List FieldValue → List ℕ
write_lines [] = []
write_lines (w ∷ ws) = write_line w ++ write_lines ws

-- the whole listing
abbrev pub listing : Program → List ℕ
listing f = block_lines 1 f.blocks
    ++ (step_lines f.objects 0 f.code ++ (send_line f.send f.port ++ write_lines f.fields))
