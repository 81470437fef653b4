-- What a flat program means.
use Rattle.std.specs.Prelude.{ℕ, zero, suc, ◌==◌, ◌%◌, ◌^◌, Bool, true, false, List, [], ◌∷◌, ◌++◌, map, length, Option}
use Rattle.std.specs.Prelude.{Some, None, is_some, if◌then◌else◌, slice_index}
use Rattle.gal_bits.specs.Operators.{bit, value_of as operator_value}
use Rattle.gal_bits.specs.declared.op.Op.TheVariants.{Select}
use Rattle.packet_fields.specs.declared.packet.Packet.{Packet}
use Rattle.packet_fields.specs.declared.verdict.Verdict.{Verdict}
use Rattle.packet_fields.specs.declared.verdict.Verdict.TheVariants.{Drop, Send}
use Rattle.packet_fields.specs.Fields.{field_value, with_field}
use Rattle.state_store.specs.Store.{Store, object_at, with_object, looked_up, put_answer, is_stored, put_row, del_row}
use Rattle.state_store.specs.Store as store
use Rattle.flat_ir.specs.declared.program.FieldValue.{FieldValue}
use Rattle.flat_ir.specs.declared.program.ValueId.{ValueId}
use Rattle.flat_ir.specs.Program.{Program, Work, step_at}
use Rattle.flat_ir.specs.Program.Work.{const, field, apply, shift, select, byte, look, put, del}
use Rattle.flat_ir.specs.Blocks.{Reading, nothing, is_live}

-- a write of an object that took effect: the values under the key, or none where the row is gone
pub record Change : Type 0 where
  pub object : ℕ
  pub key : List ℕ
  pub values : Option (List ℕ)

-- what a put of a row, and a del of a key, change in a store, where they change it
abbrev pub put_change : Store → ℕ → List ℕ → List ℕ → Option Change
put_change st object key values =
    if is_stored (put_answer (object_at st object) key)
    then Some (record { object = object; key = key; values = Some values }) else None

abbrev pub del_change : Store → ℕ → List ℕ → Option Change
del_change st object key =
    if is_some (store.look (object_at st object) key) then Some (record { object = object; key = key; values = None })
    else None

-- what an instruction changes in a store, where it changes it
abbrev pub change_of : Reading → Store → Work → Option Change
change_of reads st (put object keys values) = put_change st object (map reads keys) (map reads values)
change_of reads st (del object keys) = del_change st object (map reads keys)
change_of reads st _ = None

-- the changes of an instruction in a block that is live, or is not
abbrev pub made : Bool → Option Change → List Change
made true (Some change) = change ∷ []
made true None = []
made false change = []

-- the store after a change
abbrev pub with_values : Store → ℕ → List ℕ → Option (List ℕ) → Store
with_values st object key (Some values) = with_object st object (put_row (object_at st object) key values)
with_values st object key None = with_object st object (del_row (object_at st object) key)

abbrev pub with_changes : Store → List Change → Store
with_changes st [] = st
with_changes st (c ∷ cs) = with_changes (with_values st c.object c.key c.values) cs

-- what a look gives: 1 and the values where the key is there, and zeros where it isn't
abbrev pub looked : Store → ℕ → List ℕ → List ℕ
looked st object key = bit (is_some (store.look (object_at st object) key)) ∷ looked_up (object_at st object) key

-- The results of an instruction, from the numbers that it reads. A put or a del that is not live has the result 0.
abbrev pub results : Reading → Bool → Store → Packet → Work → List ℕ
results reads live st packet (const width number) = number ∷ []
results reads live st packet (field name) = field_value packet.bytes packet.port name ∷ []
results reads live st packet (apply op width args) = operator_value op width (map reads args) ∷ []
results reads live st packet (shift op width arg by) = operator_value op width (reads arg ∷ by ∷ []) ∷ []
results reads live st packet (select width cond first second) =
    operator_value Select width (reads cond ∷ reads first ∷ reads second ∷ []) ∷ []
results reads live st packet (byte index) = slice_index packet.bytes (reads index) ∷ []
results reads live st packet (look object keys) = looked st object (map reads keys)
results reads live st packet (put object keys values) =
    length (made live (change_of reads st (put object keys values))) ∷ []
results reads live st packet (del object keys) = length (made live (change_of reads st (del object keys))) ∷ []

-- instruction i has these results, and all else is as before
abbrev pub with_results : ℕ → List ℕ → Reading → Reading
with_results i rs reads v = if v.instruction == i then slice_index rs v.result else reads v

-- a run under way: what is computed, the store, and the changes in order
pub record Machine : Type 0 where
  pub reads : Reading
  pub store : Store
  pub changes : List Change

abbrev pub start : Store → Machine
start st = record { reads = nothing; store = st; changes = [] }

-- instruction i, whose block is live or is not
abbrev pub do_step : Bool → Packet → ℕ → Work → Machine → Machine
do_step live packet i work m =
    let changes = made live (change_of m.reads m.store work) in
    record {
      reads = with_results i (results m.reads live m.store packet work) m.reads;
      store = with_changes m.store changes;
      changes = m.changes ++ changes;
    }

-- the machine after the first n instructions
abbrev pub after : Program → Store → Packet → ℕ → Machine
after f st packet zero = start st
after f st packet (suc n) =
    let m = after f st packet n in
    do_step (is_live f.blocks m.reads (step_at f n).block) packet n (step_at f n).work m

abbrev pub flat_run : Program → Store → Packet → Machine
flat_run f st packet = after f st packet (length f.code)

-- the packet's bytes with these fields set
abbrev pub with_writes : List FieldValue → Reading → List ℕ → List ℕ
with_writes [] reads bytes = bytes
with_writes (w ∷ ws) reads bytes = with_writes ws reads (with_field bytes w.field (reads w.value))

-- what becomes of a packet: whether it is sent, by which port, and with which fields set
abbrev pub sent : ValueId → ValueId → List FieldValue → Reading → Packet → Verdict
sent send port fields reads packet =
    if reads send == 0 then Drop else Send (reads port % 2 ^ 8) (with_writes fields reads packet.bytes)

abbrev pub verdict : Program → Packet → Reading → Verdict
verdict f packet reads = sent f.send f.port f.fields reads packet

abbrev pub flat_store : Program → Store → Packet → Store
flat_store f st packet = (flat_run f st packet).store

abbrev pub flat_changes : Program → Store → Packet → List Change
flat_changes f st packet = (flat_run f st packet).changes

abbrev pub flat_verdict : Program → Store → Packet → Verdict
flat_verdict f st packet = verdict f packet (flat_run f st packet).reads
