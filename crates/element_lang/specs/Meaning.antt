-- What a middlebox does to packets.
use Rattle.std.specs.Prelude.{ℕ, zero, suc, ◌+◌, ◌%◌, ◌^◌, ◌==◌, List, [], ◌∷◌, map, length}
use Rattle.std.specs.Prelude.{replicate, is_some, if◌then◌else◌, slice_index, slice_set}
use Rattle.gal_bits.specs.Operators.{bit, value_of as operator_value}
use Rattle.packet_fields.specs.declared.field.Field.{Field}
use Rattle.packet_fields.specs.declared.packet.Packet.{Packet}
use Rattle.packet_fields.specs.declared.verdict.Verdict.{Verdict}
use Rattle.packet_fields.specs.declared.verdict.Verdict.TheVariants.{Drop, Send}
use Rattle.packet_fields.specs.Table.{row, all_fields, field_index}
use Rattle.packet_fields.specs.Fields.{field_value, with_field}
use Rattle.state_store.specs.Store.{Store, object_at, with_object, looked_up, put_answer, is_stored}
use Rattle.state_store.specs.Store.{put_row, del_row}
use Rattle.state_store.specs.Store as store
use Rattle.element_lang.specs.Tree.{ExprTree, Exprs, StmtTree, BodyTree, Tree}
use Rattle.element_lang.specs.Tree.ExprTree.{lit, local, field, byte, shift, apply}
use Rattle.element_lang.specs.Tree.Exprs.{no_expr, expr}
use Rattle.element_lang.specs.Tree.StmtTree.{let_local, assign, set_field, look, put, del, choose, repeat, send, drop}
use Rattle.element_lang.specs.Tree.BodyTree.{done, stmt}
use Rattle.element_lang.specs.Widths.{local_widths, width_of}

-- the variables of a run: the values of the locals, by number, those of the fields, in field order, and the store
pub record State : Type 0 where
  pub locals : List ℕ
  pub fields : List ℕ
  pub store : Store

-- the value of an expression in a run that a packet began, where the locals have these widths
abbrev mutual
  pub value_of : List ℕ → Packet → ExprTree → State → ℕ
  value_of widths packet (lit value width) s = value
  value_of widths packet (local x) s = slice_index s.locals x
  value_of widths packet (field f) s = slice_index s.fields (field_index f)
  value_of widths packet (byte index) s = slice_index packet.bytes (value_of widths packet index s)
  value_of widths packet (shift op by arg) s =
      operator_value op (width_of widths arg) (value_of widths packet arg s ∷ by ∷ [])
  value_of widths packet (apply op width args) s = operator_value op width (values_of widths packet args s)

  pub values_of : List ℕ → Packet → Exprs → State → List ℕ
  values_of widths packet no_expr s = []
  values_of widths packet (expr e es) s = value_of widths packet e s ∷ values_of widths packet es s

-- how a run stands: it goes on, or it has ended
pub data Outcome : Type 0 where
  Running : State → Outcome
  Ended : Store → Verdict → Outcome

-- goes on from where a run stands, and does nothing once it has ended
abbrev pub then_do : Outcome → (State → Outcome) → Outcome
then_do (Running s) go = go s
then_do (Ended st verdict) go = Ended st verdict

-- each local in turn gets the value at its place from i on
abbrev pub bind_from : ℕ → List ℕ → List ℕ → List ℕ → List ℕ
bind_from i [] values locals = locals
bind_from i (x ∷ xs) values locals = bind_from (i + 1) xs values (slice_set locals x (slice_index values i))

-- a look binds whether the key is there, and its values or zeros
abbrev pub looked : ℕ → List ℕ → ℕ → List ℕ → State → State
looked found into object key s =
    let o = object_at s.store object in
    record s {
      locals = bind_from 0 into (looked_up o key)
          (slice_set s.locals found (bit (is_some (store.look o key))));
    }

-- a put sets a row where it has a place, and binds whether it had
abbrev pub stored : ℕ → ℕ → List ℕ → List ℕ → State → State
stored ok object key values s =
    let o = object_at s.store object in
    record s {
      locals = slice_set s.locals ok (bit (is_stored (put_answer o key)));
      store = with_object s.store object (put_row o key values);
    }

-- a local gets a value
abbrev pub bound : ℕ → ℕ → State → State
bound x value s = record s { locals = slice_set s.locals x value }

-- a del removes a row, and binds whether it was there
abbrev pub deleted : ℕ → ℕ → List ℕ → State → State
deleted was object key s =
    let o = object_at s.store object in
    record s {
      locals = slice_set s.locals was (bit (is_some (store.look o key)));
      store = with_object s.store object (del_row o key);
    }

-- so many turns from turn i on, each with its number in a local
abbrev pub turns : ℕ → ℕ → ℕ → (State → Outcome) → State → Outcome
turns zero i x go s = Running s
turns (suc n) i x go s = then_do (go (bound x i s)) (turns n (suc i) x go)

-- a field keeps as many bits as it has
abbrev pub assigned : Field → ℕ → State → State
assigned f value s = record s { fields = slice_set s.fields (field_index f) (value % 2 ^ (row f).width) }

-- the bytes of a packet in which each of these fields that can be written has its value
abbrev pub with_fields : List Field → List ℕ → List ℕ → List ℕ
with_fields [] values bytes = bytes
with_fields (f ∷ fs) values bytes =
    with_fields fs values (if (row f).writable then with_field bytes f (slice_index values (field_index f)) else bytes)

abbrev mutual
  pub do_stmt : List ℕ → Packet → StmtTree → State → Outcome
  do_stmt widths packet (let_local x value) s = Running (bound x (value_of widths packet value s) s)
  do_stmt widths packet (assign x value) s = Running (bound x (value_of widths packet value s) s)
  do_stmt widths packet (set_field f value) s = Running (assigned f (value_of widths packet value s) s)
  do_stmt widths packet (look found into object keys) s =
      Running (looked found into object (values_of widths packet keys s) s)
  do_stmt widths packet (put ok object keys values) s =
      Running (stored ok object (values_of widths packet keys s) (values_of widths packet values s) s)
  do_stmt widths packet (del was object keys) s = Running (deleted was object (values_of widths packet keys s) s)
  do_stmt widths packet (choose cond first second) s =
      if value_of widths packet cond s == 0 then do_body widths packet second s else do_body widths packet first s
  do_stmt widths packet (repeat index count body) s = turns count 0 index (do_body widths packet body) s
  do_stmt widths packet (send port) s =
      Ended s.store (Send (value_of widths packet port s % 2 ^ 8) (with_fields all_fields s.fields packet.bytes))
  do_stmt widths packet drop s = Ended s.store Drop

  pub do_body : List ℕ → Packet → BodyTree → State → Outcome
  do_body widths packet done s = Running s
  do_body widths packet (stmt t b) s = then_do (do_stmt widths packet t s) (do_body widths packet b)

-- what a packet begins with: locals that are 0, the fields as they arrived, and the store so far
abbrev pub start_state : Tree → Store → Packet → State
start_state m st packet = record {
  locals = replicate (length m.locals) 0;
  fields = map (field_value packet.bytes packet.port) all_fields;
  store = st;
}

-- the end of the statements is a drop
abbrev pub store_after : Outcome → Store
store_after (Running s) = s.store
store_after (Ended st verdict) = st

abbrev pub verdict_after : Outcome → Verdict
verdict_after (Running s) = Drop
verdict_after (Ended st verdict) = verdict

-- the run of one packet
abbrev pub source_run : Tree → Store → Packet → Outcome
source_run m st packet = do_body (local_widths m) packet m.body (start_state m st packet)

abbrev pub source_store : Tree → Store → Packet → Store
source_store m st packet = store_after (source_run m st packet)

abbrev pub source_verdict : Tree → Store → Packet → Verdict
source_verdict m st packet = verdict_after (source_run m st packet)

-- packets that come one after the other: the store that they leave, and what becomes of each
abbrev pub serial_store : Tree → Store → List Packet → Store
serial_store m st [] = st
serial_store m st (packet ∷ packets) = serial_store m (source_store m st packet) packets

abbrev pub serial_verdicts : Tree → Store → List Packet → List Verdict
serial_verdicts m st [] = []
serial_verdicts m st (packet ∷ packets) =
    source_verdict m st packet ∷ serial_verdicts m (source_store m st packet) packets
