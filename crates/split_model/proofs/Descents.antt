-- Postprocessing of the packet that the server sends down.
use Rattle.std.proofs.Common.{◌≡◌, ◌≢◌, ℕ, ◌<◌, ◌==◌, Bool, true, false, IsTrue, not, ◌&&◌, List, [], ◌∷◌, length, Option, Some, None, is_some, refl, sym, ap, ◌∙◌, arith, slice_index, if◌then◌else◌}
use Rattle.std.proofs.lemmas.Bool.{eq-eqb, false≢true, true≢false, not-true}
use Rattle.std.specs.List.{AllByRecursion as Each, filter}
use Rattle.packet_fields.specs.declared.field.Field.{Field}
use Rattle.packet_fields.specs.declared.packet.Packet.{Packet}
use Rattle.packet_fields.specs.Fields.{field_value, with_field}
use Rattle.packet_fields.specs.Table.{row, field_index}
use Rattle.packet_fields.proofs.Laws.{fields_in_any_order-two, fields_stand_alone-others}
use Rattle.state_store.specs.Store.{Store}
use Rattle.flat_ir.specs.declared.program.FieldValue.{FieldValue}
use Rattle.flat_ir.specs.declared.program.ValueId.{ValueId}
use Rattle.flat_ir.specs.Blocks.{Reading, nothing}
use Rattle.flat_ir.specs.Kinds.{can_switch, is_field}
use Rattle.flat_ir.specs.Laws.{Same}
use Rattle.flat_ir.specs.Program.{Program, Work, step_at}
use Rattle.flat_ir.specs.Program.Work.{const, field, byte, put, del}
use Rattle.flat_ir.specs.Run.{results, with_writes}
use Rattle.flat_ir.specs.WellFormed.{IsWellFormed, IsWritten, AreInOrder}
use Rattle.split_model.specs.Crossing.{is_at_hand, is_server_write, is_written, crosses_down}
use Rattle.split_model.specs.declared.split.Part.{Part}
use Rattle.split_model.specs.Laws.{IsSentDown}
use Rattle.split_model.specs.Legal.{IsLegal}
use Rattle.split_model.specs.Passes.{given_down, post_values, leaving, post_fields, sent_down}
use Rattle.split_model.specs.Split.{post_stage, is_post}
use Rattle.split_model.proofs.Fitness.{post_within}
use Rattle.split_model.proofs.Rules.{each_false, second_false, post_kind, post_field}
use Rattle.split_model.proofs.Sights.{sent_same, writes_same}
use Rattle.split_model.proofs.Stages.{chosen, pass_alike}
use Rattle.lemmas.proofs.Lists.{each_all, each_both, each_filter, each_weaker}

-- ## Fields that the server sets

-- a field that may be written, and isn't this one
abbrev CanStandBy : Field → FieldValue → Type 0
CanStandBy name w = IsTrue (row w.field).writable × (w.field ≢ name)

module _ (reads : Reading) where
  -- a field that none of them is reads as before
  unset : (name : Field) (port : ℕ) (ws : List FieldValue) (bytes : List ℕ) → Each (CanStandBy name) ws → field_value (with_writes ws reads bytes) port name ≡ field_value bytes port name
  unset name port [] bytes h = refl
  unset name port (w ∷ ws) bytes h =
      unset name port ws (with_field bytes w.field (reads w.value)) h.1 ∙ fields_stand_alone-others bytes port w.field name (reads w.value) h.0.0 h.0.1

  -- and may as well be set before them
  set_first : (name : Field) (value : ℕ) (ws : List FieldValue) (bytes : List ℕ) → IsTrue (row name).writable → Each (CanStandBy name) ws → with_field (with_writes ws reads bytes) name value ≡ with_writes ws reads (with_field bytes name value)
  set_first name value [] bytes can h = refl
  set_first name value (w ∷ ws) bytes can h =
      set_first name value ws (with_field bytes w.field (reads w.value)) can h.1
      ∙ ap (with_writes ws reads) (fields_in_any_order-two bytes w.field name (reads w.value) value h.0.0 can h.0.1)

-- in field order, the fields behind the first lie beyond it
each_beyond : (w : FieldValue) (ws : List FieldValue) → AreInOrder (w ∷ ws) → Each (λ (x : FieldValue). field_index w.field < field_index x.field) ws
each_beyond w [] h = tt
each_beyond w (x ∷ ws) h =
    (h.0, each_weaker (λ (y : FieldValue). field_index x.field < field_index y.field) (λ (y : FieldValue). field_index w.field < field_index y.field) (λ (y : FieldValue) lt. omega (arith, lt, h.0)) ws (each_beyond x ws h.1))

order_rest : (w : FieldValue) (ws : List FieldValue) → AreInOrder (w ∷ ws) → AreInOrder ws
order_rest w [] h = tt
order_rest w (x ∷ ws) h = h.1

-- those behind the first stand by it
stand_by : (f : Program) (w : FieldValue) (ws : List FieldValue) → AreInOrder (w ∷ ws) → Each (IsWritten f) ws → Each (CanStandBy w.field) ws
stand_by f w ws order outs =
    each_weaker (λ (x : FieldValue). IsWritten f x × (field_index w.field < field_index x.field)) (CanStandBy w.field)
    (λ (x : FieldValue) h. (h.0.writable, λ e. absurd (omega (arith, h.1, ap field_index e)))) ws
    (each_both (IsWritten f) (λ (x : FieldValue). field_index w.field < field_index x.field) ws outs (each_beyond w ws order))

-- what the server sets and then what postprocessing sets is all that is set
all_set : (f : Program) (split : List Part) (server post : Reading) (ws : List FieldValue) (bytes : List ℕ) → AreInOrder ws → Each (IsWritten f) ws
    → with_writes (filter (λ (w : FieldValue). is_post split w.value.instruction) ws) post (with_writes (filter (is_server_write split) ws) server bytes) ≡ with_writes ws (leaving split server post) bytes
all_set f split server post [] bytes order outs = refl
all_set f split server post (w ∷ ws) bytes order outs =
    by_part (is_post split w.value.instruction) (λ n. all_set f split server post ws (with_field bytes w.field n) (order_rest w ws order) outs.1)
  where
    ours : List FieldValue
    ours = filter (λ (x : FieldValue). is_post split x.value.instruction) ws

    theirs : List FieldValue
    theirs = filter (is_server_write split) ws

    by_part : (b : Bool)
        → ((n : ℕ) → with_writes ours post (with_writes theirs server (with_field bytes w.field n)) ≡ with_writes ws (leaving split server post) (with_field bytes w.field n))
        → with_writes (if b then w ∷ ours else ours) post (with_writes (if not b then w ∷ theirs else theirs) server bytes) ≡ with_writes ws (leaving split server post) (with_field bytes w.field (if b then post w.value else server w.value))
    by_part true rest =
        ap (with_writes ours post) (set_first server w.field (post w.value) theirs bytes outs.0.writable (each_filter (CanStandBy w.field) (is_server_write split) ws (each_weaker (CanStandBy w.field) (λ x. is_server_write split x ≡ true → CanStandBy w.field x) (λ x h e. h) ws (stand_by f w ws order outs.1))))
        ∙ rest (post w.value)
    by_part false rest = rest (server w.value)

-- ## What postprocessing reads

-- what the switch can do, other than reading a field, hangs on no packet
packet_apart : (r : Reading) (live : Bool) (st : Store) (packet packet' : Packet) (work : Work) → can_switch work ≡ true → is_field work ≡ false → results r live st packet work ≡ results r live st packet' work
packet_apart r live st packet packet' (field name) can none = absurd (true≢false none)
packet_apart r live st packet packet' (byte index) can none = absurd (false≢true can)
packet_apart r live st packet packet' (put object keys values) can none = absurd (false≢true can)
packet_apart r live st packet packet' (del object keys) can none = absurd (false≢true can)
packet_apart r live st packet packet' _ can none = refl

pub post_inside : (f : Program) (split : List Part) → IsLegal f split → (i : ℕ) (o : Option ℕ) → post_stage split i ≡ o → is_some o ≡ true → i < length f.code
post_inside f split legal i None e some = absurd (false≢true some)
post_inside f split legal i (Some own) e some = post_within f split legal.count i own e

module _ (f : Program) (split : List Part) (tables : Store) (packet : Packet) (server down : Reading) (well : IsWellFormed f) (legal : IsLegal f split) where
  abbrev came : Packet
  came = sent_down f split server packet

  -- a field that the server leaves is as it arrived
  left_same : (name : Field) → is_written f split name ≡ false → field_value came.bytes packet.port name ≡ field_value packet.bytes packet.port name
  left_same name left =
      let sets : FieldValue → Bool = λ (w : FieldValue). is_server_write split w && (field_index w.field == field_index name) in
      unset server name packet.port (filter (is_server_write split) f.fields) packet.bytes
      (each_filter (CanStandBy name) (is_server_write split) f.fields
      (each_weaker (λ (w : FieldValue). IsWritten f w × (sets w ≡ false)) (λ (w : FieldValue). is_server_write split w ≡ true → CanStandBy name w)
      (λ (w : FieldValue) h set. (h.0.writable, λ e. absurd (true≢false (sym (eq-eqb (field_index w.field) (field_index name) (ap field_index e)) ∙ second_false (is_server_write split w) (field_index w.field == field_index name) h.1 set))))
      f.fields (each_both (IsWritten f) (λ (w : FieldValue). sets w ≡ false) f.fields well.fields (each_false sets f.fields left))))

  hand_same : (work : Work) → is_at_hand f split work ≡ true → results nothing false [] came work ≡ results nothing false [] packet work
  hand_same (const width number) e = refl
  hand_same (field name) e = ap (λ n. n ∷ []) (left_same name (not-true (is_written f split name) e))
  hand_same _ e = absurd (false≢true e)

  given_alike : (v : ValueId) → given_down f split down came v ≡ given_down f split down packet v
  given_alike v =
      let work = (step_at f v.instruction).work in
      chosen (crosses_down f split v) (λ e. refl) (chosen (is_at_hand f split work) (λ e. ap (λ rs. slice_index rs v.result) (hand_same work e)) refl)

  seen_alike : (v : ValueId) → is_post split v.instruction ≡ true → (r : Reading) → results r false tables came (step_at f v.instruction).work ≡ results r false tables packet (step_at f v.instruction).work
  seen_alike v post r =
      let within = post_inside f split legal v.instruction (post_stage split v.instruction) refl post in
      packet_apart r false tables came packet (step_at f v.instruction).work (post_kind f split legal v.instruction within post) (post_field f split legal v.instruction within post)

  values_alike : (v : ValueId) → post_values f split down tables came v ≡ post_values f split down tables packet v
  values_alike v = pass_alike f (post_stage split) (given_down f split down came) (given_down f split down packet) tables tables came packet given_alike seen_alike v

  pub comes_down : IsSentDown f split tables packet server down
  comes_down =
      let Q = post_values f split down tables packet in
      let R = post_values f split down tables came in
      let own = post_fields f split in
      record {
        values = values_alike;
        verdict = sent_same (values_alike f.send) (values_alike f.port)
            (writes_same R Q own came.bytes (each_all (λ (w : FieldValue). Same R Q w.value) (λ w. values_alike w.value) own)
            ∙ all_set f split server Q f.fields packet.bytes well.order well.fields);
      }
