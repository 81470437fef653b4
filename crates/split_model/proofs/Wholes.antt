-- The way up, through the server and down is the whole run.
use Rattle.std.proofs.Common.{◌≡◌, ℕ, zero, suc, ◌<◌, ◌≤◌, true, false, not, ◌&&◌, ◌||◌, List, [], ◌∷◌, length, sym, ap, ◌∙◌, subst, arith, ⊎_elim, slice_index, if◌then◌else◌}
use Rattle.std.proofs.lemmas.Bool.{false≢true, cases_Bool, cond-true, cond-false, and_from, or_left, or_right}
use Rattle.std.proofs.Math.Nat.{eq-or-lt_of_le}
use Rattle.std.specs.List.{AllByRecursion as Each}
use Rattle.packet_fields.specs.Table.{row}
use Rattle.packet_fields.specs.declared.packet.Packet.{Packet}
use Rattle.state_store.specs.Store.{Store}
use Rattle.flat_ir.specs.declared.program.FieldValue.{FieldValue}
use Rattle.flat_ir.specs.declared.program.ValueId.{ValueId}
use Rattle.flat_ir.specs.Blocks.{Reading, nothing, is_live}
use Rattle.flat_ir.specs.Laws.{Same}
use Rattle.flat_ir.specs.Program.{Program, Work, step_at, operands, is_named}
use Rattle.flat_ir.specs.Run.{after, flat_run, flat_verdict, results}
use Rattle.flat_ir.specs.WellFormed.{IsWellFormed, HasConstantTables, IsOutput, IsWritten}
use Rattle.split_model.specs.Crossing.{is_among, is_read_by, is_at_hand, is_written_value, crosses_down, crosses_up}
use Rattle.split_model.specs.declared.split.Part.{Part}
use Rattle.split_model.specs.Laws.{HasDeclaredTables}
use Rattle.split_model.specs.Legal.{IsLegal}
use Rattle.split_model.specs.Passes.{IsHanded, served, server_run, given_down, post_values, leaving, post_verdict}
use Rattle.split_model.specs.Split.{post_stage, is_post}
use Rattle.split_model.proofs.CarriedValues.{constants, constant_sight, post_shown}
use Rattle.split_model.proofs.Crossings.{each_written, input_from}
use Rattle.split_model.proofs.Rules.{post_kind, post_look, post_rises}
use Rattle.split_model.proofs.ServerAlike.{server_does, whole_does, knows_all}
use Rattle.split_model.proofs.Sights.{each_among, named_within, seen_same, input_same, sent_same, writes_same}
use Rattle.split_model.proofs.Stages.{staged_value, given_value}
use Rattle.flat_ir.proofs.AnyBelow.{any_passes}
use Rattle.flat_ir.proofs.Laws.{a_run_is_its_values, readings_that_agree-operands, readings_that_agree-results}
use Rattle.lemmas.proofs.Lists.{each_both, each_weaker}

module _ (f : Program) (split : List Part) (st tables : Store) (packet : Packet) (c D : Reading) where
  abbrev F : Reading
  F = (flat_run f st packet).reads

  abbrev S : Reading
  S = (server_run f split c st packet).reads

  abbrev Q : Reading
  Q = post_values f split D tables packet

  abbrev work_at : ℕ → Work
  work_at i = (step_at f i).work

  module _ (well : IsWellFormed f) (legal : IsLegal f split) (has : HasConstantTables f st) (loaded : HasDeclaredTables f split tables) (carried : (v : ValueId) → crosses_up f split v ≡ true → c v ≡ F v) (handed : IsHanded (crosses_down f split) S D) where
    -- what the server hands on is the run's
    knows_run : (v : ValueId) → v.instruction < length f.code → is_named f v ≡ true → is_post split v.instruction ≡ false → (crosses_down f split v || is_written_value f split v) ≡ true → S v ≡ F v
    knows_run v within named apart want =
        knows_all f split well legal packet st c F (served f split c st packet) (after f st packet) (server_does f split packet st c) (whole_does f split legal packet st) carried v within named apart want

    hand_same : (v : ValueId) → v.instruction < length f.code → is_at_hand f split (work_at v.instruction) ≡ true → slice_index (results nothing false [] packet (work_at v.instruction)) v.result ≡ F v
    hand_same v within hand =
        ap (λ rs. slice_index rs v.result) (input_same nothing F false (is_live f.blocks F (step_at f v.instruction).block) [] (after f st packet v.instruction).store packet (work_at v.instruction) (input_from f split (work_at v.instruction) hand))
        ∙ sym ((a_run_is_its_values f st packet v.instruction well within).value v.result)

    -- what isn't post was handed down, or is at hand
    given_same : (v : ValueId) → v.instruction < length f.code → is_named f v ≡ true → is_post split v.instruction ≡ false → (is_at_hand f split (work_at v.instruction) ≡ false → crosses_down f split v ≡ true) → Q v ≡ F v
    given_same v within named apart crosses =
        let hand = if is_at_hand f split (work_at v.instruction) then slice_index (results nothing false [] packet (work_at v.instruction)) v.result else 0 in
        given_value f (post_stage split) (given_down f split D packet) tables packet v apart
        ∙ ⊎_elim
        (λ across. cond-true (crosses_down f split v) (D v) hand across ∙ handed v across ∙ knows_run v within named apart (or_left (crosses_down f split v) (is_written_value f split v) across))
        (λ stays.
        cond-false (crosses_down f split v) (D v) hand stays
        ∙ ⊎_elim
        (λ h. cond-true (is_at_hand f split (work_at v.instruction)) (slice_index (results nothing false [] packet (work_at v.instruction)) v.result) 0 h ∙ hand_same v within h)
        (λ h. absurd (false≢true (sym stays ∙ crosses h)))
        (cases_Bool (is_at_hand f split (work_at v.instruction))))
        (cases_Bool (crosses_down f split v))

    read_crosses : (i : ℕ) → i < length f.code → is_post split i ≡ true → (v : ValueId) → is_named f v ≡ true → is_among v (operands (work_at i)) ≡ true → is_post split v.instruction ≡ false → is_at_hand f split (work_at v.instruction) ≡ false → crosses_down f split v ≡ true
    read_crosses i within post v named among apart hand =
        and_from (is_named f v && not (is_post split v.instruction)) (is_among v (f.send ∷ f.port ∷ []) || (not (is_at_hand f split (work_at v.instruction)) && is_read_by f (is_post split) v)) (and_from (is_named f v) (not (is_post split v.instruction)) named (ap not apart))
        (or_right (is_among v (f.send ∷ f.port ∷ [])) (not (is_at_hand f split (work_at v.instruction)) && is_read_by f (is_post split) v)
        (and_from (not (is_at_hand f split (work_at v.instruction))) (is_read_by f (is_post split) v) (ap not hand)
        (any_passes (length f.code) (λ j. is_post split j && is_among v (operands (work_at j))) i within (and_from (is_post split i) (is_among v (operands (work_at i))) post among))))

    abbrev PostAt : ℕ → Type 0
    PostAt i = is_post split i ≡ true → (place : ℕ) → Same Q F (record { instruction = i; result = place })

    post_step : (n : ℕ) → n < length f.code → ((i : ℕ) → i < n → PostAt i) → PostAt n
    post_step n within before post place =
        let now = (after f st packet n).store in
        let l = is_live f.blocks F (step_at f n).block in
        staged_value f (post_stage split) (given_down f split D packet) tables packet (record { instruction = n; result = place }) post (post_rises f split legal) within
        ∙ ap (λ rs. slice_index rs place) (readings_that_agree-results Q F false tables packet (work_at n) (readings_that_agree-operands Q F (work_at n) (each_weaker (λ v. (v.instruction < n) × ((is_among v (operands (work_at n)) ≡ true) × (is_named f v ≡ true))) (Same Q F)
        (λ v h. ⊎_elim (λ also. before v.instruction h.0 also v.result) (λ other. given_same v (omega (arith, h.0, within)) h.1.1 other (read_crosses n within post v h.1.1 h.1.0 other)) (cases_Bool (is_post split v.instruction)))
        (operands (work_at n)) (each_both (λ v. v.instruction < n) (λ v. (is_among v (operands (work_at n)) ≡ true) × (is_named f v ≡ true)) (operands (work_at n)) (well.after_operands n within) (each_both (λ v. is_among v (operands (work_at n)) ≡ true) (λ v. is_named f v ≡ true) (operands (work_at n)) (each_among (operands (work_at n))) (well.names n within))))))
        ∙ ap (λ rs. slice_index rs place) (seen_same F false l tables now packet (work_at n) (post_kind f split legal n within post) (constant_sight f tables now (work_at n) (λ o constant looks. constants f split st tables packet well legal has loaded n (omega (arith, within)) o constant (post_shown f split n o within post looks)) (post_look f split legal n within post)))
        ∙ sym ((a_run_is_its_values f st packet n well within).value place)

    post_below : (n : ℕ) → n ≤ length f.code → (i : ℕ) → i < n → PostAt i
    post_below zero le i lt = absurd (omega (arith, lt))
    post_below (suc n) le i lt =
        ⊎_elim (λ e. subst PostAt (sym e) (post_step n le (post_below n (omega (arith, le))))) (λ less. post_below n (omega (arith, le)) i less) (eq-or-lt_of_le {n = i} {m = n} (omega (arith, lt)))

    post_same : (v : ValueId) → v.instruction < length f.code → is_post split v.instruction ≡ true → Q v ≡ F v
    post_same v within post = post_below (length f.code) (omega arith) v.instruction within post v.result

    out_same : (v : ValueId) → v.instruction < length f.code → is_named f v ≡ true → is_among v (f.send ∷ f.port ∷ []) ≡ true → Q v ≡ F v
    out_same v within named among =
        ⊎_elim
        (λ post. post_same v within post)
        (λ other. given_same v within named other (λ hand. and_from (is_named f v && not (is_post split v.instruction)) (is_among v (f.send ∷ f.port ∷ []) || (not (is_at_hand f split (work_at v.instruction)) && is_read_by f (is_post split) v)) (and_from (is_named f v) (not (is_post split v.instruction)) named (ap not other)) (or_left (is_among v (f.send ∷ f.port ∷ [])) (not (is_at_hand f split (work_at v.instruction)) && is_read_by f (is_post split) v) among)))
        (cases_Bool (is_post split v.instruction))

    write_same : (w : FieldValue) → IsOutput f (row w.field).width w.value → (is_post split w.value.instruction ≡ false → is_written_value f split w.value ≡ true) → leaving split S Q w.value ≡ F w.value
    write_same w root written =
        ⊎_elim
        (λ post. cond-true (is_post split w.value.instruction) (Q w.value) (S w.value) post ∙ post_same w.value (named_within f w.value root.named) post)
        (λ other. cond-false (is_post split w.value.instruction) (Q w.value) (S w.value) other ∙ knows_run w.value (named_within f w.value root.named) root.named other (or_right (crosses_down f split w.value) (is_written_value f split w.value) (written other)))
        (cases_Bool (is_post split w.value.instruction))

    writes_all : Each (λ (w : FieldValue). leaving split S Q w.value ≡ F w.value) f.fields
    writes_all =
        each_weaker (λ (w : FieldValue). IsWritten f w × (is_post split w.value.instruction ≡ false → is_written_value f split w.value ≡ true)) (λ (w : FieldValue). leaving split S Q w.value ≡ F w.value) (λ (w : FieldValue) h. write_same w h.0.output h.1) f.fields
        (each_both (IsWritten f) (λ (w : FieldValue). is_post split w.value.instruction ≡ false → is_written_value f split w.value ≡ true) f.fields well.fields (each_written split f.fields))

    pub verdict_same : post_verdict f split S D tables packet ≡ flat_verdict f st packet
    verdict_same =
        let ends = each_among (f.send ∷ f.port ∷ []) in
        let L = leaving split S Q in
        sent_same (out_same f.send (named_within f f.send well.send.named) well.send.named ends.0)
        (out_same f.port (named_within f f.port well.port.named) well.port.named ends.1.0) (writes_same L F f.fields packet.bytes writes_all)
