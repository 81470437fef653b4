-- What is kept of a pass.
use Rattle.std.proofs.Common.{◌≡◌, ◌++◌, ◌||◌, ℕ, zero, suc, Bool, true, List, [], ◌∷◌, map, refl, sym, ap, ◌∙◌, inl, inr}
use Rattle.std.specs.List.{list_any, AllByRecursion as Each}
use Rattle.std.proofs.lemmas.Bool.{or_left, or_right}
use Rattle.packet_fields.specs.declared.packet.Packet.{Packet}
use Rattle.packet_fields.specs.Fields.{with_field}
use Rattle.flat_ir.specs.declared.program.ValueId.{ValueId}
use Rattle.flat_ir.specs.declared.program.Block.{Block}
use Rattle.flat_ir.specs.declared.program.FieldValue.{FieldValue}
use Rattle.flat_ir.specs.Blocks.{Reading, block_at, is_live, line}
use Rattle.flat_ir.specs.Laws.{Same}
use Rattle.flat_ir.specs.Program.{Program}
use Rattle.flat_ir.specs.WellFormed.{EachCondition}
use Rattle.flat_ir.specs.Run.{with_writes}
use Rattle.split_model.specs.declared.layout.Crossing.{Crossing}
use Rattle.split_model.specs.Crossing.{is_value}
use Rattle.split_model.specs.Crossing.{is_among as is_among_values}
use Rattle.switch_ir.specs.Meaning.{leaves}
use Rattle.switch_ir.specs.Passes.{PassCode}
use Rattle.switch_ir.specs.Spans.{is_condition, is_read_last, is_tested}
use Rattle.switch_machine.specs.Keeping.{conditions, left_with, lines_of, values_in}
use Rattle.switch_machine.proofs.Numbered.{same_value}
use Rattle.switch_machine.proofs.Members.{has_any, has_each, has_made, has_parts, Has}
use Rattle.flat_ir.proofs.Laws.{readings_that_agree-live}
use Rattle.lemmas.proofs.Lists.{each_append}

-- ## What is kept is read last

module _ (up : List Crossing) (pass : PassCode) where
  abbrev pub IsLast : ValueId → Type 0
  IsLast v = is_read_last up pass v ≡ true

  abbrev leaves_by : ValueId → Bool
  leaves_by v = is_among_values v (pass.send ∷ pass.port ∷ []) || list_any (λ (w : FieldValue). is_value v w.value) pass.fields

  same : (a b : ValueId) → a ≡ b → is_value b a ≡ true
  same a b e = same_value b a (sym (ap (λ (x : ValueId). x.instruction) e)) (sym (ap (λ (x : ValueId). x.result) e))

  by_out : (v : ValueId) → leaves_by v ≡ true → IsLast v
  by_out v e =
      or_right (list_any (λ (c : Crossing). is_value v c.value) up) (is_tested pass v || leaves_by v) (or_right (is_tested pass v) (leaves_by v) e)

  left_one : (v : ValueId) → Has (left_with pass) v → IsLast v
  left_one v (inl is) = by_out v (or_left (is_among_values v (pass.send ∷ pass.port ∷ [])) (list_any (λ (w : FieldValue). is_value v w.value) pass.fields)
      (has_any (is_value v) (pass.send ∷ pass.port ∷ []) pass.send (inl refl) (same pass.send v is)))
  left_one v (inr (inl is)) = by_out v (or_left (is_among_values v (pass.send ∷ pass.port ∷ [])) (list_any (λ (w : FieldValue). is_value v w.value) pass.fields)
      (has_any (is_value v) (pass.send ∷ pass.port ∷ []) pass.port (inr (inl refl)) (same pass.port v is)))
  left_one v (inr (inr h)) =
      let m = has_made (λ (w : FieldValue). w.value) pass.fields v h in
      by_out v (or_right (is_among_values v (pass.send ∷ pass.port ∷ [])) (list_any (λ (w : FieldValue). is_value v w.value) pass.fields)
      (has_any (λ (w : FieldValue). is_value v w.value) pass.fields m.from m.there (same m.from.value v m.is)))

  crossing_one : (v : ValueId) → Has (values_in up) v → IsLast v
  crossing_one v h =
      let m = has_made (λ (c : Crossing). c.value) up v h in
      or_left (list_any (λ (c : Crossing). is_value v c.value) up) (is_tested pass v || leaves_by v)
      (has_any (λ (c : Crossing). is_value v c.value) up m.from m.there (same m.from.value v m.is))

  condition_any : (v : ValueId) (ks : List ℕ) → Has (conditions pass.blocks ks) v → list_any (is_condition pass.blocks v) ks ≡ true
  condition_any v [] h = absurd h
  condition_any v (zero ∷ ks) h = condition_any v ks h
  condition_any v (suc k ∷ ks) (inl is) =
      or_left (is_value v (block_at pass.blocks k).cond) (list_any (is_condition pass.blocks v) ks) (same (block_at pass.blocks k).cond v is)
  condition_any v (suc k ∷ ks) (inr h) =
      or_right (is_value v (block_at pass.blocks k).cond) (list_any (is_condition pass.blocks v) ks) (condition_any v ks h)

  tested_any : (v : ValueId) (bs : List ℕ) → Has (lines_of pass.blocks bs) v
      → list_any (λ b. list_any (is_condition pass.blocks v) (line pass.blocks b)) bs ≡ true
  tested_any v [] h = absurd h
  tested_any v (b ∷ bs) h =
      let here = list_any (is_condition pass.blocks v) (line pass.blocks b) in
      let later = list_any (λ k. list_any (is_condition pass.blocks v) (line pass.blocks k)) bs in
      elim (has_parts (conditions pass.blocks (line pass.blocks b)) (lines_of pass.blocks bs) v h) [
        | inl first ↦ or_left here later (condition_any v (line pass.blocks b) first)
        | inr rest ↦ or_right here later (tested_any v bs rest)
      ]

  tested_one : (v : ValueId) → Has (lines_of pass.blocks pass.rest) v → IsLast v
  tested_one v h =
      or_right (list_any (λ (c : Crossing). is_value v c.value) up) (is_tested pass v || leaves_by v)
      (or_left (is_tested pass v) (leaves_by v) (tested_any v pass.rest h))

  pub last_up : Each IsLast (values_in up ++ (lines_of pass.blocks pass.rest ++ left_with pass))
  last_up =
      each_append IsLast (values_in up) (lines_of pass.blocks pass.rest ++ left_with pass) (has_each IsLast (values_in up) crossing_one)
      (each_append IsLast (lines_of pass.blocks pass.rest) (left_with pass) (has_each IsLast (lines_of pass.blocks pass.rest) tested_one) (has_each IsLast (left_with pass) left_one))

-- ## Readings that agree on what is kept

abbrev Alike : Reading → Reading → List ValueId → Type 0
Alike r r' vs = Each (λ v. r v ≡ r' v) vs

pub alike_left : (r r' : Reading) (xs ys : List ValueId) → Alike r r' (xs ++ ys) → Alike r r' xs
alike_left r r' [] ys h = tt
alike_left r r' (x ∷ xs) ys h = (h.0, alike_left r r' xs ys h.1)

pub alike_right : (r r' : Reading) (xs ys : List ValueId) → Alike r r' (xs ++ ys) → Alike r r' ys
alike_right r r' [] ys h = h
alike_right r r' (x ∷ xs) ys h = alike_right r r' xs ys h.1

fields_same : (r r' : Reading) (ws : List FieldValue) → Alike r r' (map (λ (w : FieldValue). w.value) ws) → (bytes : List ℕ) → with_writes ws r bytes ≡ with_writes ws r' bytes
fields_same r r' [] h bytes = refl
fields_same r r' (w ∷ ws) h bytes = rw (h.0, fields_same r r' ws h.1 (with_field bytes w.field (r' w.value)))

pub sent_same : (r r' : Reading) (pass : PassCode) (packet : Packet) → Alike r r' (left_with pass) → leaves pass r packet ≡ leaves pass r' packet
sent_same r r' pass packet h = rw (h.0, h.1.0, fields_same r r' pass.fields h.1.1 packet.bytes)

-- a program with these blocks
abbrev with_blocks : List Block → Program
with_blocks blocks = record {
  objects = [];
  blocks = blocks;
  code = [];
  send = record { instruction = 0; result = 0 };
  port = record { instruction = 0; result = 0 };
  fields = [];
}

module _ (r r' : Reading) (blocks : List Block) where
  conditions_same : (ks : List ℕ) → Alike r r' (conditions blocks ks) → Each (EachCondition (with_blocks blocks) (Same r r')) ks
  conditions_same [] h = tt
  conditions_same (zero ∷ ks) h = (tt, conditions_same ks h)
  conditions_same (suc k ∷ ks) h = (h.0, conditions_same ks h.1)

  pub tested_same : (bs : List ℕ) → Alike r r' (lines_of blocks bs) → list_any (is_live blocks r) bs ≡ list_any (is_live blocks r') bs
  tested_same [] h = refl
  tested_same (b ∷ bs) h =
      ap (λ x. x || list_any (is_live blocks r) bs)
      (readings_that_agree-live (with_blocks blocks) r r' b (conditions_same (line blocks b) (alike_left r r' (conditions blocks (line blocks b)) (lines_of blocks bs) h)))
      ∙ ap (λ x. is_live blocks r' b || x) (tested_same bs (alike_right r r' (conditions blocks (line blocks b)) (lines_of blocks bs) h))
