-- The numbers of listed values.
use Rattle.std.proofs.Common.{◌≡◌, ◌<◌, ◌==◌, ◌&&◌, ◌||◌, ℕ, suc, Bool, true, false, List, [], ◌∷◌, ◌++◌, map, length, refl, sym, ap, ◌∙◌, arith}
use Rattle.std.specs.List.{filter, All, AllByRecursion as Each}
use Rattle.std.proofs.lemmas.Bool.{eq-eqb, le-ltb, lt-ltb, ne_eqb}
use Rattle.std.proofs.lemmas.List.{map-append}
use Rattle.std.proofs.lemmas.List.Elements.{All-from_recursion, All-map}
use Rattle.flat_ir.specs.declared.program.FieldValue.{FieldValue}
use Rattle.flat_ir.specs.declared.program.ValueId.{ValueId}
use Rattle.flat_ir.specs.Program.{is_named, Program}
use Rattle.flat_ir.specs.WellFormed.{IsWritten}
use Rattle.split_model.specs.declared.layout.Crossing.{Crossing}
use Rattle.split_model.specs.declared.split.Part.{Part}
use Rattle.split_model.specs.Crossing.{is_server_write}
use Rattle.split_model.specs.Layouts.{crossing, down_layout, down_values, number_of, values_of}
use Rattle.split_model.specs.Passes.{server_fields}
use Rattle.transfer_header.specs.Steps.{is_among}
use Rattle.server_runtime.specs.Spans.{is_taken, is_turn, numbers_of, reads_at, values_kept, values_read}
use Rattle.server_runtime.proofs.Numbers.{below_all, named_parts}
use Rattle.lemmas.proofs.Lists.{each_filter, each_weaker}

-- of a layout
pub crossing_numbers : (f : Program) (vs : List ValueId) → map (λ (c : Crossing). c.number) (map (crossing f) vs) ≡ numbers_of f vs
crossing_numbers f [] = refl
crossing_numbers f (v ∷ vs) = ap (λ ns. number_of f v ∷ ns) (crossing_numbers f vs)

-- of the fields that the server sets
pub written_named : (f : Program) (split : List Part) (ws : List FieldValue) → Each (IsWritten f) ws → Each (λ (w : FieldValue). is_named f w.value ≡ true) (filter (is_server_write split) ws)
written_named f split ws h =
    each_filter (λ (w : FieldValue). is_named f w.value ≡ true) (is_server_write split) ws
    (each_weaker (IsWritten f) (λ (w : FieldValue). is_server_write split w ≡ true → is_named f w.value ≡ true) (λ w is e. is.output.named) ws h)

-- of what is read once all instructions are done
pub kept_numbers : (f : Program) (split : List Part) (layout : List Crossing) → layout ≡ down_layout f split
    → map (λ (c : Crossing). c.number) layout ++ numbers_of f (map (λ (w : FieldValue). w.value) (server_fields f split)) ≡ numbers_of f (values_kept f split)
kept_numbers f split layout is =
    let more = map (λ (w : FieldValue). w.value) (server_fields f split) in
    ap (λ l. l ++ numbers_of f more) (ap (map (λ (c : Crossing). c.number)) is ∙ crossing_numbers f (down_values f split)) ∙ sym (map-append (number_of f) (down_values f split) more)

-- each such number is one of a value
pub numbers_within : (f : Program) (vs : List ValueId) → Each (λ (v : ValueId). is_named f v ≡ true) vs → All (λ (n : ℕ). n < length (values_of f)) (numbers_of f vs)
numbers_within f vs h =
    All-map (λ (n : ℕ). n < length (values_of f)) (number_of f) vs
    (All-from_recursion (λ (v : ValueId). number_of f v < length (values_of f)) vs
    (each_weaker (λ (v : ValueId). is_named f v ≡ true) (λ (v : ValueId). number_of f v < length (values_of f))
    (λ v named. let parts = named_parts f v named in omega (arith, parts.1, below_all f v.instruction parts.0)) vs h))

-- ## What a step reads

pub step_reads : (f : Program) (split : List Part) (i n : ℕ) → i < length f.code → reads_at f split (suc i) n ≡ (is_turn f split i && is_among n (numbers_of f (values_read f i)))
step_reads f split i n lt =
    ap (λ (b : Bool). (is_taken f split i && is_among n (numbers_of f (values_read f i))) || (b && is_among n (numbers_of f (values_kept f split)))) (ne_eqb i (length f.code) (λ e. omega (arith, e, lt)))
    ∙ or_none (is_taken f split i && is_among n (numbers_of f (values_read f i)))
    ∙ ap (λ (b : Bool). (b && is_turn f split i) && is_among n (numbers_of f (values_read f i))) (lt-ltb i (length f.code) lt)
  where
    or_none : (b : Bool) → (b || false) ≡ b
    or_none true = refl
    or_none false = refl

pub end_reads : (f : Program) (split : List Part) (n : ℕ) → reads_at f split (suc (length f.code)) n ≡ is_among n (numbers_of f (values_kept f split))
end_reads f split n =
    let i = length f.code in
    ap (λ (b : Bool). ((b && is_turn f split i) && is_among n (numbers_of f (values_read f i))) || (i == i && is_among n (numbers_of f (values_kept f split)))) (le-ltb i i (omega arith))
    ∙ ap (λ (b : Bool). b && is_among n (numbers_of f (values_kept f split))) (eq-eqb i i refl)
