-- The text that tells a split is a text of that split.
use Rattle.std.proofs.Common.{◌≡◌, ℕ, zero, suc, Bool, true, false, List, [], ◌∷◌, ◌++◌, length, Option, Some, None, refl, sym, ap, ◌∙◌, append_assoc, map}
use Rattle.std.proofs.Common.{nat_lt, subst, arith}
use Rattle.std.specs.Prelude.{codes}
use Rattle.std.specs.Fmt.{decimal}
use Rattle.std.proofs.lemmas.List.{append-nil}
use Rattle.gal_io.specs.Lines.{lines, line_end, told_of}
use Rattle.gal_bits.specs.declared.op.Op.{Op}
use Rattle.gal_bits.specs.declared.op.Op.TheVariants.{Add, Select}
use Rattle.gal_bits.specs.Operators.{operator_row}
use Rattle.packet_fields.specs.declared.field.Field.{Field}
use Rattle.packet_fields.specs.declared.field.Field.TheVariants.{MetaPort}
use Rattle.packet_fields.specs.Table.{row}
use Rattle.state_store.specs.declared.object.ObjectDecl.{ObjectDecl}
use Rattle.flat_ir.specs.declared.program.ValueId.{ValueId}
use Rattle.flat_ir.specs.declared.program.Block.{Block}
use Rattle.flat_ir.specs.declared.program.FieldValue.{FieldValue}
use Rattle.flat_ir.specs.Program.{Program, Step, Work}
use Rattle.flat_ir.specs.Program.Work.{const, field, apply, shift, select, byte, look, put, del}
use Rattle.flat_ir.specs.Listing.{block_line, block_lines, keyed_text, listing, loop_mark, name_of, operator_text, polarity_text, send_line, step_line}
use Rattle.flat_ir.specs.Listing.{step_lines, value_text, values_text, work_text, write_line, write_lines}
use Rattle.split_model.specs.declared.split.Slow.{Slow}
use Rattle.split_model.specs.declared.split.Slow.TheVariants.{Carried, Server, Post}
use Rattle.split_model.specs.declared.split.Part.{Part}
use Rattle.split_model.specs.Bounds.{HasFewStages}
use Rattle.split_validate.specs.SplitText.{first_line, part_line, part_lines, pre_text, slow_text, split_text}
use Rattle.split_validate.specs.SplitLines.{IsSplitText}
use Rattle.split_validate.specs.CountsText.{counts_text}
use Rattle.resource_limits.specs.Counts.{counts_of, greatest}
use Rattle.resource_limits.specs.declared.counting.Counts.{Counts}
use Rattle.gallium_cli.specs.Answers.{compiled_text, heading_text}
use Rattle.gallium_cli.proofs.Comments.{Piece, piece, number, space, joined_unended, IsUnended, decimal_unended, IsSkipped, both_skipped, comment, IsTold}
use Rattle.gallium_cli.proofs.Comments.{both_told, told_line, numbered, goes_on}
use Rattle.std.specs.List.{AllByRecursion as Each, list_all}
use Rattle.std.proofs.lemmas.Bool.{and_parts, ltb-true}
use Rattle.std.proofs.lemmas.Bool.Decides.{nat_tests}
use Rattle.state_store.specs.declared.object.Kind.{Kind}
use Rattle.state_store.specs.declared.object.Kind.TheVariants.{Table}
use Rattle.element_lang.specs.Accepted.{IsSource}
use Rattle.element_lang.specs.Surface.{Declared, Surface, unplaced_decl, named_as, named_decl}
use Rattle.element_lang.specs.Token.{IsName}
use Rattle.element_lang.specs.Tree.{Tree}
use Rattle.element_text.specs.Names.{declared_name}
use Rattle.element_text.proofs.SpelledNames.{spelled_names}
use Rattle.element_text.proofs.TokenNames.{tokens_named}
use Rattle.report_text.specs.Form.{is_plain}
use Rattle.gallium_cli.proofs.Declared.{name_plain}

-- bytes above a blank end no line
plain_unended : (bytes : List ℕ) → is_plain bytes ≡ true → IsUnended bytes
plain_unended [] h = refl
plain_unended (b ∷ bs) h =
    let parts = and_parts (nat_lt 32 b) (list_all (nat_lt 32) bs) h in
    let above = ltb-true 32 b parts.0 in
    let on : goes_on b ≡ true = grind (arith, nat_tests) in
    rw on (plain_unended bs parts.1)

-- ## Objects

name_kept : (kind : Kind) (o : ObjectDecl) → declared_name (named_as kind o) ≡ o.name
name_kept Table o = refl
name_kept _ o = refl

-- no name of these objects holds one
abbrev pub HaveUnendedNames : List ObjectDecl → Type 0
HaveUnendedNames = Each (λ (o : ObjectDecl). IsUnended o.name)

abbrev placed : ObjectDecl → Declared
placed o = record { at = 0; decl = named_decl o }

one_name : (d : Declared) (o : ObjectDecl) → unplaced_decl d ≡ placed o → IsName (declared_name d.decl)
    → IsUnended o.name
one_name d o same h =
    plain_unended o.name
    (name_plain o.name (subst (λ (word : List ℕ). IsName word) (ap (λ (e : Declared). declared_name e.decl) same ∙ name_kept o.kind o) h))

objects_unended : (ds : List Declared) (os : List ObjectDecl) → map unplaced_decl ds ≡ map placed os
    → Each (λ (d : Declared). IsName (declared_name d.decl)) ds → HaveUnendedNames os
objects_unended ds [] same h = tt
objects_unended [] (o ∷ os) same h = cc
objects_unended (d ∷ ds) (o ∷ os) same h =
    let first : unplaced_decl d ≡ placed o = cc in
    let rest : map unplaced_decl ds ≡ map placed os = cc in
    (one_name d o first h.0, objects_unended ds os rest h.1)

pub source_names : (text : List ℕ) (m : Tree) → IsSource text m → HaveUnendedNames m.objects
source_names text m is =
    let s = is.spelling in
    let names = spelled_names s.surface s.spells (tokens_named text s.placed s.tokens) in
    objects_unended s.surface.objects m.objects (ap (λ (x : Surface). x.objects) s.named) names.objects

-- ## Words

operator_unended : (op : Op) → IsUnended (operator_row op).name
operator_unended Add = refl
operator_unended _ = refl

field_unended : (f : Field) → IsUnended (row f).name
field_unended MetaPort = refl
field_unended _ = refl

value_unended : (v : ValueId) → IsUnended (value_text v)
value_unended v = joined_unended (number v.instruction ∷ piece (codes ".") refl ∷ []) (number v.result)

abbrev value : ValueId → Piece
value v = piece (value_text v) (value_unended v)

values_unended : (vs : List ValueId) → IsUnended (values_text vs)
values_unended [] = refl
values_unended (v ∷ vs) = joined_unended (space ∷ value v ∷ []) (piece (values_text vs) (values_unended vs))

abbrev values : List ValueId → Piece
values vs = piece (values_text vs) (values_unended vs)

abbrev operator_name : Op → Piece
operator_name op = piece (operator_row op).name (operator_unended op)

applied_unended : (op : Op) (width : ℕ) (args : List ValueId) → IsUnended (operator_text op width args)
applied_unended op width args = joined_unended (operator_name op ∷ space ∷ number width ∷ []) (values args)

name_unended : (objects : List ObjectDecl) (o : ℕ) → HaveUnendedNames objects → IsUnended (name_of objects o)
name_unended [] o h = refl
name_unended (d ∷ ds) zero h = h.0
name_unended (d ∷ ds) (suc o) h = name_unended ds o h.1

keyed_unended : (word : List ℕ) (objects : List ObjectDecl) (o : ℕ) (keys : List ValueId) → IsUnended word
    → HaveUnendedNames objects → IsUnended (keyed_text word objects o keys)
keyed_unended word objects o keys is names =
    joined_unended (piece word is ∷ space ∷ piece (name_of objects o) (name_unended objects o names) ∷ []) (values keys)

work_unended : (objects : List ObjectDecl) (w : Work) → HaveUnendedNames objects → IsUnended (work_text objects w)
work_unended objects (const width n) names =
    joined_unended (piece (codes "const ") refl ∷ number width ∷ space ∷ []) (number n)
work_unended objects (field name) names =
    joined_unended (piece (codes "field ") refl ∷ []) (piece (row name).name (field_unended name))
work_unended objects (apply op width args) names = applied_unended op width args
work_unended objects (shift op width arg by) names =
    joined_unended (piece (operator_text op width (arg ∷ [])) (applied_unended op width (arg ∷ [])) ∷ space ∷ []) (number by)
work_unended objects (select width cond first second) names = applied_unended Select width (cond ∷ first ∷ second ∷ [])
work_unended objects (byte index) names = joined_unended (piece (codes "byte ") refl ∷ []) (value index)
work_unended objects (look object keys) names = keyed_unended (codes "look") objects object keys refl names
work_unended objects (put object keys vs) names =
    joined_unended
    (piece (keyed_text (codes "put") objects object keys) (keyed_unended (codes "put") objects object keys refl names) ∷ [])
    (values vs)
work_unended objects (del object keys) names = keyed_unended (codes "del") objects object keys refl names

mark_unended : (looped : Bool) → IsUnended (loop_mark looped)
mark_unended true = refl
mark_unended false = refl

polarity_unended : (polarity : Bool) → IsUnended (polarity_text polarity)
polarity_unended true = refl
polarity_unended false = refl

counts_unended : (c : Counts) → IsUnended (counts_text c)
counts_unended c =
    joined_unended
    (piece (codes "accesses ") refl ∷ number (greatest c.accesses) ∷ piece (codes " stages ") refl ∷ number c.stages
    ∷ piece (codes " table_bits ") refl ∷ number c.table_bits ∷ piece (codes " writeback ") refl
    ∷ number (greatest c.writes) ∷ piece (codes " transfer_bytes ") refl ∷ [])
    (number c.transfer_bytes)

-- ## Comments

heading_skipped : (n : ℕ) (words : List ℕ) → IsUnended words → IsSkipped (heading_text n words)
heading_skipped n words h = λ rest.
    let first = codes "# instructions " ++ (decimal n ++ line_end) in
    let second = codes "# " ++ (words ++ line_end) in
    let parts : heading_text n words ≡ first ++ second =
    ap (λ (t : List ℕ). codes "# instructions " ++ t) (sym (append_assoc (decimal n) line_end second))
    ∙ sym (append_assoc (codes "# instructions ") (decimal n ++ line_end) second) in
    ap (λ (t : List ℕ). told_of (lines (t ++ rest))) parts
    ∙ both_skipped first second (comment (piece (codes " instructions ") refl ∷ number n ∷ []))
    (comment (space ∷ piece words h ∷ [])) rest

step_skipped : (objects : List ObjectDecl) (i : ℕ) (s : Step) → HaveUnendedNames objects
    → IsSkipped (step_line objects i s)
step_skipped objects i s names =
    comment (space ∷ number i ∷ piece (codes " b") refl ∷ number s.block ∷ space
    ∷ piece (work_text objects s.work) (work_unended objects s.work names)
    ∷ piece (loop_mark s.looped) (mark_unended s.looped) ∷ [])

steps_skipped : (objects : List ObjectDecl) (i : ℕ) (ss : List Step) → HaveUnendedNames objects
    → IsSkipped (step_lines objects i ss)
steps_skipped objects i [] names = λ rest. refl
steps_skipped objects i (s ∷ ss) names =
    both_skipped (step_line objects i s) (step_lines objects (suc i) ss) (step_skipped objects i s names)
    (steps_skipped objects (suc i) ss names)

block_skipped : (k : ℕ) (b : Block) → IsSkipped (block_line k b)
block_skipped k b =
    comment (piece (codes " block ") refl ∷ number k ∷ piece (codes " in ") refl ∷ number b.parent
    ∷ piece (codes " when ") refl ∷ value b.cond ∷ piece (codes " is ") refl
    ∷ piece (polarity_text b.polarity) (polarity_unended b.polarity) ∷ [])

blocks_skipped : (k : ℕ) (bs : List Block) → IsSkipped (block_lines k bs)
blocks_skipped k [] = λ rest. refl
blocks_skipped k (b ∷ bs) =
    both_skipped (block_line k b) (block_lines (suc k) bs) (block_skipped k b) (blocks_skipped (suc k) bs)

send_skipped : (send port : ValueId) → IsSkipped (send_line send port)
send_skipped send port =
    comment (piece (codes " send ") refl ∷ value send ∷ piece (codes " port ") refl ∷ value port ∷ [])

write_skipped : (w : FieldValue) → IsSkipped (write_line w)
write_skipped w =
    comment (piece (codes " write ") refl ∷ piece (row w.field).name (field_unended w.field) ∷ space ∷ value w.value ∷ [])

writes_skipped : (ws : List FieldValue) → IsSkipped (write_lines ws)
writes_skipped [] = λ rest. refl
writes_skipped (w ∷ ws) = both_skipped (write_line w) (write_lines ws) (write_skipped w) (writes_skipped ws)

listing_skipped : (f : Program) → HaveUnendedNames f.objects → IsSkipped (listing f)
listing_skipped f names =
    let last = send_line f.send f.port ++ write_lines f.fields in
    let steps = step_lines f.objects 0 f.code ++ last in
    both_skipped (block_lines 1 f.blocks) steps (blocks_skipped 1 f.blocks)
    (both_skipped (step_lines f.objects 0 f.code) last (steps_skipped f.objects 0 f.code names)
    (both_skipped (send_line f.send f.port) (write_lines f.fields)
    (send_skipped f.send f.port) (writes_skipped f.fields)))

-- ## Parts

pre_unended : (pre : Option ℕ) → IsUnended (pre_text pre)
pre_unended None = refl
pre_unended (Some stage) = decimal_unended stage

slow_unended : (slow : Slow) → IsUnended (slow_text slow)
slow_unended Carried = refl
slow_unended Server = refl
slow_unended (Post stage) = joined_unended (piece (codes "post ") refl ∷ []) (number stage)

part_told : (i : ℕ) (part : Part) → IsTold (part_line i part)
part_told i part =
    numbered i (piece (pre_text part.pre) (pre_unended part.pre) ∷ space ∷ piece (slow_text part.slow) (slow_unended part.slow) ∷ [])

parts_told : (i : ℕ) (parts : List Part) → IsTold (part_lines i parts)
parts_told i [] = λ rest told. told
parts_told i (part ∷ parts) =
    both_told (part_line i part) (part_lines (suc i) parts) (part_told i part) (parts_told (suc i) parts)

first_told : (n : ℕ) → IsTold (first_line n)
first_told n = told_line 115 112 (piece (codes "lit 1 ") refl ∷ number n ∷ []) refl refl refl

last_told : IsTold (codes "end" ++ line_end)
last_told = told_line 101 110 (piece (codes "d") refl ∷ []) refl refl refl

split_told : (split : List Part) → told_of (lines (split_text split)) ≡ lines (split_text split)
split_told split =
    let last = codes "end" ++ line_end in
    let parts = part_lines 0 split ++ last in
    let whole =
    both_told (first_line (length split)) parts (first_told (length split))
    (both_told (part_lines 0 split) last (parts_told 0 split) last_told) in
    let none = append-nil (split_text split) in
    ap (λ (t : List ℕ). told_of (lines t)) (sym none) ∙ whole [] refl ∙ ap lines none

-- ## The text

pub compiled_is : (f : Program) (split : List Part) (writeback : ℕ) → HaveUnendedNames f.objects
    → length split ≡ length f.code → HasFewStages split
    → IsSplitText (length f.code) (compiled_text f split writeback) split
compiled_is f split writeback names parts few =
    let counts = counts_of f split writeback in
    record {
      parts = parts;
      stages = few;
      told =
          heading_skipped (length f.code) (counts_text counts) (counts_unended counts) (listing f ++ split_text split)
          ∙ listing_skipped f names (split_text split) ∙ split_told split;
    }
