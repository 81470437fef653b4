-- How a middlebox becomes a flat program.
use Rattle.std.specs.Prelude.{ℕ, zero, suc, ◌==◌, Bool, true, false, ◌&&◌, List, [], ◌∷◌, ◌++◌, length, replicate}
use Rattle.std.specs.Prelude.{get_or, slice_set, Option, Some, None, if◌then◌else◌}
use Rattle.gal_bits.specs.declared.op.Op.{Op}
use Rattle.gal_bits.specs.declared.op.Op.TheVariants.{Select}
use Rattle.packet_fields.specs.declared.field.Field.{Field}
use Rattle.packet_fields.specs.Table.{all_fields, field_index}
pub use Rattle.packet_fields.specs.Table.{field_widths}
use Rattle.element_lang.specs.Tree.{ExprTree, Exprs, StmtTree, BodyTree, Tree}
use Rattle.element_lang.specs.Tree.ExprTree.{lit, local, field, byte, shift, apply}
use Rattle.element_lang.specs.Tree.Exprs.{no_expr, expr}
use Rattle.element_lang.specs.Tree.StmtTree.{let_local, assign, set_field, look, put, del, choose, repeat, send, drop}
use Rattle.element_lang.specs.Tree.BodyTree.{done, stmt}
use Rattle.element_lang.specs.Widths.{local_widths, width_of}
use Rattle.element_lang.specs.Rules.{is_empty}
use Rattle.flat_ir.specs.declared.program.ValueId.{ValueId}
use Rattle.flat_ir.specs.declared.program.Block.{Block}
use Rattle.flat_ir.specs.declared.program.FieldValue.{FieldValue}
use Rattle.flat_ir.specs.Program as flat
use Rattle.flat_ir.specs.Program.{Program, Step, Work}
use Rattle.flatten.specs.declared.place.Ending.{Ending}
use Rattle.flatten.specs.declared.place.Ending.TheVariants.{No, Yes, Maybe}
use Rattle.flatten.specs.declared.place.Place.{Place}
use Rattle.flatten.specs.Occurs.{is_in_body}

-- what is given so far; it only grows
pub record Emitted : Type 0 where
  pub code : List Step
  pub blocks : List Block

-- The values that stand for the variables of a run: of each local in scope, by number, and of each occurring field, in
-- field order; whether the packet leaves and by which port; and whether the run has ended.
pub record View : Type 0 where
  pub locals : List (Option ValueId)
  pub fields : List (Option ValueId)
  pub send : ValueId
  pub port : ValueId
  pub ended : Ending

-- what is given once some piece is flattened, and what comes of the piece: the state behind it, one value, or values
pub record At : Type 0 where
  pub given : Emitted
  pub view : View

pub record Valued : Type 0 where
  pub given : Emitted
  pub id : ValueId

pub record Listed : Type 0 where
  pub given : Emitted
  pub ids : List ValueId

pub record Scoped : Type 0 where
  pub given : Emitted
  pub ids : List (Option ValueId)

pub record Merged : Type 0 where
  pub given : Emitted
  pub id : Option ValueId

pub record EndedAt : Type 0 where
  pub given : Emitted
  pub ended : Ending

-- ## Giving

abbrev pub result_of : ℕ → ℕ → ValueId
result_of instruction result = record { instruction = instruction; result = result }

-- the constants that come first: 0 and 1 of one bit, and 0 of 8 bits
abbrev pub nought : ValueId
nought = result_of 0 0

abbrev pub one : ValueId
one = result_of 1 0

abbrev pub nought_port : ValueId
nought_port = result_of 2 0

-- one more instruction, and the first of its results
abbrev pub emit : Place → Work → Emitted → Emitted
emit p work g = record {
  code = g.code ++ record { block = p.block; looped = p.looped; work = work } ∷ [];
  blocks = g.blocks;
}

abbrev pub give : Place → Work → Emitted → Valued
give p work g = record { given = emit p work g; id = result_of (length g.code) 0 }

-- one more block below a place, live there where the condition has this polarity
abbrev pub opened : Place → ValueId → Bool → Emitted → Emitted
opened p cond polarity g =
    record { code = g.code; blocks = g.blocks ++ record { parent = p.block; cond = cond; polarity = polarity } ∷ [] }

-- the place in the block that is opened next
abbrev pub below : Place → Emitted → Place
below p g = record { block = suc (length g.blocks); looped = p.looped }

-- ## Expressions

abbrev pub or_nought : Option ValueId → ValueId
or_nought None = nought
or_nought (Some id) = id

-- the value of a variable, by its place
abbrev pub value_at : List (Option ValueId) → ℕ → ValueId
value_at ids x = or_nought (get_or ids x None)

abbrev pub operation : Op → ℕ → List ValueId → Work
operation Select width (cond ∷ first ∷ second ∷ []) = flat.select width cond first second
operation op width args = flat.apply op width args

-- the operands from left to right, and then the instruction itself
abbrev mutual
  pub flat_expr : List ℕ → Place → View → ExprTree → Emitted → Valued
  flat_expr widths p w (lit value width) g = give p (flat.const width value) g
  flat_expr widths p w (local x) g = record { given = g; id = value_at w.locals x }
  flat_expr widths p w (field f) g = record { given = g; id = value_at w.fields (field_index f) }
  flat_expr widths p w (byte index) g =
      let r = flat_expr widths p w index g in
      give p (flat.byte r.id) r.given
  flat_expr widths p w (shift op by arg) g =
      let r = flat_expr widths p w arg g in
      give p (flat.shift op (width_of widths arg) r.id by) r.given
  flat_expr widths p w (apply op width args) g =
      let r = flat_exprs widths p w args g in
      give p (operation op width r.ids) r.given

  pub flat_exprs : List ℕ → Place → View → Exprs → Emitted → Listed
  flat_exprs widths p w no_expr g = record { given = g; ids = [] }
  flat_exprs widths p w (expr e es) g =
      let first = flat_expr widths p w e g in
      let rest = flat_exprs widths p w es first.given in
      record { given = rest.given; ids = first.id ∷ rest.ids }

-- ## Two states made one, the first where v is 1

abbrev pub same_id : ValueId → ValueId → Bool
same_id a b = a.instruction == b.instruction && a.result == b.result

-- a select where the values differ
abbrev pub merge_id : Place → ValueId → ℕ → ValueId → ValueId → Emitted → Valued
merge_id p v width a b g =
    if same_id a b then record { given = g; id = a } else give p (flat.select width v a b) g

-- a local that one side alone has was not in scope before
abbrev pub merge_option : Place → ValueId → ℕ → Option ValueId → Option ValueId → Emitted → Merged
merge_option p v width (Some a) (Some b) g =
    let r = merge_id p v width a b g in
    record { given = r.given; id = Some r.id }
merge_option p v width _ _ g = record { given = g; id = None }

-- variables of these widths, in order
abbrev pub merge_ids : Place → ValueId → List ℕ → List (Option ValueId) → List (Option ValueId) → Emitted → Scoped
merge_ids p v (width ∷ ws) (a ∷ xs) (b ∷ ys) g =
    let r = merge_option p v width a b g in
    let rest = merge_ids p v ws xs ys r.given in
    record { given = rest.given; ids = r.id ∷ rest.ids }
merge_ids p v _ _ _ g = record { given = g; ids = [] }

-- all but whether the run has ended, which is taken from the second
abbrev pub merge : List ℕ → Place → ValueId → View → View → Emitted → At
merge widths p v a b g =
    let locals = merge_ids p v widths a.locals b.locals g in
    let fields = merge_ids p v field_widths a.fields b.fields locals.given in
    let send = merge_id p v 1 a.send b.send fields.given in
    let port = merge_id p v 8 a.port b.port send.given in
    record {
      given = port.given;
      view = record { locals = locals.ids; fields = fields.ids; send = send.id; port = port.id; ended = b.ended };
    }

-- the value that says whether the run has ended
abbrev pub ended_id : Ending → ValueId
ended_id No = nought
ended_id Yes = one
ended_id (Maybe u) = u

abbrev pub select_ended : Place → ValueId → Ending → Ending → Emitted → EndedAt
select_ended p v a b g =
    let r = give p (flat.select 1 v (ended_id a) (ended_id b)) g in
    record { given = r.given; ended = Maybe r.id }

abbrev pub merge_ended : Place → ValueId → Ending → Ending → Emitted → EndedAt
merge_ended p v No No g = record { given = g; ended = No }
merge_ended p v Yes Yes g = record { given = g; ended = Yes }
merge_ended p v Yes No g = record { given = g; ended = Maybe v }
merge_ended p v a b g = select_ended p v a b g

abbrev pub with_ended : EndedAt → View → At
with_ended e w = record { given = e.given; view = record w { ended = e.ended } }

abbrev pub join : List ℕ → Place → ValueId → View → At → At
join widths p v a b =
    let r = merge widths p v a b.view b.given in
    with_ended (merge_ended p v a.ended b.view.ended r.given) r.view

-- ## What follows

abbrev pub ends : Ending → View → View
ends e w = record w { ended = e }

-- the packet leaves by a port, or is dropped, and the run has ended
abbrev pub finished : ValueId → ValueId → View → View
finished out by w = record w { send = out; port = by; ended = Yes }

abbrev pub Flattener : Type 0
Flattener = Place → Emitted → View → At

-- In a block that is live where v, which says that the run has ended, is 0. The first side is the state in front of it,
-- where the run has ended.
abbrev pub follow : List ℕ → Place → ValueId → Flattener → Emitted → View → At
follow widths p v go g w =
    join widths p v (ends Yes w) (go (below p g) (opened p v false g) (ends No w))

-- by whether the run has ended in front
abbrev pub go_on : List ℕ → Ending → Place → Flattener → Emitted → View → At
go_on widths No p go g w = go p g w
go_on widths Yes p go g w = record { given = g; view = w }
go_on widths (Maybe v) p go g w = follow widths p v go g w

-- one piece and then others, where the run goes on
abbrev pub in_order : List ℕ → Flattener → Flattener → Flattener
in_order widths first rest p g w =
    go_on widths w.ended p (λ q h u. let r = first q h u in rest q r.given r.view) g w

-- ## Statements

-- a local has another value
abbrev pub bound : ℕ → ValueId → View → View
bound x id w = record w { locals = slice_set w.locals x (Some id) }

-- locals have the results of an instruction from this one on
abbrev pub bound_to : ℕ → ℕ → List ℕ → View → View
bound_to instruction result [] w = w
bound_to instruction result (x ∷ xs) w = bound_to instruction (suc result) xs (bound x (result_of instruction result) w)

-- a field has another value
abbrev pub assigned : Field → ValueId → View → View
assigned f id w = record w { fields = slice_set w.fields (field_index f) (Some id) }

-- those that were in scope before
abbrev pub kept : Option ValueId → Option ValueId → Option ValueId
kept None now = None
kept (Some a) now = now

abbrev pub in_scope : List (Option ValueId) → List (Option ValueId) → List (Option ValueId)
in_scope (a ∷ before) (b ∷ now) = kept a b ∷ in_scope before now
in_scope _ _ = []

-- what was declared in a body is out of scope behind it
abbrev pub leave : View → View → View
leave before w = record w { locals = in_scope before.locals w.locals }

-- one turn of a repeat, whose number the local x has
abbrev pub flat_turn : ℕ → ℕ → Flattener → Flattener
flat_turn i x go p g w =
    let n = give p (flat.const 32 i) g in
    let r = go p n.given (bound x n.id w) in
    record { given = r.given; view = leave w r.view }

-- so many turns from turn i on
abbrev pub flat_turns : List ℕ → ℕ → ℕ → ℕ → Flattener → Flattener
flat_turns widths zero i x go p g w = record { given = g; view = w }
flat_turns widths (suc n) i x go p g w = in_order widths (flat_turn i x go) (flat_turns widths n (suc i) x go) p g w

abbrev pub looping : Place → Place
looping p = record { block = p.block; looped = true }

-- a second side that is empty opens no block
abbrev pub second_side : Bool → Place → ValueId → Flattener → Emitted → View → At
second_side true p v go g w = record { given = g; view = w }
second_side false p v go g w = go (below p g) (opened p v false g) w

abbrev mutual
  pub flat_stmt : List ℕ → StmtTree → Flattener
  flat_stmt widths (let_local x value) p g w =
      let r = flat_expr widths p w value g in
      record { given = r.given; view = bound x r.id w }
  flat_stmt widths (assign x value) p g w =
      let r = flat_expr widths p w value g in
      record { given = r.given; view = bound x r.id w }
  flat_stmt widths (set_field f value) p g w =
      let r = flat_expr widths p w value g in
      record { given = r.given; view = assigned f r.id w }
  flat_stmt widths (look found into object keys) p g w =
      let ks = flat_exprs widths p w keys g in
      let r = give p (flat.look object ks.ids) ks.given in
      record { given = r.given; view = bound_to (length ks.given.code) 0 (found ∷ into) w }
  flat_stmt widths (put ok object keys values) p g w =
      let ks = flat_exprs widths p w keys g in
      let vs = flat_exprs widths p w values ks.given in
      let r = give p (flat.put object ks.ids vs.ids) vs.given in
      record { given = r.given; view = bound ok r.id w }
  flat_stmt widths (del was object keys) p g w =
      let ks = flat_exprs widths p w keys g in
      let r = give p (flat.del object ks.ids) ks.given in
      record { given = r.given; view = bound was r.id w }
  flat_stmt widths (choose cond first second) p g w =
      let c = flat_expr widths p w cond g in
      let a = flat_body widths first (below p c.given) (opened p c.id true c.given) w in
      let b = second_side (is_empty second) p c.id (flat_body widths second) a.given w in
      join widths p c.id a.view b
  flat_stmt widths (repeat index count body) p g w =
      flat_turns widths count 0 index (flat_body widths body) (looping p) g w
  flat_stmt widths (send port) p g w =
      let r = flat_expr widths p w port g in
      record { given = r.given; view = finished one r.id w }
  flat_stmt widths drop p g w = record { given = g; view = finished nought nought_port w }

  pub flat_body : List ℕ → BodyTree → Flattener
  flat_body widths done p g w = record { given = g; view = w }
  flat_body widths (stmt s rest) p g w = in_order widths (flat_stmt widths s) (flat_body widths rest) p g w

-- ## The whole

abbrev pub root : Place
root = record { block = 0; looped = false }

abbrev pub constants : Emitted
constants = record {
  code = (record { block = 0; looped = false; work = flat.const 1 0 })
      ∷ (record { block = 0; looped = false; work = flat.const 1 1 })
      ∷ (record { block = 0; looped = false; work = flat.const 8 0 }) ∷ [];
  blocks = [];
}

-- a field that occurs gets an instruction
abbrev pub give_field : Bool → Field → Emitted → Merged
give_field false f g = record { given = g; id = None }
give_field true f g = let r = give root (flat.field f) g in record { given = r.given; id = Some r.id }

abbrev pub give_fields : BodyTree → List Field → Emitted → Scoped
give_fields body [] g = record { given = g; ids = [] }
give_fields body (f ∷ fs) g =
    let first = give_field (is_in_body f body) f g in
    let rest = give_fields body fs first.given in
    record { given = rest.given; ids = first.id ∷ rest.ids }

-- the fields that occur, as they arrive
abbrev pub arrived : Tree → Scoped
arrived m = give_fields m.body all_fields constants

-- no local is in scope, the packet is dropped, and the run has not ended
abbrev pub start_view : Tree → View
start_view m = record {
  locals = replicate (length m.locals) None;
  fields = (arrived m).ids;
  send = nought;
  port = nought_port;
  ended = No;
}

-- a field that occurs leaves with another value than it came with
abbrev pub changed : Field → Option ValueId → Option ValueId → List FieldValue
changed f (Some a) (Some b) = if same_id a b then [] else record { field = f; value = b } ∷ []
changed f _ _ = []

abbrev pub all_changed : List Field → List (Option ValueId) → List (Option ValueId) → List FieldValue
all_changed (f ∷ fs) (a ∷ before) (b ∷ after) = changed f a b ++ all_changed fs before after
all_changed _ _ _ = []

abbrev pub end_of : Tree → At
end_of m = flat_body (local_widths m) m.body root (arrived m).given (start_view m)

-- the flat program of a middlebox
abbrev pub flat_of : Tree → Program
flat_of m =
    let r = end_of m in
    record {
      objects = m.objects;
      blocks = r.given.blocks;
      code = r.given.code;
      send = r.view.send;
      port = r.view.port;
      fields = all_changed all_fields (arrived m).ids r.view.fields;
    }
