-- What is given and what comes of it.
use Rattle.std.specs.Prelude.{ℕ, true, List, ◌++◌, Option, None, replicate}
use Rattle.element_lang.specs.Tree.{BodyTree}
use Rattle.element_lang.specs.Rules.{is_empty}
use Rattle.flat_ir.specs.declared.program.ValueId.{ValueId}
use Rattle.flat_ir.specs.Program.{Program}
use Rattle.packet_fields.specs.Table.{all_fields}
use Rattle.state_store.specs.declared.object.ObjectDecl.{ObjectDecl}
use Rattle.flatten.specs.declared.place.Place.{Place}
use Rattle.flatten.specs.declared.place.Ending.{Ending}
use Rattle.flatten.specs.declared.place.Ending.TheVariants.{No}
use Rattle.flatten.specs.Flatten.{View, Emitted, At, Valued, Listed, Scoped, Merged, EndedAt}
use Rattle.flatten.specs.Flatten.{nought, nought_port, all_changed, flat_body, below, opened, second_side, join}

abbrev pub in_front : List ValueId → Listed → Listed
in_front ids r = record { given = r.given; ids = ids ++ r.ids }

abbrev pub scoped_front : List (Option ValueId) → Scoped → Scoped
scoped_front ids r = record { given = r.given; ids = ids ++ r.ids }

-- what is given and what comes of it
abbrev pub valued : Emitted → ValueId → Valued
valued g id = record { given = g; id = id }

abbrev pub listed : Emitted → List ValueId → Listed
listed g ids = record { given = g; ids = ids }

abbrev pub scoped : Emitted → List (Option ValueId) → Scoped
scoped g ids = record { given = g; ids = ids }

abbrev pub placed : Emitted → View → At
placed g w = record { given = g; view = w }

abbrev pub merged : Emitted → Option ValueId → Merged
merged g id = record { given = g; id = id }

abbrev pub ended_at : Emitted → Ending → EndedAt
ended_at g e = record { given = g; ended = e }

-- no local is in scope, the packet is dropped, and the run has not ended
abbrev pub first_view : ℕ → List (Option ValueId) → View
first_view locals came = record {
  locals = replicate locals None;
  fields = came;
  send = nought;
  port = nought_port;
  ended = No;
}

-- the flat program of what is given, where the fields came with these values
abbrev pub gathered : List ObjectDecl → List (Option ValueId) → At → Program
gathered objects came r = record {
  objects = objects;
  blocks = r.given.blocks;
  code = r.given.code;
  send = r.view.send;
  port = r.view.port;
  fields = all_changed all_fields came r.view.fields;
}

-- what is given for the first side of a choice in this place, whose condition has a value
abbrev pub first_at : List ℕ → Place → BodyTree → Valued → View → At
first_at widths p first cond w = flat_body widths first (below p cond.given) (opened p cond.id true cond.given) w

-- what is given for the second side and what comes of both, behind the first side
abbrev pub rest_at : List ℕ → Place → BodyTree → ValueId → At → View → At
rest_at widths p second v first w =
    join widths p v first.view (second_side (is_empty second) p v (flat_body widths second) first.given w)
