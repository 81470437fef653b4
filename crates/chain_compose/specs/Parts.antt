-- What the whole is made of, and what is made of it.
use Rattle.std.specs.Prelude.{ℕ, List, map}
use Rattle.element_lang.specs.declared.tree.Middlebox.{Middlebox}
use Rattle.element_lang.specs.declared.tree.Stmt.{Stmt}
use Rattle.element_lang.specs.Tree.{StmtTree, Tree}
use Rattle.element_lang.specs.View.{tree, body_tree}
use Rattle.element_lang.specs.Widths.{local_widths}
use Rattle.element_chain.specs.declared.chain.Wire.{Wire}
use Rattle.element_chain.specs.Chain.{Connected, element_at}
use Rattle.element_chain.specs.Compose.{Numbering, Placed, Written, Spot, Sends, Ends, followed, base_of, wires_of}
use Rattle.element_chain.specs.Compose.{sent_by, ends_within, element_placed, closed, one}
use Rattle.chain_compose.specs.declared.parts.Parts.{Parts}
use Rattle.chain_compose.specs.declared.parts.Place.{Place}

-- the chain of these middleboxes
abbrev pub connected : List Middlebox → List Wire → Connected
connected classes wires = record { elements = map tree classes; wires = wires }

abbrev pub chain_of : Parts → Connected
chain_of parts = connected parts.classes.now parts.chain.now.wires

-- the element at a place
abbrev pub own_tree : Parts → Place → Tree
own_tree parts place = element_at (chain_of parts).elements place.element

abbrev pub spot_of : Parts → Place → Spot
spot_of parts place = record {
  widths = local_widths (own_tree parts place);
  base = base_of (chain_of parts).elements place.element;
  port = place.port;
}

-- what stands at the end of its wires, and for its `send`s
abbrev pub ends_of : Parts → Place → Ends
ends_of parts place = ends_within (chain_of parts) place.levels

abbrev pub sends_of : Parts → Place → Sends
sends_of parts place = sent_by (ends_of parts place) (wires_of (chain_of parts).wires place.element)

abbrev pub numbering : List ℕ → List ℕ → Numbering
numbering names widths = record { names = names; widths = widths }

-- statements as the code has them
abbrev pub placed : List ℕ → List ℕ → List Stmt → Placed
placed names widths out = record { body = body_tree out; numbering = numbering names widths }

abbrev pub written : List ℕ → List Stmt → Written
written widths out = record { body = body_tree out; widths = widths }

-- statements behind others
abbrev pub placed_behind : List Stmt → Placed → Placed
placed_behind out made = record made { body = followed (body_tree out) made.body }

abbrev pub written_behind : List Stmt → Written → Written
written_behind out made = record made { body = followed (body_tree out) made.body }

-- one statement as the code has it
abbrev pub one_placed : StmtTree → List ℕ → List ℕ → Placed
one_placed s names widths = record { body = one s; numbering = numbering names widths }

-- the body of an element behind another one
abbrev pub element_written : Parts → Place → List ℕ → Written
element_written parts place widths =
    let own = element_placed (chain_of parts) (ends_of parts place) place.port place.element widths in
    record { body = closed (own_tree parts place).body own.body; widths = own.numbering.widths }
