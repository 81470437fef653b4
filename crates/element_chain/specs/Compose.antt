-- One middlebox that does what a chain does: the entry's body, with the bodies of the elements behind it where it sends.
use Rattle.std.specs.Prelude.{ℕ, zero, suc, ◌+◌, ◌==◌, Bool, false, ◌||◌, List, [], ◌∷◌, ◌++◌, length}
use Rattle.std.specs.Prelude.{slice_index, Option, Some, None, if◌then◌else◌, codes}
use Rattle.std.specs.List.{list_any, filter}
use Rattle.std.specs.Fmt.{decimal}
use Rattle.gal_bits.specs.declared.op.Op.TheVariants.{And, Eq, Lt, Select}
use Rattle.packet_fields.specs.declared.field.Field.{Field}
use Rattle.packet_fields.specs.declared.field.Field.TheVariants.{MetaPort, MetaLen, EthType, HasIp, HasTcp, HasUdp}
use Rattle.packet_fields.specs.declared.field.Header.{Header}
use Rattle.packet_fields.specs.declared.field.Header.TheVariants.{Meta, Ethernet, Vlan, Ip, Tcp, Udp}
use Rattle.packet_fields.specs.Table.{row, all_fields, field_index}
use Rattle.state_store.specs.declared.object.ObjectDecl.{ObjectDecl}
use Rattle.state_store.specs.Store.{Store}
use Rattle.element_lang.specs.declared.tree.Local.{Local}
use Rattle.element_lang.specs.Tree.{ExprTree, Exprs, StmtTree, BodyTree, Tree}
use Rattle.element_lang.specs.Tree.ExprTree.{lit, local, field, byte, shift, apply}
use Rattle.element_lang.specs.Tree.Exprs.{no_expr, expr}
use Rattle.element_lang.specs.Tree.StmtTree.{let_local, assign, set_field, look, put, del, choose, repeat, send, drop}
use Rattle.element_lang.specs.Tree.BodyTree.{done, stmt}
use Rattle.element_lang.specs.Rules.{ends_always}
use Rattle.element_lang.specs.Widths.{local_widths}
use Rattle.element_chain.specs.declared.chain.Wire.{Wire}
use Rattle.element_chain.specs.declared.chain.Target.{Target}
use Rattle.element_chain.specs.declared.chain.Target.TheVariants.{Element, Out}
use Rattle.element_chain.specs.Chain.{Connected, element_at, wire_at}

-- ## Bodies

abbrev pub one : StmtTree → BodyTree
one s = stmt s done

abbrev pub followed : BodyTree → BodyTree → BodyTree
followed done c = c
followed (stmt s b) c = stmt s (followed b c)

-- ## Expressions

-- a field as the body of an element reads it: the port of arrival of an element behind another one is its input
abbrev pub seen : Option ℕ → Field → ExprTree
seen None f = field f
seen (Some input) f = if field_index f == field_index MetaPort then lit input 8 else field f

-- an expression of an element whose locals have these numbers in the whole
abbrev mutual
  pub renamed : Option ℕ → List ℕ → ExprTree → ExprTree
  renamed port names (lit value width) = lit value width
  renamed port names (local x) = local (slice_index names x)
  renamed port names (field f) = seen port f
  renamed port names (byte index) = byte (renamed port names index)
  renamed port names (shift op by arg) = shift op by (renamed port names arg)
  renamed port names (apply op width args) = apply op width (all_renamed port names args)

  pub all_renamed : Option ℕ → List ℕ → Exprs → Exprs
  all_renamed port names no_expr = no_expr
  all_renamed port names (expr e es) = expr (renamed port names e) (all_renamed port names es)

-- ## Statements

-- how far locals are numbered: the number in the whole of each local of the element so far, and the width of each local
-- of the whole so far
pub record Numbering : Type 0 where
  pub names : List ℕ
  pub widths : List ℕ

-- statements of the whole, and how far its locals are then numbered
pub record Placed : Type 0 where
  pub body : BodyTree
  pub numbering : Numbering

pub record Written : Type 0 where
  pub body : BodyTree
  pub widths : List ℕ

-- An element where it stands in the whole: the widths of its locals, the number of its first object, and its port of
-- arrival, where it is behind another element.
pub record Spot : Type 0 where
  pub widths : List ℕ
  pub base : ℕ
  pub port : Option ℕ

-- the next number goes to a local of the element
abbrev pub declared : Spot → ℕ → Numbering → Numbering
declared spot x n =
    record { names = n.names ++ length n.widths ∷ []; widths = n.widths ++ slice_index spot.widths x ∷ [] }

abbrev pub all_declared : Spot → List ℕ → Numbering → Numbering
all_declared spot [] n = n
all_declared spot (x ∷ xs) n = all_declared spot xs (declared spot x n)

-- numbers for as many locals, from i on
abbrev pub numbers : ℕ → List ℕ → List ℕ
numbers i [] = []
numbers i (x ∷ xs) = i ∷ numbers (suc i) xs

-- what stands for a `send` of this port, where so many locals are declared before
abbrev pub Sends : Type 0
Sends = ExprTree → List ℕ → Written

abbrev mutual
  pub stmt_placed : Spot → Sends → StmtTree → Numbering → Placed
  stmt_placed spot sent (let_local x value) n = record {
    body = one (let_local (length n.widths) (renamed spot.port n.names value));
    numbering = declared spot x n;
  }
  stmt_placed spot sent (assign x value) n = record {
    body = one (assign (slice_index n.names x) (renamed spot.port n.names value));
    numbering = n;
  }
  stmt_placed spot sent (set_field f value) n = record {
    body = one (set_field f (renamed spot.port n.names value));
    numbering = n;
  }
  stmt_placed spot sent (look found into object keys) n = record {
    body = one (look (length n.widths) (numbers (suc (length n.widths)) into) (spot.base + object)
        (all_renamed spot.port n.names keys));
    numbering = all_declared spot into (declared spot found n);
  }
  stmt_placed spot sent (put ok object keys values) n = record {
    body = one (put (length n.widths) (spot.base + object) (all_renamed spot.port n.names keys)
        (all_renamed spot.port n.names values));
    numbering = declared spot ok n;
  }
  stmt_placed spot sent (del was object keys) n = record {
    body = one (del (length n.widths) (spot.base + object) (all_renamed spot.port n.names keys));
    numbering = declared spot was n;
  }
  stmt_placed spot sent (choose cond first second) n =
      let yes_part = body_placed spot sent first n in
      let no_part = body_placed spot sent second yes_part.numbering in
      record {
        body = one (choose (renamed spot.port n.names cond) yes_part.body no_part.body);
        numbering = no_part.numbering;
      }
  stmt_placed spot sent (repeat index count body) n =
      let turn = body_placed spot sent body (declared spot index n) in
      record { body = one (repeat (length n.widths) count turn.body); numbering = turn.numbering }
  stmt_placed spot sent (send port) n =
      let written = sent (renamed spot.port n.names port) n.widths in
      record { body = written.body; numbering = record { names = n.names; widths = written.widths } }
  stmt_placed spot sent drop n = record { body = one drop; numbering = n }

  pub body_placed : Spot → Sends → BodyTree → Numbering → Placed
  body_placed spot sent done n = record { body = done; numbering = n }
  body_placed spot sent (stmt s b) n =
      let first = stmt_placed spot sent s n in
      let rest = body_placed spot sent b first.numbering in
      record { body = followed first.body rest.body; numbering = rest.numbering }

-- ## What stands for a `send`

abbrev pub with_wire : Option Wire → List Wire → List Wire
with_wire None ws = ws
with_wire (Some w) ws = w ∷ ws

-- the wires of an element in order of their outputs, n outputs from this one on
abbrev pub wires_from : List Wire → ℕ → ℕ → ℕ → List Wire
wires_from wires e zero output = []
wires_from wires e (suc n) output = with_wire (wire_at wires e output) (wires_from wires e n (suc output))

unfoldable pub wires_of : List Wire → ℕ → List Wire
wires_of wires e = wires_from wires e 256 0

-- what stands at the end of a wire
abbrev pub Ends : Type 0
Ends = Target → ℕ → List ℕ → Written

-- the local v tells by which wire the packet goes on, if by any
abbrev pub tests : Ends → ℕ → List Wire → List ℕ → Written
tests end v [] widths = record { body = one drop; widths = widths }
tests end v (w ∷ ws) widths =
    let first = end w.to w.input widths in
    let rest = tests end v ws first.widths in
    record {
      body = one (choose (apply Eq 1 (expr (local v) (expr (lit w.output 8) no_expr))) first.body rest.body);
      widths = rest.widths;
    }

abbrev pub sent_by : Ends → List Wire → Sends
sent_by end [] port widths = record { body = one drop; widths = widths }
sent_by end (w ∷ ws) port widths =
    let v = length widths in
    let tested = tests end v (w ∷ ws) (widths ++ 8 ∷ []) in
    record { body = stmt (let_local v port) tested.body; widths = tested.widths }

-- ## What is lost between elements

-- whether a statement or a body sets this field
abbrev mutual
  pub sets : Field → StmtTree → Bool
  sets f (set_field g value) = field_index f == field_index g
  sets f (choose cond first second) = sets_in f first || sets_in f second
  sets f (repeat index count body) = sets_in f body
  sets f (let_local x value) = false
  sets f (assign x value) = false
  sets f (look found into object keys) = false
  sets f (put ok object keys values) = false
  sets f (del was object keys) = false
  sets f (send port) = false
  sets f drop = false

  pub sets_in : Field → BodyTree → Bool
  sets_in f done = false
  sets_in f (stmt s b) = sets f s || sets_in f b

-- some element sets the field
abbrev pub is_set : List Tree → Field → Bool
is_set elements f = list_any (λ (m : Tree). sets_in f m.body) elements

abbrev pub two : ExprTree → ExprTree → Exprs
two a b = expr a (expr b no_expr)

abbrev pub three : ExprTree → ExprTree → ExprTree → Exprs
three a b c = expr a (two b c)

-- whether the packet has 18 bytes or more, and its type says that a VLAN tag is there
abbrev pub tag_test : ExprTree
tag_test =
    apply And 1
    (two (apply Eq 1 (two (field EthType) (lit 0x8100 16))) (apply Lt 1 (two (lit 17 16) (field MetaLen))))

-- whether the packet is too short for an Ethernet header
abbrev pub short_test : ExprTree
short_test = apply Lt 1 (two (field MetaLen) (lit 14 16))

-- a field's own value where its header is there, and else 0
abbrev pub kept_where : Header → Field → ℕ → ExprTree
kept_where Meta f width = field f
kept_where Ethernet f width = apply Select width (three short_test (lit 0 width) (field f))
kept_where Vlan f width = apply Select width (three tag_test (field f) (lit 0 width))
kept_where Ip f width = apply Select width (three (field HasIp) (field f) (lit 0 width))
kept_where Tcp f width = apply Select width (three (field HasTcp) (field f) (lit 0 width))
kept_where Udp f width = apply Select width (three (field HasUdp) (field f) (lit 0 width))

-- what is written to a field whose header isn't there doesn't leave the element
abbrev pub cleared : Field → StmtTree
cleared f = set_field f (kept_where (row f).header f (row f).width)

abbrev pub clearing : List Field → BodyTree
clearing [] = done
clearing (f ∷ fs) = stmt (cleared f) (clearing fs)

-- ## The whole

-- a body whose end drops the packet
abbrev pub closed : BodyTree → BodyTree → BodyTree
closed own b = if ends_always own then b else followed b (one drop)

-- the number of an element's first object
abbrev pub base_of : List Tree → ℕ → ℕ
base_of [] e = 0
base_of (m ∷ ms) zero = 0
base_of (m ∷ ms) (suc e) = length m.objects + base_of ms e

-- the body of an element at its place, where `end` stands at the end of its wires
abbrev pub element_placed : Connected → Ends → Option ℕ → ℕ → List ℕ → Placed
element_placed c end port e widths =
    let m = element_at c.elements e in
    let spot : Spot = record { widths = local_widths m; base = base_of c.elements e; port = port } in
    body_placed spot (sent_by end (wires_of c.wires e)) m.body (record { names = []; widths = widths })

-- what stands at the end of a wire, through so many elements and no more
abbrev pub ends_within : Connected → ℕ → Ends
ends_within c n Out input widths = record { body = one (send (lit input 8)); widths = widths }
ends_within c zero (Element e) input widths = record { body = one drop; widths = widths }
ends_within c (suc n) (Element e) input widths =
    let own = element_placed c (ends_within c n) (Some input) e widths in
    record {
      body = followed (clearing (filter (is_set c.elements) all_fields))
          (closed (element_at c.elements e).body own.body);
      widths = own.numbering.widths;
    }

-- the entry, with all that is behind it
abbrev pub entry_within : Connected → ℕ → Placed
entry_within c n = element_placed c (ends_within c n) None 0 []

-- objects have the number of their element in front of their names
abbrev pub prefixed : ℕ → List ℕ → List ℕ
prefixed e name = codes "e" ++ (decimal e ++ (codes "_" ++ name))

abbrev pub named_objects : ℕ → List ObjectDecl → List ObjectDecl
named_objects e [] = []
named_objects e (o ∷ os) = record o { name = prefixed e o.name } ∷ named_objects e os

abbrev pub objects_from : ℕ → List Tree → List ObjectDecl
objects_from e [] = []
objects_from e (m ∷ ms) = named_objects e m.objects ++ objects_from (suc e) ms

abbrev pub locals_from : ℕ → List ℕ → List Local
locals_from i [] = []
locals_from i (w ∷ ws) = record { name = codes "v" ++ decimal i; width = w } ∷ locals_from (suc i) ws

abbrev pub whole_within : Connected → ℕ → Tree
whole_within c n =
    let entry = entry_within c n in
    record {
      objects = objects_from 0 c.elements;
      locals = locals_from 0 entry.numbering.widths;
      body = entry.body;
    }

abbrev pub composed : Connected → Tree
composed c = whole_within c (length c.elements)

-- the stores of all elements as one
abbrev pub joined : List Store → Store
joined [] = []
joined (st ∷ stores) = st ++ joined stores
