-- How much a composed middlebox has of what is counted of statements, told from the elements alone.
use Rattle.std.specs.Prelude.{ℕ, zero, suc, ◌+◌, ◌*◌, List, [], ◌∷◌, ◌++◌}
use Rattle.std.specs.Prelude.{length, map, drop, Option, Some, None, if◌then◌else◌}
use Rattle.std.specs.List.{filter}
use Rattle.gal_bits.specs.declared.op.Op.TheVariants.{Eq}
use Rattle.packet_fields.specs.declared.field.Field.TheVariants.{MetaPort}
use Rattle.packet_fields.specs.Table.{all_fields}
use Rattle.element_lang.specs.Rules.{ends_always}
use Rattle.element_lang.specs.Tree as trees
use Rattle.element_lang.specs.Tree.{ExprTree, Exprs, StmtTree, BodyTree}
use Rattle.element_lang.specs.Tree.ExprTree.{lit, local, byte, shift, apply, field}
use Rattle.element_lang.specs.Tree.Exprs.{no_expr, expr}
use Rattle.element_lang.specs.Tree.StmtTree.{let_local, assign, set_field, look, put, del, choose, repeat, send}
use Rattle.element_lang.specs.Tree.BodyTree.{done, stmt}
use Rattle.element_print.specs.Lengths.{Lengths, head_length, field_length, literal_length}
use Rattle.element_chain.specs.declared.chain.Wire.{Wire}
use Rattle.element_chain.specs.declared.chain.Target.{Target}
use Rattle.element_chain.specs.declared.chain.Target.TheVariants.{Element, Out}
use Rattle.element_chain.specs.Chain.{Connected, element_at}
use Rattle.element_chain.specs.Compose.{is_set, wires_of, clearing, base_of, objects_from, two, one}
use Rattle.chain_compose.specs.declared.gauge.Gauge.{Gauge}
use Rattle.chain_compose.specs.declared.gauge.Gauge.TheVariants.{Statements, Writes, Locals, Uses, Bytes}

-- ## Locals where they are named

-- the numbers of the locals that an expression names, in order
abbrev mutual
  pub used_by_expr : ExprTree → List ℕ
  used_by_expr (lit value width) = []
  used_by_expr (local x) = x ∷ []
  used_by_expr (field f) = []
  used_by_expr (byte index) = used_by_expr index
  used_by_expr (shift op by arg) = used_by_expr arg
  used_by_expr (apply op width args) = used_by_exprs args

  pub used_by_exprs : Exprs → List ℕ
  used_by_exprs no_expr = []
  used_by_exprs (expr e es) = used_by_expr e ++ used_by_exprs es

-- the locals that a statement names, but for what stands in its blocks
abbrev pub used_by_head : StmtTree → List ℕ
used_by_head (let_local x value) = x ∷ used_by_expr value
used_by_head (assign x value) = x ∷ used_by_expr value
used_by_head (set_field f value) = used_by_expr value
used_by_head (look found into object keys) = found ∷ (into ++ used_by_exprs keys)
used_by_head (put ok object keys values) = ok ∷ (used_by_exprs keys ++ used_by_exprs values)
used_by_head (del was object keys) = was ∷ used_by_exprs keys
used_by_head (choose cond first second) = used_by_expr cond
used_by_head (repeat index count body) = index ∷ []
used_by_head (send port) = used_by_expr port
used_by_head trees.drop = []

abbrev mutual
  pub used_by : StmtTree → List ℕ
  used_by (choose cond first second) = used_by_head (choose cond first second) ++ (used_in first ++ used_in second)
  used_by (repeat index count body) = used_by_head (repeat index count body) ++ used_in body
  used_by s = used_by_head s

  pub used_in : BodyTree → List ℕ
  used_in done = []
  used_in (stmt s b) = used_by s ++ used_in b

-- ## What is counted

abbrev pub writes_once : StmtTree → ℕ
writes_once (put ok object keys values) = 1
writes_once (del was object keys) = 1
writes_once _ = 0

abbrev pub declares_once : StmtTree → ℕ
declares_once (let_local x value) = 1
declares_once (look found into object keys) = suc (length into)
declares_once (put ok object keys values) = 1
declares_once (del was object keys) = 1
declares_once (repeat index count body) = 1
declares_once _ = 0

-- What a statement counts, but for what stands in its blocks: itself; whether it writes; the locals that it declares; the
-- places where it names one; its bytes in a printed text, where names have these lengths.
abbrev pub weight : Gauge → Lengths → StmtTree → ℕ
weight Statements l s = 1
weight Writes l s = writes_once s
weight Locals l s = declares_once s
weight Uses l s = length (used_by_head s)
weight Bytes l s = head_length l s

-- how often a body counts that is repeated so often
abbrev pub turns : Gauge → ℕ → ℕ
turns Writes n = n
turns _ n = 1

-- all statements of a body, those within others too
abbrev mutual
  pub stmt_count : Gauge → Lengths → StmtTree → ℕ
  stmt_count g l (choose cond first second) =
      weight g l (choose cond first second) + (body_count g l first + body_count g l second)
  stmt_count g l (repeat index count body) =
      weight g l (repeat index count body) + turns g count * body_count g l body
  stmt_count g l s = weight g l s

  pub body_count : Gauge → Lengths → BodyTree → ℕ
  body_count g l done = 0
  body_count g l (stmt s b) = stmt_count g l s + body_count g l b

-- ## An element where it stands in the whole

-- the same, where each `send` counts as so much, by its port
abbrev mutual
  pub placed_stmt_count : Gauge → Lengths → (ExprTree → ℕ) → StmtTree → ℕ
  placed_stmt_count g l sent (choose cond first second) =
      weight g l (choose cond first second)
      + (placed_count g l sent first + placed_count g l sent second)
  placed_stmt_count g l sent (repeat index count body) =
      weight g l (repeat index count body) + turns g count * placed_count g l sent body
  placed_stmt_count g l sent (send port) = sent port
  placed_stmt_count g l sent s = weight g l s

  pub placed_count : Gauge → Lengths → (ExprTree → ℕ) → BodyTree → ℕ
  placed_count g l sent done = 0
  placed_count g l sent (stmt s b) = placed_stmt_count g l sent s + placed_count g l sent b

-- names of locals are counted apart, and here have no bytes
abbrev pub whole_lengths : Connected → Lengths
whole_lengths c = record {
  locals = [];
  objects = map (λ o. length o.name) (objects_from 0 c.elements);
  port = field_length MetaPort;
}

-- how many bytes a reading of the port of arrival takes: the name of the field at the entry, and else the input
abbrev pub port_length : Option ℕ → ℕ
port_length None = field_length MetaPort
port_length (Some input) = literal_length input 8

-- the names as an element uses them, whose objects are numbered from its first one on
abbrev pub own_lengths : Connected → Option ℕ → ℕ → Lengths
own_lengths c port e = record {
  locals = [];
  objects = drop (base_of c.elements e) (map (λ o. length o.name) (objects_from 0 c.elements));
  port = port_length port;
}

abbrev pub drop_weight : Gauge → ℕ
drop_weight g = weight g (record { locals = []; objects = []; port = 0 }) trees.drop

-- a test whether a local is this output, with two blocks
abbrev pub test_weight : Gauge → ℕ → ℕ
test_weight g output =
    weight g (record { locals = []; objects = []; port = 0 })
    (choose (apply Eq 1 (two (local 0) (lit output 8))) (one trees.drop) (one trees.drop))

-- what stands for a `send`, where so much stands at the end of a wire to a target's input
abbrev pub tests_count : Gauge → (Target → ℕ → ℕ) → List Wire → ℕ
tests_count g end [] = drop_weight g
tests_count g end (w ∷ ws) = test_weight g w.output + (end w.to w.input + tests_count g end ws)

abbrev pub sent_count : Gauge → Lengths → (Target → ℕ → ℕ) → List Wire → ExprTree → ℕ
sent_count g l end [] port = drop_weight g
sent_count g l end (w ∷ ws) port = weight g l (let_local 0 port) + tests_count g end (w ∷ ws)

-- a body whose end drops the packet
abbrev pub closing_count : Gauge → BodyTree → ℕ
closing_count g b = if ends_always b then 0 else drop_weight g

abbrev pub clearing_count : Gauge → Connected → ℕ
clearing_count g c = body_count g (whole_lengths c) (clearing (filter (is_set c.elements) all_fields))

abbrev pub element_count : Gauge → Connected → (Target → ℕ → ℕ) → Option ℕ → ℕ → ℕ
element_count g c end port e =
    let l = own_lengths c port e in
    placed_count g l (sent_count g l end (wires_of c.wires e)) (element_at c.elements e).body

-- what stands at the end of a wire to a target's input, through so many elements and no more
abbrev pub end_count : Gauge → Connected → ℕ → Target → ℕ → ℕ
end_count g c n Out input = weight g (whole_lengths c) (send (lit input 8))
end_count g c zero (Element e) input = drop_weight g
end_count g c (suc n) (Element e) input =
    clearing_count g c
    + (element_count g c (end_count g c n) (Some input) e + closing_count g (element_at c.elements e).body)

-- the whole
abbrev pub entry_count : Gauge → Connected → ℕ
entry_count g c = element_count g c (end_count g c (length c.elements)) None 0
