-- How deep brackets stand in one another in the printed text of a composed middlebox, told from the elements alone.
use Rattle.std.specs.Prelude.{ℕ, zero, suc, max, List, [], ◌∷◌, length}
use Rattle.std.specs.List.{filter}
use Rattle.packet_fields.specs.Table.{all_fields}
use Rattle.element_lang.specs.Tree.{ExprTree, StmtTree, BodyTree, Tree}
use Rattle.element_lang.specs.Tree.StmtTree.{choose, repeat, send}
use Rattle.element_lang.specs.Tree.BodyTree.{done, stmt}
use Rattle.element_print.specs.Depths.{expr_depth, head_depth, body_depth, decls_depth}
use Rattle.element_chain.specs.declared.chain.Wire.{Wire}
use Rattle.element_chain.specs.declared.chain.Target.{Target}
use Rattle.element_chain.specs.declared.chain.Target.TheVariants.{Element, Out}
use Rattle.element_chain.specs.Chain.{Connected, element_at}
use Rattle.element_chain.specs.Compose.{is_set, wires_of, clearing}

-- the statements of an element where it stands in the whole, where each `send` is so deep, by its port
abbrev mutual
  pub placed_stmt_depth : (ExprTree → ℕ) → StmtTree → ℕ
  placed_stmt_depth sent (choose cond first second) =
      max (head_depth (choose cond first second)) (suc (max (placed_depth sent first) (placed_depth sent second)))
  placed_stmt_depth sent (repeat index count body) = suc (placed_depth sent body)
  placed_stmt_depth sent (send port) = sent port
  placed_stmt_depth sent s = head_depth s

  pub placed_depth : (ExprTree → ℕ) → BodyTree → ℕ
  placed_depth sent done = 0
  placed_depth sent (stmt s b) = max (placed_stmt_depth sent s) (placed_depth sent b)

-- The tests of wires, each in the second block of the one before, where what stands at the end of a wire is so deep.
abbrev pub tests_depth : (Target → ℕ) → List Wire → ℕ
tests_depth end [] = 0
tests_depth end (w ∷ ws) = suc (max (end w.to) (tests_depth end ws))

-- what stands for a `send`
abbrev pub sent_depth : (Target → ℕ) → List Wire → ExprTree → ℕ
sent_depth end [] port = 0
sent_depth end (w ∷ ws) port = max (expr_depth port) (tests_depth end (w ∷ ws))

abbrev pub element_depth : Connected → (Target → ℕ) → ℕ → ℕ
element_depth c end e = placed_depth (sent_depth end (wires_of c.wires e)) (element_at c.elements e).body

abbrev pub clearing_depth : Connected → ℕ
clearing_depth c = body_depth (clearing (filter (is_set c.elements) all_fields))

-- what stands at the end of a wire, through so many elements and no more
abbrev pub end_depth : Connected → ℕ → Target → ℕ
end_depth c n Out = 0
end_depth c zero (Element e) = 0
end_depth c (suc n) (Element e) = max (clearing_depth c) (element_depth c (end_depth c n) e)

-- the declarations of all elements
abbrev pub all_decls_depth : List Tree → ℕ
all_decls_depth [] = 0
all_decls_depth (m ∷ ms) = max (decls_depth m.objects) (all_decls_depth ms)

-- the whole, whose statements stand in braces
abbrev pub entry_depth : Connected → ℕ
entry_depth c = max (all_decls_depth c.elements) (suc (element_depth c (end_depth c (length c.elements)) 0))
