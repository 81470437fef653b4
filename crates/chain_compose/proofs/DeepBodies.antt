-- Brackets of the whole stand as deep as is told from its elements.
use Rattle.std.proofs.Common.{◌≡◌, ℕ, zero, suc, Bool, true, false, cond, List, [], ◌∷◌, ◌++◌, length, max, refl, arith, Option, Some, None}
use Rattle.std.specs.List.{filter}
use Rattle.packet_fields.specs.Table.{all_fields}
use Rattle.element_lang.specs.Rules.{ends_always}
use Rattle.element_lang.specs.Tree.{ExprTree, StmtTree, BodyTree}
use Rattle.element_lang.specs.Tree.StmtTree.{let_local, assign, set_field, look, put, del, choose, repeat, send, drop}
use Rattle.element_lang.specs.Tree.BodyTree.{done, stmt}
use Rattle.element_lang.specs.Widths.{local_widths}
use Rattle.element_print.specs.declared.place.Place.TheVariants.{Whole}
use Rattle.element_print.specs.Depths.{body_depth, text_depth}
use Rattle.element_chain.specs.declared.chain.Wire.{Wire}
use Rattle.element_chain.specs.declared.chain.Target.{Target}
use Rattle.element_chain.specs.declared.chain.Target.TheVariants.{Element, Out}
use Rattle.element_chain.specs.Chain.{Connected, element_at}
use Rattle.element_chain.specs.Compose.{followed, one, Numbering, Spot, Sends, Ends, declared, renamed, stmt_placed, body_placed, tests, sent_by, wires_of, clearing, closed, is_set, base_of, ends_within, element_placed, composed}
use Rattle.chain_compose.specs.Depths.{placed_stmt_depth, placed_depth, tests_depth, sent_depth, element_depth, end_depth, entry_depth}
use Rattle.chain_compose.proofs.DeepExprs.{depth_kept, parts_kept, whole_decls_depth}

followed_depth : (a b : BodyTree) → body_depth (followed a b) ≡ max (body_depth a) (body_depth b)
followed_depth done b = omega arith
followed_depth (stmt s a) b = omega (arith, followed_depth a b)

closed_depth : (b : Bool) (a : BodyTree) → body_depth (cond b a (followed a (one drop))) ≡ body_depth a
closed_depth true a = refl
closed_depth false a = omega (arith, followed_depth a (one drop))

module _ (spot : Spot) (sent : Sends) (deep : ExprTree → ℕ) (each : (port : ExprTree) (names widths : List ℕ) → body_depth (sent (renamed spot.port names port) widths).body ≡ deep port) where
  mutual
    depth_of_stmt : (s : StmtTree) (n : Numbering) → body_depth (stmt_placed spot sent s n).body ≡ placed_stmt_depth deep s
    depth_of_stmt (let_local x value) n = omega (arith, depth_kept spot.port n.names value)
    depth_of_stmt (assign x value) n = omega (arith, depth_kept spot.port n.names value)
    depth_of_stmt (set_field f value) n = omega (arith, depth_kept spot.port n.names value)
    depth_of_stmt (look found into object keys) n = omega (arith, parts_kept spot.port n.names Whole keys)
    depth_of_stmt (put ok object keys values) n =
        omega (arith, parts_kept spot.port n.names Whole keys, parts_kept spot.port n.names Whole values)
    depth_of_stmt (del was object keys) n = omega (arith, parts_kept spot.port n.names Whole keys)
    depth_of_stmt (choose test first second) n =
        omega (arith, depth_kept spot.port n.names test, depth_of_body first n, depth_of_body second (body_placed spot sent first n).numbering)
    depth_of_stmt (repeat index count body) n = omega (arith, depth_of_body body (declared spot index n))
    depth_of_stmt (send port) n = each port n.names n.widths
    depth_of_stmt drop n = refl

    pub depth_of_body : (b : BodyTree) (n : Numbering) → body_depth (body_placed spot sent b n).body ≡ placed_depth deep b
    depth_of_body done n = refl
    depth_of_body (stmt s b) n =
        let first = stmt_placed spot sent s n in
        omega (arith, followed_depth first.body (body_placed spot sent b first.numbering).body, depth_of_stmt s n, depth_of_body b first.numbering)

abbrev HaveDepths : Ends → (Target → ℕ) → Type 0
HaveDepths end depth = (t : Target) (input : ℕ) (widths : List ℕ) → body_depth (end t input widths).body ≡ depth t

depth_of_tests : (end : Ends) (depth : Target → ℕ) → HaveDepths end depth → (v : ℕ) (ws : List Wire) (widths : List ℕ) → body_depth (tests end v ws widths).body ≡ tests_depth depth ws
depth_of_tests end depth each v [] widths = refl
depth_of_tests end depth each v (w ∷ ws) widths =
    omega (arith, each w.to w.input widths, depth_of_tests end depth each v ws (end w.to w.input widths).widths)

depth_of_sent : (end : Ends) (depth : Target → ℕ) → HaveDepths end depth → (ws : List Wire) (arrival : Option ℕ) (port : ExprTree) (names widths : List ℕ) → body_depth (sent_by end ws (renamed arrival names port) widths).body ≡ sent_depth depth ws port
depth_of_sent end depth each [] arrival port names widths = refl
depth_of_sent end depth each (w ∷ ws) arrival port names widths =
    omega (arith, depth_kept arrival names port, depth_of_tests end depth each (length widths) (w ∷ ws) (widths ++ 8 ∷ []))

-- an element's statements
depth_of_element : (c : Connected) (end : Ends) (depth : Target → ℕ) → HaveDepths end depth → (port : Option ℕ) (e : ℕ) (widths : List ℕ)
    → body_depth (element_placed c end port e widths).body ≡ element_depth c depth e
depth_of_element c end depth each port e widths =
    let m = element_at c.elements e in
    let spot : Spot = record { widths = local_widths m; base = base_of c.elements e; port = port } in
    let ws = wires_of c.wires e in
    depth_of_body spot (sent_by end ws) (sent_depth depth ws) (depth_of_sent end depth each ws port) m.body (record { names = []; widths = widths })

depth_of_ends : (c : Connected) (n : ℕ) → HaveDepths (ends_within c n) (end_depth c n)
depth_of_ends c zero Out input widths = refl
depth_of_ends c zero (Element e) input widths = refl
depth_of_ends c (suc n) Out input widths = refl
depth_of_ends c (suc n) (Element e) input widths =
    let m = element_at c.elements e in
    let own = element_placed c (ends_within c n) (Some input) e widths in
    omega (
      arith,
      followed_depth (clearing (filter (is_set c.elements) all_fields)) (closed m.body own.body),
      closed_depth (ends_always m.body) own.body,
      depth_of_element c (ends_within c n) (end_depth c n) (depth_of_ends c n) (Some input) e widths,
    )

pub whole_depth : (c : Connected) → text_depth (composed c) ≡ entry_depth c
whole_depth c =
    let n = length c.elements in
    omega (arith, whole_decls_depth 0 c.elements, depth_of_element c (ends_within c n) (end_depth c n) (depth_of_ends c n) None 0 [])
