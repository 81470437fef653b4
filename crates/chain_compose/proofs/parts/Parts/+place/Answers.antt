use Rattle.std.proofs.Common.{◌≡◌, ◌<◌, ◌≤◌, ◌∙◌, ◌+◌, ℕ, cond, List, [], ◌∷◌, ◌++◌, ◌-◌, length, take, drop, slice_index_or, sym, ap, subst, refl, arith, rules, tests as bool_tests}
use Rattle.std.proofs.lemmas.Bool.Decides.{nat_tests}
use Rattle.std.proofs.Math.ListN.{drop_of_length-le}
use Rattle.element_lang.specs.declared.tree.Stmt.{Stmt}
use Rattle.element_lang.specs.Tree.{ExprTree, BodyTree, StmtTree}
use Rattle.element_lang.specs.Tree.StmtTree.{assign, set_field, look, put, del, choose, repeat, send, drop as drop_packet}
use Rattle.element_lang.specs.Tree.ExprTree.{lit, local, apply}
use Rattle.element_lang.specs.Rules.{ends_always}
use Rattle.element_lang.specs.declared.tree.Expr.{Expr}
use Rattle.element_lang.specs.declared.tree.Expr.TheVariants.{Lit}
use Rattle.gal_bits.specs.declared.op.Op.TheVariants.{Eq}
use Rattle.element_chain.specs.declared.chain.Wire.{Wire}
use Rattle.element_chain.specs.declared.chain.Target.{Target}
use Rattle.element_chain.specs.declared.chain.Target.TheVariants.{Element, Out}
use Rattle.element_lang.specs.View.{expr_tree, expr_trees, stmt_tree, body_tree}
use Rattle.element_chain.specs.Compose.{body_placed, stmt_placed, followed, one, sent_by, tests, two}
use Rattle.element_lang.specs.declared.tree.Middlebox.{Middlebox}
use Rattle.chain_compose.specs.Parts.{chain_of, spot_of, sends_of, ends_of, numbering, placed_behind, written_behind, one_placed, element_written}
use Rattle.chain_compose.proofs.Arms.{arm}
use Rattle.chain_compose.proofs.Below.{known_at, own_known}
use Rattle.chain_compose.proofs.Steps.{put_more, put_none}
use Rattle.chain_compose.proofs.Trees.{body_from, tree_at}
use Rattle.chain_compose.proofs.Weights.{at_most_all, next_level, own_lighter}
use Rattle.chain_compose.proofs.WireEnds.{no_element_written, pushed_one, closed_put, out_end, last_end, element_end, none_sent, sent_put, test_put, no_test_put, first_and_rest}
use Rattle.chain_compose.proofs.RoutesAt.{few_wires, own_wires}
use Rattle.chain_compose.proofs.Levels.{tree_of_let, tree_of_assign, tree_of_set_field, tree_of_look, tree_of_put, tree_of_del, tree_of_repeat, tree_of_send, tree_of_drop, tree_of_local, tree_of_byte}
use Rattle.element_print.proofs.Ifs.{tree_of_if}
use Rattle.chain_compose.proofs.parts.Parts.+place.Goals as goal

pub put_body-put_stmt-requires : goal.put_body-put_stmt-requires
put_body-put_stmt-requires t c =
    let lighter = at_most_all c.args.body.now c.loop-stmt.stmt-index c.stmt-item.result c.loop-stmt-test.true c.stmt-item.is in
    (omega (arith, lighter), (c.requires.element_in_range, (known_at _ c.args.body.now c.loop-stmt.stmt-index c.stmt-item.result c.loop-stmt-test.true c.stmt-item.is c.loop-stmt.invariant.known).0))

pub put_body-loop-stmt-preserved : goal.put_body-loop-stmt-preserved
put_body-loop-stmt-preserved t c =
    let i = c.loop-stmt.stmt-index in
    let spot = spot_of c.args.self.now c.args.place in
    let sends = sends_of c.args.self.now c.args.place in
    let from = body_from c.args.body.now i c.stmt-item.result c.loop-stmt-test.true c.stmt-item.is in
    record {
      known = (known_at _ c.args.body.now i c.stmt-item.result c.loop-stmt-test.true c.stmt-item.is c.loop-stmt.invariant.known).1;
      told =
          put_more spot sends (stmt_tree c.stmt-item.result) (body_tree (drop (i + 1) c.args.body.now)) c.loop-stmt.out.items _ c.loop-stmt.names.items _ c.loop-stmt.widths.items _ c.in_ok-put_stmt.ensures
          ∙ ap (λ (b : BodyTree). placed_behind c.loop-stmt.out.items (body_placed spot sends b (numbering c.loop-stmt.names.items c.loop-stmt.widths.items))) (sym from)
          ∙ c.loop-stmt.invariant.told;
    }

pub put_body-returns : goal.put_body-returns
put_body-returns t c =
    let spot = spot_of c.args.self.now c.args.place in
    let sends = sends_of c.args.self.now c.args.place in
    let none = drop_of_length-le c.args.body.now c.loop-stmt-test.false in
    sym (put_none spot sends c.loop-stmt.out.items c.loop-stmt.names.items c.loop-stmt.widths.items)
    ∙ ap (λ (ss : List Stmt). placed_behind c.loop-stmt.out.items (body_placed spot sends (body_tree ss) (numbering c.loop-stmt.names.items c.loop-stmt.widths.items))) (sym none)
    ∙ c.loop-stmt.invariant.told

-- ## one statement
pub put_stmt-returns-in_ok-push-in-Let : goal.put_stmt-returns-in_ok-push-in-Let
put_stmt-returns-in_ok-push-in-Let t c =
    arm _ _ c.args.stmt.now _ _ _ _ _ _ _ _ (ap stmt_tree c.in-Let.is ∙ tree_of_let _ _) c.in_ok-push-in-Let.ensures.items c.in_ok-let_local-in-Let.ensures

pub put_stmt-returns-in_ok-push-in-Assign : goal.put_stmt-returns-in_ok-push-in-Assign
put_stmt-returns-in_ok-push-in-Assign t c =
    arm _ _ c.args.stmt.now _ _ _ _ _ _ _ _ (ap stmt_tree c.in-Assign.is ∙ tree_of_assign _ _) c.in_ok-push-in-Assign.ensures.items
    (subst (λ (ns : List ℕ). one_placed (stmt_tree c.in_ok-assign-in-Assign.field-0) ns c.args.widths.now.items ≡ stmt_placed (spot_of c.args.self.now c.args.place) (sends_of c.args.self.now c.args.place) (assign c.in-Assign.local (expr_tree c.in-Assign.value)) (numbering ns c.args.widths.now.items))
    c.as_slice.ensures.value (c.in_ok-assign-in-Assign.ensures c.args.widths.now.items))

pub put_stmt-returns-in_ok-push-in-SetField : goal.put_stmt-returns-in_ok-push-in-SetField
put_stmt-returns-in_ok-push-in-SetField t c =
    arm _ _ c.args.stmt.now _ _ _ _ _ _ _ _ (ap stmt_tree c.in-SetField.is ∙ tree_of_set_field _ _) c.in_ok-push-in-SetField.ensures.items
    (subst (λ (ns : List ℕ). one_placed (stmt_tree c.in_ok-set_field-in-SetField.field-0) ns c.args.widths.now.items ≡ stmt_placed (spot_of c.args.self.now c.args.place) (sends_of c.args.self.now c.args.place) (set_field c.in-SetField.field (expr_tree c.in-SetField.value)) (numbering ns c.args.widths.now.items))
    c.as_slice-in-SetField.ensures.value (c.in_ok-set_field-in-SetField.ensures c.args.widths.now.items))

pub put_stmt-returns-in_ok-push-in-Look : goal.put_stmt-returns-in_ok-push-in-Look
put_stmt-returns-in_ok-push-in-Look t c =
    arm _ _ c.args.stmt.now _ _ _ _ _ _ _ _
    (ap stmt_tree c.in-Look.is ∙ tree_of_look _ _ _ _
    ∙ ap (λ (xs : List ℕ). look c.in-Look.found xs c.in-Look.object (expr_trees c.in-Look.keys.items)) (sym c.deref.ensures.value)
    ∙ ap (λ (ks : List Expr). look c.in-Look.found c.deref.result.now c.in-Look.object (expr_trees ks)) (sym c.deref-in-Look.ensures.value))
    c.in_ok-push-in-Look.ensures.items c.in_ok-look-in-Look.ensures

pub put_stmt-returns-in_ok-push-in-Put : goal.put_stmt-returns-in_ok-push-in-Put
put_stmt-returns-in_ok-push-in-Put t c =
    arm _ _ c.args.stmt.now _ _ _ _ _ _ _ _
    (ap stmt_tree c.in-Put.is ∙ tree_of_put _ _ _ _
    ∙ ap (λ (ks : List Expr). put c.in-Put.ok c.in-Put.object (expr_trees ks) (expr_trees c.in-Put.values.items)) (sym c.deref-in-Put.ensures.value)
    ∙ ap (λ (vs : List Expr). put c.in-Put.ok c.in-Put.object (expr_trees c.deref-in-Put.result.now) (expr_trees vs)) (sym c.deref-in-Put-2.ensures.value))
    c.in_ok-push-in-Put.ensures.items c.in_ok-put-in-Put.ensures

pub put_stmt-returns-in_ok-push-in-Del : goal.put_stmt-returns-in_ok-push-in-Del
put_stmt-returns-in_ok-push-in-Del t c =
    arm _ _ c.args.stmt.now _ _ _ _ _ _ _ _
    (ap stmt_tree c.in-Del.is ∙ tree_of_del _ _ _
    ∙ ap (λ (ks : List Expr). del c.in-Del.was c.in-Del.object (expr_trees ks)) (sym c.deref-in-Del.ensures.value))
    c.in_ok-push-in-Del.ensures.items c.in_ok-del-in-Del.ensures

pub put_stmt-returns-in_ok-push-in-If : goal.put_stmt-returns-in_ok-push-in-If
put_stmt-returns-in_ok-push-in-If t c =
    arm _ _ c.args.stmt.now _ _ _ _ _ _ _ _
    (ap stmt_tree c.in-If.is ∙ tree_of_if _ _ _
    ∙ ap (λ (ss : List Stmt). choose (expr_tree c.in-If.cond) (body_tree ss) (body_tree c.in-If.no.items)) (sym c.deref-in-If.ensures.value)
    ∙ ap (λ (ss : List Stmt). choose (expr_tree c.in-If.cond) (body_tree c.deref-in-If.result.now) (body_tree ss)) (sym c.deref-in-If-2.ensures.value))
    c.in_ok-push-in-If.ensures.items c.in_ok-choose-in-If.ensures

pub put_stmt-returns-in_ok-push-in-Repeat : goal.put_stmt-returns-in_ok-push-in-Repeat
put_stmt-returns-in_ok-push-in-Repeat t c =
    arm _ _ c.args.stmt.now _ _ _ _ _ _ _ _
    (ap stmt_tree c.in-Repeat.is ∙ tree_of_repeat _ _ _
    ∙ ap (λ (ss : List Stmt). repeat c.in-Repeat.index c.in-Repeat.count (body_tree ss)) (sym c.deref-in-Repeat.ensures.value))
    c.in_ok-push-in-Repeat.ensures.items c.in_ok-repeat-in-Repeat.ensures

pub put_stmt-returns-in_ok-push-in-Drop : goal.put_stmt-returns-in_ok-push-in-Drop
put_stmt-returns-in_ok-push-in-Drop t c =
    arm _ _ c.args.stmt.now _ _ _ _ _ _ _ _ (ap stmt_tree c.in-Drop.is ∙ tree_of_drop) c.in_ok-push-in-Drop.ensures.items
    (ap (λ (s : StmtTree). one_placed s c.args.names.now.items c.args.widths.now.items) tree_of_drop)

-- ## an element
pub put_element-returns-then-element-self : goal.put_element-returns-then-element-self
put_element-returns-then-element-self t c =
    pushed_one c.args.out.now.items _ _ drop_packet c.args.widths.now.items c.args.widths.now.items (element_written c.args.self.now c.args.place c.args.widths.now.items) c.in_ok-push.ensures.items tree_of_drop
    (no_element_written c.args.self.now c.args.place c.args.widths.now.items c.if-element-self.true) refl

pub put_element-put_body-requires : goal.put_element-put_body-requires
put_element-put_body-requires t c =
    let m = c.index-self-element.result in (
      omega (arith, own_lighter c.args.self.now.classes.now c.args.place.levels c.args.place.element m c.deref.result.now c.if-element-self.false c.index-self-element.is (c.deref.ensures.value ∙ ap (λ (k : Middlebox). k.body.items) (sym c.index-self-element.is))),
      (c.if-element-self.false, own_known c.args.self.now c.args.place m c.deref.result.now c.if-element-self.false c.index-self-element.is (c.deref.ensures.value ∙ ap (λ (k : Middlebox). k.body.items) (sym c.index-self-element.is))),
    )

pub put_element-returns : goal.put_element-returns
put_element-returns t c =
    let m = c.index-self-element.result in
    let out = c.args.out.now.items in
    let widths = c.args.widths.now.items in
    let b = body_tree c.deref.result.now in
    let again : c.deref-2.result.now ≡ c.deref.result.now = c.deref-2.ensures.value ∙ sym c.deref.ensures.value in
    closed_put c.args.self.now c.args.place widths _ _ out c.put_body.new.out.items _ m b
    (tree_at c.args.self.now.classes.now c.args.place.element m c.if-element-self.false c.index-self-element.is)
    (ap body_tree (c.deref.ensures.value ∙ ap (λ (k : Middlebox). k.body.items) (sym c.index-self-element.is)))
    (c.in_ok-put_body.ensures ∙ ap (λ (ns : List ℕ). placed_behind out (body_placed (spot_of c.args.self.now c.args.place) (sends_of c.args.self.now c.args.place) b (numbering ns widths))) c.new-names.ensures.items)
    (c.in_ok-close.ensures ∙ ap (λ (ss : List Stmt). cond (ends_always (body_tree ss)) (body_tree c.put_body.new.out.items) (followed (body_tree c.put_body.new.out.items) (one drop_packet))) again)

-- ## the end of a wire
pub put_end-put_element-requires : goal.put_end-put_element-requires
put_end-put_element-requires t c =
    (omega (arith, next_level c.args.self.now.classes.now c.args.place.levels c.if-place-gt0.true), tt)

pub put_end-returns-in_ok-push-in-Out : goal.put_end-returns-in_ok-push-in-Out
put_end-returns-in_ok-push-in-Out t c =
    let input = c.args.wire.now.input in
    let widths = c.args.widths.now.items in
    pushed_one c.args.out.now.items _ _ (send (lit input 8)) widths widths (ends_of c.args.self.now c.args.place Out input widths) c.in_ok-push-in-Out.ensures.items
    (tree_of_send _ ∙ ap send (tree_of_byte _ input _ c.from.ensures c.args.self.now.eight)) (out_end (chain_of c.args.self.now) c.args.place.levels input widths) refl
    ∙ ap (λ (to : Target). written_behind c.args.out.now.items (ends_of c.args.self.now c.args.place to input widths)) (sym c.in-Out.is)

pub put_end-returns-in_ok-put_element-in-Element : goal.put_end-returns-in_ok-put_element-in-Element
put_end-returns-in_ok-put_element-in-Element t c =
    element_end c.args.self.now c.args.place _ c.in-Element.element c.args.wire.now.input c.args.widths.now.items _ c.args.out.now.items _ _ c.if-place-gt0.true refl c.in_ok-put_clearing-in-Element.ensures c.in_ok-put_element-in-Element.ensures
    ∙ ap (λ (to : Target). written_behind c.args.out.now.items (ends_of c.args.self.now c.args.place to c.args.wire.now.input c.args.widths.now.items)) (sym c.in-Element.is)

pub put_end-returns-in_ok-push-in-Element-2 : goal.put_end-returns-in_ok-push-in-Element-2
put_end-returns-in_ok-push-in-Element-2 t c =
    let input = c.args.wire.now.input in
    let widths = c.args.widths.now.items in
    let none : c.args.place.levels ≡ 0 = omega (arith, c.if-place-gt0.false) in
    pushed_one c.args.out.now.items _ _ drop_packet widths widths (ends_of c.args.self.now c.args.place (Element c.in-Element-2.field-0) input widths) c.in_ok-push-in-Element-2.ensures.items
    tree_of_drop (last_end (chain_of c.args.self.now) c.args.place.levels c.in-Element-2.field-0 input widths none) refl
    ∙ ap (λ (to : Target). written_behind c.args.out.now.items (ends_of c.args.self.now c.args.place to input widths)) (sym c.in-Element-2.is)

-- ## what stands for a `send`
pub put_sent-returns-then-is_empty : goal.put_sent-returns-then-is_empty
put_sent-returns-then-is_empty t c =
    let port = expr_tree c.args.port in
    let widths = c.args.widths.now.items in
    let ends = ends_of c.args.self.now c.args.place in
    let none : length c.of-wires.result.now ≡ 0 = first_of (omega arith, grind (arith, nat_tests), search (rules, bool_tests)) in
    pushed_one c.args.out.now.items _ _ drop_packet widths widths (sent_by ends c.of-wires.result.now port widths) c.in_ok-push.ensures.items tree_of_drop (none_sent ends c.of-wires.result.now port widths none) refl
    ∙ ap (λ (ws : List Wire). written_behind c.args.out.now.items (sent_by ends ws port widths)) (own_wires c.args.self.now c.args.place.element c.of-wires.result.now c.requires c.of-wires.ensures)

pub put_sent-put_tests-requires : goal.put_sent-put_tests-requires
put_sent-put_tests-requires t c =
    let own = own_wires c.args.self.now c.args.place.element c.of-wires.result.now c.requires c.of-wires.ensures in
    let few : length c.of-wires.result.now ≤ 256 = subst (λ (ws : List Wire). length ws ≤ 256) (sym own) (few_wires c.args.self.now.chain.now.wires c.args.place.element) in
    (omega (arith, few), tt)

pub put_sent-returns : goal.put_sent-returns
put_sent-returns t c =
    let some : 0 < length c.of-wires.result.now = first_of (omega arith, grind (arith, nat_tests), search (rules, bool_tests)) in
    sent_put (ends_of c.args.self.now c.args.place) c.of-wires.result.now _ (expr_tree c.args.port) c.in_ok-local.local c.args.widths.now.items _ _ c.args.out.now.items _ _ _ some
    (own_wires c.args.self.now c.args.place.element c.of-wires.result.now c.requires c.of-wires.ensures) c.in_ok-local.ensures
    (c.in_ok-push-2.ensures.items ∙ ap (λ (w : ℕ). c.args.widths.now.items ++ w ∷ []) c.args.self.now.eight)
    c.in_ok-push-3.ensures.items (tree_of_let _ _) c.in_ok-put_tests.ensures

-- ## tests
pub put_tests-returns-in_ok-push-in-empty : goal.put_tests-returns-in_ok-push-in-empty
put_tests-returns-in_ok-push-in-empty t c =
    no_test_put (ends_of c.args.self.now c.args.place) c.args.local c.args.wires.now c.args.widths.now.items c.args.out.now.items _ _ (omega arith) c.in_ok-push-in-empty.ensures.items tree_of_drop

pub put_tests-returns-in_ok-push-in-len1-up : goal.put_tests-returns-in_ok-push-in-len1-up
put_tests-returns-in_ok-push-in-len1-up t c =
    let ends = ends_of c.args.self.now c.args.place in
    let w = slice_index_or c.args.wires.now 0 (record { from = 0; output = 0; input = 0; to = Element 0 }) in
    let widths = c.args.widths.now.items in
    let test : expr_tree c.in_ok-cond-in-len1-up.cond ≡ apply Eq 1 (two (local c.args.local) (lit w.output 8)) =
    c.in_ok-cond-in-len1-up.ensures
    ∙ ap (λ (e : ExprTree). apply Eq 1 (two e (expr_tree (Lit c.from.result c.args.self.now.byte)))) (tree_of_local c.args.local)
    ∙ ap (λ (e : ExprTree). apply Eq 1 (two (local c.args.local) e)) (tree_of_byte _ w.output _ c.from.ensures c.args.self.now.eight) in
    test_put ends c.args.local w _ c.args.wires.now widths _ _ c.args.out.now.items _ _ _ _ (first_and_rest c.args.wires.now _ c.in-len1-up.len_at_least)
    (c.in_ok-put_end-in-len1-up.ensures ∙ ap (λ (ss : List Stmt). written_behind ss (ends w.to w.input widths)) c.new-yes.ensures.items)
    (c.in_ok-put_tests-in-len1-up.ensures ∙ ap (λ (ss : List Stmt). written_behind ss (tests ends c.args.local (take (length c.args.wires.now - 1) (drop 1 c.args.wires.now)) c.put_end.new.widths.items)) c.new-no.ensures.items)
    c.in_ok-push-in-len1-up.ensures.items
    (tree_of_if _ _ _ ∙ ap (λ (e : ExprTree). choose e (body_tree c.put_end.new.out.items) (body_tree c.put_tests.new.out.items)) test)
