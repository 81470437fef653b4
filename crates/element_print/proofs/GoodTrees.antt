-- A middlebox that keeps the rules is spelled by the tokens that are printed.
use Rattle.std.proofs.Common.{◌≡◌, ℕ, ◌+◌, ◌<◌, true, List, ◌∷◌, ◌++◌, map, length, Option, Some, None, slice_get, refl, arith}
use Rattle.state_store.specs.declared.object.ObjectDecl.{ObjectDecl}
use Rattle.element_lang.specs.Tree.{Exprs, StmtTree, BodyTree, Tree}
use Rattle.element_lang.specs.Tree.StmtTree.{let_local, assign, set_field, look, put, del, choose, repeat, send, drop}
use Rattle.element_lang.specs.Tree.BodyTree.{done, stmt}
use Rattle.element_lang.specs.Surface.{local_name, object_name, named_expr, named_exprs, named_stmt, named_body}
use Rattle.element_lang.specs.Widths.{local_widths}
use Rattle.element_lang.specs.Rules.{is_good_stmt, is_good_body, widths_of, fits_values, binds, declared_in, declared_by}
use Rattle.element_print.proofs.Spelled.{count}
use Rattle.element_print.proofs.GoodExprs.{good_expr, good_exprs, counted, same_length}
use Rattle.element_print.proofs.SpelledStmts.{StmtSpelled, BodySpelled, let_spelled, assign_spelled, set_field_spelled, look_spelled, put_spelled, del_spelled, if_spelled, repeat_spelled, send_spelled, drop_spelled, done_spelled, stmt_spelled}
use Rattle.lemmas.proofs.Tests.{and_first, and_second}

-- each object has values
pub record HaveValues (os : List ObjectDecl) : Type 0 where
  pub some : (i : ℕ) (o : ObjectDecl) → slice_get os i ≡ Some o → 0 < length o.values

values_there : (declaration : Option ObjectDecl) (ws : List ℕ) → fits_values declaration ws ≡ true
    → ((o : ObjectDecl) → declaration ≡ Some o → 0 < length o.values) → 0 < length ws
values_there None ws fits some = cc
values_there (Some o) ws fits some = omega (arith, same_length ws o.values fits, some o refl)

some_values : (m : Tree) → HaveValues m.objects → (object : ℕ) (values : Exprs)
    → fits_values (slice_get m.objects object) (widths_of (local_widths m) values) ≡ true → 0 < count (named_exprs m values)
some_values m v object values fits =
    let there = values_there (slice_get m.objects object) (widths_of (local_widths m) values) fits (v.some object) in
    omega (arith, counted m (local_widths m) values, there)

mutual
  good_stmt : (m : Tree) → HaveValues m.objects → (scope : List ℕ) (next : ℕ) (s : StmtTree) → is_good_stmt m scope next s ≡ true → StmtSpelled (named_stmt m s)
  good_stmt m v scope next (let_local x e) h = let_spelled (local_name m x) (named_expr m e) (good_expr m _ scope e (and_first _ _ (and_first _ _ (and_first _ _ h))))
  good_stmt m v scope next (assign x e) h = assign_spelled (local_name m x) (named_expr m e) (good_expr m _ scope e (and_first _ _ (and_first _ _ h)))
  good_stmt m v scope next (set_field f e) h = set_field_spelled f (named_expr m e) (good_expr m _ scope e (and_first _ _ (and_first _ _ h)))
  good_stmt m v scope next (look found into object keys) h =
      look_spelled (local_name m found) (object_name m object) (map (local_name m) into) (named_exprs m keys)
      (good_exprs m _ scope keys (and_first _ _ (and_first _ _ (and_first _ _ (and_first _ _ (and_first _ _ h))))))
  good_stmt m v scope next (put ok object keys values) h =
      put_spelled (local_name m ok) (object_name m object) (named_exprs m keys) (named_exprs m values)
      (some_values m v object values (and_second _ _ (and_first _ _ (and_first _ _ (and_first _ _ h)))))
      (good_exprs m _ scope keys (and_first _ _ (and_first _ _ (and_first _ _ (and_first _ _ (and_first _ _ (and_first _ _ (and_first _ _ h))))))))
      (good_exprs m _ scope values (and_second _ _ (and_first _ _ (and_first _ _ (and_first _ _ (and_first _ _ (and_first _ _ (and_first _ _ h))))))))
  good_stmt m v scope next (del was object keys) h =
      del_spelled (local_name m was) (object_name m object) (named_exprs m keys)
      (good_exprs m _ scope keys (and_first _ _ (and_first _ _ (and_first _ _ (and_first _ _ (and_first _ _ h))))))
  good_stmt m v scope next (choose cond first second) h =
      if_spelled (named_expr m cond) (named_body m first) (named_body m second)
      (good_expr m _ scope cond (and_first _ _ (and_first _ _ (and_first _ _ h))))
      (good_body m v scope next first (and_second _ _ (and_first _ _ h)))
      (good_body m v scope (next + declared_by first) second (and_second _ _ h))
  good_stmt m v scope next (repeat index n body) h =
      repeat_spelled (local_name m index) n (named_body m body) (good_body m v (index ∷ scope) (next + 1) body (and_second _ _ h))
  good_stmt m v scope next (send port) h = send_spelled (named_expr m port) (good_expr m _ scope port (and_first _ _ h))
  good_stmt m v scope next drop h = drop_spelled

  pub good_body : (m : Tree) → HaveValues m.objects → (scope : List ℕ) (next : ℕ) (b : BodyTree) → is_good_body m scope next b ≡ true
      → BodySpelled (named_body m b)
  good_body m v scope next done h = done_spelled
  good_body m v scope next (stmt s b) h =
      stmt_spelled (named_stmt m s) (named_body m b)
      (good_stmt m v scope next s (and_first _ _ (and_first _ _ h)))
      (good_body m v (binds s ++ scope) (next + declared_in s) b (and_second _ _ h))
