-- The rows of objects one by one.
use Rattle.std.proofs.Common.{◌≡◌, ℕ, suc, ◌+◌, ◌<◌, Bool, true, false, cond, List, [], ◌∷◌, ◌++◌, length, drop, get_or, sym, ap, ◌∙◌, append_assoc, arith}
use Rattle.std.proofs.lemmas.List.{drop_more}
use Rattle.state_store.specs.declared.object.ObjectDecl.{ObjectDecl}
use Rattle.state_store.specs.Kinds.{is_table}
use Rattle.state_store.specs.Store.{Store, object_at, rows_of}
use Rattle.run_model.specs.declared.run.ObjectRows.{ObjectRows}
use Rattle.run_model.specs.Parts.{parts_from}

module _ (n : ℕ) (objects : List ObjectDecl) (store : Store) (o : ObjectDecl) (lt : n < length objects) where
  abbrev part : ObjectRows
  part = record { object = n; rows = rows_of (object_at store n) }

  abbrev rest : List ObjectRows
  rest = parts_from (n + 1) (drop (n + 1) objects) store

  next : suc n ≡ n + 1
  next = omega arith

  parts_at : (b : Bool) → is_table (get_or objects n o).kind ≡ b → parts_from n (drop n objects) store ≡ cond b rest (part ∷ rest)
  parts_at b table =
      ap (λ l. parts_from n l store) (drop_more objects n o lt)
      ∙ (λ i. cond (table i) (parts_from (next i) (drop (n + 1) objects) store) (part ∷ parts_from (next i) (drop (n + 1) objects) store))

  -- a table is passed over
  pub part_passed : (xs ys w : List ObjectRows) → is_table (get_or objects n o).kind ≡ true → ys ≡ xs → xs ++ parts_from n (drop n objects) store ≡ w
      → ys ++ parts_from (n + 1) (drop (n + 1) objects) store ≡ w
  part_passed xs ys w kind same so_far = ap (λ l. l ++ rest) same ∙ ap (λ l. xs ++ l) (sym (parts_at true kind)) ∙ so_far

  -- the rows of another object are told
  pub part_told : (xs ys w : List ObjectRows) → is_table (get_or objects n o).kind ≡ false → ys ≡ xs ++ (record { object = n; rows = rows_of (object_at store n) }) ∷ []
      → xs ++ parts_from n (drop n objects) store ≡ w → ys ++ parts_from (n + 1) (drop (n + 1) objects) store ≡ w
  part_told xs ys w kind put so_far =
      ap (λ l. l ++ rest) put ∙ append_assoc xs (part ∷ []) rest ∙ ap (λ l. xs ++ l) (sym (parts_at false kind)) ∙ so_far
