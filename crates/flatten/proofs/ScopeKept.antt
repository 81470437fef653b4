-- What pieces keep of a state, and what is in scope behind them.
use Rattle.std.proofs.Common.{◌≡◌, ℕ, suc, ◌+◌, false, List, [], ◌∷◌, ◌++◌, length, get_or, None, refl, ◌∙◌}
use Rattle.packet_fields.specs.declared.field.Field.{Field}
use Rattle.packet_fields.specs.Table.{row, field_index}
use Rattle.element_lang.specs.Tree.{StmtTree}
use Rattle.element_lang.specs.Rules.{binds}
use Rattle.flat_ir.specs.declared.program.ValueId.{ValueId}
use Rattle.flatten.specs.declared.place.Place.{Place}
use Rattle.flatten.specs.Flatten.{Emitted, View, Flattener, result_of, flat_expr, flat_exprs, bound, bound_to, flat_stmt}
use Rattle.flatten.proofs.Views.{IsThere, there_set, there_new, Knows, knows_later}

-- what is in scope stays so, and so does the value of a field that can't be written
pub record Keeps (w w' : View) : Type 0 where
  pub locals : (x : ℕ) → IsThere w.locals x → IsThere w'.locals x
  pub fields : (x : ℕ) → IsThere w.fields x → IsThere w'.fields x
  pub fixed : (f : Field) → (row f).writable ≡ false → get_or w'.fields (field_index f) None ≡ get_or w.fields (field_index f) None

pub keeps_refl : (w : View) → Keeps w w
keeps_refl w = record { locals = λ x h. h; fields = λ x h. h; fixed = λ f e. refl }

pub keeps_trans : (w w' w'' : View) → Keeps w w' → Keeps w' w'' → Keeps w w''
keeps_trans w w' w'' p q = record { locals = λ x h. q.locals x (p.locals x h); fields = λ x h. q.fields x (p.fields x h); fixed = λ f e. q.fixed f e ∙ p.fixed f e }

pub keeps_bound : (x : ℕ) (id : ValueId) (w : View) → Keeps w (bound x id w)
keeps_bound x id w = record { locals = λ y h. there_set w.locals x y id h; fields = λ y h. h; fixed = λ f e. refl }

pub keeps_bound_to : (i j : ℕ) (xs : List ℕ) (w : View) → Keeps w (bound_to i j xs w)
keeps_bound_to i j [] w = keeps_refl w
keeps_bound_to i j (x ∷ xs) w =
    let w' = bound x (result_of i j) w in
    keeps_trans w w' (bound_to i (suc j) xs w') (keeps_bound x (result_of i j) w) (keeps_bound_to i (suc j) xs w')

pub knows_keeps : (scope : List ℕ) (w w' : View) → Keeps w w' → Knows scope w.locals → Knows scope w'.locals
knows_keeps scope w w' k kn = knows_later scope w.locals w'.locals k.locals kn

pub knows_bound : (scope : List ℕ) (x : ℕ) (id : ValueId) (w : View) → Knows scope w.locals → Knows (x ∷ scope) (bound x id w).locals
knows_bound scope x id w kn = (there_new w.locals x id, knows_keeps scope w (bound x id w) (keeps_bound x id w) kn)

pub knows_bound_to : (scope : List ℕ) (i j : ℕ) (xs : List ℕ) (w : View) → Knows scope w.locals → Knows (xs ++ scope) (bound_to i j xs w).locals
knows_bound_to scope i j [] w kn = kn
knows_bound_to scope i j (x ∷ xs) w kn =
    let w' = bound x (result_of i j) w in (
      (keeps_bound_to i (suc j) xs w').locals x (there_new w.locals x (result_of i j)),
      knows_bound_to scope i (suc j) xs w' (knows_keeps scope w w' (keeps_bound x (result_of i j) w) kn),
    )

-- what is in scope behind a piece
abbrev pub Leads : List ℕ → List ℕ → Flattener → Type 0
Leads scope scope' go = (p : Place) (g : Emitted) (w : View) → Knows scope w.locals → Keeps w (go p g w).view → Knows scope' (go p g w).view.locals

-- what is in scope behind a statement
pub knows_after : (ws : List ℕ) (t : StmtTree) (scope : List ℕ) → Leads scope (binds t ++ scope) (flat_stmt ws t)
knows_after ws (StmtTree.let_local x e) scope p g w kn k = knows_bound scope x (flat_expr ws p w e g).id w kn
knows_after ws (StmtTree.set_field f e) scope p g w kn k = kn
knows_after ws (StmtTree.look found into object keys) scope p g w kn k = knows_bound_to scope (length (flat_exprs ws p w keys g).given.code) 0 (found ∷ into) w kn
knows_after ws (StmtTree.put ok object keys values) scope p g w kn k =
    knows_bound scope ok (result_of (length (flat_exprs ws p w values (flat_exprs ws p w keys g).given).given.code) 0) w kn
knows_after ws (StmtTree.del was object keys) scope p g w kn k = knows_bound scope was (result_of (length (flat_exprs ws p w keys g).given.code) 0) w kn
knows_after ws (StmtTree.send e) scope p g w kn k = kn
knows_after ws StmtTree.drop scope p g w kn k = kn
knows_after ws _ scope p g w kn k = knows_later scope w.locals _ k.locals kn
