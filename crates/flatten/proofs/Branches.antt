-- The branches of statements and their loops, on plain values.
use Rattle.std.proofs.Common.{◌≡◌, ℕ, zero, suc, ◌+◌, ◌-◌, ◌<◌, List, [], ◌∷◌, ◌++◌, length, drop, get_or, Option, false, refl, sym, ap, ◌∙◌, arith}
use Rattle.std.proofs.lemmas.List.{append-nil}
use Rattle.element_lang.specs.declared.tree.Stmt.{Stmt}
use Rattle.element_lang.specs.Tree.{ExprTree, BodyTree}
use Rattle.element_lang.specs.Tree.StmtTree.{choose}
use Rattle.element_lang.specs.Rules.{is_empty}
use Rattle.element_lang.specs.View.{body_tree}
use Rattle.flat_ir.specs.declared.program.ValueId.{ValueId}
use Rattle.flat_ir.specs.declared.program.FieldValue.{FieldValue}
use Rattle.packet_fields.specs.declared.field.Field.{Field}
use Rattle.flatten.specs.declared.place.Place.{Place}
use Rattle.flatten.specs.Flatten.{Emitted, View, At, Valued, Flattener, flat_expr, flat_stmt, flat_body, flat_turn, flat_turns, in_order, opened, below, second_side, all_changed}
use Rattle.flatten.specs.Pending.{placed, first_at, rest_at}

-- the statements from one on
pub split_at : (ss : List Stmt) (n : ℕ) (s : Stmt) → n < length ss → s ≡ get_or ss n s → drop n ss ≡ s ∷ drop (n + 1) ss
split_at [] n s lt is = absurd (omega (arith, lt))
split_at (t ∷ ss) zero s lt is = ap (λ x. x ∷ ss) (sym is)
split_at (t ∷ ss) (suc n) s lt is =
    let e : suc (n + 1) ≡ suc n + 1 = omega arith in
    split_at ss n s (omega (arith, lt)) is ∙ ap (λ k. s ∷ drop k (t ∷ ss)) e

pub turns_split : (ws : List ℕ) (count i x : ℕ) (go : Flattener) (p : Place) (g : Emitted) (w : View) → i < count → flat_turns ws (count - i) i x go p g w ≡ in_order ws (flat_turn i x go) (flat_turns ws (count - (i + 1)) (i + 1) x go) p g w
turns_split ws count i x go p g w lt =
    let e : count - i ≡ suc (count - (i + 1)) = omega (arith, lt) in
    let n : suc i ≡ i + 1 = omega arith in
    ap (λ n. flat_turns ws n i x go p g w) e ∙ ap (λ k. in_order ws (flat_turn i x go) (flat_turns ws (count - (i + 1)) k x go) p g w) n

pub second_told : (ws : List ℕ) (ss : List Stmt) (p : Place) (v : ValueId) (g : Emitted) (w : View) → 0 < length ss
    → second_side (is_empty (body_tree ss)) p v (flat_body ws (body_tree ss)) g w ≡ flat_body ws (body_tree ss) (below p g) (opened p v false g) w
second_told ws [] p v g w lt = absurd (omega (arith, lt))
second_told ws (s ∷ ss) p v g w lt = refl

pub second_none : (ws : List ℕ) (ss : List Stmt) (p : Place) (v : ValueId) (g : Emitted) (w : View) → length ss ≡ 0
    → second_side (is_empty (body_tree ss)) p v (flat_body ws (body_tree ss)) g w ≡ placed g w
second_none ws [] p v g w e = refl
second_none ws (s ∷ ss) p v g w e = absurd (omega (arith, e))

-- an if, from its two sides
pub choice_made : (ws : List ℕ) (p : Place) (c : ExprTree) (first second a b : BodyTree) (g : Emitted) (w v : View) (x : Valued) (r : At) → x ≡ flat_expr ws p w c g → r ≡ first_at ws p a x w → a ≡ first → b ≡ second → v ≡ w
    → rest_at ws p b x.id r v ≡ flat_stmt ws (choose c first second) p g w
choice_made ws p c first second a b g w v x r ex er ea eb ew =
    ap (λ b. rest_at ws p b x.id r v) eb ∙ ap (rest_at ws p second x.id r) ew
    ∙ ap (λ r. rest_at ws p second x.id r w) (er ∙ ap (λ a. first_at ws p a x w) ea)
    ∙ ap (λ x. rest_at ws p second x.id (first_at ws p first x w) w) ex

pub none_came : (made : List FieldValue) (fs : List Field) (xs ys : List (Option ValueId)) → length xs ≡ 0 → made ≡ made ++ all_changed fs xs ys
none_came made (f ∷ fs) (x ∷ xs) ys e = absurd (omega (arith, e))
none_came made _ _ ys e = sym (append-nil made)

pub none_now : (made : List FieldValue) (fs : List Field) (xs ys : List (Option ValueId)) → length ys ≡ 0 → made ≡ made ++ all_changed fs xs ys
none_now made (f ∷ fs) (x ∷ xs) (y ∷ ys) e = absurd (omega (arith, e))
none_now made _ _ _ e = sym (append-nil made)
