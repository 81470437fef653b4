-- Lists of statements, and the trees of elements.
use Rattle.std.proofs.Common.{◌≡◌, ◌<◌, ◌≤◌, ℕ, zero, suc, ◌+◌, List, [], ◌∷◌, ◌++◌, length, map, drop, slice_index_or, refl, sym, ap, ◌∙◌, arith, drop-cons}
use Rattle.element_lang.specs.declared.tree.Middlebox.{Middlebox}
use Rattle.element_lang.specs.declared.tree.Stmt.{Stmt}
use Rattle.element_lang.specs.Tree.{BodyTree}
use Rattle.element_lang.specs.Tree.BodyTree.{done, stmt}
use Rattle.element_lang.specs.View.{tree, stmt_tree, body_tree}
use Rattle.element_chain.specs.Chain.{element_at, no_element}
use Rattle.element_chain.specs.Compose.{followed, one}

pub followed_assoc : (a b c : BodyTree) → followed (followed a b) c ≡ followed a (followed b c)
followed_assoc done b c = refl
followed_assoc (stmt s a) b c = ap (stmt s) (followed_assoc a b c)

-- a statement is pushed
pub body_push : (ss : List Stmt) (s : Stmt) → body_tree (ss ++ s ∷ []) ≡ followed (body_tree ss) (one (stmt_tree s))
body_push [] s = refl
body_push (t ∷ ss) s = ap (stmt (stmt_tree t)) (body_push ss s)

-- the statements from one on
pub body_from : (ss : List Stmt) (i : ℕ) (s : Stmt) → i < length ss → s ≡ slice_index_or ss i s
    → body_tree (drop i ss) ≡ stmt (stmt_tree s) (body_tree (drop (i + 1) ss))
body_from ss i s within is =
    let next : suc i ≡ i + 1 = omega arith in
    ap body_tree (drop-cons ss i s within) ∙ ap (λ (t : Stmt). stmt (stmt_tree t) (body_tree (drop (suc i) ss))) (sym is)
    ∙ ap (λ (k : ℕ). stmt (stmt_tree s) (body_tree (drop k ss))) next

-- the tree of an element
pub tree_at : (ms : List Middlebox) (e : ℕ) (m : Middlebox) → e < length ms → m ≡ slice_index_or ms e m → element_at (map tree ms) e ≡ tree m
tree_at [] e m within is = absurd (omega (arith, within))
tree_at (n ∷ ms) zero m within is = ap tree (sym is)
tree_at (n ∷ ms) (suc e) m within is = tree_at ms e m (omega (arith, within)) is

-- where there is none
pub no_tree : (ms : List Middlebox) (e : ℕ) → length ms ≤ e → element_at (map tree ms) e ≡ no_element
no_tree [] e past = refl
no_tree (n ∷ ms) zero past = absurd (omega (arith, past))
no_tree (n ∷ ms) (suc e) past = no_tree ms e (omega (arith, past))
