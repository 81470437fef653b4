-- A middlebox that keeps the rules declares only locals that are there.
use Rattle.std.proofs.Common.{◌≡◌, ◌<◌, ◌≤◌, ℕ, zero, suc, ◌+◌, true, ◌==◌, List, [], ◌∷◌, ◌++◌, length, drop as drop_first, slice_index_or, sym, ap, ◌∙◌, arith, subst}
use Rattle.std.specs.List.{All, list_all}
use Rattle.std.proofs.lemmas.Bool.{eqb-true}
use Rattle.std.proofs.lemmas.List.Elements.{All-nil, All-cons}
use Rattle.element_lang.specs.Tree.{StmtTree, BodyTree, Tree}
use Rattle.element_lang.specs.Tree.StmtTree.{let_local, look, put, del, choose, repeat}
use Rattle.element_lang.specs.Tree.BodyTree.{done, stmt}
use Rattle.element_lang.specs.Rules.{is_good, is_good_stmt, is_good_body, counted_from, declared_in, declared_by, binds}
use Rattle.element_lang.specs.declared.tree.Middlebox.{Middlebox}
use Rattle.element_lang.specs.declared.tree.Stmt.{Stmt}
use Rattle.element_lang.specs.View.{tree, stmt_tree, body_tree}
use Rattle.chain_compose.specs.declared.parts.Parts.{Parts}
use Rattle.chain_compose.specs.declared.parts.Place.{Place}
use Rattle.chain_compose.specs.Parts.{own_tree}
use Rattle.chain_compose.proofs.Trees.{body_from, tree_at}
use Rattle.chain_compose.specs.Declares.{DeclaresBelow, AllDeclareBelow}
use Rattle.lemmas.proofs.Tests.{and_first, and_second}

-- locals that are counted from a number on
low_counted : (n next : ℕ) (xs : List ℕ) → counted_from next xs ≡ true → next + length xs ≤ n → All (λ (x : ℕ). x < n) xs
low_counted n next [] h room = All-nil (λ (x : ℕ). x < n)
low_counted n next (x ∷ xs) h room =
    let is : x ≡ next = eqb-true x next (and_first (x == next) (counted_from (next + 1) xs) h) in
    All-cons (λ (x : ℕ). x < n) x xs (omega (arith, room)) (low_counted n (next + 1) xs (and_second (x == next) (counted_from (next + 1) xs) h) (omega (arith, room)))

first_counted : (n next x : ℕ) → counted_from next (x ∷ []) ≡ true → next + 1 ≤ n → x < n
first_counted n next x h room =
    let is : x ≡ next = eqb-true x next (and_first (x == next) true h) in omega (arith, room)

module _ (m : Tree) (n : ℕ) where
  mutual
    low_stmt : (scope : List ℕ) (next : ℕ) (s : StmtTree) → is_good_stmt m scope next s ≡ true → next + declared_in s ≤ n → DeclaresBelow n s
    low_stmt scope next (let_local x value) h room = first_counted n next x (and_second _ _ (and_first _ _ h)) room
    low_stmt scope next (look found into object keys) h room =
        let counted : counted_from next (found ∷ into) ≡ true = and_second _ _ (and_first _ _ h) in
        let is : found ≡ next = eqb-true found next (and_first (found == next) (counted_from (next + 1) into) counted) in
        (omega (arith, room), low_counted n (next + 1) into (and_second (found == next) (counted_from (next + 1) into) counted) (omega (arith, room)))
    low_stmt scope next (put ok object keys values) h room = first_counted n next ok (and_second _ _ (and_first _ _ h)) room
    low_stmt scope next (del was object keys) h room = first_counted n next was (and_second _ _ (and_first _ _ h)) room
    low_stmt scope next (choose cond first second) h room = (
      low_body scope next first (and_second _ _ (and_first _ _ h)) (omega (arith, room)),
      low_body scope (next + declared_by first) second (and_second _ _ h) (omega (arith, room)),
    )
    low_stmt scope next (repeat index count body) h room = (
      first_counted n next index (and_second _ _ (and_first _ _ (and_first _ _ h))) (omega (arith, room)),
      low_body (index ∷ scope) (next + 1) body (and_second _ _ h) (omega (arith, room)),
    )
    low_stmt scope next _ h room = tt

    low_body : (scope : List ℕ) (next : ℕ) (b : BodyTree) → is_good_body m scope next b ≡ true → next + declared_by b ≤ n → AllDeclareBelow n b
    low_body scope next done h room = tt
    low_body scope next (stmt s b) h room = (
      low_stmt scope next s (and_first _ _ (and_first _ _ h)) (omega (arith, room)),
      low_body (binds s ++ scope) (next + declared_in s) b (and_second _ _ h) (omega (arith, room)),
    )

pub declares_below : (m : Tree) → is_good m ≡ true → AllDeclareBelow (length m.locals) m.body
declares_below m h =
    let count : declared_by m.body ≡ length m.locals = eqb-true (declared_by m.body) (length m.locals) (and_second _ _ (and_first _ _ h)) in
    low_body m (length m.locals) [] 0 m.body (and_second _ _ h) (omega (arith, count))

-- ## in the code
-- a statement among others
pub known_at : (n : ℕ) (ss : List Stmt) (i : ℕ) (s : Stmt) → i < length ss → s ≡ slice_index_or ss i s → AllDeclareBelow n (body_tree (drop_first i ss))
    → DeclaresBelow n (stmt_tree s) × AllDeclareBelow n (body_tree (drop_first (i + 1) ss))
known_at n ss i s within is known = subst (λ (b : BodyTree). AllDeclareBelow n b) (body_from ss i s within is) known

each_good : (ms : List Middlebox) (e : ℕ) (m : Middlebox) → e < length ms → m ≡ slice_index_or ms e m → list_all (λ (k : Middlebox). is_good (tree k)) ms ≡ true → is_good (tree m) ≡ true
each_good [] e m within is h = absurd (omega (arith, within))
each_good (k ∷ ms) zero m within is h = ap (λ (x : Middlebox). is_good (tree x)) is ∙ and_first (is_good (tree k)) (list_all (λ (x : Middlebox). is_good (tree x)) ms) h
each_good (k ∷ ms) (suc e) m within is h = each_good ms e m (omega (arith, within)) is (and_second (is_good (tree k)) (list_all (λ (x : Middlebox). is_good (tree x)) ms) h)

-- the body of an element
pub own_known : (parts : Parts) (place : Place) (m : Middlebox) (b : List Stmt) → place.element < length parts.classes.now → m ≡ slice_index_or parts.classes.now place.element m
    → b ≡ m.body.items → AllDeclareBelow (length (own_tree parts place).locals) (body_tree b)
own_known parts place m b within is same =
    let own : own_tree parts place ≡ tree m = tree_at parts.classes.now place.element m within is in
    subst (λ (ss : List Stmt). AllDeclareBelow (length (own_tree parts place).locals) (body_tree ss)) (sym same)
    (subst (λ (t : Tree). AllDeclareBelow (length t.locals) (body_tree m.body.items)) (sym own)
    (declares_below (tree m) (each_good parts.classes.now place.element m within is parts.good)))
