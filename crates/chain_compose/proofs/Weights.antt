-- How many statements there are within others.
use Rattle.std.proofs.Common.{◌≡◌, ◌<◌, ◌≤◌, ℕ, zero, suc, ◌+◌, ◌-◌, ◌*◌, List, [], ◌∷◌, length, slice_index_or, sym, ap, subst, arith}
use Rattle.std.proofs.Math.Nat.{suc-mul}
use Rattle.element_lang.specs.declared.tree.Stmt.{Stmt}
use Rattle.element_lang.specs.declared.tree.Middlebox.{Middlebox}
use Rattle.element_lang.specs.View.{stmt_tree, body_tree}
use Rattle.chain_compose.specs.Refusals.{statements_of, statements_in}

at_most : (ss : List Stmt) (i : ℕ) (d : Stmt) → i < length ss → statements_of (stmt_tree (slice_index_or ss i d)) ≤ statements_in (body_tree ss)
at_most [] i d within = absurd (omega (arith, within))
at_most (t ∷ ss) zero d within = omega arith
at_most (t ∷ ss) (suc i) d within = omega (arith, at_most ss i d (omega (arith, within)))

-- a statement among others
pub at_most_all : (ss : List Stmt) (i : ℕ) (s : Stmt) → i < length ss → s ≡ slice_index_or ss i s → statements_of (stmt_tree s) ≤ statements_in (body_tree ss)
at_most_all ss i s within is = subst (λ (t : Stmt). statements_of (stmt_tree t) ≤ statements_in (body_tree ss)) (sym is) (at_most ss i s within)

-- ## a recursion through elements
-- the statements of all middleboxes
total : List Middlebox → ℕ
total [] = 0
total (m ∷ ms) = statements_in (body_tree m.body.items) + total ms

at_most_total : (ms : List Middlebox) (e : ℕ) (m : Middlebox) → e < length ms → m ≡ slice_index_or ms e m → statements_in (body_tree m.body.items) ≤ total ms
unfolding total
at_most_total [] e m within is = absurd (omega (arith, within))
at_most_total (n ∷ ms) zero m within is = omega (arith, ap (λ (k : Middlebox). statements_in (body_tree k.body.items)) is)
at_most_total (n ∷ ms) (suc e) m within is = omega (arith, at_most_total ms e m (omega (arith, within)) is)

-- More than all that stands within one element. A `send` weighs more than the tests of 256 wires.
span : List Middlebox → ℕ
span ms = 300 * total ms + 600

pub level : List Middlebox → ℕ → ℕ
level ms n = n * span ms

pub entered : List Middlebox → ℕ → ℕ
entered ms n = level ms n + 300 * total ms + 300

-- an element one level further on
pub next_level : (ms : List Middlebox) (n : ℕ) → 0 < n → entered ms (n - 1) < level ms n
unfolding level entered span
next_level ms zero some = absurd (omega (arith, some))
next_level ms (suc n) some =
    let next : suc n - 1 ≡ n = omega arith in
    let same : (suc n - 1) * (300 * total ms + 600) ≡ n * (300 * total ms + 600) = ap (λ (k : ℕ). k * (300 * total ms + 600)) next in
    let more : suc n * (300 * total ms + 600) ≡ n * (300 * total ms + 600) + (300 * total ms + 600) = suc-mul n (300 * total ms + 600) in
    omega (arith, same, more)

-- the body of an element
pub body_lighter : (ms : List Middlebox) (n e : ℕ) (m : Middlebox) → e < length ms → m ≡ slice_index_or ms e m
    → level ms n + 300 * statements_in (body_tree m.body.items) + 299 < entered ms n
unfolding entered
body_lighter ms n e m within is = omega (arith, at_most_total ms e m within is)

-- and as the code has it
pub own_lighter : (ms : List Middlebox) (n e : ℕ) (m : Middlebox) (b : List Stmt) → e < length ms → m ≡ slice_index_or ms e m → b ≡ m.body.items
    → level ms n + 300 * statements_in (body_tree b) + 299 < entered ms n
own_lighter ms n e m b within is same =
    subst (λ (ss : List Stmt). level ms n + 300 * statements_in (body_tree ss) + 299 < entered ms n) (sym same) (body_lighter ms n e m within is)
