-- How deep an element is by its own statements and by the level of its innermost `send`.
use Rattle.std.proofs.Common.{◌≡◌, ◌≤◌, ℕ, zero, suc, ◌+◌, List, [], ◌∷◌, max, refl, sym, ap, ◌∙◌, arith}
use Rattle.element_lang.specs.Tree.{ExprTree, StmtTree, BodyTree}
use Rattle.element_lang.specs.Tree.StmtTree.{choose, repeat, send}
use Rattle.element_lang.specs.Tree.BodyTree.{done, stmt}
use Rattle.element_print.specs.Depths.{expr_depth, stmt_depth, body_depth}
use Rattle.element_chain.specs.declared.chain.Wire.{Wire}
use Rattle.element_chain.specs.declared.chain.Target.{Target}
use Rattle.element_chain.specs.Chain.{Connected, element_at}
use Rattle.element_chain.specs.Compose.{wires_of}
use Rattle.chain_compose.specs.Depths.{placed_stmt_depth, placed_depth, tests_depth, sent_depth, element_depth}
use Rattle.chain_compose.specs.SendLevels.{further_in, stmt_level, level_in, port_depth, has_wires, with_tests, own_depth, own_level}

-- a body as it stands is as deep as one whose `send`s are as deep as their ports
mutual
  stmt_as_placed : (s : StmtTree) → placed_stmt_depth expr_depth s ≡ stmt_depth s
  stmt_as_placed (choose test first second) = omega (arith, body_as_placed first, body_as_placed second)
  stmt_as_placed (repeat index count body) = omega (arith, body_as_placed body)
  stmt_as_placed _ = refl

  pub body_as_placed : (b : BodyTree) → placed_depth expr_depth b ≡ body_depth b
  body_as_placed done = refl
  body_as_placed (stmt s b) = omega (arith, stmt_as_placed s, body_as_placed b)

-- ## tests
as_zero : (own level tests : ℕ) → level ≡ 0 → with_tests own level tests ≡ own
as_zero own level tests is = ap (λ (l : ℕ). with_tests own l tests) is

pub as_suc : (own level blocks tests : ℕ) → level ≡ suc blocks → with_tests own level tests ≡ max own (blocks + tests)
as_suc own level blocks tests is = ap (λ (l : ℕ). with_tests own l tests) is

joined_tests : (a b l k tests : ℕ) → max (with_tests a l tests) (with_tests b k tests) ≡ with_tests (max a b) (max l k) tests
joined_tests a b zero zero tests = sym (as_zero (max a b) (max 0 0) tests (omega arith))
joined_tests a b zero (suc k) tests = omega (arith, as_suc (max a b) (max 0 (suc k)) k tests (omega arith))
joined_tests a b (suc l) zero tests = omega (arith, as_suc (max a b) (max (suc l) 0) l tests (omega arith))
joined_tests a b (suc l) (suc k) tests = omega (arith, as_suc (max a b) (max (suc l) (suc k)) (max l k) tests (omega arith))

-- a block around statements
within_block : (own level tests : ℕ) → suc (with_tests own level tests) ≡ with_tests (suc own) (further_in level) tests
within_block own zero tests = refl
within_block own (suc blocks) tests = omega arith

-- beside what stands in the blocks
beside : (head own level tests : ℕ) → max head (with_tests own level tests) ≡ with_tests (max head own) level tests
beside head own zero tests = refl
beside head own (suc blocks) tests = omega arith

module _ (port : ExprTree → ℕ) (tests : ℕ) where
  abbrev tested : ExprTree → ℕ
  tested e = max (port e) tests

  mutual
    stmt_tested : (s : StmtTree) → placed_stmt_depth tested s ≡ with_tests (placed_stmt_depth port s) (stmt_level s) tests
    stmt_tested (choose test first second) =
        let own = max (placed_depth port first) (placed_depth port second) in
        let level = max (level_in first) (level_in second) in
        let blocks : max (placed_depth tested first) (placed_depth tested second) ≡ with_tests own level tests =
        ap (λ (d : ℕ). max d (placed_depth tested second)) (body_tested first)
        ∙ ap (max (with_tests (placed_depth port first) (level_in first) tests)) (body_tested second)
        ∙ joined_tests (placed_depth port first) (placed_depth port second) (level_in first) (level_in second) tests in
        ap (λ (d : ℕ). max (expr_depth test) (suc d)) blocks
        ∙ ap (max (expr_depth test)) (within_block own level tests)
        ∙ beside (expr_depth test) (suc own) (further_in level) tests
    stmt_tested (repeat index count body) =
        ap suc (body_tested body) ∙ within_block (placed_depth port body) (level_in body) tests
    stmt_tested (send e) = omega arith
    stmt_tested _ = refl

    pub body_tested : (b : BodyTree) → placed_depth tested b ≡ with_tests (placed_depth port b) (level_in b) tests
    body_tested done = refl
    body_tested (stmt s b) =
        ap (λ (d : ℕ). max d (placed_depth tested b)) (stmt_tested s)
        ∙ ap (max (with_tests (placed_stmt_depth port s) (stmt_level s) tests)) (body_tested b)
        ∙ joined_tests (placed_stmt_depth port s) (placed_depth port b) (stmt_level s) (level_in b) tests

-- a function of ports by its values
mutual
  stmt_alike : (f g : ExprTree → ℕ) → ((e : ExprTree) → f e ≡ g e) → (s : StmtTree) → placed_stmt_depth f s ≡ placed_stmt_depth g s
  stmt_alike f g same (choose test first second) = omega (arith, body_alike f g same first, body_alike f g same second)
  stmt_alike f g same (repeat index count body) = omega (arith, body_alike f g same body)
  stmt_alike f g same (send e) = same e
  stmt_alike f g same _ = refl

  pub body_alike : (f g : ExprTree → ℕ) → ((e : ExprTree) → f e ≡ g e) → (b : BodyTree) → placed_depth f b ≡ placed_depth g b
  body_alike f g same done = refl
  body_alike f g same (stmt s b) = omega (arith, stmt_alike f g same s, body_alike f g same b)

sent_tested : (depth : Target → ℕ) (ws : List Wire) (e : ExprTree) → sent_depth depth ws e ≡ max (port_depth (has_wires ws) e) (tests_depth depth ws)
sent_tested depth [] e = refl
sent_tested depth (w ∷ ws) e = refl

-- an element, by numbers alone
pub element_by_level : (c : Connected) (depth : Target → ℕ) (e : ℕ)
    → element_depth c depth e ≡ with_tests (own_depth c e) (own_level c e) (tests_depth depth (wires_of c.wires e))
element_by_level c depth e =
    let ws = wires_of c.wires e in
    let b = (element_at c.elements e).body in
    let port = port_depth (has_wires ws) in
    body_alike (sent_depth depth ws) (λ (p : ExprTree). max (port p) (tests_depth depth ws)) (sent_tested depth ws) b
    ∙ body_tested port (tests_depth depth ws) b

-- ## how far in a `send` can stand
further_in_most : (level own : ℕ) → level ≤ suc own → further_in level ≤ suc (suc own)
further_in_most zero own most = omega arith
further_in_most (suc n) own most = omega (arith, most)

mutual
  stmt_level_most : (port : ExprTree → ℕ) (s : StmtTree) → stmt_level s ≤ suc (placed_stmt_depth port s)
  stmt_level_most port (choose test first second) =
      let own = max (placed_depth port first) (placed_depth port second) in
      let most = further_in_most (max (level_in first) (level_in second)) own (omega (arith, level_most port first, level_most port second)) in
      omega (arith, most)
  stmt_level_most port (repeat index count body) = further_in_most (level_in body) (placed_depth port body) (level_most port body)
  stmt_level_most port _ = omega arith

  pub level_most : (port : ExprTree → ℕ) (b : BodyTree) → level_in b ≤ suc (placed_depth port b)
  level_most port done = omega arith
  level_most port (stmt s b) = omega (arith, stmt_level_most port s, level_most port b)
