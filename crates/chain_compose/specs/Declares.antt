-- Statements that declare only locals that are there.
use Rattle.std.specs.Prelude.{ℕ, ◌<◌}
use Rattle.std.specs.List.{All}
use Rattle.element_lang.specs.Tree.{StmtTree, BodyTree}
use Rattle.element_lang.specs.Tree.StmtTree.{let_local, look, put, del, choose, repeat, assign, set_field, send, drop}
use Rattle.element_lang.specs.Tree.BodyTree.{done, stmt}

-- each local that is declared, at any depth, is one of the first so many
abbrev mutual
  pub DeclaresBelow : ℕ → StmtTree → Type 0
  DeclaresBelow n (let_local x value) = x < n
  DeclaresBelow n (look found into object keys) = (found < n) × All (λ (x : ℕ). x < n) into
  DeclaresBelow n (put ok object keys values) = ok < n
  DeclaresBelow n (del was object keys) = was < n
  DeclaresBelow n (choose cond first second) = AllDeclareBelow n first × AllDeclareBelow n second
  DeclaresBelow n (repeat index count body) = (index < n) × AllDeclareBelow n body
  DeclaresBelow n (assign x value) = Unit {0}
  DeclaresBelow n (set_field f value) = Unit {0}
  DeclaresBelow n (send port) = Unit {0}
  DeclaresBelow n drop = Unit {0}

  pub AllDeclareBelow : ℕ → BodyTree → Type 0
  AllDeclareBelow n done = Unit {0}
  AllDeclareBelow n (stmt s b) = DeclaresBelow n s × AllDeclareBelow n b
