-- The names that a surface tree declares.
use Rattle.std.specs.Prelude.{ℕ, List}
use Rattle.std.specs.List.{AllByRecursion}
use Rattle.element_lang.specs.Token.{IsName}
use Rattle.element_lang.specs.Surface.{SurfaceStmt, SurfaceBody, SurfaceDecl, Declared, Surface, let_local, assign, set_field, send, drop}
use Rattle.element_lang.specs.Surface.{look, put, del, choose, repeat, done, stmt, table_decl}
use Rattle.element_lang.specs.Surface.{map_decl, vector_decl, int_decl}

-- every name that is declared in it, at any depth, can be written
abbrev mutual
  pub HasStmtNames : SurfaceStmt → Type 0
  HasStmtNames (let_local word value) = IsName word
  HasStmtNames (look found into object keys) = IsName found × AllByRecursion IsName into
  HasStmtNames (put ok object keys values) = IsName ok
  HasStmtNames (del was object keys) = IsName was
  HasStmtNames (choose cond first second) = HasBodyNames first × HasBodyNames second
  HasStmtNames (repeat index count body) = IsName index × HasBodyNames body
  HasStmtNames (assign word value) = Unit {0}
  HasStmtNames (set_field f value) = Unit {0}
  HasStmtNames (send port) = Unit {0}
  HasStmtNames drop = Unit {0}

  pub HasBodyNames : SurfaceBody → Type 0
  HasBodyNames done = Unit {0}
  HasBodyNames (stmt at s b) = HasStmtNames s × HasBodyNames b

abbrev pub declared_name : SurfaceDecl → List ℕ
declared_name (table_decl word keys values rows) = word
declared_name (map_decl word keys values capacity) = word
declared_name (vector_decl word size values) = word
declared_name (int_decl word width start) = word

pub record HasSurfaceNames (s : Surface) : Type 0 where
  pub objects : AllByRecursion (λ (d : Declared). IsName (declared_name d.decl)) s.objects
  pub body : HasBodyNames s.body
