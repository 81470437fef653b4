-- How much a middlebox holds, and how often it may write in a run.
use Rattle.std.specs.Prelude.{ℕ, ◌+◌, ◌*◌, List, [], ◌∷◌, length}
use Rattle.state_store.specs.declared.object.Kind.{Kind}
use Rattle.state_store.specs.declared.object.Kind.TheVariants.{Table, Int, Map, Vector}
use Rattle.state_store.specs.declared.object.ObjectDecl.{ObjectDecl}
use Rattle.element_lang.specs.Tree.{StmtTree, BodyTree, Tree}
use Rattle.element_lang.specs.Tree.StmtTree.{put, del, choose, repeat, let_local, assign, set_field, look, send, drop}
use Rattle.element_lang.specs.Tree.BodyTree.{done, stmt}

-- the rows of a table, the capacity of a map, the length of a vector, and nothing for an integer
abbrev pub entries_of : Kind → ObjectDecl → ℕ
entries_of Table o = length o.rows
entries_of Map o = o.size
entries_of Vector o = o.size
entries_of Int o = 0

abbrev pub entries_in : List ObjectDecl → ℕ
entries_in [] = 0
entries_in (o ∷ os) = entries_of o.kind o + entries_in os

abbrev pub entries : Tree → ℕ
entries m = entries_in m.objects

-- the statements that store or remove a row, at any depth, those in a `repeat` counted as often as it runs
abbrev mutual
  pub writes_of : StmtTree → ℕ
  writes_of (put ok object keys values) = 1
  writes_of (del was object keys) = 1
  writes_of (choose cond first second) = writes_in first + writes_in second
  writes_of (repeat index count body) = count * writes_in body
  writes_of (let_local x value) = 0
  writes_of (assign x value) = 0
  writes_of (set_field f value) = 0
  writes_of (look found into object keys) = 0
  writes_of (send port) = 0
  writes_of drop = 0

  pub writes_in : BodyTree → ℕ
  writes_in done = 0
  writes_in (stmt s b) = writes_of s + writes_in b

abbrev pub writes : Tree → ℕ
writes m = writes_in m.body
