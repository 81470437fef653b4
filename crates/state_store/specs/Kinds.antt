-- Kinds of objects, as tests.
use Rattle.std.specs.Prelude.{ℕ, zero, suc, Bool, true, false, List, [], ◌∷◌}
use Rattle.state_store.specs.declared.object.Kind.{Kind}
use Rattle.state_store.specs.declared.object.Kind.TheVariants.{Table, Map}
use Rattle.state_store.specs.declared.object.ObjectDecl.{ObjectDecl}

abbrev pub is_table : Kind → Bool
is_table Table = true
is_table _ = false

-- the object of this number is a constant table
abbrev pub is_constant : List ObjectDecl → ℕ → Bool
is_constant [] o = false
is_constant (d ∷ ds) zero = is_table d.kind
is_constant (d ∷ ds) (suc o) = is_constant ds o

abbrev pub is_map : Kind → Bool
is_map Map = true
is_map _ = false
