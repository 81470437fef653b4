-- The rows of objects, as runs tell them.
use Rattle.std.specs.Prelude.{ℕ, suc, Bool, List, [], ◌∷◌, if◌then◌else◌}
use Rattle.state_store.specs.declared.object.ObjectDecl.{ObjectDecl}
use Rattle.state_store.specs.Kinds.{is_table}
use Rattle.state_store.specs.Store.{Store, object_at, rows_of}
use Rattle.run_model.specs.declared.run.ObjectRows.{ObjectRows}

-- the rows of each object that isn't a table, from number n on
abbrev pub parts_from : ℕ → List ObjectDecl → Store → List ObjectRows
parts_from n [] store = []
parts_from n (object ∷ objects) store =
    if is_table object.kind then parts_from (suc n) objects store
    else (record { object = n; rows = rows_of (object_at store n) }) ∷ parts_from (suc n) objects store

-- the rows of a whole store, whose objects are declared so
abbrev pub parts_of : List ObjectDecl → Store → List ObjectRows
parts_of objects store = parts_from 0 objects store

-- the rows of each object whose number passes the test, from number n on
abbrev pub parts_where : (ℕ → Bool) → ℕ → List ObjectDecl → Store → List ObjectRows
parts_where test n [] store = []
parts_where test n (object ∷ objects) store =
    let behind = parts_where test (suc n) objects store in
    if test n then (record { object = n; rows = rows_of (object_at store n) }) ∷ behind else behind
