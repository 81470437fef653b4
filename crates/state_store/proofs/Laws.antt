-- What holds of every store, as the definitions give it.
use Rattle.std.specs.Prelude.{List, Some, slice_get, ℕ, ◌≡◌}
use Rattle.state_store.proofs.LawLemmas.{change_alone, del_alone, never_full, put_alone}
use Rattle.state_store.specs.Kept.{IsKept}
use Rattle.state_store.specs.Laws.{IsChangedAlone, IsNeverFull, IsRemovedAlone, IsStoredAlone}
use Rattle.state_store.specs.Store.{Object, Store as Objects, object_at}
use Rattle.state_store.specs.declared.object.ObjectDecl.{ObjectDecl}

-- A put and a del change the row of their key alone, and a put keeps to the size.
pub rows_change_alone-put : (object : Object) (key values : List ℕ) → IsStoredAlone object key values
rows_change_alone-put = put_alone

pub rows_change_alone-del : (object : Object) (key : List ℕ) → IsRemovedAlone object key
rows_change_alone-del = del_alone

pub rows_change_alone-others : (store : Objects) (number : ℕ) (object : Object) → IsChangedAlone store number object
rows_change_alone-others = change_alone

-- A put in range on a vector or an integer of a store that keeps its declarations is never refused.
pub rows_that_stay_are_never_full : (objects : List ObjectDecl) (store : Objects) (number : ℕ) (declaration : ObjectDecl)
    → IsKept objects store → slice_get objects number ≡ Some declaration
    → IsNeverFull declaration (object_at store number)
rows_that_stay_are_never_full = never_full
