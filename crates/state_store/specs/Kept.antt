-- What a store keeps of the declarations that it was made for.
use Rattle.std.specs.Prelude.{◌≡◌, ◌<◌, ◌≤◌, ◌^◌, ℕ, Bool, true, false, ◌&&◌, List, [], ◌∷◌, length, nat_lt, Some}
use Rattle.std.specs.Prelude.{slice_get, IsTrue}
use Rattle.std.specs.FinMap as map
use Rattle.state_store.specs.declared.object.Kind.TheVariants.{Table, Vector, Int}
use Rattle.state_store.specs.declared.object.ObjectDecl.{ObjectDecl}
use Rattle.state_store.specs.Store.{Object, Store, start_object, object_at, look}

-- the numbers are as many as the widths, and each has no more bits than the width at its place
abbrev pub have_widths : List ℕ → List ℕ → Bool
have_widths [] [] = true
have_widths [] (n ∷ ns) = false
have_widths (w ∷ ws) [] = false
have_widths (w ∷ ws) (n ∷ ns) = nat_lt n (2 ^ w) && have_widths ws ns

-- an object as it was declared
pub record IsKeptObject (declaration : ObjectDecl) (object : Object) : Type 0 where
  pub kind : object.kind ≡ declaration.kind
  pub size : object.size ≡ declaration.size
  pub count : object.count ≡ length declaration.values
  -- no more rows than its size
  pub few : map.len object.contents ≤ declaration.size
  -- keys and values of the declared widths
  pub rows : (key values : List ℕ) → look object key ≡ Some values
      → IsTrue (have_widths declaration.keys key && have_widths declaration.values values)
  -- the rows of a table are those that were declared
  pub table : declaration.kind ≡ Table → object.contents ≡ (start_object declaration).contents

-- each row that never goes is there: a vector's at each index below its length, and an integer's one
pub record IsWhole (declaration : ObjectDecl) (object : Object) : Type 0 where
  pub vector : declaration.kind ≡ Vector → (index : ℕ) → index < declaration.size
      → IsTrue (map.contains_key object.contents (index ∷ []))
  pub int : declaration.kind ≡ Int → IsTrue (map.contains_key object.contents [])

-- every object is kept and whole, and there is no other
pub record IsKept (objects : List ObjectDecl) (store : Store) : Type 0 where
  pub count : length store ≡ length objects
  pub each : (number : ℕ) (declaration : ObjectDecl) → slice_get objects number ≡ Some declaration
      → IsKeptObject declaration (object_at store number)
  pub whole : (number : ℕ) (declaration : ObjectDecl) → slice_get objects number ≡ Some declaration
      → IsWhole declaration (object_at store number)
