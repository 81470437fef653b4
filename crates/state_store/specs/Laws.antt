-- What a put and a del do to the rows of an object, and to those of the others.
use Rattle.std.specs.Prelude.{◌≡◌, ◌≢◌, ◌<◌, ◌≤◌, ℕ, List, [], ◌∷◌, Some, None}
use Rattle.std.specs.FinMap as map
use Rattle.state_store.specs.declared.object.Kind.TheVariants.{Vector, Int}
use Rattle.state_store.specs.declared.object.ObjectDecl.{ObjectDecl}
use Rattle.state_store.specs.declared.store.Put.TheVariants.{Stored, OutOfRange}
use Rattle.state_store.specs.Store.{Object, Store, look, put_answer, put_row, del_row, object_at, with_object}

-- what is stored is found, every other key has what it had, and there are never more rows than the size
pub record IsStoredAlone (object : Object) (key values : List ℕ) : Type 0 where
  pub this_key : put_answer object key ≡ Stored → look (put_row object key values) key ≡ Some values
  pub other_keys : (k : List ℕ) → k ≢ key → look (put_row object key values) k ≡ look object k
  pub within_size : map.len object.contents ≤ object.size → map.len (put_row object key values).contents ≤ object.size

-- what is removed is found no more, and every other key has what it had
pub record IsRemovedAlone (object : Object) (key : List ℕ) : Type 0 where
  pub this_key : look (del_row object key) key ≡ None
  pub other_keys : (k : List ℕ) → k ≢ key → look (del_row object key) k ≡ look object k

-- to change an object leaves every other one
abbrev pub IsChangedAlone : Store → ℕ → Object → Type 0
IsChangedAlone store number object =
    (other : ℕ) → other ≢ number → object_at (with_object store number object) other ≡ object_at store other

-- A vector stores at each index below its length and nowhere else, and an integer always: neither is ever full.
pub record IsNeverFull (declaration : ObjectDecl) (object : Object) : Type 0 where
  pub vector : declaration.kind ≡ Vector → (index : ℕ) → index < declaration.size
      → put_answer object (index ∷ []) ≡ Stored
  pub outside : declaration.kind ≡ Vector → (index : ℕ) → declaration.size ≤ index
      → put_answer object (index ∷ []) ≡ OutOfRange
  pub int : declaration.kind ≡ Int → put_answer object [] ≡ Stored
