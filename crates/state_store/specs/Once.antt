-- At most one proof that a store keeps what was declared.
use Rattle.std.specs.Prelude.{List}
use Rattle.std.specs.Coded.{Coded-set, coded_bool, coded_ℕ, le_prop}
use Rattle.state_store.specs.Codes.{contents_code, kind_code}
use Rattle.state_store.specs.declared.object.ObjectDecl.{ObjectDecl}
use Rattle.state_store.specs.Kept.{IsKept, IsKeptObject, IsWhole}
use Rattle.state_store.specs.Store.{Object, Store, object_at}

whole_prop : (declaration : ObjectDecl) (object : Object) → IsProp (IsWhole declaration object)
whole_prop declaration object a b = λ i. record {
  vector = λ is index lt. Coded-set coded_bool _ _ (a.vector is index lt) (b.vector is index lt) i;
  int = λ is. Coded-set coded_bool _ _ (a.int is) (b.int is) i;
}

pub kept_object_prop : (declaration : ObjectDecl) (object : Object) → IsProp (IsKeptObject declaration object)
kept_object_prop declaration object a b = λ i. record {
  kind = Coded-set kind_code _ _ a.kind b.kind i;
  size = Coded-set coded_ℕ _ _ a.size b.size i;
  count = Coded-set coded_ℕ _ _ a.count b.count i;
  few = le_prop a.few b.few i;
  rows = λ key values is. Coded-set coded_bool _ _ (a.rows key values is) (b.rows key values is) i;
  table = λ is. Coded-set contents_code _ _ (a.table is) (b.table is) i;
}

pub kept_prop : (objects : List ObjectDecl) (store : Store) → IsProp (IsKept objects store)
kept_prop objects store a b = λ i. record {
  count = Coded-set coded_ℕ _ _ a.count b.count i;
  each = λ number declaration is.
      kept_object_prop declaration (object_at store number)
      (a.each number declaration is) (b.each number declaration is) i;
  whole = λ number declaration is.
      whole_prop declaration (object_at store number)
      (a.whole number declaration is) (b.whole number declaration is) i;
}
