-- Constant tables, by their place.
use Rattle.std.proofs.Common.{◌≡◌, ℕ, zero, suc, false, List, [], ◌∷◌, refl}
use Rattle.std.specs.Prelude.{slice_get, Some, None}
use Rattle.state_store.specs.Kinds.{is_table, is_constant}
use Rattle.state_store.specs.declared.object.ObjectDecl.{ObjectDecl}

pub constant_past : (ds : List ObjectDecl) (o : ℕ) → slice_get ds o ≡ None → is_constant ds o ≡ false
constant_past [] o e = refl
constant_past (d ∷ ds) zero e = cc
constant_past (d ∷ ds) (suc o) e = constant_past ds o e

pub constant_at : (ds : List ObjectDecl) (o : ℕ) (d : ObjectDecl) → slice_get ds o ≡ Some d → is_constant ds o ≡ is_table d.kind
constant_at [] o d e = cc
constant_at (x ∷ ds) zero d e = cc
constant_at (x ∷ ds) (suc o) d e = constant_at ds o d e
