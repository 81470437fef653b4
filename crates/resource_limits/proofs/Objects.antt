-- Declared objects, by their place.
use Rattle.std.proofs.Common.{◌≡◌, ℕ, zero, suc, ◌<◌, List, [], ◌∷◌, refl, arith, length, get_or}
use Rattle.state_store.specs.declared.object.ObjectDecl.{ObjectDecl}
use Rattle.state_store.specs.Kinds.{is_table, is_constant}

pub constant_in : (ds : List ObjectDecl) (o : ℕ) (d : ObjectDecl) → o < length ds → is_constant ds o ≡ is_table (get_or ds o d).kind
constant_in [] o d h = absurd (omega arith)
constant_in (x ∷ ds) zero d h = refl
constant_in (x ∷ ds) (suc o) d h = constant_in ds o d (omega arith)
