-- What a put and a del answer and change.
use Rattle.std.proofs.Common.{◌≡◌, ℕ, Bool, true, false, List, length, Option, Some, None, is_some, refl, sym, ap, ◌∙◌}
use Rattle.gal_bits.specs.Operators.{bit}
use Rattle.state_store.specs.Store.{Store, Contents, object_at, with_object, is_out, is_full, put_answer, put_row, del_row}
use Rattle.state_store.specs.Store as store
use Rattle.flat_ir.specs.Run.{made, put_change, del_change, with_changes}
use Rattle.flat_ir.proofs.Writes.{set_self}
use Rattle.state_store.proofs.Entries.{map_absent}

-- a put answers whether it has a place, and leaves the same store
abbrev pub PutTells : Store → ℕ → List ℕ → List ℕ → Type 0
PutTells st n key values =
    (length (made true (put_change st n key values)) ≡ bit (store.is_stored (put_answer (object_at st n) key)))
    × (with_changes st (made true (put_change st n key values)) ≡ with_object st n (put_row (object_at st n) key values))

put_by : (st : Store) (n : ℕ) (key values : List ℕ) (out full : Bool) → is_out (object_at st n).kind (object_at st n).size key ≡ out → is_full (object_at st n) key ≡ full → PutTells st n key values
put_by st n key values true full e f = rw e (refl, sym (set_self st n))
put_by st n key values false true e f = rw (e, f) (refl, sym (set_self st n))
put_by st n key values false false e f = rw (e, f) (refl, rw (e, f) refl)

pub put_tells : (st : Store) (n : ℕ) (key values : List ℕ) → PutTells st n key values
put_tells st n key values = put_by st n key values (is_out (object_at st n).kind (object_at st n).size key) (is_full (object_at st n) key) refl refl

abbrev pub DelTells : Store → ℕ → List ℕ → Type 0
DelTells st n key =
    (length (made true (del_change st n key)) ≡ bit (is_some (store.look (object_at st n) key)))
    × (with_changes st (made true (del_change st n key)) ≡ with_object st n (del_row (object_at st n) key))

del_by : (st : Store) (n : ℕ) (key : List ℕ) (found : Option (List ℕ)) → store.look (object_at st n) key ≡ found → DelTells st n key
del_by st n key None e =
    let o = object_at st n in
    let one : del_row o key ≡ o = ap (λ (c : Contents). record o { contents = c }) (map_absent o.contents key e) in
    rw e (refl, sym (ap (with_object st n) one ∙ set_self st n))
del_by st n key (Some values) e = rw e (refl, refl)

pub del_tells : (st : Store) (n : ℕ) (key : List ℕ) → DelTells st n key
del_tells st n key = del_by st n key (store.look (object_at st n) key) refl
