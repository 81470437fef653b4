-- What a put that isn't stored, and a del of a key that isn't there, do to a store.
use Rattle.std.proofs.Common.{◌≡◌, ℕ, zero, suc, Bool, true, false, List, [], ◌∷◌, Some, None, refl, sym, ap, ◌∙◌, if◌then◌else◌}
use Rattle.std.proofs.lemmas.Bool.{true≢false}
use Rattle.state_store.specs.declared.store.Put.{Put}
use Rattle.state_store.specs.declared.store.Put.TheVariants.{Stored, Full, OutOfRange}
use Rattle.state_store.specs.Store.{Object, Store, object_at, with_object, put_answer, put_row, is_out, is_full, is_stored}
use Rattle.flat_ir.specs.Run.{Change, made, put_change, with_changes}

-- to set an object to itself changes nothing
pub set_self : (st : Store) (o : ℕ) → with_object st o (object_at st o) ≡ st
set_self [] o = refl
set_self (x ∷ st) zero = refl
set_self (x ∷ st) (suc o) = ap (λ l. x ∷ l) (set_self st o)

refused : (out full : Bool) (object stored : Object) → is_stored (if out then OutOfRange else (if full then Full else Stored)) ≡ false → (if out then object else (if full then object else stored)) ≡ object
refused true full object stored e = refl
refused false true object stored e = refl
refused false false object stored e = absurd (true≢false e)

put_leaves : (object : Object) (key values : List ℕ) → is_stored (put_answer object key) ≡ false → put_row object key values ≡ object
put_leaves object key values e = refused (is_out object.kind object.size key) (is_full object key) object _ e

-- a put that isn't stored is no change
pub put_refused : (st new : Store) (o : ℕ) (key values : List ℕ) (answer : Put) → answer ≡ put_answer (object_at st o) key → is_stored answer ≡ false → new ≡ with_object st o (put_row (object_at st o) key values) → new ≡ with_changes st (made true (put_change st o key values))
put_refused st new o key values answer is refused after =
    let none : is_stored (put_answer (object_at st o) key) ≡ false = ap is_stored (sym is) ∙ refused in
    let told : Change = record { object = o; key = key; values = Some values } in
    after
    ∙ ap (with_object st o) (put_leaves (object_at st o) key values none)
    ∙ set_self st o
    ∙ sym (ap (λ b. with_changes st (made true (if b then Some told else None))) none)
