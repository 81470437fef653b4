-- What the turn of one instruction does to an object that the switch keeps, as the switch is told of it.
use Rattle.std.proofs.Common.{◌≡◌, ◌≢◌, ◌<◌, ◌==◌, ℕ, Bool, true, false, List, [], ◌∷◌, length, map, Option, Some, None}
use Rattle.std.proofs.Common.{refl, sym, ap, ◌∙◌, subst, ⊎_elim, is_some, if◌then◌else◌}
use Rattle.std.proofs.lemmas.Bool.{cases_Bool, cases_eq, cond-true, cond-false, eq-eqb, ne_eqb, false≢true}
use Rattle.std.proofs.lemmas.List.{get_or-set_same}
use Rattle.std.proofs.lemmas.Option.{unwrap_or-slice_get}
use Rattle.state_store.specs.Store.{Object, Store, no_object, object_at, with_object, put_answer, put_row, del_row}
use Rattle.state_store.specs.Store as store
use Rattle.flat_ir.specs.Program.{Program, Work}
use Rattle.flat_ir.specs.Program.Work.{put, del}
use Rattle.flat_ir.specs.Blocks.{Reading}
use Rattle.flat_ir.specs.Run.{Change, made, change_of, with_changes, with_values}
use Rattle.split_model.specs.declared.split.Part.{Part}
use Rattle.split_model.specs.Shown.{is_replicated, writes_to}
use Rattle.writeback_table.specs.Batches.{changed_at, takes_at}
use Rattle.writeback_table.specs.Pair.{changed, takes, takes_to}
use Rattle.server_runtime.specs.Serving.{to_of, update_of, updates_of}
use Rattle.state_store.proofs.Laws.{rows_change_alone-others}
use Rattle.split_answers.proofs.Follows.{Follows, none_follow, one_follows}

own_object : (st : Store) (o : ℕ) (x : Object) → o < length st → object_at (with_object st o x) o ≡ x
own_object st o x within =
    unwrap_or-slice_get (with_object st o x) o no_object ∙ get_or-set_same st o x no_object within

-- ## One change

own_change : (st : Store) (o : ℕ) (key : List ℕ) (values : Option (List ℕ)) → o < length st
    → object_at (with_values st o key values) o
    ≡ changed (object_at st o) (update_of (record { object = o; key = key; values = values }))
own_change st o key (Some values) within = own_object st o (put_row (object_at st o) key values) within
own_change st o key None within = own_object st o (del_row (object_at st o) key) within

-- the switch is told of a change of a replicated object, and of no other
told : (f : Program) (split : List Part) (c : Change) → is_replicated f split c.object ≡ true
    → updates_of f split (c ∷ []) ≡ update_of c ∷ []
told f split c shown = ap (λ b. map update_of (if b then c ∷ [] else [])) shown

untold : (f : Program) (split : List Part) (c : Change) → is_replicated f split c.object ≡ false
    → updates_of f split (c ∷ []) ≡ []
untold f split c hidden = ap (λ b. map update_of (if b then c ∷ [] else [])) hidden

other_change : (st : Store) (o k : ℕ) (key : List ℕ) (values : Option (List ℕ)) → o ≢ k
    → object_at (with_values st k key values) o ≡ object_at st o
other_change st o k key (Some values) apart = rows_change_alone-others st k (put_row (object_at st k) key values) o apart
other_change st o k key None apart = rows_change_alone-others st k (del_row (object_at st k) key) o apart

one_change : (st : Store) (o : ℕ) (c : Change) → o < length st
    → object_at (with_values st c.object c.key c.values) o ≡ changed_at o (object_at st o) (update_of c)
one_change st o c within =
    let x = object_at st o in
    ⊎_elim
    (λ same.
    subst (λ k. object_at (with_values st k c.key c.values) o ≡ changed x (update_of c)) (sym same)
    (own_change st o c.key c.values within)
    ∙ sym (cond-true (c.object == o) (changed x (update_of c)) x (eq-eqb c.object o same)))
    (λ apart.
    other_change st o c.object c.key c.values (λ e. apart (sym e))
    ∙ sym (cond-false (c.object == o) (changed x (update_of c)) x (ne_eqb c.object o apart)))
    (cases_eq c.object o)

one_taken : (st : Store) (o : ℕ) (c : Change) → takes_to (object_at st c.object) c.key (to_of c.values) ≡ true
    → takes_at o (object_at st o) (update_of c) ≡ true
one_taken st o c room =
    let x = object_at st o in
    ⊎_elim
    (λ same.
    cond-true (c.object == o) (takes x (update_of c)) true (eq-eqb c.object o same)
    ∙ subst (λ k. takes_to (object_at st k) c.key (to_of c.values) ≡ true) same room)
    (λ apart. cond-false (c.object == o) (takes x (update_of c)) true (ne_eqb c.object o apart))
    (cases_eq c.object o)

module _ (f : Program) (split : List Part) (st : Store) (o : ℕ) (shown : is_replicated f split o ≡ true) (within : o < length st) where
  -- after changes the object is as the switch is told, and at most so many of them are told of this object
  abbrev pub Goes : List Change → ℕ → Type 0
  Goes cs most = Follows o (object_at st o) (object_at (with_changes st cs) o) (updates_of f split cs) most

  change_goes : (c : Change) → takes_to (object_at st c.object) c.key (to_of c.values) ≡ true
      → Goes (c ∷ []) (if c.object == o then 1 else 0)
  change_goes c room =
      let x = object_at st o in
      let y = object_at (with_values st c.object c.key c.values) o in
      let most : ℕ = if c.object == o then 1 else 0 in
      ⊎_elim
      (λ is.
      subst (λ us. Follows o x y us most) (sym (told f split c is))
      (subst (λ z. Follows o x z (update_of c ∷ []) most) (sym (one_change st o c within))
      (one_follows o x (update_of c) (one_taken st o c room))))
      (λ isnt.
      let apart : o ≢ c.object =
      λ e. false≢true (sym isnt ∙ ap (is_replicated f split) (sym e) ∙ shown) in
      subst (λ us. Follows o x y us most) (sym (untold f split c isnt))
      (subst (λ z. Follows o x z [] most) (sym (other_change st o c.object c.key c.values apart))
      (none_follow o x most)))
      (cases_Bool (is_replicated f split c.object))

  made_goes : (live takes : Bool) (c : Change)
      → (takes ≡ true → takes_to (object_at st c.object) c.key (to_of c.values) ≡ true)
      → Goes (made live (if takes then Some c else None)) (if c.object == o then 1 else 0)
  made_goes true true c room = change_goes c (room refl)
  made_goes true false c room = none_follow o (object_at st o) (if c.object == o then 1 else 0)
  made_goes false takes c room = none_follow o (object_at st o) (if c.object == o then 1 else 0)

  none_goes : (live : Bool) → Goes (made live None) 0
  none_goes true = none_follow o (object_at st o) 0
  none_goes false = none_follow o (object_at st o) 0

  pub turn_goes : (reads : Reading) (live : Bool) (work : Work)
      → Goes (made live (change_of reads st work)) (if writes_to o work then 1 else 0)
  turn_goes reads live (put object keys values) =
      made_goes live (store.is_stored (put_answer (object_at st object) (map reads keys)))
      (record { object = object; key = map reads keys; values = Some (map reads values) })
      (λ stored. stored)
  turn_goes reads live (del object keys) =
      made_goes live (is_some (store.look (object_at st object) (map reads keys)))
      (record { object = object; key = map reads keys; values = None }) (λ there. refl)
  turn_goes reads live work = none_goes live
