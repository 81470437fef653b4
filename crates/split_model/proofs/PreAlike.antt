-- Preprocessing hangs on what it reads alone.
use Rattle.std.proofs.Common.{◌≡◌, ◌≢◌, ℕ, Bool, true, false, not, List, [], ◌∷◌, length, Option, Some, None, refl, sym, ap, ◌∙◌, arith, ⊎_elim, if◌then◌else◌}
use Rattle.std.proofs.lemmas.Bool.{false≢true, cases_Bool, and_from}
use Rattle.std.specs.List.{filter}
use Rattle.packet_fields.specs.declared.packet.Packet.{Packet}
use Rattle.state_store.specs.Store.{Store, object_at, put_row, del_row}
use Rattle.state_store.proofs.Laws.{rows_change_alone-others}
use Rattle.flat_ir.specs.Program.{Program}
use Rattle.flat_ir.specs.Run.{Change, with_changes, with_values, flat_store, flat_changes}
use Rattle.state_store.specs.Kinds.{is_constant}
use Rattle.flat_ir.specs.WellFormed.{IsWellFormed}
use Rattle.flat_ir.proofs.Laws.{a_run_is_its_changes, a_run_keeps_the_tables-runs}
use Rattle.split_model.specs.declared.split.Part.{Part}
use Rattle.split_model.specs.Passes.{AgreeOnShown, replicated_changes}
use Rattle.split_model.specs.Shown.{is_shown, is_replicated}

-- what a filter leaves out
none_left : {X : Type 0} (test : X → Bool) (x : X) (xs : List X) → filter test (x ∷ xs) ≡ [] → (test x ≡ false) × (filter test xs ≡ [])
none_left test x xs e = by_test (test x) e
  where
    by_test : (b : Bool) → (if b then x ∷ filter test xs else filter test xs) ≡ [] → (b ≡ false) × (filter test xs ≡ [])
    by_test true e = absurd cc
    by_test false e = (refl, e)

valued_alone : (st : Store) (c : Change) (o : ℕ) (values : Option (List ℕ)) → o ≢ c.object → object_at (with_values st c.object c.key values) o ≡ object_at st o
valued_alone st c o (Some values) ne = rows_change_alone-others st c.object (put_row (object_at st c.object) c.key values) o ne
valued_alone st c o None ne = rows_change_alone-others st c.object (del_row (object_at st c.object) c.key) o ne

changed_alone : (f : Program) (split : List Part) (o : ℕ) → is_replicated f split o ≡ true → (cs : List Change) (st : Store) → replicated_changes f split cs ≡ [] → object_at (with_changes st cs) o ≡ object_at st o
changed_alone f split o shown [] st none = refl
changed_alone f split o shown (c ∷ cs) st none =
    let parts = none_left (λ (x : Change). is_replicated f split x.object) c cs none in
    changed_alone f split o shown cs (with_values st c.object c.key c.values) parts.1
    ∙ valued_alone st c o c.values (λ e. false≢true (sym parts.0 ∙ ap (is_replicated f split) (sym e) ∙ shown))

pub leaves : (f : Program) (split : List Part) (st : Store) (packet : Packet) → IsWellFormed f → replicated_changes f split (flat_changes f st packet) ≡ [] → AgreeOnShown f split (flat_store f st packet) st
leaves f split st packet well none o shown =
    ⊎_elim
    (λ constant. a_run_keeps_the_tables-runs f st packet well o (length f.code) constant (omega arith))
    (λ mutable. ap (λ s. object_at s o) (a_run_is_its_changes f st packet) ∙ changed_alone f split o (and_from (not (is_constant f.objects o)) (is_shown f split o) (ap not mutable) shown) (flat_changes f st packet) st none)
    (cases_Bool (is_constant f.objects o))
