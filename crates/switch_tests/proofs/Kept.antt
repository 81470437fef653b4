-- What a store keeps that has just begun.
use Rattle.std.proofs.Common.{◌≡◌, ℕ, zero, suc, List, [], ◌∷◌, length, slice_get, Some, ap, arith, refl, sym, ◌∙◌, subst}
use Rattle.std.specs.FinMap.{get-empty, len-empty}
use Rattle.std.proofs.lemmas.Option.{same_Some, none-some}
use Rattle.state_store.specs.declared.object.Kind.TheVariants.{Map, Table}
use Rattle.state_store.specs.declared.object.ObjectDecl.{ObjectDecl}
use Rattle.state_store.specs.Keeping.{start_whole}
use Rattle.state_store.specs.Kept.{IsKept, IsKeptObject, IsWhole}
use Rattle.state_store.specs.Store.{Store, key_cmp, start_object, start_store}
use Rattle.state_store.specs.Store as store

-- where nothing is declared there is nothing to keep
pub nothing_to_keep : (os : List ObjectDecl) (store : Store) → os ≡ [] → store ≡ start_store os → IsKept os store
nothing_to_keep [] store e is = record {
  count = ap length is;
  each = λ number d got. absurd (none-some d got);
  whole = λ number d got. absurd (none-some d got);
}
nothing_to_keep (o ∷ os) store e is = absurd (omega (arith, ap length e))

-- so it is at the start
pub begins_kept : (os : List ObjectDecl) → os ≡ [] → IsKept os (start_store os)
begins_kept os e = nothing_to_keep os (start_store os) e refl

abbrev pub mark : List ℕ → ObjectDecl
mark name = record { name = name; kind = Map; keys = 8 ∷ []; values = 8 ∷ []; size = 4; start = 0; rows = [] }

map_table : Map ≡ Table → ⊥
map_table e = cc

mark_whole : (name : List ℕ) (d : ObjectDecl) → Some (mark name) ≡ Some d → IsWhole d (start_object (mark name))
mark_whole name d e = subst (λ o. IsWhole o (start_object (mark name))) (same_Some (mark name) d e) (start_whole (mark name))

mark_kept : (name : List ℕ) (d : ObjectDecl) → Some (mark name) ≡ Some d → IsKeptObject d (start_object (mark name))
mark_kept name d e = subst (λ o. IsKeptObject o (start_object (mark name))) (same_Some (mark name) d e) (record {
  kind = refl;
  size = refl;
  count = refl;
  few = omega (arith, len-empty key_cmp (List ℕ));
  rows = λ key values is. absurd (none-some values (sym (get-empty key_cmp key) ∙ is));
  table = λ is. absurd (map_table is);
})

-- a store that has just begun keeps what was declared
pub marks_kept : (first second : List ℕ) → IsKept (mark first ∷ mark second ∷ []) (start_store (mark first ∷ mark second ∷ []))
marks_kept first second = record { count = refl; each = each; whole = whole }
  where
    each : (number : ℕ) (d : ObjectDecl) → slice_get (mark first ∷ mark second ∷ []) number ≡ Some d → IsKeptObject d (store.object_at (start_store (mark first ∷ mark second ∷ [])) number)
    each zero d e = mark_kept first d e
    each (suc zero) d e = mark_kept second d e
    each (suc (suc number)) d e = absurd (none-some d e)

    whole : (number : ℕ) (d : ObjectDecl) → slice_get (mark first ∷ mark second ∷ []) number ≡ Some d → IsWhole d (store.object_at (start_store (mark first ∷ mark second ∷ [])) number)
    whole zero d e = mark_whole first d e
    whole (suc zero) d e = mark_whole second d e
    whole (suc (suc number)) d e = absurd (none-some d e)
