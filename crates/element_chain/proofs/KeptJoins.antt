-- A store of the whole that keeps what was declared is one of each element, and these make one of the whole.
use Rattle.std.proofs.Common.{◌≡◌, ℕ, zero, suc, ◌<◌, List, [], ◌∷◌, ◌++◌, length, refl, sym, ap, ◌∙◌, subst, arith, Some, slice_get}
use Rattle.state_store.specs.declared.object.ObjectDecl.{ObjectDecl}
use Rattle.state_store.specs.Kept.{IsKeptObject, IsWhole, IsKept}
use Rattle.state_store.specs.Store.{Object, Store, object_at}
use Rattle.element_lang.specs.Tree.{Tree}
use Rattle.element_chain.specs.Chain.{Connected, element_at, store_at}
use Rattle.element_chain.specs.Compose.{prefixed, named_objects, objects_from, composed, joined}
use Rattle.element_chain.specs.Laws.{AreKept}
use Rattle.element_chain.proofs.Tests.{the_some, none_some}
use Rattle.element_chain.proofs.Starts.{same_contents}

abbrev renamed_object : ℕ → ObjectDecl → ObjectDecl
renamed_object e o = record o { name = prefixed e o.name }

-- ## names play no part
kept_named : (o : ObjectDecl) (name : List ℕ) (x : Object) → IsKeptObject o x → IsKeptObject (record o { name = name }) x
kept_named o name x k = record {
  kind = k.kind;
  size = k.size;
  count = k.count;
  few = k.few;
  rows = k.rows;
  table = λ h. k.table h ∙ sym (same_contents o.kind o name);
}

whole_named : (o : ObjectDecl) (name : List ℕ) (x : Object) → IsWhole o x → IsWhole (record o { name = name }) x
whole_named o name x w = record { vector = w.vector; int = w.int }

-- ## one object more
nothing_kept : IsKept [] []
nothing_kept = record {
  count = refl;
  each = λ n d h. absurd (none_some d h);
  whole = λ n d h. absurd (none_some d h);
}

only_nothing : (st : Store) → IsKept [] st → st ≡ []
only_nothing [] k = refl
only_nothing (x ∷ st) k = absurd (omega (arith, k.count))

one_more : (o : ObjectDecl) (os : List ObjectDecl) (x : Object) (st : Store) → IsKeptObject o x → IsWhole o x → IsKept os st
    → IsKept (o ∷ os) (x ∷ st)
one_more o os x st kept whole rest = record { count = omega (arith, rest.count); each = each; whole = all }
  where
    each : (n : ℕ) (d : ObjectDecl) → slice_get (o ∷ os) n ≡ Some d → IsKeptObject d (object_at (x ∷ st) n)
    each zero d h = subst (λ (d : ObjectDecl). IsKeptObject d x) (the_some o d h) kept
    each (suc n) d h = rest.each n d h

    all : (n : ℕ) (d : ObjectDecl) → slice_get (o ∷ os) n ≡ Some d → IsWhole d (object_at (x ∷ st) n)
    all zero d h = subst (λ (d : ObjectDecl). IsWhole d x) (the_some o d h) whole
    all (suc n) d h = rest.whole n d h

one_less : (o : ObjectDecl) (os : List ObjectDecl) (x : Object) (st : Store) → IsKept (o ∷ os) (x ∷ st) → IsKept os st
one_less o os x st k = record {
  count = omega (arith, k.count);
  each = λ n d h. k.each (suc n) d h;
  whole = λ n d h. k.whole (suc n) d h;
}

-- ## the objects of an element under their names in the whole
pub kept_names : (e : ℕ) (os : List ObjectDecl) (st : Store) → IsKept os st → IsKept (named_objects e os) st
kept_names e [] [] k = nothing_kept
kept_names e (o ∷ os) (x ∷ st) k =
    one_more (renamed_object e o) (named_objects e os) x st (kept_named o (prefixed e o.name) x (k.each 0 o refl)) (whole_named o (prefixed e o.name) x (k.whole 0 o refl))
    (kept_names e os st (one_less o os x st k))
kept_names e os st k = absurd (omega (arith, k.count))

pub names_kept : (e : ℕ) (os : List ObjectDecl) (st : Store) → IsKept (named_objects e os) st → IsKept os st
names_kept e [] [] k = nothing_kept
names_kept e (o ∷ os) (x ∷ st) k =
    one_more o os x st (kept_named (renamed_object e o) o.name x (k.each 0 (renamed_object e o) refl)) (whole_named (renamed_object e o) o.name x (k.whole 0 (renamed_object e o) refl))
    (names_kept e os st (one_less (renamed_object e o) (named_objects e os) x st k))
names_kept e os st k = absurd (omega (arith, k.count))

-- ## objects behind others
kept_append : (a b : List ObjectDecl) (s t : Store) → IsKept a s → IsKept b t → IsKept (a ++ b) (s ++ t)
kept_append [] b [] t k l = l
kept_append (o ∷ a) b (x ∷ s) t k l =
    one_more o (a ++ b) x (s ++ t) (k.each 0 o refl) (k.whole 0 o refl) (kept_append a b s t (one_less o a x s k) l)
kept_append a b s t k l = absurd (omega (arith, k.count))

record Split (a b : List ObjectDecl) (st : Store) : Type 0 where
  pub front : Store
  pub back : Store
  pub fronts : IsKept a front
  pub backs : IsKept b back
  pub is : st ≡ front ++ back

kept_split : (a b : List ObjectDecl) (st : Store) → IsKept (a ++ b) st → Split a b st
kept_split [] b st k = record { front = []; back = st; fronts = nothing_kept; backs = k; is = refl }
kept_split (o ∷ a) b [] k = absurd (omega (arith, k.count))
kept_split (o ∷ a) b (x ∷ st) k =
    let rest = kept_split a b st (one_less o (a ++ b) x st k) in
    record {
      front = x ∷ rest.front;
      back = rest.back;
      fronts = one_more o a x rest.front (k.each 0 o refl) (k.whole 0 o refl) rest.fronts;
      backs = rest.backs;
      is = ap (λ st. x ∷ st) rest.is;
    }

-- ## the stores of all elements
fewer_kept : (m : Tree) (ms : List Tree) (st : Store) (stores : List Store) → AreKept (m ∷ ms) (st ∷ stores) → AreKept ms stores
fewer_kept m ms st stores k = record { count = omega (arith, k.count); each = λ e lt. k.each (suc e) (omega (arith, lt)) }

joined_from : (e : ℕ) (ms : List Tree) (stores : List Store) → AreKept ms stores → IsKept (objects_from e ms) (joined stores)
joined_from e [] [] k = nothing_kept
joined_from e (m ∷ ms) (st ∷ stores) k =
    kept_append (named_objects e m.objects) (objects_from (suc e) ms) st (joined stores)
    (kept_names e m.objects st (k.each 0 (omega arith))) (joined_from (suc e) ms stores (fewer_kept m ms st stores k))
joined_from e ms stores k = absurd (omega (arith, k.count))

more_kept : (m : Tree) (ms : List Tree) (st : Store) (stores : List Store) → IsKept m.objects st → AreKept ms stores → AreKept (m ∷ ms) (st ∷ stores)
more_kept m ms st stores first rest = record { count = omega (arith, rest.count); each = each }
  where
    each : (e : ℕ) → e < length (m ∷ ms) → IsKept (element_at (m ∷ ms) e).objects (store_at (st ∷ stores) e)
    each zero lt = first
    each (suc e) lt = rest.each e (omega (arith, lt))

parted_from : (e : ℕ) (ms : List Tree) (st : Store) → IsKept (objects_from e ms) st → (stores : List Store) × AreKept ms stores × (st ≡ joined stores)
parted_from e [] st k = ([], record { count = refl; each = λ e lt. absurd (omega (arith, lt)) }, only_nothing st k)
parted_from e (m ∷ ms) st k =
    let parts = kept_split (named_objects e m.objects) (objects_from (suc e) ms) st k in
    let rest = parted_from (suc e) ms parts.back parts.backs in (
      parts.front ∷ rest.0,
      more_kept m ms parts.front rest.0 (names_kept e m.objects parts.front parts.fronts) rest.1,
      parts.is ∙ ap (λ st. parts.front ++ st) rest.2,
    )

pub joined_kept : (c : Connected) (stores : List Store) → AreKept c.elements stores → IsKept (composed c).objects (joined stores)
joined_kept c stores k = joined_from 0 c.elements stores k

pub kept_joined : (c : Connected) (st : Store) → IsKept (composed c).objects st → (stores : List Store) × AreKept c.elements stores × (st ≡ joined stores)
kept_joined c st k = parted_from 0 c.elements st k
