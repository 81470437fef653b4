-- Puts and dels change the row of their key alone.
use Rattle.std.proofs.Common.{◌≡◌, ◌≢◌, ◌<◌, ◌≤◌, ℕ, zero, suc, Bool, true, false, cond, not, ◌&&◌, nat_le, List, [], ◌∷◌, Some, None, slice_get, refl, sym, ap, subst, ◌∙◌, arith, true≢false}
use Rattle.std.specs.Cmp.{tied_itself}
use Rattle.std.specs.FinMap.{get, insert, len, contains_key, get-insert, get-remove, len-insert}
use Rattle.std.specs.Ordering.{eq_by_cmp, is_eq}
use Rattle.std.proofs.lemmas.Bool.Decides.{nat_tests}
use Rattle.std.proofs.lemmas.Cmp.{nat_list_cmp_total}
use Rattle.std.proofs.lemmas.Map.Lookups.{exact_bytes}
use Rattle.state_store.specs.declared.store.Put.TheVariants.{Stored, Full, OutOfRange}
use Rattle.state_store.specs.declared.object.ObjectDecl.{ObjectDecl}
use Rattle.state_store.specs.Kept.{IsWhole, IsKeptObject, IsKept}
use Rattle.state_store.specs.Laws.{IsStoredAlone, IsRemovedAlone, IsChangedAlone, IsNeverFull}
use Rattle.state_store.specs.Store.{key_cmp, Contents, Object, Store, look, is_out, is_full, put_answer, put_row, object_at}
use Rattle.lemmas.proofs.Tests.{eq_equal}
use Rattle.state_store.specs.Keeping.{more}

apart : (q k : List ℕ) (b : Bool) → eq_by_cmp key_cmp q k ≡ b → q ≢ k → b ≡ false
apart q k true e differs = absurd (differs (exact_bytes q k (eq_equal (key_cmp q k) e)))
apart q k false e differs = refl

pub itself : (k : List ℕ) → eq_by_cmp key_cmp k k ≡ true
itself k = ap is_eq (tied_itself nat_list_cmp_total k)

insert_here : (m : Contents) (k v : List ℕ) → get (insert m k v) k ≡ Some v
insert_here m k v = get-insert nat_list_cmp_total m k v k ∙ ap (λ b. cond b (Some v) (get m k)) (itself k)

insert_elsewhere : (m : Contents) (k v q : List ℕ) → q ≢ k → get (insert m k v) q ≡ get m q
insert_elsewhere m k v q differs = get-insert nat_list_cmp_total m k v q ∙ ap (λ b. cond b (Some v) (get m q)) (apart q k _ refl differs)

-- the three ways of a put
by_put : (P : Object → Type 0) (o : Object) (k v : List ℕ) (out full : Bool) → is_out o.kind o.size k ≡ out → is_full o k ≡ full → P o → (full ≡ false → P (record o { contents = insert o.contents k v })) → P (put_row o k v)
by_put P o k v true full e f stays stored = rw e stays
by_put P o k v false true e f stays stored = rw (e, f) stays
by_put P o k v false false e f stays stored = rw (e, f) (stored refl)

found_here : (o : Object) (k v : List ℕ) (out full : Bool) → is_out o.kind o.size k ≡ out → is_full o k ≡ full → put_answer o k ≡ Stored → look (put_row o k v) k ≡ Some v
found_here o k v true full e f stored = absurd (let same : OutOfRange ≡ Stored = rw e at stored in cc)
found_here o k v false true e f stored = absurd (let same : Full ≡ Stored = rw (e, f) at stored in cc)
found_here o k v false false e f stored = rw (e, f) (insert_here o.contents k v)

pub put_alone : (o : Object) (k v : List ℕ) → IsStoredAlone o k v
put_alone o k v = record {
  this_key = found_here o k v _ _ refl refl;
  other_keys = λ q differs. by_put (λ x. look x q ≡ look o q) o k v _ _ refl refl refl (λ room. insert_elsewhere o.contents k v q differs);
  within_size = λ le. by_put (λ x. len x.contents ≤ o.size) o k v _ _ refl refl le
      (λ room. subst (λ n. n ≤ o.size) (sym (len-insert nat_list_cmp_total o.contents k v)) (more (contains_key o.contents k) (len o.contents) o.size room le));
}

pub del_alone : (o : Object) (k : List ℕ) → IsRemovedAlone o k
del_alone o k = record {
  this_key = get-remove nat_list_cmp_total o.contents k k ∙ ap (λ b. cond b None (get o.contents k)) (itself k);
  other_keys = λ q differs. get-remove nat_list_cmp_total o.contents k q ∙ ap (λ b. cond b None (get o.contents q)) (apart q k _ refl differs);
}

-- a change at one number leaves what stands at another
pub change_alone : (store : Store) (number : ℕ) (o : Object) → IsChangedAlone store number o
change_alone [] number o other differs = refl
change_alone (x ∷ store) zero o zero differs = absurd (differs refl)
change_alone (x ∷ store) zero o (suc other) differs = refl
change_alone (x ∷ store) (suc number) o zero differs = refl
change_alone (x ∷ store) (suc number) o (suc other) differs = change_alone store number o other (λ same. differs (ap suc same))

-- a row that is there is never refused
no_room_wanted : (there : Bool) (full : Bool) → there ≡ true → (not there && full) ≡ false
no_room_wanted true full is = refl
no_room_wanted false full is = absurd (true≢false (sym is))

never_refused : (d : ObjectDecl) (o : Object) → IsKeptObject d o → IsWhole d o → IsNeverFull d o
never_refused d o kept whole = record {
  vector = λ is index lt.
      let inside : is_out o.kind o.size (index ∷ []) ≡ false = ap (λ k. is_out k o.size (index ∷ [])) (kept.kind ∙ is) ∙ not_out index d.size o.size kept.size lt in
      stored_if o (index ∷ []) inside (no_room_wanted _ (nat_le o.size (len o.contents)) (whole.vector is index lt));
  outside = λ is index le.
      let outside : is_out o.kind o.size (index ∷ []) ≡ true = ap (λ k. is_out k o.size (index ∷ [])) (kept.kind ∙ is) ∙ out_of index d.size o.size kept.size le in
      rw outside refl;
  int = λ is.
      let inside : is_out o.kind o.size [] ≡ false = ap (λ k. is_out k o.size []) (kept.kind ∙ is) in
      stored_if o [] inside (no_room_wanted _ (nat_le o.size (len o.contents)) (whole.int is));
}
  where
    stored_if : (x : Object) (key : List ℕ) → is_out x.kind x.size key ≡ false → is_full x key ≡ false → put_answer x key ≡ Stored
    stored_if x key e f = rw (e, f) refl

    not_out : (i n size : ℕ) → size ≡ n → i < n → nat_le size i ≡ false
    not_out i n size is lt = grind (arith, nat_tests)

    out_of : (i n size : ℕ) → size ≡ n → n ≤ i → nat_le size i ≡ true
    out_of i n size is le = grind (arith, nat_tests)

pub never_full : (objects : List ObjectDecl) (store : Store) (number : ℕ) (d : ObjectDecl) → IsKept objects store → slice_get objects number ≡ Some d
    → IsNeverFull d (object_at store number)
never_full objects store number d kept is = never_refused d (object_at store number) (kept.each number d is) (kept.whole number d is)
