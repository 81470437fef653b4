-- A write-back table kept as two objects.
use Rattle.std.proofs.Common.{◌≡◌, ◌≤◌, ◌<◌, ℕ, zero, suc, ◌+◌, ◌-◌, Bool, true, false, cond, not, ◌&&◌, ◌||◌, nat_le, List, [], ◌∷◌, Option, Some, None, is_some, refl, sym, ap, subst, ◌∙◌, arith}
use Rattle.std.specs.FinMap.{find, get, insert, remove, empty, len, entries, contains_key, get-entries, get-from_entries, get-insert, get-remove, get-empty, len-insert, len-remove, len-empty, same_map, empty_of_len}
use Rattle.std.specs.Ordering.{eq_by_cmp}
use Rattle.std.proofs.lemmas.Bool.Decides.{nat_tests}
use Rattle.std.proofs.lemmas.Cmp.{nat_list_cmp_total}
use Rattle.std.proofs.lemmas.Map.Lookups.{exact_bytes}
use Rattle.state_store.specs.Store.{Contents, Object, key_cmp, is_out, is_full, put_row, del_row}
use Rattle.state_store.specs.declared.object.Kind.TheVariants.{Map}
use Rattle.writeback_table.specs.Pair.{Staged, values_of}
use Rattle.writeback_table.specs.declared.command.To.{To}
use Rattle.writeback_table.specs.declared.command.To.TheVariants.{Value, Gone}
use Rattle.writeback_table.proofs.Slots.{find_first}
use Rattle.writeback_table.specs.Staging.{put_all, joined, IsCounted, values_then, gone_then}

-- what one map has, before another
abbrev pub before : (List ℕ → Option (List ℕ)) → Option (List ℕ) → Option (Option (List ℕ)) → Option (Option (List ℕ))
before f (Some v) below = Some (f v)
before f None below = below

before_cond : (f : List ℕ → Option (List ℕ)) (b : Bool) (v : List ℕ) (x : Option (List ℕ)) (below : Option (Option (List ℕ))) → cond b (Some (f v)) (before f x below) ≡ before f (cond b (Some v) x) below
before_cond f true v x below = refl
before_cond f false v x below = refl

get_all : (f : List ℕ → Option (List ℕ)) (es : List (List ℕ × List ℕ)) (rows : Staged) (q : List ℕ) → get (put_all f es rows) q ≡ before f (find key_cmp q es) (get rows q)
get_all f [] rows q = sym (ap (λ x. before f x (get rows q)) (sym (get-from_entries nat_list_cmp_total [] q) ∙ get-empty key_cmp q))
get_all f (e ∷ es) rows q =
    get-insert nat_list_cmp_total (put_all f es rows) e.0 (f e.1) q ∙ ap (cond (eq_by_cmp key_cmp q e.0) (Some (f e.1))) (get_all f es rows q)
    ∙ before_cond f (eq_by_cmp key_cmp q e.0) e.1 (find key_cmp q es) (get rows q) ∙ ap (λ x. before f x (get rows q)) (sym (find_first e es q))

abbrev pub both : Option (List ℕ) → Option (List ℕ) → Option (Option (List ℕ))
both values gone = before (λ v. Some v) values (before (λ v. None) gone None)

pub get_joined : (values gone : Contents) (q : List ℕ) → get (joined values gone) q ≡ both (get values q) (get gone q)
get_joined values gone q =
    get_all (λ v. Some v) (entries values) (put_all (λ v. None) (entries gone) empty) q
    ∙ ap (before (λ v. Some v) (find key_cmp q (entries values))) (get_all (λ v. None) (entries gone) empty q ∙ ap (before (λ v. None) (find key_cmp q (entries gone))) (get-empty key_cmp q))
    ∙ (λ i. both (sym (get-entries values q) i) (sym (get-entries gone q) i))

pub staged_value : (values gone : Contents) (q v : List ℕ) → get values q ≡ Some v → get (joined values gone) q ≡ Some (Some v)
staged_value values gone q v h = get_joined values gone q ∙ ap (λ x. both x (get gone q)) h

pub staged_gone : (values gone : Contents) (q : List ℕ) → get values q ≡ None → is_some (get gone q) ≡ true → get (joined values gone) q ≡ Some None
staged_gone values gone q h t = get_joined values gone q ∙ ap (λ x. both x (get gone q)) h ∙ there (get gone q) t
  where
    there : (o : Option (List ℕ)) → is_some o ≡ true → both None o ≡ Some None
    there None t = cc
    there (Some x) t = refl

pub staged_none : (values gone : Contents) (q : List ℕ) → get values q ≡ None → is_some (get gone q) ≡ false → get (joined values gone) q ≡ None
staged_none values gone q h t = get_joined values gone q ∙ ap (λ x. both x (get gone q)) h ∙ there (get gone q) t
  where
    there : (o : Option (List ℕ)) → is_some o ≡ false → both None o ≡ None
    there None t = refl
    there (Some x) t = cc

-- ---- edits of the two maps are edits of the rows
both_value : (b : Bool) (v : List ℕ) (x y : Option (List ℕ)) → both (cond b (Some v) x) (cond b None y) ≡ cond b (Some (Some v)) (both x y)
both_value true v x y = refl
both_value false v x y = refl

both_gone : (b : Bool) (v : List ℕ) (x y : Option (List ℕ)) → both (cond b None x) (cond b (Some v) y) ≡ cond b (Some None) (both x y)
both_gone true v x y = refl
both_gone false v x y = refl

both_none : (b : Bool) (x y : Option (List ℕ)) → both (cond b None x) (cond b None y) ≡ cond b None (both x y)
both_none true x y = refl
both_none false x y = refl

pub stage_value : (values gone : Contents) (k v : List ℕ) → joined (insert values k v) (remove gone k) ≡ insert (joined values gone) k (Some v)
stage_value values gone k v = same_map nat_list_cmp_total exact_bytes _ _ (λ q.
    get_joined (insert values k v) (remove gone k) q
    ∙ (λ i. both (get-insert nat_list_cmp_total values k v q i) (get-remove nat_list_cmp_total gone k q i))
    ∙ both_value (eq_by_cmp key_cmp q k) v (get values q) (get gone q)
    ∙ ap (cond (eq_by_cmp key_cmp q k) (Some (Some v))) (sym (get_joined values gone q))
    ∙ sym (get-insert nat_list_cmp_total (joined values gone) k (Some v) q))

pub stage_gone : (values gone : Contents) (k v : List ℕ) → joined (remove values k) (insert gone k v) ≡ insert (joined values gone) k None
stage_gone values gone k v = same_map nat_list_cmp_total exact_bytes _ _ (λ q.
    get_joined (remove values k) (insert gone k v) q
    ∙ (λ i. both (get-remove nat_list_cmp_total values k q i) (get-insert nat_list_cmp_total gone k v q i))
    ∙ both_gone (eq_by_cmp key_cmp q k) v (get values q) (get gone q)
    ∙ ap (cond (eq_by_cmp key_cmp q k) (Some None)) (sym (get_joined values gone q))
    ∙ sym (get-insert nat_list_cmp_total (joined values gone) k None q))

pub clear_both : (values gone : Contents) (k : List ℕ) → joined (remove values k) (remove gone k) ≡ remove (joined values gone) k
clear_both values gone k = same_map nat_list_cmp_total exact_bytes _ _ (λ q.
    get_joined (remove values k) (remove gone k) q
    ∙ (λ i. both (get-remove nat_list_cmp_total values k q i) (get-remove nat_list_cmp_total gone k q i))
    ∙ both_none (eq_by_cmp key_cmp q k) (get values q) (get gone q)
    ∙ ap (cond (eq_by_cmp key_cmp q k) None) (sym (get_joined values gone q))
    ∙ sym (get-remove nat_list_cmp_total (joined values gone) k q))

-- a key is staged where one of the two has it
known_both : (x y : Option (List ℕ)) → is_some (both x y) ≡ (is_some x || is_some y)
known_both None None = refl
known_both None (Some y) = refl
known_both (Some x) y = refl

pub known : (values gone : Contents) (k : List ℕ) → contains_key (joined values gone) k ≡ (contains_key values k || contains_key gone k)
known values gone k = ap is_some (get_joined values gone k) ∙ known_both (get values k) (get gone k)

-- ---- counts
one_there : (m : Contents) (k : List ℕ) (n : ℕ) → len m ≡ n → contains_key m k ≡ true → 1 ≤ n
one_there m k zero e c = let none : get m k ≡ None = ap (λ x. get x k) (empty_of_len m e) ∙ get-empty key_cmp k in let no : false ≡ true = sym (ap is_some none) ∙ c in cc
one_there m k (suc n) e c = omega arith

-- the counts of two maps of which one gains a key that the other loses
record Moves (a b : Bool) (m n count room : ℕ) : Type 0 where
  full : (not a && nat_le room m) ≡ false
  rows : cond a m (m + 1) + cond b (n - 1) n ≤ cond (a || b) count (count + 1)
  within : cond (a || b) count (count + 1) ≤ room

moves : (a b : Bool) (m n count room : ℕ) → m + n ≤ count → count ≤ room → ((a || b) ≡ false → count < room) → (b ≡ true → 1 ≤ n) → Moves a b m n count room
moves true true m n count room s w new one = record { full = refl; rows = omega (arith, s); within = w }
moves true false m n count room s w new one = record { full = refl; rows = omega (arith, s); within = w }
moves false true m n count room s w new one = let l = one refl in record { full = grind (arith, nat_tests); rows = omega (arith, s, l); within = w }
moves false false m n count room s w new one = let l = new refl in record { full = grind (arith, nat_tests); rows = omega (arith, s); within = omega (arith, l) }

pub swap : (a b : Bool) → (a || b) ≡ (b || a)
swap true true = refl
swap true false = refl
swap false true = refl
swap false false = refl

stores : (object : Object) (k v : List ℕ) (room : ℕ) → object.kind ≡ Map → object.size ≡ room → (not (contains_key object.contents k) && nat_le room (len object.contents)) ≡ false → put_row object k v ≡ record object { contents = insert object.contents k v }
stores object k v room m s f =
    let out : is_out object.kind object.size k ≡ false = ap (λ x. is_out x object.size k) m in
    let full : is_full object k ≡ false = ap (λ n. not (contains_key object.contents k) && nat_le n (len object.contents)) s ∙ f in
    rw (out, full) refl

pub record StagesRow (values gone values' gone' : Object) (count count' room : ℕ) (k : List ℕ) (row : Option (List ℕ)) : Type 0 where
  pub rows : joined values'.contents gone'.contents ≡ insert (joined values.contents gone.contents) k row
  pub counted : IsCounted values' gone' count' room

abbrev pub count_with : Contents → Contents → List ℕ → ℕ → ℕ
count_with values gone k count = cond (contains_key (joined values gone) k) count (count + 1)

pub stages_value : (values gone : Object) (count room : ℕ) (k v : List ℕ) → IsCounted values gone count room → (contains_key (joined values.contents gone.contents) k ≡ false → count < room)
    → StagesRow values gone (put_row values k v) (del_row gone k) count (count_with values.contents gone.contents k count) room k (Some v)
stages_value values gone count room k v i new =
    let a : Bool = contains_key values.contents k in
    let b : Bool = contains_key gone.contents k in
    let is = known values.contents gone.contents k in
    let m = moves a b (len values.contents) (len gone.contents) count room i.rows i.within (λ e. new (is ∙ e)) (λ e. one_there gone.contents k (len gone.contents) refl e) in
    let same = stores values k v room i.values_map i.values_size m.full in
    subst (λ x. StagesRow values gone x (del_row gone k) count (count_with values.contents gone.contents k count) room k (Some v)) (sym same) (record {
      rows = stage_value values.contents gone.contents k v;
      counted = record {
        values_map = i.values_map;
        gone_map = i.gone_map;
        values_size = i.values_size;
        gone_size = i.gone_size;
        rows = let p = len-insert nat_list_cmp_total values.contents k v in let q = len-remove nat_list_cmp_total gone.contents k in
            subst (λ t. len (insert values.contents k v) + len (remove gone.contents k) ≤ cond t count (count + 1)) (sym is) (omega (arith, m.rows));
        counted = ap len (stage_value values.contents gone.contents k v) ∙ len-insert nat_list_cmp_total (joined values.contents gone.contents) k (Some v)
            ∙ ap (λ n. cond (contains_key (joined values.contents gone.contents) k) n (n + 1)) i.counted;
        within = subst (λ t. cond t count (count + 1) ≤ room) (sym is) m.within;
      };
    })

pub stages_gone : (values gone : Object) (count room : ℕ) (k v : List ℕ) → IsCounted values gone count room → (contains_key (joined values.contents gone.contents) k ≡ false → count < room)
    → StagesRow values gone (del_row values k) (put_row gone k v) count (count_with values.contents gone.contents k count) room k None
stages_gone values gone count room k v i new =
    let a : Bool = contains_key gone.contents k in
    let b : Bool = contains_key values.contents k in
    let is = known values.contents gone.contents k ∙ swap b a in
    let sum : len gone.contents + len values.contents ≤ count = omega (arith, i.rows) in
    let m = moves a b (len gone.contents) (len values.contents) count room sum i.within (λ e. new (is ∙ e)) (λ e. one_there values.contents k (len values.contents) refl e) in
    let same = stores gone k v room i.gone_map i.gone_size m.full in
    subst (λ x. StagesRow values gone (del_row values k) x count (count_with values.contents gone.contents k count) room k None) (sym same) (record {
      rows = stage_gone values.contents gone.contents k v;
      counted = record {
        values_map = i.values_map;
        gone_map = i.gone_map;
        values_size = i.values_size;
        gone_size = i.gone_size;
        rows = let p = len-insert nat_list_cmp_total gone.contents k v in let q = len-remove nat_list_cmp_total values.contents k in
            subst (λ t. len (remove values.contents k) + len (insert gone.contents k v) ≤ cond t count (count + 1)) (sym is) (omega (arith, m.rows));
        counted = ap len (stage_gone values.contents gone.contents k v) ∙ len-insert nat_list_cmp_total (joined values.contents gone.contents) k None
            ∙ ap (λ n. cond (contains_key (joined values.contents gone.contents) k) n (n + 1)) i.counted;
        within = subst (λ t. cond t count (count + 1) ≤ room) (sym is) m.within;
      };
    })

-- ---- clearing
fewer : (a b : Bool) (m n count : ℕ) → m + n ≤ count → (a ≡ true → 1 ≤ m) → (b ≡ true → 1 ≤ n) → cond a (m - 1) m + cond b (n - 1) n ≤ cond (a || b) (count - 1) count
fewer true true m n count s p q = let l = p refl in let k = q refl in omega (arith, s)
fewer true false m n count s p q = let l = p refl in omega (arith, s)
fewer false true m n count s p q = let k = q refl in omega (arith, s)
fewer false false m n count s p q = s

less : (t : Bool) (count room : ℕ) → count ≤ room → cond t (count - 1) count ≤ room
less true count room h = omega (arith, h)
less false count room h = h

pub clears : (values gone : Object) (count room : ℕ) (k : List ℕ) → IsCounted values gone count room
    → IsCounted (del_row values k) (del_row gone k) (cond (contains_key (joined values.contents gone.contents) k) (count - 1) count) room
clears values gone count room k i =
    let is = known values.contents gone.contents k in
    record {
      values_map = i.values_map;
      gone_map = i.gone_map;
      values_size = i.values_size;
      gone_size = i.gone_size;
      rows = let p = len-remove nat_list_cmp_total values.contents k in let q = len-remove nat_list_cmp_total gone.contents k in
          subst (λ t. len (remove values.contents k) + len (remove gone.contents k) ≤ cond t (count - 1) count) (sym is)
          (let f = fewer (contains_key values.contents k) (contains_key gone.contents k) (len values.contents) (len gone.contents) count i.rows (λ e. one_there values.contents k (len values.contents) refl e) (λ e. one_there gone.contents k (len gone.contents) refl e) in omega (arith, f));
      counted = ap len (clear_both values.contents gone.contents k) ∙ len-remove nat_list_cmp_total (joined values.contents gone.contents) k
          ∙ ap (λ n. cond (contains_key (joined values.contents gone.contents) k) (n - 1) n) i.counted;
      within = less (contains_key (joined values.contents gone.contents) k) count room i.within;
    }

-- ---- nothing staged
pub no_rows : joined empty empty ≡ empty
no_rows = same_map nat_list_cmp_total exact_bytes _ _ (λ q. get_joined empty empty q ∙ (λ i. both (get-empty key_cmp q i) (get-empty key_cmp q i)) ∙ sym (get-empty key_cmp q))

pub first_counted : (values gone : Object) (room : ℕ) → values.kind ≡ Map → gone.kind ≡ Map → values.size ≡ room → gone.size ≡ room → values.contents ≡ empty → gone.contents ≡ empty → IsCounted values gone 0 room
first_counted values gone room vm gm vs gs ve ge =
    let none = len-empty key_cmp (List ℕ) in
    record {
      values_map = vm;
      gone_map = gm;
      values_size = vs;
      gone_size = gs;
      rows = let p = ap len ve in let q = ap len ge in omega (arith, none);
      counted = ap len ((λ i. joined (ve i) (ge i)) ∙ no_rows) ∙ len-empty key_cmp (Option (List ℕ));
      within = omega arith;
    }

-- ---- for the code
pub stages : (values gone : Object) (count room : ℕ) (k : List ℕ) (to : To) → IsCounted values gone count room → (contains_key (joined values.contents gone.contents) k ≡ false → count < room)
    → StagesRow values gone (values_then values k to) (gone_then gone k to) count (count_with values.contents gone.contents k count) room k (values_of to)
stages values gone count room k (Value v) i new = stages_value values gone count room k v i new
stages values gone count room k Gone i new = stages_gone values gone count room k [] i new

pub counted_same : (x values y gone : Object) (m n room : ℕ) → values ≡ x → gone ≡ y → n ≡ m → IsCounted x y m room → IsCounted values gone n room
counted_same x values y gone m n room e f g i = subst (λ v. IsCounted v gone n room) (sym e) (subst (λ u. IsCounted x u n room) (sym f) (subst (λ k. IsCounted x y k room) (sym g) i))
