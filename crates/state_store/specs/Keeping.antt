-- What a put and a del keep: an object its declaration, and a store those of all its objects. These are lemmas for
-- the crates that run programs on a store.
use Rattle.std.proofs.Common.{◌≡◌, ◌<◌, ◌≤◌, ◌+◌, ◌-◌, ◌==◌, ℕ, zero, suc, Bool, true, false, cond, not, ◌&&◌, List, []}
use Rattle.std.proofs.Common.{◌∷◌, length, replicate, nat_le, Option, Some, None, is_some, slice_get, refl, sym, ap}
use Rattle.std.proofs.Common.{◌∙◌, subst, arith, true≢false}
use Rattle.std.specs.Ordering.{eq_by_cmp, is_eq}
use Rattle.std.specs.Cmp.{tied_itself}
use Rattle.std.specs.FinMap.{empty, get, insert, remove, len, contains_key, get-insert, get-remove, len-insert}
use Rattle.std.specs.FinMap.{len-remove}
use Rattle.std.proofs.lemmas.Bool.{eqb-true}
use Rattle.std.proofs.lemmas.Bool.Decides.{nat_tests}
use Rattle.std.proofs.lemmas.Cmp.{nat_list_cmp_total}
use Rattle.std.proofs.lemmas.List.{length-set}
use Rattle.std.proofs.lemmas.Map.Lookups.{exact_bytes}
use Rattle.std.proofs.lemmas.Option.{none-some, same_Some}
use Rattle.state_store.specs.declared.object.Kind.{Kind}
use Rattle.state_store.specs.declared.object.Kind.TheVariants.{Table}
use Rattle.state_store.specs.declared.object.ObjectDecl.{ObjectDecl}
use Rattle.state_store.specs.Kept.{have_widths, IsWhole, IsKeptObject, IsKept}
use Rattle.state_store.specs.Kinds.{is_table, is_map}
use Rattle.state_store.specs.Store.{key_cmp, Contents, Object, Store, is_out, is_full, put_row, del_row, object_at}
use Rattle.state_store.specs.Store.{zeros_from, start_contents, start_object, with_object}
use Rattle.lemmas.proofs.Tests.{eq_equal}

-- ## rows of widths
-- every key and every value has these widths
abbrev pub HaveRowWidths : List ℕ → List ℕ → Contents → Type 0
HaveRowWidths keys values contents =
    (key there : List ℕ) → get contents key ≡ Some there → (have_widths keys key && have_widths values there) ≡ true

-- a row behind an insertion is the new one, or was there before
row_kept : (keys values key row found there : List ℕ) (before : Option (List ℕ)) (same : Bool)
    → eq_by_cmp key_cmp found key ≡ same
    → have_widths keys key ≡ true → have_widths values row ≡ true
    → (before ≡ Some there → (have_widths keys found && have_widths values there) ≡ true)
    → cond same (Some row) before ≡ Some there → (have_widths keys found && have_widths values there) ≡ true
row_kept keys values key row found there before true e key_fits row_fits old is =
    let one : key ≡ found = sym (exact_bytes found key (eq_equal (key_cmp found key) e)) in
    let other : row ≡ there = same_Some row there is in
    subst (λ vs. (have_widths keys found && have_widths values vs) ≡ true) other
    (subst (λ k. (have_widths keys k && have_widths values row) ≡ true) one (rw (key_fits, row_fits) refl))
row_kept keys values key row found there before false e key_fits row_fits old is = old is

pub with_row : (keys values key row : List ℕ) (contents : Contents) → have_widths keys key ≡ true
    → have_widths values row ≡ true → HaveRowWidths keys values contents
    → HaveRowWidths keys values (insert contents key row)
with_row keys values key row contents key_fits row_fits rows found there is =
    row_kept keys values key row found there (get contents found) (eq_by_cmp key_cmp found key) refl key_fits row_fits
    (rows found there) (sym (get-insert nat_list_cmp_total contents key row found) ∙ is)

-- a row behind a removal was there before
row_stays : (keys values found there : List ℕ) (before : Option (List ℕ)) (same : Bool)
    → (before ≡ Some there → (have_widths keys found && have_widths values there) ≡ true)
    → cond same None before ≡ Some there → (have_widths keys found && have_widths values there) ≡ true
row_stays keys values found there before true old is = absurd (none-some there is)
row_stays keys values found there before false old is = old is

without_row : (keys values key : List ℕ) (contents : Contents) → HaveRowWidths keys values contents
    → HaveRowWidths keys values (remove contents key)
without_row keys values key contents rows found there is =
    row_stays keys values found there (get contents found) (eq_by_cmp key_cmp found key) (rows found there)
    (sym (get-remove nat_list_cmp_total contents key found) ∙ is)

-- an insertion adds at most one row, and a removal none
pub one_row_more : (key row : List ℕ) (contents : Contents) → len (insert contents key row) ≤ len contents + 1
one_row_more key row contents =
    subst (λ n. n ≤ len contents + 1) (sym (len-insert nat_list_cmp_total contents key row))
    (at_most (contains_key contents key) (len contents))
  where
    at_most : (known : Bool) (n : ℕ) → cond known n (n + 1) ≤ n + 1
    at_most true n = omega arith
    at_most false n = omega arith

none_more : (key : List ℕ) (contents : Contents) → len (remove contents key) ≤ len contents
none_more key contents = subst (λ n. n ≤ len contents) (sym (len-remove nat_list_cmp_total contents key))
    (at_most (contains_key contents key) (len contents))
  where
    at_most : (known : Bool) (n : ℕ) → cond known (n - 1) n ≤ n
    at_most true n = omega arith
    at_most false n = omega arith

-- ## rows that stay
-- a row that is there stays behind an insertion
there_still : (same : Bool) (row : List ℕ) (before : Option (List ℕ)) → is_some before ≡ true
    → is_some (cond same (Some row) before) ≡ true
there_still true row before there = refl
there_still false row before there = there

-- what is inserted is there
new_row : (key row : List ℕ) (contents : Contents) → contains_key (insert contents key row) key ≡ true
new_row key row contents =
    ap is_some (get-insert nat_list_cmp_total contents key row key)
    ∙ ap (λ same. is_some (cond same (Some row) (get contents key))) (ap is_eq (tied_itself nat_list_cmp_total key))

new_there : (i index : ℕ) (row : List ℕ) (contents : Contents) → i ≡ index
    → contains_key (insert contents (i ∷ []) row) (index ∷ []) ≡ true
new_there i index row contents same =
    subst (λ n. contains_key (insert contents (i ∷ []) row) (n ∷ []) ≡ true) same (new_row (i ∷ []) row contents)

stays : (key row found : List ℕ) (contents : Contents) → contains_key contents found ≡ true
    → contains_key (insert contents key row) found ≡ true
stays key row found contents there =
    ap is_some (get-insert nat_list_cmp_total contents key row found)
    ∙ there_still (eq_by_cmp key_cmp found key) row (get contents found) there

-- a map may lose each of its rows
map_whole : (d : ObjectDecl) (o : Object) → is_map d.kind ≡ true → IsWhole d o
map_whole d o h = record {
  vector = λ is index lt. absurd (true≢false (sym h ∙ ap is_map is));
  int = λ is. absurd (true≢false (sym h ∙ ap is_map is));
}

-- ## a put
pub more : (known : Bool) (n size : ℕ) → (not known && nat_le size n) ≡ false → n ≤ size → cond known n (n + 1) ≤ size
more true n size room le = le
more false n size room le = grind (arith, nat_tests)

no_table : (d : ObjectDecl) → is_table d.kind ≡ false → d.kind ≡ Table → ⊥
no_table d h is = true≢false (sym (ap is_table is) ∙ h)

put_keeps_by : (d : ObjectDecl) (o : Object) (key values : List ℕ) (out full : Bool) → is_out o.kind o.size key ≡ out
    → is_full o key ≡ full
    → is_table d.kind ≡ false → have_widths d.keys key ≡ true → have_widths d.values values ≡ true → IsKeptObject d o
    → IsKeptObject d (put_row o key values)
put_keeps_by d o key values true full e f free key_fits values_fit kept = rw e kept
put_keeps_by d o key values false true e f free key_fits values_fit kept = rw (e, f) kept
put_keeps_by d o key values false false e f free key_fits values_fit kept =
    let room : (not (contains_key o.contents key) && nat_le d.size (len o.contents)) ≡ false =
    subst (λ n. (not (contains_key o.contents key) && nat_le n (len o.contents)) ≡ false) kept.size f in
    let after : Object = record o { contents = insert o.contents key values } in
    let goes_on : IsKeptObject d after = record {
      kind = kept.kind;
      size = kept.size;
      count = kept.count;
      few = subst (λ n. n ≤ d.size) (sym (len-insert nat_list_cmp_total o.contents key values))
          (more (contains_key o.contents key) (len o.contents) d.size room kept.few);
      rows = with_row d.keys d.values key values o.contents key_fits values_fit kept.rows;
      table = λ is. absurd (no_table d free is);
    } in
    rw (e, f) goes_on

pub put_keeps : (d : ObjectDecl) (o : Object) (key values : List ℕ)
    → is_table d.kind ≡ false → have_widths d.keys key ≡ true → have_widths d.values values ≡ true → IsKeptObject d o
    → IsKeptObject d (put_row o key values)
put_keeps d o key values = put_keeps_by d o key values (is_out o.kind o.size key) (is_full o key) refl refl

put_whole_by : (d : ObjectDecl) (o : Object) (key values : List ℕ) (out full : Bool) → is_out o.kind o.size key ≡ out
    → is_full o key ≡ full
    → IsWhole d o → IsWhole d (put_row o key values)
put_whole_by d o key values true full e f whole = rw e whole
put_whole_by d o key values false true e f whole = rw (e, f) whole
put_whole_by d o key values false false e f whole =
    let after : Object = record o { contents = insert o.contents key values } in
    let goes_on : IsWhole d after = record {
      vector = λ is index lt. stays key values (index ∷ []) o.contents (whole.vector is index lt);
      int = λ is. stays key values [] o.contents (whole.int is);
    } in
    rw (e, f) goes_on

put_whole : (d : ObjectDecl) (o : Object) (key values : List ℕ) → IsWhole d o → IsWhole d (put_row o key values)
put_whole d o key values = put_whole_by d o key values (is_out o.kind o.size key) (is_full o key) refl refl

-- ## a del
pub del_keeps : (d : ObjectDecl) (o : Object) (key : List ℕ) → is_table d.kind ≡ false → IsKeptObject d o
    → IsKeptObject d (del_row o key)
del_keeps d o key free kept = record {
  kind = kept.kind;
  size = kept.size;
  count = kept.count;
  few = omega (arith, none_more key o.contents, kept.few);
  rows = without_row d.keys d.values key o.contents kept.rows;
  table = λ is. absurd (no_table d free is);
}

pub map_is_free : (kind : Kind) → is_map kind ≡ true → is_table kind ≡ false
map_is_free Table h = sym h
map_is_free _ h = refl

-- ## an object of a store in which one is another
at_number : (P : Object → Type 0) (store : Store) (n : ℕ) (o : Object) (number : ℕ) → P (object_at store number)
    → (n ≡ number → P o) → P (object_at (with_object store n o) number)
at_number P [] n o number before after = before
at_number P (x ∷ store) zero o zero before after = after refl
at_number P (x ∷ store) zero o (suc number) before after = before
at_number P (x ∷ store) (suc n) o zero before after = before
at_number P (x ∷ store) (suc n) o (suc number) before after =
    at_number P store n o number before (λ same. after (ap suc same))

change_is_kept : (os : List ObjectDecl) (store : Store) (n : ℕ) (d : ObjectDecl) (o : Object) → slice_get os n ≡ Some d
    → IsKeptObject d o → IsWhole d o
    → IsKept os store → IsKept os (with_object store n o)
change_is_kept os store n d o is fits whole kept = record {
  count = length-set store n o ∙ kept.count;
  each = λ number other got. at_number (IsKeptObject other) store n o number (kept.each number other got)
      (λ same. subst (λ (x : ObjectDecl). IsKeptObject x o) (same_Some d other (sym is ∙ ap (slice_get os) same ∙ got))
      fits);
  whole = λ number other got. at_number (IsWhole other) store n o number (kept.whole number other got)
      (λ same. subst (λ (x : ObjectDecl). IsWhole x o) (same_Some d other (sym is ∙ ap (slice_get os) same ∙ got))
      whole);
}

pub put_is_kept : (os : List ObjectDecl) (store : Store) (n : ℕ) (d : ObjectDecl) (key values : List ℕ)
    → slice_get os n ≡ Some d
    → is_table d.kind ≡ false → have_widths d.keys key ≡ true → have_widths d.values values ≡ true → IsKept os store
    → IsKept os (with_object store n (put_row (object_at store n) key values))
put_is_kept os store n d key values is free key_fits values_fit kept =
    change_is_kept os store n d (put_row (object_at store n) key values) is
    (put_keeps d (object_at store n) key values free key_fits values_fit (kept.each n d is))
    (put_whole d (object_at store n) key values (kept.whole n d is)) kept

pub del_is_kept : (os : List ObjectDecl) (store : Store) (n : ℕ) (d : ObjectDecl) (key : List ℕ)
    → slice_get os n ≡ Some d
    → is_map d.kind ≡ true → IsKept os store → IsKept os (with_object store n (del_row (object_at store n) key))
del_is_kept os store n d key is free kept =
    change_is_kept os store n d (del_row (object_at store n) key) is
    (del_keeps d (object_at store n) key (map_is_free d.kind free) (kept.each n d is))
    (map_whole d (del_row (object_at store n) key) free) kept

-- ## at the start
-- each index from i on, n of them, has a row of zeros
zeros_there : (n i width : ℕ) (contents : Contents) (index : ℕ)
    → (i ≤ index → index < i + n → contains_key (zeros_from n i width contents) (index ∷ []) ≡ true)
    × (contains_key contents (index ∷ []) ≡ true → contains_key (zeros_from n i width contents) (index ∷ []) ≡ true)
zeros_there zero i width contents index = ((λ le lt. absurd (omega arith)), (λ there. there))
zeros_there (suc n) i width contents index =
    let row = replicate width 0 in
    let rest = zeros_there n (suc i) width (insert contents (i ∷ []) row) index in (
      (λ le lt. at_index (i == index) refl le lt rest.0 rest.1),
      (λ there. rest.1 (stays (i ∷ []) row (index ∷ []) contents there)),
    )
  where
    at_index : (same : Bool) → (i == index) ≡ same → i ≤ index → index < i + suc n
        → (suc i ≤ index → index < suc i + n → contains_key (zeros_from (suc n) i width contents) (index ∷ []) ≡ true)
        → (contains_key (insert contents (i ∷ []) (replicate width 0)) (index ∷ []) ≡ true
        → contains_key (zeros_from (suc n) i width contents) (index ∷ []) ≡ true)
        → contains_key (zeros_from (suc n) i width contents) (index ∷ []) ≡ true
    at_index true is le lt later now = now (new_there i index (replicate width 0) contents (eqb-true i index is))
    at_index false is le lt later now = later (grind (arith, nat_tests, is)) (omega arith)

pub start_whole : (d : ObjectDecl) → IsWhole d (start_object d)
start_whole d = record {
  vector = λ is index lt. subst (λ (kind : Kind). contains_key (start_contents kind d) (index ∷ []) ≡ true) (sym is)
      ((zeros_there d.size 0 (length d.values) empty index).0 (omega arith) (omega arith));
  int = λ is. subst (λ (kind : Kind). contains_key (start_contents kind d) [] ≡ true) (sym is)
      (new_row [] (d.start ∷ []) empty);
}
