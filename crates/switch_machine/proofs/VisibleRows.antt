-- The rows that lookups see of an object that keeps what was declared.
use Rattle.std.proofs.Common.{◌≡◌, ◌≤◌, ◌+◌, ℕ, Bool, true, false, cond, ◌&&◌, List, [], ◌∷◌, length, map, Option, Some, None, refl, sym, ap, ◌∙◌, subst, arith}
use Rattle.std.specs.Prelude.{T}
use Rattle.std.specs.Ordering.{eq_by_cmp, is_eq, is_lt}
use Rattle.std.specs.Cmp.{tied_itself}
use Rattle.std.specs.FinMap.{find, is_sorted, get, entries, entries_sorted, len, contains_key, get-entries, len-entries, len-insert}
use Rattle.std.specs.FinMap.Entries.{below_all}
use Rattle.std.specs.List.{AllByRecursion as Each}
use Rattle.std.proofs.lemmas.Bool.{cond_both}
use Rattle.std.proofs.lemmas.Cmp.{nat_list_cmp_total}
use Rattle.std.proofs.lemmas.Map.Lookups.{exact_bytes}
use Rattle.std.proofs.lemmas.Map.Views.{tells_apart}
use Rattle.std.proofs.lemmas.Option.{none-some}
use Rattle.state_store.specs.declared.object.ObjectDecl.{ObjectDecl}
use Rattle.state_store.specs.declared.object.Row.{Row}
use Rattle.state_store.specs.Kept.{have_widths}
use Rattle.state_store.specs.Places.{IsSorted}
use Rattle.state_store.specs.Store.{Contents, key_cmp, rows_from}
use Rattle.writeback_table.specs.Pair.{Pair, seen, visible, visible_rows, with_row, with_staged}
use Rattle.switch_ir.specs.Port.{entry_of, AreRowsOf}
use Rattle.switch_machine.specs.Kept.{staged_fits, KeepsRows}
use Rattle.switch_machine.proofs.KeptTables.{none_more}
use Rattle.writeback_table.proofs.Laws.{what_a_lookup_sees-main, what_a_lookup_sees-others, what_a_lookup_sees-staged}
use Rattle.lemmas.proofs.Tests.{T_first, T_second, less_not_equal}

-- ## Entries of a map

abbrev Rows : Type 0
Rows = List (List ℕ × List ℕ)

-- no entry above a key has it
none_above : (key : List ℕ) (es : Rows) → T (below_all key_cmp key es) → find key_cmp key es ≡ None
none_above key [] h = refl
none_above key (e ∷ es) h =
    ap (λ b. cond b (Some e.1) (find key_cmp key es)) (less_not_equal (key_cmp key e.0) (T_first (is_lt (key_cmp key e.0)) (below_all key_cmp key es) h))
    ∙ none_above key es (T_second (is_lt (key_cmp key e.0)) (below_all key_cmp key es) h)

-- what is found behind an entry is found with it
found_too : (key values : List ℕ) (e : List ℕ × List ℕ) (es : Rows) → T (below_all key_cmp e.0 es) → find key_cmp key es ≡ Some values
    → find key_cmp key (e ∷ es) ≡ Some values
found_too key values e es below found =
    cond_both (eq_by_cmp key_cmp key e.0) (Some e.1) (find key_cmp key es) (λ o. o ≡ Some values)
    (λ same. absurd (none-some values (sym (none_above e.0 es below) ∙ ap (λ k. find key_cmp k es) (sym (tells_apart exact_bytes key e.0 same)) ∙ found)))
    (λ other. found)

-- what holds of each key with its values holds of each entry
pub each_entry : (P : List ℕ → List ℕ → Type 0) (es : Rows) → T (is_sorted key_cmp es)
    → ((key values : List ℕ) → find key_cmp key es ≡ Some values → P key values) → Each (λ (r : Row). P r.keys r.values) (rows_from es)
each_entry P [] sorted all = tt
each_entry P (e ∷ es) sorted all = (
  all e.0 e.1 (ap (λ b. cond b (Some e.1) (find key_cmp e.0 es)) (ap is_eq (tied_itself nat_list_cmp_total e.0))),
  each_entry P es (T_second (below_all key_cmp e.0 es) (is_sorted key_cmp es) sorted)
      (λ key values found. all key values (found_too key values e es (T_first (below_all key_cmp e.0 es) (is_sorted key_cmp es) sorted) found)),
)

pub entries_back : (es : Rows) → map entry_of (rows_from es) ≡ es
entries_back [] = refl
entries_back (e ∷ es) = ap (λ (l : Rows). e ∷ l) (entries_back es)

count_same : (es : Rows) → length (rows_from es) ≡ length es
count_same [] = refl
count_same (e ∷ es) = omega (arith, count_same es)

-- ## How many there are

one_over : (key : List ℕ) (row : Option (List ℕ)) (rows : Contents) → len (with_row key row rows) ≤ len rows + 1
one_over key (Some values) rows =
    subst (λ n. n ≤ len rows + 1) (sym (len-insert nat_list_cmp_total rows key values))
    (cond_both (contains_key rows key) (len rows) (len rows + 1) (λ n. n ≤ len rows + 1) (λ e. omega arith) (λ e. omega arith))
one_over key None rows = omega (arith, none_more rows key)

all_over : (staged : List (List ℕ × Option (List ℕ))) (rows : Contents) → len (with_staged staged rows) ≤ len rows + length staged
all_over [] rows = omega arith
all_over (s ∷ more) rows = omega (arith, one_over s.0 s.1 (with_staged more rows), all_over more rows)

-- ## Rows of the declared widths

abbrev IsRow : ObjectDecl → List ℕ → List ℕ → Type 0
IsRow d key values = (have_widths d.keys key && have_widths d.values values) ≡ true

module _ (d : ObjectDecl) (pair : Pair) (kept : KeepsRows d pair) where
  over_main : (key values : List ℕ) (row : Option (Option (List ℕ))) → get pair.staged key ≡ row → seen true pair key ≡ Some values → IsRow d key values
  over_main key values None is found = kept.main.rows key values (sym (what_a_lookup_sees-others pair key is) ∙ found)
  over_main key values (Some row) is found =
      let this : row ≡ Some values = sym (what_a_lookup_sees-staged pair key row is) ∙ found in
      subst (λ (r : Option (List ℕ)). (have_widths d.keys key && staged_fits d r) ≡ true) this (kept.staged key row is)

  pub fits : (bit : Bool) (key values : List ℕ) → seen bit pair key ≡ Some values → IsRow d key values
  fits false key values found = kept.main.rows key values (sym (what_a_lookup_sees-main pair key) ∙ found)
  fits true key values found = over_main key values (get pair.staged key) refl found

  few_rows : (bit : Bool) → len (visible bit pair) ≤ d.size + 65536
  few_rows false = omega (arith, kept.main.few)
  few_rows true = omega (arith, all_over (entries pair.staged) pair.main.contents, len-entries pair.staged, kept.main.few, kept.few, kept.room)

  pub rows_of : (bit : Bool) → d.size ≤ 1048576 → AreRowsOf d (visible_rows bit pair)
  rows_of bit small =
      let es = entries (visible bit pair) in
      record {
        few = omega (arith, count_same es, len-entries (visible bit pair), few_rows bit, small);
        fit = each_entry (IsRow d) es (entries_sorted (visible bit pair)) (λ key values found. fits bit key values (get-entries (visible bit pair) key ∙ found));
        rising = subst IsSorted (sym (entries_back es)) (entries_sorted (visible bit pair));
      }
