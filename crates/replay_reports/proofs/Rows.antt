-- The rows of an object that keeps what was declared: of its counts and widths, in rising order of their keys.
use Rattle.std.proofs.Common.{◌≡◌, ◌≤◌, ℕ, Bool, true, false, cond, ◌&&◌, List, [], ◌∷◌, length, Some, None, refl, sym}
use Rattle.std.proofs.Common.{ap, ◌∙◌, arith}
use Rattle.std.specs.Prelude.{T, IsTrue}
use Rattle.std.specs.Ordering.{eq_by_cmp, is_lt}
use Rattle.std.specs.FinMap.{find, is_sorted, entries, entries_sorted, get-entries, len-entries}
use Rattle.std.specs.FinMap.Entries.{below_all}
use Rattle.std.specs.List.{AllByRecursion as Each}
use Rattle.std.proofs.lemmas.Map.Lookups.{exact_bytes}
use Rattle.std.proofs.lemmas.Option.{none-some}
use Rattle.state_store.specs.declared.object.ObjectDecl.{ObjectDecl}
use Rattle.state_store.specs.declared.object.Row.{Row}
use Rattle.state_store.specs.Kept.{IsKeptObject, have_widths}
use Rattle.state_store.specs.Store.{Object, key_cmp, rows_from, rows_of}
use Rattle.report_text.specs.Form.{AreRising, IsRowOf, IsSmall}
use Rattle.lemmas.proofs.Tests.{T_first, T_second, eq_equal, less_not_equal, lt_less}
use Rattle.state_store.proofs.LawLemmas.{itself}
use Rattle.std.proofs.lemmas.Bool.{and_parts}

-- ## Entries of a map

abbrev Entries : Type 0
Entries = List (List ℕ × List ℕ)

-- no entry above a key has it
none_above : (key : List ℕ) (es : Entries) → T (below_all key_cmp key es) → find key_cmp key es ≡ None
none_above key [] h = refl
none_above key (e ∷ es) h =
    ap (λ b. cond b (Some e.1) (find key_cmp key es))
    (less_not_equal (key_cmp key e.0) (T_first (is_lt (key_cmp key e.0)) (below_all key_cmp key es) h))
    ∙ none_above key es (T_second (is_lt (key_cmp key e.0)) (below_all key_cmp key es) h)

-- what is found behind an entry is found with it
found_too : (key values : List ℕ) (e : List ℕ × List ℕ) (es : Entries) (same : Bool)
    → eq_by_cmp key_cmp key e.0 ≡ same → T (below_all key_cmp e.0 es) → find key_cmp key es ≡ Some values
    → cond same (Some e.1) (find key_cmp key es) ≡ Some values
found_too key values e es true is below found =
    let one : key ≡ e.0 = exact_bytes key e.0 (eq_equal (key_cmp key e.0) is) in
    absurd (none-some values (sym (none_above e.0 es below) ∙ ap (λ k. find key_cmp k es) (sym one) ∙ found))
found_too key values e es false is below found = found

-- what holds of each key with its values holds of each row
each_row : (P : Row → Type 0) (es : Entries) → T (is_sorted key_cmp es)
    → ((key values : List ℕ) → find key_cmp key es ≡ Some values → P (record { keys = key; values = values }))
    → Each P (rows_from es)
each_row P [] sorted all = tt
each_row P (e ∷ es) sorted all =
    let below = T_first (below_all key_cmp e.0 es) (is_sorted key_cmp es) sorted in (
      all e.0 e.1 (ap (λ b. cond b (Some e.1) (find key_cmp e.0 es)) (itself e.0)),
      each_row P es (T_second (below_all key_cmp e.0 es) (is_sorted key_cmp es) sorted)
          (λ key values found. all key values (found_too key values e es (eq_by_cmp key_cmp key e.0) refl below found)),
    )

rising_rows : (es : Entries) → T (is_sorted key_cmp es) → AreRising (rows_from es)
rising_rows [] sorted = tt
rising_rows (e ∷ []) sorted = (tt, tt)
rising_rows (e ∷ d ∷ es) sorted = (
  lt_less (key_cmp e.0 d.0)
      (T_first (is_lt (key_cmp e.0 d.0)) (below_all key_cmp e.0 es)
      (T_first (below_all key_cmp e.0 (d ∷ es)) (is_sorted key_cmp (d ∷ es)) sorted)),
  rising_rows (d ∷ es) (T_second (below_all key_cmp e.0 (d ∷ es)) (is_sorted key_cmp (d ∷ es)) sorted),
)

count_same : (es : Entries) → length (rows_from es) ≡ length es
count_same [] = refl
count_same (e ∷ es) = omega (arith, count_same es)

-- ## Rows of an object

row_is : (d : ObjectDecl) (key values : List ℕ) → IsTrue (have_widths d.keys key && have_widths d.values values)
    → IsRowOf d (record { keys = key; values = values })
row_is d key values both = and_parts (have_widths d.keys key) (have_widths d.values values) both

-- what a report asks of the rows of an object
pub record AreTold (d : ObjectDecl) (rows : List Row) : Type 0 where
  pub few : IsSmall (length rows)
  pub each : Each (IsRowOf d) rows
  pub rising : AreRising rows

pub kept_told : (d : ObjectDecl) (object : Object) → IsKeptObject d object → d.size ≤ 1048576
    → AreTold d (rows_of object)
kept_told d object kept small =
    let es = entries object.contents in
    let sorted = entries_sorted object.contents in
    let low = kept.few in
    record {
      few = omega (arith, count_same es, len-entries object.contents);
      each = each_row (IsRowOf d) es sorted
          (λ key values found. row_is d key values (kept.rows key values (get-entries object.contents key ∙ found)));
      rising = rising_rows es sorted;
    }
