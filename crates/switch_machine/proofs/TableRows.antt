-- Tables by the numbers of their objects.
use Rattle.std.proofs.Common.{◌≡◌, ℕ, ◌==◌, ◌<◌, ◌≤◌, Bool, true, false, List, [], ◌∷◌, length, map, Option, Some, None, unwrap_or, ◌+◌, ◌++◌, refl, sym, ap, ◌∙◌, inl, inr, arith}
use Rattle.std.proofs.lemmas.Bool.{cond-false, ne_eqb, cases_lt}
use Rattle.std.proofs.lemmas.List.{get_or_append_left, get_or_push, length-map, nil_from_length}
use Rattle.std.proofs.lemmas.Option.{none-some, slice_get_past, unwrap_or-slice_get}
use Rattle.std.specs.FinMap as finmap
use Rattle.std.specs.List.{AllByRecursion as Each}
use Rattle.state_store.specs.Store.{key_cmp, no_object, object_at, rows_from}
use Rattle.writeback_table.specs.Pair.{Pair, visible_rows, with_staged}
use Rattle.switch_ir.specs.declared.code.Table.{Table}
use Rattle.switch_ir.specs.Code.{Code}
use Rattle.switch_ir.specs.Tables.{Told, IsStart, declared_at, no_pair, pair_at, seen_object, seen_tables, start_pair}

pub none_declared : (tables : List Table) (n o : ℕ) → Each (λ (t : Table). t.number < n) tables → n ≤ o → declared_at tables o ≡ None
none_declared [] n o h le = refl
none_declared (t ∷ ts) n o h le =
    cond-false (t.number == o) (Some t.object) (declared_at ts o) (ne_eqb t.number o (λ e. omega (arith, h.0, le, e)))
    ∙ none_declared ts n o h.1 le

-- ## Past the end

pub pair_past : (pairs : List Pair) (o : ℕ) → length pairs ≤ o → pair_at pairs o ≡ no_pair
pair_past pairs o le = ap (λ p. unwrap_or p no_pair) (slice_get_past pairs o le)

pub object_past : (told : Told) (o : ℕ) → length told.pairs ≤ o → object_at (seen_tables told) o ≡ no_object
object_past told o le =
    ap (λ p. unwrap_or p no_object)
    (slice_get_past (map (seen_object told.bit) told.pairs) o (omega (arith, le, length-map told.pairs (seen_object told.bit))))

empty_rows : finmap.entries no_object.contents ≡ []
empty_rows = nil_from_length (finmap.entries no_object.contents) (sym (finmap.len-entries no_object.contents) ∙ finmap.len-empty key_cmp (List ℕ))

empty_staged : finmap.entries no_pair.staged ≡ []
empty_staged = nil_from_length (finmap.entries no_pair.staged) (sym (finmap.len-entries no_pair.staged) ∙ finmap.len-empty key_cmp (Option (List ℕ)))

pub nothing_visible : (bit : Bool) → visible_rows bit no_pair ≡ []
nothing_visible false = ap rows_from empty_rows
nothing_visible true = ap (λ es. rows_from (finmap.entries (with_staged es no_object.contents))) empty_staged ∙ ap rows_from empty_rows

-- ## What code starts with

-- the pairs of the first n objects are those that they start with
abbrev pub AreStarts : ℕ → List Table → ℕ → List Pair → Type 0
AreStarts writeback tables n pairs = (o : ℕ) → o < n → pair_at pairs o ≡ start_pair writeback (declared_at tables o)

pub one_more_start : (writeback : ℕ) (tables : List Table) (n m : ℕ) (pairs after : List Pair) (p : Pair) → after ≡ pairs ++ p ∷ []
    → length pairs ≡ n → m ≡ n + 1 → p ≡ start_pair writeback (declared_at tables n) → AreStarts writeback tables n pairs
    → AreStarts writeback tables m after
one_more_start writeback tables n m pairs after p more count next is so o lt =
    ap (λ ps. pair_at ps o) more ∙ unwrap_or-slice_get (pairs ++ p ∷ []) o no_pair
    ∙ elim (cases_lt o n) [
      | inl below ↦ get_or_append_left pairs (p ∷ []) no_pair o (omega (arith, below, count)) ∙ sym (unwrap_or-slice_get pairs o no_pair) ∙ so o below
      | inr above ↦ get_or_push pairs p no_pair o (omega (arith, above, lt, next, count)) ∙ is
          ∙ ap (λ k. start_pair writeback (declared_at tables k)) (omega (arith, above, lt, next))
    ]

pub is_start : (code : Code) (told : Told) (n : ℕ) → length told.pairs ≡ n → told.bit ≡ false
    → ((o : ℕ) → n ≤ o → declared_at code.tables o ≡ None) → AreStarts code.writeback code.tables n told.pairs → IsStart code told
is_start code told n count bit none so = record {
  there = λ o d is. elim (cases_lt o n) [
    | inl lt ↦ omega (arith, lt, count)
    | inr le ↦ absurd (none-some d (sym (none o le) ∙ is))
  ];
  pairs = λ o. elim (cases_lt o n) [
    | inl lt ↦ so o lt
    | inr le ↦ pair_past told.pairs o (omega (arith, count, le)) ∙ ap (start_pair code.writeback) (sym (none o le))
  ];
  bit = bit;
}
