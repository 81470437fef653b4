-- How many results an instruction gives.
use Rattle.std.proofs.Common.{◌≡◌, ◌≤◌, ℕ, zero, suc, Bool, true, false, List, [], ◌∷◌, length, map, replicate, nat_lt, Option, Some, None, unwrap_or, refl, sym, ap, ◌∙◌, subst, arith, ◌^◌}
use Rattle.std.specs.FinMap as finmap
use Rattle.std.specs.Option.{option_map}
use Rattle.std.proofs.lemmas.Bool.{and_parts, true≢false}
use Rattle.std.proofs.lemmas.List.{length-replicate}
use Rattle.std.proofs.lemmas.Option.{none-some}
use Rattle.packet_fields.specs.declared.packet.Packet.{Packet}
use Rattle.state_store.specs.declared.object.ObjectDecl.{ObjectDecl}
use Rattle.state_store.specs.Kept.{have_widths}
use Rattle.state_store.specs.Store.{key_cmp, Object, Store, look, looked_up, no_object, object_at}
use Rattle.flat_ir.specs.Blocks.{Reading}
use Rattle.flat_ir.specs.Program.{Work}
use Rattle.flat_ir.specs.Program.Work.{look as look_up}
use Rattle.flat_ir.specs.Run.{results}
use Rattle.writeback_table.specs.Pair.{Pair, seen}
use Rattle.writeback_table.proofs.Laws.{what_a_lookup_sees-main, what_a_lookup_sees-others}
use Rattle.switch_ir.specs.declared.code.Table.{Table}
use Rattle.switch_ir.specs.Passes.{Code}
use Rattle.switch_ir.specs.Spans.{results_in}
use Rattle.switch_ir.specs.Tables.{Told, declared_at, no_pair, pair_at, seen_object, seen_tables}
use Rattle.switch_machine.specs.Kept.{KeepsTables}
use Rattle.switch_machine.proofs.VisibleRows.{fits}
use Rattle.state_store.proofs.AtWork.{no_look}

fits_long : (widths numbers : List ℕ) → have_widths widths numbers ≡ true → length numbers ≡ length widths
fits_long [] [] e = refl
fits_long (w ∷ ws) (n ∷ ns) e = omega (arith, fits_long ws ns (and_parts (nat_lt n (2 ^ w)) (have_widths ws ns) e).1)
fits_long widths numbers e = absurd (true≢false (sym e))

looked_long : (found : Option (List ℕ)) (count n : ℕ) → count ≡ n → ((values : List ℕ) → found ≡ Some values → length values ≡ n)
    → length (unwrap_or found (replicate count 0)) ≡ n
looked_long None count n same all = length-replicate count 0 ∙ same
looked_long (Some values) count n same all = all values refl

seen_at : (P : Object → Type 0) (bit : Bool) (pairs : List Pair) (o : ℕ) → (pair_at pairs o ≡ no_pair → P no_object) → P (seen_object bit (pair_at pairs o))
    → P (object_at (map (seen_object bit) pairs) o)
seen_at P bit [] o none some = none refl
seen_at P bit (p ∷ ps) zero none some = some
seen_at P bit (p ∷ ps) (suc o) none some = seen_at P bit ps o none some

none_there : (values : List ℕ) (key : List ℕ) → look no_object key ≡ Some values → ⊥
none_there values key e = none-some values (sym (no_look key) ∙ e)

-- an instruction has no more results than it is known to have, if no lookup has
few_by : (tables : List Table) (seen : Store)
    → ((o : ℕ) (key : List ℕ) → length (looked_up (object_at seen o) key) ≤ length (unwrap_or (option_map (λ (d : ObjectDecl). d.values) (declared_at tables o)) []))
    → (reads : Reading) (packet : Packet) (work : Work) → length (results reads false seen packet work) ≤ results_in tables work
few_by tables seen looks reads packet (look_up o keys) = omega (arith, looks o (map reads keys))
few_by tables seen looks reads packet work = omega arith

module _ (code : Code) (told : Told) (safe : KeepsTables code told) where
  nothing_seen : (bit : Bool) (key : List ℕ) → seen bit no_pair key ≡ None
  nothing_seen false key = what_a_lookup_sees-main no_pair key ∙ no_look key
  nothing_seen true key = what_a_lookup_sees-others no_pair key (finmap.get-empty key_cmp key) ∙ no_look key

  row_long : (o : ℕ) (key : List ℕ) (found : Option ObjectDecl) → declared_at code.tables o ≡ found
      → length (looked_up (object_at (seen_tables told) o) key) ≡ length (unwrap_or (option_map (λ (d : ObjectDecl). d.values) found) [])
  row_long o key None is =
      let nothing = safe.none o is in
      seen_at (λ (x : Object). length (looked_up x key) ≡ 0) told.bit told.pairs o
      (λ e. looked_long (look no_object key) no_object.count 0 refl (λ values there. absurd (none_there values key there)))
      (subst (λ (p : Pair). length (looked_up (seen_object told.bit p) key) ≡ 0) (sym nothing)
      (looked_long (seen told.bit no_pair key) no_object.count 0 refl (λ values there. absurd (none-some values (sym (nothing_seen told.bit key) ∙ there)))))
  row_long o key (Some d) is =
      let pair = pair_at told.pairs o in
      let kept = safe.rows o d is in
      seen_at (λ (x : Object). length (looked_up x key) ≡ length d.values) told.bit told.pairs o
      (λ e. looked_long (look no_object key) no_object.count (length d.values) (sym (ap (λ (p : Pair). p.main.count) e) ∙ kept.main.count)
      (λ values there. absurd (none_there values key there)))
      (looked_long (seen told.bit pair key) pair.main.count (length d.values) kept.main.count
      (λ values there. fits_long d.values values
      (and_parts (have_widths d.keys key) (have_widths d.values values) (fits d pair kept told.bit key values there)).1))

  pub results_few : (reads : Reading) (packet : Packet) (work : Work) → length (results reads false (seen_tables told) packet work) ≤ results_in code.tables work
  results_few = few_by code.tables (seen_tables told) (λ o key. omega (arith, row_long o key (declared_at code.tables o) refl))

-- without tables
pub results_one : (tables : List Table) (reads : Reading) (packet : Packet) (work : Work) → length (results reads false [] packet work) ≤ results_in tables work
results_one tables =
    few_by tables [] (λ o key. omega (arith, looked_long (look no_object key) no_object.count 0 refl (λ values there. absurd (none_there values key there))))
