-- A run keeps to the declared widths.
use Rattle.std.proofs.Common.{◌≡◌, ◌≤◌, ◌<◌, ◌^◌, ℕ, zero, suc, Bool, true, false, ◌&&◌, List, [], ◌∷◌, map, length, replicate, Option, Some, None, is_some, unwrap_or, slice_get, slice_index, refl, sym, subst, arith, lit<, true≢false, ⊎_elim, if◌then◌else◌}
use Rattle.std.proofs.lemmas.Bool.{cases_eq, ltb-true, not-true}
use Rattle.std.proofs.lemmas.Nat.{pow_pos}
use Rattle.std.specs.List.{AllByRecursion as Each}
use Rattle.std.specs.Option.{option_map}
use Rattle.packet_fields.specs.declared.packet.Packet.{Packet}
use Rattle.packet_fields.specs.Table.{row}
use Rattle.state_store.specs.declared.object.ObjectDecl.{ObjectDecl}
use Rattle.state_store.specs.Kept.{have_widths, IsKeptObject, IsKept}
use Rattle.state_store.specs.Kinds.{is_table, is_map}
use Rattle.state_store.specs.Store.{Object, Store, object_at, looked_up, put_answer, is_stored}
use Rattle.state_store.specs.Store as store
use Rattle.gal_bits.specs.declared.op.Op.TheVariants.{Select}
use Rattle.flat_ir.specs.declared.program.ValueId.{ValueId}
use Rattle.flat_ir.specs.declared.program.FieldValue.{FieldValue}
use Rattle.packet_fields.specs.Arrivals.{IsArrival}
use Rattle.flat_ir.specs.Program.{Program, Work, step_at, value_widths, result_widths, width_of_value}
use Rattle.flat_ir.specs.Program.Work.{const, field, apply, shift, select, byte, look, put, del}
use Rattle.flat_ir.specs.Blocks.{Reading, is_live}
use Rattle.flat_ir.specs.Run.{Change, Machine, do_step, made, change_of, with_changes, results, with_results, after}
use Rattle.flat_ir.specs.Fits.{fits_keys, fits_values, can_put, can_del, widths_of, fits}
use Rattle.flat_ir.specs.WellFormed.{IsWellFormed, IsWritten}
use Rattle.flat_ir.specs.Writable.{IsWritable}
use Rattle.flat_ir.specs.Laws.{AllFit, KeepsWidths}
use Rattle.gal_bits.specs.Operators.{bit}
use Rattle.gal_bits.specs.Fits.{operator_fits, same_list}
use Rattle.flat_ir.proofs.Runs.{set_own, set_other}
use Rattle.packet_fields.specs.Fitting.{field_fits}
use Rattle.state_store.specs.Widths.{at_widths, one_width, zeros_have_widths}
use Rattle.state_store.specs.Keeping.{put_is_kept, del_is_kept}
use Rattle.lemmas.proofs.Lists.{each_weaker}
use Rattle.lemmas.proofs.Tests.{and_first, and_second}

pub mapped : (f : Program) (reads : Reading) → AllFit f reads → (vs : List ValueId) → have_widths (widths_of f vs) (map reads vs) ≡ true
mapped f reads fit [] = refl
mapped f reads fit (v ∷ vs) = one_width (width_of_value f v) (reads v) (widths_of f vs) (map reads vs) (fit v) (mapped f reads fit vs)

-- a key, and the values of a row, fit the declaration
as_declared : (f : Program) (reads : Reading) → AllFit f reads → (vs : List ValueId) (ws : List ℕ) → widths_of f vs ≡ ws → have_widths ws (map reads vs) ≡ true
as_declared f reads fit vs ws e = subst (λ l. have_widths l (map reads vs) ≡ true) e (mapped f reads fit vs)

-- ## Results

bit_fits : (b : Bool) → bit b < 2 ^ 1
bit_fits true = lit< tt
bit_fits false = lit< tt

made_fits : (live : Bool) (change : Option Change) → length (made live change) < 2 ^ 1
made_fits true (Some change) = lit< tt
made_fits true None = lit< tt
made_fits false change = lit< tt

found_fits : (d : ObjectDecl) (o : Object) (key : List ℕ) (found : Option (List ℕ)) → IsKeptObject d o → store.look o key ≡ found → have_widths d.values (unwrap_or found (replicate o.count 0)) ≡ true
found_fits d o key None kept e = subst (λ n. have_widths d.values (replicate n 0) ≡ true) (sym kept.count) (zeros_have_widths d.values)
found_fits d o key (Some values) kept e = and_second (have_widths d.keys key) (have_widths d.values values) (kept.rows key values e)

looked_fit : (objects : List ObjectDecl) (st : Store) (o : ℕ) (key ws : List ℕ) (found : Option ObjectDecl) → IsKept objects st → slice_get objects o ≡ found → fits_keys found ws ≡ true → have_widths (unwrap_or (option_map (λ (d : ObjectDecl). d.values) found) []) (looked_up (object_at st o) key) ≡ true
looked_fit objects st o key ws None kept e h = absurd (true≢false (sym h))
looked_fit objects st o key ws (Some d) kept e h = found_fits d (object_at st o) key (store.look (object_at st o) key) (kept.each o d e) refl

results_fit : (f : Program) (reads : Reading) (live : Bool) (st : Store) (packet : Packet) (work : Work) → IsArrival packet → IsKept f.objects st → AllFit f reads → fits f work ≡ true → have_widths (result_widths f.objects work) (results reads live st packet work) ≡ true
results_fit f reads live st packet (const width number) arrives kept fit h = one_width width number [] [] (ltb-true number (2 ^ width) h) refl
results_fit f reads live st packet (field name) arrives kept fit h = one_width (row name).width _ [] [] (field_fits packet name arrives) refl
results_fit f reads live st packet (apply op width args) arrives kept fit h = one_width width _ [] [] (operator_fits op width (map reads args)) refl
results_fit f reads live st packet (shift op width arg by) arrives kept fit h = one_width width _ [] [] (operator_fits op width (reads arg ∷ by ∷ [])) refl
results_fit f reads live st packet (select width cond first second) arrives kept fit h =
    one_width width _ [] [] (operator_fits Select width (reads cond ∷ reads first ∷ reads second ∷ [])) refl
results_fit f reads live st packet (byte index) arrives kept fit h = one_width 8 _ [] [] (arrives.bytes (reads index)) refl
results_fit f reads live st packet (look object keys) arrives kept fit h =
    one_width 1 _ (value_widths f.objects object) (looked_up (object_at st object) (map reads keys)) (bit_fits (is_some (store.look (object_at st object) (map reads keys))))
    (looked_fit f.objects st object (map reads keys) (widths_of f keys) (slice_get f.objects object) kept refl h)
results_fit f reads live st packet (put object keys values) arrives kept fit h =
    one_width 1 _ [] [] (made_fits live (change_of reads st (put object keys values))) refl
results_fit f reads live st packet (del object keys) arrives kept fit h = one_width 1 _ [] [] (made_fits live (change_of reads st (del object keys))) refl

-- ## The store

put_kept : (f : Program) (reads : Reading) (st : Store) (o : ℕ) (keys values : List ValueId) (found : Option ObjectDecl) (live stored : Bool) → IsKept f.objects st → AllFit f reads → slice_get f.objects o ≡ found → (can_put found && fits_keys found (widths_of f keys) && fits_values found (widths_of f values)) ≡ true
    → IsKept f.objects (with_changes st (made live (if stored then Some (record { object = o; key = map reads keys; values = Some (map reads values) }) else None)))
put_kept f reads st o keys values None live stored kept fit e h = absurd (true≢false (sym h))
put_kept f reads st o keys values (Some d) true true kept fit e h =
    let two = and_first (can_put (Some d) && fits_keys (Some d) (widths_of f keys)) (fits_values (Some d) (widths_of f values)) h in
    let free = not-true (is_table d.kind) (and_first (can_put (Some d)) (fits_keys (Some d) (widths_of f keys)) two) in
    let key = same_list (widths_of f keys) d.keys (and_second (can_put (Some d)) (fits_keys (Some d) (widths_of f keys)) two) in
    let value = same_list (widths_of f values) d.values (and_second (can_put (Some d) && fits_keys (Some d) (widths_of f keys)) (fits_values (Some d) (widths_of f values)) h) in
    put_is_kept f.objects st o d (map reads keys) (map reads values) e free (as_declared f reads fit keys d.keys key) (as_declared f reads fit values d.values value) kept
put_kept f reads st o keys values (Some d) true false kept fit e h = kept
put_kept f reads st o keys values (Some d) false stored kept fit e h = kept

del_kept : (f : Program) (reads : Reading) (st : Store) (o : ℕ) (keys : List ValueId) (found : Option ObjectDecl) (live there : Bool) → IsKept f.objects st → slice_get f.objects o ≡ found → (can_del found && fits_keys found (widths_of f keys)) ≡ true
    → IsKept f.objects (with_changes st (made live (if there then Some (record { object = o; key = map reads keys; values = None }) else None)))
del_kept f reads st o keys None live there kept e h = absurd (true≢false (sym h))
del_kept f reads st o keys (Some d) true true kept e h =
    del_is_kept f.objects st o d (map reads keys) e (and_first (is_map d.kind) (fits_keys (Some d) (widths_of f keys)) h) kept
del_kept f reads st o keys (Some d) true false kept e h = kept
del_kept f reads st o keys (Some d) false there kept e h = kept

none_kept : (objects : List ObjectDecl) (live : Bool) (st : Store) → IsKept objects st → IsKept objects (with_changes st (made live None))
none_kept objects true st kept = kept
none_kept objects false st kept = kept

step_kept : (f : Program) (reads : Reading) (live : Bool) (st : Store) (work : Work) → IsKept f.objects st → AllFit f reads → fits f work ≡ true → IsKept f.objects (with_changes st (made live (change_of reads st work)))
step_kept f reads live st (put object keys values) kept fit h =
    put_kept f reads st object keys values (slice_get f.objects object) live (is_stored (put_answer (object_at st object) (map reads keys))) kept fit refl h
step_kept f reads live st (del object keys) kept fit h =
    del_kept f reads st object keys (slice_get f.objects object) live (is_some (store.look (object_at st object) (map reads keys))) kept refl h
step_kept f reads live st _ kept fit h = none_kept f.objects live st kept

-- ## A whole run

set_fits : (f : Program) (n : ℕ) (rs : List ℕ) (reads : Reading) → AllFit f reads → have_widths (result_widths f.objects (step_at f n).work) rs ≡ true → AllFit f (with_results n rs reads)
set_fits f n rs reads fit h v =
    ⊎_elim
    (λ same. subst (λ k. k < 2 ^ width_of_value f v) (sym (set_own n rs reads v same))
    (subst (λ i. slice_index rs v.result < 2 ^ slice_index (result_widths f.objects (step_at f i).work) v.result) (sym same) (at_widths (result_widths f.objects (step_at f n).work) rs h v.result)))
    (λ ne. subst (λ k. k < 2 ^ width_of_value f v) (sym (set_other n rs reads v ne)) (fit v))
    (cases_eq v.instruction n)

pub turn_fits : (f : Program) (packet : Packet) (live : Bool) (n : ℕ) (m : Machine) → IsWellFormed f → IsArrival packet → n < length f.code → KeepsWidths f m → KeepsWidths f (do_step live packet n (step_at f n).work m)
turn_fits f packet live n m well arrives lt so = record {
  kept = step_kept f m.reads live m.store (step_at f n).work so.kept so.fits (well.fit n lt);
  fits = set_fits f n (results m.reads live m.store packet (step_at f n).work) m.reads so.fits (results_fit f m.reads live m.store packet (step_at f n).work arrives so.kept so.fits (well.fit n lt));
}

pub keeps_widths : (f : Program) (st : Store) (packet : Packet) (n : ℕ) → IsWellFormed f → IsArrival packet → IsKept f.objects st → n ≤ length f.code → KeepsWidths f (after f st packet n)
keeps_widths f st packet zero well arrives kept le = record { kept = kept; fits = λ v. pow_pos (width_of_value f v) }
keeps_widths f st packet (suc n) well arrives kept le =
    let m = after f st packet n in
    turn_fits f packet (is_live f.blocks m.reads (step_at f n).block) n m well arrives le (keeps_widths f st packet n well arrives kept (omega (arith, le)))

-- what the output writes can be written
pub writable : (f : Program) (ws : List FieldValue) → Each (IsWritten f) ws → Each IsWritable ws
writable f ws written = each_weaker (IsWritten f) IsWritable (λ w is. is.writable) ws written
