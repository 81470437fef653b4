-- What the switch is told of the server's changes.
use Rattle.std.proofs.Common.{◌≡◌, ◌≤◌, ◌+◌, ℕ, zero, suc, Bool, true, false, cond, ◌&&◌, ◌||◌, List, [], ◌∷◌, ◌++◌, map, length, Option, Some, None, is_some, slice_get, refl, sym, ap, ◌∙◌, subst, arith, true≢false, length-append, if◌then◌else◌}
use Rattle.std.specs.List.{AllByRecursion as Each, filter}
use Rattle.std.proofs.lemmas.Bool.{and_from, and_parts}
use Rattle.std.proofs.lemmas.List.{map-append}
use Rattle.std.proofs.lemmas.List.Elements.{filter-append}
use Rattle.packet_fields.specs.declared.packet.Packet.{Packet}
use Rattle.gal_bits.specs.Fitting.{same_widths}
use Rattle.state_store.specs.declared.object.ObjectDecl.{ObjectDecl}
use Rattle.state_store.specs.Fitting.{can_del, can_put, fits_keys, fits_values}
use Rattle.state_store.specs.Store.{object_at, put_answer, Store, is_stored}
use Rattle.state_store.specs.Store as store
use Rattle.flat_ir.specs.declared.program.ValueId.{ValueId}
use Rattle.flat_ir.specs.Blocks.{Reading, is_live}
use Rattle.flat_ir.specs.Fits.{fits, widths_of}
use Rattle.flat_ir.specs.Kinds.{is_input}
use Rattle.flat_ir.specs.Laws.{AllFit}
use Rattle.flat_ir.specs.Program.{Program, Work, step_at}
use Rattle.flat_ir.specs.Program.Work.{look, put, del}
use Rattle.flat_ir.specs.Run.{change_of, do_step, made, Change, Machine}
use Rattle.flat_ir.specs.WellFormed.{IsWellFormed}
use Rattle.split_model.specs.declared.split.Part.{Part}
use Rattle.split_model.specs.Counts.{count_below}
use Rattle.split_model.specs.Passes.{served}
use Rattle.split_model.specs.Shown.{is_replicated}
use Rattle.split_model.specs.Split.{is_server}
use Rattle.writeback_table.specs.Widths.{fits_update}
use Rattle.server_runtime.specs.Serving.{is_followed, update_of, updates_of, IsUpdateIn}
use Rattle.flat_ir.proofs.KeptRuns.{mapped}
use Rattle.gal_bits.specs.Fits.{same_list}
use Rattle.flat_ir.specs.Arrivals.{IsArrival}
use Rattle.state_store.specs.Kept.{have_widths, IsKept}
use Rattle.split_model.proofs.Laws.{a_server_keeps_widths-turns}
use Rattle.lemmas.proofs.Lists.{each_append}

-- ## Lists of changes

pub updates_append : (f : Program) (split : List Part) (a b : List Change)
    → updates_of f split (a ++ b) ≡ updates_of f split a ++ updates_of f split b
updates_append f split a b =
    ap (map update_of) (filter-append (λ (c : Change). is_replicated f split c.object) a b)
    ∙ map-append update_of (filter (λ (c : Change). is_replicated f split c.object) a) (filter (λ (c : Change). is_replicated f split c.object) b)

-- ## How many there are

-- a change that is picked or is not
pub picked_few : (b : Bool) (c : Change) → length (map update_of (cond b (c ∷ []) [])) ≤ (if b then 1 else 0)
picked_few true c = omega arith
picked_few false c = omega arith

none_few : (live : Bool) (f : Program) (split : List Part) → length (updates_of f split (made live None)) ≤ 0
none_few true f split = omega arith
none_few false f split = omega arith

-- a change that is made or is not
made_few : (f : Program) (split : List Part) (live takes : Bool) (c : Change)
    → length (updates_of f split (made live (if takes then Some c else None))) ≤ (if is_replicated f split c.object then 1 else 0)
made_few f split true true c = picked_few (is_replicated f split c.object) c
made_few f split _ _ c = omega arith

work_few : (f : Program) (split : List Part) (reads : Reading) (live : Bool) (st : Store) (work : Work)
    → length (updates_of f split (made live (change_of reads st work))) ≤ (if is_followed f split work then 1 else 0)
work_few f split reads live st (put object keys values) =
    made_few f split live (is_stored (put_answer (object_at st object) (map reads keys))) (record { object = object; key = map reads keys; values = Some (map reads values) })
work_few f split reads live st (del object keys) =
    made_few f split live (is_some (store.look (object_at st object) (map reads keys))) (record { object = object; key = map reads keys; values = None })
work_few f split reads live st _ = none_few live f split

-- the server's turn adds so many, or none
turn_few : (f : Program) (split : List Part) (b : Bool) (m : Machine) (more : List Change) (reads : Reading) (st : Store) (count k : ℕ)
    → length (updates_of f split m.changes) ≤ count → length (updates_of f split more) ≤ k
    → length (updates_of f split (if b then record { reads = reads; store = st; changes = m.changes ++ more } else m).changes) ≤ count + k
turn_few f split true m more reads st count k h one =
    omega (arith, ap length (updates_append f split m.changes more), length-append (updates_of f split m.changes) (updates_of f split more))
turn_few f split false m more reads st count k h one = omega (arith, h)

pub told_few : (f : Program) (split : List Part) (st : Store) (packet : Packet) (up : Reading) (n : ℕ)
    → length (updates_of f split (served f split up st packet n).changes) ≤ count_below n (λ i. is_followed f split (step_at f i).work)
told_few f split st packet up zero = omega arith
told_few f split st packet up (suc n) =
    let m = served f split up st packet n in
    let live = is_live f.blocks m.reads (step_at f n).block in
    let next = do_step live packet n (step_at f n).work m in
    turn_few f split (is_input (step_at f n).work || is_server split n) m (made live (change_of m.reads m.store (step_at f n).work)) next.reads next.store
    (count_below n (λ i. is_followed f split (step_at f i).work)) (if is_followed f split (step_at f n).work then 1 else 0)
    (told_few f split st packet up n) (work_few f split m.reads live m.store (step_at f n).work)

-- ## That they fit

-- values of these widths
as_declared : (f : Program) (reads : Reading) → AllFit f reads → (vs : List ValueId) (ws : List ℕ) → same_widths (widths_of f vs) ws ≡ true
    → have_widths ws (map reads vs) ≡ true
as_declared f reads fit vs ws e = subst (λ l. have_widths l (map reads vs) ≡ true) (same_list (widths_of f vs) ws e) (mapped f reads fit vs)

-- a change that is picked or is not
picked_fit : (f : Program) (split : List Part) (c : Change) (d : ObjectDecl) → slice_get f.objects c.object ≡ Some d → fits_update d (update_of c) ≡ true
    → (b : Bool) → is_replicated f split c.object ≡ b → Each (IsUpdateIn f split) (map update_of (cond b (c ∷ []) []))
picked_fit f split c d is widths true e = (record { declared = d; is = is; replicated = e; widths = widths }, tt)
picked_fit f split c d is widths false e = tt

made_fit : (f : Program) (split : List Part) (c : Change) (d : ObjectDecl) → slice_get f.objects c.object ≡ Some d → fits_update d (update_of c) ≡ true
    → (live takes : Bool) → Each (IsUpdateIn f split) (updates_of f split (made live (if takes then Some c else None)))
made_fit f split c d is widths true true = picked_fit f split c d is widths (is_replicated f split c.object) refl
made_fit f split c d is widths true false = tt
made_fit f split c d is widths false takes = tt

put_fit : (f : Program) (split : List Part) (reads : Reading) → AllFit f reads → (o : ℕ) (keys values : List ValueId) (found : Option ObjectDecl)
    → slice_get f.objects o ≡ found → (can_put found && fits_keys found (widths_of f keys) && fits_values found (widths_of f values)) ≡ true
    → (live takes : Bool)
    → Each (IsUpdateIn f split) (updates_of f split (made live (if takes then Some (record { object = o; key = map reads keys; values = Some (map reads values) }) else None)))
put_fit f split reads fit o keys values None is h live takes = absurd (true≢false (sym h))
put_fit f split reads fit o keys values (Some d) is h live takes =
    let parts = and_parts (can_put (Some d) && fits_keys (Some d) (widths_of f keys)) (fits_values (Some d) (widths_of f values)) h in
    let two = and_parts (can_put (Some d)) (fits_keys (Some d) (widths_of f keys)) parts.0 in
    made_fit f split (record { object = o; key = map reads keys; values = Some (map reads values) }) d is
    (and_from (have_widths d.keys (map reads keys)) (have_widths d.values (map reads values)) (as_declared f reads fit keys d.keys two.1) (as_declared f reads fit values d.values parts.1))
    live takes

del_fit : (f : Program) (split : List Part) (reads : Reading) → AllFit f reads → (o : ℕ) (keys : List ValueId) (found : Option ObjectDecl)
    → slice_get f.objects o ≡ found → (can_del found && fits_keys found (widths_of f keys)) ≡ true
    → (live takes : Bool)
    → Each (IsUpdateIn f split) (updates_of f split (made live (if takes then Some (record { object = o; key = map reads keys; values = None }) else None)))
del_fit f split reads fit o keys None is h live takes = absurd (true≢false (sym h))
del_fit f split reads fit o keys (Some d) is h live takes =
    let parts = and_parts (can_del (Some d)) (fits_keys (Some d) (widths_of f keys)) h in
    made_fit f split (record { object = o; key = map reads keys; values = None }) d is
    (and_from (have_widths d.keys (map reads keys)) true (as_declared f reads fit keys d.keys parts.1) refl)
    live takes

none_fit : (live : Bool) (f : Program) (split : List Part) → Each (IsUpdateIn f split) (updates_of f split (made live None))
none_fit true f split = tt
none_fit false f split = tt

work_fit : (f : Program) (split : List Part) (reads : Reading) (live : Bool) (st : Store) → AllFit f reads → (work : Work) → fits f work ≡ true
    → Each (IsUpdateIn f split) (updates_of f split (made live (change_of reads st work)))
work_fit f split reads live st fit (put object keys values) h =
    put_fit f split reads fit object keys values (slice_get f.objects object) refl h live (is_stored (put_answer (object_at st object) (map reads keys)))
work_fit f split reads live st fit (del object keys) h =
    del_fit f split reads fit object keys (slice_get f.objects object) refl h live (is_some (store.look (object_at st object) (map reads keys)))
work_fit f split reads live st fit _ h = none_fit live f split

turn_fit : (f : Program) (split : List Part) (b : Bool) (m : Machine) (more : List Change) (reads : Reading) (st : Store)
    → Each (IsUpdateIn f split) (updates_of f split m.changes) → Each (IsUpdateIn f split) (updates_of f split more)
    → Each (IsUpdateIn f split) (updates_of f split (if b then record { reads = reads; store = st; changes = m.changes ++ more } else m).changes)
turn_fit f split true m more reads st h one =
    subst (Each (IsUpdateIn f split)) (sym (updates_append f split m.changes more)) (each_append (IsUpdateIn f split) (updates_of f split m.changes) (updates_of f split more) h one)
turn_fit f split false m more reads st h one = h

-- from numbers that all fit
pub all_told_fit : (f : Program) (split : List Part) (st : Store) (packet : Packet) (up : Reading) → IsWellFormed f → IsArrival packet → IsKept f.objects st
    → AllFit f up → (n : ℕ) → n ≤ length f.code → Each (IsUpdateIn f split) (updates_of f split (served f split up st packet n).changes)
all_told_fit f split st packet up well arrives kept fit zero le = tt
all_told_fit f split st packet up well arrives kept fit (suc n) le =
    let m = served f split up st packet n in
    let live = is_live f.blocks m.reads (step_at f n).block in
    let next = do_step live packet n (step_at f n).work m in
    turn_fit f split (is_input (step_at f n).work || is_server split n) m (made live (change_of m.reads m.store (step_at f n).work)) next.reads next.store
    (all_told_fit f split st packet up well arrives kept fit n (omega (arith, le)))
    (work_fit f split m.reads live m.store (a_server_keeps_widths-turns f split st packet up n well arrives kept fit (omega (arith, le))).fits
    (step_at f n).work (well.fit n le))
