-- Turns whose operands and results are known by their places.
use Rattle.std.proofs.Common.{◌≡◌, ◌+◌, ◌<◌, ◌≤◌, ◌^◌, ◌++◌, ℕ, zero, suc, Bool, true, false, List, [], ◌∷◌, length, get_or, slice_index, Option, None, refl}
use Rattle.std.proofs.Common.{sym, ap, ◌∙◌, subst, arith, IsSome, append-nil, if◌then◌else◌, true≢false}
use Rattle.std.proofs.lemmas.List.{get_or-map, length-map, map-append}
use Rattle.std.specs.Prelude.{unwrap_or}
use Rattle.std.specs.List.{AllByRecursion as Each}
use Rattle.packet_fields.specs.declared.packet.Packet.{Packet}
use Rattle.state_store.specs.Store.{Store}
use Rattle.flat_ir.specs.declared.program.ValueId.{ValueId}
use Rattle.flat_ir.specs.Blocks.{is_live, Reading}
use Rattle.flat_ir.specs.Kinds.{is_look, is_write}
use Rattle.flat_ir.specs.Program.{is_named, result_count, step_at, Program, Work}
use Rattle.flat_ir.specs.Program.Work.{put, del}
use Rattle.flat_ir.specs.Renamed.{renamed_results}
use Rattle.flat_ir.specs.Renaming.{renamed}
use Rattle.flat_ir.specs.Run.{change_of, made, results, with_changes, Change}
use Rattle.split_model.specs.declared.split.Part.{Part}
use Rattle.split_model.specs.Layouts.{number_of, values_below}
use Rattle.transfer_header.specs.Ready.{all_placed, first_placed, named, placed_gives, places_of, reads_at, ready_work}
use Rattle.transfer_header.specs.Registers.{place_by, place_of, placed, Registers}
use Rattle.writeback_table.specs.declared.command.Update.{Update}
use Rattle.server_runtime.specs.declared.plan.PlannedStep.{PlannedStep}
use Rattle.server_runtime.specs.Registers.{no_place, place_in, register_reads, with_row, HaveRegisters}
use Rattle.server_runtime.specs.Resolved.{place_name, instructions_of, ArePlaces, AreResolved, IsResolved}
use Rattle.server_runtime.specs.Running.{row_of}
use Rattle.server_runtime.specs.Serving.{updates_of}
use Rattle.server_runtime.specs.StepsTaken.{IsStepTaken}
use Rattle.server_runtime.specs.Walks.{AreListed}
use Rattle.server_runtime.proofs.Numbers.{is_named_by}
use Rattle.server_runtime.proofs.Rows.{row_more, row_part}
use Rattle.server_runtime.proofs.Seats.{at_named, named_place, place_placed, put_there, still_seats}
use Rattle.server_runtime.proofs.Walked.{at_or, listed_more, next_at, IsNext}
use Rattle.lemmas.proofs.Lists.{each_or, each_pushed}
use Rattle.split_model.proofs.Sights.{live_counts, no_change}
use Rattle.transfer_header.proofs.PlacedNumbers.{placed_behind}

-- ## Registers in which values have the places that they had

module _ (f : Program) (before after : Registers) (same : (value : ℕ) → place_of after value ≡ place_of before value) where
  place_still : (v : ValueId) → place_in f after v ≡ place_in f before v
  place_still v = ap (λ (o : Option ℕ). unwrap_or (if is_named f v then o else None) no_place) (same (number_of f v))

  names_still : place_name f after ≡ place_name f before
  names_still = λ k v. named (place_still v k)

  still_turn : (t : PlannedStep) → IsResolved f before t → IsResolved f after t
  still_turn t h = record {
    work = h.work ∙ ap (λ (names : ValueId → ValueId). renamed names (step_at f t.instruction).work) (sym names_still);
    can = h.can;
    places = record {
      count = h.places.count;
      each = λ k lt. h.places.each k lt ∙ sym (place_still (record { instruction = t.instruction; result = k }));
    };
  }

  still_turns : (steps : List PlannedStep) → Each (IsResolved f before) steps → Each (IsResolved f after) steps
  still_turns [] h = tt
  still_turns (t ∷ ts) h = (still_turn t h.0, still_turns ts h.1)

  pub still_resolved : (seats : List ℕ) (steps : List PlannedStep) → AreResolved f seats steps before → AreResolved f seats steps after
  still_resolved seats steps h = record { seats = still_seats f seats before after same h.seats; steps = still_turns steps h.steps }

-- with a plan and as many numbers as before
pub planned_resolved : (f : Program) (seats : List ℕ) (steps : List PlannedStep) (before after : Registers) → after.plan ≡ before.plan
    → length after.numbers ≡ length before.numbers → AreResolved f seats steps before → AreResolved f seats steps after
planned_resolved f seats steps before after plan count = still_resolved f before after (λ value p. place_by (plan p) (count p) value) seats steps

-- ## Results at their places

placed_places : (registers : Registers) (pairs : List (ℕ × ℕ)) (value : ℕ) → place_of (all_placed registers pairs) value ≡ place_of registers value
placed_places registers [] value = refl
placed_places registers (p ∷ ps) value = placed_places (placed registers p.0 p.1) ps value ∙ place_placed registers p.0 p.1 value

pub still_places : (before after : Registers) (pairs : List (ℕ × ℕ)) → after ≡ all_placed before pairs
    → (value : ℕ) → place_of after value ≡ place_of before value
still_places before after pairs is value = ap (λ (rs : Registers). place_of rs value) is ∙ placed_places before pairs value

module _ (f : Program) (i : ℕ) (registers : Registers) (within : i < length f.code) (has : HaveRegisters f i registers) where
  abbrev count : ℕ
  count = result_count f.objects (step_at f i).work

  abbrev start : ℕ
  start = length (values_below f i)

  result_place : (k : ℕ) → k < count → place_in f registers (record { instruction = i; result = k }) ≡ unwrap_or (place_of registers (start + k)) no_place
  result_place k lt =
      let v : ValueId = record { instruction = i; result = k } in
      ap (λ (o : Option ℕ). unwrap_or o no_place) (named_place (is_named f v) (place_of registers (number_of f v)) (is_named_by f v within lt))

  part_placed : (places row : List ℕ) → ArePlaces f registers i places → (k : ℕ) → k ≤ count
      → all_placed registers (first_placed places row k) ≡ row_part f i registers row k
  part_placed places row are zero le = refl
  part_placed places row are (suc k) le =
      let lt : k < count = omega (arith, le) in
      let before = first_placed places row k in
      let so : Registers = row_part f i registers row k in
      let now : all_placed registers before ≡ so = part_placed places row are k (omega (arith, le)) in
      let still : place_of registers (start + k) ≡ place_of so (start + k) =
      sym (ap (λ (rs : Registers). place_of rs (start + k)) (sym now) ∙ placed_places registers before (start + k)) in
      placed_behind registers before ((slice_index places k, slice_index row k) ∷ [])
      ∙ ap (λ (rs : Registers). placed rs (slice_index places k) (slice_index row k)) now
      ∙ ap (λ (p : ℕ). placed so p (slice_index row k)) (are.each k lt ∙ result_place k lt)
      ∙ put_there so (place_of registers (start + k)) (start + k) (slice_index row k) still (subst (λ (o : Option ℕ). IsSome o) still (has k lt))
      ∙ sym (row_more f i registers row k)

  -- by their places results are put as by their numbers
  pub row_placed : (places row : List ℕ) → ArePlaces f registers i places → all_placed registers (placed_gives places row) ≡ with_row f i row registers
  row_placed places row are =
      ap (λ (n : ℕ). all_placed registers (first_placed places row n)) are.count ∙ part_placed places row are count (omega arith)

-- the place of an only result
pub one_place : (f : Program) (registers : Registers) (i place : ℕ) → place ≡ place_in f registers (record { instruction = i; result = 0 })
    → 1 ≡ result_count f.objects (step_at f i).work → ArePlaces f registers i (place ∷ [])
one_place f registers i place is one = record { count = one; each = λ k lt. at k (omega (arith, lt, one)) }
  where
    at : (k : ℕ) → k < 1 → slice_index (place ∷ []) k ≡ place_in f registers (record { instruction = i; result = k })
    at zero lt = is
    at (suc k) lt = absurd (omega (arith, lt))

-- ## What a turn gives

-- by its place each value is read as by its number
reads_by_place : (f : Program) (registers : Registers) → length registers.numbers < 2 ^ 32
    → (λ (v : ValueId). reads_at registers.numbers (place_name f registers v)) ≡ register_reads f registers
reads_by_place f registers few = λ k v. at_named registers.numbers (is_named f v) (place_of registers (number_of f v)) few k

renamed_write : (names : ValueId → ValueId) (work : Work) → is_write (renamed names work) ≡ is_write work
renamed_write names (put object keys values) = refl
renamed_write names _ = refl

-- whether a turn writes is told by its instruction
writes_alike : (f : Program) (registers : Registers) (t : PlannedStep) → IsResolved f registers t
    → is_write (step_at f t.instruction).work ≡ is_write (ready_work t.ready.kind)
writes_alike f registers t h = sym (renamed_write (place_name f registers) (step_at f t.instruction).work) ∙ sym (ap is_write h.work)

no_look : (work : Work) → is_write work ≡ true → is_look work ≡ false
no_look (put object keys values) e = refl
no_look (del object keys) e = refl
no_look _ e = absurd (true≢false (sym e))

-- a turn that writes looks nothing up
pub write_is_no_look : (f : Program) (registers : Registers) (t : PlannedStep) → IsResolved f registers t → is_write (ready_work t.ready.kind) ≡ true
    → is_look (step_at f t.instruction).work ≡ false
write_is_no_look f registers t h e = no_look (step_at f t.instruction).work (writes_alike f registers t h ∙ e)

-- a turn that doesn't write is computed by place
pub computed_turn : (f : Program) (split : List Part) (packet : Packet) (registers : Registers) (st : Store) (t : PlannedStep) (after : Registers) (told : List Update)
    → t.instruction < length f.code → HaveRegisters f t.instruction registers → IsResolved f registers t
    → is_write (ready_work t.ready.kind) ≡ false → length registers.numbers < 2 ^ 32
    → after ≡ all_placed registers (placed_gives (places_of t.ready.places) (results (reads_at registers.numbers) false st packet (ready_work t.ready.kind)))
    → IsStepTaken f split packet t.instruction registers st after st told told
computed_turn f split packet registers st t after told within has h writes few is =
    let i = t.instruction in
    let work = (step_at f i).work in
    let names : ValueId → ValueId = place_name f registers in
    let reads : Reading = register_reads f registers in
    let live = is_live f.blocks reads (step_at f i).block in
    let quiet : is_write work ≡ false = writes_alike f registers t h ∙ writes in
    let gives : results (reads_at registers.numbers) false st packet (ready_work t.ready.kind) ≡ row_of f packet i reads st =
    ap (λ (w : Work). results (reads_at registers.numbers) false st packet w) h.work
    ∙ renamed_results names (reads_at registers.numbers) false st packet work
    ∙ ap (λ (r : Reading). results r false st packet work) (reads_by_place f registers few)
    ∙ live_counts reads false live st packet work (λ e. absurd (true≢false (sym e ∙ quiet))) in
    let nothing : made live (change_of reads st work) ≡ [] = no_change reads live st work quiet in
    record {
      registers = is ∙ ap (λ (row : List ℕ). all_placed registers (placed_gives (places_of t.ready.places) row)) gives
          ∙ row_placed f i registers within has (places_of t.ready.places) (row_of f packet i reads st) h.places;
      store = sym (ap (λ (cs : List Change). with_changes st cs) nothing);
      told = sym (append-nil told) ∙ sym (ap (λ (cs : List Change). told ++ updates_of f split cs) nothing);
    }

-- ## Lists of steps

-- one turn of a list
pub turn_of_list : (f : Program) (registers : Registers) (items steps : List PlannedStep) (k : ℕ) (t : PlannedStep) → items ≡ steps → Each (IsResolved f registers) steps
    → k < length items → t ≡ get_or items k t → IsResolved f registers t
turn_of_list f registers items steps k t same each lt is =
    let low : k < length steps = omega (arith, lt, ap (λ (l : List PlannedStep). length l) same) in
    subst (IsResolved f registers) (sym (is ∙ ap (λ (l : List PlannedStep). get_or l k t) same)) (each_or (IsResolved f registers) steps k t each low)

-- and the one behind it
pub next_turn : (test : ℕ → Bool) (end : ℕ) (items steps : List PlannedStep) (k : ℕ) (t : PlannedStep) → items ≡ steps → AreListed test 0 end (instructions_of steps)
    → k < length items → t ≡ get_or items k t
    → IsNext test end t.instruction (at_or (instructions_of steps) (suc k) end) × (at_or (instructions_of steps) k end ≡ t.instruction)
next_turn test end items steps k t same h lt is =
    let low : k < length steps = omega (arith, lt, ap (λ (l : List PlannedStep). length l) same) in
    let place : PlannedStep → ℕ = λ u. u.instruction in
    let here : get_or (instructions_of steps) k 0 ≡ t.instruction =
    get_or-map place steps k t 0 low ∙ ap (λ (l : List PlannedStep). (get_or l k t).instruction) (sym same) ∙ ap place (sym is) in
    let n = next_at test end (instructions_of steps) (instructions_of steps) k refl h (omega (arith, low, length-map steps place)) in
    (subst (λ (i : ℕ). IsNext test end i (at_or (instructions_of steps) (suc k) end)) here n.0, n.1 ∙ here)

pub turns_count : (steps : List PlannedStep) → length (instructions_of steps) ≡ length steps
turns_count steps = length-map steps (λ (u : PlannedStep). u.instruction)

-- one turn more
pub more_turns : (test : ℕ → Bool) (f : Program) (registers : Registers) (i : ℕ) (steps after : List PlannedStep) (t : PlannedStep)
    → after ≡ steps ++ t ∷ [] → t.instruction ≡ i → test i ≡ true → IsResolved f registers t
    → AreListed test 0 i (instructions_of steps) × Each (IsResolved f registers) steps
    → AreListed test 0 (suc i) (instructions_of after) × Each (IsResolved f registers) after
more_turns test f registers i steps after t more at due resolved so =
    let place : PlannedStep → ℕ = λ u. u.instruction in
    let list : instructions_of steps ++ i ∷ [] ≡ instructions_of after =
    ap (λ (n : ℕ). instructions_of steps ++ n ∷ []) (sym at) ∙ sym (map-append place steps (t ∷ [])) ∙ ap (λ (l : List PlannedStep). instructions_of l) (sym more) in (
      subst (λ (ts : List ℕ). AreListed test 0 (suc i) ts) list (listed_more test 0 i (instructions_of steps) so.0 (omega arith) due),
      subst (Each (IsResolved f registers)) (sym more) (each_pushed (IsResolved f registers) steps t so.1 resolved),
    )
