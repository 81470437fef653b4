-- The turns of a run, on registers.
use Rattle.std.proofs.Common.{◌≡◌, ℕ, zero, suc, ◌+◌, ◌<◌, Bool, false, List, [], ◌∷◌, ◌++◌, length, take, refl, sym, ap, ◌∙◌, subst, arith, get_or, slice_index, slice_set, ⊎_elim, if◌then◌else◌, ◌==◌, ◌%◌, ◌^◌}
use Rattle.std.proofs.lemmas.Bool.{cases_eq}
use Rattle.std.proofs.lemmas.List.{get_or-set_same, get_or-set_other, get_or-map, length-map}
use Rattle.packet_fields.specs.declared.packet.Packet.{Packet}
use Rattle.packet_fields.specs.declared.verdict.Verdict.TheVariants.{Drop, Send}
use Rattle.packet_fields.specs.Fields.{with_field}
use Rattle.state_store.specs.Store.{Store}
use Rattle.flat_ir.specs.declared.program.ValueId.{ValueId}
use Rattle.flat_ir.specs.declared.program.FieldValue.{FieldValue}
use Rattle.flat_ir.specs.declared.program.Instr.{Instr}
use Rattle.flat_ir.specs.declared.program.Flat.{Flat}
use Rattle.flat_ir.specs.declared.registers.Results.{Results}
use Rattle.flat_ir.specs.Program.{Program, Step, Work, step_at, step_of, program_of, operands}
use Rattle.flat_ir.specs.Program.Work.{const}
use Rattle.flat_ir.specs.Blocks.{Reading, line, is_live}
use Rattle.flat_ir.specs.Run.{Machine, after, do_step, results, with_results, made, change_of, with_changes, with_writes, verdict}
use Rattle.flat_ir.specs.WellFormed.{EachCondition}
use Rattle.flat_ir.specs.Registers.{results_of, reads_of}
use Rattle.flat_ir.specs.Turns.{StandAs, turn}
use Rattle.flat_ir.specs.Laws.{Same}
use Rattle.flat_ir.proofs.Readings.{same_for_operands, results_same, change_same, live_same, condition_all}
use Rattle.flat_ir.proofs.Runs.{set_own, set_other}
use Rattle.lemmas.proofs.Lists.{each_all}

-- an entry of the code is the instruction of its number
pub step_is : (f : Flat) (i : ℕ) (instr : Instr) (code : List Instr) → code ≡ f.code → i < length f.code → instr ≡ get_or code i instr → step_of instr ≡ step_at (program_of f) i
step_is f i instr code same lt is =
    let blank : Step = record { block = 0; looped = false; work = const 1 0 } in
    ap step_of (is ∙ ap (λ l. get_or l i instr) same) ∙ sym (get_or-map step_of f.code i instr blank lt)

pub within_code : (f : Flat) (i : ℕ) → i < length f.code → i < length (program_of f).code
within_code f i lt = omega (arith, lt, length-map f.code step_of)

-- the first part of a list
pub front : {X : Type 0} (n : ℕ) (xs ys : List X) → n ≡ length xs → take n (xs ++ ys) ≡ xs
front zero [] ys e = refl
front zero (x ∷ xs) ys e = absurd (omega (arith, e))
front (suc n) [] ys e = absurd (omega (arith, e))
front (suc n) (x ∷ xs) ys e = ap (λ l. x ∷ l) (front n xs ys (omega (arith, e)))

-- results that are set are read there, and the others are as before
pub row_set : (rows : List Results) (n : ℕ) (r : Results) (v : ValueId) → n < length rows → reads_of (slice_set rows n r) v ≡ with_results n (results_of r) (reads_of rows) v
row_set rows n r v lt =
    let none : Results = record { first = 0; others = [] } in
    ⊎_elim
    (λ e. ap (λ k. slice_index (results_of (get_or (slice_set rows n r) k none)) v.result) e ∙ ap (λ (x : Results). slice_index (results_of x) v.result) (get_or-set_same rows n r none lt) ∙ sym (set_own n (results_of r) (reads_of rows) v e))
    (λ ne. ap (λ (x : Results). slice_index (results_of x) v.result) (get_or-set_other rows n v.instruction r none ne) ∙ sym (set_other n (results_of r) (reads_of rows) v ne))
    (cases_eq v.instruction n)

pub with_same : (n : ℕ) (rs : List ℕ) (r r' : Reading) (v : ValueId) → r v ≡ r' v → with_results n rs r v ≡ with_results n rs r' v
with_same n rs r r' v e =
    ⊎_elim (λ same. set_own n rs r v same ∙ sym (set_own n rs r' v same)) (λ ne. set_other n rs r v ne ∙ e ∙ sym (set_other n rs r' v ne)) (cases_eq v.instruction n)

-- what an instruction gives and changes is its turn
pub turn_taken : (f : Program) (packet : Packet) (i : ℕ) (rows : List Results) (st st' : Store) (r : Results) (s : Step) → s ≡ step_at f i
    → results_of r ≡ results (reads_of rows) (is_live f.blocks (reads_of rows) s.block) st packet s.work
    → st' ≡ with_changes st (made (is_live f.blocks (reads_of rows) s.block) (change_of (reads_of rows) st s.work))
    → i < length rows → StandAs (turn f packet i (reads_of rows) st) (reads_of (slice_set rows i r)) st'
turn_taken f packet i rows st st' r s is gives leaves lt =
    let reads = reads_of rows in
    record {
      values = λ v. row_set rows i r v lt ∙ ap (λ rs. with_results i rs reads v) (gives ∙ ap (λ (t : Step). results reads (is_live f.blocks reads t.block) st packet t.work) is);
      store = leaves ∙ ap (λ (t : Step). with_changes st (made (is_live f.blocks reads t.block) (change_of reads st t.work))) is;
    }

module _ (f : Program) (packet : Packet) (m : Machine) (i : ℕ) where
  abbrev work : Work
  work = (step_at f i).work

  abbrev live_by : Reading → Bool
  live_by r = is_live f.blocks r (step_at f i).block

  step_done : (r : Reading) (st : Store) (r' : Reading) (st' : Store) → StandAs m r st → StandAs (turn f packet i r st) r' st' → StandAs (do_step (live_by m.reads) packet i work m) r' st'
  step_done r st r' st' so taken =
      let live : live_by r ≡ live_by m.reads = live_same f r m.reads (step_at f i).block (each_all (EachCondition f (Same r m.reads)) (condition_all f (Same r m.reads) so.values) (line f.blocks (step_at f i).block)) in
      let reads_same = same_for_operands r m.reads work (each_all (Same r m.reads) so.values (operands work)) in
      let res : results r (live_by r) st packet work ≡ results m.reads (live_by m.reads) m.store packet work = ap (λ l. results r l st packet work) live ∙ ap (λ s. results r (live_by m.reads) s packet work) so.store ∙ results_same r m.reads (live_by m.reads) m.store packet work reads_same in
      let changes : made (live_by r) (change_of r st work) ≡ made (live_by m.reads) (change_of m.reads m.store work) = ap (λ l. made l (change_of r st work)) live ∙ ap (λ s. made (live_by m.reads) (change_of r s work)) so.store ∙ ap (made (live_by m.reads)) (change_same r m.reads m.store work reads_same) in
      record {
        values = λ v. taken.values v ∙ ap (λ rs. with_results i rs r v) res ∙ with_same i (results m.reads (live_by m.reads) m.store packet work) r m.reads v (so.values v);
        store = taken.store ∙ ap (with_changes st) changes ∙ ap (λ s. with_changes s (made (live_by m.reads) (change_of m.reads m.store work))) so.store;
      }

-- one turn more
pub turn_more : (f : Program) (start : Store) (packet : Packet) (i : ℕ) (r : Reading) (st : Store) (r' : Reading) (st' : Store) → StandAs (after f start packet i) r st → StandAs (turn f packet i r st) r' st' → StandAs (after f start packet (i + 1)) r' st'
turn_more f start packet i r st r' st' so taken =
    let next : i + 1 ≡ suc i = omega arith in
    subst (λ n. StandAs (after f start packet n) r' st') (sym next) (step_done f packet (after f start packet i) i r st r' st' so taken)

-- ## The verdict hangs on the numbers alone

writes_same : (r r' : Reading) → ((v : ValueId) → r v ≡ r' v) → (ws : List FieldValue) (bytes : List ℕ) → with_writes ws r bytes ≡ with_writes ws r' bytes
writes_same r r' e [] bytes = refl
writes_same r r' e (w ∷ ws) bytes =
    writes_same r r' e ws (with_field bytes w.field (r w.value)) ∙ ap (λ n. with_writes ws r' (with_field bytes w.field n)) (e w.value)

pub verdict_same : (f : Program) (packet : Packet) (r r' : Reading) → ((v : ValueId) → r v ≡ r' v) → verdict f packet r ≡ verdict f packet r'
verdict_same f packet r r' e =
    ap (λ n. if n == 0 then Drop else Send (r f.port % 2 ^ 8) (with_writes f.fields r packet.bytes)) (e f.send)
    ∙ ap (λ n. if r' f.send == 0 then Drop else Send (n % 2 ^ 8) (with_writes f.fields r packet.bytes)) (e f.port)
    ∙ ap (λ bytes. if r' f.send == 0 then Drop else Send (r' f.port % 2 ^ 8) bytes) (writes_same r r' e f.fields packet.bytes)
