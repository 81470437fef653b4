-- One turn of the server more.
use Rattle.std.proofs.Common.{◌≡◌, ◌+◌, ◌-◌, ◌≤◌, ◌<◌, ◌&&◌, ℕ, zero, suc, Bool, true, cond, List, [], ◌++◌, length, slice_index, sym, ap, subst, ◌∙◌, arith, add-one, ⊎_elim, length-append}
use Rattle.std.proofs.lemmas.Bool.{lt-ltb}
use Rattle.std.proofs.Math.Nat.{eq-or-lt_of_le}
use Rattle.packet_fields.specs.declared.packet.Packet.{Packet}
use Rattle.state_store.specs.Store.{Store}
use Rattle.flat_ir.specs.Blocks.{is_live, Reading}
use Rattle.flat_ir.specs.Program.{result_count, step_at, Program}
use Rattle.flat_ir.specs.Run.{do_step, Machine}
use Rattle.flat_ir.specs.Spans.{spans_of}
use Rattle.flat_ir.specs.Turns.{turn}
use Rattle.flat_ir.specs.WellFormed.{IsWellFormed}
use Rattle.split_model.specs.declared.split.Part.{Part}
use Rattle.split_model.specs.Counts.{count_below}
use Rattle.split_model.specs.Layouts.{values_below}
use Rattle.split_model.specs.Passes.{served}
use Rattle.transfer_header.specs.Registers.{content_of, HasRegister, Registers}
use Rattle.transfer_header.specs.Steps.{all_written, is_among, reading_after, registers_after, AreKeptApart, IsDoneAlike, IsReady}
use Rattle.writeback_table.specs.declared.command.Update.{Update}
use Rattle.server_runtime.specs.Registers.{register_reads, HaveRegisters}
use Rattle.server_runtime.specs.Running.{contents_at, number_at, row_of, server_steps}
use Rattle.server_runtime.specs.Serving.{followed_writes, is_followed, updates_of}
use Rattle.server_runtime.specs.Spans.{is_taken, is_turn, numbers_of, server_spans, values_at, writes_at}
use Rattle.server_runtime.specs.StepsTaken.{registers_behind, IsStepTaken, IsServing}
use Rattle.server_runtime.proofs.Alike.{IsTurnedAlike}
use Rattle.server_runtime.proofs.Contents.{among_results, contents_after, looks_at_reads, turn_alike}
use Rattle.server_runtime.proofs.Spanned.{are_spans}
use Rattle.transfer_header.proofs.Members.{has_span}
use Rattle.server_runtime.proofs.Told.{told_few, updates_append}
use Rattle.transfer_header.proofs.Laws.{a_step_in_registers}

count_mono : (test : ℕ → Bool) (i n : ℕ) → i ≤ n → count_below i test ≤ count_below n test
count_mono test i zero le = let e : i ≡ 0 = omega (arith, le) in rw e (omega arith)
count_mono test i (suc n) le =
    ⊎_elim (λ e. rw e (omega arith)) (λ less. omega (arith, count_mono test i n (omega (arith, less)))) (eq-or-lt_of_le {n = i} {m = suc n} le)

-- a step of the run is done alike in registers that are used again
pub done_alike : (f : Program) (split : List Part) (up : Reading) (start : Store) (packet : Packet) (i : ℕ) (registers : Registers) (st : Store)
    (updates : List Update) → IsWellFormed f → IsServing f split up start packet i registers st updates
    → IsDoneAlike (server_steps f split up start packet) (server_spans f split) registers (contents_at f split up start packet i) (suc i)
done_alike f split up start packet i registers st updates well so =
    let steps = server_steps f split up start packet in
    let spans = server_spans f split in
    let contents = contents_at f split up start packet i in
    subst (IsDoneAlike steps spans registers contents) (add-one i)
    (a_step_in_registers steps spans registers contents (i + 1) (looks_at_reads f well split up start packet)
    (are_spans f split well (number_at f split up start packet)) so.ready)

module _ (f : Program) (well : IsWellFormed f) (split : List Part) (up : Reading) (start : Store) (packet : Packet)
    (i : ℕ) (lt : i < length f.code) (registers : Registers) (st : Store) (updates : List Update)
    (so : IsServing f split up start packet i registers st updates)
  where
    alike : IsDoneAlike (server_steps f split up start packet) (server_spans f split) registers (contents_at f split up start packet i) (suc i)
    alike = done_alike f split up start packet i registers st updates well so

    abbrev m : Machine
    m = served f split up start packet i

    abbrev next : Bool → Machine
    next b = cond b (do_step (is_live f.blocks m.reads (step_at f i).block) packet i (step_at f i).work m) m

    taken_is : is_taken f split i ≡ is_turn f split i
    taken_is = ap (λ b. b && is_turn f split i) (lt-ltb i (length f.code) lt)

    -- from what the registers hold the turn is that of the run
    steps : is_turn f split i ≡ true → IsTurnedAlike f packet i m.store (register_reads f registers) m.reads
    steps mine =
        turn_alike f well split up start packet i lt (content_of registers) (taken_is ∙ mine) alike.reads

    -- the run's turn is the server's
    went : is_turn f split i ≡ true → next true ≡ next (is_turn f split i)
    went mine = ap next (sym mine)

    changes_by : is_turn f split i ≡ true
        → updates_of f split m.changes ++ updates_of f split (turn f packet i (register_reads f registers) st).changes ≡ updates_of f split (next (is_turn f split i)).changes
    changes_by mine =
        ap (λ cs. updates_of f split m.changes ++ updates_of f split cs) (ap (λ s. (turn f packet i (register_reads f registers) s).changes) so.store ∙ (steps mine).changes)
        ∙ sym (updates_append f split m.changes (turn f packet i m.reads m.store).changes) ∙ ap (λ (n : Machine). updates_of f split n.changes) (went mine)

    -- the registers behind the step
    abbrev behind : Bool → Registers
    behind b =
        all_written registers (cond b (numbers_of f (values_at f i)) [])
        (λ n. cond b (slice_index (row_of f packet i (register_reads f registers) m.store) (n - length (values_below f i))) 0)

    module _ (mine : is_turn f split i ≡ true) (after : Registers) (st' : Store) (updates' : List Update)
        (turned : IsStepTaken f split packet i registers st after st' updates updates') where
      after_is : registers_after (server_steps f split up start packet) registers (suc i) ≡ after
      after_is = ap behind (taken_is ∙ mine) ∙ ap (registers_behind f packet i registers) (sym so.store) ∙ sym turned.registers

      pub serving_more : IsServing f split up start packet (i + 1) after st' updates'
      serving_more =
          subst (λ n. IsServing f split up start packet n after st' updates') (sym (add-one i)) (record {
            ready = subst (λ contents. IsReady (server_spans f split) after contents (suc i + 1)) (contents_after f well split up start packet i lt)
                (subst (λ r. IsReady (server_spans f split) r (reading_after (server_steps f split up start packet) (contents_at f split up start packet i) (suc i)) (suc i + 1)) after_is alike.next);
            store = turned.store ∙ ap (λ s. (turn f packet i (register_reads f registers) s).store) so.store ∙ (steps mine).store ∙ ap (λ (n : Machine). n.store) (went mine);
            told = turned.told ∙ ap (λ l. l ++ updates_of f split (turn f packet i (register_reads f registers) st).changes) so.told ∙ changes_by mine;
          })

    -- there is room for what the switch is told
    pub room_for_turn : is_turn f split i ≡ true
        → length updates + length (updates_of f split (turn f packet i (register_reads f registers) st).changes) ≤ followed_writes f split
    room_for_turn mine =
        let more = updates_of f split (turn f packet i (register_reads f registers) st).changes in
        let all : length (updates_of f split m.changes ++ more) ≡ length (updates_of f split (served f split up start packet (i + 1)).changes) =
        ap length (changes_by mine) ∙ ap (λ n. length (updates_of f split (served f split up start packet n).changes)) (sym (add-one i))
        in
        omega (
          arith,
          length-append (updates_of f split m.changes) more,
          all,
          ap length so.told,
          told_few f split start packet up (i + 1),
          count_mono (λ j. is_followed f split (step_at f j).work) (i + 1) (length f.code) (omega (arith, lt)),
        )

-- the values of an instruction that the server evaluates have registers
pub have_registers : (f : Program) (split : List Part) (i : ℕ) (registers : Registers) → i < length f.code
    → ((step n : ℕ) → is_among n (writes_at f split step) ≡ true → spans_of (server_spans f split) n ≡ 1)
    → AreKeptApart (server_spans f split) registers → is_turn f split i ≡ true → HaveRegisters f i registers
have_registers f split i registers lt written kept mine place low =
    let n = length (values_below f i) + place in
    let taken : is_taken f split i ≡ true = ap (λ b. b && is_turn f split i) (lt-ltb i (length f.code) lt) ∙ mine in
    let among : is_among n (writes_at f split (suc i)) ≡ true =
    ap (λ (b : Bool). is_among n (cond b (numbers_of f (values_at f i)) [])) taken ∙ among_results f i (result_count f.objects (step_at f i).work) place low
    in
    let h = has_span (server_spans f split) n (omega (arith, written (suc i) n among)) in
    subst (HasRegister registers) h.same (kept.has h.span h.there)
