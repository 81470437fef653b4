-- The server's run hangs on the numbers that cross up alone, and on the run's own these numbers make it the run.
use Rattle.std.proofs.Common.{◌≡◌, ◌⊎◌, ℕ, zero, suc, ◌==◌, ◌<◌, ◌≤◌, Bool, true, false, not, ◌&&◌, ◌||◌, List, [], ◌++◌, length, is_some, refl, sym, ap, ◌∙◌, subst, arith, ⊎_elim, inl, inr, slice_index}
use Rattle.std.proofs.lemmas.Bool.{false≢true, true≢false, cases_Bool, cond-true, cond-false, and_from, and_parts, or_left, or_right, or_cases, or_parts, ne_eqb}
use Rattle.std.proofs.Math.Nat.{eq-or-lt_of_le}
use Rattle.std.proofs.lemmas.List.{append-nil}
use Rattle.std.specs.List.{AllByRecursion as Each, list_any}
use Rattle.packet_fields.specs.declared.packet.Packet.{Packet}
use Rattle.state_store.specs.Store.{Store}
use Rattle.flat_ir.specs.declared.program.ValueId.{ValueId}
use Rattle.flat_ir.specs.Program.{Program, Work, step_at, operands, is_named}
use Rattle.flat_ir.specs.Blocks.{Reading, block_at, is_live, line}
use Rattle.flat_ir.specs.Kinds.{is_write, is_input}
use Rattle.flat_ir.specs.Laws.{Same}
use Rattle.flat_ir.specs.Run.{Machine, after, flat_run, results, made, change_of, with_changes, with_results, do_step}
use Rattle.flat_ir.specs.WellFormed.{IsWellFormed, EachCondition}
use Rattle.flat_ir.specs.Guards.{is_condition}
use Rattle.split_model.specs.Crossing.{is_among, is_read_by, guards_write, crosses_up, crosses_down, is_written_value}
use Rattle.split_model.specs.declared.split.Part.{Part}
use Rattle.split_model.specs.declared.split.Slow.{Slow}
use Rattle.split_model.specs.declared.split.Slow.TheVariants.{Carried, Server, Post}
use Rattle.split_model.specs.Legal.{IsLegal}
use Rattle.split_model.specs.Passes.{served}
use Rattle.split_model.specs.Split.{part_at, is_carried, is_server, is_post, is_carried_up, is_served, stage_after}
use Rattle.split_model.proofs.Rules.{server_operands, write_conditions, writes_server}
use Rattle.split_model.proofs.Sights.{each_among, each_condition, conditions_both, no_change, live_counts, input_same}
use Rattle.flat_ir.proofs.AnyBelow.{any_passes}
use Rattle.flat_ir.proofs.Readings.{condition_weaker}
use Rattle.flat_ir.proofs.Runs.{set_own}
use Rattle.flat_ir.proofs.Laws.{a_run_goes_on-stays, lines_of_blocks-line, readings_that_agree-changes, readings_that_agree-live, readings_that_agree-operands, readings_that_agree-results}
use Rattle.lemmas.proofs.Lists.{each_both, each_weaker}

-- ## Small facts

-- one of three
slow_cases : (s : Slow) → is_some (stage_after s) ≡ false → (is_served s ≡ true) ⊎ (is_carried_up s ≡ true)
slow_cases Carried e = inr refl
slow_cases Server e = inl refl
slow_cases (Post stage) e = absurd (true≢false e)

not_served : (s : Slow) → is_carried_up s ≡ true → is_served s ≡ false
not_served Carried e = refl
not_served _ e = absurd (false≢true e)

neither : (a b : Bool) → not a ≡ true → b ≡ false → (a || b) ≡ false
neither true b na nb = absurd (false≢true na)
neither false b na nb = nb

-- whether it is live counts for a write alone
made_counts : (r : Reading) (live live' : Bool) (st : Store) (work : Work) → (is_write work ≡ true → live ≡ live') → made live (change_of r st work) ≡ made live' (change_of r st work)
made_counts r live live' st work e =
    ⊎_elim (λ write. ap (λ l. made l (change_of r st work)) (e write)) (λ none. no_change r live st work none ∙ sym (no_change r live' st work none)) (cases_Bool (is_write work))

pub set_other : (i : ℕ) (rs : List ℕ) (reads : Reading) (v : ValueId) → (v.instruction ≡ i → ⊥) → with_results i rs reads v ≡ reads v
set_other i rs reads v ne = cond-false (v.instruction == i) (slice_index rs v.result) (reads v) (ne_eqb v.instruction i ne)

-- the conditions of a block that is there, and of those above it, are named
named_line : (f : Program) (well : IsWellFormed f) (u k : ℕ) → k ≤ u → k ≤ length f.blocks → Each (EachCondition f (λ c. is_named f c ≡ true)) (line f.blocks k)
named_line f well u zero le there = (tt, tt)
named_line f well zero (suc k) le there = absurd (omega (arith, le))
named_line f well (suc u) (suc k) le there =
    let low : (block_at f.blocks k).parent ≤ k = well.parents k there in
    subst (Each (EachCondition f (λ c. is_named f c ≡ true))) (sym (lines_of_blocks-line f.blocks k well.parents)) (well.names_conditions k there, named_line f well u (block_at f.blocks k).parent (omega (arith, low, le)) (omega (arith, low, there)))

-- ## Runs that do the server's instructions

module _ (f : Program) (split : List Part) where
  abbrev work_at : ℕ → Work
  work_at i = (step_at f i).work

  abbrev block_of : ℕ → ℕ
  block_of i = (step_at f i).block

  -- the server computes the instruction
  abbrev pub is_done : ℕ → Bool
  is_done i = is_input (work_at i) || is_server split i

  -- what was handed up isn't computed
  pub handed_apart : (v : ValueId) → crosses_up f split v ≡ true → is_done v.instruction ≡ false
  handed_apart v e =
      let parts = and_parts (is_named f v && (is_carried split v.instruction && not (is_input (work_at v.instruction)))) (is_read_by f (is_server split) v || (guards_write f v || (crosses_down f split v || is_written_value f split v))) e in
      let there = and_parts (is_named f v) (is_carried split v.instruction && not (is_input (work_at v.instruction))) parts.0 in
      let own = and_parts (is_carried split v.instruction) (not (is_input (work_at v.instruction))) there.1 in
      neither (is_input (work_at v.instruction)) (is_server split v.instruction) own.1 (not_served (part_at split v.instruction).slow own.0)

  -- A run, of the server or of the whole program: it begins with the store, does each instruction that the server computes, and at each
  -- other one leaves the store, the changes, and the numbers of the values before it; it knows what crosses up.
  pub record IsRun (packet : Packet) (st : Store) (c : Reading) (m : ℕ → Machine) : Type 0 where
    pub store : (m 0).store ≡ st
    pub changes : (m 0).changes ≡ []
    pub done : (n : ℕ) → n < length f.code → is_done n ≡ true → m (suc n) ≡ do_step (is_live f.blocks (m n).reads (block_of n)) packet n (work_at n) (m n)
    pub skips_value : (n : ℕ) → n < length f.code → is_done n ≡ false → (v : ValueId) → v.instruction < n → (m (suc n)).reads v ≡ (m n).reads v
    pub skips_store : (n : ℕ) → n < length f.code → is_done n ≡ false → (m (suc n)).store ≡ (m n).store
    pub skips_changes : (n : ℕ) → n < length f.code → is_done n ≡ false → (m (suc n)).changes ≡ (m n).changes
    pub handed : (v : ValueId) → crosses_up f split v ≡ true → (n : ℕ) → n ≤ length f.code → v.instruction < n → (m n).reads v ≡ c v

  -- the server's run is one, whatever numbers it is handed
  module _ (packet : Packet) (st : Store) (c : Reading) where
    abbrev s : ℕ → Machine
    s = served f split c st packet

    abbrev next : ℕ → Machine
    next n = do_step (is_live f.blocks (s n).reads (block_of n)) packet n (work_at n) (s n)

    s_done : (n : ℕ) → is_done n ≡ true → s (suc n) ≡ next n
    s_done n e = cond-true (is_done n) (next n) (s n) e

    s_skips : (n : ℕ) → is_done n ≡ false → s (suc n) ≡ s n
    s_skips n e = cond-false (is_done n) (next n) (s n) e

    -- what was handed up stays
    handed_stays : (v : ValueId) → crosses_up f split v ≡ true → (n : ℕ) → (s n).reads v ≡ c v
    handed_stays v e zero = refl
    handed_stays v e (suc n) =
        ⊎_elim
        (λ done. ap (λ (k : Machine). k.reads v) (s_done n done) ∙ set_other n (results (s n).reads (is_live f.blocks (s n).reads (block_of n)) (s n).store packet (work_at n)) (s n).reads v (λ same. false≢true (sym (handed_apart v e) ∙ ap is_done same ∙ done)) ∙ handed_stays v e n)
        (λ skips. ap (λ (k : Machine). k.reads v) (s_skips n skips) ∙ handed_stays v e n)
        (cases_Bool (is_done n))

    pub server_does : IsRun packet st c (served f split c st packet)
    server_does = record {
      store = refl;
      changes = refl;
      done = λ n within e. s_done n e;
      skips_value = λ n within e v lt. ap (λ (k : Machine). k.reads v) (s_skips n e);
      skips_store = λ n within e. ap (λ (k : Machine). k.store) (s_skips n e);
      skips_changes = λ n within e. ap (λ (k : Machine). k.changes) (s_skips n e);
      handed = λ v e n le lt. handed_stays v e n;
    }

  module _ (legal : IsLegal f split) where
    not_write : (n : ℕ) → n < length f.code → is_server split n ≡ false → (b : Bool) → is_write (work_at n) ≡ b → b ≡ false
    not_write n within other true e = absurd (false≢true (sym other ∙ writes_server f split legal n within e))
    not_write n within other false e = refl

    -- what isn't the server's changes nothing
    pub quiet : (n : ℕ) → n < length f.code → is_server split n ≡ false → is_write (work_at n) ≡ false
    quiet n within other = not_write n within other (is_write (work_at n)) refl

    module _ (packet : Packet) (st : Store) where
      abbrev m : ℕ → Machine
      m = after f st packet

      abbrev live_m : ℕ → Bool
      live_m n = is_live f.blocks (m n).reads (block_of n)

      none_made : (n : ℕ) → n < length f.code → is_done n ≡ false → made (live_m n) (change_of (m n).reads (m n).store (work_at n)) ≡ []
      none_made n within e = no_change (m n).reads (live_m n) (m n).store (work_at n) (quiet n within (or_parts (is_input (work_at n)) (is_server split n) e).1)

      -- the run of the whole program is one, with its own numbers
      pub whole_does : IsRun packet st (flat_run f st packet).reads (after f st packet)
      whole_does = record {
        store = refl;
        changes = refl;
        done = λ n within e. refl;
        skips_value = λ n within e v lt. set_other n (results (m n).reads (live_m n) (m n).store packet (work_at n)) (m n).reads v (λ same. omega (arith, lt, same));
        skips_store = λ n within e. ap (with_changes (m n).store) (none_made n within e);
        skips_changes = λ n within e. ap (λ cs. (m n).changes ++ cs) (none_made n within e) ∙ append-nil (m n).changes;
        handed = λ v e n le lt. sym (a_run_goes_on-stays f st packet (length f.code) n v lt le);
      }

  -- ## Two such runs that know the same

  module _ (well : IsWellFormed f) (legal : IsLegal f split) (packet : Packet) (st : Store) (c c' : Reading) (m m' : ℕ → Machine) (does : IsRun packet st c m) (does' : IsRun packet st c' m') (alike : (v : ValueId) → crosses_up f split v ≡ true → c v ≡ c' v) where
    abbrev live_a : ℕ → Bool
    live_a n = is_live f.blocks (m n).reads (block_of n)

    abbrev live_b : ℕ → Bool
    live_b n = is_live f.blocks (m' n).reads (block_of n)

    -- so far they have the same numbers of all that the server computes
    abbrev Knows : ℕ → Type 0
    Knows n = (v : ValueId) → v.instruction < n → is_done v.instruction ≡ true → (m n).reads v ≡ (m' n).reads v

    -- and of each value that isn't post, and was handed up if it isn't computed
    knows : (n : ℕ) → n ≤ length f.code → Knows n → (v : ValueId) → v.instruction < n → is_post split v.instruction ≡ false → (is_carried split v.instruction ≡ true → is_input (work_at v.instruction) ≡ false → crosses_up f split v ≡ true) → Same (m n).reads (m' n).reads v
    knows n le so v lt not crosses =
        ⊎_elim
        (λ input. so v lt (or_left (is_input (work_at v.instruction)) (is_server split v.instruction) input))
        (λ other.
        ⊎_elim
        (λ server. so v lt (or_right (is_input (work_at v.instruction)) (is_server split v.instruction) server))
        (λ up. let across = crosses up other in does.handed v across n le lt ∙ alike v across ∙ sym (does'.handed v across n le lt))
        (slow_cases (part_at split v.instruction).slow not))
        (cases_Bool (is_input (work_at v.instruction)))

    -- a carried value, not of a const or a field, that is wanted crosses
    wanted : (v : ValueId) → is_named f v ≡ true → is_carried split v.instruction ≡ true → is_input (work_at v.instruction) ≡ false → (is_read_by f (is_server split) v || (guards_write f v || (crosses_down f split v || is_written_value f split v))) ≡ true → crosses_up f split v ≡ true
    wanted v named up other want =
        and_from (is_named f v && (is_carried split v.instruction && not (is_input (work_at v.instruction)))) (is_read_by f (is_server split) v || (guards_write f v || (crosses_down f split v || is_written_value f split v))) (and_from (is_named f v) (is_carried split v.instruction && not (is_input (work_at v.instruction))) named (and_from (is_carried split v.instruction) (not (is_input (work_at v.instruction))) up (ap not other))) want

    reads_wanted : (i : ℕ) → i < length f.code → is_server split i ≡ true → (v : ValueId) → is_among v (operands (work_at i)) ≡ true → is_read_by f (is_server split) v ≡ true
    reads_wanted i within server v among =
        any_passes (length f.code) (λ j. is_server split j && is_among v (operands (work_at j))) i within (and_from (is_server split i) (is_among v (operands (work_at i))) server among)

    guard_wanted : (i : ℕ) → i < length f.code → is_write (work_at i) ≡ true → (v : ValueId) → list_any (is_condition f v) (line f.blocks (block_of i)) ≡ true → guards_write f v ≡ true
    guard_wanted i within write v there =
        any_passes (length f.code) (λ j. is_write (work_at j) && list_any (is_condition f v) (line f.blocks (block_of j))) i within (and_from (is_write (work_at i)) (list_any (is_condition f v) (line f.blocks (block_of i))) write there)

    -- an instruction of the server reads the same numbers
    server_reads : (n : ℕ) → n < length f.code → Knows n → is_server split n ≡ true → Each (Same (m n).reads (m' n).reads) (operands (work_at n))
    server_reads n within so server =
        each_weaker (λ v. (v.instruction < n) × ((is_post split v.instruction ≡ false) × ((is_among v (operands (work_at n)) ≡ true) × (is_named f v ≡ true)))) (Same (m n).reads (m' n).reads)
        (λ v h. knows n (omega (arith, within)) so v h.0 h.1.0 (λ up other. wanted v h.1.1.1 up other (or_left (is_read_by f (is_server split) v) (guards_write f v || (crosses_down f split v || is_written_value f split v)) (reads_wanted n within server v h.1.1.0))))
        (operands (work_at n))
        (each_both (λ v. v.instruction < n) (λ v. (is_post split v.instruction ≡ false) × ((is_among v (operands (work_at n)) ≡ true) × (is_named f v ≡ true))) (operands (work_at n)) (well.after_operands n within) (each_both (λ v. is_post split v.instruction ≡ false) (λ v. (is_among v (operands (work_at n)) ≡ true) × (is_named f v ≡ true)) (operands (work_at n)) (server_operands f split legal n within server) (each_both (λ v. is_among v (operands (work_at n)) ≡ true) (λ v. is_named f v ≡ true) (operands (work_at n)) (each_among (operands (work_at n))) (well.names n within))))

    -- a write is live in both or in neither
    write_live : (n : ℕ) → n < length f.code → Knows n → is_write (work_at n) ≡ true → live_a n ≡ live_b n
    write_live n within so write =
        let ks = line f.blocks (block_of n) in
        readings_that_agree-live f (m n).reads (m' n).reads (block_of n)
        (each_weaker (λ k. EachCondition f (λ v. v.instruction < n) k × (EachCondition f (λ v. is_post split v.instruction ≡ false) k × (EachCondition f (λ v. list_any (is_condition f v) ks ≡ true) k × EachCondition f (λ v. is_named f v ≡ true) k))) (EachCondition f (Same (m n).reads (m' n).reads))
        (λ k h. condition_weaker f (λ v. (v.instruction < n) × ((is_post split v.instruction ≡ false) × ((list_any (is_condition f v) ks ≡ true) × (is_named f v ≡ true)))) (Same (m n).reads (m' n).reads)
        (λ v g. knows n (omega (arith, within)) so v g.0 g.1.0 (λ up other. wanted v g.1.1.1 up other (or_right (is_read_by f (is_server split) v) (guards_write f v || (crosses_down f split v || is_written_value f split v)) (or_left (guards_write f v) (crosses_down f split v || is_written_value f split v) (guard_wanted n within write v g.1.1.0)))))
        k (conditions_both f (λ v. v.instruction < n) (λ v. (is_post split v.instruction ≡ false) × ((list_any (is_condition f v) ks ≡ true) × (is_named f v ≡ true))) k h.0 (conditions_both f (λ v. is_post split v.instruction ≡ false) (λ v. (list_any (is_condition f v) ks ≡ true) × (is_named f v ≡ true)) k h.1.0 (conditions_both f (λ v. list_any (is_condition f v) ks ≡ true) (λ v. is_named f v ≡ true) k h.1.1.0 h.1.1.1))))
        ks
        (each_both (EachCondition f (λ v. v.instruction < n)) (λ k. EachCondition f (λ v. is_post split v.instruction ≡ false) k × (EachCondition f (λ v. list_any (is_condition f v) ks ≡ true) k × EachCondition f (λ v. is_named f v ≡ true) k)) ks (well.after_conditions n within)
        (each_both (EachCondition f (λ v. is_post split v.instruction ≡ false)) (λ k. EachCondition f (λ v. list_any (is_condition f v) ks ≡ true) k × EachCondition f (λ v. is_named f v ≡ true) k) ks (write_conditions f split legal n within write)
        (each_both (EachCondition f (λ v. list_any (is_condition f v) ks ≡ true)) (EachCondition f (λ v. is_named f v ≡ true)) ks (each_condition f ks) (named_line f well (block_of n) (block_of n) (omega arith) (well.blocks n within))))))

    abbrev pub Claim : ℕ → Type 0
    Claim n = Knows n × ((m n).store ≡ (m' n).store) × ((m n).changes ≡ (m' n).changes)

    -- the changes of an instruction that the server computes
    same_made : (n : ℕ) → n < length f.code → Claim n → is_done n ≡ true → made (live_a n) (change_of (m n).reads (m n).store (work_at n)) ≡ made (live_b n) (change_of (m' n).reads (m' n).store (work_at n))
    same_made n within so done =
        ⊎_elim
        (λ server.
        made_counts (m n).reads (live_a n) (live_b n) (m n).store (work_at n) (write_live n within so.0)
        ∙ ap (λ store. made (live_b n) (change_of (m n).reads store (work_at n))) so.1
        ∙ ap (made (live_b n)) (readings_that_agree-changes (m n).reads (m' n).reads (m' n).store (work_at n) (readings_that_agree-operands (m n).reads (m' n).reads (work_at n) (server_reads n within so.0 server))))
        (λ other. no_change (m n).reads (live_a n) (m n).store (work_at n) (quiet legal n within other) ∙ sym (no_change (m' n).reads (live_b n) (m' n).store (work_at n) (quiet legal n within other)))
        (cases_Bool (is_server split n))

    same_results : (n : ℕ) → n < length f.code → Claim n → is_done n ≡ true → results (m n).reads (live_a n) (m n).store packet (work_at n) ≡ results (m' n).reads (live_b n) (m' n).store packet (work_at n)
    same_results n within so done =
        ⊎_elim
        (λ input. input_same (m n).reads (m' n).reads (live_a n) (live_b n) (m n).store (m' n).store packet (work_at n) input)
        (λ server.
        live_counts (m n).reads (live_a n) (live_b n) (m n).store packet (work_at n) (write_live n within so.0)
        ∙ ap (λ store. results (m n).reads (live_b n) store packet (work_at n)) so.1
        ∙ readings_that_agree-results (m n).reads (m' n).reads (live_b n) (m' n).store packet (work_at n) (readings_that_agree-operands (m n).reads (m' n).reads (work_at n) (server_reads n within so.0 server)))
        (or_cases (is_input (work_at n)) (is_server split n) done)

    claim_done : (n : ℕ) → n < length f.code → Claim n → is_done n ≡ true → Claim (suc n)
    claim_done n within so done =
        let rs = results (m n).reads (live_a n) (m n).store packet (work_at n) in
        let rs' = results (m' n).reads (live_b n) (m' n).store packet (work_at n) in
        let made_a = made (live_a n) (change_of (m n).reads (m n).store (work_at n)) in
        let a = does.done n within done in
        let b = does'.done n within done in (
          λ v lt is.
              ap (λ (k : Machine). k.reads v) a
              ∙ ⊎_elim
              (λ e. set_own n rs (m n).reads v e ∙ ap (λ l. slice_index l v.result) (same_results n within so done) ∙ sym (set_own n rs' (m' n).reads v e))
              (λ less. set_other n rs (m n).reads v (λ e. omega (arith, less, e)) ∙ so.0 v less is ∙ sym (set_other n rs' (m' n).reads v (λ e. omega (arith, less, e))))
              (eq-or-lt_of_le {n = v.instruction} {m = n} (omega (arith, lt)))
              ∙ sym (ap (λ (k : Machine). k.reads v) b),
          ap (λ (k : Machine). k.store) a ∙ ap (λ store. with_changes store made_a) so.1 ∙ ap (with_changes (m' n).store) (same_made n within so done) ∙ sym (ap (λ (k : Machine). k.store) b),
          ap (λ (k : Machine). k.changes) a ∙ ap (λ cs. cs ++ made_a) so.2 ∙ ap (λ cs. (m' n).changes ++ cs) (same_made n within so done) ∙ sym (ap (λ (k : Machine). k.changes) b),
        )

    claim_skips : (n : ℕ) → n < length f.code → Claim n → is_done n ≡ false → Claim (suc n)
    claim_skips n within so skips = (
      λ v lt is.
          ⊎_elim
          (λ e. absurd (false≢true (sym skips ∙ ap is_done (sym e) ∙ is)))
          (λ less. does.skips_value n within skips v less ∙ so.0 v less is ∙ sym (does'.skips_value n within skips v less))
          (eq-or-lt_of_le {n = v.instruction} {m = n} (omega (arith, lt))),
      does.skips_store n within skips ∙ so.1 ∙ sym (does'.skips_store n within skips),
      does.skips_changes n within skips ∙ so.2 ∙ sym (does'.skips_changes n within skips),
    )

    pub claim : (n : ℕ) → n ≤ length f.code → Claim n
    claim zero le = (λ v lt is. absurd (omega (arith, lt)), does.store ∙ sym does'.store, does.changes ∙ sym does'.changes)
    claim (suc n) le =
        let so = claim n (omega (arith, le)) in
        ⊎_elim (λ done. claim_done n le so done) (λ skips. claim_skips n le so skips) (cases_Bool (is_done n))

    -- at the end they have the same numbers where values cross down or are set by the server
    pub knows_all : (v : ValueId) → v.instruction < length f.code → is_named f v ≡ true → is_post split v.instruction ≡ false → (crosses_down f split v || is_written_value f split v) ≡ true → Same (m (length f.code)).reads (m' (length f.code)).reads v
    knows_all v within named apart want =
        knows (length f.code) (omega arith) (claim (length f.code) (omega arith)).0 v within apart
        (λ up other. wanted v named up other (or_right (is_read_by f (is_server split) v) (guards_write f v || (crosses_down f split v || is_written_value f split v)) (or_right (guards_write f v) (crosses_down f split v || is_written_value f split v) want)))
