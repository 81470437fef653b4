-- Between the steps that are due a run goes on with what it has.
use Rattle.std.proofs.Common.{◌≡◌, ◌+◌, ◌<◌, ◌≤◌, ◌||◌, ℕ, zero, suc, Bool, true, false, cond, max, List, [], ◌∷◌, ◌++◌, map, length, get_or, nat_lt, refl, sym, ap, ◌∙◌, subst, arith, add-one, inl, inr, true≢false, ⊎_elim}
use Rattle.std.specs.Prelude.{All, Contains}
use Rattle.std.proofs.lemmas.Bool.{and_parts, cases_Bool, cases_eq, cond-false, cond-true, ltb-false, ne_eqb}
use Rattle.std.proofs.lemmas.List.{append-nil, get_or_default}
use Rattle.std.proofs.lemmas.List.Elements.{All-append, All-map, All-nil}
use Rattle.std.proofs.Math.Nat.{eq-or-lt_of_le}
use Rattle.packet_fields.specs.declared.packet.Packet.{Packet}
use Rattle.state_store.specs.declared.object.ObjectDecl.{ObjectDecl}
use Rattle.state_store.specs.Store.{Store}
use Rattle.flat_ir.specs.declared.spans.Span.{Span}
use Rattle.flat_ir.specs.Blocks.{is_live, Reading}
use Rattle.flat_ir.specs.Kinds.{is_input}
use Rattle.flat_ir.specs.Program.{result_count, step_at, Program, Work}
use Rattle.flat_ir.specs.Program.Work.{const, field}
use Rattle.flat_ir.specs.Run.{change_of, do_step, made, with_changes, Change, Machine}
use Rattle.split_model.specs.declared.split.Part.{Part}
use Rattle.split_model.specs.Layouts.{first_results, values_below, values_of}
use Rattle.split_model.specs.Passes.{served}
use Rattle.split_model.specs.Split.{is_server}
use Rattle.transfer_header.specs.Registers.{Registers}
use Rattle.transfer_header.specs.Steps.{is_among, reading_after, AreSpansOf, Contents, IsReady, IsSpanOf, Steps}
use Rattle.writeback_table.specs.declared.command.Update.{Update}
use Rattle.server_runtime.specs.Running.{contents_at, number_at, server_steps}
use Rattle.server_runtime.specs.Serving.{updates_of}
use Rattle.server_runtime.specs.Spans.{is_taken, is_turn, last_read, numbers_of, server_spans, span_from, spans_below, values_at, writes_at}
use Rattle.server_runtime.specs.StepsTaken.{IsServing}
use Rattle.server_runtime.specs.Walks.{is_due, AreListed}
use Rattle.server_runtime.proofs.Numbers.{below_all}
use Rattle.split_model.proofs.Sights.{none_made}
use Rattle.flat_ir.specs.WellFormed.{IsWellFormed}
use Rattle.server_runtime.proofs.Contents.{contents_after}
use Rattle.server_runtime.proofs.Spanned.{are_spans}

-- ## Lists of numbers that pass a test

pub listed_more : (test : ℕ → Bool) (first n : ℕ) (ts : List ℕ) → AreListed test first n ts → first ≤ n → test n ≡ true → AreListed test first (suc n) (ts ++ n ∷ [])
listed_more test first n [] none le e = (le, omega arith, e, none, λ j low high. absurd (omega (arith, low, high)))
listed_more test first n (i ∷ rest) h le e =
    (h.0, omega (arith, h.1), h.2, h.3, listed_more test (suc i) n rest h.4 (omega (arith, h.1)) e)

pub listed_less : (test : ℕ → Bool) (first n : ℕ) (ts : List ℕ) → AreListed test first n ts → test n ≡ false → AreListed test first (suc n) ts
listed_less test first n [] none e =
    λ j low high. ⊎_elim (λ at. ap test at ∙ e) (λ less. none j low less) (eq-or-lt_of_le {n = j} {m = n} (omega (arith, high)))
listed_less test first n (i ∷ rest) h e = (h.0, omega (arith, h.1), h.2, h.3, listed_less test (suc i) n rest h.4 e)

-- the one of a list at a place, or the end
abbrev pub at_or : List ℕ → ℕ → ℕ → ℕ
at_or ts k end = get_or ts k end

-- none before the first of a list passes
pub before_first : (test : ℕ → Bool) (first end : ℕ) (ts : List ℕ) → AreListed test first end ts → (j : ℕ) → first ≤ j → j < at_or ts 0 end → test j ≡ false
before_first test first end [] h j low high = h j low high
before_first test first end (i ∷ rest) h j low high = h.3 j low high

pub first_within : (test : ℕ → Bool) (first end : ℕ) (ts : List ℕ) → first ≤ end → AreListed test first end ts → (first ≤ at_or ts 0 end) × (at_or ts 0 end ≤ end)
first_within test first end [] le h = (le, omega arith)
first_within test first end (i ∷ rest) le h = (h.0, omega (arith, h.1))

-- one of a list passes, and none behind it before the next one, or the end
pub record IsNext (test : ℕ → Bool) (end i next : ℕ) : Type 0 where
  pub within : i < end
  pub passes : test i ≡ true
  pub later : i < next
  pub ends : next ≤ end
  pub between : (j : ℕ) → suc i ≤ j → j < next → test j ≡ false

pub next_one : (test : ℕ → Bool) (first end : ℕ) (ts : List ℕ) → AreListed test first end ts → (k : ℕ) → k < length ts
    → IsNext test end (at_or ts k end) (at_or ts (suc k) end)
next_one test first end [] h k lt = absurd (omega (arith, lt))
next_one test first end (i ∷ rest) h zero lt =
    let w = first_within test (suc i) end rest (omega (arith, h.1)) h.4 in
    record {
      within = omega (arith, h.1);
      passes = h.2;
      later = omega (arith, w.0);
      ends = w.1;
      between = λ j low high. before_first test (suc i) end rest h.4 j low high;
    }
next_one test first end (i ∷ rest) h (suc k) lt = next_one test (suc i) end rest h.4 k (omega (arith, lt))

-- ## Steps that may be left out

-- a step that writes nothing that is read later
ready_idle : (steps : Steps) (spans : List Span) (registers : Registers) (contents : Contents) (step : ℕ) → AreSpansOf steps spans
    → IsReady spans registers contents step → ((span : Span) → Contains spans span → span.from ≡ step → span.to ≤ step)
    → IsReady spans registers (reading_after steps contents step) (step + 1)
ready_idle steps spans registers contents step are so idle = record {
  apart = so.apart;
  placed = so.placed;
  stands = λ span there begun ends. elim (cases_eq span.from step) [
    | inl now ↦ absurd (omega (arith, idle span there now, ends))
    | inr other ↦ (
        so.stands span there (omega (arith, begun, other)) (omega (arith, ends))
        ∙ sym (stays span.value (elim (cases_Bool (is_among span.value (steps.writes step))) [
          | inl now ↦ absurd (other (sym ((subst (IsSpanOf steps) there.2 (are.each there.0 span there.1)).once step now)))
          | inr not_now ↦ not_now
        ]))
        )
  ];
  zero = λ value none. stays value (elim (cases_Bool (is_among value (steps.writes step))) [
    | inl now ↦ absurd (omega (arith, none, are.written step value now))
    | inr not_now ↦ not_now
  ]) ∙ so.zero value none;
}
  where
    stays : (value : ℕ) → is_among value (steps.writes step) ≡ false → reading_after steps contents step value ≡ contents value
    stays value e = cond-false (is_among value (steps.writes step)) (steps.number step contents value) (contents value) e

ends_by : (f : Program) (split : List Part) (k : ℕ) → All (λ (s : Span). s.to ≡ max s.from (last_read f split s.value)) (spans_below f split k)
ends_by f split zero = All-nil (λ (s : Span). s.to ≡ max s.from (last_read f split s.value))
ends_by f split (suc k) =
    let ws = writes_at f split k in
    All-append (λ (s : Span). s.to ≡ max s.from (last_read f split s.value)) (spans_below f split k) (map (span_from f split k) ws) (ends_by f split k)
    (All-map (λ (s : Span). s.to ≡ max s.from (last_read f split s.value)) (span_from f split k) ws (λ i d lt. refl))

input_count : (objects : List ObjectDecl) (work : Work) → is_input work ≡ true → result_count objects work ≡ 1
input_count objects (const width number) e = refl
input_count objects (field name) e = refl
input_count objects _ e = absurd (true≢false (sym e))

-- a const or a field has a value, so the number of its first is one of the values'
pub input_low : (f : Program) (i : ℕ) → i < length f.code → is_input (step_at f i).work ≡ true → length (values_below f i) < length (values_of f)
input_low f i lt input = omega (arith, below_all f i lt, input_count f.objects (step_at f i).work input)

input_keeps : (reads : Reading) (live : Bool) (st : Store) (work : Work) → is_input work ≡ true → made live (change_of reads st work) ≡ []
input_keeps reads live st (const width number) e = none_made live
input_keeps reads live st (field name) e = none_made live
input_keeps reads live st _ e = absurd (true≢false (sym e))

-- the server evaluates what is due
pub due_turn : (f : Program) (split : List Part) (i : ℕ) → is_due f split i ≡ true → is_turn f split i ≡ true
due_turn f split i due = by_test (is_input (step_at f i).work) refl
  where
    by_test : (b : Bool) → is_input (step_at f i).work ≡ b → (is_input (step_at f i).work || is_server split i) ≡ true
    by_test true input = ap (λ b. b || is_server split i) input
    by_test false other =
        ap (λ b. b || is_server split i) other
        ∙ sym (cond-false (is_input (step_at f i).work) (nat_lt (suc i) (last_read f split (length (values_below f i)))) (is_server split i) other) ∙ due

module _ (f : Program) (split : List Part) (i : ℕ) (idle : is_due f split i ≡ false) where
  abbrev work : Work
  work = (step_at f i).work

  abbrev first : ℕ
  first = length (values_below f i)

  -- what the server evaluates though it isn't due is a const or a field
  idle_input : is_turn f split i ≡ true → is_input work ≡ true
  idle_input mine = elim (cases_Bool (is_input work)) [
    | inl input ↦ input
    | inr other ↦ absurd (true≢false (
        sym mine ∙ ap (λ b. b || is_server split i) other
        ∙ sym (cond-false (is_input work) (nat_lt (suc i) (last_read f split first)) (is_server split i) other) ∙ idle
        ))
  ]

  -- and no step behind its own reads it
  unread : is_input work ≡ true → last_read f split first ≤ suc i
  unread input =
      ltb-false (suc i) (last_read f split first)
      (sym (cond-true (is_input work) (nat_lt (suc i) (last_read f split first)) (is_server split i) input) ∙ idle)

  -- what it writes is its one value
  only : (n : ℕ) → is_input work ≡ true → is_among n (numbers_of f (values_at f i)) ≡ true → n ≡ first
  only n input e =
      let one : is_among n (numbers_of f (first_results i 1)) ≡ true =
      sym (ap (λ count. is_among n (numbers_of f (first_results i count))) (input_count f.objects work input)) ∙ e
      in
      elim (cases_eq (first + 0) n) [
        | inl same ↦ omega (arith, same)
        | inr other ↦ absurd (true≢false (sym one ∙ ap (λ b. b || false) (ne_eqb (first + 0) n other)))
      ]

  writes_idle : (n : ℕ) → is_among n (writes_at f split (suc i)) ≡ true → last_read f split n ≤ suc i
  writes_idle n e = by_test (is_taken f split i) refl e
    where
      by_test : (b : Bool) → is_taken f split i ≡ b → is_among n (cond b (numbers_of f (values_at f i)) []) ≡ true → last_read f split n ≤ suc i
      by_test true taken e =
          let input = idle_input (and_parts (nat_lt i (length f.code)) (is_turn f split i) taken).1 in
          omega (arith, unread input, ap (last_read f split) (only n input e))
      by_test false taken e = absurd (true≢false (sym e))

  span_idle : (steps : Steps) → steps.writes ≡ writes_at f split → AreSpansOf steps (server_spans f split)
      → (span : Span) → Contains (server_spans f split) span → span.from ≡ suc i → span.to ≤ suc i
  span_idle steps writes are span there now =
      let is = subst (IsSpanOf steps) there.2 (are.each there.0 span there.1) in
      let among : is_among span.value (writes_at f split (suc i)) ≡ true =
      sym (λ p. is_among span.value (writes p (now p))) ∙ is.first
      in
      let ends : span.to ≡ max span.from (last_read f split span.value) =
      subst (λ (s : Span). s.to ≡ max s.from (last_read f split s.value)) there.2 (ends_by f split (length f.code + 1) there.0 span there.1)
      in
      omega (arith, ends, now, writes_idle span.value among)

  module _ (up : Reading) (start : Store) (packet : Packet) where
    abbrev m : Machine
    m = served f split up start packet i

    abbrev more : List Change
    more = made (is_live f.blocks m.reads (step_at f i).block) (change_of m.reads m.store work)

    none : is_turn f split i ≡ true → more ≡ []
    none mine = input_keeps m.reads (is_live f.blocks m.reads (step_at f i).block) m.store work (idle_input mine)

    abbrev next : Bool → Machine
    next b = cond b (do_step (is_live f.blocks m.reads (step_at f i).block) packet i work m) m

    store_stays : (b : Bool) → is_turn f split i ≡ b → (next b).store ≡ m.store
    store_stays true mine = ap (λ cs. with_changes m.store cs) (none mine)
    store_stays false mine = refl

    changes_stay : (b : Bool) → is_turn f split i ≡ b → (next b).changes ≡ m.changes
    changes_stay true mine = ap (λ cs. m.changes ++ cs) (none mine) ∙ append-nil m.changes
    changes_stay false mine = refl

    pub serving_idle : (registers : Registers) (st : Store) (updates : List Update) → IsWellFormed f → i < length f.code
        → IsServing f split up start packet i registers st updates → IsServing f split up start packet (suc i) registers st updates
    serving_idle registers st updates well lt so =
        let steps = server_steps f split up start packet in
        let are = are_spans f split well (number_at f split up start packet) in
        record {
          ready = subst (λ contents. IsReady (server_spans f split) registers contents (suc i + 1)) (contents_after f well split up start packet i lt)
              (ready_idle steps (server_spans f split) registers (contents_at f split up start packet i) (suc i) are
              (subst (IsReady (server_spans f split) registers (contents_at f split up start packet i)) (add-one i) so.ready)
              (span_idle steps refl are));
          store = so.store ∙ sym (store_stays (is_turn f split i) refl);
          told = so.told ∙ ap (updates_of f split) (sym (changes_stay (is_turn f split i) refl));
        }

-- where no turn is due from one instruction to another
pub serving_later : (f : Program) (split : List Part) (up : Reading) (start : Store) (packet : Packet) (registers : Registers) (st : Store) (updates : List Update)
    → IsWellFormed f → (i n : ℕ) → i ≤ n → n ≤ length f.code → ((j : ℕ) → i ≤ j → j < n → is_due f split j ≡ false)
    → IsServing f split up start packet i registers st updates → IsServing f split up start packet n registers st updates
serving_later f split up start packet registers st updates well i zero le within idle so =
    let e : i ≡ 0 = omega (arith, le) in
    subst (λ k. IsServing f split up start packet k registers st updates) e so
serving_later f split up start packet registers st updates well i (suc n) le within idle so =
    ⊎_elim
    (λ e. subst (λ k. IsServing f split up start packet k registers st updates) e so)
    (λ less. serving_idle f split n (idle n (omega (arith, less)) (omega arith)) up start packet registers st updates well (omega (arith, within))
    (serving_later f split up start packet registers st updates well i n (omega (arith, less)) (omega (arith, within)) (λ j low high. idle j low (omega (arith, high))) so))
    (eq-or-lt_of_le {n = i} {m = suc n} le)

-- the same of a list's copy, where the default is another
pub next_at : (test : ℕ → Bool) (end : ℕ) (items ts : List ℕ) (k : ℕ) → items ≡ ts → AreListed test 0 end ts → k < length items
    → IsNext test end (get_or items k 0) (at_or ts (suc k) end) × (at_or ts k end ≡ get_or items k 0)
next_at test end items ts k same h lt =
    let low : k < length ts = omega (arith, lt, ap length same) in
    let is : at_or ts k end ≡ get_or items k 0 = get_or_default ts k end 0 low ∙ ap (λ (l : List ℕ). get_or l k 0) (sym same) in
    (subst (λ i. IsNext test end i (at_or ts (suc k) end)) is (next_one test 0 end ts h k low), is)
