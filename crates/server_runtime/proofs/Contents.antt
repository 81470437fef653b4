-- The numbers of values, by their own numbers.
use Rattle.std.proofs.Common.{◌≡◌, ◌+◌, ◌-◌, ◌<◌, ◌≤◌, ◌==◌, ◌&&◌, ◌||◌, ℕ, zero, suc, Bool, true, false, cond, List, [], ◌∷◌, length, get_or, nat_lt, slice_get, slice_index, Option, Some, None, refl, sym, ap, ◌∙◌, subst, arith, inl, inr}
use Rattle.std.specs.List.{filter, AllByRecursion as Each}
use Rattle.std.proofs.lemmas.Bool.{and_from, and_parts, cases_Bool, cases_eq, cases_lt, cond-true, cond-false, eq-eqb, lt-ltb, ltb-true, ne_eqb, or_left, or_right}
use Rattle.std.proofs.lemmas.List.{get_or_append_left, get_or-append_right, map-append}
use Rattle.std.proofs.lemmas.List.Folds.{list_any-append}
use Rattle.std.proofs.lemmas.Option.{slice_get-get_or, slice_get_within, none-some, same_Some}
use Rattle.packet_fields.specs.declared.packet.Packet.{Packet}
use Rattle.state_store.specs.Store.{Store}
use Rattle.flat_ir.specs.declared.program.ValueId.{ValueId}
use Rattle.flat_ir.specs.Blocks.{is_live, Reading}
use Rattle.flat_ir.specs.Kinds.{is_input}
use Rattle.flat_ir.specs.Laws.{Same}
use Rattle.flat_ir.specs.Program.{is_named, step_at, Program}
use Rattle.flat_ir.specs.Run.{do_step, Machine}
use Rattle.flat_ir.specs.WellFormed.{IsWellFormed}
use Rattle.split_model.specs.declared.split.Part.{Part}
use Rattle.split_model.specs.Layouts.{first_results, number_of, values_below, values_of}
use Rattle.split_model.specs.Passes.{served}
use Rattle.split_model.specs.Split.{is_server}
use Rattle.transfer_header.specs.Steps.{is_among, reading_after, Contents, LooksAtReadsAlone}
use Rattle.server_runtime.specs.Registers.{contents_of, number_by, reading_of}
use Rattle.server_runtime.specs.Running.{contents_at, row_of, server_steps}
use Rattle.server_runtime.specs.Spans.{is_taken, numbers_of, reads_at, values_at, values_kept, values_read}
use Rattle.server_runtime.proofs.Alike.{turned_alike, IsTurnedAlike}
use Rattle.server_runtime.proofs.Numbers.{below_suc, count_at, each_result, is_named_by, named_parts}
use Rattle.server_runtime.proofs.Spanned.{found, read_earlier, IsFound}
use Rattle.lemmas.proofs.Lists.{each_weaker}
use Rattle.transfer_header.proofs.Numbers.{get_or-first_results}
use Rattle.transfer_header.proofs.Laws.{values_have_their_numbers}

-- ## Which value has a number

-- a value by its number
pub record IsThere (f : Program) (n : ℕ) (v : ValueId) : Type 0 where
  pub named : is_named f v ≡ true
  pub number : number_of f v ≡ n

below_there : (f : Program) (k n : ℕ) (d : ValueId) → k ≤ length f.code → n < length (values_below f k) → IsThere f n (get_or (values_below f k) n d)
below_there f zero n d le lt = absurd (omega (arith, lt))
below_there f (suc k) n d le lt =
    let before = length (values_below f k) in
    elim (cases_lt n before) [
      | inl low ↦ (
          let e = get_or_append_left (values_below f k) (values_at f k) d n low in
          subst (IsThere f n) (sym e) (below_there f k n d (omega (arith, le)) low)
          )
      | inr high ↦ (
          let place : n - before < count_at f k = omega (arith, high, lt, below_suc f k) in
          let e = get_or-append_right (values_below f k) (values_at f k) before n d refl high ∙ get_or-first_results k (count_at f k) (n - before) d place in
          subst (IsThere f n) (sym e) (record {
            named = is_named_by f (record { instruction = k; result = n - before }) (omega (arith, le)) place;
            number = omega (arith, high);
          })
          )
    ]

pub there : (f : Program) (n : ℕ) (v : ValueId) → slice_get (values_of f) n ≡ Some v → IsThere f n v
there f n v e =
    let within = slice_get_within (values_of f) n v e in
    subst (IsThere f n) (same_Some (get_or (values_of f) n v) v (sym (slice_get-get_or (values_of f) n v within) ∙ e)) (below_there f (length f.code) n v (omega arith) within)

-- an instruction's value is among its values
pub among_results : (f : Program) (i c k : ℕ) → k < c → is_among (length (values_below f i) + k) (numbers_of f (first_results i c)) ≡ true
among_results f i zero k lt = absurd (omega (arith, lt))
among_results f i (suc c) k lt =
    let n = length (values_below f i) + k in
    let one : List ℕ = (length (values_below f i) + c) ∷ [] in
    let parts : is_among n (numbers_of f (first_results i (suc c))) ≡ (is_among n (numbers_of f (first_results i c)) || is_among n one) =
    ap (is_among n) (map-append (number_of f) (first_results i c) (record { instruction = i; result = c } ∷ [])) ∙ list_any-append (λ (x : ℕ). x == n) (numbers_of f (first_results i c)) one
    in
    elim (cases_eq k c) [
      | inl e ↦ parts ∙ or_right (is_among n (numbers_of f (first_results i c))) (is_among n one)
          (or_left ((length (values_below f i) + c) == n) false (eq-eqb (length (values_below f i) + c) n (omega (arith, e))))
      | inr ne ↦ parts ∙ or_left (is_among n (numbers_of f (first_results i c))) (is_among n one) (among_results f i c k (omega (arith, lt, ne)))
    ]

among_more : (f : Program) (v x : ValueId) (rest : List ValueId) → is_among (number_of f v) (numbers_of f rest) ≡ true → (b : Bool)
    → is_among (number_of f v) (numbers_of f (cond b (x ∷ rest) rest)) ≡ true
among_more f v x rest h true = or_right (number_of f x == number_of f v) (is_among (number_of f v) (numbers_of f rest)) h
among_more f v x rest h false = h

-- a value that passes a test is among those that do
pub among_filtered : (f : Program) (test : ValueId → Bool) (vs : List ValueId) (j : ℕ) (v : ValueId) → slice_get vs j ≡ Some v → test v ≡ true
    → is_among (number_of f v) (numbers_of f (filter test vs)) ≡ true
among_filtered f test [] j v e passes = absurd (cc)
among_filtered f test (x ∷ xs) zero v e passes =
    let same : x ≡ v = cc in
    subst (λ b. is_among (number_of f v) (numbers_of f (cond b (x ∷ filter test xs) (filter test xs))) ≡ true) (sym (ap test same ∙ passes))
    (or_left (number_of f x == number_of f v) (is_among (number_of f v) (numbers_of f (filter test xs))) (eq-eqb (number_of f x) (number_of f v) (ap (number_of f) same)))
among_filtered f test (x ∷ xs) (suc j) v e passes = among_more f v x (filter test xs) (among_filtered f test xs j v e passes) (test x)

-- each of a list's values is among them
pub each_among : (f : Program) (vs : List ValueId) → Each (λ v. is_among (number_of f v) (numbers_of f vs) ≡ true) vs
each_among f [] = tt
each_among f (v ∷ vs) = (
  or_left (number_of f v == number_of f v) (is_among (number_of f v) (numbers_of f vs)) (eq-eqb (number_of f v) (number_of f v) refl),
  each_weaker (λ w. is_among (number_of f w) (numbers_of f vs) ≡ true) (λ w. is_among (number_of f w) (numbers_of f (v ∷ vs)) ≡ true)
      (λ w e. or_right (number_of f v == number_of f w) (is_among (number_of f w) (numbers_of f vs)) e) vs (each_among f vs),
)

pub each_and : (P Q R : ValueId → Type 0) → ((v : ValueId) → P v → Q v → R v) → (vs : List ValueId) → Each P vs → Each Q vs → Each R vs
each_and P Q R go [] h k = tt
each_and P Q R go (v ∷ vs) h k = (go v h.0 k.0, each_and P Q R go vs h.1 k.1)

module _ (f : Program) where
  -- a reading by numbers is that reading
  pub reads_back : (reads : Reading) (v : ValueId) → is_named f v ≡ true → contents_of f reads (number_of f v) ≡ reads v
  reads_back reads v named = ap (number_by reads) (values_have_their_numbers f v named)

  pub reading_is : (contents : Contents) (v : ValueId) → is_named f v ≡ true → reading_of f contents v ≡ contents (number_of f v)
  reading_is contents v named = cond-true (is_named f v) (contents (number_of f v)) 0 named

  module _ (well : IsWellFormed f) (split : List Part) (up : Reading) (st : Store) (packet : Packet) where
    abbrev first : ℕ → ℕ
    first i = length (values_below f i)

    -- ## What a step looks at

    read_among : (i : ℕ) (n : ℕ) → is_taken f split i ≡ true → is_among n (numbers_of f (values_read f i)) ≡ true → reads_at f split (suc i) n ≡ true
    read_among i n taken among =
        or_left (is_taken f split i && is_among n (numbers_of f (values_read f i))) (i == length f.code && is_among n (numbers_of f (values_kept f split)))
        (and_from (is_taken f split i) (is_among n (numbers_of f (values_read f i))) taken among)

    -- contents that agree on what an instruction reads
    pub agree_read : (i : ℕ) (a b : Contents) → i < length f.code → is_taken f split i ≡ true → ((n : ℕ) → reads_at f split (suc i) n ≡ true → a n ≡ b n)
        → Each (Same (reading_of f a) (reading_of f b)) (values_read f i)
    agree_read i a b lt taken same =
        each_and (λ v. (is_named f v ≡ true) × (v.instruction < i)) (λ v. is_among (number_of f v) (numbers_of f (values_read f i)) ≡ true) (Same (reading_of f a) (reading_of f b))
        (λ v named among. reading_is a v named.0 ∙ same (number_of f v) (read_among i (number_of f v) taken among) ∙ sym (reading_is b v named.0))
        (values_read f i) (read_earlier f split well i lt) (each_among f (values_read f i))

    taken_within : (i : ℕ) → is_taken f split i ≡ true → i < length f.code
    taken_within i taken = ltb-true i (length f.code) (and_parts (nat_lt i (length f.code)) (is_input (step_at f i).work || is_server split i) taken).0

    pub looks_at_reads : LooksAtReadsAlone (server_steps f split up st packet)
    looks_at_reads zero a b same n = refl
    looks_at_reads (suc i) a b same n = by_test (is_taken f split i) refl
      where
        by_test : (t : Bool) → is_taken f split i ≡ t
            → cond t (slice_index (row_of f packet i (reading_of f a) (served f split up st packet i).store) (n - first i)) 0
            ≡ cond t (slice_index (row_of f packet i (reading_of f b) (served f split up st packet i).store) (n - first i)) 0
        by_test true taken =
            ap (λ row. slice_index row (n - first i))
            (turned_alike f packet (served f split up st packet i).store (reading_of f a) (reading_of f b) i
            (agree_read i a b (taken_within i taken) taken same)).row
        by_test false taken = refl

    -- ## What a step writes

    module _ (i : ℕ) (lt : i < length f.code) where
      abbrev m : Machine
      m = served f split up st packet i

      abbrev mine : Bool
      mine = is_input (step_at f i).work || is_server split i

      abbrev row : List ℕ
      row = row_of f packet i m.reads m.store

      abbrev next : Bool → Machine
      next b = cond b (do_step (is_live f.blocks m.reads (step_at f i).block) packet i (step_at f i).work m) m

      taken_is : is_taken f split i ≡ mine
      taken_is = ap (λ b. b && mine) (lt-ltb i (length f.code) lt)

      -- from the run's numbers by number the turn is that of the run
      by_numbers : IsTurnedAlike f packet i m.store (reading_of f (contents_at f split up st packet i)) m.reads
      by_numbers =
          turned_alike f packet m.store (reading_of f (contents_at f split up st packet i)) m.reads i
          (each_weaker (λ v. (is_named f v ≡ true) × (v.instruction < i)) (Same (reading_of f (contents_at f split up st packet i)) m.reads)
          (λ v named. reading_is (contents_at f split up st packet i) v named.0 ∙ reads_back m.reads v named.0)
          (values_read f i) (read_earlier f split well i lt))

      row_is : row_of f packet i (reading_of f (contents_at f split up st packet i)) m.store ≡ row
      row_is = by_numbers.row

      -- and from any numbers that agree with them on what is read
      pub turn_alike : (contents : Contents) → is_taken f split i ≡ true
          → ((n : ℕ) → reads_at f split (suc i) n ≡ true → contents n ≡ contents_at f split up st packet i n)
          → IsTurnedAlike f packet i m.store (reading_of f contents) m.reads
      turn_alike contents taken same =
          let there =
          turned_alike f packet m.store (reading_of f contents) (reading_of f (contents_at f split up st packet i)) i
          (agree_read i contents (contents_at f split up st packet i) lt taken same)
          in
          record {
            row = there.row ∙ by_numbers.row;
            changes = there.changes ∙ by_numbers.changes;
            store = there.store ∙ by_numbers.store;
          }

      -- a value's number behind the step
      abbrev given : Bool → ℕ → ℕ
      given b n = cond (is_among n (cond b (numbers_of f (values_at f i)) [])) (cond b (slice_index (row_of f packet i (reading_of f (contents_at f split up st packet i)) m.store) (n - first i)) 0) (contents_at f split up st packet i n)

      own : (n : ℕ) (v : ValueId) → number_of f v ≡ n → v.instruction ≡ i → n - first i ≡ v.result
      own n v number e = omega (arith, number, ap first e)

      among_own : (n : ℕ) (v : ValueId) → IsThere f n v → v.instruction ≡ i → is_among n (numbers_of f (values_at f i)) ≡ true
      among_own n v h e =
          let low : v.result < count_at f i = omega (arith, (named_parts f v h.named).1, ap (count_at f) e) in
          let at : first i + v.result ≡ n = omega (arith, h.number, ap first e) in
          subst (λ k. is_among k (numbers_of f (values_at f i)) ≡ true) at (among_results f i (count_at f i) v.result low)

      owned : (n : ℕ) → is_among n (numbers_of f (values_at f i)) ≡ true → IsFound f (λ v. (is_named f v ≡ true) × (v.instruction ≡ i)) n
      owned n = found f (λ v. (is_named f v ≡ true) × (v.instruction ≡ i)) n (values_at f i)
          (each_result (λ v. (is_named f v ≡ true) × (v.instruction ≡ i)) i (count_at f i) (λ r low. (is_named_by f (record { instruction = i; result = r }) lt low, refl)))

      own_among : (n : ℕ) (v : ValueId) → slice_get (values_of f) n ≡ Some v → is_among n (numbers_of f (values_at f i)) ≡ true → v.instruction ≡ i
      own_among n v e among =
          let h = owned n among in
          ap (λ (w : ValueId). w.instruction) (same_Some v h.value (sym e ∙ ap (slice_get (values_of f)) (sym h.number) ∙ values_have_their_numbers f h.value h.holds.0)) ∙ h.holds.1

      none_among : (n : ℕ) → slice_get (values_of f) n ≡ None → is_among n (numbers_of f (values_at f i)) ≡ false
      none_among n e = elim (cases_Bool (is_among n (numbers_of f (values_at f i)))) [
        | inl among ↦ (
            let h = owned n among in
            absurd (none-some _ (sym e ∙ ap (slice_get (values_of f)) (sym h.number) ∙ values_have_their_numbers f h.value h.holds.0))
            )
        | inr apart ↦ apart
      ]

      taken_given : is_taken f split i ≡ true → (n : ℕ) (o : Option ValueId) → slice_get (values_of f) n ≡ o → given true n ≡ number_by (next true).reads o
      taken_given taken n None e =
          cond-false (is_among n (numbers_of f (values_at f i))) _ _ (none_among n e) ∙ ap (number_by m.reads) e
      taken_given taken n (Some v) e = elim (cases_eq v.instruction i) [
        | inl same ↦ (
            cond-true (is_among n (numbers_of f (values_at f i))) _ _ (among_own n v (there f n v e) same)
            ∙ ap (λ r. slice_index r (n - first i)) row_is
            ∙ ap (slice_index row) (own n v (there f n v e).number same)
            ∙ sym (cond-true (v.instruction == i) (slice_index row v.result) (m.reads v) (eq-eqb v.instruction i same))
            )
        | inr other ↦ (
            cond-false (is_among n (numbers_of f (values_at f i))) _ _ (apart other)
            ∙ ap (number_by m.reads) e
            ∙ sym (cond-false (v.instruction == i) (slice_index row v.result) (m.reads v) (ne_eqb v.instruction i other))
            )
      ]
        where
          apart : (v.instruction ≡ i → ⊥) → is_among n (numbers_of f (values_at f i)) ≡ false
          apart other = elim (cases_Bool (is_among n (numbers_of f (values_at f i)))) [
            | inl among ↦ absurd (other (own_among n v e among))
            | inr out ↦ out
          ]

      any_given : (b : Bool) → is_taken f split i ≡ b → (n : ℕ) → given b n ≡ contents_of f (next b).reads n
      any_given true taken n = taken_given taken n (slice_get (values_of f) n) refl
      any_given false taken n = refl

      value_after : (n : ℕ) → reading_after (server_steps f split up st packet) (contents_at f split up st packet i) (suc i) n ≡ contents_at f split up st packet (suc i) n
      value_after n = any_given (is_taken f split i) refl n ∙ ap (λ b. contents_of f (next b).reads n) taken_is

      pub contents_after : reading_after (server_steps f split up st packet) (contents_at f split up st packet i) (suc i) ≡ contents_at f split up st packet (suc i)
      contents_after = λ p n. value_after n p
