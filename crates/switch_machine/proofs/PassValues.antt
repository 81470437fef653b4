-- The values of a pass: what it reads and writes by the ranges of their numbers is what it reads and writes.
use Rattle.std.proofs.Common.{◌≡◌, ◌≢◌, ◌⊎◌, ℕ, zero, suc, ◌+◌, ◌-◌, ◌^◌, ◌==◌, ◌<◌, ◌≤◌, ◌&&◌, Bool, true, false, cond, List, [], ◌∷◌, ◌++◌, length, map, append_assoc, Some, refl, sym, ap, ◌∙◌, subst, inl, inr, arith}
use Rattle.std.specs.Prelude.{nat_le, Contains}
use Rattle.std.specs.List.{list_any, filter, range_with_len, AllByRecursion as Each}
use Rattle.std.proofs.lemmas.Bool.{cases_eq, cond_both, eq-eqb, ne_eqb, and_from, and_parts, or_left, or_right, or_cases, false_from_ne_true, le-leb}
use Rattle.std.proofs.lemmas.List.{map-append}
use Rattle.std.proofs.lemmas.List.Elements.{All-weaker, All-contains, filter-append}
use Rattle.std.proofs.lemmas.List.Folds.{list_any-append}
use Rattle.packet_fields.specs.declared.packet.Packet.{Packet}
use Rattle.state_store.specs.Store.{Store}
use Rattle.flat_ir.specs.declared.program.ValueId.{ValueId}
use Rattle.flat_ir.specs.declared.spans.Span.{Span}
use Rattle.flat_ir.specs.Blocks.{Reading}
use Rattle.flat_ir.specs.Program.{Work, operands}
use Rattle.flat_ir.specs.Program.Work.{look}
use Rattle.flat_ir.specs.Run.{results}
use Rattle.flat_ir.specs.Spans.{covers, last_step, spans_of}
use Rattle.split_model.specs.declared.layout.Crossing.{Crossing}
use Rattle.split_model.specs.Crossing.{is_value}
use Rattle.split_model.specs.Crossing.{is_among as is_among_values}
use Rattle.transfer_header.specs.Registers.{Registers, place_of, HasRegister}
use Rattle.transfer_header.specs.Steps.{Contents, Steps, is_among, AreKeptApart, AreSpansOf, IsSpanOf}
use Rattle.switch_ir.specs.declared.code.Table.{Table}
use Rattle.switch_ir.specs.Passes.{Step}
use Rattle.switch_ir.specs.Spans.{handed_in, is_read_at, is_read_last, pass_spans, results_in, results_of, writes_at, written_by, GoesByStages, Written}
use Rattle.switch_ir.specs.Spans.{steps_of as steps_by_values}
use Rattle.switch_ir.specs.Staged.{all_values, Staging}
use Rattle.switch_machine.specs.declared.numbering.ValueRange.{ValueRange}
use Rattle.switch_machine.specs.Keeping.{begins, kept, numbers_in}
use Rattle.switch_machine.specs.Numbers.{is_number, is_read, number_in, range_at, stage_reads, stage_writes, AreOnce, Pairs}
use Rattle.switch_machine.specs.Planned.{first_writes, steps_of, AreNumberedApart, FitRanges}
use Rattle.switch_machine.specs.Ranges.{crossing_entry, entries, step_entry, AreInOrder, AreOthers, AreRanges, Entry}
use Rattle.switch_machine.specs.Staged.{of_stage}
use Rattle.switch_machine.proofs.Members.{any_has, each_has, has_any, has_each, has_left, has_made, has_parts, has_right, made_has, of_contains, pairs_between, pairs_left, pairs_right, to_contains, to_pairs, Has, IsMade}
use Rattle.switch_machine.proofs.Numbered.{each_of_stage, is_the_number, same_one, same_value}
use Rattle.switch_machine.proofs.Ordered.{has_entry, has_number, numbered_apart, right_at, IsLast}
use Rattle.switch_machine.proofs.SettingUp.{last_up}
use Rattle.flat_ir.proofs.Exact.{value_same}
use Rattle.lemmas.proofs.Lists.{each_append, each_map, range_pushed}
use Rattle.switch_ir.proofs.Laws.{passes_have_spans}
use Rattle.switch_ir.proofs.Spanned.{written_at}
use Rattle.switch_ir.proofs.ApartValues.{written_append}
use Rattle.transfer_header.proofs.Members.{has_span, HasSpan}

some_results : (tables : List Table) (work : Work) → 0 < results_in tables work
some_results tables (look object keys) = omega arith
some_results tables work = omega arith

-- ## What instructions write

-- a value is an instruction's
pub record IsOf (tables : List Table) (s : Step) (w : Written) : Type 0 where
  pub instruction : w.value.instruction ≡ s.instruction
  pub result : w.value.result < results_in tables s.work
  pub number : w.number ≡ s.first + w.value.result
  pub stage : w.stage ≡ s.stage

-- the value of a result
abbrev pub value_at : Step → ℕ → Written
value_at s k = record { value = record { instruction = s.instruction; result = k }; number = s.first + k; stage = s.stage }

results_are : (tables : List Table) (s : Step) (k : ℕ) → k ≤ results_in tables s.work → Each (IsOf tables s) (results_of s k)
results_are tables s zero le = tt
results_are tables s (suc k) le =
    each_append (IsOf tables s) (results_of s k) (value_at s k ∷ []) (results_are tables s k (omega (arith, le)))
    (record { instruction = refl; result = omega (arith, le); number = refl; stage = refl }, tt)

has_result : (s : Step) (n k : ℕ) → k < n → Has (results_of s n) (value_at s k)
has_result s zero k lt = absurd (omega (arith, lt))
has_result s (suc n) k lt = elim (cases_eq k n) [
  | inl same ↦ has_right (results_of s n) (value_at s n ∷ []) (value_at s k) (inl (ap (value_at s) (sym same)))
  | inr other ↦ has_left (results_of s n) (value_at s n ∷ []) (value_at s k) (has_result s n k (omega (arith, lt, other)))
]

-- an instruction of which a value is
pub record IsWrittenBy (tables : List Table) (ss : List Step) (w : Written) : Type 0 where
  pub step : Step
  pub there : Has ss step
  pub is : IsOf tables step w

pub written_of : (tables : List Table) (ss : List Step) (w : Written) → Has (written_by tables ss) w → IsWrittenBy tables ss w
written_of tables [] w h = absurd h
written_of tables (s ∷ ss) w h =
    let n = results_in tables s.work in
    elim (has_parts (results_of s n) (written_by tables ss) w h) [
      | inl here ↦ record { step = s; there = inl refl; is = each_has (IsOf tables s) (results_of s n) (results_are tables s n (omega arith)) w here }
      | inr later ↦ (
          let b = written_of tables ss w later in
          record { step = b.step; there = inr b.there; is = b.is }
          )
    ]

pub has_written : (tables : List Table) (ss : List Step) (s : Step) (k : ℕ) → Has ss s → k < results_in tables s.work → Has (written_by tables ss) (value_at s k)
has_written tables [] s k h lt = absurd h
has_written tables (t ∷ ss) s k (inl same) lt =
    has_left (results_of t (results_in tables t.work)) (written_by tables ss) (value_at s k)
    (subst (λ u. Has (results_of u (results_in tables u.work)) (value_at s k)) (sym same) (has_result s (results_in tables s.work) k lt))
has_written tables (t ∷ ss) s k (inr later) lt =
    has_right (results_of t (results_in tables t.work)) (written_by tables ss) (value_at s k) (has_written tables ss s k later lt)

-- ## No instruction stands twice

abbrev Apart : Written → Written → Type 0
Apart a b = a.number ≢ b.number

abbrev Differ : Step → Step → Type 0
Differ s other = s.instruction ≢ other.instruction

-- of two instructions that are one the first values have one number
abbrev OneFirst : List Step → Type 0
OneFirst ss = (s other : Step) → Has ss s → Has ss other → s.instruction ≡ other.instruction → s.first ≡ other.first

pub once_of : (tables : List Table) (ss : List Step) → Pairs Apart (written_by tables ss) → OneFirst ss → AreOnce ss
once_of tables [] pairs one = tt
once_of tables (s ∷ ss) pairs one = (
  has_each (λ (other : Step). s.instruction ≢ other.instruction) ss (λ other h same.
      pairs_between Apart (results_of s (results_in tables s.work)) (written_by tables ss) pairs (value_at s 0) (value_at other 0)
      (has_result s (results_in tables s.work) 0 (some_results tables s.work)) (has_written tables ss other 0 h (some_results tables other.work))
      (ap (λ n. n + 0) (one s other (inl refl) (inr h) same))),
  once_of tables ss (pairs_right Apart (results_of s (results_in tables s.work)) (written_by tables ss) pairs) (λ a b here there. one a b (inr here) (inr there)),
)

pub same_step : (ss : List Step) → AreOnce ss → (s other : Step) → Has ss s → Has ss other → s.instruction ≡ other.instruction → s ≡ other
same_step [] once s other here there is = absurd here
same_step (t ∷ ss) once s other (inl a) (inl b) is = sym a ∙ b
same_step (t ∷ ss) once s other (inl a) (inr b) is =
    absurd (each_has (λ (o : Step). t.instruction ≢ o.instruction) ss once.0 other b (ap (λ (u : Step). u.instruction) a ∙ is))
same_step (t ∷ ss) once s other (inr a) (inl b) is =
    absurd (each_has (λ (o : Step). t.instruction ≢ o.instruction) ss once.0 s a (ap (λ (u : Step). u.instruction) b ∙ sym is))
same_step (t ∷ ss) once s other (inr a) (inr b) is = same_step ss once.1 s other a b is

-- ## What a stage writes

-- no number is among two lists of values whose numbers are apart
fresh : (xs ys : List Written) → Pairs Apart (xs ++ ys) → (t n : ℕ) → is_among n (writes_at xs t) ≡ true → is_among n (writes_at ys t) ≡ false
fresh xs ys pairs t n e = false_from_ne_true (is_among n (writes_at ys t)) (λ there.
    let a = written_at xs t n e in
    let b = written_at ys t n there in
    pairs_between Apart xs ys pairs a.w b.w (of_contains xs a.w a.there) (of_contains ys b.w b.there) (a.same ∙ sym b.same))

writes_two : (t : ℕ) (xs ys : List Written) → writes_at (xs ++ ys) t ≡ writes_at xs t ++ writes_at ys t
writes_two t xs ys =
    let test : Written → Bool = λ w. w.stage == t in
    ap (map (λ (w : Written). w.number)) (filter-append test xs ys) ∙ map-append (λ (w : Written). w.number) (filter test xs) (filter test ys)

-- those of an instruction, if it is of the stage
one_later : (b : Bool) (s : Step) (n : ℕ)
    → cond b (range_with_len s.first n) [] ++ map (λ (w : Written). w.number) (cond b (value_at s n ∷ []) []) ≡ cond b (range_with_len s.first (suc n)) []
one_later true s n = sym (range_pushed s.first n)
one_later false s n = refl

results_at : (s : Step) (t n : ℕ) → writes_at (results_of s n) t ≡ cond (s.stage == t) (range_with_len s.first n) []
results_at s t zero = cond_both (s.stage == t) [] [] (λ (ns : List ℕ). [] ≡ ns) (λ here. refl) (λ other. refl)
results_at s t (suc n) = rw (writes_two t (results_of s n) (value_at s n ∷ []), results_at s t n) (one_later (s.stage == t) s n)

-- what is handed is written at first, and nothing of it later
handed_at : (handed : List Crossing) → writes_at (handed_in handed) 0 ≡ numbers_in handed
handed_at [] = refl
handed_at (c ∷ cs) = ap (λ (ns : List ℕ). c.number ∷ ns) (handed_at cs)

none_later : (ws : List Written) (t : ℕ) → Each (λ (w : Written). w.stage ≡ 0) ws → writes_at ws (suc t) ≡ []
none_later [] t first = refl
none_later (w ∷ ws) t first =
    let rest = filter (λ (u : Written). u.stage == suc t) ws in
    ap (λ b. map (λ (u : Written). u.number) (cond b (w ∷ rest) rest)) (ne_eqb w.stage (suc t) (λ e. omega (arith, e, first.0)))
    ∙ none_later ws t first.1

-- ## A pass

-- the values of a pass stand in order, each with its number and its stage, and these are the ranges of their numbers
pub record IsRanged (p : Staging) (ranges : List ValueRange) : Type 0 where
  pub order : AreInOrder (all_values p)
  pub small : (w : Written) → Contains (all_values p) w → suc w.number < 2 ^ 32
  pub stages : GoesByStages (all_values p) p.code
  pub others : AreOthers p.handed (p.code.given ++ p.code.steps)
  pub are : AreRanges (entries p.tables p.handed p.code) ranges

-- the spans of its values
abbrev pub its_spans : Staging → List Span
its_spans p = pass_spans p.tables p.handed p.layout p.code

module _ (p : Staging) (ranges : List ValueRange) (ranged : IsRanged p ranges) where
  abbrev had : List Written
  had = all_values p

  abbrev computed : List Written
  computed = written_by p.tables p.code.given ++ written_by p.tables p.code.steps

  abbrev all_steps : List Step
  all_steps = p.code.given ++ p.code.steps

  pairs : Pairs Apart had
  pairs = to_pairs Apart had ranged.stages.apart

  -- the values that it begins with
  abbrev front : List Written
  front = handed_in p.handed ++ written_by p.tables p.code.given

  had_is : had ≡ front ++ written_by p.tables p.code.steps
  had_is = sym (append_assoc (handed_in p.handed) (written_by p.tables p.code.given) (written_by p.tables p.code.steps))

  abbrev handed_value : Crossing → Written
  handed_value c = record { value = c.value; number = c.number; stage = 0 }

  has_handed : (c : Crossing) → Has p.handed c → Has had (handed_value c)
  has_handed c h = has_left (handed_in p.handed) computed (handed_value c) (made_has handed_value p.handed c h)

  all_computed : written_by p.tables all_steps ≡ computed
  all_computed = written_append p.tables p.code.given p.code.steps

  has_all : (s : Step) (k : ℕ) → Has all_steps s → k < results_in p.tables s.work → Has had (value_at s k)
  has_all s k h lt =
      has_right (handed_in p.handed) computed (value_at s k) (subst (λ (ws : List Written). Has ws (value_at s k)) all_computed (has_written p.tables all_steps s k h lt))

  -- a value is handed in, or of an instruction
  had_cases : (w : Written) → Has had w → IsMade handed_value p.handed w ⊎ IsWrittenBy p.tables all_steps w
  had_cases w h = elim (has_parts (handed_in p.handed) computed w h) [
    | inl there ↦ inl (has_made handed_value p.handed w there)
    | inr there ↦ inr (written_of p.tables all_steps w (subst (λ (ws : List Written). Has ws w) (sym all_computed) there))
  ]

  -- a value that it begins with is there at first, and others are of its instructions
  pub first_at : (w : Written) → Has front w → w.stage ≡ 0
  first_at w h = elim (has_parts (handed_in p.handed) (written_by p.tables p.code.given) w h) [
    | inl there ↦ (
        let m = has_made handed_value p.handed w there in
        sym (ap (λ (x : Written). x.stage) m.is)
        )
    | inr there ↦ (
        let b = written_of p.tables p.code.given w there in
        b.is.stage ∙ each_has (λ (s : Step). s.stage ≡ 0) p.code.given ranged.stages.given b.step b.there
        )
  ]

  pub had_parts : (w : Written) → Has had w → Has front w ⊎ IsWrittenBy p.tables p.code.steps w
  had_parts w h = elim (has_parts front (written_by p.tables p.code.steps) w (subst (λ (ws : List Written). Has ws w) had_is h)) [
    | inl there ↦ inl there
    | inr there ↦ inr (written_of p.tables p.code.steps w there)
  ]

  one_first : OneFirst all_steps
  one_first s other here there same =
      omega (
        arith,
        ranged.order.same (value_at s 0) (value_at other 0)
            (to_contains had (value_at s 0) (has_all s 0 here (some_results p.tables s.work)))
            (to_contains had (value_at other 0) (has_all other 0 there (some_results p.tables other.work))) same,
      )

  all_once : AreOnce all_steps
  all_once = once_of p.tables all_steps (subst (Pairs Apart) (sym all_computed) (pairs_right Apart (handed_in p.handed) computed pairs)) one_first

  pub once : AreOnce p.code.steps
  once = pairs_right Differ p.code.given p.code.steps all_once

  pub given_once : AreOnce p.code.given
  given_once = pairs_left Differ p.code.given p.code.steps all_once

  -- ---- entries
  crossing_right : (c : Crossing) → Has p.handed c → IsLast had ranged.order ranged.small c.value.instruction (c.number - c.value.result) (suc c.value.result)
  crossing_right c h =
      let there = to_contains had (handed_value c) (has_handed c h) in
      record {
        value = handed_value c;
        there = there;
        instruction = refl;
        count_is = refl;
        number_is = omega (arith, ranged.order.within (handed_value c) there);
      }

  step_right : (s : Step) → Has all_steps s → IsLast had ranged.order ranged.small s.instruction s.first (results_in p.tables s.work)
  step_right s h =
      let n = results_in p.tables s.work in
      let some = some_results p.tables s.work in
      record {
        value = value_at s (n - 1);
        there = to_contains had (value_at s (n - 1)) (has_all s (n - 1) h (omega (arith, some)));
        instruction = refl;
        count_is = omega (arith, some);
        number_is = refl;
      }

  abbrev IsEntry : Entry → Type 0
  IsEntry e = IsLast had ranged.order ranged.small e.instruction e.first e.count

  steps_are : map (step_entry p.tables) all_steps ≡ map (step_entry p.tables) p.code.given ++ map (step_entry p.tables) p.code.steps
  steps_are = map-append (step_entry p.tables) p.code.given p.code.steps

  all_right : Each IsEntry (entries p.tables p.handed p.code)
  all_right =
      each_append IsEntry (map crossing_entry p.handed) (map (step_entry p.tables) p.code.given ++ map (step_entry p.tables) p.code.steps)
      (each_map IsEntry crossing_entry p.handed (has_each (λ c. IsEntry (crossing_entry c)) p.handed crossing_right))
      (subst (Each IsEntry) steps_are (each_map IsEntry (step_entry p.tables) all_steps (has_each (λ s. IsEntry (step_entry p.tables s)) all_steps step_right)))

  pub apart : AreNumberedApart ranges
  apart = numbered_apart had ranged.order ranged.small (entries p.tables p.handed p.code) all_right ranges ranged.are

  -- each range has room for the values of an entry
  enough : (e : Entry) → Has (entries p.tables p.handed p.code) e → e.count ≤ (range_at ranges e.instruction).count
  enough = has_entry had ranged.order ranged.small (entries p.tables p.handed p.code) all_right ranges ranged.are

  enough_handed : (c : Crossing) → Has p.handed c → c.value.result < (range_at ranges c.value.instruction).count
  enough_handed c h =
      omega (
        arith,
        enough (crossing_entry c) (has_left (map crossing_entry p.handed) (map (step_entry p.tables) p.code.given ++ map (step_entry p.tables) p.code.steps)
            (crossing_entry c) (made_has crossing_entry p.handed c h)),
      )

  enough_step : (s : Step) → Has all_steps s → results_in p.tables s.work ≤ (range_at ranges s.instruction).count
  enough_step s h =
      enough (step_entry p.tables s) (has_right (map crossing_entry p.handed) (map (step_entry p.tables) p.code.given ++ map (step_entry p.tables) p.code.steps) (step_entry p.tables s)
      (subst (λ (es : List Entry). Has es (step_entry p.tables s)) steps_are (made_has (step_entry p.tables) all_steps s h)))

  -- the range of an instruction has just its values
  pub range_is : (s : Step) → Has all_steps s → ((range_at ranges s.instruction).count ≡ results_in p.tables s.work) × ((range_at ranges s.instruction).first ≡ s.first)
  range_is s h = elim (right_at had ranged.order ranged.small (entries p.tables p.handed p.code) all_right ranges ranged.are s.instruction) [
    | inl none ↦ absurd (omega (arith, none, enough_step s h, some_results p.tables s.work))
    | inr last ↦ elim (had_cases last.value (of_contains had last.value last.there)) [
      | inl m ↦ absurd (each_has (λ (u : Step). m.from.value.instruction ≢ u.instruction) all_steps
          (each_has (λ (c : Crossing). Each (λ (u : Step). c.value.instruction ≢ u.instruction) all_steps) p.handed ranged.others m.from m.there) s h
          (ap (λ (w : Written). w.value.instruction) m.is ∙ last.instruction))
      | inr b ↦ (
          let same : b.step ≡ s = same_step all_steps all_once b.step s b.there h (sym b.is.instruction ∙ last.instruction) in (
            omega (arith, enough_step s h, last.count_is, b.is.result, ap (λ (u : Step). results_in p.tables u.work) same),
            omega (arith, last.number_is, b.is.number, ap (λ (u : Step). u.first) same),
          )
          )
    ]
  ]

  -- each value has its number
  pub has_its_number : (w : Written) → Has had w → number_in ranges w.value ≡ Some w.number
  has_its_number w h =
      has_number had ranged.order ranged.small (entries p.tables p.handed p.code) all_right ranges ranged.are w (to_contains had w h) (elim (had_cases w h) [
        | inl m ↦ subst (λ (u : Written). u.value.result < (range_at ranges u.value.instruction).count) m.is (enough_handed m.from m.there)
        | inr b ↦ omega (arith, b.is.result, (range_is b.step b.there).0, ap (λ i. (range_at ranges i).count) b.is.instruction)
      ])

  pub same_by_number : (w : Written) → Has had w → (v : ValueId) → number_in ranges v ≡ Some w.number → w.value ≡ v
  same_by_number w h v is = value_same w.value v (same_one ranges apart w.value v w.number (has_its_number w h) is)

  pub handed_known : Each (λ (c : Crossing). number_in ranges c.value ≡ Some c.number) p.handed
  handed_known = has_each (λ (c : Crossing). number_in ranges c.value ≡ Some c.number) p.handed (λ c h. has_its_number (handed_value c) (has_handed c h))

  fits : (ss : List Step) → ((s : Step) → Has ss s → Has all_steps s) → (seen : Store) (packet : Packet)
      → ((reads : Reading) (s : Step) → length (results reads false seen packet s.work) ≤ results_in p.tables s.work) → FitRanges ranges ss seen packet
  fits ss among seen packet few reads =
      has_each (λ (s : Step). length (results reads false seen packet s.work) ≤ (range_at ranges s.instruction).count) ss
      (λ s h. omega (arith, few reads s, (range_is s (among s h)).0))

  pub steps_fit : (seen : Store) (packet : Packet) → ((reads : Reading) (s : Step) → length (results reads false seen packet s.work) ≤ results_in p.tables s.work)
      → FitRanges ranges p.code.steps seen packet
  steps_fit = fits p.code.steps (has_right p.code.given p.code.steps)

  pub given_fit : (packet : Packet) → ((reads : Reading) (s : Step) → length (results reads false [] packet s.work) ≤ results_in p.tables s.work)
      → FitRanges ranges p.code.given [] packet
  given_fit = fits p.code.given (has_left p.code.given p.code.steps) []

  -- ---- writes
  -- by ranges a stage writes what its values are
  stage_is : (ss : List Step) → ((s : Step) → Has ss s → Has all_steps s) → (t : ℕ) → writes_at (written_by p.tables ss) t ≡ stage_writes ranges (of_stage t ss)
  stage_is [] among t = refl
  stage_is (s ∷ ss) among t =
      rw (writes_two t (results_of s n) (written_by p.tables ss), stage_is ss (λ u h. among u (inr h)) t, results_at s t n) (one (s.stage == t))
    where
      n : ℕ
      n = results_in p.tables s.work

      one : (b : Bool) → cond b (range_with_len s.first n) [] ++ stage_writes ranges (of_stage t ss) ≡ stage_writes ranges (cond b (s ∷ []) [] ++ of_stage t ss)
      one true =
          let range = range_at ranges s.instruction in
          let is = range_is s (among s (inl refl)) in
          ap (λ m. range_with_len m n ++ stage_writes ranges (of_stage t ss)) (sym is.1)
          ∙ ap (λ k. range_with_len range.first k ++ stage_writes ranges (of_stage t ss)) (sym is.0)
      one false = refl

  abbrev starts : List ℕ
  starts = begins ranges p

  abbrev spans : List Span
  spans = its_spans p

  front_at : (t : ℕ) → writes_at front t ≡ first_writes starts t
  front_at zero =
      writes_two 0 (handed_in p.handed) (written_by p.tables p.code.given)
      ∙ ap (λ (ns : List ℕ). ns ++ writes_at (written_by p.tables p.code.given) 0) (handed_at p.handed)
      ∙ ap (λ (ns : List ℕ). numbers_in p.handed ++ ns) (stage_is p.code.given (has_left p.code.given p.code.steps) 0)
  front_at (suc t) = none_later front t (has_each (λ (w : Written). w.stage ≡ 0) front first_at)

  writes_are : (t : ℕ) → writes_at had t ≡ first_writes starts t ++ stage_writes ranges (of_stage t p.code.steps)
  writes_are t =
      ap (λ (ws : List Written). writes_at ws t) had_is
      ∙ writes_two t front (written_by p.tables p.code.steps)
      ∙ ap (λ (ns : List ℕ). ns ++ writes_at (written_by p.tables p.code.steps) t) (front_at t)
      ∙ ap (λ (ns : List ℕ). first_writes starts t ++ ns) (stage_is p.code.steps (has_right p.code.given p.code.steps) t)

  front_apart : Pairs Apart (front ++ written_by p.tables p.code.steps)
  front_apart = subst (Pairs Apart) had_is pairs

  -- the number of what is handed is that of no value that the pass is given
  pub handed_fresh : (n : ℕ) → is_among n (numbers_in p.handed) ≡ true → is_among n (stage_writes ranges (of_stage 0 p.code.given)) ≡ false
  handed_fresh n e =
      ap (is_among n) (sym (stage_is p.code.given (has_left p.code.given p.code.steps) 0))
      ∙ fresh (handed_in p.handed) (written_by p.tables p.code.given) (pairs_left Apart front (written_by p.tables p.code.steps) front_apart) 0 n
      (ap (is_among n) (handed_at p.handed) ∙ e)

  -- no stage writes what the pass begins with
  pub begins_fresh : (n : ℕ) → is_among n starts ≡ true → is_among n (stage_writes ranges (of_stage 0 p.code.steps)) ≡ false
  begins_fresh n e =
      ap (is_among n) (sym (stage_is p.code.steps (has_right p.code.given p.code.steps) 0))
      ∙ fresh front (written_by p.tables p.code.steps) front_apart 0 n (ap (is_among n) (front_at 0) ∙ e)

  module _ (number : ℕ → Contents → Contents) where
    abbrev mine : Steps
    mine = steps_of ranges p.code starts (kept p) number

    abbrev theirs : Steps
    theirs = steps_by_values p.tables p.handed p.layout p.code number

    -- what is among what one writes is among what the other does
    among_both : (t n : ℕ) → is_among n (theirs.writes t) ≡ is_among n (mine.writes t)
    among_both t n = ap (is_among n) (writes_are t)

    -- ---- reads
    -- a value of this number that is read at this step
    record IsReadBy (t n : ℕ) : Type 0 where
      value : ValueId
      has : number_in ranges value ≡ Some n
      is : is_read_at p.layout p.code t value ≡ true

    by_number : (t n : ℕ) (vs : List ValueId) → ((v : ValueId) → Has vs v → is_read_at p.layout p.code t v ≡ true) → is_read ranges vs n ≡ true → IsReadBy t n
    by_number t n vs read e =
        let p = any_has (λ v. is_number (number_in ranges v) n) vs e in
        record { value = p.one; has = is_the_number (number_in ranges p.one) n p.is; is = read p.one p.there }

    my_read : (t n : ℕ) → mine.reads t n ≡ true → IsReadBy t n
    my_read t n e = elim (or_cases (stage_reads ranges (of_stage t p.code.steps) n) (t == suc p.code.highest && is_read ranges (kept p) n) e) [
      | inl stage ↦ (
          let q = any_has (λ (s : Step). is_read ranges (operands s.work) n) (of_stage t p.code.steps) stage in
          let at = each_has (λ (s : Step). Has p.code.steps s × (s.stage ≡ t)) (of_stage t p.code.steps)
          (each_of_stage (λ (s : Step). Has p.code.steps s × (s.stage ≡ t)) t p.code.steps (λ s h is. (h, is))) q.one q.there in
          by_number t n (operands q.one.work) (λ v h.
          or_left (list_any (λ (u : Step). u.stage == t && is_among_values v (operands u.work)) p.code.steps) (t == suc p.code.highest && is_read_last p.layout p.code v)
          (has_any (λ (u : Step). u.stage == t && is_among_values v (operands u.work)) p.code.steps q.one at.0
          (and_from (q.one.stage == t) (is_among_values v (operands q.one.work)) (eq-eqb q.one.stage t at.1)
          (has_any (is_value v) (operands q.one.work) v h (same_value v v refl refl))))) q.is
          )
      | inr end ↦ (
          let parts = and_parts (t == suc p.code.highest) (is_read ranges (kept p) n) end in
          by_number t n (kept p) (λ v h.
          or_right (list_any (λ (u : Step). u.stage == t && is_among_values v (operands u.work)) p.code.steps) (t == suc p.code.highest && is_read_last p.layout p.code v)
          (and_from (t == suc p.code.highest) (is_read_last p.layout p.code v) parts.0 (each_has (λ u. is_read_last p.layout p.code u ≡ true) (kept p) (last_up p.layout p.code) v h))) parts.1
          )
    ]

    reads_theirs : (t n : ℕ) → mine.reads t n ≡ true → (w : Written) → Has had w → w.number ≡ n → theirs.reads t n ≡ true
    reads_theirs t n e w h is =
        let r = my_read t n e in
        let same = same_by_number w h r.value (r.has ∙ ap (λ k. Some k) (sym is)) in
        has_any (λ (u : Written). u.number == n && is_read_at p.layout p.code t u.value) had w h
        (and_from (w.number == n) (is_read_at p.layout p.code t w.value) (eq-eqb w.number n is) (ap (is_read_at p.layout p.code t) same ∙ r.is))

    -- ---- spans
    of : AreSpansOf theirs spans
    of = passes_have_spans p.tables p.handed p.layout p.code number ranged.stages

    pub spans_are : AreSpansOf mine spans
    spans_are = record {
      written = λ t n e. of.written t n (among_both t n ∙ e);
      read = λ t n e. elim (cases_eq (spans_of spans n) 0) [
        | inl none ↦ inr (record {
          unwritten = λ k. false_from_ne_true (is_among n (mine.writes k)) (λ there. absurd (omega (arith, none, of.written k n (among_both k n ∙ there))));
          none = none;
        })
        | inr some ↦ inl (
            let h = has_span spans n (omega (arith, some)) in
            let is = All-contains (IsSpanOf theirs) spans h.span of.each h.there in
            ap (spans_of spans) (sym h.same) ∙ of.written h.span.from h.span.value is.first
            )
      ];
      each = All-weaker (IsSpanOf theirs) (IsSpanOf mine) (λ span is.
          let at = written_at had span.from span.value is.first in
          record {
            first = sym (among_both span.from span.value) ∙ is.first;
            once = λ t e. is.once t (among_both t span.value ∙ e);
            after = λ t e. is.after t (reads_theirs t span.value e at.w (of_contains had at.w at.there) at.same);
            last = λ t e. is.last t (reads_theirs t span.value e at.w (of_contains had at.w at.there) at.same);
          }) spans of.each;
    }

    -- ---- registers
    module _ (registers : Registers) (kept_apart : AreKeptApart spans registers) where
      in_first : (n : ℕ) → is_among n starts ≡ true → is_among n (theirs.writes 0) ≡ true
      in_first n e =
          among_both 0 n ∙ list_any-append (λ (w : ℕ). w == n) starts (stage_writes ranges (of_stage 0 p.code.steps))
          ∙ or_left (is_among n starts) (is_among n (stage_writes ranges (of_stage 0 p.code.steps))) e

      first_span : (n : ℕ) → is_among n starts ≡ true → HasSpan spans n
      first_span n e = has_span spans n (omega (arith, of.written 0 n (in_first n e)))

      pub begin_register : (n : ℕ) → is_among n starts ≡ true → HasRegister registers n
      begin_register n e = let h = first_span n e in subst (HasRegister registers) h.same (kept_apart.has h.span h.there)

      needed_first : (n : ℕ) → is_among n starts ≡ true → (h : HasSpan spans n) → covers 0 h.span ≡ true
      needed_first n e h =
          let is = All-contains (IsSpanOf theirs) spans h.span of.each h.there in
          let at : 0 ≡ h.span.from = is.once 0 (ap (λ m. is_among m (theirs.writes 0)) h.same ∙ in_first n e) in
          and_from (nat_le h.span.from 0) (nat_le 0 (last_step h.span)) (le-leb h.span.from 0 (omega (arith, at))) (le-leb 0 (last_step h.span) (omega arith))

      pub begin_apart : (n m : ℕ) → is_among n starts ≡ true → is_among m starts ≡ true → n ≢ m → place_of registers n ≢ place_of registers m
      begin_apart n m a b differ same =
          let h = first_span n a in
          let k = first_span m b in
          kept_apart.apart h.span k.span 0 h.there k.there (λ e. differ (sym h.same ∙ e ∙ k.same)) (needed_first n a h) (needed_first m b k)
          (ap (place_of registers) h.same ∙ same ∙ sym (ap (place_of registers) k.same))
