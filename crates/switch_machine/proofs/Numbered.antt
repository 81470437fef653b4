-- Values by their numbers.
use Rattle.std.proofs.Common.{◌≡◌, ◌≢◌, ℕ, zero, suc, ◌+◌, ◌-◌, ◌==◌, ◌<◌, ◌≤◌, Bool, true, false, cond, ◌&&◌, ◌||◌, List, [], ◌∷◌, ◌++◌, length, map, Option, Some, None, refl, sym, ap, ◌∙◌, inl, inr, arith, slice_index}
use Rattle.std.specs.Prelude.{nat_lt}
use Rattle.std.specs.List.{range_with_len, AllByRecursion as Each}
use Rattle.std.proofs.lemmas.Bool.{and_from, and_parts, cases_Bool, cases_eq, cond-true, cond-false, cond_both, eq-eqb, false_from_ne_true, or_left, or_right, ne_eqb, eqb-true, ltb-true, ltb-false, lt-ltb, true≢false}
use Rattle.std.proofs.lemmas.List.{get_or_past, map-append}
use Rattle.std.proofs.lemmas.List.Folds.{list_any-append}
use Rattle.std.proofs.lemmas.Option.{same_Some, none-some}
use Rattle.packet_fields.specs.declared.packet.Packet.{Packet}
use Rattle.state_store.specs.Store.{Store}
use Rattle.flat_ir.specs.declared.program.ValueId.{ValueId}
use Rattle.flat_ir.specs.Blocks.{Reading}
use Rattle.flat_ir.specs.Run.{results}
use Rattle.split_model.specs.Crossing.{is_value}
use Rattle.transfer_header.specs.Steps.{is_among}
use Rattle.switch_ir.specs.Code.{Step}
use Rattle.switch_ir.specs.Meaning.{after_stage}
use Rattle.switch_machine.specs.declared.numbering.ValueRange.{ValueRange}
use Rattle.switch_machine.specs.Numbers.{first_gives, gives, is_number, number_in, range_at, stage_gives, stage_number, stage_writes, values, AreOnce}
use Rattle.switch_machine.specs.Planned.{AreNumberedApart}
use Rattle.switch_machine.specs.Staged.{of_stage}
use Rattle.switch_machine.proofs.Members.{among_has, each_has, has_among, Has}
use Rattle.lemmas.proofs.Lists.{each_append, each_weaker, range_pushed}

-- ## The values of an instruction

among_counted : (a k n : ℕ) → Has (range_with_len a k) n → (a ≤ n) × (n < a + k)
among_counted a zero n h = absurd h
among_counted a (suc k) n (inl same) = (omega (arith, same), omega (arith, same))
among_counted a (suc k) n (inr later) = let h = among_counted (a + 1) k n later in (omega (arith, h.0), omega (arith, h.1))

counted_among : (a k n : ℕ) → a ≤ n → n < a + k → Has (range_with_len a k) n
counted_among a zero n le lt = absurd (omega (arith, le, lt))
counted_among a (suc k) n le lt = elim (cases_eq a n) [
  | inl same ↦ inl same
  | inr other ↦ inr (counted_among (a + 1) k n (omega (arith, le, other)) (omega (arith, lt)))
]

-- a value that is known is among those of its instruction
pub known : (ranges : List ValueRange) (v : ValueId) (n : ℕ) → number_in ranges v ≡ Some n
    → (v.result < (range_at ranges v.instruction).count) × (n ≡ (range_at ranges v.instruction).first + v.result)
known ranges v n =
    let range = range_at ranges v.instruction in
    cond_both (nat_lt v.result range.count) (Some (range.first + v.result)) None
    (λ o. o ≡ Some n → (v.result < range.count) × (n ≡ range.first + v.result))
    (λ lt is. (ltb-true v.result range.count lt, sym (same_Some (range.first + v.result) n is))) (λ past is. absurd (none-some n is))

pub numbered : (ranges : List ValueRange) (i place : ℕ) → place < (range_at ranges i).count
    → number_in ranges (record { instruction = i; result = place }) ≡ Some ((range_at ranges i).first + place)
numbered ranges i place lt =
    cond-true (nat_lt place (range_at ranges i).count) (Some ((range_at ranges i).first + place)) None (lt-ltb place (range_at ranges i).count lt)

pub not_known : (ranges : List ValueRange) (v : ValueId) → number_in ranges v ≡ None → (range_at ranges v.instruction).count ≤ v.result
not_known ranges v =
    let range = range_at ranges v.instruction in
    cond_both (nat_lt v.result range.count) (Some (range.first + v.result)) None (λ o. o ≡ None → range.count ≤ v.result)
    (λ lt is. absurd (none-some (range.first + v.result) (sym is))) (λ past is. ltb-false v.result range.count past)

-- a number among those of an instruction is that of a value of it
value_of : (ranges : List ValueRange) (i n : ℕ) → is_among n (values (range_at ranges i)) ≡ true
    → (v : ValueId) × ((v.instruction ≡ i) × (number_in ranges v ≡ Some n))
value_of ranges i n inside =
    let range = range_at ranges i in
    let h = among_counted range.first range.count n (among_has n (values range) inside) in (
      record { instruction = i; result = n - range.first },
      (refl, numbered ranges i (n - range.first) (omega (arith, h.0, h.1)) ∙ ap (λ m. Some m) (omega (arith, h.0))),
    )

pub same_value : (a b : ValueId) → a.instruction ≡ b.instruction → a.result ≡ b.result → is_value a b ≡ true
same_value a b i r = and_from (a.instruction == b.instruction) (a.result == b.result) (eq-eqb a.instruction b.instruction i) (eq-eqb a.result b.result r)

pub is_the_number : (o : Option ℕ) (n : ℕ) → is_number o n ≡ true → o ≡ Some n
is_the_number None n e = absurd (true≢false (sym e))
is_the_number (Some m) n e = ap (λ k. Some k) (eqb-true m n e)

-- values with the same number are one
pub same_one : (ranges : List ValueRange) → AreNumberedApart ranges → (v w : ValueId) (n : ℕ) → number_in ranges v ≡ Some n → number_in ranges w ≡ Some n → is_value v w ≡ true
same_one ranges apart v w n e f =
    let same = apart v w n e f in
    same_value v w same (omega (arith, (known ranges v n e).1, (known ranges w n f).1, ap (λ i. (range_at ranges i).first) same))

module _ (ranges : List ValueRange) (apart : AreNumberedApart ranges) (v : ValueId) (n : ℕ) (is : number_in ranges v ≡ Some n) where
  -- the number stands among those of an instruction exactly where the value is of the instruction
  same_test : (i : ℕ) → is_among n (values (range_at ranges i)) ≡ (i == v.instruction)
  same_test i = elim (cases_Bool (is_among n (values (range_at ranges i)))) [
    | inl inside ↦ (
        let one = value_of ranges i n inside in
        inside ∙ sym (eq-eqb i v.instruction (sym one.1.0 ∙ apart one.0 v n one.1.1 is))
        )
    | inr outside ↦ outside ∙ sym (ne_eqb i v.instruction (λ same.
        let here = known ranges v n is in
        let range = range_at ranges v.instruction in
        let inside = has_among n (values range) (counted_among range.first range.count n (omega (arith, here.1)) (omega (arith, here.0, here.1))) in
        true≢false (sym inside ∙ ap (λ j. is_among n (values (range_at ranges j))) (sym same) ∙ outside)))
  ]

  place_is : (i : ℕ) → i ≡ v.instruction → n - (range_at ranges i).first ≡ v.result
  place_is i same = omega (arith, (known ranges v n is).1, ap (λ j. (range_at ranges j).first) same)

-- ## Instructions of one stage

module _ (ranges : List ValueRange) (t : ℕ) (reads : Reading) (tables : Store) (packet : Packet) (v : ValueId) where
  module _ (apart : AreNumberedApart ranges) (n : ℕ) (is : number_in ranges v ≡ Some n) where
    -- an instruction before others, if it is of the stage
    one_more : (s : Step) (ss : List Step) (later : ℕ) (b : Bool)
        → cond (is_among n (stage_writes ranges ss)) (stage_number ranges ss reads tables packet n) (reads v) ≡ later
        → cond (is_among n (stage_writes ranges (cond b (s ∷ []) [] ++ ss))) (stage_number ranges (cond b (s ∷ []) [] ++ ss) reads tables packet n) (reads v)
        ≡ cond (b && (s.instruction == v.instruction)) (slice_index (results reads false tables packet s.work) v.result) later
    one_more s ss later false so = so
    one_more s ss later true so =
        let own = values (range_at ranges s.instruction) in
        let rest = stage_writes ranges ss in
        let given = results reads false tables packet s.work in
        let others = stage_number ranges ss reads tables packet n in
        let here = slice_index given (n - (range_at ranges s.instruction).first) in
        let test = same_test ranges apart v n is s.instruction in
        ap (λ b. cond b (cond (is_among n own) here others) (reads v)) (list_any-append (λ (w : ℕ). w == n) own rest)
        ∙ elim (cases_Bool (is_among n own)) [
          | inl inside ↦ (
              let same = eqb-true s.instruction v.instruction (sym test ∙ inside) in
              ap (λ b. cond (b || is_among n rest) (cond b here others) (reads v)) inside
              ∙ ap (slice_index given) (place_is ranges apart v n is s.instruction same)
              ∙ sym (cond-true (s.instruction == v.instruction) (slice_index given v.result) later (sym test ∙ inside))
              )
          | inr outside ↦ ap (λ b. cond (b || is_among n rest) (cond b here others) (reads v)) outside ∙ so
              ∙ sym (cond-false (s.instruction == v.instruction) (slice_index given v.result) later (sym test ∙ outside))
        ]

    -- the number that a value is given, and that of a value that is given none
    pub number_is : (ss : List Step)
        → cond (is_among n (stage_writes ranges (of_stage t ss))) (stage_number ranges (of_stage t ss) reads tables packet n) (reads v)
        ≡ after_stage ss t reads tables packet v
    number_is [] = refl
    number_is (s ∷ ss) = one_more s (of_stage t ss) (after_stage ss t reads tables packet v) (s.stage == t) (number_is ss)

  -- a value that isn't known is given nothing but 0
  pub unknown_stays : number_in ranges v ≡ None → reads v ≡ 0 → (ss : List Step)
      → Each (λ (s : Step). length (results reads false tables packet s.work) ≤ (range_at ranges s.instruction).count) ss
      → after_stage ss t reads tables packet v ≡ 0
  unknown_stays none is [] fit = is
  unknown_stays none is (s ∷ ss) fit =
      let given = results reads false tables packet s.work in
      cond_both ((s.stage == t) && (s.instruction == v.instruction)) (slice_index given v.result) (after_stage ss t reads tables packet v) (λ m. m ≡ 0)
      (λ here.
      let same = eqb-true s.instruction v.instruction (and_parts (s.stage == t) (s.instruction == v.instruction) here).1 in
      get_or_past given v.result 0 (omega (arith, fit.0, ap (λ i. (range_at ranges i).count) same, not_known ranges v none)))
      (λ other. unknown_stays none is ss fit.1)

-- what holds of each instruction of a stage
pub each_of_stage : (P : Step → Type 0) (t : ℕ) (ss : List Step) → ((s : Step) → Has ss s → s.stage ≡ t → P s) → Each P (of_stage t ss)
each_of_stage P t [] all = tt
each_of_stage P t (s ∷ ss) all =
    let rest = each_of_stage P t ss (λ u h. all u (inr h)) in
    cond_both (s.stage == t) (s ∷ []) [] (λ (own : List Step). Each P (own ++ of_stage t ss))
    (λ here. (all s (inl refl) (eqb-true s.stage t here), rest)) (λ other. rest)

pub once_of_stage : (t : ℕ) (ss : List Step) → AreOnce ss → AreOnce (of_stage t ss)
once_of_stage t [] once = tt
once_of_stage t (s ∷ ss) once =
    let Apart : Step → Type 0 = λ other. s.instruction ≢ other.instruction in
    let rest = once_of_stage t ss once.1 in
    cond_both (s.stage == t) (s ∷ []) [] (λ (own : List Step). AreOnce (own ++ of_stage t ss))
    (λ here. (each_of_stage Apart t ss (λ other h at. each_has Apart ss once.0 other h), rest)) (λ other. rest)

-- ## What is given

module _ (ranges : List ValueRange) (reads : Reading) (tables : Store) (packet : Packet) where
  -- the values that are given numbers are those that are written
  first_values_are : (range : ValueRange) (given : List ℕ) (k : ℕ) → map (λ (p : ℕ × ℕ). p.0) (first_gives range given k) ≡ range_with_len range.first k
  first_values_are range given zero = refl
  first_values_are range given (suc k) = rw (map-append, first_values_are range given k) (sym (range_pushed range.first k))

  pub writes_are : (ss : List Step) → map (λ (p : ℕ × ℕ). p.0) (stage_gives ranges ss reads tables packet) ≡ stage_writes ranges ss
  writes_are [] = refl
  writes_are (s ∷ ss) =
      let range = range_at ranges s.instruction in
      rw (map-append, first_values_are range (results reads false tables packet s.work) range.count, writes_are ss)

  -- a number that some instructions give a value is the one that the value is given
  abbrev pub IsRight : List Step → ℕ × ℕ → Type 0
  IsRight ss p = (is_among p.0 (stage_writes ranges ss) ≡ true) × (p.1 ≡ stage_number ranges ss reads tables packet p.0)

  among_parts : (s : Step) (ss : List Step) (n : ℕ)
      → is_among n (stage_writes ranges (s ∷ ss)) ≡ (is_among n (values (range_at ranges s.instruction)) || is_among n (stage_writes ranges ss))
  among_parts s ss n = list_any-append (λ (w : ℕ). w == n) (values (range_at ranges s.instruction)) (stage_writes ranges ss)

  first_right : (s : Step) (ss : List Step) (k : ℕ) → k ≤ (range_at ranges s.instruction).count
      → Each (IsRight (s ∷ ss)) (first_gives (range_at ranges s.instruction) (results reads false tables packet s.work) k)
  first_right s ss zero le = tt
  first_right s ss (suc k) le =
      let range = range_at ranges s.instruction in
      let given = results reads false tables packet s.work in
      let n = range.first + k in
      let here = has_among n (values range) (counted_among range.first range.count n (omega arith) (omega (arith, le))) in
      each_append (IsRight (s ∷ ss)) (first_gives range given k) ((n, slice_index given k) ∷ []) (first_right s ss k (omega (arith, le))) (
        (
          among_parts s ss n ∙ or_left (is_among n (values range)) (is_among n (stage_writes ranges ss)) here,
          ap (slice_index given) (omega arith)
              ∙ sym (cond-true (is_among n (values range)) (slice_index given (n - range.first)) (stage_number ranges ss reads tables packet n) here),
        ),
        tt,
      )

  module _ (apart : AreNumberedApart ranges) where
    -- the number of a value of one instruction is that of no other's
    not_again : (s : Step) (ss : List Step) → Each (λ (other : Step). s.instruction ≢ other.instruction) ss → (v : ValueId) (n : ℕ)
        → v.instruction ≡ s.instruction → number_in ranges v ≡ Some n → is_among n (stage_writes ranges ss) ≡ false
    not_again s [] once v n of is = refl
    not_again s (o ∷ ss) once v n of is =
        among_parts o ss n
        ∙ ap (λ b. b || is_among n (stage_writes ranges ss))
        (same_test ranges apart v n is o.instruction ∙ ne_eqb o.instruction v.instruction (λ same. once.0 (sym (same ∙ of))))
        ∙ not_again s ss once.1 v n of is

    pub all_right : (ss : List Step) → AreOnce ss → Each (IsRight ss) (stage_gives ranges ss reads tables packet)
    all_right [] once = tt
    all_right (s ∷ ss) once =
        let range = range_at ranges s.instruction in
        let given = results reads false tables packet s.work in
        each_append (IsRight (s ∷ ss)) (gives range given) (stage_gives ranges ss reads tables packet) (first_right s ss range.count (omega arith))
        (each_weaker (IsRight ss) (IsRight (s ∷ ss))
        (λ p h. (
          among_parts s ss p.0 ∙ or_right (is_among p.0 (values range)) (is_among p.0 (stage_writes ranges ss)) h.0,
          h.1 ∙ sym (cond-false (is_among p.0 (values range)) (slice_index given (p.0 - range.first)) (stage_number ranges ss reads tables packet p.0)
              (false_from_ne_true (is_among p.0 (values range)) (λ here.
              let v = value_of ranges s.instruction p.0 here in
              true≢false (sym h.0 ∙ not_again s ss once.0 v.0 p.0 v.1.0 v.1.1)))),
        )) (stage_gives ranges ss reads tables packet) (all_right ss once.1))
