-- A pass stage by stage, in registers.
use Rattle.std.proofs.Common.{◌≡◌, ℕ, zero, suc, ◌==◌, ◌<◌, ◌≤◌, Bool, true, false, cond, ◌||◌, ◌&&◌, ◌⊎◌, List, [], ◌∷◌, ◌++◌, Option, Some, None, refl, sym, ap, ◌∙◌, subst, inl, inr, arith}
use Rattle.std.specs.Prelude.{nat_le, Contains}
use Rattle.std.specs.List.{AllByRecursion as Each}
use Rattle.std.proofs.lemmas.Bool.{cases_eq, cond-true, cond-false, eq-eqb, or_cases, or_left, or_parts, or_right, and_from, le-leb, true≢false}
use Rattle.std.proofs.lemmas.List.{set-get_or}
use Rattle.std.proofs.lemmas.List.Elements.{All-contains, All-from_recursion}
use Rattle.std.proofs.lemmas.List.Folds.{list_any-append}
use Rattle.packet_fields.specs.declared.packet.Packet.{Packet}
use Rattle.state_store.specs.Store.{Store}
use Rattle.flat_ir.specs.declared.program.ValueId.{ValueId}
use Rattle.flat_ir.specs.declared.spans.Span.{Span}
use Rattle.flat_ir.specs.Blocks.{Reading}
use Rattle.flat_ir.specs.Laws.{Same}
use Rattle.flat_ir.specs.Program.{operands}
use Rattle.flat_ir.specs.Run.{results}
use Rattle.flat_ir.specs.Spans.{last_step, spans_of}
use Rattle.transfer_header.specs.Registers.{Registers, content_of, number_by, place_of, set_by, written, ArePlaced}
use Rattle.transfer_header.specs.Steps.{Contents, Steps, all_written, is_among, pairs_written, registers_after}
use Rattle.transfer_header.specs.Steps.{AreKeptApart, AreSpansOf, IsDoneAlike, IsNowhere, IsSpanOf}
use Rattle.switch_ir.specs.Code.{Step}
use Rattle.switch_ir.specs.Meaning.{after_stage, after_stages, pass_values}
use Rattle.switch_ir.specs.Staged.{Staging}
use Rattle.switch_machine.specs.declared.numbering.ValueRange.{ValueRange}
use Rattle.switch_machine.specs.Keeping.{begins, kept}
use Rattle.switch_machine.specs.Numbers.{AreHeld, content_at, is_number, is_read, number_in, reads_by, stage_gives, stage_number, stage_reads, stage_writes}
use Rattle.switch_machine.specs.Planned.{first_writes, registers_at, stage_done, steps_of, BeginsWith, FitRanges}
use Rattle.switch_machine.specs.Staged.{of_stage}
use Rattle.switch_machine.proofs.Members.{has_among, has_any, has_each}
use Rattle.switch_machine.proofs.Numbered.{all_right, number_is, once_of_stage, unknown_stays, writes_are}
use Rattle.switch_machine.proofs.PassValues.{apart, begins_fresh, its_spans, once, spans_are, IsRanged}
use Rattle.flat_ir.proofs.Laws.{readings_that_agree-operands, readings_that_agree-results}
use Rattle.lemmas.proofs.Lists.{each_weaker}
use Rattle.transfer_header.proofs.Laws.{a_list_is_written, a_step_in_registers}
use Rattle.transfer_header.proofs.Members.{has_span}

-- ## Writes that change nothing

own_by : (numbers : List ℕ) (place : Option ℕ) → set_by numbers place (number_by numbers place) ≡ numbers
own_by numbers None = refl
own_by numbers (Some place) = set-get_or numbers place 0

own_written : (registers : Registers) (value : ℕ) → written registers value (content_of registers value) ≡ registers
own_written registers value =
    ap (λ (ns : List ℕ). record { plan = registers.plan; numbers = ns }) (own_by registers.numbers (place_of registers value))

-- what is written to what it was before other writes
own_first : (registers : Registers) (numbers : Contents) (front values : List ℕ) → Each (λ n. numbers n ≡ content_of registers n) front
    → all_written registers (front ++ values) numbers ≡ all_written registers values numbers
own_first registers numbers [] values own = refl
own_first registers numbers (n ∷ front) values own =
    ap (λ (rs : Registers). all_written rs (front ++ values) numbers) (ap (written registers n) own.0 ∙ own_written registers n)
    ∙ own_first registers numbers front values own.1

-- ## Choices

chosen_again : (a b : Bool) (x y : ℕ) → cond (a || b) (cond b x y) y ≡ cond b x y
chosen_again true b x y = refl
chosen_again false true x y = refl
chosen_again false false x y = refl

else_same : (b : Bool) (x y z : ℕ) → (b ≡ false → y ≡ z) → cond b x y ≡ cond b x z
else_same true x y z same = refl
else_same false x y z same = same refl

-- ## Registers that stand for a reading

module _ (p : Staging) (ranges : List ValueRange) (ranged : IsRanged p ranges) where
  abbrev starts : List ℕ
  starts = begins ranges p

  abbrev spans : List Span
  spans = its_spans p

  -- what is read and written hangs on no numbers
  abbrev no_number : ℕ → Contents → Contents
  no_number t contents n = 0

  abbrev plain : Steps
  plain = steps_of ranges p.code starts (kept p) no_number

  of_plain : AreSpansOf plain spans
  of_plain = spans_are p ranges ranged no_number

  -- Before a step registers have a reading's numbers of all that was written and is still to be read, values that are
  -- needed at one step in registers apart. What is written nowhere counts as 0.
  pub record Stands (t : ℕ) (registers : Registers) (reads : Reading) : Type 0 where
    pub apart : AreKeptApart spans registers
    pub placed : ArePlaced registers
    pub unknown : (v : ValueId) → number_in ranges v ≡ None → reads v ≡ 0
    pub nowhere : (v : ValueId) (n : ℕ) → number_in ranges v ≡ Some n → IsNowhere plain spans n → reads v ≡ 0
    pub begun : (v : ValueId) (n : ℕ) → number_in ranges v ≡ Some n → is_among n (first_writes starts t) ≡ true → content_of registers n ≡ reads v
    pub stands : (span : Span) → Contains spans span → span.from < t → t ≤ span.to → (v : ValueId) → number_in ranges v ≡ Some span.value
        → content_of registers span.value ≡ reads v

  module _ (t : ℕ) (registers : Registers) (reads : Reading) (at : Stands t registers reads) where
    abbrev now : Reading
    now = reads_by ranges (content_of registers)

    -- a value that is read has the reading's number
    value_is : (v : ValueId) → ((n : ℕ) → number_in ranges v ≡ Some n → plain.reads t n ≡ true) → now v ≡ reads v
    value_is v there = by_number (number_in ranges v) refl
      where
        spanned : (n : ℕ) → number_in ranges v ≡ Some n → (spans_of spans n ≡ 1) ⊎ IsNowhere plain spans n → content_of registers n ≡ reads v
        spanned n is (inl one) =
            let h = has_span spans n (omega (arith, one)) in
            let own = All-contains (IsSpanOf plain) spans h.span of_plain.each h.there in
            let reads_it : plain.reads t h.span.value ≡ true = ap (plain.reads t) h.same ∙ there n is in
            ap (content_of registers) (sym h.same)
            ∙ at.stands h.span h.there (own.after t reads_it) (own.last t reads_it) v (is ∙ ap (λ k. Some k) (sym h.same))
        spanned n is (inr nowhere) = ap (number_by registers.numbers) (at.apart.none n nowhere.none) ∙ sym (at.nowhere v n is nowhere)

        by_number : (o : Option ℕ) → number_in ranges v ≡ o → content_at (content_of registers) o ≡ reads v
        by_number None is = sym (at.unknown v is)
        by_number (Some n) is = spanned n is (of_plain.read t n (there n is))

    all_of : (vs : List ValueId) → ((n : ℕ) → is_read ranges vs n ≡ true → plain.reads t n ≡ true) → Each (Same now reads) vs
    all_of vs there =
        has_each (Same now reads) vs
        (λ v h. value_is v (λ n is. there n (has_any (λ o. is_number (number_in ranges o) n) vs v h (ap (λ o. is_number o n) is ∙ eq-eqb n n refl))))

    -- what is kept has the reading's numbers at the end
    pub kept_is : t ≡ suc p.code.highest → AreHeld ranges registers reads (kept p)
    kept_is last =
        all_of (kept p) (λ n e. or_right (stage_reads ranges (of_stage t p.code.steps) n) ((t == suc p.code.highest) && is_read ranges (kept p) n)
        (and_from (t == suc p.code.highest) (is_read ranges (kept p) n) (eq-eqb t (suc p.code.highest) last) e))

    module _ (view : Store) (packet : Packet) (fit : FitRanges ranges p.code.steps view packet) where
      abbrev own : List Step
      own = of_stage t p.code.steps

      abbrev after : Registers
      after = stage_done ranges p.code.steps t view packet registers

      abbrev pairs : List (ℕ × ℕ)
      pairs = stage_gives ranges own reads view packet

      abbrev given : Contents
      given n = stage_number ranges own reads view packet n

      -- the number that each value has after the stage
      abbrev number : ℕ → Contents → Contents
      number step contents n = cond (is_among n (stage_writes ranges own)) (given n) (content_of registers n)

      abbrev steps : Steps
      steps = steps_of ranges p.code starts (kept p) number

      -- a stage gives what it gives from the reading
      gives_same : (ss : List Step) → ((n : ℕ) → stage_reads ranges ss n ≡ true → plain.reads t n ≡ true)
          → stage_gives ranges ss now view packet ≡ stage_gives ranges ss reads view packet
      gives_same [] there = refl
      gives_same (s ∷ ss) there =
          let same = readings_that_agree-results now reads false view packet s.work (readings_that_agree-operands now reads s.work
          (all_of (operands s.work) (λ n e. there n (or_left (is_read ranges (operands s.work) n) (stage_reads ranges ss n) e)))) in
          rw (same, gives_same ss (λ n e. there n (or_right (is_read ranges (operands s.work) n) (stage_reads ranges ss n) e)))

      begun_fresh : (step n : ℕ) → is_among n (first_writes starts step) ≡ true → is_among n (stage_writes ranges (of_stage step p.code.steps)) ≡ false
      begun_fresh zero n e = begins_fresh p ranges ranged n e
      begun_fresh (suc step) n e = absurd (true≢false (sym e))

      -- the registers once what the stage gives is written
      written_is : after ≡ registers_after steps registers t
      written_is =
          let numbers = number t (content_of registers) in
          let right = all_right ranges reads view packet (apart p ranges ranged) own (once_of_stage t p.code.steps (once p ranges ranged)) in
          ap (pairs_written registers)
          (gives_same own (λ n e. or_left (stage_reads ranges own n) ((t == suc p.code.highest) && is_read ranges (kept p) n) e))
          ∙ a_list_is_written registers pairs numbers (All-from_recursion _ pairs (each_weaker _ (λ (x : ℕ × ℕ). x.1 ≡ numbers x.0)
          (λ x h. h.1 ∙ sym (cond-true (is_among x.0 (stage_writes ranges own)) (given x.0) (content_of registers x.0) h.0)) pairs right))
          ∙ ap (λ (ws : List ℕ). all_written registers ws numbers) (writes_are ranges reads view packet own)
          ∙ sym (own_first registers numbers (first_writes starts t) (stage_writes ranges own)
          (has_each _ (first_writes starts t) (λ n h.
          cond-false (is_among n (stage_writes ranges own)) (given n) (content_of registers n) (begun_fresh t n (has_among n (first_writes starts t) h)))))

      done : IsDoneAlike steps spans registers (content_of registers) t
      done = a_step_in_registers steps spans registers (content_of registers) t (λ step a b same value. refl) (spans_are p ranges ranged number) (record {
        apart = at.apart;
        placed = at.placed;
        stands = λ span there from to. refl;
        zero = λ n none. ap (number_by registers.numbers) (at.apart.none n none);
      })

      parts : (n : ℕ) → (is_among n (first_writes starts t) || is_among n (stage_writes ranges own)) ≡ is_among n (plain.writes t)
      parts n = sym (list_any-append (λ (w : ℕ). w == n) (first_writes starts t) (stage_writes ranges own))

      -- what the stage leaves of a value with a number
      left_is : (v : ValueId) (n : ℕ) → number_in ranges v ≡ Some n
          → cond (is_among n (stage_writes ranges own)) (given n) (reads v) ≡ after_stage p.code.steps t reads view packet v
      left_is v n is = number_is ranges t reads view packet v (apart p ranges ranged) n is p.code.steps

      value_after : (span : Span) → Contains spans span → span.from ≤ t → t < span.to → (v : ValueId) → number_in ranges v ≡ Some span.value
          → content_of after span.value ≡ after_stage p.code.steps t reads view packet v
      value_after span there from to v is =
          let n = span.value in
          let own_span = All-contains (IsSpanOf plain) spans span of_plain.each there in
          ap (λ (rs : Registers). content_of rs n) written_is
          ∙ done.keeps span there (and_from (nat_le span.from t) (nat_le t (last_step span)) (le-leb span.from t from) (le-leb t (last_step span) (omega (arith, to))))
          ∙ ap (λ b. cond b (number t (content_of registers) n) (content_of registers n)) (sym (parts n))
          ∙ chosen_again (is_among n (first_writes starts t)) (is_among n (stage_writes ranges own)) (given n) (content_of registers n)
          ∙ else_same (is_among n (stage_writes ranges own)) (given n) (content_of registers n) (reads v) (λ outside. elim (cases_eq span.from t) [
            | inl same ↦ elim (or_cases (is_among n (first_writes starts t)) (is_among n (stage_writes ranges own))
                (parts n ∙ subst (λ k. is_among n (plain.writes k) ≡ true) same own_span.first)) [
                  | inl first ↦ at.begun v n is first
                  | inr inside ↦ absurd (true≢false (sym inside ∙ outside))
                ]
            | inr other ↦ at.stands span there (omega (arith, from, other)) (omega (arith, to)) v is
          ])
          ∙ left_is v n is

      -- once a stage is done, the registers stand for what it leaves of the reading
      pub next : Stands (suc t) after (after_stage p.code.steps t reads view packet)
      next = record {
        apart = subst (AreKeptApart spans) (sym written_is) done.next.apart;
        placed = subst ArePlaced (sym written_is) done.next.placed;
        unknown = λ v none. unknown_stays ranges t reads view packet v none (at.unknown v none) p.code.steps (fit reads);
        nowhere = λ v n is nowhere.
            sym (left_is v n is)
            ∙ cond-false (is_among n (stage_writes ranges own)) (given n) (reads v)
            (or_parts (is_among n (first_writes starts t)) (is_among n (stage_writes ranges own)) (parts n ∙ nowhere.unwritten t)).1
            ∙ at.nowhere v n is nowhere;
        begun = λ v n is e. absurd (true≢false (sym e));
        stands = λ span there from to. value_after span there (omega (arith, from)) (omega (arith, to));
      }

  -- ## A pass

  module _ (given : Reading) (tables : Store) (packet : Packet) (start : Registers) (kept_apart : AreKeptApart spans start) (placed : ArePlaced start)
      (begin : BeginsWith ranges starts given start) (fit : FitRanges ranges p.code.steps tables packet) where
    stands_first : Stands 0 start given
    stands_first = record {
      apart = kept_apart;
      placed = placed;
      unknown = begin.unknown;
      nowhere = λ v n is nowhere. begin.others v n is (or_parts (is_among n starts) (is_among n (stage_writes ranges (of_stage 0 p.code.steps)))
          (sym (list_any-append (λ (w : ℕ). w == n) starts (stage_writes ranges (of_stage 0 p.code.steps))) ∙ nowhere.unwritten 0)).0;
      begun = begin.begun;
      stands = λ span there from to v is. absurd (omega (arith, from));
    }

    stands_at : (t : ℕ) → Stands t (registers_at ranges p.code tables packet start t) (after_stages p.code.steps given tables packet t)
    unfolding registers_at
    stands_at zero = stands_first
    stands_at (suc t) =
        next t (registers_at ranges p.code tables packet start t) (after_stages p.code.steps given tables packet t) (stands_at t) tables packet fit

    -- what is kept has the pass's numbers at its end
    pub pass_is : AreHeld ranges (registers_at ranges p.code tables packet start (suc p.code.highest)) (pass_values p.code given tables packet) (kept p)
    pass_is =
        kept_is (suc p.code.highest) (registers_at ranges p.code tables packet start (suc p.code.highest)) (pass_values p.code given tables packet)
        (stands_at (suc p.code.highest)) refl

    -- once stage 0 is done the registers stand for what it gives
    pub first_is : Stands 1 (stage_done ranges p.code.steps 0 tables packet start) (after_stage p.code.steps 0 given tables packet)
    first_is = next 0 start given stands_first tables packet fit
