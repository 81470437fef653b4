-- A pass whose stages are taken one by one, in its registers.
use Rattle.std.proofs.Common.{◌≡◌, ℕ, suc, ◌==◌, ◌≤◌, Bool, true, false, cond, ◌&&◌, List, [], ◌∷◌, Some, None, IsSome, unwrap_or, refl, sym, ap, ◌∙◌, subst, inl, inr, arith, slice_index}
use Rattle.std.specs.Prelude.{nat_le, Contains}
use Rattle.std.proofs.lemmas.Bool.{cases_eq, and_from, and_parts, cond-false, eq-eqb, leb-true, le-leb, lt-ltb, ltb-true, or_parts, true≢false}
use Rattle.std.proofs.lemmas.Option.{same_Some, none-some}
use Rattle.packet_fields.specs.declared.packet.Packet.{Packet}
use Rattle.state_store.specs.Store.{Store}
use Rattle.flat_ir.specs.declared.program.ValueId.{ValueId}
use Rattle.flat_ir.specs.declared.spans.Span.{Span}
use Rattle.flat_ir.specs.Blocks.{Reading}
use Rattle.flat_ir.specs.Run.{results}
use Rattle.split_model.specs.Crossing.{is_value}
use Rattle.transfer_header.specs.Registers.{Registers, content_of, number_by, ArePlaced}
use Rattle.transfer_header.specs.Steps.{AreKeptApart}
use Rattle.switch_ir.specs.Meaning.{after_stage, is_step}
use Rattle.switch_ir.specs.Passes.{Step}
use Rattle.switch_ir.specs.Spans.{last_read, span_of, Written}
use Rattle.switch_ir.specs.Staged.{all_values, is_had, is_of_stage, is_read_later, known, last_numbers, IsEntered, IsStaged, KeepsEnough, KeepsOwn, Numbers, Staging}
use Rattle.switch_machine.specs.declared.numbering.ValueRange.{ValueRange}
use Rattle.switch_machine.specs.ActivePasses.{numbers_in}
use Rattle.switch_machine.specs.Keeping.{kept}
use Rattle.switch_machine.specs.Numbers.{content_at, number_in, reads_by, AreHeld}
use Rattle.switch_machine.specs.Planned.{stage_done, FitRanges}
use Rattle.switch_machine.proofs.Numbered.{same_value}
use Rattle.switch_machine.proofs.InRegisters.{kept_is, next, Stands}
use Rattle.switch_machine.proofs.Members.{any_has, has_any, has_made, made_has, of_contains, to_contains, Has}
use Rattle.switch_machine.proofs.PassValues.{first_at, had_parts, has_its_number, its_spans, same_by_number, IsRanged}
use Rattle.flat_ir.proofs.Exact.{value_same}

-- a value that no instruction of the stage gives stays
stays : (ss : List Step) (t : ℕ) (reads : Reading) (tables : Store) (packet : Packet) (v : ValueId) → is_of_stage ss t v ≡ false
    → after_stage ss t reads tables packet v ≡ reads v
stays [] t reads tables packet v e = refl
stays (s ∷ ss) t reads tables packet v e =
    let parts = or_parts (is_step s t v) (is_of_stage ss t v) e in
    cond-false (is_step s t v) (slice_index (results reads false tables packet s.work) v.result) (after_stage ss t reads tables packet v) parts.0
    ∙ stays ss t reads tables packet v parts.1

-- ## What is told

chosen_by : (a b : Bool) (x n : ℕ) → cond (a && b) (Some x) None ≡ Some n → (a ≡ true) × ((b ≡ true) × (x ≡ n))
chosen_by true true x n e = (refl, (refl, same_Some x n e))
chosen_by a b x n e = absurd (none-some n e)

chosen_some : (a b : Bool) (x : ℕ) → IsSome (cond (a && b) (Some x) None) → a ≡ true
chosen_some true b x h = refl
chosen_some false b x h = absurd (true≢false (sym h))

some_chosen : (a b : Bool) (x : ℕ) → a ≡ true → b ≡ true → cond (a && b) (Some x) None ≡ Some x
some_chosen a b x here there = ap (λ c. cond c (Some x) None) (and_from a b here there)

zero_chosen : (b : Bool) (x : ℕ) → x ≡ 0 → unwrap_or (cond b (Some x) None) 0 ≡ 0
zero_chosen true x e = e
zero_chosen false x e = refl

module _ (p : Staging) (ranges : List ValueRange) (ranged : IsRanged p ranges) where
  abbrev had : List Written
  had = all_values p

  abbrev spans : List Span
  spans = its_spans p

  abbrev span : Written → Span
  span = span_of (last_read p.layout p.code)

  -- ---- values that the pass has
  record Had (t : ℕ) (v : ValueId) : Type 0 where
    pub value : Written
    pub there : Has had value
    pub low : value.stage ≤ t
    pub is : value.value ≡ v

  had_by : (t : ℕ) (v : ValueId) → is_had p t v ≡ true → Had t v
  had_by t v e =
      let h = any_has (λ (w : Written). nat_le w.stage t && is_value w.value v) had e in
      let parts = and_parts (nat_le h.one.stage t) (is_value h.one.value v) h.is in
      record { value = h.one; there = h.there; low = leb-true h.one.stage t parts.0; is = value_same h.one.value v parts.1 }

  by_had : (t : ℕ) (v : ValueId) → Had t v → is_had p t v ≡ true
  by_had t v h =
      has_any (λ (w : Written). nat_le w.stage t && is_value w.value v) had h.value h.there
      (and_from (nat_le h.value.stage t) (is_value h.value.value v) (le-leb h.value.stage t h.low)
      (same_value h.value.value v (ap (λ (x : ValueId). x.instruction) h.is) (ap (λ (x : ValueId). x.result) h.is)))

  -- a value of a stage above 0 is of an instruction of it
  of_its_stage : (t : ℕ) (w : Written) → Has had w → w.stage ≡ suc t → is_of_stage p.code.steps (suc t) w.value ≡ true
  of_its_stage t w h at = elim (had_parts p ranges ranged w h) [
    | inl there ↦ absurd (omega (arith, at, first_at p ranges ranged w there))
    | inr b ↦ has_any (λ s. is_step s (suc t) w.value) p.code.steps b.step b.there
        (and_from (b.step.stage == suc t) (b.step.instruction == w.value.instruction) (eq-eqb b.step.stage (suc t) (sym b.is.stage ∙ at))
        (eq-eqb b.step.instruction w.value.instruction (sym b.is.instruction)))
  ]

  -- ---- what is told after a stage
  enough : (t : ℕ) (registers : Registers) → KeepsEnough p t (numbers_in p ranges t registers)
  enough t registers v here later = subst IsSome (sym (some_chosen (is_had p t v) (is_read_later p t v) (reads_by ranges (content_of registers) v) here later)) refl

  own : (t : ℕ) (registers : Registers) → KeepsOwn p t (numbers_in p ranges t registers)
  own t registers v some = chosen_some (is_had p t v) (is_read_later p t v) (reads_by ranges (content_of registers) v) some

  -- it is what the registers stand for
  told : (t : ℕ) (registers : Registers) (reads : Reading) → Stands p ranges ranged (suc t) registers reads
      → (v : ValueId) (n : ℕ) → numbers_in p ranges t registers v ≡ Some n → (is_had p t v ≡ true) × ((is_read_later p t v ≡ true) × (n ≡ reads v))
  told t registers reads at v n e =
      let c = chosen_by (is_had p t v) (is_read_later p t v) (reads_by ranges (content_of registers) v) n e in
      let h = had_by t v c.0 in
      let is : number_in ranges v ≡ Some h.value.number = subst (λ (x : ValueId). number_in ranges x ≡ Some h.value.number) h.is (has_its_number p ranges ranged h.value h.there) in
      let there : Contains spans (span h.value) = to_contains spans (span h.value) (made_has span had h.value h.there) in (
        c.0,
        (
          c.1.0,
          sym c.1.1 ∙ ap (content_at (content_of registers)) is
              ∙ at.stands (span h.value) there (omega (arith, h.low)) (omega (arith, ltb-true t (last_read p.layout p.code v) c.1.0, ap (last_read p.layout p.code) h.is)) v is,
        ),
      )

  -- ---- a stage above 0
  module _ (t : ℕ) (registers : Registers) (kept_apart : AreKeptApart spans registers) (placed : ArePlaced registers) (view : Store) (packet : Packet)
      (fit : FitRanges ranges p.code.steps view packet) where
    abbrev now : Reading
    now = reads_by ranges (content_of registers)

    abbrev old : Numbers
    old = numbers_in p ranges t registers

    abbrev after : Registers
    after = stage_done ranges p.code.steps (suc t) view packet registers

    old_is : (v : ValueId) → is_had p t v ≡ true → is_read_later p t v ≡ true → old v ≡ Some (now v)
    old_is v here later = some_chosen (is_had p t v) (is_read_later p t v) (now v) here later

    known_zero : (v : ValueId) → now v ≡ 0 → known old v ≡ 0
    known_zero v none = zero_chosen (is_had p t v && is_read_later p t v) (now v) none

    -- before the stage the registers stand for what is known
    before : Stands p ranges ranged (suc t) registers (known old)
    before = record {
      apart = kept_apart;
      placed = placed;
      unknown = λ v none. known_zero v (ap (content_at (content_of registers)) none);
      nowhere = λ v n is nowhere. known_zero v (ap (content_at (content_of registers)) is ∙ ap (number_by registers.numbers) (kept_apart.none n nowhere.none));
      begun = λ v n is e. absurd (true≢false (sym e));
      stands = λ s there from to v is.
          let m = has_made span had s (of_contains spans s there) in
          let same = same_by_number p ranges ranged m.from m.there v (is ∙ ap (λ (x : Span). Some x.value) (sym m.is)) in
          let low = ap (λ (x : Span). x.from) m.is in
          let later = lt-ltb t (last_read p.layout p.code v) (omega (arith, from, to, low, ap (λ (x : Span). x.to) m.is, ap (last_read p.layout p.code) same)) in
          sym (ap (content_at (content_of registers)) is)
          ∙ sym (ap (λ o. unwrap_or o 0) (old_is v (by_had t v (record { value = m.from; there = m.there; low = omega (arith, from, low); is = same })) later));
    }

    -- and after it for what the stage gives
    stands : Stands p ranges ranged (suc (suc t)) after (last_numbers p (suc t) old view packet)
    stands = next p ranges ranged (suc t) registers (known old) before view packet fit

    -- a value that the stage doesn't give was known
    earlier_had : (v : ValueId) → is_of_stage p.code.steps (suc t) v ≡ false → is_had p (suc t) v ≡ true → is_had p t v ≡ true
    earlier_had v other here =
        let h = had_by (suc t) v here in
        elim (cases_eq h.value.stage (suc t)) [
          | inl at ↦ absurd (true≢false (sym (of_its_stage t h.value h.there at) ∙ ap (is_of_stage p.code.steps (suc t)) h.is ∙ other))
          | inr ne ↦ by_had t v (record { value = h.value; there = h.there; low = omega (arith, h.low, ne); is = h.is })
        ]

    pub staged : IsStaged p (suc t) old view packet (numbers_in p ranges (suc t) after)
    staged = record {
      enough = enough (suc t) after;
      own = own (suc t) after;
      earlier = λ v n other e.
          let c = told (suc t) after (last_numbers p (suc t) old view packet) stands v n e in
          let was = old_is v (earlier_had v other c.0) (lt-ltb t (last_read p.layout p.code v) (omega (arith, ltb-true (suc t) (last_read p.layout p.code v) c.1.0))) in
          was ∙ ap (λ m. Some m) (sym (c.1.1 ∙ stays p.code.steps (suc t) (known old) view packet v other ∙ ap (λ o. unwrap_or o 0) was));
      newest = λ v n mine e. (told (suc t) after (last_numbers p (suc t) old view packet) stands v n e).1.1;
    }

    pub ends : suc t ≡ p.code.highest → AreHeld ranges after (last_numbers p (suc t) old view packet) (kept p)
    ends at = kept_is p ranges ranged (suc (suc t)) after (last_numbers p (suc t) old view packet) stands (ap suc at)

  -- ---- stage 0
  pub entered : (given : Reading) (view : Store) (packet : Packet) (start : Registers)
      → Stands p ranges ranged 1 (stage_done ranges p.code.steps 0 view packet start) (after_stage p.code.steps 0 given view packet)
      → IsEntered p given view packet (numbers_in p ranges 0 (stage_done ranges p.code.steps 0 view packet start))
  entered given view packet start at =
      let after = stage_done ranges p.code.steps 0 view packet start in
      record {
        enough = enough 0 after;
        own = own 0 after;
        right = λ v n e. (told 0 after (after_stage p.code.steps 0 given view packet) at v n e).1.1;
      }
