-- What postprocessing begins with, and what is handed down to it.
use Rattle.std.proofs.Common.{◌≡◌, ℕ, suc, Bool, true, false, List, [], ◌∷◌, refl, arith, if◌then◌else◌, ◌==◌, cond, ◌||◌, Some, None, sym, ap, ◌∙◌, inl, inr}
use Rattle.packet_fields.specs.declared.packet.Packet.{Packet}
use Rattle.flat_ir.specs.declared.program.ValueId.{ValueId}
use Rattle.split_model.specs.declared.layout.Crossing.{Crossing}
use Rattle.split_model.specs.Crossing.{is_value}
use Rattle.transfer_header.specs.Values.{Agree}
use Rattle.switch_ir.specs.Meaning.{crosses, down_given, handed, inputs, after_stage}
use Rattle.switch_ir.specs.Passes.{Code}
use Rattle.std.specs.List.{AllByRecursion as Each}
use Rattle.std.proofs.lemmas.Bool.{cases_Bool, cond-true, cond-false, eq-eqb, eqb-true, ne_eqb, false_from_ne_true, or_parts, or_right, true≢false}
use Rattle.std.proofs.lemmas.List.Elements.{All-from_recursion}
use Rattle.std.proofs.lemmas.List.Folds.{list_any-append}
use Rattle.std.proofs.lemmas.Option.{same_Some, none-some}
use Rattle.flat_ir.specs.Blocks.{Reading, nothing}
use Rattle.transfer_header.specs.Registers.{Registers, content_of, value_in, ArePlaced}
use Rattle.transfer_header.specs.Steps.{all_written, is_among, pairs_written, AreKeptApart, Contents}
use Rattle.transfer_header.proofs.Laws.{a_list_is_written}
use Rattle.transfer_header.proofs.Writes.{all_written_is}
use Rattle.switch_ir.specs.Code.{Step}
use Rattle.switch_ir.specs.Staged.{Staging}
use Rattle.switch_machine.specs.declared.numbering.ValueRange.{ValueRange}
use Rattle.switch_machine.specs.Keeping.{begins, numbers_in}
use Rattle.switch_machine.specs.Numbers.{number_in, stage_gives, stage_number, stage_writes}
use Rattle.switch_machine.specs.Planned.{BeginsWith}
use Rattle.switch_machine.specs.Staged.{of_stage}
use Rattle.switch_machine.proofs.ResultCounts.{results_one}
use Rattle.switch_machine.proofs.Members.{any_has, each_has}
use Rattle.switch_machine.proofs.Numbered.{all_right, number_is, once_of_stage, same_one, unknown_stays, writes_are}
use Rattle.switch_machine.proofs.PassValues.{apart, begin_apart, begin_register, given_fit, given_once, handed_fresh, handed_known, its_spans, IsRanged}
use Rattle.flat_ir.proofs.Exact.{value_same}
use Rattle.lemmas.proofs.Lists.{each_weaker}

agreed : (b : Bool) (x x' y y' : ℕ) → x ≡ x' → y ≡ y' → (if b then x else y) ≡ (if b then x' else y')
agreed true x x' y y' e f = e
agreed false x x' y y' e f = f

handed_same : (layout : List Crossing) (values others : Crossing → ℕ) (v : ValueId) → Agree layout values others
    → handed layout values v ≡ handed layout others v
handed_same [] values others v agree = refl
handed_same (x ∷ xs) values others v agree =
    agreed (is_value x.value v) (values x) (others x) (handed xs values v) (handed xs others v) (agree 0 x (omega arith))
    (handed_same xs values others v (λ k d lt. agree (suc k) d (omega (arith, lt))))

-- what postprocessing begins with is told by the numbers of the layout's values
pub given_same : (code : Code) (values others : Crossing → ℕ) (packet : Packet) → Agree code.down values others
    → down_given code values packet ≡ down_given code others packet
given_same code values others packet agree = λ i v. same v i
  where
    same : (v : ValueId) → down_given code values packet v ≡ down_given code others packet v
    same v = agreed (crosses code.down v) (handed code.down values v) (handed code.down others v) (inputs code packet v) (inputs code packet v)
        (handed_same code.down values others v agree) refl

module _ (p : Staging) (ranges : List ValueRange) (ranged : IsRanged p ranges) (registers : Registers) where
  -- each value of a layout has its number
  abbrev AreKnown : List Crossing → Type 0
  AreKnown layout = Each (λ (c : Crossing). number_in ranges c.value ≡ Some c.number) layout

  one_known : (c : Crossing) → number_in ranges c.value ≡ Some c.number → (v : ValueId) (n : ℕ) → number_in ranges v ≡ Some n → is_value c.value v ≡ (c.number == n)
  one_known c here v n is = elim (cases_Bool (is_value c.value v)) [
    | inl same ↦ same ∙ sym (eq-eqb c.number n (same_Some c.number n (sym here ∙ ap (number_in ranges) (value_same c.value v same) ∙ is)))
    | inr other ↦ other ∙ sym (ne_eqb c.number n (λ e. true≢false (sym (same_one ranges (apart p ranges ranged) c.value v n (here ∙ ap (λ m. Some m) e) is) ∙ other)))
  ]

  -- a value is handed where its number is one of the layout, and this is in the register
  crosses_is : (layout : List Crossing) → AreKnown layout → (v : ValueId) (n : ℕ) → number_in ranges v ≡ Some n → crosses layout v ≡ is_among n (numbers_in layout)
  crosses_is [] all v n is = refl
  crosses_is (c ∷ cs) all v n is = ap (λ b. b || crosses cs v) (one_known c all.0 v n is) ∙ ap (λ b. (c.number == n) || b) (crosses_is cs all.1 v n is)

  handed_is : (layout : List Crossing) → AreKnown layout → (v : ValueId) (n : ℕ) → number_in ranges v ≡ Some n → crosses layout v ≡ true
      → handed layout (value_in registers) v ≡ content_of registers n
  handed_is [] all v n is there = absurd (true≢false (sym there))
  handed_is (c ∷ cs) all v n is there = elim (cases_Bool (is_value c.value v)) [
    | inl same ↦ cond-true (is_value c.value v) (content_of registers c.number) (handed cs (value_in registers) v) same
        ∙ ap (content_of registers) (eqb-true c.number n (sym (one_known c all.0 v n is) ∙ same))
    | inr other ↦ cond-false (is_value c.value v) (content_of registers c.number) (handed cs (value_in registers) v) other
        ∙ handed_is cs all.1 v n is (sym (ap (λ b. b || crosses cs v) other) ∙ there)
  ]

  unknown_stays_out : (layout : List Crossing) → AreKnown layout → (v : ValueId) → number_in ranges v ≡ None → crosses layout v ≡ false
  unknown_stays_out layout all v none = false_from_ne_true (crosses layout v) (λ there.
      let q = any_has (λ (c : Crossing). is_value c.value v) layout there in
      none-some q.one.number (sym none ∙ ap (number_in ranges) (sym (value_same q.one.value v q.is))
      ∙ each_has (λ (c : Crossing). number_in ranges c.value ≡ Some c.number) layout all q.one q.there))

  module _ (packet : Packet) where
    abbrev own : List Step
    own = of_stage 0 p.code.given

    abbrev starts : List ℕ
    starts = begins ranges p

    abbrev pairs : List (ℕ × ℕ)
    pairs = stage_gives ranges own nothing [] packet

    abbrev after : Registers
    after = pairs_written registers pairs

    abbrev now : ℕ → ℕ
    now n = stage_number ranges own nothing [] packet n

    -- what it begins with
    abbrev begun_with : Reading
    begun_with v = cond (crosses p.handed v) (handed p.handed (value_in registers) v) (after_stage p.code.given 0 nothing [] packet v)

    input_is : (v : ValueId) (n : ℕ) → number_in ranges v ≡ Some n
        → cond (is_among n (stage_writes ranges own)) (now n) 0 ≡ after_stage p.code.given 0 nothing [] packet v
    input_is v n is = number_is ranges 0 nothing [] packet v (apart p ranges ranged) n is p.code.given

    crosses_by : (v : ValueId) (n : ℕ) → number_in ranges v ≡ Some n → crosses p.handed v ≡ is_among n (numbers_in p.handed)
    crosses_by = crosses_is p.handed (handed_known p ranges ranged)

    starts_parts : (n : ℕ) → (is_among n (numbers_in p.handed) || is_among n (stage_writes ranges own)) ≡ is_among n starts
    starts_parts n = sym (list_any-append (λ (w : ℕ). w == n) (numbers_in p.handed) (stage_writes ranges own))

    module _ (placed : ArePlaced registers) (kept_apart : AreKeptApart (its_spans p) registers) where
      abbrev no_number : ℕ → Contents → Contents
      no_number t contents n = 0

      content_is : (n : ℕ) → is_among n starts ≡ true → content_of after n ≡ cond (is_among n (stage_writes ranges own)) (now n) (content_of registers n)
      content_is n in_it =
          let right = all_right ranges nothing [] packet (apart p ranges ranged) own (once_of_stage 0 p.code.given (given_once p ranges ranged)) in
          ap (λ (rs : Registers). content_of rs n)
          (a_list_is_written registers pairs now (All-from_recursion _ pairs (each_weaker _ (λ (x : ℕ × ℕ). x.1 ≡ now x.0) (λ x h. h.1) pairs right))
          ∙ ap (λ (ws : List ℕ). all_written registers ws now) (writes_are ranges nothing [] packet own))
          ∙ all_written_is registers (stage_writes ranges own) now n (begin_register p ranges ranged no_number registers kept_apart n in_it) placed (record {
            apart = λ other among. begin_apart p ranges ranged no_number registers kept_apart other n
                (sym (starts_parts other) ∙ or_right (is_among other (numbers_in p.handed)) (is_among other (stage_writes ranges own)) among) in_it;
          })

      begun_one : (v : ValueId) (n : ℕ) → number_in ranges v ≡ Some n → is_among n starts ≡ true → content_of after n ≡ begun_with v
      begun_one v n is in_it = content_is n in_it ∙ elim (cases_Bool (crosses p.handed v)) [
        | inl here ↦ ap (λ b. cond b (now n) (content_of registers n)) (handed_fresh p ranges ranged n (sym (crosses_by v n is) ∙ here))
            ∙ sym (cond-true (crosses p.handed v) (handed p.handed (value_in registers) v) (after_stage p.code.given 0 nothing [] packet v) here
            ∙ handed_is p.handed (handed_known p ranges ranged) v n is here)
        | inr other ↦ (
            let among : is_among n (stage_writes ranges own) ≡ true =
            sym (ap (λ b. b || is_among n (stage_writes ranges own)) (sym (crosses_by v n is) ∙ other)) ∙ starts_parts n ∙ in_it in
            ap (λ b. cond b (now n) (content_of registers n)) among ∙ sym (ap (λ b. cond b (now n) 0) among)
            ∙ input_is v n is
            ∙ sym (cond-false (crosses p.handed v) (handed p.handed (value_in registers) v) (after_stage p.code.given 0 nothing [] packet v) other)
            )
      ]

      pub begins_with : BeginsWith ranges starts begun_with after
      begins_with = record {
        begun = begun_one;
        others = λ v n is outside.
            let parts = or_parts (is_among n (numbers_in p.handed)) (is_among n (stage_writes ranges own)) (starts_parts n ∙ outside) in
            cond-false (crosses p.handed v) (handed p.handed (value_in registers) v) (after_stage p.code.given 0 nothing [] packet v) (crosses_by v n is ∙ parts.0)
            ∙ sym (input_is v n is) ∙ ap (λ b. cond b (now n) 0) parts.1;
        unknown = λ v none.
            cond-false (crosses p.handed v) (handed p.handed (value_in registers) v) (after_stage p.code.given 0 nothing [] packet v)
            (unknown_stays_out p.handed (handed_known p ranges ranged) v none)
            ∙ unknown_stays ranges 0 nothing [] packet v none refl p.code.given (given_fit p ranges ranged packet (λ reads s. results_one p.tables reads packet s.work) nothing);
      }
