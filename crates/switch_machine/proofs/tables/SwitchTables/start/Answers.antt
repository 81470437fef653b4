use Rattle.std.proofs.Common.{◌≡◌, ◌+◌, ℕ, ◌≤◌, ◌∷◌, [], false, None, ap, subst, refl, length, arith}
use Rattle.std.proofs.lemmas.List.{length-append}
use Rattle.switch_ir.specs.Code.{code_of}
use Rattle.switch_ir.specs.Tables.{declared_at}
use Rattle.switch_machine.proofs.TableRows.{AreStarts, one_more_start, is_start}
use Rattle.switch_machine.proofs.tables.SwitchTables.start.Goals as goal

pub loop-number-init : goal.loop-number-init
loop-number-init c = record { count = ap length c.new-pairs.ensures.items; pairs = λ o lt. absurd (omega (arith, lt)) }

pub loop-number-preserved : goal.loop-number-preserved
loop-number-preserved c =
    let n = c.loop-number.number in
    record {
      count = omega (arith, ap length c.in_ok-push.ensures.items, length-append c.loop-number.pairs.items (c.in_ok-start_pair.field-0 ∷ []), c.loop-number.invariant.count);
      pairs = one_more_start c.args.code.now.writeback c.as_slice-tables.result.now n (n + 1) c.loop-number.pairs.items c.push.new.self.items c.in_ok-start_pair.field-0
          c.in_ok-push.ensures.items c.loop-number.invariant.count refl c.in_ok-start_pair.ensures c.loop-number.invariant.pairs;
    }

pub returns : goal.returns
returns c =
    let n = c.loop-number.number in
    let tables = c.as_slice-tables.ensures in
    is_start (code_of c.args.code.now) (record { pairs = c.loop-number.pairs.items; bit = false }) n c.loop-number.invariant.count refl
    (subst (λ ts. (o : ℕ) → n ≤ o → declared_at ts o ≡ None) tables (λ o le. c.object_count-number-end.ensures o (omega (arith, le, c.loop-number-test.false))))
    (subst (λ ts. AreStarts c.args.code.now.writeback ts n c.loop-number.pairs.items) tables c.loop-number.invariant.pairs)
