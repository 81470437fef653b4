use Rattle.std.proofs.Common.{◌≡◌, ◌∙◌, ◌&&◌, IfOk, List, arith, false, subst, sym}
use Rattle.std.specs.Prelude.{nat_lt, not}
use Rattle.std.proofs.lemmas.Bool.{true≢false}
use Rattle.flat_ir.specs.Registers.{packet_of}
use Rattle.transfer_header.specs.Registers.{Registers}
use Rattle.switch_ir.specs.Code.{code_of}
use Rattle.switch_ir.specs.Meaning.{pass_values}
use Rattle.switch_ir.specs.Tables.{seen_tables}
use Rattle.switch_ir.specs.declared.port.UpEnd.TheVariants.{Going}
use Rattle.switch_machine.specs.declared.numbering.ValueRange.{ValueRange}
use Rattle.switch_machine.specs.declared.sides.Side.{Side}
use Rattle.switch_machine.specs.Keeping.{kept}
use Rattle.switch_machine.specs.Numbers.{AreHeld}
use Rattle.switch_machine.specs.Sides.{staging, EndsOn}
use Rattle.switch_machine.specs.UnderWay.{passes_of, Enters, HasEnd}
use Rattle.switch_machine.proofs.LoadedCode.{both_stay, passes_stay}
use Rattle.switch_machine.proofs.PassEnds.{at_end, going_ends, is_of, none_left, some_left}
use Rattle.std.proofs.lemmas.Result.{IfOk-weaker}
use Rattle.switch_machine.proofs.loaded_pass.LoadedPass.begin.Goals as goal
use Rattle.switch_machine.proofs.loaded_pass.LoadedPass.begin.Goals.{then-whole-via-then-whole, then-whole-via-else-whole+then-len-eq1}

pub returns-then-whole-clause-enters : goal.returns-then-whole-clause-enters
returns-then-whole-clause-enters c given begin =
    let l = c.args.self.now in
    let marked = c.leaves_work-leaves.new.self in
    let marks = c.leaves_work-leaves.ensures in
    let code = code_of c.args.code.now in
    let packet = packet_of c.args.arrival.now in
    let made = both_stay c.run.ensures.made marks.made in
    let reads = pass_values (staging l.side code).code given (seen_tables c.args.tables.now) packet in
    let Holds : List ValueRange × Registers × Side → Type 0 = λ (ranges, rs, s). AreHeld ranges rs reads (kept (staging s code)) in
    let held = subst Holds (λ i. (sym marks.made.ranges i, sym marks.registers i, sym made.side i)) (c.run.ensures.values code given c.requires.pass c.requires.safe begin) in
    let HasIts : Side → Type 0 = λ s. IfOk c.end.result (HasEnd s code c.args.number packet false (EndsOn s code reads c.args.number packet)) in
    let none : (not c.args.whole && nat_lt 0 (staging l.side code).code.highest) ≡ false = elim c.then-whole.branch [
      | then-whole-via-then-whole w ↦ none_left c.args.whole _ (λ e. absurd (true≢false (sym w.if-whole.true ∙ e)))
      | then-whole-via-else-whole+then-len-eq1 w ↦ none_left c.args.whole _ (λ e. omega (arith, w.if-len-eq1.true, w.len.ensures, c.requires.pass.ready.count))
    ] in
    IfOk-weaker c.end.result _ (λ end. Enters l.side code c.args.tables.now c.args.whole c.args.number packet given end (passes_of code l) (passes_of code marked))
    (λ end h. at_end l.side code c.args.tables.now c.args.whole c.args.number packet given end (passes_of code l) (passes_of code marked) h
    (passes_stay code made (marks.active ∙ c.run.ensures.active)) none)
    (subst HasIts made.side (c.end.ensures.ends reads held))

pub returns-clause-enters : goal.returns-clause-enters
returns-clause-enters c given begin =
    let l = c.args.self.now in
    let code = code_of c.args.code.now in
    let packet = packet_of c.args.arrival.now in
    let entered = c.in_ok-enter.ensures.enters code c.requires.pass c.requires.safe in
    record {
      begun = (entered.0, entered.1 given begin, entered.2);
      ends = record {
        goes = some_left c.args.whole _ c.if-whole.false (λ e. c.if-len-eq1.false (omega (arith, e, c.len.ensures, c.requires.pass.ready.count)));
        of = is_of l.side Going tt;
        frame = tt;
        told = going_ends l.side code (pass_values (staging l.side code).code given (seen_tables c.args.tables.now) packet) c.args.number packet;
      };
    }
