use Rattle.std.proofs.Common.{◌≡◌, suc, ◌+◌, Some, None, true, false, ◌∷◌, drop, sym, ap, ◌∙◌, inr, arith}
use Rattle.std.proofs.lemmas.Bool.Decides.{nat_tests}
use Rattle.gal_io.specs.Lines.{lines}
use Rattle.report_text.specs.Machine.{ended, line_read}
use Rattle.report_text.proofs.Declared.{all_known}
use Rattle.report_text.proofs.Reports.{line_on, line_stop, read_is, read_only, taken_no, taken_yes, text_stop, whole_walked}
use Rattle.lemmas.proofs.Lists.{drop_line, line_within}
use Rattle.report_text.proofs.report.read_run.Goals as goal

pub loop-line-preserved : goal.loop-line-preserved
loop-line-preserved c =
    let ls = lines c.args.text.now in
    let l = c.in-Some.line.now in
    let n = c.loop-line.number in
    let rest = lines c.in-Some.behind.now in
    let next : drop n ls ≡ l ∷ rest = sym c.loop-line.invariant.ahead ∙ c.in-Some.ensures.parts in
    let yes_it_is : c.in_ok-taken.taken ≡ true = grind (arith, nat_tests, c.if-not-taken.false) in
    let told : line_read c.args.objects.now c.loop-line.reading l ≡ Some c.take_line.new.self =
    ap (λ o. line_read o c.loop-line.reading l) (sym c.as_slice.ensures) ∙ taken_yes c.in_ok-taken.taken c.take_line.new.self _ c.in_ok-taken.ensures yes_it_is in
    let up : suc n ≡ n + 1 = omega arith in
    record {
      within = omega (arith, line_within n l ls rest next);
      bytes = omega (arith, c.in-Some.ensures.shorter, c.loop-line.invariant.bytes);
      ahead = sym (drop_line n l ls rest next) ∙ ap (λ m. drop m ls) up;
      read = line_on c.args.objects.now n ls rest l c.loop-line.reading c.take_line.new.self next c.loop-line.invariant.read told;
    }

pub returns-then-not-taken-clause-err : goal.returns-then-not-taken-clause-err
returns-then-not-taken-clause-err c =
    let l = c.in-Some.line.now in
    let n = c.loop-line.number in
    let rest = lines c.in-Some.behind.now in
    let next : drop n (lines c.args.text.now) ≡ l ∷ rest = sym c.loop-line.invariant.ahead ∙ c.in-Some.ensures.parts in
    let not_it_is : c.in_ok-taken.taken ≡ false = grind (arith, nat_tests, c.if-not-taken.true) in
    let told : line_read c.args.objects.now c.loop-line.reading l ≡ None =
    ap (λ o. line_read o c.loop-line.reading l) (sym c.as_slice.ensures) ∙ taken_no c.in_ok-taken.taken c.take_line.new.self _ c.in_ok-taken.ensures not_it_is in
    inr (line_stop c.args.objects.now (all_known c.args.objects.now c.requires) n c.args.text.now rest l c.loop-line.reading next c.loop-line.invariant.read told)

pub returns-in-Some-finish : goal.returns-in-Some-finish
returns-in-Some-finish c =
    let i = c.loop-line.invariant in
    let objects = c.args.objects.now in
    let run = c.in-Some-finish.run' in
    let known = all_known objects c.requires in
    let whole = whole_walked objects c.loop-line.number (lines c.args.text.now) (Some c.loop-line.reading) i.within (sym i.ahead ∙ ap lines c.in_default.ensures.parts) i.read in
    let is : ended c.loop-line.reading ≡ Some run = sym c.finish.ensures ∙ c.in-Some-finish.is in
    record {
      ok = read_is objects known c.args.text.now c.loop-line.reading run whole is;
      only = λ other h. read_only objects known c.args.text.now c.loop-line.reading run other whole is h;
      err = tt;
    }

pub returns-in-None-clause-err : goal.returns-in-None-clause-err
returns-in-None-clause-err c =
    let i = c.loop-line.invariant in
    let is : ended c.loop-line.reading ≡ None = sym c.finish.ensures ∙ c.in-None.is in
    inr (text_stop c.args.objects.now (all_known c.args.objects.now c.requires) c.loop-line.number c.args.text.now c.loop-line.reading i.within (sym i.ahead ∙ ap lines c.in_default.ensures.parts) i.read is)
