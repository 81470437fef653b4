use Rattle.std.proofs.Common.{◌≡◌, ◌+◌, Some, None, true, false, ◌∷◌, drop, sym, ap, subst, ◌∙◌, inr, arith}
use Rattle.std.proofs.lemmas.Bool.Decides.{nat_tests}
use Rattle.gal_io.specs.Lines.{lines}
use Rattle.split_validate.specs.SplitLines.{IsRefused, IsSplitText}
use Rattle.split_validate.specs.SplitSteps.{ended}
use Rattle.split_validate.specs.declared.reading.SplitTextError.TheVariants.{Line}
use Rattle.split_validate.proofs.Gone.{at}
use Rattle.split_validate.proofs.TextLines.{all_read, drop_more, ended_early, line_on, line_stop, read_is, read_only, taken_no, taken_yes, text_stop}
use Rattle.lemmas.proofs.Lists.{line_within}
use Rattle.split_validate.proofs.reading.read_split.Goals as goal

pub loop-line-preserved : goal.loop-line-preserved
loop-line-preserved c =
    let i = c.loop-line.invariant in
    let ls = lines c.args.text.now in
    let l = c.in-Some.line.now in
    let n = c.loop-line.number in
    let rest = lines c.in-Some.behind.now in
    let old = c.loop-line.reading in
    let new = c.take_line.new.self in
    let next : drop n ls ≡ l ∷ rest = sym i.ahead ∙ c.in-Some.ensures.parts in
    let yes_it_is : c.in_ok-taken.taken ≡ true = grind (arith, nat_tests, c.if-not-taken.false) in
    let after = taken_yes c.in_ok-taken.taken new.progress new.parts.items _ c.in_ok-taken.ensures yes_it_is in
    let turn = line_on c.len-count.result n ls rest l old.progress old.parts.items (at new.progress new.parts.items) i.small next i.fits i.told after in
    record {
      small = i.small;
      within = omega (arith, line_within n l ls rest next);
      bytes = omega (arith, c.in-Some.ensures.shorter, i.bytes);
      ahead = drop_more n l ls rest next;
      fits = turn.fits;
      told = turn.told;
    }

pub returns-then-not-taken-clause-err : goal.returns-then-not-taken-clause-err
returns-then-not-taken-clause-err c =
    let i = c.loop-line.invariant in
    let ls = lines c.args.text.now in
    let l = c.in-Some.line.now in
    let n = c.loop-line.number in
    let rest = lines c.in-Some.behind.now in
    let old = c.loop-line.reading in
    let new = c.take_line.new.self in
    let next : drop n ls ≡ l ∷ rest = sym i.ahead ∙ c.in-Some.ensures.parts in
    let not_it_is : c.in_ok-taken.taken ≡ false = grind (arith, nat_tests, c.if-not-taken.true) in
    let after = taken_no c.in_ok-taken.taken new.progress new.parts.items _ c.in_ok-taken.ensures not_it_is in
    inr (subst (λ count. IsRefused count c.args.text.now (Line (n + 1))) c.len-count.ensures
    (line_stop c.len-count.result n c.args.text.now rest l old.progress old.parts.items i.small next i.fits i.told after))

pub returns-in-Some-finish-clause-ok : goal.returns-in-Some-finish-clause-ok
returns-in-Some-finish-clause-ok c =
    let i = c.loop-line.invariant in
    let r = c.loop-line.reading in
    let is : ended r.progress r.parts.items ≡ Some c.in-Some-finish.split = sym c.finish.ensures ∙ c.in-Some-finish.is in
    let all = all_read c.len-count.result c.loop-line.number c.args.text.now r.progress r.parts.items c.in-Some-finish.split i.within (sym i.ahead ∙ ap lines c.in_default.ensures.parts) i.fits i.told is in
    subst (λ count. IsSplitText count c.args.text.now c.in-Some-finish.split) c.len-count.ensures
    (read_is c.len-count.result c.args.text.now c.in-Some-finish.split i.small all.fits all.told)

pub returns-in-Some-finish-clause-only : goal.returns-in-Some-finish-clause-only
returns-in-Some-finish-clause-only c =
    let i = c.loop-line.invariant in
    let r = c.loop-line.reading in
    let is : ended r.progress r.parts.items ≡ Some c.in-Some-finish.split = sym c.finish.ensures ∙ c.in-Some-finish.is in
    let all = all_read c.len-count.result c.loop-line.number c.args.text.now r.progress r.parts.items c.in-Some-finish.split i.within (sym i.ahead ∙ ap lines c.in_default.ensures.parts) i.fits i.told is in
    λ other h. read_only c.len-count.result c.args.text.now c.in-Some-finish.split other i.small all.fits all.told
    (subst (λ count. IsSplitText count c.args.text.now other) (sym c.len-count.ensures) h)

pub returns-in-None-clause-err : goal.returns-in-None-clause-err
returns-in-None-clause-err c =
    let i = c.loop-line.invariant in
    let r = c.loop-line.reading in
    let is : ended r.progress r.parts.items ≡ None = sym c.finish.ensures ∙ c.in-None.is in
    inr (subst (λ count. IsRefused count c.args.text.now (Line (c.loop-line.number + 1))) c.len-count.ensures
    (text_stop c.len-count.result c.loop-line.number c.args.text.now r.progress r.parts.items i.small i.within (sym i.ahead ∙ ap lines c.in_default.ensures.parts) (ended_early r.progress r.parts.items is) i.fits i.told))
