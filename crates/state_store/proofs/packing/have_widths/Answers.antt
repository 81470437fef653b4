use Rattle.std.proofs.Common.{◌≡◌, ◌^◌, ◌<◌, ◌≤◌, ◌+◌, true, false, ◌&&◌, length, drop, get_or, sym, ap, ap₂, ◌∙◌, arith}
use Rattle.std.specs.Prelude.{nat_lt}
use Rattle.std.proofs.lemmas.List.{drop_all}
use Rattle.state_store.specs.Kept.{have_widths}
use Rattle.state_store.proofs.PackSteps.{next_of, other_count}
use Rattle.state_store.proofs.packing.have_widths.Goals as goal

pub returns-then-widths-numbers : goal.returns-then-widths-numbers
returns-then-widths-numbers c = sym (other_count c.args.widths.now c.args.numbers.now c.if-widths-numbers.true)

pub returns-then-not-fits : goal.returns-then-not-fits
returns-then-not-fits c =
    let ws = c.args.widths.now in
    let ns = c.args.numbers.now in
    let i = c.loop-i.i in
    let wide : i < length ws = c.loop-i-test.true in
    let long : i < length ns = omega arith in
    let misfit : nat_lt (get_or ns i 0) (2 ^ get_or ws i 0) ≡ false = sym c.fits.ensures ∙ c.if-not-fits.true in
    sym (sym c.loop-i.invariant.fit ∙ ap₂ have_widths (next_of ws i wide) (next_of ns i long) ∙ ap (λ b. b && have_widths (drop (i + 1) ws) (drop (i + 1) ns)) misfit)

pub loop-i-preserved : goal.loop-i-preserved
loop-i-preserved c =
    let ws = c.args.widths.now in
    let ns = c.args.numbers.now in
    let i = c.loop-i.i in
    let wide : i < length ws = c.loop-i-test.true in
    let long : i < length ns = omega arith in
    let fits : nat_lt (get_or ns i 0) (2 ^ get_or ws i 0) ≡ true = sym c.fits.ensures ∙ c.if-not-fits.false in
    record {
      within = omega arith;
      fit = ap (λ b. b && have_widths (drop (i + 1) ws) (drop (i + 1) ns)) (sym fits) ∙ sym (ap₂ have_widths (next_of ws i wide) (next_of ns i long)) ∙ c.loop-i.invariant.fit;
    }

pub returns : goal.returns
returns c =
    let ws = c.args.widths.now in
    let ns = c.args.numbers.now in
    let i = c.loop-i.i in
    let wide : length ws ≤ i = omega arith in
    let long : length ns ≤ i = omega arith in
    sym (sym c.loop-i.invariant.fit ∙ ap₂ have_widths (drop_all i ws wide) (drop_all i ns long))
