use Rattle.std.proofs.Common.{◌<◌, length, set, refl, sym, ap, ◌∙◌, arith}
use Rattle.std.proofs.lemmas.Bool.{and_parts}
use Rattle.state_store.specs.Fitted.{fits_row, keep_answer, kept_row}
use Rattle.state_store.specs.Kept.{have_widths}
use Rattle.state_store.specs.Placed.{placed_rows}
use Rattle.state_store.proofs.PackSteps.{same_count}
use Rattle.state_store.proofs.PlacedLaws.{full_answer, full_after, stored_answer, stored_after}
use Rattle.state_store.proofs.FittedLaws.{put_misfit_after, put_misfit_answer}
use Rattle.state_store.proofs.placed_rows.PlacedRows.put.Goals as goal

pub returns-then-not-fits-clause-answer : goal.returns-then-not-fits-clause-answer
returns-then-not-fits-clause-answer c =
    put_misfit_answer c.args.self.now c.args.key.now c.args.values.now (sym c.fits.ensures ∙ c.if-not-fits.true)

pub returns-then-not-fits-clause-after : goal.returns-then-not-fits-clause-after
returns-then-not-fits-clause-after c =
    put_misfit_after c.args.self.now c.args.key.now c.args.values.now (sym c.fits.ensures ∙ c.if-not-fits.true)

pub set-requires-clause-within : goal.set-requires-clause-within
set-requires-clause-within c = omega (arith, c.in-Some.ensures.within, c.len.ensures)

pub set-requires-clause-width : goal.set-requires-clause-width
set-requires-clause-width c =
    let o = c.self.inside in
    let v = c.args.values.now in
    let fit = ap (λ f. fits_row f c.args.key.now v) c.self.view_is ∙ sym c.fits.ensures ∙ c.if-not-fits.false in
    ap length c.as_slice.ensures ∙ sym (same_count o.values v (and_parts (have_widths o.keys c.args.key.now) (have_widths o.values v) fit).1)
    ∙ sym c.self.invariant.0

pub invariant_of-self : goal.invariant_of-self
invariant_of-self c =
    let width = ap (λ e. e.width) c.set.ensures in
    (width ∙ c.self.invariant.0, omega (arith, width, c.self.invariant.1))

pub returns-in-Some-clause-answer : goal.returns-in-Some-clause-answer
returns-in-Some-clause-answer c =
    let o = c.self.inside in
    let v = c.args.values.now in
    let fit = ap (λ f. fits_row f c.args.key.now v) c.self.view_is ∙ sym c.fits.ensures ∙ c.if-not-fits.false in
    let lt : c.in-Some.place < length o.rows.lists = omega (arith, c.in-Some.ensures.within, c.len.ensures) in
    stored_answer o.keys o.values o.rows.lists c.args.key.now v c.in-Some.place c.in-Some.ensures.place lt fit
    ∙ ap (λ f. keep_answer f c.args.key.now v) c.self.view_is

pub returns-in-Some-clause-after : goal.returns-in-Some-clause-after
returns-in-Some-clause-after c =
    let o = c.self.inside in
    let v = c.args.values.now in
    let fit = ap (λ f. fits_row f c.args.key.now v) c.self.view_is ∙ sym c.fits.ensures ∙ c.if-not-fits.false in
    let lt : c.in-Some.place < length o.rows.lists = omega (arith, c.in-Some.ensures.within, c.len.ensures) in
    ap (λ e. placed_rows o.keys o.values e.lists) c.set.ensures
    ∙ ap (λ x. placed_rows o.keys o.values (set o.rows.lists c.in-Some.place x)) c.as_slice.ensures
    ∙ stored_after o.keys o.values o.rows.lists c.args.key.now v c.in-Some.place c.in-Some.ensures.place lt fit
    ∙ ap (λ f. kept_row f c.args.key.now v) c.self.view_is

pub returns-in-None-clause-answer : goal.returns-in-None-clause-answer
returns-in-None-clause-answer c =
    let o = c.self.inside in
    let v = c.args.values.now in
    let fit = ap (λ f. fits_row f c.args.key.now v) c.self.view_is ∙ sym c.fits.ensures ∙ c.if-not-fits.false in
    full_answer o.keys o.values o.rows.lists c.args.key.now v fit
    (λ k e. let past = c.in-None.ensures.none refl k e in omega (arith, past, c.len.ensures))
    ∙ ap (λ f. keep_answer f c.args.key.now v) c.self.view_is

pub returns-in-None-clause-after : goal.returns-in-None-clause-after
returns-in-None-clause-after c =
    let o = c.self.inside in
    let v = c.args.values.now in
    let fit = ap (λ f. fits_row f c.args.key.now v) c.self.view_is ∙ sym c.fits.ensures ∙ c.if-not-fits.false in
    sym c.self.view_is
    ∙ full_after o.keys o.values o.rows.lists c.args.key.now v fit
    (λ k e. let past = c.in-None.ensures.none refl k e in omega (arith, past, c.len.ensures))
    ∙ ap (λ f. kept_row f c.args.key.now v) c.self.view_is
