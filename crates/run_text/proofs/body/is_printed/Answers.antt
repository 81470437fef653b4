use Rattle.std.proofs.Common.{◌&&◌, Bool, sym, ap, ◌∙◌, subst}
use Rattle.std.proofs.lemmas.Bool.{eq-eqb}
use Rattle.std.specs.List.{list_all}
use Rattle.run_text.specs.Body.{is_printed_digit}
use Rattle.run_text.proofs.Bodies.{Tells, capitals_tell, printed_or_not}
use Rattle.run_text.proofs.body.is_printed.Goals as goal

pub returns-then-has_capitals : goal.returns-then-has_capitals
returns-then-has_capitals c = capitals_tell c.args.text.now (sym c.has_capitals.ensures ∙ c.if-has_capitals.true)

pub returns-then-text-eq0 : goal.returns-then-text-eq0
returns-then-text-eq0 c =
    let even = ap (λ (b : Bool). b && list_all is_printed_digit c.args.text.now) (eq-eqb _ _ c.if-text-eq0.true) in
    subst (Tells c.args.text.now) (even ∙ sym c.are_printed_digits.ensures) (printed_or_not c.args.text.now)
