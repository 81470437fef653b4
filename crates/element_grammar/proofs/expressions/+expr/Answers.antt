use Rattle.std.proofs.Common.{sym}
use Rattle.element_grammar.proofs.Operands.{made_cast, found_alone, no_symbol, other_mark, found_infix, found_shift}
use Rattle.element_grammar.proofs.expressions.+expr.Goals as goal

pub cast-returns-clause-ok : goal.cast-returns-clause-ok
cast-returns-clause-ok t c = made_cast c.in_ok-of_one.ensures.ok c.in_ok-rest.ensures.ok c.in_ok-width.ensures.ok c.in_ok-value.ensures.ok

pub operated-returns-in_default-clause-ok : goal.operated-returns-in_default-clause-ok
operated-returns-in_default-clause-ok t c = found_alone (no_symbol c.in_default.ensures.none)

pub operated-returns-in-Some-infix_of-clause-ok : goal.operated-returns-in-Some-infix_of-clause-ok
operated-returns-in-Some-infix_of-clause-ok t c =
    found_infix c.in_ok-of_two.ensures.ok c.in-Some.ensures.some (sym c.in-Some-infix_of.ensures) c.in_ok-right.ensures.ok

pub operated-returns-in-Some-shift_of-clause-ok : goal.operated-returns-in-Some-shift_of-clause-ok
operated-returns-in-Some-shift_of-clause-ok t c =
    found_shift c.in_ok-shift_by.ensures.ok c.in-Some.ensures.some (sym c.in-Some-shift_of.ensures) c.in_ok-by.ensures.ok

pub operated-returns-clause-ok : goal.operated-returns-clause-ok
operated-returns-clause-ok t c =
    found_alone (other_mark c.in-Some.ensures.some (sym c.in_default-infix_of.ensures) (sym c.in_default-shift_of.ensures))
