use Rattle.std.proofs.Common.{◌≤◌, ◌<◌, ◌+◌, ◌-◌, ◌%◌, arith, ◌∙◌, length-set}
use Rattle.gal_io.proofs.NumberLemmas.{first_digit, next_digit, nothing_written}
use Rattle.lemmas.proofs.Numbers.{few_digits, more_digits}
use Rattle.std.proofs.lemmas.Fmt.{decimal_nonempty}
use Rattle.gal_io.proofs.number.write_decimal.Goals as goal

pub loop-rest-init : goal.loop-rest-init
loop-rest-init c = record {
  digits = nothing_written c.args.number 20 c.args.digits.now (omega (arith, c.told-digits));
  room = few_digits c.args.number c.ranges.number.fits;
  within = omega (arith, c.told-digits);
  size = c.told-digits;
}

pub overflow_sub-start : goal.overflow_sub-start
overflow_sub-start c =
    let some = decimal_nonempty c.loop-rest.rest c.loop-rest.auto.rest-fits.fits in
    omega (arith, some, c.loop-rest.invariant.room)

pub returns-then-rest-lt10-clause-digits : goal.returns-then-rest-lt10-clause-digits
returns-then-rest-lt10-clause-digits c =
    let held = c.loop-rest.invariant in
    let some = decimal_nonempty c.loop-rest.rest c.loop-rest.auto.rest-fits.fits in
    first_digit c.args.number c.loop-rest.rest c.loop-rest.start c.loop-rest.digits (omega (arith, c.if-rest-lt10.true)) (omega (arith, some, held.room))
    held.within held.digits

pub loop-rest-preserved : goal.loop-rest-preserved
loop-rest-preserved c =
    let held = c.loop-rest.invariant in
    let fits = c.loop-rest.auto.rest-fits.fits in
    let large : 10 ≤ c.loop-rest.rest = omega (arith, c.if-rest-lt10.false) in
    let some : 0 < c.loop-rest.start = omega (arith, decimal_nonempty c.loop-rest.rest fits, held.room) in
    let size = length-set c.loop-rest.digits (c.loop-rest.start - 1) (48 + c.loop-rest.rest % 10) ∙ held.size in
    record {
      digits = next_digit c.args.number c.loop-rest.rest c.loop-rest.start c.loop-rest.digits large fits some held.within held.digits;
      room = omega (arith, more_digits c.loop-rest.rest large fits, held.room);
      within = omega (arith, size, held.within, held.size);
      size = size;
    }
