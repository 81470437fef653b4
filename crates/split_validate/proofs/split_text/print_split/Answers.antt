use Rattle.std.proofs.Common.{length, sym, subst}
use Rattle.split_validate.specs.SplitLines.{IsSplitText}
use Rattle.split_validate.proofs.TextLines.{printed_is}
use Rattle.split_validate.proofs.split_text.print_split.Goals as goal

pub returns-clause-back : goal.returns-clause-back
returns-clause-back c = λ few.
    subst (λ text. IsSplitText (length c.args.s.now) text c.args.s.now) (sym c.in_ok-text.ensures.text)
    (printed_is c.args.s.now c.in_ok-text.ensures.bounded few)
