use Rattle.element_print.proofs.token_lengths.+digits.Given as goal

abbrev pub decreases-digits : goal.decreases-digits
decreases-digits l = l.n
