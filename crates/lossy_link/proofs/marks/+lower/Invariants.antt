use Rattle.lossy_link.proofs.marks.+lower.Given as goal

abbrev pub decreases-lower : goal.decreases-lower
decreases-lower l = l.span
