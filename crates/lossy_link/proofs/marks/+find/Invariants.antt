use Rattle.lossy_link.proofs.marks.+find.Given as goal

abbrev pub decreases-find : goal.decreases-find
decreases-find l = l.span
