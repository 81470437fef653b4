use Rattle.run_text.proofs.Bodies.{Fills}
use Rattle.run_text.proofs.body.fill.Given as goal

abbrev pub invariant-loop-at : goal.invariant-loop-at
invariant-loop-at l = Fills l.digits l.bytes l.at
