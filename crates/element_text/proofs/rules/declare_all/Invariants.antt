use Rattle.std.proofs.Common.{drop}
use Rattle.element_text.specs.Scopes.{env_of}
use Rattle.element_text.proofs.DeclaredLocals.{Declaring}
use Rattle.element_text.proofs.rules.declare_all.Given as goal

abbrev pub invariant-loop-i : goal.invariant-loop-i
invariant-loop-i l = Declaring l.text (env_of l.fn.scope) (env_of l.scope) l.numbers.items (drop l.i l.names) l.names (drop l.i l.widths) l.widths
