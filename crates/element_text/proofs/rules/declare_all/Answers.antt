use Rattle.lexer.specs.declared.token.Span.{Span}
use Rattle.element_text.proofs.DeclaredLocals.{width_within, declaring_wide}
use Rattle.element_text.proofs.rules.declare_all.Goals as goal

none : Span
none = record { offset = 0; len = 0 }

pub bounds-widths-i : goal.bounds-widths-i
bounds-widths-i c = width_within c.loop-i.i none c.loop-i-test.true c.loop-i.invariant c.requires

pub width_of-requires : goal.width_of-requires
width_of-requires c = declaring_wide c.loop-i.i none c.loop-i-test.true c.loop-i.invariant c.requires
