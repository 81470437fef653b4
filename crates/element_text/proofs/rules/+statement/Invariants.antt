use Rattle.std.proofs.Common.{drop}
use Rattle.element_text.specs.Scopes.{env_of}
use Rattle.element_text.proofs.BodyNumbers.{Numbering}
use Rattle.element_text.proofs.rules.+statement.Given as goal

abbrev pub invariant-block-loop-next : goal.invariant-block-loop-next
invariant-block-loop-next l = Numbering l.text (env_of l.fn.scope) (env_of l.scope) l.body.items (drop l.next-index l.source) l.source
