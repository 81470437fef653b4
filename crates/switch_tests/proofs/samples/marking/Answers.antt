use Rattle.std.proofs.Common.{sym, subst}
use Rattle.state_store.specs.Kept.{IsKept}
use Rattle.state_store.specs.Store.{start_store}
use Rattle.switch_tests.proofs.Kept.{marks_kept}
use Rattle.switch_tests.proofs.samples.marking.Goals as goal

pub returns : goal.returns
returns c = subst (λ (os : _). IsKept os (start_store os)) (sym c.in_ok-objects.ensures) (marks_kept _ _)
