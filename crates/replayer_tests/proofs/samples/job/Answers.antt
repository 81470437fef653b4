use Rattle.std.proofs.Common.{List, subst, sym}
use Rattle.state_store.specs.Kept.{IsKept}
use Rattle.state_store.specs.Store.{start_store}
use Rattle.state_store.specs.declared.object.ObjectDecl.{ObjectDecl}
use Rattle.element_lang.specs.View.{tree}
use Rattle.element_interp.proofs.Laws.{stores_are_kept-start}
use Rattle.replayer_tests.proofs.samples.job.Goals as goal

pub job_of-requires-clause-kept : goal.job_of-requires-clause-kept
job_of-requires-clause-kept c =
    subst (λ (objects : List ObjectDecl). IsKept objects (start_store objects)) (sym c.in_ok-flat.ensures.objects)
    (stores_are_kept-start (tree c.in_ok-middlebox.middlebox) c.in_ok-middlebox.ensures.ok.spelling.good)
