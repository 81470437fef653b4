use Rattle.std.proofs.Common.{subst, sym, rules, arith}
use Rattle.element_lang.specs.View.{body_tree, tree}
use Rattle.element_interp.specs.Runnable.{IsRunnableBody}
use Rattle.element_interp.proofs.GoodRuns.{good_runs}
use Rattle.element_interp.proofs.KeptRuns.{run_kept}
use Rattle.element_interp.proofs.interp.run_in.Goals as goal

pub run_body-requires : goal.run_body-requires
run_body-requires c = subst (λ ss. IsRunnableBody (body_tree ss)) (sym c.deref.ensures.value) (good_runs (tree c.args.m.now) c.requires.good)

pub returns-in-Goes-clause-kept : goal.returns-in-Goes-clause-kept
returns-in-Goes-clause-kept c =
    run_kept (tree c.args.m.now) c.args.store.now c.run_body.new.store c.args.port c.args.packet.now c.requires.good c.ranges.port.fits (λ i. omega (arith, c.type_inv.packet i)) c.requires.size (search rules)

pub returns-in-Sends-clause-kept : goal.returns-in-Sends-clause-kept
returns-in-Sends-clause-kept c =
    run_kept (tree c.args.m.now) c.args.store.now c.run_body.new.store c.args.port c.args.packet.now c.requires.good c.ranges.port.fits (λ i. omega (arith, c.type_inv.packet i)) c.requires.size (search rules)
