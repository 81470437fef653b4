use Rattle.std.proofs.Common.{◌+◌, sym, subst}
use Rattle.flat_ir.specs.Program.{program_of}
use Rattle.split_validate.specs.Flaws.{ArePostGuarded}
use Rattle.split_validate.proofs.Guards.{one_marked}
use Rattle.split_validate.proofs.rules.post_guarded.Goals as goal

pub loop-k-preserved : goal.loop-k-preserved
loop-k-preserved c =
    let f = program_of c.args.f.now in
    subst (ArePostGuarded f c.args.s.now (c.loop-k.k + 1)) (sym c.in_ok-push.ensures.items)
    (one_marked f c.args.s.now c.loop-k.k c.loop-k.marks.items c.is_guarded-mark.result c.loop-k.invariant c.is_guarded-mark.ensures)
