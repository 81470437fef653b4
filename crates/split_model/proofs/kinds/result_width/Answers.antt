use Rattle.std.proofs.Common.{◌<◌, subst, sym, arith, IsTrue}
use Rattle.gal_bits.specs.Fitting.{is_width}
use Rattle.flat_ir.specs.Program.{work_of}
use Rattle.split_model.proofs.Wide.{result_wide}
use Rattle.split_model.proofs.kinds.result_width.Goals as goal

pub width_of-requires : goal.width_of-requires
width_of-requires c =
    let some : 0 < c.args.place = omega arith in
    subst (λ w. IsTrue (is_width w)) (sym c.result_width.ensures) (result_wide c.args.objects.now (work_of c.args.kind.now) c.args.place c.requires.small some c.requires.place_in_range)
