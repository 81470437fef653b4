use Rattle.std.proofs.Common.{◌≡◌, ◌<◌, length, ap, arith}
use Rattle.flat_ir.specs.Program.{Step, program_of, step_at}
use Rattle.split_validate.proofs.Instructions.{same_count}
use Rattle.split_model.proofs.Steps.{step_is}
use Rattle.split_validate.proofs.rules.breaks_6.Goals as goal

pub bounds-guarded-one : goal.bounds-guarded-one
bounds-guarded-one c =
    let f = c.args.f.now in
    let there : c.args.i < length c.as_slice.result.now = omega (arith, ap length c.as_slice.ensures) in
    let at = step_is f c.as_slice.result.now c.args.i c.index-as_slice-i.result c.as_slice.ensures there c.index-as_slice-i.is in
    let same : (step_at (program_of f) c.args.i).block ≡ c.index-as_slice-i.result.block = ap (λ (s : Step). s.block) at in
    let low = c.requires.formed.blocks c.args.i (omega (arith, same_count f)) in
    omega (arith, low, same, c.requires.guarded.count)
