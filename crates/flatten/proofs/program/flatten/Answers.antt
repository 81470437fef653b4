use Rattle.std.proofs.Common.{◌≡◌, refl}
use Rattle.element_lang.specs.View.{tree}
use Rattle.flat_ir.specs.WellFormed.{IsWellFormed}
use Rattle.flatten.specs.Same.{MeansTheSame}
use Rattle.flatten.proofs.Handed.{handed}
use Rattle.flatten.proofs.Laws.{flattened_is_well_formed, flattening_keeps_the_meaning-store, flattening_keeps_the_meaning-verdict}
use Rattle.flatten.proofs.program.flatten.Goals as goal

pub returns-clause-meaning : goal.returns-clause-meaning
returns-clause-meaning c =
    let m = tree c.args.m.now in
    handed m (λ f. MeansTheSame f m) c.built.result
    (λ st packet kept arrives. (flattening_keeps_the_meaning-store m st packet c.requires.good kept arrives, flattening_keeps_the_meaning-verdict m st packet c.requires.good kept arrives))
    c.built.ensures.program

pub returns-clause-formed : goal.returns-clause-formed
returns-clause-formed c =
    let m = tree c.args.m.now in
    handed m IsWellFormed c.built.result (flattened_is_well_formed m c.requires.good) c.built.ensures.program

pub returns-clause-objects : goal.returns-clause-objects
returns-clause-objects c =
    let m = tree c.args.m.now in
    handed m (λ f. f.objects ≡ m.objects) c.built.result refl c.built.ensures.program
