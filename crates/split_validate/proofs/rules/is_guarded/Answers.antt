use Rattle.std.proofs.Common.{◌≡◌, ◌||◌, false, get_or, sym, ap, ◌∙◌}
use Rattle.flat_ir.specs.declared.program.Block.{Block}
use Rattle.flat_ir.specs.Program.{program_of}
use Rattle.split_model.specs.Split.{is_post}
use Rattle.split_validate.proofs.Guards.{above_guarded, block_is, parent_there}
use Rattle.flat_ir.proofs.Laws.{lines_of_blocks-line}
use Rattle.split_validate.proofs.rules.is_guarded.Goals as goal

abbrev none : Block
none = record { parent = 0; cond = record { instruction = 0; result = 0 }; polarity = false }

pub bounds-marks-block : goal.bounds-marks-block
bounds-marks-block c =
    let f = program_of c.args.f.now in
    let block = get_or c.as_slice.result.now c.args.k none in
    parent_there f c.args.s.now c.args.k c.args.marks.now block c.requires.formed.parents c.requires.inside c.requires.marks
    (block_is f.blocks c.as_slice.result.now c.args.k none c.as_slice.ensures c.requires.inside)

pub returns-else-own : goal.returns-else-own
returns-else-own c =
    let f = program_of c.args.f.now in
    let block = get_or c.as_slice.result.now c.args.k none in
    let out : is_post c.args.s.now block.cond.instruction ≡ false = sym c.is_post-own.ensures ∙ c.if-own.false in
    sym (ap (λ b. b || get_or c.args.marks.now block.parent false) out)
    ∙ above_guarded f c.args.s.now c.args.k c.args.marks.now block c.requires.formed.parents (lines_of_blocks-line f.blocks c.args.k c.requires.formed.parents) c.requires.inside c.requires.marks
    (block_is f.blocks c.as_slice.result.now c.args.k none c.as_slice.ensures c.requires.inside)
