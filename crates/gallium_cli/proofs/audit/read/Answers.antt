use Rattle.element_lang.specs.View.{tree}
use Rattle.gallium_cli.proofs.Untrue.{line_answered}
use Rattle.gallium_cli.proofs.audit.read.Goals as goal

pub returns-in-Err-Line-clause-err : goal.returns-in-Err-Line-clause-err
returns-in-Err-Line-clause-err c = λ packets.
    line_answered (tree c.args.m.now) packets c.args.text.now c.in-Err-Line.number
    c.in-Err-Line.field-0 c.in-Err-Line.ensures.err c.in-Err-Line.field-0-is
