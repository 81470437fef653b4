use Rattle.flat_ir.specs.Program.{program_of}
use Rattle.gallium_cli.proofs.Written.{told_check}
use Rattle.gallium_cli.proofs.check.checked.Goals as goal

pub returns : goal.returns
returns c =
    told_check (program_of c.args.f.now) c.args.split.now c.args.writeback c.in_ok-counts.counts c.in_ok-words.words
    c.as_slice.result.now c.in_ok-text.text c.extend.new.self c.extend-2.new.self c.in_ok-counts.ensures
    c.in_ok-words.ensures c.as_slice.ensures c.in_ok-text.ensures c.in_ok-extend.ensures.ok c.in_ok-extend-2.ensures.ok
