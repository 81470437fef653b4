use Rattle.std.proofs.Common.{◌++◌, sym, ap, ◌∙◌}
use Rattle.std.proofs.lemmas.List.{length-map}
use Rattle.flat_ir.specs.Program.{program_of, step_of}
use Rattle.gallium_cli.specs.Answers.{heading_text}
use Rattle.gallium_cli.proofs.Written.{told_split}
use Rattle.gallium_cli.proofs.compile.compiled.Goals as goal

pub returns : goal.returns
returns c =
    let number = c.len.ensures ∙ sym (length-map c.args.f.now.code step_of) in
    let headed = c.in_ok-text.ensures ∙ ap (heading_text c.len.result) c.as_slice.ensures in
    let one = c.in_ok-extend.ensures.ok ∙ ap (λ x. c.in_ok-text.text ++ x) c.as_slice-2.ensures in
    let two = c.in_ok-extend-2.ensures.ok ∙ ap (λ x. c.extend.new.self ++ x) c.as_slice-3.ensures in
    told_split (program_of c.args.f.now) c.args.split.now c.args.writeback c.len.result c.in_ok-counts.counts
    c.in_ok-words.words c.in_ok-text.text c.in_ok-listing.listing c.in_ok-parts.parts c.extend.new.self c.extend-2.new.self
    c.in_ok-counts.ensures c.in_ok-words.ensures number headed c.in_ok-listing.ensures c.in_ok-parts.ensures.text one two
