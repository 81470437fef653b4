use Rattle.std.proofs.Common.{Err, inr, map, ap, ◌∙◌, ◌-◌, length, arith}
use Rattle.element_lang.specs.Accepted.{offset_at}
use Rattle.element_tokens.specs.Tokens.{placed_of}
use Rattle.element_grammar.specs.Surface.{surface_tree}
use Rattle.element_text.proofs.Refusals.{deep_answer, syntax_answer, only_surface}
use Rattle.element_text.proofs.reader.read_tokens.Goals as goal

pub returns-then-deepest-gt-MAX_DEPTH : goal.returns-then-deepest-gt-MAX_DEPTH
returns-then-deepest-gt-MAX_DEPTH c =
    inr (deep_answer c.args.text.now c.args.found.now c.requires c.depth-deepest.result c.depth-deepest.ensures c.if-deepest-gt-MAX_DEPTH.true)

pub read_surface-requires : goal.read_surface-requires
read_surface-requires c =
    only_surface c.args.text.now c.args.found.now c.requires (surface_tree c.args.text.now c.in-Ok.source)
    (omega arith) c.in-Ok.ensures.spelled c.in-Ok.ensures.only

pub returns-in-Err-Left : goal.returns-in-Err-Left
returns-in-Err-Left c =
    let text = c.args.text.now in
    let found = c.args.found.now in
    let left = c.in-Err-Left.left in
    let h = c.parse.ensures.wrong left (c.in-Err-Left.is ∙ ap Err c.in-Err-Left.field-0-is) in
    let there = c.offset_at.ensures ∙ ap (λ n. offset_at text (map (placed_of text) found) (length found - n)) c.in-Err-Left.left-is in
    inr (syntax_answer text found c.requires (length found - left) c.offset_at.result (omega arith) h.1 there)
