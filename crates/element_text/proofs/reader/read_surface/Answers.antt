use Rattle.std.proofs.Common.{inr, map, ◌-◌, sym, ap, ◌∙◌, arith}
use Rattle.element_lang.specs.Accepted.{offset_at}
use Rattle.std.proofs.lemmas.List.{length-map}
use Rattle.element_tokens.specs.Tokens.{placed_of}
use Rattle.element_grammar.specs.Surface.{surface_tree, surface_object}
use Rattle.element_text.proofs.Late.{many_objects, broken_rule, middlebox_answer}
use Rattle.element_text.proofs.reader.read_surface.Goals as goal

pub returns-then-objects-gt-MAX_OBJECTS : goal.returns-then-objects-gt-MAX_OBJECTS
returns-then-objects-gt-MAX_OBJECTS c =
    let text = c.args.text.now in
    let count = length-map c.args.source.now.objects.items (surface_object text) in
    let many = many_objects text (map (placed_of text) c.args.found.now) (surface_tree text c.args.source.now) c.requires c.len-objects.result in
    inr (many (omega (arith, c.len-objects.ensures, count)) (omega (arith, c.if-objects-gt-MAX_OBJECTS.true)))

pub returns-in-Ok-None : goal.returns-in-Ok-None
returns-in-Ok-None c =
    let text = c.args.text.now in
    let count = length-map c.args.source.now.objects.items (surface_object text) in
    middlebox_answer text (map (placed_of text) c.args.found.now) (surface_tree text c.args.source.now) c.requires c.read_unbroken.result
    (omega (arith, c.len-objects.ensures, count, c.if-objects-gt-MAX_OBJECTS.false)) c.read_unbroken.ensures

pub returns-in-Ok-Some : goal.returns-in-Ok-Some
returns-in-Ok-Some c =
    let text = c.args.text.now in
    let found = c.args.found.now in
    let count = length-map c.args.source.now.objects.items (surface_object text) in
    let places = length-map found (placed_of text) in
    let b = c.in-Ok-Some.broken in
    let there = c.offset_at.ensures ∙ ap (λ n. offset_at text (map (placed_of text) found) (n - b.at)) (sym places) in
    let rule = broken_rule text (map (placed_of text) found) (surface_tree text c.args.source.now) c.requires b c.offset_at.result in
    inr (rule (omega (arith, c.len-objects.ensures, count, c.if-objects-gt-MAX_OBJECTS.false)) (sym c.in-Ok-Some.ensures ∙ c.in-Ok-Some.field-0-is) there)
