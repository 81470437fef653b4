use Rattle.std.proofs.Common.{false, is_none, map, sym, ◌∙◌}
use Rattle.element_lang.specs.Broken.{local_named, object_named}
use Rattle.element_tokens.specs.Tokens.{span_text}
use Rattle.element_rules.specs.Seen.{local_of, objects_of}
use Rattle.element_rules.proofs.Scope.{local_last}
use Rattle.lemmas.proofs.Tests.{and_second}
use Rattle.element_rules.proofs.names.declare.Goals as goal

pub returns-clause-locals : goal.returns-clause-locals
returns-clause-locals c =
    let text = c.args.text.now in
    let es = c.args.locals.now.entries in
    let word = span_text text c.args.name in
    let free = sym c.is_free.ensures ∙ c.if-not-is_free.false in
    λ _. local_last es c.in_ok-word.word c.args.width word (sym c.in_ok-word.ensures)
    (and_second (is_none (object_named (objects_of text c.args.objects.now) word)) (is_none (local_named (map local_of es) word)) free)
    c.in_ok-insert.ensures.entries
