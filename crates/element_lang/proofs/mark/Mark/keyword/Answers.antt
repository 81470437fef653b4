use Rattle.std.proofs.Common.{ap, sym, ◌∙◌}
use Rattle.std.specs.List.{find}
use Rattle.std.specs.Str.{bytes_eq}
use Rattle.element_lang.specs.Mark.{spelling}
use Rattle.element_lang.proofs.FirstByte.{keyword_by_first, no_keyword}
use Rattle.element_lang.proofs.mark.Mark.keyword.Goals as goal

pub returns : goal.returns
returns c =
    let word = c.args.word.now in
    c.first_written.ensures
    ∙ (ap (find (λ m. bytes_eq (spelling m) word)) c.keywords_from.ensures
    ∙ keyword_by_first word c.in-Some.first.now (sym c.in-Some.ensures.value))

pub returns-in_default : goal.returns-in_default
returns-in_default c = no_keyword c.args.word.now (sym c.in_default.ensures.value)
