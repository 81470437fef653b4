use Rattle.std.proofs.Common.{ap, sym, ◌∙◌}
use Rattle.std.specs.List.{find}
use Rattle.element_lang.specs.Mark.{stands}
use Rattle.element_lang.proofs.FirstByte.{no_symbol, symbol_by_first}
use Rattle.element_lang.proofs.mark.Mark.symbol_in_front.Goals as goal

pub returns-clause-found : goal.returns-clause-found
returns-clause-found c =
    let bytes = c.args.bytes.now in
    c.first_in_front.ensures.found
    ∙ (ap (find (stands bytes)) c.symbols_from.ensures ∙ symbol_by_first bytes c.in-Some.first.now (sym c.in-Some.ensures.value))

pub returns-in_default-clause-found : goal.returns-in_default-clause-found
returns-in_default-clause-found c = no_symbol c.args.bytes.now (sym c.in_default.ensures.value)
