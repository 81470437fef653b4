use Rattle.std.proofs.Common.{map, sym, ◌∙◌}
use Rattle.std.proofs.lemmas.List.{length-map}
use Rattle.element_lang.specs.Surface as surface
use Rattle.element_grammar.specs.Surface.{surface_literal}
use Rattle.element_rules.proofs.Doubles.{other_widths}
use Rattle.element_rules.proofs.rows.have_widths.Goals as goal

pub returns-then-literals-widths : goal.returns-then-literals-widths
returns-then-literals-widths c =
    let literals = map surface_literal c.args.literals.now in
    let count = length-map literals (λ (l : surface.Literal). l.width) ∙ length-map c.args.literals.now surface_literal in
    sym (other_widths (map (λ (l : surface.Literal). l.width) literals) c.args.widths.now (λ e. c.if-literals-widths.true (sym count ∙ e)))
