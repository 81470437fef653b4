use Rattle.std.proofs.Common.{map, sym, ap, ◌∙◌}
use Rattle.element_lang.specs.Surface as surface
use Rattle.element_grammar.specs.Surface.{surface_literal}
use Rattle.element_rules.proofs.Doubles.{collecting_more}
use Rattle.element_rules.proofs.rows.has_bad_row.Goals as goal

pub loop-row-preserved : goal.loop-row-preserved
loop-row-preserved c =
    let fits = sym c.row_fits.ensures ∙ c.if-not-row_fits.false in
    let read = c.in_ok-key.ensures ∙ ap (λ l. map (λ (x : surface.Literal). x.value) (map surface_literal l)) c.deref.ensures.value in
    collecting_more c.insert.new.self c.loop-row.row-index c.row-item.result c.in_ok-key.key c.in_ok-insert.field-0 c.loop-row-test.true c.row-item.is
    c.loop-row.invariant fits read c.in_ok-insert.ensures.added c.if-not-branch.false (λ q. c.in_ok-insert.ensures.updates.0 q)
