use Rattle.std.proofs.Common.{◌≡◌, ◌+◌, ◌++◌, ◌∷◌, [], map, drop, sym, ap, ◌∙◌, arith, append_assoc}
use Rattle.element_lang.specs.Surface.{named_row}
use Rattle.element_lang.specs.Token.{fixed}
use Rattle.element_lang.specs.declared.mark.Mark.TheVariants as marks
use Rattle.element_print.specs.Printed.{literals_tokens, rows_tokens}
use Rattle.element_print.specs.Spaced.{spaced}
use Rattle.element_print.proofs.Spaces.{spaced_append}
use Rattle.element_print.proofs.decl.put_rows.Goals as goal

pub loop-place-preserved : goal.loop-place-preserved
loop-place-preserved c =
    let out = c.loop-place.out in
    let row = named_row c.args.keys.now c.args.values.now c.at.result in
    let one = literals_tokens row.keys ++ fixed marks.Arrow ∷ (literals_tokens row.values ++ fixed marks.Semicolon ∷ []) in
    let left = rows_tokens (map (named_row c.args.keys.now c.args.values.now) (drop (c.loop-place.place + 1) c.args.rows.now)) in
    let joined : one ++ left ≡ rows_tokens (map (named_row c.args.keys.now c.args.values.now) (c.at.result ∷ drop (c.loop-place.place + 1) c.args.rows.now)) = simp append_assoc in
    ap (λ t. t ++ spaced left) c.in_ok-put_row.ensures ∙ append_assoc out (spaced one) (spaced left)
    ∙ ap (λ t. out ++ t) (sym (spaced_append one left) ∙ ap spaced joined)
    ∙ ap (λ rows. out ++ spaced (rows_tokens (map (named_row c.args.keys.now c.args.values.now) rows))) (sym c.at.ensures.rest) ∙ c.loop-place.invariant
