use Rattle.std.proofs.Common.{◌≤◌, ◌+◌, ◌++◌, length, drop, sym, ap, ◌∙◌, arith}
use Rattle.std.proofs.lemmas.List.{append-nil, append_assoc, drop_all}
use Rattle.run_text.specs.Report.{row_line, row_lines}
use Rattle.state_store.specs.Store.{row_of}
use Rattle.run_text.proofs.parts.put_rows.Goals as goal

pub loop-place-preserved : goal.loop-place-preserved
loop-place-preserved c =
    let p = c.loop-place.place in
    let text = c.loop-place.text in
    let left = row_lines (drop (p + 1) c.args.rows.now) in
    ap (λ t. t ++ left) c.in_ok-put_row.ensures ∙ append_assoc text (row_line (row_of (c.parts_at.result.0.now, c.parts_at.result.1.now))) left
    ∙ ap (λ rows. text ++ row_lines rows) (sym c.parts_at.ensures.rest) ∙ c.loop-place.invariant

pub returns : goal.returns
returns c =
    let p = c.loop-place.place in
    let text = c.loop-place.text in
    let past : length c.args.rows.now ≤ p = omega arith in
    sym (append-nil text) ∙ ap (λ rows. text ++ row_lines rows) (sym (drop_all p c.args.rows.now past)) ∙ c.loop-place.invariant
