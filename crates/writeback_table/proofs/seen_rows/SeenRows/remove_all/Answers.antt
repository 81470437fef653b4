use Rattle.std.proofs.Common.{◌≤◌, ◌+◌, length, drop, sym, ap, ◌∙◌, arith}
use Rattle.std.proofs.lemmas.List.{drop_all}
use Rattle.writeback_table.specs.Seen.{without_rows}
use Rattle.writeback_table.proofs.seen_rows.SeenRows.remove_all.Goals as goal

pub loop-place-preserved : goal.loop-place-preserved
loop-place-preserved c =
    ap (without_rows (drop (c.loop-place.place + 1) c.args.rows.now)) c.remove.ensures
    ∙ ap (λ rows. without_rows rows c.loop-place.self) (sym c.at.ensures.rest) ∙ c.loop-place.invariant

pub returns : goal.returns
returns c =
    let past : length c.args.rows.now ≤ c.loop-place.place = omega arith in
    ap (λ rows. without_rows rows c.loop-place.self) (sym (drop_all c.loop-place.place c.args.rows.now past)) ∙ c.loop-place.invariant
