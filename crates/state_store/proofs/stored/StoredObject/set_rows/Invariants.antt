use Rattle.std.proofs.Common.{◌≡◌, drop}
use Rattle.state_store.specs.Store.{Object, with_rows}
use Rattle.state_store.proofs.stored.StoredObject.set_rows.Given as goal

abbrev pub invariant-loop-place : goal.invariant-loop-place
invariant-loop-place l =
    let whole : Object = record l.initial.self { contents = with_rows l.rows l.initial.self.contents } in
    let left : Object = record l.self { contents = with_rows (drop l.place l.rows) l.self.contents } in
    left ≡ whole
