use Rattle.std.proofs.Common.{◌≡◌, sym, ap, ◌∙◌, is_ok, length, cond, not, true, false, IsOk, arith}
use Rattle.state_store.specs.Places.{with_entry}
use Rattle.state_store.specs.declared.object.Kind.TheVariants.{Map}
use Rattle.state_store.proofs.AtWork.{full_is, in_memory}
use Rattle.state_store.proofs.sorted_rows.put_sorted.Goals as goal

pub returns-then-has_no_room-clause-stored : goal.returns-then-has_no_room-clause-stored
returns-then-has_no_room-clause-stored c =
    let es = c.args.rows.now.items in
    let key = c.args.key.now in
    let found = rw c.deref.ensures.value at c.place-found.ensures.found in
    let absent = rw c.deref.ensures.value at c.place-found.ensures.absent in
    let rows : c.len.result ≡ length es = omega (arith, c.len.ensures, c.args.rows.now.ok.0) in
    let full = full_is Map c.args.size 0 es key c.place-found.result c.len.result true c.requires.sorted found absent rows (sym c.if-has_no_room.true ∙ c.has_no_room.ensures) in
    ap not (sym full)

pub returns-then-has_no_room-clause-after : goal.returns-then-has_no_room-clause-after
returns-then-has_no_room-clause-after c =
    let es = c.args.rows.now.items in
    let key = c.args.key.now in
    let found = rw c.deref.ensures.value at c.place-found.ensures.found in
    let absent = rw c.deref.ensures.value at c.place-found.ensures.absent in
    let rows : c.len.result ≡ length es = omega (arith, c.len.ensures, c.args.rows.now.ok.0) in
    let full = full_is Map c.args.size 0 es key c.place-found.result c.len.result true c.requires.sorted found absent rows (sym c.if-has_no_room.true ∙ c.has_no_room.ensures) in
    ap (λ b. cond b es (with_entry es key c.args.values.now)) (sym full)

pub returns-clause-stored : goal.returns-clause-stored
returns-clause-stored c =
    let es = c.args.rows.now.items in
    let key = c.args.key.now in
    let found = rw c.deref.ensures.value at c.place-found.ensures.found in
    let absent = rw c.deref.ensures.value at c.place-found.ensures.absent in
    let rows : c.len.result ≡ length es = omega (arith, c.len.ensures, c.args.rows.now.ok.0) in
    let room = sym c.if-has_no_room.false ∙ c.has_no_room.ensures in
    let full = full_is Map c.args.size 0 es key c.place-found.result c.len.result false c.requires.sorted found absent rows room in
    ap not (sym full)

-- there is room, so the row is stored in the memory that was taken
pub returns-clause-after : goal.returns-clause-after
returns-clause-after c =
    let es = c.args.rows.now.items in
    let key = c.args.key.now in
    let found = rw c.deref.ensures.value at c.place-found.ensures.found in
    let absent = rw c.deref.ensures.value at c.place-found.ensures.absent in
    let rows : c.len.result ≡ length es = omega (arith, c.len.ensures, c.args.rows.now.ok.0) in
    let room = sym c.if-has_no_room.false ∙ c.has_no_room.ensures in
    let full = full_is Map c.args.size 0 es key c.place-found.result c.len.result false c.requires.sorted found absent rows room in
    let ok : IsOk c.store_at.result = in_memory (is_ok c.place-found.result) c.args.size c.len.result _ _ c.store_at.ensures.present c.store_at.ensures.room (sym room) c.requires.room c.len.ensures in
    c.store_at.ensures.after ∙ ap (λ b. cond b (with_entry es key c.args.values.now) es) ok ∙ ap (λ b. cond b es (with_entry es key c.args.values.now)) (sym full)
