use Rattle.std.proofs.Common.{◌≤◌, is_ok, vec_capacity, sym, subst, ◌∙◌, arith}
use Rattle.state_store.specs.Bounded.{IsKeptIn}
use Rattle.state_store.specs.Places.{IsSorted}
use Rattle.state_store.proofs.AtWork.{sorted_either}
use Rattle.state_store.proofs.KeptLaws.{sorted_now, now_sorted, was_late, none_kept, set_late}
use Rattle.state_store.proofs.kept_rows.KeptRows.set.Goals as goal

pub place-found-requires : goal.place-found-requires
place-found-requires c =
    subst IsSorted (sym c.deref.ensures.value) (sorted_now c.put_packed.new.packed c.self.inside.sorted.items c.unpack.new.sorted.items c.self.invariant.sorted c.unpack.ensures.rows)

pub invariant_of-self-in-Full : goal.invariant_of-self-in-Full
invariant_of-self-in-Full c =
    let o = c.self.inside in
    let k = c.args.key.now in
    let v = c.args.values.now in
    let es = o.sorted.items in
    let fs = c.unpack.new.sorted.items in
    let sorted = sorted_now c.put_packed.new.packed es fs c.self.invariant.sorted c.unpack.ensures.rows in
    let gs = c.store_at.new.rows.items in
    let room : o.size ≤ vec_capacity c.store_at.new.rows = omega (arith, c.self.invariant.room, c.unpack.ensures.capacity, c.store_at.ensures.capacity) in
    subst (λ q. IsKeptIn q gs o.size (vec_capacity c.store_at.new.rows)) (sym c.unpack.ensures.none)
    (none_kept gs o.size (vec_capacity c.store_at.new.rows) (sorted_either fs gs k v (is_ok c.store_at.result) sorted c.store_at.ensures.after) room)

pub returns-in-Full-clause-row : goal.returns-in-Full-clause-row
returns-in-Full-clause-row c =
    let o = c.self.inside in
    let k = c.args.key.now in
    let v = c.args.values.now in
    let es = o.sorted.items in
    let fs = c.unpack.new.sorted.items in
    let sorted = sorted_now c.put_packed.new.packed es fs c.self.invariant.sorted c.unpack.ensures.rows in
    let late = c.put_packed.ensures.after ∙ was_late o.packed es o.size k v c.put_packed.result c.self.invariant.bound c.put_packed.ensures.answer c.in-Full.is in
    let same = now_sorted o.packed c.put_packed.new.packed es fs late c.unpack.ensures.rows in
    set_late c.store_at.result o.packed c.unpack.new.packed es fs c.store_at.new.rows.items o.size k v c.args.self.now c.unpack.ensures.none sorted same c.store_at.ensures.after c.self.view_is
