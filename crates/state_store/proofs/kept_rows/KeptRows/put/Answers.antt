use Rattle.std.proofs.Common.{◌≤◌, cond, not, vec_capacity, sym, ap, subst, ◌∙◌, arith}
use Rattle.state_store.specs.Bounded.{IsKeptIn, contents_in, is_full_in, stored_row}
use Rattle.state_store.proofs.KeptLaws.{bounded_of, sorted_now, now_sorted, was_misfit, none_kept, sorted_either, late_answer, late_after}
use Rattle.state_store.proofs.kept_rows.KeptRows.put.Goals as goal

pub put_sorted-requires-clause-sorted : goal.put_sorted-requires-clause-sorted
put_sorted-requires-clause-sorted c =
    sorted_now c.put_packed.new.packed c.self.inside.sorted.items c.unpack.new.sorted.items c.self.invariant.sorted c.unpack.ensures.rows

pub invariant_of-self-in-Misfit : goal.invariant_of-self-in-Misfit
invariant_of-self-in-Misfit c =
    let o = c.self.inside in
    let k = c.args.key.now in
    let v = c.args.values.now in
    let es = o.sorted.items in
    let fs = c.unpack.new.sorted.items in
    let sorted = sorted_now c.put_packed.new.packed es fs c.self.invariant.sorted c.unpack.ensures.rows in
    let gs = c.put_sorted.new.rows.items in
    let room : o.size ≤ vec_capacity c.put_sorted.new.rows = omega (arith, c.self.invariant.room, c.unpack.ensures.capacity, c.put_sorted.ensures.capacity) in
    subst (λ q. IsKeptIn q gs o.size (vec_capacity c.put_sorted.new.rows)) (sym c.unpack.ensures.none)
    (none_kept gs o.size (vec_capacity c.put_sorted.new.rows) (sorted_either fs gs k v _ sorted c.put_sorted.ensures.after) room)

pub returns-in-Misfit-clause-stored : goal.returns-in-Misfit-clause-stored
returns-in-Misfit-clause-stored c =
    let o = c.self.inside in
    let k = c.args.key.now in
    let v = c.args.values.now in
    let es = o.sorted.items in
    let fs = c.unpack.new.sorted.items in
    let sorted = sorted_now c.put_packed.new.packed es fs c.self.invariant.sorted c.unpack.ensures.rows in
    let late = c.put_packed.ensures.after ∙ was_misfit o.packed k v (sym c.in-Misfit.is ∙ c.put_packed.ensures.answer) in
    let same = now_sorted o.packed c.put_packed.new.packed es fs late c.unpack.ensures.rows in
    late_answer (contents_in o.packed es) fs o.size k c.put_sorted.result same c.put_sorted.ensures.stored ∙ ap (λ b. not (is_full_in b k)) c.self.view_is

pub returns-in-Misfit-clause-after : goal.returns-in-Misfit-clause-after
returns-in-Misfit-clause-after c =
    let o = c.self.inside in
    let k = c.args.key.now in
    let v = c.args.values.now in
    let es = o.sorted.items in
    let fs = c.unpack.new.sorted.items in
    let sorted = sorted_now c.put_packed.new.packed es fs c.self.invariant.sorted c.unpack.ensures.rows in
    let late = c.put_packed.ensures.after ∙ was_misfit o.packed k v (sym c.in-Misfit.is ∙ c.put_packed.ensures.answer) in
    let same = now_sorted o.packed c.put_packed.new.packed es fs late c.unpack.ensures.rows in
    let gs = c.put_sorted.new.rows.items in
    ap (λ q. bounded_of o.size q gs) c.unpack.ensures.none
    ∙ late_after (contents_in o.packed es) fs gs o.size k v sorted same c.put_sorted.ensures.after
    ∙ ap (λ b. cond (is_full_in b k) b (stored_row b k v)) c.self.view_is
