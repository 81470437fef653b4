use Rattle.std.proofs.Common.{◌≤◌, vec_capacity, refl, sym, ap, subst, ◌∙◌, arith}
use Rattle.std.specs.FinMap.{remove, contains_key}
use Rattle.state_store.specs.Bounded.{Bounded, IsKeptIn, contents_in}
use Rattle.state_store.specs.Places.{IsSorted}
use Rattle.state_store.proofs.Entries.{others_sorted}
use Rattle.state_store.proofs.KeptLaws.{bounded_of, none_kept, gone_kept, gone_was, gone_after, late_gone, sorted_now, now_sorted}
use Rattle.state_store.proofs.kept_rows.KeptRows.del.Goals as goal

pub returns-in-Some-clause-was : goal.returns-in-Some-clause-was
returns-in-Some-clause-was c =
    let o = c.self.inside in
    gone_was o.packed o.sorted.items c.args.key.now c.in-Some.was (c.in-Some.ensures.was_packed refl) c.in-Some.ensures.was ∙ ap (λ b. contains_key b.contents c.args.key.now) c.self.view_is

pub returns-in-Some-clause-after : goal.returns-in-Some-clause-after
returns-in-Some-clause-after c =
    let o = c.self.inside in
    gone_after o.packed c.del_packed.new.packed o.sorted.items o.size c.args.key.now (c.in-Some.ensures.was_packed refl) (c.in-Some.ensures.after refl)
    ∙ ap (λ (b : Bounded). record b { contents = remove b.contents c.args.key.now }) c.self.view_is

pub invariant_of-self : goal.invariant_of-self
invariant_of-self c =
    let o = c.self.inside in
    gone_kept o.packed c.del_packed.new.packed o.sorted.items o.size (vec_capacity o.sorted) c.args.key.now c.self.invariant (c.in-Some.ensures.after refl)

pub del_sorted-requires : goal.del_sorted-requires
del_sorted-requires c =
    sorted_now c.del_packed.new.packed c.self.inside.sorted.items c.unpack.new.sorted.items c.self.invariant.sorted c.unpack.ensures.rows

pub invariant_of-self-in-None : goal.invariant_of-self-in-None
invariant_of-self-in-None c =
    let o = c.self.inside in
    let fs = c.unpack.new.sorted.items in
    let gs = c.del_sorted.new.rows.items in
    let sorted = sorted_now c.del_packed.new.packed o.sorted.items fs c.self.invariant.sorted c.unpack.ensures.rows in
    let room : o.size ≤ vec_capacity c.del_sorted.new.rows = omega (arith, c.self.invariant.room, c.unpack.ensures.capacity, c.del_sorted.ensures.capacity) in
    let left = subst IsSorted (sym c.del_sorted.ensures.after) (others_sorted fs c.args.key.now sorted) in
    subst (λ q. IsKeptIn q gs o.size (vec_capacity c.del_sorted.new.rows)) (sym c.unpack.ensures.none)
    (none_kept gs o.size (vec_capacity c.del_sorted.new.rows) left room)

pub returns-in-None-clause-was : goal.returns-in-None-clause-was
returns-in-None-clause-was c =
    let o = c.self.inside in
    let same = now_sorted o.packed c.del_packed.new.packed o.sorted.items c.unpack.new.sorted.items (c.in-None.ensures.stays refl) c.unpack.ensures.rows in
    c.del_sorted.ensures.was ∙ ap (λ m. contains_key m c.args.key.now) same ∙ ap (λ b. contains_key b.contents c.args.key.now) c.self.view_is

pub returns-in-None-clause-after : goal.returns-in-None-clause-after
returns-in-None-clause-after c =
    let o = c.self.inside in
    let fs = c.unpack.new.sorted.items in
    let gs = c.del_sorted.new.rows.items in
    let sorted = sorted_now c.del_packed.new.packed o.sorted.items fs c.self.invariant.sorted c.unpack.ensures.rows in
    let same = now_sorted o.packed c.del_packed.new.packed o.sorted.items fs (c.in-None.ensures.stays refl) c.unpack.ensures.rows in
    ap (λ q. bounded_of o.size q gs) c.unpack.ensures.none
    ∙ late_gone (contents_in o.packed o.sorted.items) fs gs o.size c.args.key.now sorted same c.del_sorted.ensures.after
    ∙ ap (λ (b : Bounded). record b { contents = remove b.contents c.args.key.now }) c.self.view_is
