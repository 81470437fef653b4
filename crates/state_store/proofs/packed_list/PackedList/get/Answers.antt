use Rattle.std.proofs.Common.{length, nat_lt, slice_get, slice_index_or, Some, sym, ap, ◌∙◌}
use Rattle.state_store.specs.Listing.{row_of_numbers}
use Rattle.state_store.proofs.NumberLaws.{mapped_there, mapped_past}
use Rattle.state_store.proofs.packed_list.PackedList.get.Goals as goal

pub returns-in-Some : goal.returns-in-Some
returns-in-Some c =
    let o = c.self.inside in
    let f = row_of_numbers o.key_bits o.value_bits o.keys o.values in
    let within = ap (λ xs. nat_lt c.args.place (length xs)) (sym c.deref.ensures.value) ∙ sym c.in-Some.ensures.lookup.0 in
    ap Some (c.row.ensures ∙ ap f (c.in-Some.ensures.lookup.1 ∙ ap (λ xs. slice_index_or xs c.args.place c.in-Some.numbers.now) c.deref.ensures.value))
    ∙ sym (mapped_there f o.numbers.items c.args.place c.in-Some.numbers.now within) ∙ ap (λ rows. slice_get rows c.args.place) c.self.view_is

pub returns-in-None : goal.returns-in-None
returns-in-None c =
    let o = c.self.inside in
    let f = row_of_numbers o.key_bits o.value_bits o.keys o.values in
    let past = ap (λ xs. nat_lt c.args.place (length xs)) (sym c.deref.ensures.value) ∙ sym c.in-None.ensures.lookup.0 in
    (mapped_past f o.numbers.items c.args.place past) ∙ ap (λ rows. slice_get rows c.args.place) c.self.view_is
