use Rattle.std.proofs.Common.{◌*◌, ◌≤◌, ap, ◌∙◌, arith}
use Rattle.std.specs.FinMap.{entries}
use Rattle.state_store.specs.Fitted.{packing_of}
use Rattle.state_store.specs.Sizes.{key_words, value_words, table_of}
use Rattle.state_store.specs.Store.{rows_from}
use Rattle.state_store.proofs.NumberLaws.{listed_holds, listed_rows}
use Rattle.state_store.proofs.packed_rows.PackedRows.list.Goals as goal

pub new-requires : goal.new-requires
new-requires c =
    let o = c.self.inside in
    let t = table_of o.table in
    let keys : 64 * key_words o.table ≤ 128 = omega (arith, c.key_bits.ensures.value, c.key_bits.ensures.most) in
    let values : 64 * value_words o.table ≤ 128 = omega (arith, c.value_bits.ensures.value, c.value_bits.ensures.most) in
    let holds = listed_holds (packing_of o.keys o.values o.table) t.rows t.slots c.in_ok-numbers.numbers.items c.sort_unstable.new.self.items keys values c.self.invariant c.in_ok-numbers.ensures.laid c.in_ok-numbers.ensures.rows c.sort_unstable.ensures.permutation c.sort_unstable.ensures.sorted in
    rw (c.key_bits.ensures.value, c.value_bits.ensures.value) holds

pub returns : goal.returns
returns c =
    let o = c.self.inside in
    let t = table_of o.table in
    c.new.ensures
    ∙ rw (c.key_bits.ensures.value, c.value_bits.ensures.value)
    (listed_rows (packing_of o.keys o.values o.table) t.rows t.slots c.in_ok-numbers.numbers.items c.sort_unstable.new.self.items c.self.invariant c.in_ok-numbers.ensures.laid c.in_ok-numbers.ensures.rows c.sort_unstable.ensures.permutation c.sort_unstable.ensures.sorted)
    ∙ ap (λ f. rows_from (entries f.contents)) c.self.view_is
