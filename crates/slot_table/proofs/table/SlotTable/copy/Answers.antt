use Rattle.std.proofs.Common.{sym, ap, ◌∙◌, subst, arith}
use Rattle.slot_table.specs.Table.{rows_in, Slots, Table}
use Rattle.slot_table.specs.Probing.{IsTable}
use Rattle.slot_table.proofs.table.SlotTable.copy.Goals as goal

pub invariant_of-result : goal.invariant_of-result
invariant_of-result g c =
    let a = c.self.inside in
    record {
      table = subst (λ (s : Slots). IsTable a.seed a.reach s a.len a.capacity) (sym (c.in_ok-slots.ensures ∙ c.deref.ensures.value)) c.self.invariant.table;
      empty = c.in_ok-spare.ensures.items;
      enough = omega (arith, c.in_ok-spare.ensures.exact);
    }

pub returns : goal.returns
returns g c =
    let view : Slots → Table = λ s. record { rows = rows_in s; capacity = c.self.inside.capacity; slots = s } in
    ap view (c.in_ok-slots.ensures ∙ c.deref.ensures.value) ∙ c.self.view_is
