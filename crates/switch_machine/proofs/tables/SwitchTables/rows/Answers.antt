use Rattle.std.proofs.Common.{◌≤◌, ◌∙◌, sym, ap, subst, length, arith}
use Rattle.writeback_table.specs.Pair.{visible_rows}
use Rattle.switch_ir.specs.Tables.{Told}
use Rattle.switch_machine.proofs.TableRows.{pair_past, nothing_visible}
use Rattle.switch_machine.proofs.tables.SwitchTables.rows.Goals as goal

pub returns-else-number-len : goal.returns-else-number-len
returns-else-number-len c =
    let past : length c.args.self.now.pairs ≤ c.args.object = subst (λ (t : Told). length t.pairs ≤ c.args.object) c.self.view_is (omega (arith, c.if-number-len.false, c.len.ensures, c.self.inside.pairs.ok.0)) in
    c.new.ensures
    ∙ sym (ap (visible_rows c.args.self.now.bit) (pair_past c.args.self.now.pairs c.args.object past) ∙ nothing_visible c.args.self.now.bit)
