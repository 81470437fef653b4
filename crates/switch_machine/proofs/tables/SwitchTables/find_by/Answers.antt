use Rattle.std.proofs.Common.{◌≤◌, ◌∙◌, sym, ap, subst, length, is_some, unwrap_or, [], arith}
use Rattle.state_store.specs.Store.{Object, look, looked_up}
use Rattle.switch_ir.specs.Tables.{Told}
use Rattle.switch_machine.proofs.TableRows.{object_past}
use Rattle.state_store.proofs.AtWork.{no_look}
use Rattle.switch_machine.proofs.tables.SwitchTables.find_by.Goals as goal

past : (c : goal.After-new) → length c.args.self.now.pairs ≤ c.args.object
past c = subst (λ (t : Told). length t.pairs ≤ c.args.object) c.self.view_is (omega (arith, c.if-number-len.false, c.len.ensures, c.self.inside.pairs.ok.0))

pub returns-else-number-len-clause-found : goal.returns-else-number-len-clause-found
returns-else-number-len-clause-found c =
    sym (ap (λ (o : Object). is_some (look o c.args.key.now)) (object_past (record c.args.self.now { bit = c.args.bit }) c.args.object (past c)) ∙ ap is_some (no_look c.args.key.now))

pub returns-else-number-len-clause-values : goal.returns-else-number-len-clause-values
returns-else-number-len-clause-values c =
    c.new.ensures
    ∙ sym (ap (λ (o : Object). looked_up o c.args.key.now) (object_past (record c.args.self.now { bit = c.args.bit }) c.args.object (past c)) ∙ ap (λ found. unwrap_or found []) (no_look c.args.key.now))
