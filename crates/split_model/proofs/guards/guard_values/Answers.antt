use Rattle.std.proofs.Common.{◌∙◌, ap, subst, false, length}
use Rattle.flat_ir.specs.Program.{program_of, is_among}
use Rattle.flat_ir.specs.Guards.{guards_write}
use Rattle.split_model.specs.Marked.{AreMarked}
use Rattle.split_model.proofs.ValueMarks.{same_test}
use Rattle.split_model.proofs.guards.guard_values.Goals as goal

pub returns : goal.returns
returns c =
    let n = length c.args.f.now.code in
    let none = subst (λ m. AreMarked m (λ v. false) c.in_ok-guards.guards) c.len.ensures c.in_ok-guards.ensures in
    same_test n _ (guards_write (program_of c.args.f.now)) c.insert_all.new.self (λ v. ap (is_among v) c.deref.ensures.value ∙ c.in_ok-found.ensures.exact v)
    (c.insert_all.ensures n (λ v. false) none)
