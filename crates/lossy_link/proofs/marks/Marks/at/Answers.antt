use Rattle.std.proofs.Common.{ℕ, List, sym, ap, ◌∙◌, subst, arith}
use Rattle.std.specs.Prelude.{slice_get}
use Rattle.lossy_link.specs.Marks.{IsFound, numbers_set}
use Rattle.lossy_link.proofs.Counts.{counted_at, counted_past}
use Rattle.lossy_link.proofs.marks.Marks.at.Goals as goal

pub returns-then-j-self : goal.returns-then-j-self
returns-then-j-self c =
    sym (ap (λ marks. slice_get (numbers_set 0 marks) c.args.j) (sym c.self.view_is) ∙ counted_past c.self.inside.marks.items c.self.inside.counts.items c.self.inside.total c.args.j c.self.invariant c.if-j-self.true)

pub overflow_cast-result : goal.overflow_cast-result
overflow_cast-result c =
    let found = subst (λ (counts : List ℕ). IsFound counts 0 4294967296 c.args.j c.find.result) c.as_slice.ensures.value c.find.ensures.found in
    omega (arith, (counted_at c.self.inside.marks.items c.self.inside.counts.items c.self.inside.total c.args.j c.find.result c.self.invariant c.if-j-self.false found).1)

pub returns : goal.returns
returns c =
    let found = subst (λ (counts : List ℕ). IsFound counts 0 4294967296 c.args.j c.find.result) c.as_slice.ensures.value c.find.ensures.found in
    sym (ap (λ marks. slice_get (numbers_set 0 marks) c.args.j) (sym c.self.view_is) ∙ (counted_at c.self.inside.marks.items c.self.inside.counts.items c.self.inside.total c.args.j c.find.result c.self.invariant c.if-j-self.false found).0)
