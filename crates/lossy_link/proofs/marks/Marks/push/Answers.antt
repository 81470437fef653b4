use Rattle.std.proofs.Common.{◌≡◌, ◌+◌, ◌<◌, ◌++◌, ◌∷◌, [], true, ℕ, suc, List, length, sym, ap, ◌∙◌, subst, arith}
use Rattle.std.specs.Prelude.{not, if◌then◌else◌}
use Rattle.lossy_link.specs.Marks.{IsCountBehind, IsCounted}
use Rattle.lossy_link.proofs.Counts.{counted_more, set_few}
use Rattle.lossy_link.proofs.marks.Marks.push.Goals as goal

pub overflow_add-count : goal.overflow_add-count
overflow_add-count c =
    let few : length c.self.inside.marks.items < 4294967295 = omega (arith, c.requires, ap length c.self.view_is) in
    omega (arith, few, c.set_from-count.ensures.within, c.self.invariant.all, set_few c.self.inside.marks.items (length c.self.inside.marks.items))

pub overflow_add-self : goal.overflow_add-self
overflow_add-self c =
    let few : length c.self.inside.marks.items < 4294967295 = omega (arith, c.requires, ap length c.self.view_is) in
    omega (arith, few, c.self.invariant.all, set_few c.self.inside.marks.items (length c.self.inside.marks.items))

pub invariant_of-self-2 : goal.invariant_of-self-2
invariant_of-self-2 c =
    let marks = c.self.inside.marks.items in
    let counts = c.self.inside.counts.items in
    let total = c.self.inside.total in
    let count = c.set_from-count.result + 1 in
    let few : length marks < 4294967295 = omega (arith, c.requires, ap length c.self.view_is) in
    let one : suc c.set_from-count.result ≡ count = omega arith in
    let behind = subst (λ (cs : List ℕ). IsCountBehind cs 0 4294967296 total (suc c.set_from-count.result)) c.as_slice.ensures.value c.set_from-count.ensures.counted in
    let behind_one = subst (λ (n : ℕ). IsCountBehind counts 0 4294967296 total n) one behind in
    let counted = counted_more marks counts total count c.self.invariant few behind_one in
    let new_marks : c.push.new.self.items ≡ marks ++ true ∷ [] = c.in_ok-push.ensures.items in
    let new_counts : c.push-2.new.self.items ≡ counts ++ count ∷ [] =
    c.push-2.ensures.items ∙ ap (λ b. if b then counts ++ count ∷ [] else counts) (c.is_err.ensures.negation ∙ ap not c.if-is_err.false) in
    subst (λ ms. IsCounted ms c.push-2.new.self.items (total + 1)) (sym new_marks) (subst (λ (cs : List ℕ). IsCounted (marks ++ true ∷ []) cs (total + 1)) (sym new_counts) counted)
