use Rattle.std.proofs.Common.{◌∙◌, ◌||◌, ap, sym}
use Rattle.std.specs.Prelude.{not}
use Rattle.split_model.proofs.AnyBelow.{with_true}
use Rattle.split_model.proofs.ValueMarks.{same_test}
use Rattle.split_model.proofs.readers.mark_written.Goals as goal

pub returns-then-not-is_post : goal.returns-then-not-is_post
returns-then-not-is_post c =
    let has = ap not (sym c.is_post.ensures ∙ c.if-not-is_post.true) in
    λ n test h. same_test n _ _ _ (λ v. ap (λ b. test v || b) (with_true _ _ has)) (c.insert.ensures n test h)
