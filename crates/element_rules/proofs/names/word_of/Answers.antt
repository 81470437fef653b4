use Rattle.std.proofs.Common.{◌∙◌}
use Rattle.element_rules.proofs.names.word_of.Goals as goal

pub returns : goal.returns
returns c = c.in_ok-to_vec.ensures.items_if_clones_equal (λ x y e. e) ∙ c.word_at.ensures
