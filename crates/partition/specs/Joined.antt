-- Only proofs need this. Parts from sets and stages.
use Rattle.std.specs.Prelude.{◌≡◌, ℕ, Bool, List}
use Rattle.split_model.specs.declared.split.Part.{Part}
use Rattle.split_model.specs.Greatest.{pre_marks, carried_marks, post_marks, pre_stages, post_stages}

-- the parts say these sets and stages
pub record IsJoined (pre carried post : List Bool) (pre_depths post_depths : List ℕ) (split : List Part) : Type 0 where
  pub pre_is : pre_marks split ≡ pre
  pub carried_is : carried_marks split ≡ carried
  pub post_is : post_marks split ≡ post
  pub pre_depths_are : pre_stages split ≡ pre_depths
  pub post_depths_are : post_stages split ≡ post_depths
