-- What holds of every text of a split.
use Rattle.std.specs.Prelude.{List, ℕ, ◌<◌, ◌^◌, ◌≡◌}
use Rattle.split_model.specs.declared.split.Part.{Part}
use Rattle.split_validate.proofs.TextLines.{first_wrong_once, one_text}
use Rattle.split_validate.specs.SplitLines.{IsFirstWrong, IsSplitText}

-- No two lines of a text are the first wrong one.
pub one_line_is_first_wrong : (count : ℕ) (ls : List (List ℕ)) (j k : ℕ) → IsFirstWrong count ls j → IsFirstWrong count ls k → j ≡ k
one_line_is_first_wrong = λ count ls j k f g. first_wrong_once count ls j k f g

-- No text is one of two splits for so many instructions.
pub a_text_is_of_one_split : (count : ℕ) (text : List ℕ) (split other : List Part) → count < 2 ^ 64
    → IsSplitText count text split → IsSplitText count text other → other ≡ split
a_text_is_of_one_split = λ count text split other small one two. one_text count text split other small one two
