-- Split middleboxes that a switch and a server can run.
use Rattle.std.specs.Prelude.{◌≡◌, ◌≤◌, ℕ, List, IsTrue}
use Rattle.element_lang.specs.Tree.{Tree}
use Rattle.element_lang.specs.Rules.{is_good}
use Rattle.flat_ir.specs.Program.{Program}
use Rattle.flatten.specs.Flatten.{flat_of}
use Rattle.split_model.specs.declared.split.Part.{Part}
use Rattle.split_model.specs.Bounds.{HasFewStages}
use Rattle.split_answers.specs.Whole.{IsSplit}

-- the flat program of a middlebox, and a split of it for write-back tables of so many rows, as a replay asks for them
pub record IsRunnable (m : Tree) (f : Program) (split : List Part) (writeback : ℕ) : Type 0 where
  pub good : IsTrue (is_good m)
  pub program : f ≡ flat_of m
  pub is_split : IsSplit f split writeback
  pub few_stages : HasFewStages split
  pub few_rows : writeback ≤ 65536
