-- Only proofs need this. Stages above a limit.
use Rattle.std.specs.Prelude.{ℕ, Bool, ◌||◌, nat_lt}
use Rattle.split_model.specs.declared.split.Part.{Part}
use Rattle.split_model.specs.Split.{stage_after}
use Rattle.split_model.specs.Counts.{stage_or_zero}

-- a pass has this instruction at a stage above the limit
abbrev pub is_deeper : ℕ → Part → Bool
is_deeper most part = nat_lt most (stage_or_zero part.pre) || nat_lt most (stage_or_zero (stage_after part.slow))
