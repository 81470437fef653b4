use Rattle.std.proofs.Common.{◌≡◌, ◌++◌, drop}
use Rattle.split_validate.specs.SplitText.{part_lines}
use Rattle.split_validate.proofs.split_text.put_parts.Given as goal

-- the text so far, and the lines ahead, are the whole
abbrev pub invariant-loop-number : goal.invariant-loop-number
invariant-loop-number l = l.text ++ part_lines l.number (drop l.number l.parts) ≡ l.initial.text ++ part_lines 0 l.parts
