use Rattle.std.proofs.Common.{◌≡◌, ◌++◌, drop}
use Rattle.run_text.specs.Report.{part_lines}
use Rattle.run_text.proofs.parts.put_parts.Given as goal

-- the text so far, and the lines ahead, are the whole
abbrev pub invariant-loop-part : goal.invariant-loop-part
invariant-loop-part l = l.text ++ part_lines l.word l.objects (drop l.part-index l.parts) ≡ l.initial.text ++ part_lines l.word l.objects l.parts
