use Rattle.std.proofs.Common.{◌≡◌, ◌++◌, drop}
use Rattle.run_text.specs.Report.{row_lines}
use Rattle.run_text.proofs.parts.put_rows.Given as goal

-- the text so far, and what is ahead, are the whole
abbrev pub invariant-loop-place : goal.invariant-loop-place
invariant-loop-place l = l.text ++ row_lines (drop l.place l.rows) ≡ l.initial.text ++ row_lines l.rows
