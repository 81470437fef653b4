use Rattle.std.proofs.Common.{◌≡◌, ◌++◌, drop, map}
use Rattle.flat_ir.specs.Program.{step_of}
use Rattle.flat_ir.specs.Listing.{step_lines}
use Rattle.flat_ir.proofs.listing.put_steps.Given as goal

-- the text so far, and the lines ahead, are the whole
abbrev pub invariant-loop-number : goal.invariant-loop-number
invariant-loop-number l = l.text ++ step_lines l.objects l.number (map step_of (drop l.number l.code)) ≡ l.initial.text ++ step_lines l.objects 0 (map step_of l.code)
