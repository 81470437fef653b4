use Rattle.std.proofs.Common.{◌≡◌, drop}
use Rattle.flat_ir.specs.Program.{program_of}
use Rattle.flat_ir.specs.Fits.{same_widths, widths_of}
use Rattle.flat_ir.proofs.fits.have_widths.Given as goal

-- what is ahead fits just where all does
abbrev pub invariant-loop-i : goal.invariant-loop-i
invariant-loop-i l = same_widths (widths_of (program_of l.f) (drop l.i l.values)) (drop l.i l.widths) ≡ same_widths (widths_of (program_of l.f) l.values) l.widths
