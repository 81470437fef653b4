use Rattle.std.proofs.Common.{◌≡◌, ◌≤◌, ◌<◌, ◌^◌, ◌+◌, length, drop, take}
use Rattle.gal_io.specs.Lines.{lines, told_of}
use Rattle.split_validate.proofs.Gone.{Fits, so_far}
use Rattle.split_validate.proofs.reading.read_split.Given as goal

-- the lines so far are those of the parts that were read, and skipped ones
abbrev pub invariant-loop-line : goal.invariant-loop-line
invariant-loop-line l = record {
  small : l.count < 2 ^ 64;
  within : l.number ≤ length (lines l.text);
  bytes : l.number + length l.ahead ≤ length l.text;
  ahead : lines l.ahead ≡ drop l.number (lines l.text);
  fits : Fits l.count l.reading.progress l.reading.parts.items;
  told : told_of (take l.number (lines l.text)) ≡ so_far l.count l.reading.progress l.reading.parts.items;
}

abbrev pub decreases-loop-line : goal.decreases-loop-line
decreases-loop-line l = length l.ahead
