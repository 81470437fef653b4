use Rattle.std.proofs.Common.{◌≡◌, ◌++◌, ◌+◌, drop}
use Rattle.flat_ir.specs.Listing.{block_lines}
use Rattle.flat_ir.proofs.listing.put_blocks.Given as goal

-- the text so far, and the lines ahead, are the whole
abbrev pub invariant-loop-place : goal.invariant-loop-place
invariant-loop-place l = l.text ++ block_lines (l.place + 1) (drop l.place l.blocks) ≡ l.initial.text ++ block_lines 1 l.blocks
