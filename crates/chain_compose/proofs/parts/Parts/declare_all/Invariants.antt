use Rattle.std.proofs.Common.{◌≡◌, ◌++◌, length, drop}
use Rattle.element_chain.specs.Compose.{numbers, all_declared}
use Rattle.chain_compose.specs.Parts.{spot_of, numbering}
use Rattle.chain_compose.proofs.parts.Parts.declare_all.Given as goal

-- the locals so far, and what is left
abbrev pub invariant-loop-local : goal.invariant-loop-local
invariant-loop-local l = record {
  numbers : l.found.items ++ numbers (length l.widths.items) (drop l.local-index l.locals) ≡ numbers (length l.fn.widths.items) l.locals;
  declared : all_declared (spot_of l.self l.place) (drop l.local-index l.locals) (numbering l.names.items l.widths.items) ≡ all_declared (spot_of l.self l.place) l.locals (numbering l.fn.names.items l.fn.widths.items);
}
