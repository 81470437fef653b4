use Rattle.std.proofs.Common.{◌≡◌, suc, ◌^◌}
use Rattle.element_print.specs.Lengths.{capped}
use Rattle.element_chain.specs.Compose.{composed}
use Rattle.chain_compose.specs.Counts.{used_in}
use Rattle.chain_compose.specs.Named.{more_digits}
use Rattle.chain_compose.specs.Parts.{chain_of}
use Rattle.chain_compose.proofs.parts.Parts.more_digits.Given as goal

abbrev pub invariant-loop : goal.invariant-loop
invariant-loop l = record {
  least : l.least ≡ capped (10 ^ suc l.counter);
  digits : l.digits ≡ capped (more_digits l.counter (used_in (composed (chain_of l.self)).body));
}
