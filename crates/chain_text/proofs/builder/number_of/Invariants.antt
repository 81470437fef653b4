use Rattle.std.proofs.Common.{◌≡◌, ◌+◌, drop}
use Rattle.chain_text.specs.Reads.{is_named, number_of}
use Rattle.chain_text.proofs.builder.number_of.Given as goal

-- the first of that name is among those that are left
abbrev pub invariant-loop-number : goal.invariant-loop-number
invariant-loop-number l = record {
  named : is_named l.elements l.name ≡ is_named (drop l.number l.elements) l.name;
  counted : number_of l.elements l.name ≡ l.number + number_of (drop l.number l.elements) l.name;
}
