use Rattle.std.proofs.Common.{◌≡◌, ◌++◌, ◌≤◌, ◌-◌, ℕ, List, length, drop}
use Rattle.chain_text.specs.Tokens.{tokens_of}
use Rattle.chain_text.specs.Grammar.{spelled}
use Rattle.chain_text.specs.Statements.{statements_of}
use Rattle.chain_text.proofs.grammar.parse.Given as goal

-- the statements that were found, and then what is left
abbrev pub invariant-loop-place : goal.invariant-loop-place
invariant-loop-place l = record {
  within : l.place ≤ length l.tokens;
  so_far : (text : List ℕ) → tokens_of text l.tokens ≡ spelled (statements_of text l.found.items) ++ drop l.place (tokens_of text l.tokens);
}

abbrev pub decreases-loop-place : goal.decreases-loop-place
decreases-loop-place l = length l.tokens - l.place
