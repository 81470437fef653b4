-- Instructions, by their place.
use Rattle.std.proofs.Common.{◌≡◌, ◌+◌, ℕ, Bool, true, false, length, ap, arith, add-one}
use Rattle.std.proofs.lemmas.List.{length-map}
use Rattle.flat_ir.specs.declared.program.Flat.{Flat}
use Rattle.flat_ir.specs.Program.{program_of, step_of}
use Rattle.split_model.specs.Counts.{count_below}

pub code_length : (f : Flat) → length (program_of f).code ≡ length f.code
code_length f = length-map f.code step_of

-- one instruction more
pub counts_one : (test : ℕ → Bool) (n writes : ℕ) → writes ≡ count_below n test → test n ≡ true → writes + 1 ≡ count_below (n + 1) test
counts_one test n writes h e = rw (add-one n, e) (ap (λ k. k + 1) h)

pub counts_none : (test : ℕ → Bool) (n writes : ℕ) → writes ≡ count_below n test → test n ≡ false → writes ≡ count_below (n + 1) test
counts_none test n writes h e = rw (add-one n, e) (omega (arith, h))
