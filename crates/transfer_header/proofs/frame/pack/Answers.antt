use Rattle.std.proofs.Common.{ℕ, List, ap, length, length-append, arith}
use Rattle.transfer_header.specs.Registers.{value_in}
use Rattle.transfer_header.proofs.WholeFrames.{length-packed}
use Rattle.transfer_header.proofs.frame.pack.Goals as goal

pub append-requires-2 : goal.append-requires-2
append-requires-2 c =
    omega (
      arith,
      simp length-append at (ap (λ (x : List ℕ). length x) c.append.ensures.items),
      ap (λ (x : List ℕ). length x) c.into_bytes-frame.ensures.items,
      simp length-append at (ap (λ (x : List ℕ). length x) c.pack_values-frame.ensures.items),
      length-packed c.args.layout.now (value_in c.args.values.now),
      c.pack_values-frame.result.ok.0,
    )
