-- Sums of widths.
use Rattle.std.proofs.Common.{◌≡◌, ℕ, zero, suc, ◌+◌, ◌<◌, List, [], ◌∷◌, ap, arith, length, get_or, take, add-one}
use Rattle.split_model.specs.declared.layout.Crossing.{Crossing}
use Rattle.split_model.specs.Counts.{total}

wider : (cs : List Crossing) (i : ℕ) (c : Crossing) → i < length cs → c ≡ get_or cs i c → total (take (suc i) cs) ≡ total (take i cs) + c.width
wider [] i c h e = absurd (omega arith)
wider (x ∷ xs) zero c h e = let same : c.width ≡ x.width = ap (λ (c : Crossing). c.width) e in omega arith
wider (x ∷ xs) (suc i) c h e = let rest = wider xs i c (omega arith) e in omega arith

-- the bits of one value more
pub bits_more : (cs : List Crossing) (i : ℕ) (c : Crossing) → i < length cs → c ≡ get_or cs i c → total (take (i + 1) cs) ≡ total (take i cs) + c.width
bits_more cs i c h e = rw add-one (wider cs i c h e)
