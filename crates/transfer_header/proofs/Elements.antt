-- Pairs of a list's elements.
use Rattle.std.proofs.Common.{◌≡◌, List, get_or, length, map, sym, subst, arith}
use Rattle.std.specs.List.{AllPairs}
use Rattle.std.proofs.lemmas.List.{length-map, get_or-map}

pub AllPairs-map : {X Y : Type 0} (R : Y → Y → Type 0) (g : X → Y) (h : Y → X) (xs : List X) → AllPairs (λ a b. R (g a) (g b)) xs → AllPairs R (map g xs)
AllPairs-map R g h xs each i j d order within =
    let len : length (map g xs) ≡ length xs = length-map xs g in
    let first : get_or (map g xs) i d ≡ g (get_or xs i (h d)) = get_or-map g xs i (h d) d (omega (arith, len)) in
    let second : get_or (map g xs) j d ≡ g (get_or xs j (h d)) = get_or-map g xs j (h d) d (omega (arith, len)) in
    subst (λ y. R y (get_or (map g xs) j d)) (sym first) (subst (R (g (get_or xs i (h d)))) (sym second) (each i j (h d) order (omega (arith, len))))
