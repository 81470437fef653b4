-- How many bytes the names of a composed middlebox's locals have: each is `v` and its number in decimal.
use Rattle.std.specs.Prelude.{ℕ, zero, suc, ◌+◌, ◌^◌, List, [], ◌∷◌, slice_index}
use Rattle.chain_compose.specs.NamedFrom.{count_from}

-- How many digits the numbers have behind their first ones, where none has more than k of these: a number has one more
-- from each power of ten on.
abbrev pub more_digits : ℕ → List ℕ → ℕ
more_digits zero xs = 0
more_digits (suc k) xs = more_digits k xs + count_from (10 ^ suc k) xs

-- the lengths of these names in all
abbrev pub names_sum : List ℕ → List ℕ → ℕ
names_sum lengths [] = 0
names_sum lengths (x ∷ xs) = slice_index lengths x + names_sum lengths xs
