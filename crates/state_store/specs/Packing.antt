-- Short lists of numbers in one word or two, from the highest bit down.
use Rattle.std.specs.Prelude.{ℕ, ◌+◌, ◌-◌, ◌*◌, ◌/◌, ◌%◌, ◌^◌, Bool, true, ◌&&◌, ◌==◌, nat_le, List, [], ◌∷◌}
use Rattle.std.specs.Prelude.{if◌then◌else◌}
use Rattle.gal_bits.specs.Fitting.{is_width}

-- each width is from 1 to 64, and all of them together are no more than so many bits
abbrev pub have_room : ℕ → List ℕ → Bool
have_room bits [] = true
have_room bits (w ∷ ws) = is_width w && (nat_le w bits && have_room (bits - w) ws)

-- numbers of these widths, one behind the other, in so many bits
unfoldable pub packed : ℕ → List ℕ → List ℕ → ℕ
packed bits [] ns = 0
packed bits (w ∷ ws) [] = 0
packed bits (w ∷ ws) (n ∷ ns) = n * 2 ^ (bits - w) + packed (bits - w) ws ns

-- the numbers again
unfoldable pub parts : ℕ → List ℕ → ℕ → List ℕ
parts bits [] x = []
parts bits (w ∷ ws) x = x / 2 ^ (bits - w) ∷ parts (bits - w) ws (x % 2 ^ (bits - w))

-- a number in one word, or in two, the high one first
unfoldable pub words : ℕ → ℕ → List ℕ
words count x = if count == 1 then x ∷ [] else x / 2 ^ 64 ∷ x % 2 ^ 64 ∷ []

-- the number again
unfoldable pub number : List ℕ → ℕ
number [] = 0
number (x ∷ []) = x
number (x ∷ y ∷ words) = x * 2 ^ 64 + y

-- the widths of rows, and in how many words their keys and their values lie
pub record Packing : Type 0 where
  pub keys : List ℕ
  pub values : List ℕ
  pub key_words : ℕ
  pub value_words : ℕ

-- numbers of these widths as words
unfoldable pub packed_list : ℕ → List ℕ → List ℕ → List ℕ
packed_list count ws ns = words count (packed (64 * count) ws ns)

unfoldable pub unpacked_list : ℕ → List ℕ → List ℕ → List ℕ
unpacked_list count ws l = parts (64 * count) ws (number l)
