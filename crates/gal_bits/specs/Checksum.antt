-- The internet checksum of 16-bit words, in one's complement arithmetic.
use Rattle.std.specs.Prelude.{◌≡◌, ℕ, ◌+◌, ◌-◌, ◌/◌, ◌%◌, ◌<◌, List, ◌∷◌, ◌++◌, fold, All, Any}

-- the word with each bit turned
abbrev pub complement : ℕ → ℕ
complement x = 65535 - x

-- the one's complement sum of two words: what is carried out at the top comes in at the bottom
abbrev pub carried_sum : ℕ → ℕ → ℕ
carried_sum x y = (x + y) % 65536 + (x + y) / 65536

-- the checksum after a word under it has changed from old to new, by RFC 1624, equation 3
unfoldable pub adjusted : ℕ → ℕ → ℕ → ℕ
adjusted sum old new = complement (carried_sum (carried_sum (complement sum) (complement old)) new)

-- both stand for one number in one's complement
abbrev pub IsCongruent : ℕ → ℕ → Type 0
IsCongruent x y = x % 65535 ≡ y % 65535

-- each has 16 bits
abbrev pub AreWords : List ℕ → Type 0
AreWords words = All (λ word. word < 65536) words

-- the checksum of the words, by RFC 1071
abbrev pub checksum_of : List ℕ → ℕ
checksum_of words = complement (fold carried_sum 0 words)

-- if sum is the checksum of words among them old, result is that with new in its place, unless then all are 0
abbrev pub IsRecomputed : ℕ → ℕ → ℕ → ℕ → Type 0
IsRecomputed sum old new result =
    (before after : List ℕ) → AreWords before → AreWords after → Any (λ word. 0 < word) (before ++ new ∷ after)
    → sum ≡ checksum_of (before ++ old ∷ after) → result ≡ checksum_of (before ++ new ∷ after)
