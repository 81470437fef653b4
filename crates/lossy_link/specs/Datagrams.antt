-- What goes over a link: datagrams one way, confirmations the other.
use Rattle.std.specs.Prelude.{ℕ, List, ◌++◌, take, drop}
use Rattle.std.specs.Int.{w32, to_be_bytes, from_be_bytes}

-- a number in four bytes, the highest first; this is a confirmation
unfoldable pub number_bytes : ℕ → List ℕ
number_bytes number = to_be_bytes w32 number

-- an item behind its number
abbrev pub datagram : ℕ → List ℕ → List ℕ
datagram number item = number_bytes number ++ item

-- the number that the first four bytes spell, and the item behind them
unfoldable pub number_in : List ℕ → ℕ
number_in bytes = from_be_bytes w32 (take 4 bytes)

abbrev pub item_in : List ℕ → List ℕ
item_in bytes = drop 4 bytes
