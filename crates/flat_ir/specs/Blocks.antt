-- Blocks, and which of them are live.
use Rattle.std.specs.Prelude.{ℕ, zero, suc, ◌==◌, ◌<◌, ◌≤◌, Bool, true, false, List, [], ◌∷◌, length, slice_index_or}
use Rattle.std.specs.List.{list_all, list_any}
use Rattle.flat_ir.specs.declared.program.ValueId.{ValueId}
use Rattle.flat_ir.specs.declared.program.Block.{Block}

-- a number for each value; values that nothing is known of count as 0
abbrev pub Reading : Type 0
Reading = ValueId → ℕ

abbrev pub nothing : Reading
nothing v = 0

-- a number as a bit
abbrev pub is_on : ℕ → Bool
is_on n = n == 1

abbrev pub same : Bool → Bool → Bool
same true b = b
same false true = false
same false false = true

-- the block at place k of the list, which is block k + 1; past the end, one below the root
abbrev pub block_at : List Block → ℕ → Block
block_at blocks k = slice_index_or blocks k
    (record { parent = 0; cond = record { instruction = 0; result = 0 }; polarity = true })

-- a block and those above it, at most n of these
abbrev pub line_up : ℕ → List Block → ℕ → List ℕ
line_up n blocks zero = zero ∷ []
line_up zero blocks (suc k) = suc k ∷ []
line_up (suc n) blocks (suc k) = suc k ∷ line_up n blocks (block_at blocks k).parent

-- a block and all those above it, since each has a lower number than those below it
abbrev pub line : List Block → ℕ → List ℕ
line blocks k = line_up k blocks k

-- the condition of a block has its polarity
abbrev pub holds : List Block → Reading → ℕ → Bool
holds blocks reads zero = true
holds blocks reads (suc k) = same (block_at blocks k).polarity (is_on (reads (block_at blocks k).cond))

-- a block is live where its condition and those of all blocks above it have their polarity
abbrev pub is_live : List Block → Reading → ℕ → Bool
is_live blocks reads k = list_all (holds blocks reads) (line blocks k)

-- a block is this one or stands above it
abbrev pub is_above : List Block → ℕ → ℕ → Bool
is_above blocks a k = list_any (λ b. b == a) (line blocks k)

-- each block stands below one with a lower number
abbrev pub HasLowParents : List Block → Type 0
HasLowParents blocks = (k : ℕ) → k < length blocks → (block_at blocks k).parent ≤ k
