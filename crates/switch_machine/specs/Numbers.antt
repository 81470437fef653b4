-- The numbers of a pass's values, and what its instructions read, give and write by them.
use Rattle.std.specs.Prelude.{◌≡◌, ◌≢◌, ℕ, zero, suc, ◌+◌, ◌-◌, ◌==◌, nat_lt, Bool, false}
use Rattle.std.specs.Prelude.{List, [], ◌∷◌, ◌++◌, if◌then◌else◌, slice_index, slice_index_or, Option, Some, None}
use Rattle.std.specs.List.{list_any, range_with_len, AllByRecursion as Each}
use Rattle.packet_fields.specs.declared.packet.Packet.{Packet}
use Rattle.state_store.specs.Store.{Store}
use Rattle.flat_ir.specs.declared.program.ValueId.{ValueId}
use Rattle.flat_ir.specs.Blocks.{Reading}
use Rattle.flat_ir.specs.Program.{operands}
use Rattle.flat_ir.specs.Run.{results}
use Rattle.switch_ir.specs.Code.{Step}
use Rattle.transfer_header.specs.Registers.{Registers, content_of}
use Rattle.transfer_header.specs.Steps.{Contents, is_among}
use Rattle.switch_machine.specs.declared.numbering.ValueRange.{ValueRange}

-- no values
abbrev pub no_values : ValueRange
no_values = record { first = 0; count = 0 }

-- where the values of an instruction stand
abbrev pub range_at : List ValueRange → ℕ → ValueRange
range_at ranges i = slice_index_or ranges i no_values

-- the number of a result, if there is such a value
abbrev pub number_at : ValueRange → ℕ → Option ℕ
number_at range place = if nat_lt place range.count then Some (range.first + place) else None

-- the number of a value, if the pass knows it
abbrev pub number_in : List ValueRange → ValueId → Option ℕ
number_in ranges v = number_at (range_at ranges v.instruction) v.result

abbrev pub content_at : Contents → Option ℕ → ℕ
content_at contents None = 0
content_at contents (Some number) = contents number

-- each value's content, 0 where the pass doesn't know the value
abbrev pub reads_by : List ValueRange → Contents → Reading
reads_by ranges contents v = content_at contents (number_in ranges v)

-- the registers have these numbers of some values
abbrev pub AreHeld : List ValueRange → Registers → Reading → List ValueId → Type 0
AreHeld ranges registers reads values = Each (λ v. reads_by ranges (content_of registers) v ≡ reads v) values

-- ## What an instruction gives

-- the first values of an instruction, so many of them, with their numbers by its results
abbrev pub first_gives : ValueRange → List ℕ → ℕ → List (ℕ × ℕ)
first_gives range given zero = []
first_gives range given (suc k) = first_gives range given k ++ (range.first + k, slice_index given k) ∷ []

-- what is given to all of its values
abbrev pub gives : ValueRange → List ℕ → List (ℕ × ℕ)
gives range given = first_gives range given range.count

abbrev pub values : ValueRange → List ℕ
values range = range_with_len range.first range.count

-- ## What instructions of one stage give, all from the same numbers

abbrev pub stage_gives : List ValueRange → List Step → Reading → Store → Packet → List (ℕ × ℕ)
stage_gives ranges [] reads tables packet = []
stage_gives ranges (s ∷ ss) reads tables packet =
    gives (range_at ranges s.instruction) (results reads false tables packet s.work)
    ++ stage_gives ranges ss reads tables packet

-- the values that they write
abbrev pub stage_writes : List ValueRange → List Step → List ℕ
stage_writes ranges [] = []
stage_writes ranges (s ∷ ss) = values (range_at ranges s.instruction) ++ stage_writes ranges ss

-- the number that they give to a value
abbrev pub stage_number : List ValueRange → List Step → Reading → Store → Packet → Contents
stage_number ranges [] reads tables packet n = 0
stage_number ranges (s ∷ ss) reads tables packet n =
    let range = range_at ranges s.instruction in
    if is_among n (values range) then slice_index (results reads false tables packet s.work) (n - range.first)
    else stage_number ranges ss reads tables packet n

abbrev pub is_number : Option ℕ → ℕ → Bool
is_number None n = false
is_number (Some number) n = number == n

-- the value of this number is among these
abbrev pub is_read : List ValueRange → List ValueId → ℕ → Bool
is_read ranges vs n = list_any (λ v. is_number (number_in ranges v) n) vs

-- one of the instructions reads it
abbrev pub stage_reads : List ValueRange → List Step → ℕ → Bool
stage_reads ranges ss n = list_any (λ (s : Step). is_read ranges (operands s.work) n) ss

-- each two of them are so, the first before the second
abbrev pub Pairs : {X : Type 0} → (X → X → Type 0) → List X → Type 0
Pairs P [] = Unit {0}
Pairs P (x ∷ xs) = Each (P x) xs × Pairs P xs

-- no instruction stands twice
abbrev pub AreOnce : List Step → Type 0
AreOnce steps = Pairs (λ (s other : Step). s.instruction ≢ other.instruction) steps
