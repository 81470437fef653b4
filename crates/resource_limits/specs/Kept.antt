-- Which limits a split keeps, and the first that it exceeds.
use Rattle.std.specs.Prelude.{ℕ, suc, ◌≤◌, Bool, List, [], ◌∷◌, ◌++◌, codes, Option, Some, None, nat_lt, All}
use Rattle.std.specs.List.{find}
use Rattle.flat_ir.specs.Program.{Program}
use Rattle.split_model.specs.declared.split.Part.{Part}
use Rattle.resource_limits.specs.Limits.{name_of}
use Rattle.resource_limits.specs.Counts.{counts_of}
use Rattle.resource_limits.specs.declared.limits.Key.TheVariants as key
use Rattle.resource_limits.specs.declared.limits.Limits.{Limits}
use Rattle.resource_limits.specs.declared.counting.Counts.{Counts}
use Rattle.resource_limits.specs.declared.exceeding.LimitName.{LimitName}
use Rattle.resource_limits.specs.declared.exceeding.LimitName.TheVariants.{Accesses, Stages, TableBits}
use Rattle.resource_limits.specs.declared.exceeding.LimitName.TheVariants.{Writeback, TransferBytes}
use Rattle.resource_limits.specs.declared.exceeding.Over.{Over}

-- a limit has the name of its key; the one that is in no file is named for itself
abbrev pub limit_name : LimitName → List ℕ
limit_name Accesses = codes "accesses"
limit_name Stages = name_of key.Stages
limit_name TableBits = name_of key.TableBits
limit_name Writeback = name_of key.Writeback
limit_name TransferBytes = name_of key.TransferBytes

-- each count is at most its limit: one look at each object, as many writes of it as its write-back table has rows
pub record Keeps (c : Counts) (l : Limits) : Type 0 where
  pub accesses : All (λ n. n ≤ 1) c.accesses
  pub stages : c.stages ≤ l.stages
  pub table_bits : c.table_bits ≤ l.table_bits
  pub writeback : All (λ n. n ≤ l.writeback) c.writes
  pub transfer_bytes : c.transfer_bytes ≤ l.transfer_bytes

-- the split keeps the limits, with write-back tables of as many rows as they allow
abbrev pub KeepsLimits : Program → List Part → Limits → Type 0
KeepsLimits f split limits = Keeps (counts_of f split limits.writeback) limits

-- ## The first that it exceeds

-- the numbers of the objects from number o on, each beside the limit
abbrev pub of_objects : LimitName → ℕ → ℕ → List ℕ → List Over
of_objects limit allowed o [] = []
of_objects limit allowed o (have ∷ haves) =
    record { limit = limit; object = Some o; have = have; allowed = allowed } ∷ of_objects limit allowed (suc o) haves

-- a count of the whole split beside its limit
abbrev pub of_all : LimitName → ℕ → ℕ → Over
of_all limit allowed have = record { limit = limit; object = None; have = have; allowed = allowed }

-- each count beside its limit, in the order of the limits, and of the objects where a limit is for each of them
abbrev pub all_limits : Counts → Limits → List Over
all_limits c l =
    of_objects Accesses 1 0 c.accesses
    ++ of_all Stages l.stages c.stages ∷ of_all TableBits l.table_bits c.table_bits
    ∷ (of_objects Writeback l.writeback 0 c.writes ++ of_all TransferBytes l.transfer_bytes c.transfer_bytes ∷ [])

abbrev pub exceeds : Over → Bool
exceeds over = nat_lt over.allowed over.have

-- the first count above its limit
abbrev pub first_excess : Counts → Limits → Option Over
first_excess c l = find exceeds (all_limits c l)
