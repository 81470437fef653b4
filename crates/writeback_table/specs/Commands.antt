-- The commands of a batch of changes, and how commands go through the tables of one object.
use Rattle.std.specs.Prelude.{ℕ, zero, suc, ◌+◌, ◌==◌, Bool, true, false, List, [], ◌∷◌, ◌++◌, map, if◌then◌else◌}
use Rattle.writeback_table.specs.declared.command.Update.{Update}
use Rattle.writeback_table.specs.declared.command.Command.{Command}
use Rattle.writeback_table.specs.declared.command.Command.TheVariants.{Stage, On, Main, Off, Clear}
use Rattle.writeback_table.specs.Pair.{Pair, applied, has_room}

abbrev pub clear_of : Update → Command
clear_of update = Clear update.object update.key

-- the commands of a batch: all changes are staged, the bit is set, all are made, the bit is cleared, and all staged
-- keys are cleared, each group in the order of the changes
abbrev pub commands_of : List Update → List Command
commands_of updates = map (λ u. Stage u) updates ++ (On ∷ (map (λ u. Main u) updates ++ (Off ∷ map clear_of updates)))

-- ---- versions

abbrev pub counts_on : Command → ℕ
counts_on On = 1
counts_on _ = 0

-- how many of the commands set the bit
abbrev pub ons : List Command → ℕ
ons [] = 0
ons (command ∷ commands) = counts_on command + ons commands

-- how many versions the first n batches make, where batch i, from 0, makes `weight i` of them
abbrev pub versions : (ℕ → ℕ) → ℕ → ℕ
versions weight zero = 0
versions weight (suc n) = versions weight n + weight n

-- how many versions lookups see after the commands: those of the batches that set the bit
abbrev pub versions_on : (ℕ → ℕ) → List Command → ℕ
versions_on weight commands = versions weight (ons commands)

-- each batch makes one version
abbrev pub one_each : ℕ → ℕ
one_each i = 1

-- ---- the tables of one object

-- the command touches a table of this object
abbrev pub names : ℕ → Command → Bool
names o (Stage update) = update.object == o
names o (Main update) = update.object == o
names o (Clear object key) = object == o
names o _ = false

-- what a command does to the tables of object o, and whether it finds room there
abbrev pub pair_after : ℕ → Pair → Command → Pair
pair_after o pair command = if names o command then applied pair command else pair

abbrev pub room_for : ℕ → Pair → Command → Bool
room_for o pair command = if names o command then has_room pair command else true

-- the bit after a command
abbrev pub bit_after : Bool → Command → Bool
bit_after bit On = true
bit_after bit Off = false
bit_after bit _ = bit

-- the tables of object o, and the bit, after all of the commands
abbrev pub pair_through : ℕ → Pair → List Command → Pair
pair_through o pair [] = pair
pair_through o pair (command ∷ commands) = pair_through o (pair_after o pair command) commands

abbrev pub bit_through : Bool → List Command → Bool
bit_through bit [] = bit
bit_through bit (command ∷ commands) = bit_through (bit_after bit command) commands
