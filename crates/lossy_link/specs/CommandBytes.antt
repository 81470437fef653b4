-- The bytes of commands.
use Rattle.std.specs.Prelude.{◌≡◌, ◌<◌, ◌^◌, ℕ, List, [], ◌∷◌, ◌++◌, Some, slice_get, All, IsTrue}
use Rattle.std.specs.Int.{w64, to_be_bytes}
use Rattle.std.specs.List.{flat_map}
use Rattle.state_store.specs.declared.object.ObjectDecl.{ObjectDecl}
use Rattle.state_store.specs.Kept.{have_widths}
use Rattle.writeback_table.specs.declared.command.Command.{Command}
use Rattle.writeback_table.specs.declared.command.Command.TheVariants.{Stage, On, Main, Off, Clear}
use Rattle.writeback_table.specs.declared.command.To.{To}
use Rattle.writeback_table.specs.declared.command.To.TheVariants.{Value, Gone}
use Rattle.writeback_table.specs.declared.command.Update.{Update}
use Rattle.writeback_table.specs.Widths.{fits_update}

-- a number in eight bytes, the highest first
unfoldable pub eight_bytes : ℕ → List ℕ
eight_bytes number = to_be_bytes w64 number

abbrev pub word_bytes : List ℕ → List ℕ
word_bytes numbers = flat_map eight_bytes numbers

-- what a key has from now on: 0 where it is gone, else 1 and its values
abbrev pub to_bytes : To → List ℕ
to_bytes Gone = 0 ∷ []
to_bytes (Value values) = 1 ∷ word_bytes values

-- an object in one byte, and a key of it
abbrev pub key_bytes : ℕ → List ℕ → List ℕ
key_bytes object key = object ∷ word_bytes key

-- a key, and what it has
abbrev pub update_bytes : Update → List ℕ
update_bytes u = key_bytes u.object u.key ++ to_bytes u.to

-- a command: its kind, and what it changes
abbrev pub bytes_of : Command → List ℕ
bytes_of (Stage update) = 1 ∷ update_bytes update
bytes_of On = 2 ∷ []
bytes_of (Main update) = 3 ∷ update_bytes update
bytes_of Off = 4 ∷ []
bytes_of (Clear object key) = 5 ∷ key_bytes object key

-- the object that the command names, if it names one, has a number below this
abbrev pub NamesBelow : ℕ → Command → Type 0
NamesBelow most (Stage update) = update.object < most
NamesBelow most (Main update) = update.object < most
NamesBelow most (Clear object key) = object < most
NamesBelow most _ = Unit {0}

-- ---- the commands that are read

abbrev pub numbers_to : To → List ℕ
numbers_to Gone = []
numbers_to (Value values) = values

-- the numbers of a command's key and values
abbrev pub numbers_of : Command → List ℕ
numbers_of (Stage update) = update.key ++ numbers_to update.to
numbers_of (Main update) = update.key ++ numbers_to update.to
numbers_of (Clear object key) = key
numbers_of _ = []

-- eight bytes hold them
abbrev pub AreWords : List ℕ → Type 0
AreWords numbers = All (λ n. n < 2 ^ 64) numbers

-- a command of these objects: the one that it names is declared, and key and values have its widths
abbrev pub IsOfObjects : List ObjectDecl → Command → Type 0
IsOfObjects objects (Stage u) =
    (d : ObjectDecl) × (slice_get objects u.object ≡ Some d) × IsTrue (fits_update d u)
IsOfObjects objects (Main u) =
    (d : ObjectDecl) × (slice_get objects u.object ≡ Some d) × IsTrue (fits_update d u)
IsOfObjects objects (Clear object key) =
    (d : ObjectDecl) × (slice_get objects object ≡ Some d) × IsTrue (have_widths d.keys key)
IsOfObjects objects _ = Unit {0}

-- the bytes are those of a command of these objects
pub record AreBytesOf (objects : List ObjectDecl) (command : Command) (bytes : List ℕ) : Type 0 where
  pub declared : IsOfObjects objects command
  pub small : AreWords (numbers_of command)
  pub spelled : bytes ≡ bytes_of command
