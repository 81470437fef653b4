-- The parts of a command, and their bytes.
use Rattle.std.specs.Prelude.{◌≡◌, ℕ, List, ◌++◌, Some, slice_get, IsTrue}
use Rattle.state_store.specs.declared.object.ObjectDecl.{ObjectDecl}
use Rattle.state_store.specs.Kept.{have_widths}
use Rattle.writeback_table.specs.declared.command.To.{To}
use Rattle.writeback_table.specs.declared.command.Update.{Update}
use Rattle.writeback_table.specs.Widths.{fits_update, has_value_widths}
use Rattle.lossy_link.specs.CommandBytes.{AreWords, numbers_to, to_bytes, update_bytes, word_bytes}

-- the bytes are those of numbers of these widths
pub record SpellWords (widths numbers bytes : List ℕ) : Type 0 where
  pub fit : IsTrue (have_widths widths numbers)
  pub small : AreWords numbers
  pub spelled : bytes ≡ word_bytes numbers

-- the bytes are those of what a key of the object has
pub record SpellTo (d : ObjectDecl) (to : To) (bytes : List ℕ) : Type 0 where
  pub fit : IsTrue (has_value_widths d to)
  pub small : AreWords (numbers_to to)
  pub spelled : bytes ≡ to_bytes to

-- the bytes are those of a change of one of the objects
pub record SpellUpdate (objects : List ObjectDecl) (u : Update) (bytes : List ℕ) : Type 0 where
  pub declared : (d : ObjectDecl) × (slice_get objects u.object ≡ Some d) × IsTrue (fits_update d u)
  pub small : AreWords (u.key ++ numbers_to u.to)
  pub spelled : bytes ≡ update_bytes u
