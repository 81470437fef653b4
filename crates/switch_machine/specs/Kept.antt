-- What a switch in memory keeps of its tables.
use Rattle.std.specs.Prelude.{◌≡◌, ◌≤◌, ℕ, Bool, true, ◌&&◌, List, Option, Some, None, IsTrue}
use Rattle.std.specs.Coded.{Coded-set, coded_bool, le_prop}
use Rattle.std.specs.FinMap as map
use Rattle.state_store.specs.declared.object.ObjectDecl.{ObjectDecl}
use Rattle.state_store.specs.Kept.{have_widths, IsKeptObject}
use Rattle.writeback_table.specs.Codes.{pair_code}
use Rattle.writeback_table.specs.Pair.{Pair}
use Rattle.switch_ir.specs.Code.{Code}
use Rattle.state_store.specs.Once.{kept_object_prop}
use Rattle.switch_ir.specs.Tables.{Told, declared_at, no_pair, pair_at}

-- a staged row has the declared widths, where it isn't gone
abbrev pub staged_fits : ObjectDecl → Option (List ℕ) → Bool
staged_fits d None = true
staged_fits d (Some values) = have_widths d.values values

-- the tables of an object: the main table keeps what was declared, and what is staged fits it and has room
pub record KeepsRows (d : ObjectDecl) (pair : Pair) : Type 0 where
  pub main : IsKeptObject d pair.main
  pub staged : (key : List ℕ) (row : Option (List ℕ)) → map.get pair.staged key ≡ Some row
      → IsTrue (have_widths d.keys key && staged_fits d row)
  pub few : map.len pair.staged ≤ pair.room
  pub room : pair.room ≤ 65536

-- the tables of each object that the code looks up, and no others
pub record KeepsTables (code : Code) (told : Told) : Type 0 where
  pub rows : (o : ℕ) (d : ObjectDecl) → declared_at code.tables o ≡ Some d → KeepsRows d (pair_at told.pairs o)
  pub none : (o : ℕ) → declared_at code.tables o ≡ None → pair_at told.pairs o ≡ no_pair

-- those of the code that is loaded, if any is
abbrev pub AreSafe : Option Code → Told → Type 0
AreSafe loaded told = (code : Code) → loaded ≡ Some code → KeepsTables code told

-- this has at most one proof
rows_prop : (d : ObjectDecl) (pair : Pair) → IsProp (KeepsRows d pair)
rows_prop d pair a b = λ i. record {
  main = kept_object_prop d pair.main a.main b.main i;
  staged = λ key row is. Coded-set coded_bool _ _ (a.staged key row is) (b.staged key row is) i;
  few = le_prop a.few b.few i;
  room = le_prop a.room b.room i;
}

pub safe_prop : (loaded : Option Code) (told : Told) → IsProp (AreSafe loaded told)
safe_prop loaded told a b =
    λ i code here. record {
      rows = λ o d is. rows_prop d (pair_at told.pairs o) ((a code here).rows o d is) ((b code here).rows o d is) i;
      none = λ o is. Coded-set pair_code _ _ ((a code here).none o is) ((b code here).none o is) i;
    }
