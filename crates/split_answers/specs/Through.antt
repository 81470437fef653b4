-- The tables that a switch tells, after the commands that it applied.
use Rattle.std.specs.Prelude.{◌≡◌, ◌<◌, ℕ, true, false, List, length, Some}
use Rattle.std.specs.FinMap as finmap
use Rattle.state_store.specs.declared.object.ObjectDecl.{ObjectDecl}
use Rattle.state_store.specs.Kinds.{is_table}
use Rattle.state_store.specs.Store.{Store, object_at}
use Rattle.writeback_table.specs.declared.command.Command.{Command}
use Rattle.writeback_table.specs.Commands.{bit_through, pair_through}
use Rattle.flat_ir.specs.Program.{Program}
use Rattle.split_model.specs.declared.split.Part.{Part}
use Rattle.split_model.specs.Shown.{is_replicated}
use Rattle.switch_ir.specs.Code.{Code}
use Rattle.switch_ir.specs.Port.{IsReplicatedIn}
use Rattle.switch_ir.specs.Tables.{Told, declared_at, pair_at, start_pair}
use Rattle.replay_state.specs.Journal.{UpAnswer, Finished, SentUp, GoingUp, DownAnswer, Released, GoingDown}
use Rattle.switch_ir.specs.declared.port.UpEnd.{UpEnd}
use Rattle.switch_ir.specs.declared.port.UpEnd.TheVariants as up
use Rattle.switch_ir.specs.declared.port.DownEnd.{DownEnd}
use Rattle.switch_ir.specs.declared.port.DownEnd.TheVariants as down

-- Each object that can change has the tables that these commands make of its start tables, one after the other, and so
-- has the bit; constant tables are as they were loaded.
pub record IsThrough (code : Code) (commands : List Command) (told : Told) : Type 0 where
  pub there : (o : ℕ) (d : ObjectDecl) → declared_at code.tables o ≡ Some d → o < length told.pairs
  pub pairs : (o : ℕ) (d : ObjectDecl) → IsReplicatedIn code o d
      → pair_at told.pairs o ≡ pair_through o (start_pair code.writeback (Some d)) commands
  pub constant : (o : ℕ) (d : ObjectDecl) → declared_at code.tables o ≡ Some d → is_table d.kind ≡ true
      → pair_at told.pairs o ≡ start_pair code.writeback (Some d)
  pub bit : told.bit ≡ bit_through false commands

-- how a pass ends that is answered so, and what answers a pass that ends so
abbrev pub end_of : UpAnswer → UpEnd
end_of (Finished verdict) = up.Finished verdict
end_of (SentUp frame) = up.Up frame
end_of GoingUp = up.Going

abbrev pub answer_of : UpEnd → UpAnswer
answer_of (up.Finished verdict) = Finished verdict
answer_of (up.Up frame) = SentUp frame
answer_of up.Going = GoingUp

abbrev pub down_end_of : DownAnswer → DownEnd
down_end_of (Released verdict) = down.Verdict verdict
down_end_of GoingDown = down.Going

abbrev pub down_answer_of : DownEnd → DownAnswer
down_answer_of (down.Verdict verdict) = Released verdict
down_answer_of down.Going = GoingDown

-- the switch's tables are the store's: each replicated object is its main table, nothing is staged, and the bit is
-- clear
pub record HasTables (f : Program) (split : List Part) (writeback : ℕ) (st : Store) (told : Told) : Type 0 where
  pub bit : told.bit ≡ false
  pub each : (o : ℕ) → is_replicated f split o ≡ true
      → pair_at told.pairs o ≡ record { main = object_at st o; staged = finmap.empty; room = writeback }
