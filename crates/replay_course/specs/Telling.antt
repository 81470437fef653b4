-- What is told of a course.
use Rattle.std.specs.Prelude.{◌≡◌, ◌==◌, ◌&&◌, ℕ, Bool, List, Some, count_by, length}
use Rattle.run_model.specs.Fate.{is_decided, is_released}
use Rattle.run_model.specs.Order.{order_of}
use Rattle.run_model.specs.Parts.{parts_of}
use Rattle.run_model.specs.declared.run.ObjectRows.{ObjectRows}
use Rattle.run_model.specs.declared.run.Run.{Run}
use Rattle.output_commit.specs.Commit.{commands, visible}
use Rattle.switch_ir.specs.Port.{PortState}
use Rattle.switch_ir.specs.Tables.{Told}
use Rattle.split_model.specs.Shown.{is_replicated}
use Rattle.replay_contracts.specs.Called.{KeepsCalls}
use Rattle.replay_contracts.specs.Inputs.{Inputs}
use Rattle.replay_contracts.specs.Promise.{told_parts}
use Rattle.replay_course.specs.declared.course.Course.{Course}

-- the rows that the port shows of the replicated objects
pub record ShowsParts (x : Inputs) (old new : PortState) (parts : List ObjectRows) : Type 0 where
  pub kept : KeepsCalls old new
  pub rows : (told : Told) → old.told ≡ Some told
      → parts ≡ told_parts (is_replicated x.program x.split) told 0 x.program.objects

-- every packet of a trace of so many was admitted, nothing is on its way, and every command is acknowledged
abbrev pub is_done : ℕ → Course → Bool
is_done packets c =
    length c.fates.items == packets && (length c.passes == 0 && (length c.up.items == 0 && (length c.commit.held == 0 && (length c.down.items == 0
    && c.commit.acked == length (commands c.commit)))))

-- the run so far, with these rows of the switch
abbrev pub told_run : Inputs → Course → List ObjectRows → Run
told_run x c parts = record {
  total = length x.packets;
  decided = count_by is_decided c.fates.items;
  released = count_by is_released c.fates.items;
  events = c.events;
  idle = c.idle;
  version = c.server.version;
  visible = visible c.commit;
  drained = is_done (length x.packets) c;
  fates = c.fates.items;
  order = order_of c.fates.items;
  objects = parts_of x.program.objects c.server.store;
  switch = parts;
}
