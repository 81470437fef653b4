-- How many calls of a switch there were.
use Rattle.std.specs.Prelude.{ℕ}
use Rattle.gal_io.specs.Count.{one_more}
use Rattle.switch_machine.specs.declared.calls.CallKind.{CallKind}
use Rattle.switch_machine.specs.declared.calls.CallKind.TheVariants.{Load, Room, Up, Down, BeginUp, StageUp, BeginDown, StageDown, Command, Visible}
use Rattle.switch_machine.specs.declared.calls.Calls.{Calls}

-- how many calls there were of each kind
pub record CallCounts : Type 0 where
  pub load : ℕ
  pub room : ℕ
  pub up : ℕ
  pub down : ℕ
  pub begin_up : ℕ
  pub stage_up : ℕ
  pub begin_down : ℕ
  pub stage_down : ℕ
  pub command : ℕ
  pub visible : ℕ

abbrev pub count_of : CallCounts → CallKind → ℕ
count_of c Load = c.load
count_of c Room = c.room
count_of c Up = c.up
count_of c Down = c.down
count_of c BeginUp = c.begin_up
count_of c StageUp = c.stage_up
count_of c BeginDown = c.begin_down
count_of c StageDown = c.stage_down
count_of c Command = c.command
count_of c Visible = c.visible

-- the counts with one call more of a kind
abbrev pub counted : CallCounts → CallKind → CallCounts
counted c Load = record c { load = one_more c.load }
counted c Room = record c { room = one_more c.room }
counted c Up = record c { up = one_more c.up }
counted c Down = record c { down = one_more c.down }
counted c BeginUp = record c { begin_up = one_more c.begin_up }
counted c StageUp = record c { stage_up = one_more c.stage_up }
counted c BeginDown = record c { begin_down = one_more c.begin_down }
counted c StageDown = record c { stage_down = one_more c.stage_down }
counted c Command = record c { command = one_more c.command }
counted c Visible = record c { visible = one_more c.visible }

abbrev pub counts_of : Calls → CallCounts
counts_of c = record {
  load = c.load;
  room = c.room;
  up = c.up;
  down = c.down;
  begin_up = c.begin_up;
  stage_up = c.stage_up;
  begin_down = c.begin_down;
  stage_down = c.stage_down;
  command = c.command;
  visible = c.visible;
}
