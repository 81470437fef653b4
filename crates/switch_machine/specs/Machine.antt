-- A switch in memory as contracts see it.
use Rattle.std.specs.Prelude.{◌==◌, ◌&&◌, ℕ, Bool, true, false, List, [], ◌∷◌, Option, Some, if◌then◌else◌}
use Rattle.gal_io.specs.Count.{one_more}
use Rattle.switch_ir.specs.Code.{Code}
use Rattle.switch_ir.specs.Journal.{JournalState}
use Rattle.switch_ir.specs.Port.{PortState}
use Rattle.switch_ir.specs.Tables.{Told}
use Rattle.switch_ir.specs.UnderWay.{UnderWay}
use Rattle.switch_machine.specs.declared.calls.CallKind.{CallKind}
use Rattle.switch_machine.specs.declared.calls.CallKind.TheVariants.{Load, Room, Up, Down, BeginUp, StageUp, BeginDown, StageDown, Command, Visible}
use Rattle.switch_machine.specs.Counts.{CallCounts, count_of}

abbrev pub same_kind : CallKind → CallKind → Bool
same_kind Load Load = true
same_kind Room Room = true
same_kind Up Up = true
same_kind Down Down = true
same_kind BeginUp BeginUp = true
same_kind StageUp StageUp = true
same_kind BeginDown BeginDown = true
same_kind StageDown StageDown = true
same_kind Command Command = true
same_kind Visible Visible = true
same_kind _ _ = false

pub record MachineState : Type 0 where
  -- the code that was loaded last, if any was
  pub code : Option Code
  pub tables : Told
  -- the passes that are under way
  pub passes : UnderWay
  pub journal : JournalState
  pub faults : ℕ
  -- the calls that are to fail, by kind and number
  pub planned : List (CallKind × ℕ)
  pub calls : CallCounts

-- whether the call of this kind and number is to fail
abbrev pub is_planned : List (CallKind × ℕ) → CallKind → ℕ → Bool
is_planned [] kind call = false
is_planned (plan ∷ plans) kind call =
    if same_kind plan.0 kind && plan.1 == call then true else is_planned plans kind call

-- whether the next call of a kind is to fail
abbrev pub fails_next : MachineState → CallKind → Bool
fails_next m kind = is_planned m.planned kind (one_more (count_of m.calls kind))

-- it tells everything
abbrev pub seen_of : MachineState → PortState
seen_of m = record {
  code = m.code;
  told = Some m.tables;
  passes = m.passes;
  journal = m.journal.entries;
  spare = m.journal.spare;
  faults = m.faults;
}
