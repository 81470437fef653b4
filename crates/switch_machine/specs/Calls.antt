-- When the calls of a switch in memory fail, and how they are counted.
use Rattle.std.specs.Prelude.{◌≡◌, Bool, Result, Err, ⊤}
use Rattle.gal_io.specs.Count.{IsCountedIf, count_after}
use Rattle.switch_ir.specs.Port.{has_failed}
use Rattle.switch_ir.specs.declared.port.PortError.{PortError}
use Rattle.switch_ir.specs.declared.port.PortError.TheVariants.{NoMemory}
use Rattle.switch_machine.specs.declared.calls.CallKind.{CallKind}
use Rattle.switch_machine.specs.Counts.{counted}
use Rattle.switch_machine.specs.Machine.{MachineState}

-- A call fails exactly where that was planned. A load, room and rows that fail take no memory, so that these calls end
-- for want of memory only where no failure was planned.
abbrev pub EndsAsPlanned : {A : Type 0} → Bool → Result A PortError → Type 0
EndsAsPlanned planned end = planned ≡ has_failed end

-- A pass is noted with its end, also where it fails: for want of memory for that it may end before.
abbrev pub PassEndsAsPlanned : {A : Type 0} → Bool → Result A PortError → Type 0
PassEndsAsPlanned planned (Err NoMemory) = ⊤
PassEndsAsPlanned planned end = planned ≡ has_failed end

-- a call of this kind is counted, and a fault where it failed; the plan stays
pub record IsCountedAs (kind : CallKind) (failed : Bool) (old new : MachineState) : Type 0 where
  pub planned : new.planned ≡ old.planned
  pub calls : new.calls ≡ counted old.calls kind
  pub faults : IsCountedIf failed old.faults new.faults

-- the state after a call of this kind is counted, and its fault where it fails
abbrev pub called : MachineState → CallKind → Bool → MachineState
called m kind failed = record m {
  calls = counted m.calls kind;
  faults = count_after failed m.faults;
}
