-- What calls of a switch leave in its journal and its tables.
use Rattle.std.proofs.Common.{◌≡◌, [], ◌∷◌, Option, Some, None, refl, ap, ◌∙◌, arith}
use Rattle.std.specs.Prelude.{is_some}
use Rattle.std.specs.Option.{option_map}
use Rattle.switch_ir.specs.Code.{Code}
use Rattle.switch_ir.specs.Port.{PortState}
use Rattle.switch_ir.specs.Tables.{Told}
use Rattle.replay_state.specs.Journal.{Call}
use Rattle.split_answers.specs.Over.{IsGiven}
use Rattle.replay_contracts.specs.Replayer.{StaysTold}
use Rattle.replay_contracts.specs.Called.{KeepsCalls, WasCalled, WasMade, told_then}
use Rattle.replay_contracts.proofs.Calls.{made_leaves}

pub keeps_all : (port : PortState) → KeepsCalls port port
keeps_all port = record { code = refl; told = refl; passes = refl; journal = refl; spare = omega arith; faults = refl }

pub kept_stays : (old new : PortState) → KeepsCalls old new → StaysTold old new
kept_stays old new kept = record { told = ap is_some kept.told; faults = kept.faults }

pub stays_all : (port : PortState) → StaysTold port port
stays_all port = record { told = refl; faults = refl }

pub stays_more : (a b c : PortState) → StaysTold a b → StaysTold b c → StaysTold a c
stays_more a b c one two = record {
  told = two.told ∙ one.told;
  faults = two.faults ∙ one.faults;
}

some_map : (f : Told → Told) (o : Option Told) → is_some (option_map f o) ≡ is_some o
some_map f None = refl
some_map f (Some told) = refl

pub made_stays : (call : Call) (old new : PortState) → WasMade call old new → StaysTold old new
made_stays call old new was =
    let left = made_leaves call old new was in
    record { told = ap is_some left.told ∙ some_map (told_then call) old.told; faults = left.faults }

-- one call, and nothing behind it
pub called_once : (code : Code) (call : Call) (old new : PortState) → IsGiven code call → WasMade call old new → WasCalled code (call ∷ []) old new
called_once code call old new given was = (new, given, was, keeps_all new)
