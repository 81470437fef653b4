-- Whether a replayer had failed.
use Rattle.std.proofs.Common.{◌≡◌, Option, Some, None, refl}
use Rattle.replay_contracts.specs.declared.job.ReplayError.{ReplayError}

pub by_failed : (failed : Option ReplayError) (P : Type 0) → (failed ≡ None → P) → ((e : ReplayError) → failed ≡ Some e → P) → P
by_failed None P none some = none refl
by_failed (Some e) P none some = some e refl
