-- What holds of serial runs.
use Rattle.run_model.proofs.AlikeMeanings.{same_drained, same_released, same_serialises}
use Rattle.run_model.specs.Meaning.{AreAlike, Meaning}
use Rattle.run_model.specs.Serialises.{AllReleased, IsDrained, Serialises}
use Rattle.run_model.specs.declared.run.Run.{Run}

-- A serial run of one program is a serial run of each that means the same.
pub meanings_that_agree-serialises : (m n : Meaning) (run : Run)
    → AreAlike m n run.total → Serialises m run → Serialises n run
meanings_that_agree-serialises = same_serialises

pub meanings_that_agree-released : (m n : Meaning) (run : Run)
    → AreAlike m n run.total → Serialises m run → AllReleased m run → AllReleased n run
meanings_that_agree-released = same_released

pub meanings_that_agree-drained : (m n : Meaning) (run : Run)
    → AreAlike m n run.total → Serialises m run → IsDrained m run → IsDrained n run
meanings_that_agree-drained = same_drained
