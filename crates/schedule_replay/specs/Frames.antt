-- What a replayer tells of the frames on their way.
use Rattle.std.specs.Prelude.{◌≡◌, ℕ, List, Some, slice_get}

-- the frame is that of the packet which stands at this place
pub record IsFrameAt (frame_of : ℕ → List ℕ) (packets : List ℕ) (j : ℕ) (frame : List ℕ) : Type 0 where
  pub number : ℕ
  pub there : slice_get packets j ≡ Some number
  pub is : frame ≡ frame_of number
