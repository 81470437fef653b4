-- A link of frames at work.
use Rattle.std.specs.Prelude.{◌≡◌, ℕ, true, List}
use Rattle.lossy_link.specs.Link.{Link, is_among}
use Rattle.lossy_replay.specs.Linked.{arrived, standing}
use Rattle.lossy_replay.specs.Lines.{IsAtWork, link_of}
use Rattle.lossy_replay.specs.declared.way.Way.{Way}

-- these are the link, the numbers of the frames that weren't taken, and those of them that were delivered
pub record IsWay (l : Link) (gone : List ℕ) (way : Way) : Type 0 where
  pub at_work : IsAtWork way.line
  pub link : link_of way.line ≡ l
  pub stand : way.standing.items ≡ standing l gone
  pub came : way.arrived.items ≡ arrived l gone
  -- what was taken was delivered
  pub taken : (n : ℕ) → is_among gone n ≡ true → is_among l.got n ≡ true
