-- Only proofs need this. What preprocessing has of the first instructions.
use Rattle.flat_ir.specs.Program.{Program}
use Rattle.flat_ir.specs.Sets.{IsPreClosed, IsCarriedClosed, IsGreatest}
use Rattle.flat_ir.specs.Stages.{IsDepths}
use Rattle.partition.specs.declared.front.Front.{Front}

-- the most that preprocessing can have of the first instructions, the most of that which it can hand up, and the
-- depths of the former
pub record IsFront (f : Program) (front : Front) : Type 0 where
  pub pre : IsGreatest f (IsPreClosed f front.count) front.pre
  pub carried : IsGreatest f (IsCarriedClosed f front.pre) front.carried
  pub depths : IsDepths f front.pre front.depths
