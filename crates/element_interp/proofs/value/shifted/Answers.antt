use Rattle.element_interp.proofs.NoBits.{no_bits}
use Rattle.element_interp.proofs.value.shifted.Goals as goal

pub returns-in-None : goal.returns-in-None
returns-in-None c = no_bits _ _ _ c.requires.small c.in-None.ensures
