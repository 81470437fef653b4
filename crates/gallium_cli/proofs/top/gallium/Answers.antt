use Rattle.std.proofs.Common.{inl, inr, refl}
use Rattle.gallium_cli.proofs.Promised.{promised}
use Rattle.gallium_cli.proofs.top.gallium.Goals as goal

pub returns-in-Ok : goal.returns-in-Ok
returns-in-Ok g c = promised _ _ (inl (refl, c.in-Ok.ensures.0, c.in-Ok.ensures.1, refl))

pub returns-in-Err : goal.returns-in-Err
returns-in-Err g c = promised _ _ (inr (c.in-Err.refusal, c.in-Err.ensures.0, c.in-Err.ensures.1, c.tell.ensures))
