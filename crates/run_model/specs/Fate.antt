-- How far a fate has come.
use Rattle.std.specs.Prelude.{Bool, true, false}
use Rattle.run_model.specs.declared.fate.Fate.{Fate}
use Rattle.run_model.specs.declared.fate.Fate.TheVariants.{Pass, Up, Slow, Fast}

-- its verdict stands
abbrev pub is_decided : Fate → Bool
is_decided (Pass a) = false
is_decided (Up a) = false
is_decided _ = true

-- its packet is out, or dropped
abbrev pub is_released : Fate → Bool
is_released (Slow a d v r y) = true
is_released (Fast a d v r y) = true
is_released _ = false
