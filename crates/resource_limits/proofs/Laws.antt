-- What holds of limits and counts, as the definitions give it.
use Rattle.std.specs.Prelude.{None, ◌↔◌, ◌≡◌}
use Rattle.resource_limits.proofs.Kept.{keeps_if_none, none_if_keeps}
use Rattle.resource_limits.specs.Kept.{Keeps, first_excess}
use Rattle.resource_limits.specs.declared.counting.Counts.{Counts}
use Rattle.resource_limits.specs.declared.limits.Limits.{Limits}

-- Counts keep the limits exactly where there is no first one that they exceed.
pub kept_limits_are_not_exceeded : (c : Counts) (l : Limits) → (first_excess c l ≡ None) ↔ Keeps c l
kept_limits_are_not_exceeded = λ counts limits. (keeps_if_none counts limits, none_if_keeps counts limits)
