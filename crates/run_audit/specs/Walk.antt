-- Release against admission, from the end of an order.
use Rattle.std.specs.Prelude.{ℕ, min, nat_lt, Bool, false, List, [], ◌∷◌, Option, Some, None, option_map, slice_get}
use Rattle.std.specs.Prelude.{if◌then◌else◌}
use Rattle.packet_fields.specs.declared.verdict.Verdict.{Verdict}
use Rattle.run_model.specs.declared.fate.Fate.{Fate}
use Rattle.run_model.specs.Serialises.{admitted_at, released_at}

-- the event that released a packet
abbrev pub release_of : Option Fate → Option ℕ
release_of fate = option_map (λ (told : ℕ × Verdict). told.0) (released_at fate)

-- the lesser of two events, of which either may be missing
abbrev pub least_of : Option ℕ → Option ℕ → Option ℕ
least_of None other = other
least_of (Some n) None = Some n
least_of (Some n) (Some k) = Some (min n k)

-- both are there, and the first is above the other
abbrev pub is_above : Option ℕ → Option ℕ → Bool
is_above None other = false
is_above (Some n) None = false
is_above (Some n) (Some k) = nat_lt k n

-- the earliest release
abbrev pub least_in : List Fate → List ℕ → Option ℕ
least_in fates [] = None
least_in fates (p ∷ ps) = least_of (release_of (slice_get fates p)) (least_in fates ps)

-- the first packet that was admitted behind the release of one that doesn't stand before it
abbrev pub late_in : List Fate → List ℕ → Option ℕ
late_in fates [] = None
late_in fates (p ∷ ps) =
    if is_above (admitted_at (slice_get fates p)) (least_in fates (p ∷ ps)) then Some p else late_in fates ps
