-- The serial order of a run.
use Rattle.std.specs.Prelude.{ℕ, Bool, true, false, List, [], ◌∷◌, Option, Some, None, map, nat_lt, if◌then◌else◌, suc}
use Rattle.run_model.specs.declared.serial.Decided.{Decided}
use Rattle.run_model.specs.declared.fate.Fate.{Fate}
use Rattle.run_model.specs.declared.fate.Fate.TheVariants.{Held, Slow, Fast}

-- x stands before y: by version, then by deciding event, then by number
abbrev pub stands_before : Decided → Decided → Bool
stands_before x y =
    if nat_lt x.version y.version then true
    else (if nat_lt y.version x.version then false
    else (if nat_lt x.event y.event then true
    else (if nat_lt y.event x.event then false
    else nat_lt x.number y.number)))

-- one more in its place among sorted ones
abbrev pub put_in : Decided → List Decided → List Decided
put_in d [] = d ∷ []
put_in d (x ∷ xs) = if stands_before d x then d ∷ (x ∷ xs) else x ∷ put_in d xs

abbrev pub sorted : List Decided → List Decided
sorted [] = []
sorted (d ∷ ds) = put_in d (sorted ds)

-- where a packet of this number and fate stands, if it is decided
abbrev pub decided_of : ℕ → Fate → Option Decided
decided_of n (Held a d v) = Some (record { version = v; event = d; number = n })
decided_of n (Slow a d v r y) = Some (record { version = v; event = d; number = n })
decided_of n (Fast a d v r y) = Some (record { version = v; event = d; number = n })
decided_of n _ = None

abbrev pub with_decided : Option Decided → List Decided → List Decided
with_decided None ds = ds
with_decided (Some d) ds = d ∷ ds

-- the decided ones among the fates of the packets from number n on
abbrev pub decided_from : ℕ → List Fate → List Decided
decided_from n [] = []
decided_from n (f ∷ fs) = with_decided (decided_of n f) (decided_from (suc n) fs)

-- the numbers of the decided packets by version, those of one version by deciding event, and then by number
abbrev pub order_of : List Fate → List ℕ
order_of fates = map (λ d. d.number) (sorted (decided_from 0 fates))
