-- The events that are made.
use Rattle.std.specs.Prelude.{ℕ, zero, suc, ◌+◌, ◌/◌, List, [], ◌∷◌, ◌++◌}
use Rattle.run_model.specs.declared.event.Event.{Event}
use Rattle.run_model.specs.declared.event.Event.TheVariants.{Admit, Serve, Send, Apply, Ack, Hold, Down}

-- so many copies of a list, one after the other
abbrev pub copies : {X : Type 0} → ℕ → List X → List X
copies zero xs = []
copies (suc n) xs = xs ++ copies n xs

-- what a round of 16 packets asks for, event by event: all come in, the server runs those that were sent up, 64
-- commands are sent, applied and acknowledged, and what was held goes down and out
abbrev pub round_events : List Event
round_events =
    copies 16 (Admit ∷ []) ++ (copies 16 (Serve 0 ∷ []) ++ (copies 64 (Send ∷ Apply ∷ Ack ∷ [])
    ++ (copies 16 (Hold 0 ∷ []) ++ copies 16 (Down 0 ∷ []))))

-- the last round may have fewer packets
abbrev pub rounds_of : ℕ → ℕ
rounds_of count = (count + 15) / 16

abbrev pub events_of : ℕ → List Event
events_of count = copies (rounds_of count) round_events
