-- A list of entries that rises and has those of all decided packets: it is the serial order of their fates.
use Rattle.std.proofs.Common.{◌≡◌, ℕ, List, Option, Some, None, map, sym, ◌∙◌, ap}
use Rattle.std.specs.Prelude.{slice_get}
use Rattle.std.proofs.lemmas.Option.{slice_get-map}
use Rattle.replay_state.specs.State.{Progress, fate_of}
use Rattle.run_model.specs.declared.serial.Decided.{Decided}
use Rattle.run_model.specs.Members.{Member}
use Rattle.run_model.proofs.RisingEntries.{Rising}
use Rattle.run_model.proofs.SerialSort as fates
use Rattle.run_model.proofs.SerialSort.{decided_number}
use Rattle.replay_state.proofs.Words.{entry_of}

pub entry_number : (n : ℕ) (o : Option Progress) (e : Decided) → entry_of n o ≡ Some e → e.number ≡ n
entry_number n None e h = cc
entry_number n (Some p) e h = decided_number n (fate_of p) e h

-- a list is the order of these fates
pub record IsOrder (ps : List Progress) (es : List Decided) : Type 0 where
  pub rising : Rising es
  pub sound : (e : Decided) → Member e es → entry_of e.number (slice_get ps e.number) ≡ Some e
  pub complete : (e : Decided) → entry_of e.number (slice_get ps e.number) ≡ Some e → Member e es

entry_at : (ps : List Progress) (n : ℕ) → fates.entry_of n (slice_get (map fate_of ps) n) ≡ entry_of n (slice_get ps n)
entry_at ps n = ap (fates.entry_of n) (slice_get-map fate_of ps n)

pub of_fates : (ps : List Progress) (es : List Decided) → IsOrder ps es → fates.IsOrder (map fate_of ps) es
of_fates ps es o = record {
  rising = o.rising;
  sound = λ e m. entry_at ps e.number ∙ o.sound e m;
  complete = λ e h. o.complete e (sym (entry_at ps e.number) ∙ h);
}
