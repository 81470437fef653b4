-- What holds along a list of commands, and hence after each first part of it.
use Rattle.std.proofs.Common.{◌≡◌, ℕ, zero, suc, ◌+◌, true, List, [], ◌∷◌, ◌++◌, Option, Some, refl, subst, arith, take}
use Rattle.std.specs.Prelude.{slice_get}
use Rattle.writeback_table.specs.declared.command.Command.{Command}
use Rattle.writeback_table.specs.declared.command.Command.TheVariants.{On}
use Rattle.writeback_table.specs.Commands.{counts_on, ons}
use Rattle.writeback_table.proofs.Slots.{Slot, slot_after, slot_through, slot_room, seen_in}

-- what is to be seen under a key, by version
abbrev pub Shown : Type 0
Shown = ℕ → List ℕ → Option (List ℕ)

abbrev pub Sees : Shown → ℕ → Slot → Type 0
Sees shown v slot = (key : List ℕ) → seen_in slot key ≡ shown v key

abbrev pub version_after : ℕ → Command → ℕ
version_after v On = suc v
version_after v _ = v

abbrev pub version_through : ℕ → List Command → ℕ
version_through v [] = v
version_through v (c ∷ cs) = version_through (version_after v c) cs

-- before, between and after the commands the right version is seen, and each command has room
abbrev pub Follows : ℕ → Shown → ℕ → Slot → List Command → Type 0
Follows o shown v slot [] = Sees shown v slot
Follows o shown v slot (c ∷ cs) = Sees shown v slot × (slot_room o slot c ≡ true) × Follows o shown (version_after v c) (slot_after o slot c) cs

counted : (v : ℕ) (c : Command) → version_after v c ≡ v + counts_on c
counted v On = omega arith
counted v _ = omega arith

pub version_ons : (v : ℕ) (cs : List Command) → version_through v cs ≡ v + ons cs
version_ons v [] = omega arith
version_ons v (c ∷ cs) = let a = version_ons (version_after v c) cs in let b = counted v c in omega arith

pub follows_join : (o : ℕ) (shown : Shown) (v : ℕ) (slot : Slot) (cs ds : List Command) → Follows o shown v slot cs → Follows o shown (version_through v cs) (slot_through o slot cs) ds → Follows o shown v slot (cs ++ ds)
follows_join o shown v slot [] ds f g = g
follows_join o shown v slot (c ∷ cs) ds f g = (f.0, f.1, follows_join o shown (version_after v c) (slot_after o slot c) cs ds f.2 g)

pub follows_sees : (o : ℕ) (shown : Shown) (v : ℕ) (slot : Slot) (cs : List Command) → Follows o shown v slot cs → Sees shown v slot
follows_sees o shown v slot [] f = f
follows_sees o shown v slot (c ∷ cs) f = f.0

pub follows_at : (o : ℕ) (shown : Shown) (v : ℕ) (slot : Slot) (cs : List Command) (n : ℕ) → Follows o shown v slot cs → Sees shown (version_through v (take n cs)) (slot_through o slot (take n cs))
follows_at o shown v slot cs zero f = follows_sees o shown v slot cs f
follows_at o shown v slot [] (suc n) f = f
follows_at o shown v slot (c ∷ cs) (suc n) f = follows_at o shown (version_after v c) (slot_after o slot c) cs n f.2

pub follows_room : (o : ℕ) (shown : Shown) (v : ℕ) (slot : Slot) (cs : List Command) (n : ℕ) (c : Command) → Follows o shown v slot cs → slice_get cs n ≡ Some c → slot_room o (slot_through o slot (take n cs)) c ≡ true
follows_room o shown v slot [] n c f h = cc
follows_room o shown v slot (d ∷ cs) zero c f h = let same : d ≡ c = cc in subst (λ x. slot_room o slot x ≡ true) same f.1
follows_room o shown v slot (d ∷ cs) (suc n) c f h = follows_room o shown (version_after v d) (slot_after o slot d) cs n c f.2 h

pub through_append : (o : ℕ) (slot : Slot) (cs ds : List Command) → slot_through o slot (cs ++ ds) ≡ slot_through o (slot_through o slot cs) ds
through_append o slot [] ds = refl
through_append o slot (c ∷ cs) ds = through_append o (slot_after o slot c) cs ds
