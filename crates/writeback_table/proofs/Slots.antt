-- The tables of one object together with the bit, and one batch as the induction meets it.
use Rattle.std.proofs.Common.{◌≡◌, ℕ, ◌≤◌, Bool, true, false, cond, List, [], ◌∷◌, Option, Some, None, refl, sym, ap, ◌∙◌}
use Rattle.std.specs.FinMap as map
use Rattle.std.specs.FinMap.{get, entries, find, from_entries, get-insert, get-remove, get-entries, get-from_entries, get-empty, same_map}
use Rattle.std.specs.Ordering.{eq_by_cmp}
use Rattle.std.proofs.lemmas.Cmp.{nat_list_cmp_total}
use Rattle.std.proofs.lemmas.Map.Lookups.{exact_bytes}
use Rattle.state_store.specs.Store.{Contents, Object, key_cmp, look}
use Rattle.writeback_table.specs.declared.command.Update.{Update}
use Rattle.writeback_table.specs.declared.command.Command.{Command}
use Rattle.writeback_table.specs.Pair.{Pair, with_row, with_staged, visible, seen}
use Rattle.writeback_table.specs.Commands.{pair_after, room_for, bit_after, pair_through, bit_through}
use Rattle.writeback_table.specs.Batches.{TakesAll, count_of}

pub record Slot : Type 0 where
  pub pair : Pair
  pub bit : Bool

abbrev pub slot_after : ℕ → Slot → Command → Slot
slot_after o slot command = record { pair = pair_after o slot.pair command; bit = bit_after slot.bit command }

abbrev pub slot_room : ℕ → Slot → Command → Bool
slot_room o slot command = room_for o slot.pair command

abbrev pub slot_through : ℕ → Slot → List Command → Slot
slot_through o slot [] = slot
slot_through o slot (command ∷ commands) = slot_through o (slot_after o slot command) commands

-- the values under a key where a staged row may stand before those of the table
abbrev pub over : Option (Option (List ℕ)) → Option (List ℕ) → Option (List ℕ)
over (Some row) below = row
over None below = below

-- what a lookup sees, key by key
abbrev pub sees : Bool → Pair → List ℕ → Option (List ℕ)
sees false pair key = look pair.main key
sees true pair key = over (get pair.staged key) (look pair.main key)

abbrev pub seen_in : Slot → List ℕ → Option (List ℕ)
seen_in slot key = sees slot.bit slot.pair key

-- nothing is staged, there is room to stage the batch, and the table takes each of its changes
pub record IsReadyFor (o : ℕ) (pair : Pair) (updates : List Update) : Type 0 where
  pub empty : pair.staged ≡ map.empty
  pub fits : count_of o updates ≤ pair.room
  pub takes : TakesAll o pair.main updates

-- ---- the two parts of a slot go by themselves
pub through_is : (o : ℕ) (slot : Slot) (cs : List Command) → slot_through o slot cs ≡ record { pair = pair_through o slot.pair cs; bit = bit_through slot.bit cs }
through_is o slot [] = refl
through_is o slot (c ∷ cs) = through_is o (slot_after o slot c) cs

-- ---- the table that lookups see, key by key
pub find_first : {V : Type 0} (e : List ℕ × V) (es : List (List ℕ × V)) (q : List ℕ) → find key_cmp q (e ∷ es) ≡ cond (eq_by_cmp key_cmp q e.0) (Some e.1) (find key_cmp q es)
find_first e es q =
    sym (get-from_entries nat_list_cmp_total (e ∷ es) q) ∙ get-insert nat_list_cmp_total (from_entries es) e.0 e.1 q
    ∙ ap (cond (eq_by_cmp key_cmp q e.0) (Some e.1)) (get-from_entries nat_list_cmp_total es q)

over_first : (b : Bool) (row : Option (List ℕ)) (more : Option (Option (List ℕ))) (below : Option (List ℕ)) → cond b row (over more below) ≡ over (cond b (Some row) more) below
over_first true row more below = refl
over_first false row more below = refl

get_with_row : (key : List ℕ) (row : Option (List ℕ)) (rows : Contents) (q : List ℕ) → get (with_row key row rows) q ≡ cond (eq_by_cmp key_cmp q key) row (get rows q)
get_with_row key (Some values) rows q = get-insert nat_list_cmp_total rows key values q
get_with_row key None rows q = get-remove nat_list_cmp_total rows key q

pub get_with_staged : (es : List (List ℕ × Option (List ℕ))) (rows : Contents) (q : List ℕ) → get (with_staged es rows) q ≡ over (find key_cmp q es) (get rows q)
get_with_staged [] rows q = sym (ap (λ x. over x (get rows q)) (sym (get-from_entries nat_list_cmp_total [] q) ∙ get-empty key_cmp q))
get_with_staged (e ∷ es) rows q =
    get_with_row e.0 e.1 (with_staged es rows) q ∙ ap (cond (eq_by_cmp key_cmp q e.0) e.1) (get_with_staged es rows q)
    ∙ over_first (eq_by_cmp key_cmp q e.0) e.1 (find key_cmp q es) (get rows q) ∙ ap (λ x. over x (get rows q)) (sym (find_first e es q))

pub seen_is : (bit : Bool) (pair : Pair) (q : List ℕ) → seen bit pair q ≡ sees bit pair q
seen_is false pair q = refl
seen_is true pair q = get_with_staged (entries pair.staged) pair.main.contents q ∙ ap (λ x. over x (look pair.main q)) (sym (get-entries pair.staged q))

pub seen_staged : (pair : Pair) (q : List ℕ) (row : Option (List ℕ)) → get pair.staged q ≡ Some row → seen true pair q ≡ row
seen_staged pair q row e = seen_is true pair q ∙ ap (λ x. over x (look pair.main q)) e

pub seen_other : (pair : Pair) (q : List ℕ) → get pair.staged q ≡ None → seen true pair q ≡ look pair.main q
seen_other pair q e = seen_is true pair q ∙ ap (λ x. over x (look pair.main q)) e

-- tables that show the same under each key are the same
pub same_table : (bit : Bool) (pair : Pair) (object : Object) → ((q : List ℕ) → sees bit pair q ≡ look object q) → visible bit pair ≡ object.contents
same_table bit pair object h = same_map nat_list_cmp_total exact_bytes _ _ (λ q. seen_is bit pair q ∙ h q)
