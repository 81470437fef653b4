-- Batches one after the other.
use Rattle.std.proofs.lemmas.List.{append-nil, append_assoc}
use Rattle.std.proofs.Common.{◌≤◌, zero, ◌≡◌, ℕ, suc, ◌+◌, ◌<◌, false, List, [], ◌∷◌, ◌++◌, map, refl, sym, ap, subst, ◌∙◌, arith, length, take}
use Rattle.std.specs.Prelude.{⊤}
use Rattle.state_store.specs.Store.{Object, look}
use Rattle.writeback_table.specs.declared.command.Update.{Update}
use Rattle.writeback_table.specs.declared.command.Command.{Command}
use Rattle.writeback_table.specs.declared.command.Command.TheVariants.{Stage, On, Main, Off}
use Rattle.writeback_table.specs.Pair.{Pair}
use Rattle.writeback_table.specs.Commands.{clear_of, commands_of, ons, one_each, versions, versions_on, bit_through, pair_through}
use Rattle.writeback_table.proofs.Slots.{Slot, slot_through, slot_room, sees, IsReadyFor, through_is, same_table}
use Rattle.writeback_table.specs.Batches.{changed_by, all_commands, object_after, count_of, AreTaken, TakesAll, IsReady, IsSeenInOrder, IsSeenAtOnce}
use Rattle.writeback_table.proofs.Follows.{Shown, Follows, version_ons, follows_join, follows_at, follows_room, through_append}
use Rattle.writeback_table.proofs.Phases.{Laws}
use Rattle.writeback_table.proofs.Batches.{seen_at_once, batch_follows, batch_ends, ons_after}
use Rattle.lemmas.proofs.Lists.{take_whole}

batch_long : (us vs : List Update) (cs : List Command) → length us < length (map (λ u. Stage u) us ++ (On ∷ cs))
batch_long [] vs cs = omega arith
batch_long (u ∷ us) vs cs = let r = batch_long us vs cs in omega arith

pub batch_ons : (us : List Update) → ons (commands_of us) ≡ 1
batch_ons us = sym (ap ons (take_whole (commands_of us))) ∙ ons_after us (length (commands_of us)) (batch_long us us (map (λ u. Main u) us ++ (Off ∷ map clear_of us)))

pub ons_append : (cs ds : List Command) → ons (cs ++ ds) ≡ ons cs + ons ds
ons_append [] ds = omega arith
ons_append (c ∷ cs) ds = let r = ons_append cs ds in omega arith

all_ons : (batches : List (List Update)) → ons (all_commands batches) ≡ length batches
all_ons [] = refl
all_ons (us ∷ batches) = let a = ons_append (commands_of us) (all_commands batches) in let b = batch_ons us in let r = all_ons batches in omega arith

-- each batch may come, in turn
abbrev AreReady : ℕ → Pair → List (List Update) → Type 0
AreReady o pair [] = ⊤
AreReady o pair (us ∷ batches) = IsReadyFor o pair us × AreReady o (record pair { main = changed_by o pair.main us }) batches

all_ready : (o : ℕ) (pair : Pair) (batches : List (List Update)) → IsReady o pair batches → AreReady o pair batches
all_ready o pair [] r = tt
all_ready o pair (us ∷ batches) r = (
  record { empty = r.empty; fits = r.taken.0; takes = r.taken.1 },
  all_ready o (record pair { main = changed_by o pair.main us }) batches (record { empty = r.empty; taken = r.taken.2 }),
)

history_ends : (o : ℕ) (pair : Pair) (batches : List (List Update)) → AreReady o pair batches
    → slot_through o (record { pair = pair; bit = false }) (all_commands batches) ≡ record { pair = record pair { main = object_after o pair.main batches }; bit = false }
history_ends o pair [] r = refl
history_ends o pair (us ∷ batches) r =
    through_append o (record { pair = pair; bit = false }) (commands_of us) (all_commands batches)
    ∙ ap (λ s. slot_through o s (all_commands batches)) (batch_ends o pair us r.0)
    ∙ history_ends o (record pair { main = changed_by o pair.main us }) batches r.1

history_follows : (l : Laws) (o : ℕ) (shown : Shown) (w : ℕ) (pair : Pair) (batches : List (List Update)) → AreReady o pair batches
    → ((v : ℕ) (q : List ℕ) → look (object_after o pair.main (take v batches)) q ≡ shown (w + v) q)
    → Follows o shown w (record { pair = pair; bit = false }) (all_commands batches)
history_follows l o shown w pair [] r h = λ q. h 0 q ∙ ap (λ n. shown n q) (let e : w + 0 ≡ w = omega arith in e)
history_follows l o shown w pair (us ∷ batches) r h =
    let e0 : w + 0 ≡ w = omega arith in
    let e1 : w + 1 ≡ suc w = omega arith in
    let one = batch_follows l o shown w pair us r.0 (λ q. h 0 q ∙ ap (λ n. shown n q) e0) (λ q. h 1 q ∙ ap (λ n. shown n q) e1) in
    let rest = history_follows l o shown (suc w) (record pair { main = changed_by o pair.main us }) batches r.1
    (λ v q. h (suc v) q ∙ ap (λ n. shown n q) (let e : w + suc v ≡ suc w + v = omega arith in e)) in
    let ends = version_ons w (commands_of us) ∙ (let b = batch_ons us in let e : w + ons (commands_of us) ≡ suc w = omega arith in e) in
    follows_join o shown w (record { pair = pair; bit = false }) (commands_of us) (all_commands batches) one
    (subst (λ n. Follows o shown n (slot_through o (record { pair = pair; bit = false }) (commands_of us)) (all_commands batches)) (sym ends)
    (subst (λ s. Follows o shown (suc w) s (all_commands batches)) (sym (batch_ends o pair us r.0)) rest))

pub seen_in_order : (l : Laws) (o : ℕ) (pair : Pair) (batches : List (List Update)) → IsReady o pair batches → IsSeenInOrder o pair batches
seen_in_order l o pair batches ready =
    let r = all_ready o pair batches ready in
    let shown : Shown = λ v q. look (object_after o pair.main (take v batches)) q in
    let first : Slot = record { pair = pair; bit = false } in
    let f = history_follows l o shown 0 pair batches r (λ v q. ap (λ n. shown n q) (let e : v ≡ 0 + v = omega arith in e)) in
    let parts : (n : ℕ) → slot_through o first (take n (all_commands batches)) ≡ record { pair = pair_through o pair (take n (all_commands batches)); bit = bit_through false (take n (all_commands batches)) } =
    λ n. through_is o first (take n (all_commands batches)) in
    let ends = sym (through_is o first (all_commands batches)) ∙ history_ends o pair batches r in
    record {
      seen = λ n. same_table _ _ (object_after o pair.main (take (ons (take n (all_commands batches))) batches)) (λ q. ap (λ (s : Slot). sees s.bit s.pair q) (sym (parts n)) ∙ follows_at o shown 0 first (all_commands batches) n f q
          ∙ ap (λ v. shown v q) (version_ons 0 (take n (all_commands batches)) ∙ (let e : 0 + ons (take n (all_commands batches)) ≡ ons (take n (all_commands batches)) = omega arith in e)));
      room = λ n command h. ap (λ (s : Slot). slot_room o s command) (sym (parts n)) ∙ follows_room o shown 0 first (all_commands batches) n command f h;
      pair_ends = ap (λ (s : Slot). s.pair) ends;
      bit_ends = ap (λ (s : Slot). s.bit) ends;
      all = all_ons batches;
    }

pub one_seen : (l : Laws) (o : ℕ) (pair : Pair) (us : List Update) → IsReady o pair (us ∷ []) → IsSeenAtOnce o pair us
one_seen l o pair us r = seen_at_once l o pair us (record { empty = r.empty; fits = r.taken.0; takes = r.taken.1 })

-- ---- one batch more
more_taken : (o room : ℕ) (object : Object) (batches : List (List Update)) (us : List Update) → AreTaken o room object batches → count_of o us ≤ room → TakesAll o (object_after o object batches) us
    → AreTaken o room object (batches ++ us ∷ [])
more_taken o room object [] us t few takes = (few, takes, tt)
more_taken o room object (vs ∷ batches) us t few takes = (t.0, t.1, more_taken o room (changed_by o object vs) batches us t.2 few takes)

pub more_ready : (o : ℕ) (pair : Pair) (batches : List (List Update)) (us : List Update) → IsReady o pair batches → count_of o us ≤ pair.room → TakesAll o (object_after o pair.main batches) us → IsReady o pair (batches ++ us ∷ [])
more_ready o pair batches us r few takes = record { empty = r.empty; taken = more_taken o pair.room pair.main batches us r.taken few takes }

pub more_object : (o : ℕ) (object : Object) (batches : List (List Update)) (us : List Update) → object_after o object (batches ++ us ∷ []) ≡ changed_by o (object_after o object batches) us
more_object o object [] us = refl
more_object o object (vs ∷ batches) us = more_object o (changed_by o object vs) batches us

pub more_commands : (batches : List (List Update)) (us : List Update) → all_commands (batches ++ us ∷ []) ≡ all_commands batches ++ commands_of us
more_commands [] us = append-nil (commands_of us)
more_commands (vs ∷ batches) us = ap (λ cs. commands_of vs ++ cs) (more_commands batches us) ∙ sym (append_assoc (commands_of vs) (all_commands batches) (commands_of us))

-- ---- versions
pub once : (n : ℕ) → versions one_each n ≡ n
once zero = refl
once (suc n) = let r = once n in omega arith

pub all_versions : (weight : ℕ → ℕ) (batches : List (List Update)) → versions_on weight (all_commands batches) ≡ versions weight (length batches)
all_versions weight batches = ap (versions weight) (all_ons batches)
