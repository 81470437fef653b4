-- A batch as a whole.
use Rattle.std.proofs.Common.{◌≡◌, ℕ, zero, suc, ◌+◌, ◌-◌, ◌≤◌, ◌<◌, true, false, List, [], ◌∷◌, ◌++◌, map, Option, Some, None, refl, sym, ap, subst, ◌∙◌, arith, length, take}
use Rattle.std.specs.FinMap.{get, empty, len, get-empty, len-empty}
use Rattle.state_store.specs.Store.{Object, key_cmp, look}
use Rattle.writeback_table.specs.declared.command.Update.{Update}
use Rattle.writeback_table.specs.declared.command.Command.{Command}
use Rattle.writeback_table.specs.declared.command.Command.TheVariants.{Stage, On, Main, Off}
use Rattle.std.proofs.lemmas.List.{append-nil}
use Rattle.lemmas.proofs.Lists.{take_past}
use Rattle.writeback_table.proofs.Ons.{before_on, from_on}
use Rattle.writeback_table.specs.Pair.{Pair}
use Rattle.writeback_table.specs.Commands.{clear_of, commands_of, ons, bit_through, pair_through}
use Rattle.writeback_table.proofs.Slots.{Slot, slot_through, over, sees, IsReadyFor, through_is, same_table}
use Rattle.writeback_table.specs.Batches.{changed_by, count_of, IsSeenAtOnce}
use Rattle.writeback_table.proofs.Follows.{Shown, Follows, version_through, version_ons, follows_join, follows_at, through_append}
use Rattle.writeback_table.proofs.Phases.{Laws, staged_by, cleared_by, Overlays, staged_shows, stage_follows, stage_through, staged_covers, main_follows, main_through, clear_follows, clear_through, all_cleared}

-- how the version goes through the groups
steady_stage : (v : ℕ) (us : List Update) → version_through v (map (λ u. Stage u) us) ≡ v
steady_stage v [] = refl
steady_stage v (u ∷ us) = steady_stage v us

steady_main : (v : ℕ) (us : List Update) → version_through v (map (λ u. Main u) us) ≡ v
steady_main v [] = refl
steady_main v (u ∷ us) = steady_main v us

nothing_over : (old : Object) → Overlays empty old old
nothing_over old = λ q. ap (λ x. over x (look old q)) (get-empty key_cmp q)

-- rows that are ready, staged over the old table, show the new one
ready_shows : (l : Laws) (o : ℕ) (pair : Pair) (us : List Update) → IsReadyFor o pair us → Overlays (staged_by o pair.staged us) pair.main (changed_by o pair.main us)
ready_shows l o pair us r = staged_shows l o pair.staged pair.main pair.main us r.takes (subst (λ rows. Overlays rows pair.main pair.main) (sym r.empty) (nothing_over pair.main))

-- what is ready to be staged fits
ready_fits : (o : ℕ) (pair : Pair) (us : List Update) → IsReadyFor o pair us → len pair.staged + count_of o us ≤ pair.room
ready_fits o pair us r =
    let none : len pair.staged ≡ 0 = ap len r.empty ∙ len-empty key_cmp (Option (List ℕ)) in omega (arith, none, r.fits)

-- the pair after each group
abbrev staged_pair : ℕ → Pair → List Update → Pair
staged_pair o pair us = record pair { staged = staged_by o pair.staged us }

abbrev new_pair : ℕ → Pair → List Update → Pair
new_pair o pair us = record (staged_pair o pair us) { main = changed_by o pair.main us }

abbrev all_clear : List Update → List Command
all_clear us = map clear_of us

abbrev from_main : List Update → List Command
from_main us = map (λ u. Main u) us ++ (Off ∷ all_clear us)

ends_main : (o : ℕ) (pair : Pair) (us : List Update) → slot_through o (record { pair = staged_pair o pair us; bit = true }) (from_main us)
    ≡ record { pair = record (new_pair o pair us) { staged = cleared_by o (staged_by o pair.staged us) us }; bit = false }
ends_main o pair us =
    through_append o (record { pair = staged_pair o pair us; bit = true }) (map (λ u. Main u) us) (Off ∷ all_clear us)
    ∙ ap (λ s. slot_through o s (Off ∷ all_clear us)) (main_through o (staged_pair o pair us) true us)
    ∙ clear_through o (new_pair o pair us) us

pub batch_ends : (o : ℕ) (pair : Pair) (us : List Update) → IsReadyFor o pair us
    → slot_through o (record { pair = pair; bit = false }) (commands_of us) ≡ record { pair = record pair { main = changed_by o pair.main us }; bit = false }
batch_ends o pair us r =
    through_append o (record { pair = pair; bit = false }) (map (λ u. Stage u) us) (On ∷ from_main us)
    ∙ ap (λ s. slot_through o s (On ∷ from_main us)) (stage_through o pair us (ready_fits o pair us r))
    ∙ ends_main o pair us
    ∙ ap (λ rows. record { pair = record (new_pair o pair us) { staged = cleared_by o (staged_by o rows us) us }; bit = false }) r.empty
    ∙ ap (λ rows. record { pair = record (new_pair o pair us) { staged = rows }; bit = false }) (all_cleared o us ∙ sym r.empty)

main_part : (l : Laws) (o : ℕ) (shown : Shown) (v : ℕ) (pair : Pair) (us : List Update) → IsReadyFor o pair us
    → ((q : List ℕ) → look (changed_by o pair.main us) q ≡ shown v q)
    → Follows o shown v (record { pair = staged_pair o pair us; bit = true }) (from_main us)
main_part l o shown v pair us r new =
    let shows = ready_shows l o pair us r in
    let one = main_follows l o shown v (staged_pair o pair us) us r.takes (staged_covers o pair.staged us) (λ q. shows q ∙ new q) in
    let clear = clear_follows o shown v (new_pair o pair us) us new in
    let off : Follows o shown v (record { pair = new_pair o pair us; bit = true }) (Off ∷ all_clear us) = ((λ q. hidden_too l o pair us r q ∙ new q), refl, clear) in
    follows_join o shown v (record { pair = staged_pair o pair us; bit = true }) (map (λ u. Main u) us) (Off ∷ all_clear us) one
    (subst (λ n. Follows o shown n (slot_through o (record { pair = staged_pair o pair us; bit = true }) (map (λ u. Main u) us)) (Off ∷ all_clear us)) (sym (steady_main v us))
    (subst (λ s. Follows o shown v s (Off ∷ all_clear us)) (sym (main_through o (staged_pair o pair us) true us)) off))
  where
    -- the staged rows over the new table show the new table
    hidden_too : (l : Laws) (o : ℕ) (pair : Pair) (us : List Update) → IsReadyFor o pair us → (q : List ℕ) → over (get (staged_by o pair.staged us) q) (look (changed_by o pair.main us) q) ≡ look (changed_by o pair.main us) q
    hidden_too l o pair us r q = same_over (get (staged_by o pair.staged us) q) (look pair.main q) (look (changed_by o pair.main us) q) (ready_shows l o pair us r q)
      where
        same_over : (row : Option (Option (List ℕ))) (old new : Option (List ℕ)) → over row old ≡ new → over row new ≡ new
        same_over (Some r) old new e = e
        same_over None old new e = refl

pub batch_follows : (l : Laws) (o : ℕ) (shown : Shown) (v : ℕ) (pair : Pair) (us : List Update) → IsReadyFor o pair us
    → ((q : List ℕ) → look pair.main q ≡ shown v q) → ((q : List ℕ) → look (changed_by o pair.main us) q ≡ shown (suc v) q)
    → Follows o shown v (record { pair = pair; bit = false }) (commands_of us)
batch_follows l o shown v pair us r old new =
    let fits = ready_fits o pair us r in
    let on : Follows o shown v (record { pair = staged_pair o pair us; bit = false }) (On ∷ from_main us) = (old, refl, main_part l o shown (suc v) pair us r new) in
    follows_join o shown v (record { pair = pair; bit = false }) (map (λ u. Stage u) us) (On ∷ from_main us) (stage_follows o shown v pair us fits old)
    (subst (λ n. Follows o shown n (slot_through o (record { pair = pair; bit = false }) (map (λ u. Stage u) us)) (On ∷ from_main us)) (sym (steady_stage v us))
    (subst (λ s. Follows o shown v s (On ∷ from_main us)) (sym (stage_through o pair us fits)) on))

-- where the version rises
pub ons_before : (us : List Update) (n : ℕ) → n ≤ length us → ons (take n (commands_of us)) ≡ 0
ons_before us n h = ap (λ cs. ons (take n cs)) (sym (append-nil (commands_of us))) ∙ before_on us [] n h

pub ons_after : (us : List Update) (n : ℕ) → length us < n → ons (take n (commands_of us)) ≡ 1
ons_after us n h =
    ap (λ cs. ons (take n cs)) (sym (append-nil (commands_of us))) ∙ from_on us [] n h
    ∙ ap (λ cs. suc (ons cs)) (take_past {X = Command} [] (n - length (commands_of us)) (omega arith))

-- the two versions of a batch
abbrev two : Object → Object → Shown
two old new zero q = look old q
two old new (suc v) q = look new q

pub seen_at_once : (l : Laws) (o : ℕ) (pair : Pair) (us : List Update) → IsReadyFor o pair us → IsSeenAtOnce o pair us
seen_at_once l o pair us r =
    let shown : Shown = two pair.main (changed_by o pair.main us) in
    let first : Slot = record { pair = pair; bit = false } in
    let f = batch_follows l o shown 0 pair us r (λ q. refl) (λ q. refl) in
    let at : (n : ℕ) (q : List ℕ) → sees (bit_through false (take n (commands_of us))) (pair_through o pair (take n (commands_of us))) q ≡ shown (ons (take n (commands_of us))) q =
    λ n q. ap (λ (s : Slot). sees s.bit s.pair q) (sym (through_is o first (take n (commands_of us)))) ∙ follows_at o shown 0 first (commands_of us) n f q
    ∙ ap (λ v. shown v q) (version_ons 0 (take n (commands_of us)) ∙ zero_add (ons (take n (commands_of us)))) in
    record {
      before = λ n h. same_table _ _ pair.main (λ q. at n q ∙ ap (λ v. shown v q) (ons_before us n h));
      after = λ n h. same_table _ _ (changed_by o pair.main us) (λ q. at n q ∙ ap (λ v. shown v q) (ons_after us n h));
    }
  where
    zero_add : (n : ℕ) → 0 + n ≡ n
    zero_add n = omega arith
