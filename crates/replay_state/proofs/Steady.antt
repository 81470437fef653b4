-- Which commands leave what is seen of an object with either bit.
use Rattle.std.proofs.Common.{◌≡◌, ◌+◌, ℕ, ◌<◌, ◌≤◌, Bool, true, false, ◌&&◌, cond, List, [], ◌∷◌, ◌++◌, Option, Some, None, inl, inr, refl, sym, ◌∙◌, ap, subst, arith, zero, suc, take, map, length}
use Rattle.std.specs.Prelude.{not, slice_get}
use Rattle.std.specs.FinMap.{get, get-remove, get-empty, same_map}
use Rattle.std.specs.Ordering.{eq_by_cmp}
use Rattle.std.proofs.lemmas.Bool.{cases_Bool, and_parts, and_from}
use Rattle.std.proofs.lemmas.Option.{same_Some, none-some}
use Rattle.std.proofs.lemmas.Cmp.{nat_list_cmp_total}
use Rattle.std.proofs.lemmas.Map.Lookups.{exact_bytes}
use Rattle.state_store.specs.Store.{Contents, key_cmp, look}
use Rattle.writeback_table.specs.declared.command.Update.{Update}
use Rattle.writeback_table.specs.declared.command.Command.{Command}
use Rattle.writeback_table.specs.declared.command.Command.TheVariants.{Stage, On, Main, Off, Clear}
use Rattle.writeback_table.specs.Pair.{Pair, visible, seen}
use Rattle.writeback_table.specs.Commands.{clear_of, commands_of, counts_on, ons, names, pair_after, bit_after, pair_through, bit_through}
use Rattle.writeback_table.specs.Batches.{all_commands, object_after, IsReady}
use Rattle.replay_state.specs.Step.{disturbs}
use Rattle.lemmas.proofs.Lists.{get_within, take_next}
use Rattle.lemmas.proofs.Tests.{true_not_false}
use Rattle.output_commit.proofs.Bits.{bit_past, bit_whole}
use Rattle.writeback_table.proofs.Histories.{ons_append}
use Rattle.writeback_table.proofs.Laws.{batches_are_seen_in_order, what_a_lookup_sees-others, what_a_lookup_sees-staged}

-- ---- one command more

take_one : {X : Type 0} (xs : List X) (n : ℕ) (x : X) → slice_get xs n ≡ Some x → take (suc n) xs ≡ take n xs ++ x ∷ []
take_one xs n x h = let e : suc n ≡ n + 1 = omega arith in ap (λ k. take k xs) e ∙ take_next xs n x h

pair_append : (o : ℕ) (pair : Pair) (cs ds : List Command) → pair_through o pair (cs ++ ds) ≡ pair_through o (pair_through o pair cs) ds
pair_append o pair [] ds = refl
pair_append o pair (c ∷ cs) ds = pair_append o (pair_after o pair c) cs ds

pub next_pair : (o : ℕ) (pair : Pair) (cs : List Command) (n : ℕ) (c : Command) → slice_get cs n ≡ Some c → pair_through o pair (take (suc n) cs) ≡ pair_after o (pair_through o pair (take n cs)) c
next_pair o pair cs n c h = ap (pair_through o pair) (take_one cs n c h) ∙ pair_append o pair (take n cs) (c ∷ [])

next_bit : (bit : Bool) (cs : List Command) (n : ℕ) (c : Command) → slice_get cs n ≡ Some c → bit_through bit (take (suc n) cs) ≡ bit_after (bit_through bit (take n cs)) c
next_bit bit cs n c h = ap (bit_through bit) (take_one cs n c h) ∙ bit_past bit (take n cs) (c ∷ [])

next_ons : (cs : List Command) (n : ℕ) (c : Command) → slice_get cs n ≡ Some c → counts_on c ≡ 0 → ons (take (suc n) cs) ≡ ons (take n cs)
next_ons cs n c h none = ap ons (take_one cs n c h) ∙ ons_append (take n cs) (c ∷ []) ∙ omega arith

-- ---- how commands stand in batches: mains while the bit is set, and clears behind these

abbrev pub calm_after : Bool → Command → Bool
calm_after calm Off = true
calm_after calm (Clear o k) = calm
calm_after calm command = false

abbrev calm_through : Bool → List Command → Bool
calm_through calm [] = calm
calm_through calm (c ∷ cs) = calm_through (calm_after calm c) cs

calm_append : (calm : Bool) (cs ds : List Command) → calm_through calm (cs ++ ds) ≡ calm_through (calm_through calm cs) ds
calm_append calm [] ds = refl
calm_append calm (c ∷ cs) ds = calm_append (calm_after calm c) cs ds

next_calm : (calm : Bool) (cs : List Command) (n : ℕ) (c : Command) → slice_get cs n ≡ Some c → calm_through calm (take (suc n) cs) ≡ calm_after (calm_through calm (take n cs)) c
next_calm calm cs n c h = ap (calm_through calm) (take_one cs n c h) ∙ calm_append calm (take n cs) (c ∷ [])

-- what must hold where a command comes
abbrev pub may_come : Bool → Bool → Command → Bool
may_come bit calm On = not bit
may_come bit calm (Main u) = bit
may_come bit calm Off = bit
may_come bit calm (Clear o k) = calm
may_come bit calm command = true

abbrev pub in_turn : Bool → Bool → List Command → Bool
in_turn bit calm [] = true
in_turn bit calm (c ∷ cs) = may_come bit calm c && in_turn (bit_after bit c) (calm_after calm c) cs

turn_append : (bit calm : Bool) (cs ds : List Command) → in_turn bit calm cs ≡ true → in_turn (bit_through bit cs) (calm_through calm cs) ds ≡ true → in_turn bit calm (cs ++ ds) ≡ true
turn_append bit calm [] ds h k = k
turn_append bit calm (c ∷ cs) ds h k =
    let parts = and_parts (may_come bit calm c) (in_turn (bit_after bit c) (calm_after calm c) cs) h in
    and_from (may_come bit calm c) _ parts.0 (turn_append (bit_after bit c) (calm_after calm c) cs ds parts.1 k)

turn_clears : (us : List Update) → in_turn false true (map clear_of us) ≡ true
turn_clears [] = refl
turn_clears (u ∷ us) = turn_clears us

turn_mains : (us vs : List Update) → in_turn true false (map (λ u. Main u) us ++ (Off ∷ map clear_of vs)) ≡ true
turn_mains [] vs = turn_clears vs
turn_mains (u ∷ us) vs = turn_mains us vs

turn_stages : (calm : Bool) (us vs : List Update) → in_turn false calm (map (λ u. Stage u) us ++ (On ∷ (map (λ u. Main u) vs ++ (Off ∷ map clear_of vs)))) ≡ true
turn_stages calm [] vs = turn_mains vs vs
turn_stages calm (u ∷ us) vs = turn_stages false us vs

-- the bit is clear after whole batches
pub all_bit : (batches : List (List Update)) → bit_through false (all_commands batches) ≡ false
all_bit [] = refl
all_bit (us ∷ batches) = bit_past false (commands_of us) (all_commands batches) ∙ ap (λ b. bit_through b (all_commands batches)) (bit_whole us) ∙ all_bit batches

pub turn_all : (calm : Bool) (batches : List (List Update)) → in_turn false calm (all_commands batches) ≡ true
turn_all calm [] = refl
turn_all calm (us ∷ batches) =
    turn_append false calm (commands_of us) (all_commands batches) (turn_stages calm us us)
    (subst (λ b. in_turn b (calm_through calm (commands_of us)) (all_commands batches) ≡ true) (sym (bit_whole us)) (turn_all (calm_through calm (commands_of us)) batches))

comes : (bit calm : Bool) (cs : List Command) (n : ℕ) (c : Command) → in_turn bit calm cs ≡ true → slice_get cs n ≡ Some c → may_come (bit_through bit (take n cs)) (calm_through calm (take n cs)) c ≡ true
comes bit calm [] n c h g = cc
comes bit calm (x ∷ cs) zero c h g =
    let parts = and_parts (may_come bit calm x) (in_turn (bit_after bit x) (calm_after calm x) cs) h in
    subst (λ z. may_come bit calm z ≡ true) (same_Some _ _ g) parts.0
comes bit calm (x ∷ cs) (suc n) c h g =
    let parts = and_parts (may_come bit calm x) (in_turn (bit_after bit x) (calm_after calm x) cs) h in
    comes (bit_after bit x) (calm_after calm x) cs n c parts.1 g

-- ---- tables with nothing staged but what the main table has

abbrev Agrees : Pair → Type 0
Agrees pair = (key : List ℕ) (row : Option (List ℕ)) → get pair.staged key ≡ Some row → look pair.main key ≡ row

agree_key : (pair : Pair) → Agrees pair → (key : List ℕ) (o : Option (Option (List ℕ))) → get pair.staged key ≡ o → seen true pair key ≡ look pair.main key
agree_key pair h key None g = what_a_lookup_sees-others pair key g
agree_key pair h key (Some row) g = what_a_lookup_sees-staged pair key row g ∙ sym (h key row g)

agree_same : (pair : Pair) → Agrees pair → visible true pair ≡ pair.main.contents
agree_same pair h = same_map nat_list_cmp_total exact_bytes (visible true pair) pair.main.contents (λ key. agree_key pair h key (get pair.staged key) refl)

same_agree : (pair : Pair) → visible true pair ≡ pair.main.contents → Agrees pair
same_agree pair h key row g = sym (ap (λ m. get m key) h) ∙ what_a_lookup_sees-staged pair key row g

kept_row : (b : Bool) (o : Option (Option (List ℕ))) (row : Option (List ℕ)) → cond b None o ≡ Some row → o ≡ Some row
kept_row true o row h = cc
kept_row false o row h = h

clear_agree : (o m : ℕ) (k : List ℕ) (pair : Pair) → Agrees pair → Agrees (pair_after o pair (Clear m k))
clear_agree o m k pair h = elim (cases_Bool (names o (Clear m k))) [
  | inl t ↦ rw t (λ key row g. h key row (kept_row (eq_by_cmp key_cmp key k) (get pair.staged key) row (sym (get-remove nat_list_cmp_total pair.staged k key) ∙ g)))
  | inr t ↦ rw t h
]

-- ---- what stays seen

main_stays : (o : ℕ) (pair : Pair) (c : Command) → disturbs false c ≡ false → (pair_after o pair c).main ≡ pair.main
main_stays o pair On h = refl
main_stays o pair (Main u) h = cc
main_stays o pair Off h = refl
main_stays o pair c h = elim (cases_Bool (names o c)) [ inl t ↦ rw t refl | inr t ↦ rw t refl ]

module _ (o : ℕ) (pair : Pair) (batches : List (List Update)) (ready : IsReady o pair batches) where
  abbrev cs : List Command
  cs = all_commands batches

  abbrev at : ℕ → Pair
  at n = pair_through o pair (take n cs)

  abbrev bit_at : ℕ → Bool
  bit_at n = bit_through false (take n cs)

  abbrev calm_at : ℕ → Bool
  calm_at n = calm_through true (take n cs)

  there : (n : ℕ) → Contents
  there n = (object_after o pair.main (take (ons (take n cs)) batches)).contents

  -- what is seen with the bit as it stands
  seen_at : (n : ℕ) (bit : Bool) → bit_at n ≡ bit → visible bit (at n) ≡ there n
  unfolding there
  seen_at n bit e = subst (λ b. visible b (at n) ≡ (object_after o pair.main (take (ons (take n cs)) batches)).contents) e
      ((batches_are_seen_in_order o pair batches ready).seen n)

  there_stays : (n : ℕ) (c : Command) → slice_get cs n ≡ Some c → counts_on c ≡ 0 → there (suc n) ≡ there n
  unfolding there
  there_stays n c g none = ap (λ k. (object_after o pair.main (take k batches)).contents) (next_ons cs n c g none)

  came : (n : ℕ) (c : Command) → slice_get cs n ≡ Some c → may_come (bit_at n) (calm_at n) c ≡ true
  came n c g = comes false true cs n c (turn_all true batches) g

  agrees_next : (n : ℕ) (c : Command) → slice_get cs n ≡ Some c → (calm_at n ≡ true → Agrees (at n)) → calm_after (calm_at n) c ≡ true → Agrees (pair_after o (at n) c)
  agrees_next n Off g before calm =
      let set = came n Off g in
      let now : bit_at (suc n) ≡ false = next_bit false cs n Off g in
      let pair_is : at (suc n) ≡ at n = next_pair o pair cs n Off g in
      same_agree (at n) (seen_at n true set ∙ sym (there_stays n Off g refl) ∙ sym (seen_at (suc n) false now) ∙ ap (λ p. visible false p) pair_is)
  agrees_next n (Clear m k) g before calm = clear_agree o m k (at n) (before calm)
  agrees_next n c g before calm = absurd (true_not_false (sym calm))

  agrees : (n : ℕ) → n ≤ length cs → calm_at n ≡ true → Agrees (at n)
  agrees zero low calm = λ key row g. absurd (none-some row (sym (ap (λ s. get s key) ready.empty ∙ get-empty key_cmp key) ∙ g))
  agrees (suc n) low calm =
      let g = get_within cs n (omega arith) in
      let c = g.0 in
      subst Agrees (sym (next_pair o pair cs n c g.1)) (agrees_next n c g.1 (agrees n (omega arith)) (sym (next_calm true cs n c g.1) ∙ calm))

  with_bit : (n : ℕ) (c : Command) → slice_get cs n ≡ Some c → n < length cs → disturbs true c ≡ false → visible true (pair_after o (at n) c) ≡ visible true (at n)
  with_bit n (Stage u) g low h = absurd (true_not_false h)
  with_bit n (Main u) g low h =
      let set = came n (Main u) g in
      let now : bit_at (suc n) ≡ true = next_bit false cs n (Main u) g ∙ set in
      ap (λ p. visible true p) (sym (next_pair o pair cs n (Main u) g)) ∙ seen_at (suc n) true now ∙ there_stays n (Main u) g refl ∙ sym (seen_at n true set)
  with_bit n (Clear m k) g low h =
      let calm = came n (Clear m k) g in
      let before = agrees n (omega arith) calm in
      agree_same (pair_after o (at n) (Clear m k)) (clear_agree o m k (at n) before)
      ∙ ap (λ m. m.contents) (main_stays o (at n) (Clear m k) refl) ∙ sym (agree_same (at n) before)
  with_bit n c g low h = refl

  by_bit : (bit : Bool) (n : ℕ) (c : Command) → slice_get cs n ≡ Some c → n < length cs → disturbs bit c ≡ false → visible bit (pair_after o (at n) c) ≡ visible bit (at n)
  by_bit true n c g low h = with_bit n c g low h
  by_bit false n c g low h = ap (λ m. m.contents) (main_stays o (at n) c h)

  -- the next command leaves what is seen with a bit that it doesn't block
  pub stays_seen : (bit : Bool) (n : ℕ) (c : Command) → slice_get cs n ≡ Some c → n < length cs → disturbs bit c ≡ false → visible bit (at (suc n)) ≡ visible bit (at n)
  stays_seen bit n c g low h = ap (λ p. visible bit p) (next_pair o pair cs n c g) ∙ by_bit bit n c g low h
