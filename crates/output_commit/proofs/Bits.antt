-- The bit behind the commands before a place.
use Rattle.std.proofs.Common.{◌≡◌, ℕ, ◌+◌, ◌*◌, ◌<◌, ◌≤◌, Bool, true, false, ltb, List, [], ◌∷◌, ◌++◌, inl, inr, refl, sym, ◌∙◌, ap, arith, zero, suc, map, length, take, drop, ◌-◌}
use Rattle.std.specs.Prelude.{◌&&◌}
use Rattle.std.proofs.Math.Seq.{take-append-add}
use Rattle.std.proofs.lemmas.Bool.{cases_lt, lt-ltb, le-ltb}
use Rattle.std.proofs.lemmas.List.{length-map, take-append-le, take-map, map-append}
use Rattle.writeback_table.specs.declared.command.Update.{Update}
use Rattle.writeback_table.specs.declared.command.Command.{Command}
use Rattle.writeback_table.specs.declared.command.Command.TheVariants.{Stage, On, Main, Off}
use Rattle.writeback_table.specs.Commands.{bit_after, bit_through, clear_of, commands_of}
use Rattle.output_commit.specs.declared.batches.Batches.{Batches}
use Rattle.output_commit.specs.declared.place.Place.{Place}
use Rattle.output_commit.specs.declared.span.Span.{Span}
use Rattle.output_commit.specs.Batches.{commands_in}
use Rattle.output_commit.specs.Kept.{IsCounted, batches_in, begun_in}
use Rattle.output_commit.specs.Spans.{IsIn, batch_in, bit_at, span_len, total}
use Rattle.output_commit.proofs.CommandCounts.{kept_full}
use Rattle.output_commit.proofs.MergedBatches.{push_take}
use Rattle.output_commit.proofs.SpannedBatches.{AreFull, full_append, len_is, total_is}

-- ## Within a batch

-- commands that leave the bit
all_same : (b : Bool) (us : List Update) (f : Update → Command) → ((c : Bool) (u : Update) → bit_after c (f u) ≡ c) → bit_through b (map f us) ≡ b
all_same b [] f h = refl
all_same b (u ∷ us) f h = ap (λ c. bit_through c (map f us)) (h b u) ∙ all_same b us f h

same_bit : (b : Bool) (k : ℕ) (us : List Update) (f : Update → Command) → ((c : Bool) (u : Update) → bit_after c (f u) ≡ c) → bit_through b (take k (map f us)) ≡ b
same_bit b k us f h = ap (bit_through b) (take-map f k us) ∙ all_same b (take k us) f h

pub bit_past : (b : Bool) (xs ys : List Command) → bit_through b (xs ++ ys) ≡ bit_through (bit_through b xs) ys
bit_past b [] ys = refl
bit_past b (x ∷ xs) ys = bit_past (bit_after b x) xs ys

abbrev Staged : List Update → List Command
Staged us = map (λ u. Stage u) us

abbrev Made : List Update → List Command
Made us = map (λ u. Main u) us

abbrev Behind : List Update → List Command
Behind us = Made us ++ (Off ∷ map clear_of us)

-- the first commands, that stage
while_staged : (us : List Update) (k : ℕ) → k ≤ length us → bit_through false (take k (commands_of us)) ≡ false
while_staged us k h =
    let l = length-map us (λ u. Stage u) in
    ap (bit_through false) (take-append-le k (Staged us) (On ∷ Behind us) (omega arith)) ∙ same_bit false k us (λ u. Stage u) (λ c u. refl)

-- those behind the one that sets the bit
behind_on : (us : List Update) (k : ℕ) → bit_through false (take (length us + suc k) (commands_of us)) ≡ bit_through true (take k (Behind us))
behind_on us k =
    let l = length-map us (λ u. Stage u) in
    let n : length us + suc k ≡ length (Staged us) + suc k = omega arith in
    ap (λ m. bit_through false (take m (commands_of us))) n
    ∙ ap (bit_through false) (take-append-add (Staged us) (On ∷ Behind us) (suc k))
    ∙ bit_past false (Staged us) (On ∷ take k (Behind us))

while_made : (us : List Update) (k : ℕ) → k ≤ length us → bit_through true (take k (Behind us)) ≡ true
while_made us k h =
    let l = length-map us (λ u. Main u) in
    ap (bit_through true) (take-append-le k (Made us) (Off ∷ map clear_of us) (omega arith)) ∙ same_bit true k us (λ u. Main u) (λ c u. refl)

-- those behind the one that clears it
behind_off : (us : List Update) (k : ℕ) → bit_through true (take (length us + suc k) (Behind us)) ≡ false
behind_off us k =
    let l = length-map us (λ u. Main u) in
    let n : length us + suc k ≡ length (Made us) + suc k = omega arith in
    ap (λ m. bit_through true (take m (Behind us))) n
    ∙ ap (bit_through true) (take-append-add (Made us) (Off ∷ map clear_of us) (suc k))
    ∙ bit_past true (Made us) (Off ∷ take k (map clear_of us))
    ∙ same_bit false k us clear_of (λ c u. refl)

bit_made : (us : List Update) (k : ℕ) → bit_through true (take k (Behind us)) ≡ ltb k (suc (length us))
bit_made us k = elim (cases_lt k (suc (length us))) [
  | inl lt ↦ while_made us k (omega arith) ∙ sym (lt-ltb k (suc (length us)) lt)
  | inr ge ↦
      let i = k - suc (length us) in
      let e : k ≡ length us + suc i = omega arith in
      ap (λ m. bit_through true (take m (Behind us))) e ∙ behind_off us i ∙ sym (le-ltb k (suc (length us)) ge)
]

bit_part : (us : List Update) (k : ℕ) → bit_through false (take k (commands_of us)) ≡ (ltb (length us) k && ltb k (2 * length us + 2))
bit_part us k = elim (cases_lt (length us) k) [
  | inl lt ↦
      let i = k - suc (length us) in
      let e : k ≡ length us + suc i = omega arith in
      let same : ltb i (suc (length us)) ≡ ltb k (2 * length us + 2) = same_tests i (suc (length us)) k (2 * length us + 2) (omega arith) (omega arith) in
      ap (λ m. bit_through false (take m (commands_of us))) e ∙ behind_on us i ∙ bit_made us i ∙ same
      ∙ sym (ap (λ b. b && ltb k (2 * length us + 2)) (lt-ltb (length us) k lt))
  | inr ge ↦ while_staged us k ge ∙ sym (ap (λ b. b && ltb k (2 * length us + 2)) (le-ltb (length us) k ge))
]
  where
    same_tests : (a b c d : ℕ) → (a < b → c < d) → (b ≤ a → d ≤ c) → ltb a b ≡ ltb c d
    same_tests a b c d to from = elim (cases_lt a b) [
      | inl lt ↦ lt-ltb a b lt ∙ sym (lt-ltb c d (to lt))
      | inr ge ↦ le-ltb a b ge ∙ sym (le-ltb c d (from ge))
    ]

-- the bit is clear behind a batch
pub bit_whole : (us : List Update) → bit_through false (commands_of us) ≡ false
bit_whole us =
    bit_past false (Staged us) (On ∷ Behind us)
    ∙ bit_past true (Made us) (Off ∷ map clear_of us)
    ∙ all_same false us clear_of (λ c u. refl)

-- ## Among batches

take_none : (n : ℕ) → take {A = Command} n [] ≡ []
take_none zero = refl
take_none (suc n) = refl

bit_spans : (us : List Update) (spans : List Span) (batch step : ℕ) → AreFull us spans → IsIn spans (record { batch = batch; step = step })
    → bit_through false (take (total (take batch spans) + step) (commands_in (map (batch_in us) spans))) ≡ bit_at spans (record { batch = batch; step = step })
bit_spans us [] zero step full is = ap (bit_through false) (take_none (0 + step))
bit_spans us [] (suc batch) step full is = let b = is.batch in absurd (omega arith)
bit_spans us (s ∷ ss) zero step full is =
    let own = (batch_in us s).updates in
    let l = len_is us s full.0 in
    let within = is.step in
    let n : 0 + step ≡ step = omega arith in
    ap (λ m. bit_through false (take m (commands_of own ++ commands_in (map (batch_in us) ss)))) n
    ∙ ap (bit_through false) (take-append-le step (commands_of own) (commands_in (map (batch_in us) ss)) (omega arith))
    ∙ bit_part own step
    ∙ ap (λ m. ltb m step && ltb step (2 * m + 2)) full.0
bit_spans us (s ∷ ss) (suc batch) step full is =
    let own = (batch_in us s).updates in
    let l = len_is us s full.0 in
    let b = is.batch in
    let n : span_len s + total (take batch ss) + step ≡ length (commands_of own) + (total (take batch ss) + step) = omega arith in
    let rest = take (total (take batch ss) + step) (commands_in (map (batch_in us) ss)) in
    ap (λ m. bit_through false (take m (commands_of own ++ commands_in (map (batch_in us) ss)))) n
    ∙ ap (bit_through false) (take-append-add (commands_of own) (commands_in (map (batch_in us) ss)) (total (take batch ss) + step))
    ∙ bit_past false (commands_of own) rest
    ∙ ap (λ c. bit_through c rest) (bit_whole own)
    ∙ bit_spans us ss batch step full.1 (record { batch = omega arith; step = is.step })

-- the first batches alone have the first commands
front_commands : (us : List Update) (xs ys : List Span) (n : ℕ) → AreFull us xs → n ≤ total xs
    → take n (commands_in (map (batch_in us) (xs ++ ys))) ≡ take n (commands_in (map (batch_in us) xs))
front_commands us xs ys n full le =
    let l = total_is us xs full in
    ap (λ bs. take n (commands_in bs)) (map-append (batch_in us) xs ys) ∙ push_take (map (batch_in us) xs) (map (batch_in us) ys) n (omega arith)

pub bit_placed : (b : Batches) (sent done acked left : ℕ) (applied known : Place) (v a : ℕ) → IsCounted b sent done acked left applied known v a
    → bit_at (begun_in b) applied ≡ bit_through false (take done (commands_in (batches_in b)))
bit_placed b sent done acked left applied known v a c =
    let us = b.updates.items in
    let full = (full_append us (begun_in b) (drop b.next b.spans.items) (kept_full b c.kept)).0 in
    let all = c.all in
    let d = c.done_within in
    sym (
    ap (bit_through false) (front_commands us (begun_in b) (drop b.next b.spans.items) done full (omega arith))
    ∙ ap (λ n. bit_through false (take n (commands_in (map (batch_in us) (begun_in b))))) (sym c.applied_at.passed)
    ∙ bit_spans us (begun_in b) applied.batch applied.step full c.applied_at.within
    )
