-- Batches that come, and one that takes up those behind it.
use Rattle.std.proofs.Common.{◌≡◌, ◌≤◌, ◌<◌, ◌^◌, ℕ, ◌+◌, ◌-◌, ◌*◌, true, false, eqb, List, [], ◌∷◌, ◌++◌, refl, sym, subst, ◌∙◌, ap, arith, length, map, take, drop, get_or, set, append_assoc}
use Rattle.std.proofs.lemmas.List.{length-append, length-drop, take-append-le, drop-append-le, length-set, take-set-le, drop-set-lt, take_more_set, map-append, drop_more as drop_next, take_rest}
use Rattle.writeback_table.specs.declared.command.Update.{Update}
use Rattle.output_commit.specs.declared.batches.Batches.{Batches}
use Rattle.output_commit.specs.declared.span.Span.{Span}
use Rattle.output_commit.specs.declared.tally.Tally.{Tally}
use Rattle.output_commit.specs.Batches.{fits, merged, take_up}
use Rattle.output_commit.specs.Commit.{batch_of, batch_len}
use Rattle.output_commit.specs.Kept.{AreKept, IsBegun, IsPushed, Takes, begun_in, spans_in}
use Rattle.output_commit.specs.Spans.{AreJoined, AreTallied, batch_in, first_of, joined, total}
use Rattle.output_commit.proofs.CommandCounts.{kept_full}
use Rattle.output_commit.proofs.Gaps.{drop_more, joined_updates, part_last, same_batches}
use Rattle.output_commit.proofs.SpannedBatches.{full_append, joined_both, joined_parts, joined_upto, merged_begins, total_append}

-- ## A batch takes up those behind it

-- so far the first has taken up those before place `count`
pub record Taking (most : ℕ) (us : List Update) (spans : List Span) (span : Span) (count : ℕ) : Type 0 where
  pub some : 0 < count
  pub within : count ≤ length spans
  pub merged : merged (fits most) 0 (map (batch_in us) spans) ≡ merged (fits most) 0 (map (batch_in us) (span ∷ drop count spans))
  pub joined : AreJoined (first_of spans) (span ∷ drop count spans) (length us)
  pub fewer : total (span ∷ drop count spans) + 2 * (count - 1) ≡ total spans

pub taking_first : (most : ℕ) (us : List Update) (spans : List Span) (span d : Span) → 0 < length spans → span ≡ get_or spans 0 d
    → AreJoined (first_of spans) spans (length us) → Taking most us spans span 1
taking_first most us [] span d some at h = absurd (omega arith)
taking_first most us (x ∷ xs) span d some at h =
    subst (λ y. Taking most us (x ∷ xs) y 1) (sym at) (record { some = omega arith; within = omega arith; merged = refl; joined = h; fewer = omega arith })

pub taking_next : (most : ℕ) (us : List Update) (spans : List Span) (span behind d : Span) (count : ℕ) → Taking most us spans span count
    → count < length spans → behind ≡ get_or spans count d
    → fits most ((batch_in us span).updates ++ (batch_in us behind).updates) ≡ true → Taking most us spans (joined span behind) (count + 1)
taking_next most us spans span behind d count t less at so =
    let rest = drop (count + 1) spans in
    let e : drop count spans ≡ behind ∷ rest = drop_next spans count d less ∙ ap (λ y. y ∷ rest) (sym at) in
    let j : AreJoined (first_of spans) (span ∷ (behind ∷ rest)) (length us) = subst (λ l. AreJoined (first_of spans) (span ∷ l) (length us)) e t.joined in
    let from = j.0 in
    let next = j.2.0 in
    let one = j.1 in
    let two = j.2.1 in
    let upto = joined_upto _ rest (length us) j.2.2 in
    let count_is = t.fewer in
    let some = t.some in
    let all = ap (λ l. total (span ∷ l)) e in
    let updates = joined_updates us span behind (omega arith) (omega arith) in
    let sum : first_of spans + span.changes + behind.changes ≡ first_of spans + (span.changes + behind.changes) = omega arith in
    let up : take_up (fits most) (batch_in us span) (map (batch_in us) (behind ∷ rest))
    ≡ take_up (fits most) (record { updates = (batch_in us span).updates ++ (batch_in us behind).updates; versions = span.versions + behind.versions }) (map (batch_in us) rest) =
    rw so refl in
    record {
      some = omega arith;
      within = omega arith;
      merged = t.merged ∙ ap (λ l. merged (fits most) 0 (map (batch_in us) (span ∷ l))) e ∙ up
          ∙ ap (λ l. take_up (fits most) (record { updates = l; versions = span.versions + behind.versions }) (map (batch_in us) rest)) (sym updates);
      joined = (from, omega arith, subst (λ n. AreJoined n rest (length us)) sum j.2.2);
      fewer = omega arith;
    }

-- what stands behind the first is within all changes, and both as one are not too many
pub record Behind (us : List Update) (spans : List Span) (span behind : Span) : Type 0 where
  pub next : behind.first ≡ span.first + span.changes
  pub first_in : span.first + span.changes ≤ length us
  pub second_in : behind.first + behind.changes ≤ length us
  pub few : span.changes + behind.changes ≤ total spans
  pub versions : span.versions + behind.versions ≤ total spans

pub taking_behind : (most : ℕ) (us : List Update) (spans : List Span) (span behind d : Span) (count : ℕ) → Taking most us spans span count
    → count < length spans → behind ≡ get_or spans count d → Behind us spans span behind
taking_behind most us spans span behind d count t less at =
    let rest = drop (count + 1) spans in
    let e : drop count spans ≡ behind ∷ rest = drop_next spans count d less ∙ ap (λ y. y ∷ rest) (sym at) in
    let j : AreJoined (first_of spans) (span ∷ (behind ∷ rest)) (length us) = subst (λ l. AreJoined (first_of spans) (span ∷ l) (length us)) e t.joined in
    let from = j.0 in
    let next = j.2.0 in
    let one = j.1 in
    let two = j.2.1 in
    let upto = joined_upto _ rest (length us) j.2.2 in
    let count_is = t.fewer in
    let all = ap (λ l. total (span ∷ l)) e in
    record { next = omega arith; first_in = omega arith; second_in = omega arith; few = omega arith; versions = omega arith }

pub first_in : (us : List Update) (spans : List Span) (span d : Span) → 0 < length spans → span ≡ get_or spans 0 d
    → AreJoined (first_of spans) spans (length us) → span.first + span.changes ≤ length us
first_in us [] span d some at h = absurd (omega arith)
first_in us (x ∷ xs) span d some at h =
    let upto = joined_upto _ xs (length us) h.2 in
    subst (λ y. y.first + y.changes ≤ length us) (sym at) (omega arith)

-- the first alone doesn't fit, so it fits with none
pub taking_none : (most : ℕ) (us : List Update) (spans : List Span) (span : Span) → Taking most us spans span 1
    → ((vs : List Update) → fits most ((batch_in us span).updates ++ vs) ≡ false) → Takes most us spans span 1
taking_none most us spans span t not = record {
  some = t.some;
  within = t.within;
  merged = t.merged ∙ stops (drop 1 spans);
  joined = t.joined;
  fewer = t.fewer;
}
  where
    stops : (l : List Span) → merged (fits most) 0 (map (batch_in us) (span ∷ l)) ≡ map (batch_in us) (span ∷ l)
    stops [] = refl
    stops (x ∷ l) = rw (not (batch_in us x).updates) refl

-- ## The batch is begun

first_is : (from : ℕ) (spans : List Span) (upto : ℕ) → 0 < length spans → AreJoined from spans upto → first_of spans ≡ from
first_is from [] upto some h = absurd (omega arith)
first_is from (x ∷ xs) upto some h = h.0

pub waiting_joined : (b : Batches) → AreKept b → b.next < length b.spans.items
    → AreJoined (first_of (drop b.next b.spans.items)) (drop b.next b.spans.items) (length b.updates.items)
waiting_joined b kept less =
    let parts = joined_parts 0 (begun_in b) (drop b.next b.spans.items) (length b.updates.items) kept.joined in
    let l = length-drop b.next b.spans.items in
    let is = first_is parts.0 (drop b.next b.spans.items) (length b.updates.items) (omega arith) parts.1.1 in
    subst (λ n. AreJoined n (drop b.next b.spans.items) (length b.updates.items)) (sym is) parts.1.1

pub begins : (most : ℕ) (b b' : Batches) (span : Span) (count : ℕ) → AreKept b → b.next < length b.spans.items
    → Takes most b.updates.items (drop b.next b.spans.items) span count
    → b'.updates ≡ b.updates → b'.spans.items ≡ set b.spans.items b.begun span → b'.begun ≡ b.begun + 1 → b'.next ≡ b.next + count
    → b'.commands ≡ b.commands - 2 * (count - 1) → AreTallied b'.tally b.updates.items → IsBegun most b b' span
begins most b b' span count kept less takes updates spans begun next commands tallied =
    let us = b.updates.items in
    let B = begun_in b in
    let W = drop b.next b.spans.items in
    let some = takes.some in
    let begun_le = kept.begun in
    let us_is = ap (λ u. u.items) updates in
    let l = length-drop b.next b.spans.items in
    let last : begun_in b' ≡ B ++ span ∷ [] = (λ i. take (begun i) (spans i)) ∙ take_more_set b.spans.items b.begun span (omega arith) in
    let rest : drop b'.next b'.spans.items ≡ drop count W =
    (λ i. drop (next i) (spans i)) ∙ drop-set-lt (b.next + count) b.spans.items b.begun span (omega arith) ∙ sym (drop_more b.spans.items b.next count) in
    let all : spans_in b' ≡ B ++ (span ∷ drop count W) = (λ i. last i ++ rest i) ∙ append_assoc B (span ∷ []) (drop count W) in
    let parts = joined_parts 0 B W (length us) kept.joined in
    let first = first_is parts.0 W (length us) (omega arith) parts.1.1 in
    let totals = total_append B W in
    let totals_after = total_append B (span ∷ drop count W) in
    let fewer = takes.fewer in
    let all_total = ap total all in
    let was = kept.commands in
    let few = kept.few in
    let full = (full_append us B W (kept_full b kept)).0 in
    record {
      kept = record {
        begun = omega arith;
        next = let size = ap length spans in let within = takes.within in let same = length-set b.spans.items b.begun span in omega arith;
        joined = subst (λ ss. AreJoined 0 ss (length b'.updates.items)) (sym all) (subst (λ n. AreJoined 0 (B ++ (span ∷ drop count W)) n) (sym (ap length us_is))
            (joined_both 0 B (span ∷ drop count W) parts.0 (length us) parts.1.0 (subst (λ n. AreJoined n (span ∷ drop count W) (length us)) first takes.joined)));
        tallied = subst (λ vs. AreTallied b'.tally vs) (sym us_is) tallied;
        commands = omega arith;
        few = omega arith;
      };
      batches = (λ i. map (batch_in (us_is i)) (all i)) ∙ map-append (batch_in us) B (span ∷ drop count W)
          ∙ ap (λ bs. map (batch_in us) B ++ bs) (sym takes.merged) ∙ sym (merged_begins us (fits most) B W full);
      begun = begun;
      front = λ k low. ap (take k) spans ∙ take-set-le k b.spans.items b.begun span low;
      last = last;
    }

-- ## One batch more

both_tallied : (t : Tally) (us vs : List Update) → AreTallied t us → AreTallied t vs → AreTallied t (us ++ vs)
both_tallied t [] vs h k = k
both_tallied t (u ∷ us) vs h k = (h.0, both_tallied t us vs h.1 k)

pub pushes : (b b' : Batches) (new : List Update) → AreKept b → 0 < length new → total (spans_in b) + batch_len (length new) < 2 ^ 32
    → b'.updates.items ≡ b.updates.items ++ new
    → b'.spans.items ≡ b.spans.items ++ (record { first = length b.updates.items; changes = length new; versions = 1 }) ∷ []
    → b'.begun ≡ b.begun → b'.next ≡ b.next → b'.commands ≡ b.commands + (3 * length new + 2)
    → AreTallied b'.tally b.updates.items → AreTallied b'.tally new → IsPushed b b' (batch_of new)
pushes b b' [] kept some few updates spans begun next commands old_tallied tallied = absurd (omega arith)
pushes b b' (u ∷ vs) kept some few updates spans begun next commands old_tallied tallied =
    let new = u ∷ vs in
    let us = b.updates.items in
    let s : Span = record { first = length us; changes = length new; versions = 1 } in
    let B = begun_in b in
    let W = drop b.next b.spans.items in
    let begun_le = kept.begun in
    let next_le = kept.next in
    let front : (k : ℕ) → k ≤ b.begun → take k b'.spans.items ≡ take k b.spans.items = λ k low. ap (take k) spans ∙ take-append-le k b.spans.items (s ∷ []) (omega arith) in
    let same : begun_in b' ≡ B = ap (λ k. take k b'.spans.items) begun ∙ front b.begun (omega arith) in
    let rest : drop b'.next b'.spans.items ≡ W ++ s ∷ [] = (λ i. drop (next i) (spans i)) ∙ drop-append-le b.next b.spans.items (s ∷ []) next_le in
    let all : spans_in b' ≡ spans_in b ++ s ∷ [] = (λ i. same i ++ rest i) ∙ sym (append_assoc B W (s ∷ [])) in
    let size = ap length updates in
    let sizes = length-append us new in
    let totals = total_append (spans_in b) (s ∷ []) in
    let all_total = ap total all in
    let was = kept.commands in
    record {
      kept = record {
        begun = omega arith;
        next = let n = ap length spans in let m = length-append b.spans.items (s ∷ []) in omega arith;
        joined = subst (λ ss. AreJoined 0 ss (length b'.updates.items)) (sym all)
            (joined_both 0 (spans_in b) (s ∷ []) (length us) (length b'.updates.items) kept.joined (refl, omega arith, omega arith));
        tallied = subst (λ l. AreTallied b'.tally l) (sym updates) (both_tallied b'.tally us new old_tallied tallied);
        commands = omega arith;
        few = omega arith;
      };
      batches = (λ i. map (batch_in (updates i)) (all i)) ∙ map-append (batch_in (us ++ new)) (spans_in b) (s ∷ [])
          ∙ (λ i. same_batches us new 0 (spans_in b) (length us) (omega arith) kept.joined i ++ (record { updates = part_last us new i; versions = 1 }) ∷ []);
      begun = begun;
      front = front;
    }

-- the changes of two as one
pub taking_updates : (most : ℕ) (us : List Update) (spans : List Span) (span behind d : Span) (count : ℕ) → Taking most us spans span count
    → count < length spans → behind ≡ get_or spans count d
    → (batch_in us (joined span behind)).updates ≡ (batch_in us span).updates ++ (batch_in us behind).updates
taking_updates most us spans span behind d count t less at =
    let here = taking_behind most us spans span behind d count t less at in joined_updates us span behind here.next here.first_in

pub waiting_few : (b : Batches) → AreKept b → total (drop b.next b.spans.items) < 2 ^ 32
waiting_few b kept = let t = total_append (begun_in b) (drop b.next b.spans.items) in let f = kept.few in omega arith

pub few_taken : (most : ℕ) (us : List Update) (b : Batches) (span : Span) (count : ℕ) → AreKept b
    → Takes most us (drop b.next b.spans.items) span count → 2 * (count - 1) ≤ b.commands
few_taken most us b span count kept takes =
    let t = total_append (begun_in b) (drop b.next b.spans.items) in
    let c = kept.commands in
    let f = takes.fewer in
    omega arith

-- what a call on the slices of those that wait says of them
pub takes_here : (most : ℕ) (b : Batches) (spans : List Span) (us : List Update) (span : Span) (count : ℕ) → spans ≡ b.spans.items → us ≡ b.updates.items
    → Takes most us (take (length spans - b.next) (drop b.next spans)) span count → Takes most b.updates.items (drop b.next b.spans.items) span count
takes_here most b spans us span count same all takes =
    let rest = ap (λ l. take (length l - b.next) (drop b.next l)) same ∙ take_rest b.spans.items b.next in
    subst (λ l. Takes most b.updates.items l span count) rest
    (subst (λ v. Takes most v (take (length spans - b.next) (drop b.next spans)) span count) all takes)

pub nonempty : (us : List Update) → false ≡ eqb (length us) 0 → 0 < length us
nonempty [] e = cc
nonempty (u ∷ us) e = omega arith
