-- What a commit keeps beside what it shows stays so with each call.
use Rattle.std.proofs.Common.{◌≡◌, ◌≤◌, ◌<◌, ◌^◌, ℕ, suc, ◌+◌, ◌-◌, true, false, ltb, List, [], ◌∷◌, ◌++◌, Some, inl, inr, refl, sym, subst, ◌∙◌, ap, arith, length, map, take, drop}
use Rattle.std.specs.Prelude.{slice_get, remove, Result, Ok, Err, OnOk, OnErr, is_err}
use Rattle.std.proofs.lemmas.Bool.{cases_lt, lt-ltb, le-ltb as not_ltb}
use Rattle.std.proofs.lemmas.List.{take-append-le, drop-append-le, length-append, length-drop, length-take-le, take_all, append-nil}
use Rattle.writeback_table.specs.Commands.{commands_of}
use Rattle.output_commit.specs.declared.batches.Batches.{Batches}
use Rattle.output_commit.specs.declared.place.Place.{Place}
use Rattle.output_commit.specs.declared.span.Span.{Span}
use Rattle.output_commit.specs.declared.output.Output.{Output}
use Rattle.output_commit.specs.declared.output.Release.TheVariants.{Frame}
use Rattle.output_commit.specs.Commit.{Commit, acknowledged, after_release, after_send, answer}
use Rattle.output_commit.specs.Batches.{Batch, commands_in, fits, merged, visible}
use Rattle.output_commit.specs.Kept.{AreKept, IsBefore, IsBegun, IsCounted, IsPushed, batches_in, begun_in, spans_in}
use Rattle.output_commit.specs.Spans.{IsIn, batch_in, passed, shown_by, span_len, stands, total}
use Rattle.output_commit.proofs.CommandCounts.{commands_total, kept_full}
use Rattle.output_commit.proofs.MergedBatches.{is_merged}
use Rattle.output_commit.proofs.VisibleVersions.{visible_front, visible_is}
use Rattle.output_commit.proofs.SpannedBatches.{AreFull, StandsIn, full_append, merged_within, shown_few, shown_next, stands_front, stands_get, stands_in, total_append}

-- ## Places of more batches

first_more : (xs ys : List Span) → total (take 1 xs) ≤ total (take 1 (xs ++ ys))
first_more [] ys = omega arith
first_more (x ∷ xs) ys = omega arith

in_more : (xs ys : List Span) (p : Place) → IsIn xs p → IsIn (xs ++ ys) p
in_more xs ys p is =
    let longer = length-append xs ys in
    let b = is.batch in
    let s = is.step in
    let more = first_more (drop p.batch xs) ys in
    let same = ap (λ l. total (take 1 l)) (drop-append-le p.batch xs ys is.batch) in
    record { batch = omega arith; step = omega arith }

passed_more : (xs ys : List Span) (p : Place) → IsIn xs p → passed (xs ++ ys) p ≡ passed xs p
passed_more xs ys p is = ap (λ l. total l + p.step) (take-append-le p.batch xs ys is.batch)

before_more : (b b' : Batches) (n : ℕ) (p : Place) (ys : List Span) → begun_in b' ≡ begun_in b ++ ys → IsBefore b n p → IsBefore b' n p
before_more b b' n p ys e is = record {
  within = subst (λ l. IsIn l p) (sym e) (in_more (begun_in b) ys p is.within);
  passed = ap (λ l. passed l p) e ∙ passed_more (begun_in b) ys p is.within ∙ is.passed;
}

-- ## How many commands

-- those that were sent are among all
pub sent_few : (b : Batches) (sent left : ℕ) → AreKept b → sent + left ≡ total (begun_in b) → sent + left ≤ length (commands_in (batches_in b))
sent_few b sent left kept all =
    let t = commands_total b kept in
    let c = kept.commands in
    let a = total_append (begun_in b) (drop b.next b.spans.items) in
    omega arith

-- ## One output more

pub begun_same : (b b' : Batches) (more : List Batch) → IsPushed b b' more → begun_in b' ≡ begun_in b
begun_same b b' more is = ap (λ k. take k b'.spans.items) is.begun ∙ is.front b.begun (omega arith)

pub counted_push : (b b' : Batches) (more : List Batch) (sent done acked left : ℕ) (applied known : Place) (v a : ℕ)
    → IsCounted b sent done acked left applied known v a → IsPushed b b' more → IsCounted b' sent done acked left applied known v a
counted_push b b' more sent done acked left applied known v a c is =
    let same = begun_same b b' more is in
    let kept_more : begun_in b' ≡ begun_in b ++ [] = same ∙ sym (append-nil (begun_in b)) in
    let within = sent_few b sent left c.kept c.all in
    let d = c.done_within in
    let k = c.acked_within in
    record {
      kept = is.kept;
      all = c.all ∙ ap total (sym same);
      last = λ j e. subst (λ l. total l < sent) (sym (is.front j (let f = is.begun in omega arith))) (c.last j (sym is.begun ∙ e));
      done_within = c.done_within;
      acked_within = c.acked_within;
      applied_at = before_more b b' done applied [] kept_more c.applied_at;
      known_at = before_more b b' acked known [] kept_more c.known_at;
      seen = c.seen ∙ sym (visible_front (batches_in b) more done (omega arith)) ∙ ap (λ bs. visible bs done) (sym is.batches);
      known_seen = c.known_seen ∙ sym (visible_front (batches_in b) more acked (omega arith)) ∙ ap (λ bs. visible bs acked) (sym is.batches);
    }

-- ## One command more is sent

-- where some are left of the batch that was begun, none begins
some_begun : (b : Batches) (sent left : ℕ) → sent + left ≡ total (begun_in b) → 0 < left → 0 < b.begun
some_begun b sent left all some = elim (cases_lt 0 b.begun) [
  | inl lt ↦ lt
  | inr none ↦
      let e : b.begun ≡ 0 = omega arith in
      let z : total (begun_in b) ≡ 0 = ap (λ k. total (take k b.spans.items)) e in
      absurd (omega arith)
]

pub none_begins : (b : Batches) (writeback sent done acked left : ℕ) (applied known : Place) (v a : ℕ)
    → IsCounted b sent done acked left applied known v a → 0 < left → merged (fits writeback) sent (batches_in b) ≡ batches_in b
none_begins b writeback sent done acked left applied known v a c some =
    let begun = some_begun b sent left c.all some in
    let k = b.begun - 1 in
    let e : b.begun ≡ suc k = omega arith in
    let low = c.last k e in
    let all = c.all in
    let spans : take (suc k) b.spans.items ≡ begun_in b = ap (λ n. take n b.spans.items) (sym e) in
    let full = (full_append b.updates.items (begun_in b) (drop b.next b.spans.items) (kept_full b c.kept)).0 in
    let total_is = ap total spans in
    let within = merged_within b.updates.items (fits writeback) k b.spans.items (drop b.next b.spans.items) sent
    (subst (AreFull b.updates.items) (sym spans) full) low (omega arith) in
    subst (λ l. merged (fits writeback) sent (map (batch_in b.updates.items) (l ++ drop b.next b.spans.items)) ≡ map (batch_in b.updates.items) (l ++ drop b.next b.spans.items)) spans within

pub counted_begin : (b b' : Batches) (span : Span) (writeback sent done acked : ℕ) (applied known : Place) (v a : ℕ)
    → IsCounted b sent done acked 0 applied known v a → IsBegun writeback b b' span
    → IsCounted b' (sent + 1) done acked (span_len span - 1) applied known v a
counted_begin b b' span writeback sent done acked applied known v a c is =
    let sent_is : total (begun_in b) ≡ sent = let e = c.all in omega arith in
    let t = total_append (begun_in b) (span ∷ []) in
    let l = ap total is.last in
    let d = c.done_within in
    let k = c.acked_within in
    record {
      kept = is.kept;
      all = omega arith;
      last = λ j e.
          let j_is : j ≡ b.begun = let f = is.begun in omega arith in
          let front = is.front b.begun (omega arith) in
          let here : total (take j b'.spans.items) ≡ sent = ap (λ n. total (take n b'.spans.items)) j_is ∙ ap total front ∙ sent_is in
          omega arith;
      done_within = omega arith;
      acked_within = c.acked_within;
      applied_at = before_more b b' done applied (span ∷ []) is.last c.applied_at;
      known_at = before_more b b' acked known (span ∷ []) is.last c.known_at;
      seen = c.seen ∙ sym ((is_merged (fits writeback) (total (begun_in b)) (batches_in b)).shows done (omega arith)) ∙ ap (λ bs. visible bs done) (sym is.batches);
      known_seen = c.known_seen ∙ sym ((is_merged (fits writeback) (total (begun_in b)) (batches_in b)).shows acked (omega arith)) ∙ ap (λ bs. visible bs acked) (sym is.batches);
    }

pub sent_merges : (b b' : Batches) (span : Span) (writeback sent done acked : ℕ) (applied known : Place) (v a : ℕ)
    → IsCounted b sent done acked 0 applied known v a → IsBegun writeback b b' span → batches_in b' ≡ merged (fits writeback) sent (batches_in b)
sent_merges b b' span writeback sent done acked applied known v a c is =
    let sent_is : total (begun_in b) ≡ sent = let e = c.all in omega arith in
    is.batches ∙ ap (λ n. merged (fits writeback) n (batches_in b)) sent_is

-- ## A place goes on

pub begun_few : (b : Batches) → AreKept b → total (begun_in b) < 2 ^ 32
begun_few b kept = let t = total_append (begun_in b) (drop b.next b.spans.items) in let f = kept.few in omega arith

-- command n of all is that of the batch in which it stands
pub stands_all : (b : Batches) (n : ℕ) (p : Place) (span : Span) (step : ℕ) → IsBefore b n p → n < total (begun_in b)
    → stands (begun_in b) (passed (begun_in b) p) ≡ Some (span, step) → stands (spans_in b) n ≡ Some (span, step)
stands_all b n p span step is less at =
    stands_front (begun_in b) (drop b.next b.spans.items) n less ∙ ap (stands (begun_in b)) (sym is.passed) ∙ at

pub command_is : (b : Batches) (n : ℕ) (span : Span) (step : ℕ) → AreKept b → stands (spans_in b) n ≡ Some (span, step)
    → slice_get (commands_in (batches_in b)) n ≡ slice_get (commands_of (batch_in b.updates.items span).updates) step
command_is b n span step kept at = stands_get b.updates.items (spans_in b) n span step (kept_full b kept) at

pub span_within : (b : Batches) (n : ℕ) (span : Span) (step : ℕ) → AreKept b → stands (spans_in b) n ≡ Some (span, step)
    → StandsIn (length b.updates.items) (total (spans_in b)) span step
span_within b n span step kept at = stands_in 0 (spans_in b) (length b.updates.items) n span step kept.joined at

pub visible_next : (b : Batches) (n : ℕ) (span : Span) (step : ℕ) → AreKept b → stands (spans_in b) n ≡ Some (span, step)
    → visible (batches_in b) (n + 1) ≡ visible (batches_in b) n + shown_by span step
visible_next b n span step kept at =
    let a = visible_is (batches_in b) n in
    let z = visible_is (batches_in b) (n + 1) in
    let s = shown_next b.updates.items (spans_in b) n span step (kept_full b kept) at in
    omega arith

pub visible_few : (b : Batches) (n : ℕ) → AreKept b → visible (batches_in b) n < 2 ^ 32
visible_few b n kept =
    let a = visible_is (batches_in b) n in
    let s = shown_few b.updates.items 0 (spans_in b) (length b.updates.items) n kept.joined in
    let f = kept.few in
    omega arith

-- a place that goes on by a command is before the next one, and lookups see what the command shows
one_on : (b : Batches) (n : ℕ) (p q : Place) (s : ℕ) (l : List Span) (r : Span × ℕ) → AreKept b → IsBefore b n p → n < total (begun_in b) → l ≡ begun_in b
    → IsIn l q → passed l q ≡ passed l p + 1 → stands l (passed l p) ≡ Some r → s ≡ shown_by r.0 r.1
    → IsBefore b (n + 1) q × (visible (batches_in b) (n + 1) ≡ visible (batches_in b) n + s)
one_on b n p q s l r kept before less is inside one at shows =
    let here = subst (λ m. stands m (passed m p) ≡ Some r) is at in (
      record { within = subst (λ m. IsIn m q) is inside; passed = subst (λ m. passed m q ≡ passed m p + 1) is one ∙ ap (λ m. m + 1) before.passed },
      visible_next b n r.0 r.1 kept (stands_all b n p r.0 r.1 before less here) ∙ ap (λ k. visible (batches_in b) n + k) (sym shows),
    )

pub counted_applied : (b : Batches) (sent done acked left : ℕ) (applied known q : Place) (v a s : ℕ) (l : List Span) (r : Span × ℕ)
    → IsCounted b sent done acked left applied known v a → done < sent → l ≡ begun_in b → IsIn l q → passed l q ≡ passed l applied + 1
    → stands l (passed l applied) ≡ Some r → s ≡ shown_by r.0 r.1 → IsCounted b sent (done + 1) acked left q known (v + s) a
counted_applied b sent done acked left applied known q v a s l r c less is inside one at shows =
    let all = c.all in
    let on = one_on b done applied q s l r c.kept c.applied_at (omega arith) is inside one at shows in
    record {
      kept = c.kept;
      all = c.all;
      last = c.last;
      done_within = omega arith;
      acked_within = let k = c.acked_within in omega arith;
      applied_at = on.0;
      known_at = c.known_at;
      seen = ap (λ n. n + s) c.seen ∙ sym on.1;
      known_seen = c.known_seen;
    }

pub counted_known : (b : Batches) (sent done acked left : ℕ) (applied known q : Place) (v a s : ℕ) (l : List Span) (r : Span × ℕ)
    → IsCounted b sent done acked left applied known v a → acked < done → l ≡ begun_in b → IsIn l q → passed l q ≡ passed l known + 1
    → stands l (passed l known) ≡ Some r → s ≡ shown_by r.0 r.1 → IsCounted b sent done (acked + 1) left applied q v (a + s)
counted_known b sent done acked left applied known q v a s l r c less is inside one at shows =
    let all = c.all in
    let d = c.done_within in
    let on = one_on b acked known q s l r c.kept c.known_at (omega arith) is inside one at shows in
    record {
      kept = c.kept;
      all = c.all;
      last = c.last;
      done_within = c.done_within;
      acked_within = omega arith;
      applied_at = c.applied_at;
      known_at = on.0;
      seen = c.seen;
      known_seen = ap (λ n. n + s) c.known_seen ∙ sym on.1;
    }

-- where the next command stands
pub next_stands : (b : Batches) (sent done acked left : ℕ) (applied known : Place) (v a : ℕ) (l : List Span) (r : Span × ℕ)
    → IsCounted b sent done acked left applied known v a → done < sent → l ≡ begun_in b → stands l (passed l applied) ≡ Some r
    → stands (spans_in b) done ≡ Some (r.0, r.1)
next_stands b sent done acked left applied known v a l r c less is at =
    let all = c.all in
    stands_all b done applied r.0 r.1 c.applied_at (omega arith) (subst (λ m. stands m (passed m applied) ≡ Some r) is at)

-- a count that isn't the other and not above it is below it
pub less_by : {m n : ℕ} → m ≤ n → (m ≡ n → ⊥) → m < n
less_by {m = m} {n = n} le not = elim (cases_lt m n) [ inl lt ↦ lt | inr ge ↦ absurd (not (omega arith)) ]

pub length_in : (b : Batches) (s : Span) → s.first + s.changes ≤ length b.updates.items → length (batch_in b.updates.items s).updates ≡ s.changes
length_in b s h = let l = length-drop s.first b.updates.items in length-take-le s.changes (drop s.first b.updates.items) (omega arith)

-- ## Outputs that go

pub answer_goes : (c : Commit) (j : ℕ) (o : Output) → slice_get c.held j ≡ Some o → o.need ≤ acknowledged c
    → answer c (slice_get c.held j) ≡ Frame o.number o.frame
answer_goes c j o here low = let f = not_ltb (acknowledged c) o.need low in ap (answer c) here ∙ (rw f refl)

pub after_goes : (c : Commit) (j : ℕ) (o : Output) → slice_get c.held j ≡ Some o → o.need ≤ acknowledged c
    → after_release c j (slice_get c.held j) ≡ record c { held = remove c.held j }
after_goes c j o here low = let f = not_ltb (acknowledged c) o.need low in ap (after_release c j) here ∙ (rw f refl)

-- ## What a call that sends leaves

-- a batch that was begun has its commands among those of all begun ones
pub begun_len : (b b' : Batches) (span : Span) (writeback : ℕ) → IsBegun writeback b b' span → span_len span < 2 ^ 32
begun_len b b' span writeback is =
    let t = total_append (begun_in b) (span ∷ []) in
    let l = ap total is.last in
    let f = begun_few b' is.kept in
    omega arith

pub after_send_is : (c : Commit) (n : ℕ) (bs : List Batch) → c.sent < n → n ≡ length (commands_in c.batches) → bs ≡ merged (fits c.writeback) c.sent c.batches
    → record c { batches = bs; sent = c.sent + 1 } ≡ after_send c
after_send_is c n bs less is merges =
    let t = lt-ltb c.sent (length (commands_in c.batches)) (omega arith) in
    ap (λ l. record c { batches = l; sent = c.sent + 1 }) merges ∙ sym (rw t refl)

-- where all commands are sent, nothing happens
pub none_sent : (c : Commit) → length (commands_in c.batches) ≡ c.sent → (false ≡ ltb c.sent (length (commands_in c.batches))) × (c ≡ after_send c)
none_sent c same = let f = not_ltb c.sent (length (commands_in c.batches)) (omega arith) in (sym f, sym (rw f refl))

-- where some aren't, one is
pub some_unsent : (b : Batches) (sent done acked left : ℕ) (applied known : Place) (v a : ℕ)
    → IsCounted b sent done acked left applied known v a → (sent ≡ b.commands → ⊥) → sent < b.commands
some_unsent b sent done acked left applied known v a c not =
    let w = sent_few b sent left c.kept c.all in
    let t = commands_total b c.kept in
    less_by (omega arith) not

-- ## Want of memory

pub on_ok : {A E : Type 0} (r : Result A E) (P : Type 0) → false ≡ is_err r → OnOk r P → P
on_ok (Ok x) P e h = h
on_ok (Err x) P e h = cc

pub on_err : {A E : Type 0} (r : Result A E) (P : Type 0) → true ≡ is_err r → OnErr r P → P
on_err (Ok x) P e h = cc
on_err (Err x) P e h = h

-- what was put last and taken away again leaves what was there
pub pop_same : {X : Type 0} (xs ys zs : List X) (x : X) (n : ℕ) → ys ≡ xs ++ x ∷ [] → zs ≡ take n ys → n + 1 ≡ length ys → zs ≡ xs
pop_same xs ys zs x n more popped count =
    let l = length-append xs (x ∷ []) in
    let e = ap length more in
    let k : n ≡ length xs = omega arith in
    popped ∙ ap (take n) more ∙ take-append-le n xs (x ∷ []) (omega arith) ∙ ap (λ m. take m xs) k ∙ take_all (length xs) xs (omega arith)
