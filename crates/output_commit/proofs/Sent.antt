-- Which command was sent last.
use Rattle.std.proofs.Common.{◌≡◌, ℕ, zero, suc, ◌+◌, ◌-◌, ◌<◌, ◌≤◌, ◌^◌, List, [], ◌∷◌, Some, refl, sym, ◌∙◌, ap, arith, length, take, drop, get_or}
use Rattle.std.specs.Prelude.{slice_get}
use Rattle.std.proofs.lemmas.Bool.{ne_eqb}
use Rattle.std.proofs.lemmas.List.{length-take-le, take_all}
use Rattle.std.proofs.lemmas.Option.{get_or_from_slice_get, slice_get_within}
use Rattle.writeback_table.specs.declared.command.Command.{Command}
use Rattle.output_commit.specs.declared.batches.Batches.{Batches}
use Rattle.output_commit.specs.declared.place.Place.{Place}
use Rattle.output_commit.specs.declared.span.Span.{Span}
use Rattle.output_commit.specs.Commit.{Commit, commands, last_sent}
use Rattle.output_commit.specs.Kept.{IsCounted, begun_in, spans_in}
use Rattle.output_commit.specs.Spans.{span_len, stands, total}
use Rattle.output_commit.proofs.KeptCommit.{begun_few}
use Rattle.output_commit.proofs.NextPlace.{one_within, stands_here, total_next}
use Rattle.output_commit.proofs.SpannedBatches.{stands_front}

front_of : {X : Type 0} (k n : ℕ) (xs : List X) → k ≤ n → take k (take n xs) ≡ take k xs
front_of zero n xs h = refl
front_of (suc k) zero xs h = absurd (omega arith)
front_of (suc k) (suc n) [] h = refl
front_of (suc k) (suc n) (x ∷ xs) h = ap (λ l. x ∷ l) (front_of k n xs (omega arith))

-- the last command that was sent is this one of the last batch that was begun
pub record IsLastSent (b : Batches) (sent left : ℕ) (span : Span) : Type 0 where
  pub some : 0 < sent
  pub less : left < span_len span
  pub few : span_len span < 2 ^ 32
  pub stands : stands (spans_in b) (sent - 1) ≡ Some (span, span_len span - 1 - left)

begun_length : (b : Batches) → b.begun ≤ length b.spans.items → length (begun_in b) ≡ b.begun
begun_length b within = length-take-le b.begun b.spans.items within

-- the spans of those that were begun, of which the last one is this
pub last_stands : (b : Batches) (sent done acked left : ℕ) (applied known : Place) (v a : ℕ) (span : Span)
    → IsCounted b sent done acked left applied known v a → slice_get (begun_in b) (length (begun_in b) - 1) ≡ Some span
    → IsLastSent b sent left span
last_stands b sent done acked left applied known v a span c last =
    let l = begun_in b in
    let k = length l - 1 in
    let inside = slice_get_within l k span last in
    let begun = c.kept.begun in
    let next = c.kept.next in
    let long = begun_length b (omega arith) in
    let one_more : b.begun ≡ suc k = omega arith in
    let sent_past = c.last k one_more in
    let front : total (take k l) ≡ total (take k b.spans.items) = ap total (front_of k b.begun b.spans.items (omega arith)) in
    let is : get_or l k span ≡ span = get_or_from_slice_get l k span span last in
    let size : span_len (get_or l k span) ≡ span_len span = ap span_len is in
    let more = total_next l k span inside in
    let whole : total (take (suc k) l) ≡ total l = ap total (take_all (suc k) l (omega arith)) in
    let all = c.all in
    let step = span_len span - 1 - left in
    let at : stands l (total (take k l) + step) ≡ Some (get_or l k span, step) = stands_here l k step span inside (omega arith) in
    let place : total (take k l) + step ≡ sent - 1 = omega arith in
    let within = one_within l k span inside in
    let few = begun_few b c.kept in
    record {
      some = omega arith;
      less = omega arith;
      few = omega arith;
      stands = stands_front l (drop b.next b.spans.items) (sent - 1) (omega arith) ∙ ap (stands l) (sym place) ∙ at
          ∙ ap (λ (s : Span). Some (s, step)) is;
    }

pub some_last : (c : Commit) (command : Command) → 0 < c.sent → Some command ≡ slice_get (commands c) (c.sent - 1) → Some command ≡ last_sent c
some_last c command some is =
    let other = ne_eqb c.sent 0 (λ none. absurd (omega arith)) in
    rw other is
