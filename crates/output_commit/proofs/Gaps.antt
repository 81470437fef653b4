-- Spans of which the first were begun and the last wait, with a gap between.
use Rattle.std.proofs.Common.{◌≡◌, ℕ, ◌+◌, ◌≤◌, List, [], ◌∷◌, ◌++◌, refl, sym, ◌∙◌, ap, arith, zero, suc, map, length, length-drop, take, drop}
use Rattle.std.proofs.lemmas.List.{take-append-le}
use Rattle.writeback_table.specs.declared.command.Update.{Update}
use Rattle.output_commit.specs.declared.span.Span.{Span}
use Rattle.output_commit.specs.Spans.{AreJoined, batch_in}
use Rattle.output_commit.proofs.SpannedBatches.{joined_upto}
use Rattle.lemmas.proofs.Lists.{take_whole}

pub drop_more : {X : Type 0} (l : List X) (m n : ℕ) → drop n (drop m l) ≡ drop (m + n) l
drop_more l zero n = let e : 0 + n ≡ n = omega arith in rw e refl
drop_more [] (suc m) zero = let e : suc m + 0 ≡ suc m = omega arith in rw e refl
drop_more [] (suc m) (suc n) = let e : suc m + suc n ≡ suc (m + suc n) = omega arith in rw e refl
drop_more (x ∷ l) (suc m) n = let e : suc m + n ≡ suc (m + n) = omega arith in rw e (drop_more l m n)

-- the changes behind others are a batch of their own, and leave those before them
part_front : (us vs : List Update) (first n : ℕ) → first + n ≤ length us → take n (drop first (us ++ vs)) ≡ take n (drop first us)
part_front us vs zero n h = take-append-le n us vs (omega arith)
part_front [] vs (suc first) n h = absurd (omega arith)
part_front (u ∷ us) vs (suc first) n h = part_front us vs first n (omega arith)

pub part_last : (us vs : List Update) → take (length vs) (drop (length us) (us ++ vs)) ≡ vs
part_last [] vs = take_whole vs
part_last (u ∷ us) vs = part_last us vs

pub same_batches : (us vs : List Update) (from : ℕ) (spans : List Span) (upto : ℕ) → upto ≤ length us → AreJoined from spans upto
    → map (batch_in (us ++ vs)) spans ≡ map (batch_in us) spans
same_batches us vs from [] upto le h = refl
same_batches us vs from (s ∷ ss) upto le h =
    let r = joined_upto (from + s.changes) ss upto h.2 in
    let e = h.0 in
    let one : batch_in (us ++ vs) s ≡ batch_in us s = ap (λ l. record { updates = l; versions = s.versions }) (part_front us vs s.first s.changes (omega arith)) in
    (λ i. one i ∷ same_batches us vs (from + s.changes) ss upto le h.2 i)

-- two batches, one behind the other, as one
parts_at : (us : List Update) (m n : ℕ) → m ≤ length us → take (m + n) us ≡ take m us ++ take n (drop m us)
parts_at us zero n h = let e : 0 + n ≡ n = omega arith in ap (λ k. take k us) e
parts_at [] (suc m) n h = absurd (omega arith)
parts_at (u ∷ us) (suc m) n h = let e : suc m + n ≡ suc (m + n) = omega arith in ap (λ k. take k (u ∷ us)) e ∙ ap (λ l. u ∷ l) (parts_at us m n (omega arith))

part_both : (us : List Update) (first m n : ℕ) → first + m ≤ length us → take (m + n) (drop first us) ≡ take m (drop first us) ++ take n (drop (first + m) us)
part_both us first m n h =
    let l = length-drop first us in
    parts_at (drop first us) m n (omega arith) ∙ ap (λ r. take m (drop first us) ++ take n r) (drop_more us first m)

pub joined_updates : (us : List Update) (a b : Span) → b.first ≡ a.first + a.changes → a.first + a.changes ≤ length us
    → take (a.changes + b.changes) (drop a.first us) ≡ (batch_in us a).updates ++ (batch_in us b).updates
joined_updates us a b is h = part_both us a.first a.changes b.changes h ∙ ap (λ k. take a.changes (drop a.first us) ++ take b.changes (drop k us)) (sym is)
