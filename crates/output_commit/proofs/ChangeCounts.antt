-- Counts of the changes of each object, one change after the other.
use Rattle.std.proofs.Common.{◌≡◌, ℕ, ◌+◌, ◌<◌, ◌≤◌, true, false, cond, eqb, List, [], ◌∷◌, ◌++◌, inl, inr, refl, sym, subst, ◌∙◌, ap, arith, zero, suc, length, take, drop, get_or, set}
use Rattle.std.proofs.lemmas.Bool.{cases_Bool, cases_eq, eqb-true, eq-eqb, ne_eqb}
use Rattle.std.proofs.lemmas.List.{get_or-set_same, get_or-set_other, length-set, take_more, take-append-drop}
use Rattle.writeback_table.specs.declared.command.Update.{Update}
use Rattle.writeback_table.specs.Batches.{count_of}
use Rattle.output_commit.specs.declared.tally.Tally.{Tally}
use Rattle.output_commit.specs.Batches.{fits}
use Rattle.output_commit.specs.Spans.{AreTallied}
use Rattle.output_commit.proofs.FitsByCount.{count_append, few, held_by, not_held}

pub tallied_at : (t : Tally) (us : List Update) (i : ℕ) (u : Update) → AreTallied t us → i < length us → u ≡ get_or us i u → u.object < length t.counts.items
tallied_at t [] i u h less at = absurd (omega arith)
tallied_at t (x ∷ us) zero u h less at = subst (λ z. z.object < length t.counts.items) (sym at) h.0
tallied_at t (x ∷ us) (suc i) u h less at = tallied_at t us i u h.1 (omega arith) at

pub same_tallied : (t t' : Tally) → length t'.counts.items ≡ length t.counts.items → (us : List Update) → AreTallied t us → AreTallied t' us
same_tallied t t' same [] h = tt
same_tallied t t' same (u ∷ us) h = (subst (λ n. u.object < n) (sym same) h.0, same_tallied t t' same us h.1)

-- one change more of one object
pub count_next : (before us : List Update) (i : ℕ) (u : Update) (o : ℕ) → i < length us → u ≡ get_or us i u
    → count_of o (before ++ take (i + 1) us) ≡ count_of o (before ++ take i us) + (cond (eqb u.object o) 1 0)
count_next before us i u o less at =
    let more : take (i + 1) us ≡ take i us ++ u ∷ [] = take_more us i u less ∙ ap (λ z. take i us ++ z ∷ []) (sym at) in
    let a = count_append o before (take (i + 1) us) in
    let b = count_append o before (take i us) in
    let c = ap (count_of o) more in
    let d = count_append o (take i us) (u ∷ []) in
    omega arith

pub next_tallied : (counts : List ℕ) (o : ℕ) (n : ℕ) (f : ℕ → ℕ) (g : ℕ → ℕ) → o < length counts
    → ((k : ℕ) → k < length counts → get_or counts k 0 ≡ f k) → n ≡ f o + 1 → ((k : ℕ) → g k ≡ f k + (cond (eqb o k) 1 0))
    → (k : ℕ) → k < length (set counts o n) → get_or (set counts o n) k 0 ≡ g k
next_tallied counts o n f g low h is step k less =
    let l = length-set counts o n in
    elim (cases_eq k o) [
      | inl e ↦
          let t = eq-eqb o k (sym e) in
          let s : g k ≡ f k + 1 = step k ∙ (rw t refl) in
          let fo = ap f e in
          let here : get_or (set counts o n) k 0 ≡ n = subst (λ j. get_or (set counts o n) j 0 ≡ n) (sym e) (get_or-set_same counts o n 0 low) in
          omega arith
      | inr d ↦
          let t = ne_eqb o k (λ e. d (sym e)) in
          let s : g k ≡ f k + 0 = step k ∙ (rw t refl) in
          let there = get_or-set_other counts o k n 0 d in
          let was = h k (omega arith) in
          omega arith
    ]

-- where an object has its most, one change more of it doesn't fit
pub full : (before us : List Update) (most i : ℕ) (u : Update) → i < length us → u ≡ get_or us i u
    → most ≤ count_of u.object (before ++ take i us) → fits most (before ++ us) ≡ false
full before us most i u less at more =
    let next = count_next before us i u u.object less at in
    let t = eq-eqb u.object u.object refl in
    let one : count_of u.object (before ++ take (i + 1) us) ≡ count_of u.object (before ++ take i us) + 1 = next ∙ (rw t refl) in
    let a = count_append u.object before us in
    let b = count_append u.object before (take (i + 1) us) in
    let c = ap (count_of u.object) (take-append-drop (i + 1) us) in
    let d = count_append u.object (take (i + 1) us) (drop (i + 1) us) in
    not_held most (before ++ us) u.object (omega arith)

-- and where none has more, they fit
pub next_fits : (before us : List Update) (most i : ℕ) (u : Update) → i < length us → u ≡ get_or us i u
    → count_of u.object (before ++ take i us) < most → fits most (before ++ take i us) ≡ true → fits most (before ++ take (i + 1) us) ≡ true
next_fits before us most i u less at room so =
    held_by most (before ++ take (i + 1) us) (λ o.
    let next = count_next before us i u o less at in
    let was = few most (before ++ take i us) so o in
    elim (cases_Bool (eqb u.object o)) [
      | inl t ↦
          let e = eqb-true u.object o t in
          let here : count_of o (before ++ take i us) < most = subst (λ k. count_of k (before ++ take i us) < most) e room in
          let one : count_of o (before ++ take (i + 1) us) ≡ count_of o (before ++ take i us) + 1 = next ∙ (rw t refl) in
          omega arith
      | inr f ↦
          let none : count_of o (before ++ take (i + 1) us) ≡ count_of o (before ++ take i us) + 0 = next ∙ (rw f refl) in
          omega arith
    ])

-- what is read there doesn't hang on what is read elsewhere
pub get_same : (xs : List ℕ) (n d e : ℕ) → n < length xs → get_or xs n d ≡ get_or xs n e
get_same [] n d e h = absurd (omega arith)
get_same (x ∷ xs) zero d e h = refl
get_same (x ∷ xs) (suc n) d e h = get_same xs n d e (omega arith)
