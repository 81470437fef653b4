-- The steps of the code's loops, on plain values.
use Rattle.std.proofs.Common.{◌≡◌, ℕ, zero, suc, List, [], ◌∷◌, ◌++◌, length, drop, min, Option, refl, sym, ap, ◌∙◌, subst, arith}
use Rattle.std.proofs.lemmas.List.{append-nil}
use Rattle.flat_ir.specs.declared.program.ValueId.{ValueId}
use Rattle.flatten.specs.declared.error.FlatError.{FlatError}
use Rattle.flatten.specs.declared.place.Place.{Place}
use Rattle.flatten.specs.declared.stretch.Pending.{Pending}
use Rattle.flatten.specs.declared.journal.Tracked.{Tracked}
use Rattle.flatten.specs.Flatten.{Emitted, View, At, Scoped, merge_ids, join, Flattener, go_on, in_order}
use Rattle.flatten.specs.Journal.{before}
use Rattle.flatten.specs.Open.{closed, outermost}
use Rattle.flatten.specs.Over.{IsOver}
use Rattle.flatten.specs.Pending.{scoped_front, scoped, placed}
use Rattle.flatten.specs.Tracked.{started}
use Rattle.flatten.proofs.Journals.{length_undone}
use Rattle.flatten.proofs.Growth.{over_later, closed_grows, Growing}

-- one more open block
pub outermost_last : (ps : List Pending) (p : Pending) (start : View) → outermost (ps ++ p ∷ []) start ≡ outermost ps (before p.outer start)
outermost_last [] p start = refl
outermost_last (q ∷ ps) p start = ap (before q.outer) (outermost_last ps p start)

pub closed_last : (ws : List ℕ) (ps : List Pending) (p : Pending) (start : View) (r : At) → closed ws (ps ++ p ∷ []) start r ≡ closed ws ps (before p.outer start) (join ws p.place p.ended start r)
closed_last ws [] p start r = refl
closed_last ws (q ∷ ps) p start r =
    ap (λ w. join ws q.place q.ended w (closed ws (ps ++ p ∷ []) start r)) (outermost_last ps p start)
    ∙ ap (λ r. join ws q.place q.ended (outermost ps (before p.outer start)) r) (closed_last ws ps p start r)

length_outermost : (ps : List Pending) (start : View) → length (outermost ps start).locals ≡ length start.locals
length_outermost [] start = refl
length_outermost (p ∷ ps) start = length_undone p.outer.entries (outermost ps start).locals ∙ length_outermost ps start

-- there are as many locals as before
pub as_wide : (ps qs : List Pending) (w u : Tracked) → outermost qs (started u) ≡ outermost ps (started w) → length u.state.locals ≡ length w.state.locals
as_wide ps qs w u e =
    sym (length_outermost qs (started u) ∙ length_undone u.journal.entries u.state.locals)
    ∙ ap (λ v. length v.locals) e ∙ length_outermost ps (started w) ∙ length_undone w.journal.entries w.state.locals

-- a block is closed
pub close_start : (ps all : List Pending) (p : Pending) (w u : Tracked) → all ≡ ps ++ p ∷ [] → started u ≡ before p.outer (started w) → outermost ps (started u) ≡ outermost all (started w)
close_start ps all p w u ea es = ap (outermost ps) es ∙ sym (outermost_last ps p (started w)) ∙ ap (λ l. outermost l (started w)) (sym ea)

pub close_told : (ws : List ℕ) (ps all : List Pending) (p : Pending) (w u : Tracked) (g h : Emitted) (first : View) → all ≡ ps ++ p ∷ [] → first ≡ started w → placed h u.state ≡ join ws p.place p.ended first (placed g w.state)
    → started u ≡ before p.outer (started w) → closed ws ps (started u) (placed h u.state) ≡ closed ws all (started w) (placed g w.state)
close_told ws ps all p w u g h first ea ef ej es =
    ap (λ s. closed ws ps s (placed h u.state)) es ∙ ap (closed ws ps (before p.outer (started w))) (ej ∙ ap (λ f. join ws p.place p.ended f (placed g w.state)) ef)
    ∙ sym (closed_last ws ps p (started w) (placed g w.state)) ∙ ap (λ l. closed ws l (started w) (placed g w.state)) (sym ea)

pub over_join : (ws : List ℕ) (ps : List Pending) (start : View) (r total : At) (e : FlatError) → closed ws ps start r ≡ total → IsOver r.given e → IsOver total.given e
over_join ws ps start r total e is over = subst (λ t. IsOver t.given e) is (over_later r.given (closed ws ps start r).given e (closed_grows ws ps start r) over)

-- where a list of two or three ends
pub merge_end : (p : Place) (v : ValueId) (n : ℕ) (ws : List ℕ) (xs ys : List (Option ValueId)) (g : Emitted) → n ≡ min (min (length ws) (length xs)) (length ys) → merge_ids p v (drop n ws) (drop n xs) (drop n ys) g ≡ scoped g []
merge_end p v (suc n) (b ∷ ws) [] ys g e = absurd (omega (arith, e))
merge_end p v (suc n) (b ∷ ws) (x ∷ xs) [] g e = absurd (omega (arith, e))
merge_end p v zero (b ∷ ws) (x ∷ xs) (y ∷ ys) g e = absurd (omega (arith, e))
merge_end p v (suc n) (b ∷ ws) (x ∷ xs) (y ∷ ys) g e = merge_end p v n ws xs ys g (omega (arith, e))
merge_end p v _ _ _ _ g e = refl

pub merge_ended_at : (p : Place) (v : ValueId) (n : ℕ) (ws : List ℕ) (xs ys : List (Option ValueId)) (ids : List (Option ValueId)) (g : Emitted) (total : Scoped) → n ≡ min (min (length ws) (length xs)) (length ys)
    → scoped_front ids (merge_ids p v (drop n ws) (drop n xs) (drop n ys) g) ≡ total → scoped g ids ≡ total
merge_ended_at p v n ws xs ys ids g total e told =
    ap (λ l. scoped g l) (sym (append-nil ids)) ∙ ap (scoped_front ids) (sym (merge_end p v n ws xs ys g e)) ∙ told

-- ## Bodies and turns

-- how a block for what follows was opened, or wasn't
abbrev Goes : List Pending → View → Place → Emitted → View → List Pending → View → Place → Emitted → View → Type 0
Goes ps s p g w ps' s' p' g' w' = (widths : List ℕ) (go : Flattener) → closed widths ps' s' (go p' g' w') ≡ closed widths ps s (go_on widths w.ended p go g w)

pub order_step : (ws : List ℕ) (first rest : Flattener) (ps ps' : List Pending) (s s' : View) (p p' : Place) (g g' : Emitted) (w w' : View) (r total : At) → closed ws ps s (in_order ws first rest p g w) ≡ total → Goes ps s p g w ps' s' p' g' w'
    → r ≡ first p' g' w' → closed ws ps' s' (rest p' r.given r.view) ≡ total
order_step ws first rest ps ps' s s' p p' g g' w w' r total told goes did =
    ap (λ x. closed ws ps' s' (rest p' x.given x.view)) did ∙ goes ws (λ q h u. let x = first q h u in rest q x.given x.view) ∙ told

pub order_over : (ws : List ℕ) (first rest : Flattener) (ps ps' : List Pending) (s s' : View) (p p' : Place) (g g' : Emitted) (w w' : View) (total : At) (e : FlatError) → Growing rest → closed ws ps s (in_order ws first rest p g w) ≡ total
    → Goes ps s p g w ps' s' p' g' w' → IsOver (first p' g' w').given e → IsOver total.given e
order_over ws first rest ps ps' s s' p p' g g' w w' total e growing told goes over =
    let x = first p' g' w' in
    let r = rest p' x.given x.view in
    let is : closed ws ps' s' r ≡ total = goes ws (λ q h u. let x = first q h u in rest q x.given x.view) ∙ told in
    over_join ws ps' s' r total e is (over_later x.given r.given e (growing p' x.given x.view) over)
