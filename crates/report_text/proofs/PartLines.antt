-- The order line and the lines of parts, printed and read.
use Rattle.std.proofs.Common.{◌≡◌, ℕ, zero, suc, ◌^◌, ◌≤◌, ◌<◌, Bool, true, false, cond, ltb, List, [], ◌∷◌, ◌++◌, length, Some, None, refl, sym, ap, ◌∙◌, subst, arith, append_assoc}
use Rattle.std.specs.Prelude.{codes}
use Rattle.std.specs.Fmt.{decimal}
use Rattle.std.specs.Str.{bytes_eq}
use Rattle.std.specs.List.{AllByRecursion}
use Rattle.std.proofs.lemmas.List.{append-nil}
use Rattle.std.proofs.lemmas.Bool.Decides.{nat_tests}
use Rattle.std.proofs.lemmas.Option.{same_Some}
use Rattle.gal_io.specs.Number.{spaced_numbers}
use Rattle.run_text.specs.Report.{order_text}
use Rattle.run_text.specs.Trace.{largest}
use Rattle.report_text.specs.Parse.{after, all_numbers, below, count_of, number_below, numbers_at, order_at, order_of, whole}
use Rattle.report_text.proofs.Pieces.{after_back, after_is, bound, labelled_back, whole_is, numbered, IsTextOf}
use Rattle.lemmas.proofs.Lists.{bytes_eq_true}
use Rattle.report_text.proofs.RowLines.{spaced_cut, AreRead}
use Rattle.lemmas.proofs.Tests.{some_of_cond}

-- ---- the order

abbrev pub AreBelow : ℕ → List ℕ → Type 0
AreBelow bound = AllByRecursion (λ n. n < bound)

numbers_back : (before ns : List ℕ) (bound : ℕ) → bound ≤ 2 ^ 32 → AreBelow bound ns → numbers_at before (length ns) bound (spaced_numbers ns) ≡ Some (before ++ ns, [])
unfolding number_below
numbers_back before [] bound most h = ap (λ l. Some (l, [])) (sym (append-nil before))
numbers_back before (n ∷ ns) bound most h =
    let inside : n < bound = h.0 in
    let small : ltb n bound ≡ true = grind (arith, nat_tests) in
    rw (labelled_back largest n (codes " ") (spaced_numbers ns) (omega arith) (omega arith) (spaced_cut ns), small)
    (numbers_back (before ++ n ∷ []) ns bound most h.1 ∙ ap (λ l. Some (l, [])) (append_assoc before (n ∷ []) ns))

record IsBelow (bound : ℕ) (line : List ℕ) (x : ℕ × List ℕ) : Type 0 where
  below : x.0 < bound
  is : line ≡ codes " " ++ (decimal x.0 ++ x.1)

number_is : (limit : ℕ) (line : List ℕ) (x : ℕ × List ℕ) → number_below limit line ≡ Some x → IsBelow limit line x
unfolding number_below
number_is limit line x h =
    numbered largest (codes " ") line (below limit) x (omega arith) h (λ y small is more.
    some_of_cond (ltb y.0 limit) x (Some y) more (λ low same.
    subst (IsBelow limit line) (same_Some y x same) (record { below = grind (arith, nat_tests); is = is })))

-- so many numbers below a bound
abbrev AreMany : ℕ → ℕ → List ℕ → Type 0
AreMany count limit ns = (length ns ≡ count) × AreBelow limit ns

numbers_are : (before : List ℕ) (count limit : ℕ) (line : List ℕ) (x : List ℕ × List ℕ) → numbers_at before count limit line ≡ Some x → AreRead (AreMany count limit) spaced_numbers before line x
numbers_are before zero limit line x h =
    subst (AreRead (AreMany zero limit) spaced_numbers before line) (same_Some (before, line) x h) (record { read = []; fit = (refl, tt); all = sym (append-nil before); is = refl })
numbers_are before (suc count) limit line x h =
    bound (number_below limit line) (λ y. numbers_at (before ++ y.0 ∷ []) count limit y.1) x h (λ y ey hy.
    let one = number_is limit line y ey in
    let more = numbers_are (before ++ y.0 ∷ []) count limit y.1 x hy in
    record {
      read = y.0 ∷ more.read;
      fit = (ap suc more.fit.0, (one.below, more.fit.1));
      all = more.all ∙ append_assoc before (y.0 ∷ []) more.read;
      is = one.is ∙ ap (λ l. codes " " ++ (decimal y.0 ++ l)) more.is ∙ ap (λ l. codes " " ++ l) (sym (append_assoc (decimal y.0) (spaced_numbers more.read) x.1));
    })

-- the order line, without its end
abbrev pub order_told : List ℕ → List ℕ
order_told order = codes "order" ++ order_text order

order_at_back : (order : List ℕ) (limit : ℕ) → limit ≤ 2 ^ 32 → AreBelow limit order → order_at (length order) limit (order_text order) ≡ Some order
order_at_back [] limit most h = refl
order_at_back (n ∷ ns) limit most h =
    let positive : ltb 0 (length (n ∷ ns)) ≡ true = grind (arith, nat_tests) in
    rw (positive, numbers_back [] (n ∷ ns) limit most h) refl

pub order_back : (order : List ℕ) (limit : ℕ) → limit ≤ 2 ^ 32 → AreBelow limit order → order_of (length order) limit (order_told order) ≡ Some order
unfolding order_of
order_back order limit most h = rw (after_back (codes "order") (order_text order)) (order_at_back order limit most h)

abbrev pub HasOrder : ℕ → ℕ → List ℕ → List ℕ → Type 0
HasOrder count limit = IsTextOf (AreMany count limit) order_told

some_text : (ns : List ℕ) → 0 < length ns → order_text ns ≡ spaced_numbers ns
some_text [] h = absurd (omega arith)
some_text (n ∷ ns) h = refl

order_by : (t : Bool) (count limit : ℕ) (line rest order : List ℕ) → ltb 0 count ≡ t → line ≡ codes "order" ++ rest
    → cond t (all_numbers count limit rest) (cond (bytes_eq rest (codes " -")) (Some []) None) ≡ Some order → HasOrder count limit line order
order_by true count limit line rest order t e h =
    bound (numbers_at [] count limit rest) (λ all. whole all.0 all.1) order h (λ x ex hx.
    let w = whole_is x.0 order x.1 hx in
    let l = numbers_are [] count limit rest x ex in
    let same : l.read ≡ order = sym l.all ∙ w.1 in
    let positive : 0 < count = grind (arith, nat_tests) in
    let is : rest ≡ order_text l.read = l.is ∙ ap (λ r. spaced_numbers l.read ++ r) w.0 ∙ append-nil (spaced_numbers l.read) ∙ sym (some_text l.read (omega (arith, l.fit.0))) in
    subst (HasOrder count limit line) same (record { are = l.fit; is = e ∙ ap (λ r. codes "order" ++ r) is }))
order_by false count limit line rest order t e h =
    some_of_cond (bytes_eq rest (codes " -")) order (Some []) h (λ none same.
    subst (HasOrder count limit line) (same_Some [] order same) (record {
      are = (grind (arith, nat_tests), tt);
      is = e ∙ ap (λ r. codes "order" ++ r) (bytes_eq_true rest (codes " -") none);
    }))

pub order_is : (count limit : ℕ) (line order : List ℕ) → order_of count limit line ≡ Some order → HasOrder count limit line order
unfolding order_of
order_is count limit line order h =
    bound (after (codes "order") line) (order_at count limit) order h (λ rest er hr.
    order_by (ltb 0 count) count limit line rest order refl (after_is (codes "order") line rest er) hr)

-- ---- counts

-- the line that begins a part, without its end
abbrev pub part_told : List ℕ → List ℕ → ℕ → List ℕ
part_told word name count = word ++ (name ++ (codes " " ++ (decimal count ++ [])))

pub count_back : (word name : List ℕ) (count : ℕ) → count ≤ largest → count_of word name (part_told word name count) ≡ Some count
unfolding count_of
count_back word name count small =
    rw (
      after_back word (name ++ (codes " " ++ (decimal count ++ []))),
      after_back name (codes " " ++ (decimal count ++ [])),
      labelled_back largest count (codes " ") [] small (omega arith) refl,
    ) refl

-- the line begins the part of an object with so many rows
abbrev pub HasCount : List ℕ → List ℕ → List ℕ → ℕ → Type 0
HasCount word name = IsTextOf (λ count. count ≤ largest) (part_told word name)

pub count_is : (word name line : List ℕ) (count : ℕ) → count_of word name line ≡ Some count → HasCount word name line count
unfolding count_of
count_is word name line count h =
    bound (after word line) _ count h (λ r er hr.
    bound (after name r) _ count hr (λ s es hs.
    numbered largest (codes " ") s _ count (omega arith) hs (λ c small ec hc.
    let end = whole_is c.0 count c.1 hc in
    subst (HasCount word name line) end.1 (record { are = small; is = rw (after_is word line r er, after_is name r s es, ec, end.0) refl }))))
