-- The whole names locals that it declares, and no others.
use Rattle.std.proofs.Common.{◌≡◌, ℕ, ◌+◌, ◌<◌, ◌≤◌, nat_le, Bool, true, false, cond, List, [], ◌∷◌, length, None, refl, sym, ap, ◌∙◌, arith}
use Rattle.std.specs.List.{All}
use Rattle.std.proofs.lemmas.Bool.Decides.{nat_tests}
use Rattle.std.proofs.lemmas.List.Elements.{All-nil, All-cons}
use Rattle.element_chain.specs.Chain.{Connected}
use Rattle.element_chain.specs.Compose.{composed, wires_of, entry_within}
use Rattle.chain_compose.specs.declared.gauge.Gauge.TheVariants.{Locals}
use Rattle.chain_compose.specs.Counts.{used_in, body_count, whole_lengths, end_count, element_count}
use Rattle.chain_compose.specs.NamedFrom.{is_from, count_from, started, own_steps, end_from}
use Rattle.chain_compose.proofs.Counted.{whole_counted}
use Rattle.chain_compose.proofs.NamedEnds.{AreGood, own_known, none_named, whole_from}
use Rattle.chain_compose.proofs.NamedRange.{none_counts, none_yet}
use Rattle.chain_compose.proofs.NamedTotals.{locals_of_element}
use Rattle.chain_compose.proofs.Widened.{element_widened}

-- the whole declares as many locals as it has
pub whole_locals : (c : Connected) → body_count Locals (whole_lengths c) (composed c).body ≡ length (entry_within c (length c.elements)).numbering.widths
whole_locals c =
    let n = length c.elements in
    let declared = element_widened c n None 0 [] in
    let same : 0 + element_count Locals c (end_count Locals c n) None 0 ≡ element_count Locals c (end_count Locals c n) None 0 = omega arith in
    whole_counted Locals c ∙ sym (declared ∙ same)

none_from : (c : Connected) → AreGood c → (least : ℕ) → body_count Locals (whole_lengths c) (composed c).body ≤ least
    → count_from least (used_in (composed c).body) ≡ 0
none_from c good least few =
    let n = length c.elements in
    let span = end_count Locals c n in
    let ws = wires_of c.wires 0 in
    let fits : 0 + element_count Locals c span None 0 ≤ least = omega (arith, few, whole_counted Locals c) in
    whole_from c least
    ∙ none_counts least span (end_from c least n) ws (λ w b le. none_named c good least n w.to w.input b le) 0 (own_steps c 0) (started 0) (own_known c good 0) (none_yet 0 (started 0) refl refl)
    (omega (arith, fits, locals_of_element c span None 0))

smaller : (least x : ℕ) → is_from least x ≡ 0 → x < least
smaller least x none = by_test (nat_le least x) refl none
  where
    by_test : (b : Bool) → nat_le least x ≡ b → is_from least x ≡ 0 → x < least
    by_test true is none =
        let one : is_from least x ≡ 1 = ap (λ (v : Bool). cond v 1 0) is in
        absurd (omega (arith, none, one))
    by_test false is none = grind (arith, nat_tests)

all_smaller : (least : ℕ) (xs : List ℕ) → count_from least xs ≡ 0 → All (λ (x : ℕ). x < least) xs
all_smaller least [] none = All-nil (λ (x : ℕ). x < least)
all_smaller least (x ∷ xs) none =
    All-cons (λ (x : ℕ). x < least) x xs (smaller least x (omega (arith, none))) (all_smaller least xs (omega (arith, none)))

pub whole_below : (c : Connected) → AreGood c → All (λ (x : ℕ). x < length (entry_within c (length c.elements)).numbering.widths) (used_in (composed c).body)
whole_below c good =
    let many = length (entry_within c (length c.elements)).numbering.widths in
    all_smaller many (used_in (composed c).body) (none_from c good many (omega (arith, whole_locals c)))
