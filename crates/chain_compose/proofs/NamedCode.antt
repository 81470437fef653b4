-- Counts of places where locals are named, as the code has them.
use Rattle.std.proofs.Common.{◌≡◌, ◌<◌, ◌≤◌, ℕ, zero, suc, ◌+◌, ◌-◌, ◌^◌, inl, inr, Bool, true, List, [], ◌∷◌, ◌++◌, length, map, take, slice_index_or, refl, sym, ap, subst, ◌∙◌, arith}
use Rattle.std.proofs.lemmas.List.{take_more, take_all, length-map}
use Rattle.std.proofs.lemmas.Bool.{cases_lt}
use Rattle.std.specs.List.{list_all, All}
use Rattle.std.proofs.lemmas.List.Elements.{All-head, All-tail}
use Rattle.element_print.specs.Lengths.{capped}
use Rattle.element_lang.specs.Rules.{is_good, is_good_body}
use Rattle.element_lang.specs.Tree.{BodyTree}
use Rattle.element_lang.specs.View.{tree}
use Rattle.element_lang.specs.declared.tree.Middlebox.{Middlebox}
use Rattle.element_chain.specs.declared.chain.Wire.{Wire}
use Rattle.element_chain.specs.declared.chain.Target.{Target}
use Rattle.element_chain.specs.declared.chain.Target.TheVariants.{Element}
use Rattle.element_chain.specs.Chain.{Connected, element_at}
use Rattle.element_chain.specs.Compose.{wires_of, composed}
use Rattle.element_chain.specs.Wiring.{IsWithin, AreWithin}
use Rattle.chain_compose.specs.declared.gauge.Gauge.{Gauge}
use Rattle.chain_compose.specs.declared.gauge.Gauge.TheVariants.{Locals, Uses}
use Rattle.chain_compose.specs.declared.named.Tally.{Tally}
use Rattle.chain_compose.specs.declared.parts.Parts.{Parts}
use Rattle.chain_compose.specs.declared.name_steps.Step.{Step}
use Rattle.chain_compose.specs.declared.name_steps.Step.TheVariants.{Send}
use Rattle.chain_compose.specs.Counts.{used_in, end_count}
use Rattle.chain_compose.specs.Tallies.{told}
use Rattle.chain_compose.specs.Parts.{chain_of}
use Rattle.chain_compose.specs.NamedFrom.{is_from, Spans, Namings, tests_span, tests_from, Naming, stepped, all_stepped, started, own_steps, body_steps, element_from, end_from, count_from, AreTold, IsTally}
use Rattle.chain_compose.proofs.RoutesAt.{own_within, own_wires}
use Rattle.chain_compose.specs.SendLevels.{has_wires}
use Rattle.chain_compose.proofs.NamedSteps.{run_append}
use Rattle.chain_compose.proofs.NamedRange.{counts_one, counts_none}
use Rattle.chain_compose.proofs.NamedEnds.{AreGood, all_named, none_named, whole_from}
use Rattle.element_print.proofs.GoodMiddleboxes.{good_body_of}
use Rattle.lemmas.proofs.Tests.{and_first, and_second}

pub same_from : (least n : ℕ) → least ≤ 2 ^ 64 - 1 → is_from least (capped n) ≡ is_from least n
same_from least n most =
    elim (cases_lt n least) [
      | inl lt ↦ counts_none least (capped n) (omega (arith, lt)) ∙ sym (counts_none least n lt)
      | inr le ↦ counts_one least (capped n) (omega (arith, le, most)) ∙ sym (counts_one least n le)
    ]

-- ## steps
-- ## tests
span_push : (span : Spans) (ws : List Wire) (w : Wire) → tests_span span (ws ++ w ∷ []) ≡ tests_span span ws + span w.to w.input
span_push span [] w = omega arith
span_push span (u ∷ ws) w = omega (arith, span_push span ws w)

from_push : (least : ℕ) (span : Spans) (from : Namings) (v : ℕ) (ws : List Wire) (w : Wire) (before : ℕ)
    → tests_from least span from v (ws ++ w ∷ []) before ≡ tests_from least span from v ws before + (is_from least v + from w.to w.input (before + tests_span span ws))
from_push least span from v [] w before = omega (arith, ap (from w.to w.input) same)
  where
    same : before ≡ before + 0
    same = omega arith
from_push least span from v (u ∷ ws) w before =
    let next = before + span u.to u.input in
    let same : next + tests_span span ws ≡ before + (span u.to u.input + tests_span span ws) = omega arith in
    omega (arith, from_push least span from v ws w next, ap (from w.to w.input) same)

-- what is told after so many of the tests
pub record IsTested (least : ℕ) (span : Spans) (from : Namings) (ws : List Wire) (n : Naming) (made : Tally) : Type 0 where
  pub next : made.next ≡ capped (suc n.next + tests_span span ws)
  pub count : made.count ≡ capped (n.count + (is_from least n.next + tests_from least span from n.next ws (suc n.next)))

module _ (least : ℕ) (most : least ≤ 2 ^ 64 - 1) (span : Spans) (from : Namings) (n : Naming) where
  pub next_tested : (all : List Wire) (i : ℕ) (d : Wire) (numbers : List ℕ) (tally before made : Tally) (one behind wide : ℕ) → i < length all → one ≡ is_from least tally.next
      → ((exact : ℕ) → before.next ≡ capped exact → behind ≡ capped (from (slice_index_or all i d).to (slice_index_or all i d).input exact)) → wide ≡ capped (span (slice_index_or all i d).to (slice_index_or all i d).input)
      → made.next ≡ capped (before.next + wide) → made.count ≡ capped (before.count + capped (one + behind))
      → IsTally numbers tally n → IsTested least span from (take i all) n before → IsTested least span from (take (i + 1) all) n made
  next_tested all i d numbers tally before made one behind wide lt one_is behind_is wide_is next_is count_is told so_far =
      let ws = take i all in
      let w = slice_index_or all i d in
      let more : take (i + 1) all ≡ ws ++ w ∷ [] = take_more all i d lt in
      let here = behind_is (suc n.next + tests_span span ws) so_far.next in
      record {
        next = omega (arith, next_is, so_far.next, wide_is, ap (tests_span span) more, span_push span ws w);
        count = omega (
          arith,
          count_is,
          so_far.count,
          here,
          one_is,
          ap (is_from least) told.next,
          same_from least n.next most,
          ap (λ (us : List Wire). tests_from least span from n.next us (suc n.next)) more,
          from_push least span from n.next ws w (suc n.next),
        );
      }

-- ## the end of a wire
-- a number that is below another of 64 bits is told whole
whole_number : (least before exact : ℕ) → least ≤ 2 ^ 64 - 1 → before < least → before ≡ capped exact → exact ≡ before
whole_number least before exact most lt is = omega (arith, most, lt, is)

pub large_end : (c : Connected) → AreGood c → (least n : ℕ) (t : Target) (input before exact count : ℕ) → least ≤ before → before ≡ capped exact → count ≡ capped (end_count Uses c n t input)
    → count ≡ capped (end_from c least n t input exact)
large_end c good least n t input before exact count le is count_is =
    count_is ∙ ap capped (sym (all_named c good least n t input exact (omega (arith, le, is))))

pub small_end : (c : Connected) → AreGood c → (least n : ℕ) (t : Target) (input before exact wide : ℕ) → least ≤ 2 ^ 64 - 1 → before ≡ capped exact → wide ≡ capped (end_count Locals c n t input)
    → capped (before + wide) < least → 0 ≡ capped (end_from c least n t input exact)
small_end c good least n t input before exact wide most is wide_is lt =
    ap capped (sym (none_named c good least n t input exact (omega (arith, most, is, wide_is, lt))))

pub all_good : (parts : Parts) → AreGood (chain_of parts)
all_good parts = record { each = at_each parts.classes.now parts.good }
  where
    at_each : (ms : List Middlebox) → list_all (λ (m : Middlebox). is_good (tree m)) ms ≡ true → (e : ℕ)
        → is_good_body (element_at (map tree ms) e) [] 0 (element_at (map tree ms) e).body ≡ true
    at_each [] h e = refl
    at_each (m ∷ ms) h zero = good_body_of (tree m) (and_first (is_good (tree m)) (list_all (λ (k : Middlebox). is_good (tree k)) ms) h)
    at_each (m ∷ ms) h (suc e) = at_each ms (and_second (is_good (tree m)) (list_all (λ (k : Middlebox). is_good (tree k)) ms) h) e

-- ## in the code
-- an element after a wire, which is gone through
pub walked_end : (c : Connected) (least levels e input before exact count : ℕ) → least ≤ 2 ^ 64 - 1 → before < least → before ≡ capped exact → 0 < levels
    → count ≡ capped (element_from c least (end_count Locals c (levels - 1)) (end_from c least (levels - 1)) e before) → count ≡ capped (end_from c least levels (Element e) input exact)
walked_end c least zero e input before exact count most lt is some count_is = absurd (omega (arith, some))
walked_end c least (suc n) e input before exact count most lt is some count_is =
    let level : suc n - 1 ≡ n = omega arith in
    count_is
    ∙ ap (λ (k : ℕ). capped (element_from c least (end_count Locals c k) (end_from c least k) e before)) level
    ∙ ap (λ (b : ℕ). capped (element_from c least (end_count Locals c n) (end_from c least n) e b)) (sym (whole_number least before exact most lt is))

-- all tests of a `send`
pub sent_tally : (least : ℕ) (span : Spans) (from : Namings) (ws : List Wire) (i : ℕ) (numbers : List ℕ) (tally made : Tally) (n : Naming) → length ws ≤ i
    → IsTally numbers tally n → IsTested least span from (take i ws) n made → IsTally numbers made (stepped least span from ws Send n)
sent_tally least span from ws i numbers tally made n past told tested =
    let all : take i ws ≡ ws = take_all i ws past in
    record {
      numbers = told.numbers;
      next = tested.next ∙ ap (λ (us : List Wire). capped (suc n.next + tests_span span us)) all;
      count = tested.count ∙ ap (λ (us : List Wire). capped (n.count + (is_from least n.next + tests_from least span from n.next us (suc n.next)))) all;
    }

pub stepped_tally : (least : ℕ) (span : Spans) (from : Namings) (ws : List Wire) (ss : List Step) (i : ℕ) (d : Step) (start : Naming) (more : List ℕ) (made : Tally) → i < length ss
    → IsTally more made (stepped least span from ws (slice_index_or ss i d) (all_stepped least span from ws (take i ss) start)) → IsTally more made (all_stepped least span from ws (take (i + 1) ss) start)
stepped_tally least span from ws ss i d start more made lt told =
    let s = slice_index_or ss i d in
    let next : take (i + 1) ss ≡ take i ss ++ s ∷ [] = take_more ss i d lt in
    subst (IsTally more made) (sym (ap (λ (us : List Step). all_stepped least span from ws us start) next ∙ run_append least span from ws (take i ss) (s ∷ []) start)) told

pub element_tally : (c : Connected) (least : ℕ) (span : Spans) (from : Namings) (e before i : ℕ) (ws : List Wire) (wired : Bool) (b : BodyTree) (ss put : List Step) (numbers : List ℕ) (tally : Tally) → length ss ≤ i
    → ws ≡ wires_of c.wires e → wired ≡ has_wires ws → b ≡ (element_at c.elements e).body → ss ≡ put → put ≡ [] ++ body_steps wired b
    → IsTally numbers tally (all_stepped least span from ws (take i ss) (started before)) → tally.count ≡ capped (element_from c least span from e before)
element_tally c least span from e before i ws wired b ss put numbers tally past ws_are wired_is b_is ss_are put_is told =
    let all : take i ss ≡ own_steps c e =
    take_all i ss past ∙ ss_are ∙ put_is ∙ ap (λ (h : Bool). body_steps h b) (wired_is ∙ ap has_wires ws_are) ∙ ap (λ (a : BodyTree). body_steps (has_wires (wires_of c.wires e)) a) b_is in
    told.count
    ∙ ap (λ (us : List Step). capped (all_stepped least span from ws us (started before)).count) all
    ∙ ap (λ (us : List Wire). capped (all_stepped least span from us (own_steps c e) (started before)).count) ws_are

-- what is told of an element after a wire
pub told_after : (g : Gauge) (c : Connected) (count : ℕ) (table : List (List ℕ)) (levels e input : ℕ) (t : Target) → AreTold g c count table → levels ≤ count → IsWithin count t → t ≡ Element e
    → told table levels e ≡ capped (end_count g c levels t input)
told_after g c count table levels e input t all fits there is =
    all.each levels e input fits (subst (IsWithin count) is there) ∙ sym (ap (λ (u : Target). capped (end_count g c levels u input)) is)

-- where the wires of an element lead
pub wires_within : (parts : Parts) (e : ℕ) (wires : List Wire) → e < length parts.classes.now → wires ≡ slice_index_or parts.routes.now e [] → AreWithin (length parts.classes.now) parts.chain.now.wires
    → All (λ (w : Wire). IsWithin (length parts.classes.now) w.to) wires
wires_within parts e wires there is within =
    subst (All (λ (w : Wire). IsWithin (length parts.classes.now) w.to)) (sym (own_wires parts e wires there is)) (own_within parts.chain.now.wires (length parts.classes.now) e within)

pub within_at : (count : ℕ) (ws : List Wire) (i : ℕ) (d : Wire) → All (λ (w : Wire). IsWithin count w.to) ws → i < length ws → IsWithin count (slice_index_or ws i d).to
within_at count [] i d all lt = absurd (omega (arith, lt))
within_at count (w ∷ ws) zero d all lt = All-head (λ (u : Wire). IsWithin count u.to) w ws all
within_at count (w ∷ ws) (suc i) d all lt = within_at count ws i d (All-tail (λ (u : Wire). IsWithin count u.to) w ws all) (omega (arith, lt))

-- the whole
pub whole_told : (parts : Parts) (least count : ℕ)
    → count ≡ capped (element_from (chain_of parts) least (end_count Locals (chain_of parts) (length parts.classes.now)) (end_from (chain_of parts) least (length parts.classes.now)) 0 0)
    → count ≡ capped (count_from least (used_in (composed (chain_of parts)).body))
whole_told parts least count is =
    let c = chain_of parts in
    is
    ∙ ap (λ (n : ℕ). capped (element_from c least (end_count Locals c n) (end_from c least n) 0 0)) (sym (length-map parts.classes.now tree))
    ∙ ap capped (sym (whole_from c least))
