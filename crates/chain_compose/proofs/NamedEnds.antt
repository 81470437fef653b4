-- How often locals are named in the whole, and where that is told by tables alone.
use Rattle.std.proofs.Common.{◌≡◌, ◌≤◌, ℕ, zero, suc, ◌+◌, Bool, true, false, cond, List, [], length, Option, Some, None, refl, sym, ap, ◌∙◌, arith}
use Rattle.std.specs.List.{filter}
use Rattle.std.proofs.lemmas.Bool.{true≢false}
use Rattle.packet_fields.specs.Table.{all_fields}
use Rattle.element_lang.specs.Tree.{BodyTree}
use Rattle.element_lang.specs.Tree.StmtTree.{drop}
use Rattle.element_lang.specs.Rules.{ends_always, is_good_body}
use Rattle.element_lang.specs.Widths.{local_widths}
use Rattle.element_chain.specs.declared.chain.Target.{Target}
use Rattle.element_chain.specs.declared.chain.Target.TheVariants.{Element, Out}
use Rattle.element_chain.specs.Chain.{Connected, element_at}
use Rattle.element_chain.specs.Compose.{followed, one, Spot, Ends, wires_of, base_of, clearing, closed, is_set, sent_by, ends_within, element_placed, composed}
use Rattle.chain_compose.specs.declared.gauge.Gauge.TheVariants.{Locals, Uses}
use Rattle.chain_compose.specs.Counts.{used_in, end_count, element_count}
use Rattle.chain_compose.specs.SendLevels.{has_wires}
use Rattle.chain_compose.specs.NamedFrom.{count_from, Spans, Namings, Naming, all_stepped, started, own_steps, element_from, end_from}
use Rattle.chain_compose.proofs.Widened.{ends_widened}
use Rattle.chain_compose.proofs.NamedSteps.{used_followed, at, body_run, AreEndsTold, sent_run}
use Rattle.chain_compose.proofs.NamedTotals.{locals_of_element, uses_of_element, clearing_from, no_clearing_uses, no_closing_uses}
use Rattle.chain_compose.proofs.NamedRange.{AreKnown, known_body, none_yet, all_count, none_counts}

closed_from : (least : ℕ) (b : Bool) (a : BodyTree) → count_from least (used_in (cond b a (followed a (one drop)))) ≡ count_from least (used_in a)
closed_from least true a = refl
closed_from least false a = omega (arith, used_followed least a (one drop))

-- an element where it stands in the whole
element_run : (c : Connected) (least : ℕ) (end : Ends) (span : Spans) (from : Namings) → AreEndsTold least end span from → (port : Option ℕ) (e : ℕ) (widths : List ℕ)
    → all_stepped least span from (wires_of c.wires e) (own_steps c e) (started (length widths))
    ≡ at (element_placed c end port e widths).numbering (count_from least (used_in (element_placed c end port e widths).body))
element_run c least end span from told port e widths =
    let m = element_at c.elements e in
    let spot : Spot = record { widths = local_widths m; base = base_of c.elements e; port = port } in
    let ws = wires_of c.wires e in
    let own = element_placed c end port e widths in
    body_run least span from ws spot (sent_by end ws) (has_wires ws) (λ sent n k. sent_run least end span from told ws port sent n k) m.body (record { names = []; widths = widths }) 0
    ∙ ap (at own.numbering) (omega arith)

-- an element behind a wire, where it is told of those behind it
module _ (c : Connected) (least n : ℕ) (told : AreEndsTold least (ends_within c n) (end_count Locals c n) (end_from c least n)) where
  next_often : (t : Target) (input : ℕ) (widths : List ℕ) → count_from least (used_in (ends_within c (suc n) t input widths).body) ≡ end_from c least (suc n) t input (length widths)
  next_often Out input widths = refl
  next_often (Element e) input widths =
      let m = element_at c.elements e in
      let own = element_placed c (ends_within c n) (Some input) e widths in
      let fs = filter (is_set c.elements) all_fields in
      let run = element_run c least (ends_within c n) (end_count Locals c n) (end_from c least n) told (Some input) e widths in
      omega (arith, used_followed least (clearing fs) (closed m.body own.body), clearing_from least fs, closed_from least (ends_always m.body) own.body, ap (λ (k : Naming). k.count) run)

last_often : (c : Connected) (least : ℕ) (t : Target) (input : ℕ) (widths : List ℕ) → count_from least (used_in (ends_within c zero t input widths).body) ≡ end_from c least zero t input (length widths)
last_often c least Out input widths = refl
last_often c least (Element e) input widths = refl

ends_told : (c : Connected) (least n : ℕ) → AreEndsTold least (ends_within c n) (end_count Locals c n) (end_from c least n)
ends_told c least zero = record { wide = ends_widened c zero; often = last_often c least }
ends_told c least (suc n) = record { wide = ends_widened c (suc n); often = next_often c least n (ends_told c least n) }

-- the whole
pub whole_from : (c : Connected) (least : ℕ)
    → count_from least (used_in (composed c).body) ≡ element_from c least (end_count Locals c (length c.elements)) (end_from c least (length c.elements)) 0 0
whole_from c least =
    let n = length c.elements in
    sym (ap (λ (k : Naming). k.count) (element_run c least (ends_within c n) (end_count Locals c n) (end_from c least n) (ends_told c least n) None 0 []))

-- ## by tables alone
-- each element keeps the rules
pub record AreGood (c : Connected) : Type 0 where
  pub each : (e : ℕ) → is_good_body (element_at c.elements e) [] 0 (element_at c.elements e).body ≡ true

pub own_known : (c : Connected) → AreGood c → (e : ℕ) → AreKnown 0 (own_steps c e)
own_known c good e =
    let m = element_at c.elements e in
    known_body m (has_wires (wires_of c.wires e)) [] 0 m.body (λ y none. absurd (true≢false (sym none))) (good.each e)

-- where all numbers are large enough
pub all_named : (c : Connected) → AreGood c → (least n : ℕ) (t : Target) (input before : ℕ) → least ≤ before → end_from c least n t input before ≡ end_count Uses c n t input
all_named c good least zero Out input before large = refl
all_named c good least zero (Element e) input before large = refl
all_named c good least (suc n) Out input before large = refl
all_named c good least (suc n) (Element e) input before large =
    let ws = wires_of c.wires e in
    let uses = end_count Uses c n in
    omega (
      arith,
      all_count least (end_count Locals c n) (end_from c least n) ws uses (λ w b le. all_named c good least n w.to w.input b le) before (own_steps c e) (started before) large (own_known c good e) (none_yet before (started before) refl refl),
      uses_of_element c uses (Some input) e,
      no_clearing_uses c,
      no_closing_uses (element_at c.elements e).body,
    )

-- where none is
pub none_named : (c : Connected) → AreGood c → (least n : ℕ) (t : Target) (input before : ℕ) → before + end_count Locals c n t input ≤ least → end_from c least n t input before ≡ 0
none_named c good least zero Out input before fits = refl
none_named c good least zero (Element e) input before fits = refl
none_named c good least (suc n) Out input before fits = refl
none_named c good least (suc n) (Element e) input before fits =
    let ws = wires_of c.wires e in
    let span = end_count Locals c n in
    let most : before + element_count Locals c span (Some input) e ≤ least = omega (arith, fits) in
    none_counts least span (end_from c least n) ws (λ w b le. none_named c good least n w.to w.input b le) before (own_steps c e) (started before) (own_known c good e) (none_yet before (started before) refl refl)
    (omega (arith, most, locals_of_element c span (Some input) e))
