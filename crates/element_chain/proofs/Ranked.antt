-- Chains whose elements have ranks, and which elements stand within a `repeat`.
use Rattle.std.proofs.Common.{◌≡◌, inl, inr, ℕ, zero, suc, ◌<◌, ◌^◌, ◌==◌, ◌&&◌, ◌||◌, Bool, true, false, IsTrue, List, length, refl, subst, arith}
use Rattle.std.specs.List.{All, Contains}
use Rattle.std.specs.Prelude.{Decides}
use Rattle.std.proofs.lemmas.Bool.{eqb-true, eq-eqb, false_from_ne_true}
use Rattle.std.proofs.lemmas.Bool.Decides.{Decides-and, Decides-or, Decides-below_or}
use Rattle.std.proofs.lemmas.List.Elements.{All-contains, Contains-get_or}
use Rattle.element_lang.specs.Rules.{is_good, any_repeats}
use Rattle.element_chain.specs.declared.chain.Wire.{Wire}
use Rattle.element_chain.specs.declared.chain.Target.{Target}
use Rattle.element_chain.specs.declared.chain.Target.TheVariants.{Element, Out}
use Rattle.element_chain.specs.Chain.{Connected, element_at}
use Rattle.element_chain.specs.Wiring.{Leads, directly, IsWithin, leads_by}
use Rattle.element_chain.specs.Laws.{IsFit, IsReached, RepeatsBehind, any_uses_bytes, any_sends_again}
use Rattle.element_chain.proofs.Ranks.{leads_so, so_leads, leads_on, rank_by, rank_falls, rank_few}

-- A wire leads to an element that is there, by an input of 8 bits. The elements have ranks, which fall along each wire:
-- the wires have no cycle.
abbrev pub FallsTo : Connected → (ℕ → ℕ) → ℕ → Target → Type 0
FallsTo c rank from Out = Unit {0}
FallsTo c rank from (Element e) = (e < length c.elements) × (rank e < from)

pub record IsWireOf (c : Connected) (rank : ℕ → ℕ) (w : Wire) : Type 0 where
  pub input : w.input < 2 ^ 8
  pub to : FallsTo c rank (rank w.from) w.to

-- each element keeps the rules, and none but the entry reads bytes
pub record IsRanked (c : Connected) : Type 0 where
  pub some : 0 < length c.elements
  pub good : (e : ℕ) → e < length c.elements → IsTrue (is_good (element_at c.elements e))
  pub plain : (e : ℕ) → 0 < e → any_uses_bytes (element_at c.elements e).body ≡ false
  pub rank : ℕ → ℕ
  pub few : rank 0 < length c.elements
  pub wires : All (IsWireOf c rank) c.wires

-- the element that a target is, if it is one, passes a test
abbrev pub passes : (ℕ → Bool) → Target → Type 0
passes test Out = Unit {0}
passes test (Element e) = test e ≡ true

-- A wire passes on that its element is reached, and that what is behind it stands within a `repeat`: this begins where an
-- element sends within one.
pub record IsPassedOn (c : Connected) (reached repeated : ℕ → Bool) (w : Wire) : Type 0 where
  pub on : reached w.from ≡ true → passes reached w.to
  pub again : reached w.from ≡ true → any_sends_again (element_at c.elements w.from).body ≡ true → passes repeated w.to
  pub behind : reached w.from ≡ true → repeated w.from ≡ true → passes repeated w.to

-- no `repeat` is behind a `send` within one, where the entry leads
pub record IsCalm (c : Connected) : Type 0 where
  pub reached : ℕ → Bool
  pub repeated : ℕ → Bool
  pub entry : reached 0 ≡ true
  pub wires : All (IsPassedOn c reached repeated) c.wires
  pub none : (e : ℕ) → reached e ≡ true → repeated e ≡ true → any_repeats (element_at c.elements e).body ≡ false

-- ## each chain that can be composed is one
-- each element of a list is in it
all_of : {X : Type 0} → (P : X → Type 0) (xs : List X) → ((x : X) → Contains xs x → P x) → All P xs
all_of P xs each = λ k d lt. each _ (Contains-get_or xs k d lt)

falls_along : (c : Connected) → IsFit c → (w : Wire) → Contains c.wires w → (t : Target) → w.to ≡ t
    → FallsTo c (rank_by c.wires (length c.elements)) (rank_by c.wires (length c.elements) w.from) t
falls_along c fit w there Out is = tt
falls_along c fit w there (Element e) is =
    let n : ℕ = length c.elements in
    let both = All-contains (λ (w : Wire). (w.from < n) × IsWithin n w.to) c.wires w fit.within there in
    (subst (IsWithin n) is both.1, rank_falls c.wires n w.from e fit.within fit.acyclic (w, there, refl, is))

pub ranked : (c : Connected) → IsFit c → IsRanked c
ranked c fit = record {
  some = fit.some;
  good = fit.good;
  plain = fit.plain;
  rank = rank_by c.wires (length c.elements);
  few = rank_few c.wires (length c.elements) 0 fit.acyclic fit.some;
  wires = all_of (IsWireOf c (rank_by c.wires (length c.elements))) c.wires (λ w there. record {
    input = All-contains (λ (w : Wire). w.input < 2 ^ 8) c.wires w fit.inputs there;
    to = falls_along c fit w there w.to refl;
  });
}

-- ## what repeats
-- wires lead to an element from one that is reached and sends within a `repeat`
abbrev IsSentAgain : Connected → ℕ → ℕ → Type 0
IsSentAgain c e a = IsReached c a × ((any_sends_again (element_at c.elements a).body ≡ true) × Leads c.wires a e)

module _ (c : Connected) (fit : IsFit c) where
  abbrev leads : ℕ → ℕ → Bool
  leads = leads_by c.wires (length c.elements)

  abbrev is_reached : ℕ → Bool
  is_reached e = e == 0 || leads 0 e

  -- a test that holds of some number below another
  abbrev any_below : (ℕ → Bool) → ℕ → Bool
  any_below p zero = false
  any_below p (suc k) = p k || any_below p k

  abbrev sends_from : ℕ → ℕ → Bool
  sends_from e a = is_reached a && (any_sends_again (element_at c.elements a).body && leads a e)

  abbrev is_repeated : ℕ → Bool
  is_repeated e = any_below (sends_from e) (length c.elements)

  -- ### the tests are right
  leads_decides : (e f : ℕ) → Decides (leads e f) (Leads c.wires e f)
  leads_decides e f = (leads_so c.wires (length c.elements) e f, so_leads c.wires (length c.elements) fit.within)

  reached_decides : (e : ℕ) → Decides (is_reached e) (IsReached c e)
  reached_decides e = Decides-or (e == 0) (leads 0 e) (eqb-true e 0, eq-eqb e 0) (leads_decides 0 e)

  sends_decides : (e a : ℕ) → Decides (sends_from e a) (IsSentAgain c e a)
  sends_decides e a =
      Decides-and (is_reached a) (any_sends_again (element_at c.elements a).body && leads a e) (reached_decides a)
      (Decides-and (any_sends_again (element_at c.elements a).body) (leads a e) (λ h. h, λ h. h) (leads_decides a e))

  repeated_decides : (e : ℕ) → Decides (is_repeated e) ((a : ℕ) × (a < length c.elements) × IsSentAgain c e a)
  repeated_decides e = Decides-below_or (sends_from e) (IsSentAgain c e) (any_below (sends_from e)) (sends_decides e) refl (λ n. refl) (length c.elements)

  -- ### along a wire
  step_on : (w : Wire) → Contains c.wires w → (e : ℕ) → w.to ≡ Element e → Leads c.wires w.from e
  step_on w there e is = directly (w, there, refl, is)

  reached_on : (e f : ℕ) → IsReached c e → Leads c.wires e f → IsReached c f
  reached_on e f (inl is) on = inr (subst (λ k. Leads c.wires k f) is on)
  reached_on e f (inr near) on = inr (leads_on near on)

  passed : (test : ℕ → Bool) (t : Target) → ((e : ℕ) → t ≡ Element e → test e ≡ true) → passes test t
  passed test Out each = tt
  passed test (Element e) each = each e refl

  from_within : (w : Wire) → Contains c.wires w → w.from < length c.elements
  from_within w there =
      (All-contains (λ (w : Wire). (w.from < length c.elements) × IsWithin (length c.elements) w.to) c.wires w fit.within there).0

  passed_on : (w : Wire) → Contains c.wires w → IsPassedOn c is_reached is_repeated w
  passed_on w there = record {
    on = λ h. passed is_reached w.to (λ e is. (reached_decides e).1 (reached_on w.from e ((reached_decides w.from).0 h) (step_on w there e is)));
    again = λ h sends. passed is_repeated w.to (λ e is.
        (repeated_decides e).1 (w.from, from_within w there, ((reached_decides w.from).0 h, (sends, step_on w there e is))));
    behind = λ h again. passed is_repeated w.to (λ e is.
        let (a, lt, (reached, (sends, behind))) = (repeated_decides w.from).0 again in
        (repeated_decides e).1 (a, lt, (reached, (sends, leads_on behind (step_on w there e is)))));
  }

  none_repeats : ((e : ℕ) → RepeatsBehind c e → ⊥) → (e : ℕ) → is_repeated e ≡ true → any_repeats (element_at c.elements e).body ≡ false
  none_repeats quiet e again =
      let (a, lt, (reached, (sends, behind))) = (repeated_decides e).0 again in
      false_from_ne_true (any_repeats (element_at c.elements e).body)
      (λ is. quiet e (record { repeats = is; from = a; reached = reached; sends = sends; behind = behind }))

  pub calm : ((e : ℕ) → RepeatsBehind c e → ⊥) → IsCalm c
  calm quiet = record {
    reached = is_reached;
    repeated = is_repeated;
    entry = refl;
    wires = all_of (IsPassedOn c is_reached is_repeated) c.wires passed_on;
    none = λ e h again. none_repeats quiet e again;
  }
