-- The passes under way on a switch stay those of the state.
use Rattle.std.proofs.Common.{◌≡◌, ℕ, zero, suc, ◌<◌, ◌≤◌, Bool, true, false, List, [], ◌∷◌, ◌++◌, ◌⊎◌, Some, None, inl, inr, length, set, refl, sym, ap, ◌∙◌, subst, arith}
use Rattle.std.specs.Prelude.{slice_get, remove}
use Rattle.std.proofs.lemmas.Bool.{cases_eq, cases_lt}
use Rattle.std.proofs.lemmas.Option.{same_Some, none-some, slice_get_within}
use Rattle.packet_fields.specs.declared.packet.Packet.{Packet}
use Rattle.switch_ir.specs.UnderWay.{PassState, UnderWay, none_under_way}
use Rattle.replay_state.specs.Answers.{Setup}
use Rattle.replay_state.specs.declared.pass.Pass.{Pass}
use Rattle.replay_state.specs.State.{State}
use Rattle.split_answers.specs.UnderWay.{AreOnSwitch, IsOnSwitch, passes_of}
use Rattle.lemmas.proofs.Lists.{get_before_pushed, get_front, get_pushed, get_set_other, get_set_same}

-- ## Lists

pub get_push_old : {X : Type 0} (xs : List X) (y x : X) (n : ℕ) → slice_get xs n ≡ Some x → slice_get (xs ++ y ∷ []) n ≡ Some x
get_push_old xs y x n h = get_front xs (y ∷ []) n (slice_get_within xs n x h) ∙ h

get_removed_low : {X : Type 0} (xs : List X) (j i : ℕ) → i < j → slice_get (remove xs j) i ≡ slice_get xs i
get_removed_low [] zero i h = refl
get_removed_low [] (suc j) i h = refl
get_removed_low (x ∷ xs) zero i h = absurd (omega arith)
get_removed_low (x ∷ xs) (suc j) zero h = refl
get_removed_low (x ∷ xs) (suc j) (suc i) h = get_removed_low xs j i (omega arith)

get_removed_high : {X : Type 0} (xs : List X) (j i : ℕ) → j ≤ i → slice_get (remove xs j) i ≡ slice_get xs (suc i)
get_removed_high [] zero i h = refl
get_removed_high [] (suc j) i h = refl
get_removed_high (x ∷ xs) zero i h = refl
get_removed_high (x ∷ xs) (suc j) zero h = absurd (omega arith)
get_removed_high (x ∷ xs) (suc j) (suc i) h = get_removed_high xs j i (omega arith)

-- what is left stood elsewhere, and what stood elsewhere is left
pub was_elsewhere : {X : Type 0} (xs : List X) (j i : ℕ) (x : X) → slice_get (remove xs j) i ≡ Some x → (k : ℕ) × (slice_get xs k ≡ Some x) × (k ≡ j → ⊥)
was_elsewhere xs j i x h = elim (cases_lt i j) [
  | inl lt ↦ (i, sym (get_removed_low xs j i lt) ∙ h, λ e. omega arith)
  | inr ge ↦ (suc i, sym (get_removed_high xs j i ge) ∙ h, λ e. omega arith)
]

is_left : {X : Type 0} (xs : List X) (j k : ℕ) (x : X) → slice_get xs k ≡ Some x → (k ≡ j → ⊥) → (i : ℕ) × (slice_get (remove xs j) i ≡ Some x)
is_left xs j zero x h d = elim (cases_lt zero j) [
  | inl lt ↦ (zero, get_removed_low xs j zero lt ∙ h)
  | inr ge ↦ absurd (d (omega arith))
]
is_left xs j (suc k) x h d = elim (cases_lt (suc k) j) [
  | inl lt ↦ (suc k, get_removed_low xs j (suc k) lt ∙ h)
  | inr ge ↦ elim (cases_eq (suc k) j) [ inl e ↦ absurd (d e) | inr ne ↦ (k, get_removed_high xs j k (above k j ge ne) ∙ h) ]
]
  where
    above : (k j : ℕ) → j ≤ suc k → (suc k ≡ j → ⊥) → j ≤ k
    above k j ge ne = elim (cases_lt k j) [ inl lt ↦ absurd (ne (omega arith)) | inr le ↦ le ]

same_bool : (a b : Bool) → (a ≡ b) ⊎ (a ≡ b → ⊥)
same_bool true true = inl refl
same_bool true false = inr (λ e. cc)
same_bool false true = inr (λ e. cc)
same_bool false false = inl refl

-- it is the pass of this kind over this packet, or another one
own_or_other : (kind pre : Bool) (number n : ℕ) (Goal : Type 0) → (pre ≡ kind → n ≡ number → Goal) → ((pre ≡ kind → n ≡ number → ⊥) → Goal) → Goal
own_or_other kind pre number n Goal own other = elim (same_bool pre kind) [
  | inl k ↦ elim (cases_eq n number) [ inl m ↦ own k m | inr d ↦ other (λ g f. d f) ]
  | inr d ↦ other (λ g f. d g)
]

-- ## Passes

-- no two are of one kind and over one packet
abbrev pub Once : List Pass → Type 0
Once xs = (i j : ℕ) (one other : Pass) → slice_get xs i ≡ Some one → slice_get xs j ≡ Some other → one.pre ≡ other.pre → one.number ≡ other.number → i ≡ j

-- but for one, the passes are as before
abbrev pub Others : Bool → ℕ → UnderWay → UnderWay → Type 0
Others pre n u w = (k : Bool) (m : ℕ) → (k ≡ pre → m ≡ n → ⊥) → passes_of k w m ≡ passes_of k u m

module _ (setup : Setup) (packets : List Packet) where
  pub record OnList (xs : List Pass) (u : UnderWay) : Type 0 where
    pub each : (j : ℕ) (p : Pass) → slice_get xs j ≡ Some p → IsOnSwitch setup packets u p
    pub only : (pre : Bool) (n : ℕ) (own : PassState) → passes_of pre u n ≡ Some own → (j : ℕ) × (p : Pass) × (slice_get xs j ≡ Some p) × (p.pre ≡ pre) × (p.number ≡ n)

  pub of_state : (st : State) (u : UnderWay) → AreOnSwitch setup packets st u → OnList st.passes u
  of_state st u on = record { each = on.each; only = on.only }

  pub to_state : (st : State) (u : UnderWay) (xs : List Pass) → st.passes ≡ xs → OnList xs u → AreOnSwitch setup packets st u
  to_state st u xs e on = record {
    each = λ j p at. on.each j p (sym (ap (λ l. slice_get l j) e) ∙ at);
    only = λ pre n own at. let r = on.only pre n own at in (r.0, r.1, ap (λ l. slice_get l r.0) e ∙ r.2, r.3, r.4);
  }

  still_there : (u w : UnderWay) (p : Pass) → passes_of p.pre w p.number ≡ passes_of p.pre u p.number → IsOnSwitch setup packets u p → IsOnSwitch setup packets w p
  still_there u w p same h = record { own = h.own; there = same ∙ h.there; packet = h.packet; bit = h.bit; left = h.left; some = h.some }

  pub same_on : (xs : List Pass) (u w : UnderWay) → ((k : Bool) (m : ℕ) → passes_of k w m ≡ passes_of k u m) → OnList xs u → OnList xs w
  same_on xs u w same on = record {
    each = λ j p e. still_there u w p (same p.pre p.number) (on.each j p e);
    only = λ pre n own e. on.only pre n own (sym (same pre n) ∙ e);
  }

  -- a call after which its pass is as before leaves all
  pub all_same : (pre : Bool) (n : ℕ) (u w : UnderWay) → Others pre n u w → passes_of pre w n ≡ passes_of pre u n → (k : Bool) (m : ℕ) → passes_of k w m ≡ passes_of k u m
  all_same pre n u w others own k m =
      own_or_other pre k n m (passes_of k w m ≡ passes_of k u m) (λ e f. rw (e, f) own) (others k m)

  pub at_own : (u : UnderWay) (p q : Pass) → q.pre ≡ p.pre → q.number ≡ p.number → passes_of q.pre u q.number ≡ passes_of p.pre u p.number
  at_own u p q k m = ap (λ b. passes_of b u q.number) k ∙ ap (λ n. passes_of p.pre u n) m

  -- a pass enters
  pub entered_on : (xs : List Pass) (p : Pass) (u w : UnderWay) → Others p.pre p.number u w → passes_of p.pre u p.number ≡ None → IsOnSwitch setup packets w p → OnList xs u → OnList (xs ++ p ∷ []) w
  entered_on xs p u w others none own on = record {
    each = λ j q e. elim (get_before_pushed xs p q j e) [
      | inl new ↦ subst (IsOnSwitch setup packets w) new.1 own
      | inr old ↦ let h = on.each j q old in
          still_there u w q (others q.pre q.number (λ k m. none-some h.own (sym (at_own u p q k m ∙ none) ∙ h.there))) h
    ];
    only = λ pre n found e. own_or_other p.pre pre p.number n _ (λ k m. (length xs, p, get_pushed xs p, sym k, sym m))
        (λ other. let r = on.only pre n found (sym (others pre n other) ∙ e) in (r.0, r.1, get_push_old xs p r.1 r.0 r.2, r.3, r.4));
  }

  -- a pass but that at place j stands elsewhere
  elsewhere : (xs : List Pass) (j : ℕ) (p : Pass) (u w : UnderWay) → slice_get xs j ≡ Some p → Others p.pre p.number u w → OnList xs u
      → (pre : Bool) (n : ℕ) (found : PassState) → (pre ≡ p.pre → n ≡ p.number → ⊥) → passes_of pre w n ≡ Some found
      → (i : ℕ) × (r : Pass) × (slice_get xs i ≡ Some r) × (r.pre ≡ pre) × (r.number ≡ n) × (i ≡ j → ⊥)
  elsewhere xs j p u w here others on pre n found other e =
      let r = on.only pre n found (sym (others pre n other) ∙ e) in
      let apart : r.0 ≡ j → ⊥ = λ same.
      let is : r.1 ≡ p = same_Some _ _ (sym r.2 ∙ ap (λ k. slice_get xs k) same ∙ here) in
      other (sym r.3 ∙ ap (λ (z : Pass). z.pre) is) (sym r.4 ∙ ap (λ (z : Pass). z.number) is) in
      (r.0, r.1, r.2, r.3, r.4, apart)

  -- the pass at place j goes on
  pub moved_on : (xs : List Pass) (j : ℕ) (p q : Pass) (u w : UnderWay) → slice_get xs j ≡ Some p → q.pre ≡ p.pre → q.number ≡ p.number → Others p.pre p.number u w → Once xs → IsOnSwitch setup packets w q
      → OnList xs u → OnList (set xs j q) w
  moved_on xs j p q u w here kind number others once own on = record {
    each = λ i r e. elim (cases_eq i j) [
      | inl same ↦ subst (IsOnSwitch setup packets w) (same_Some _ _ (sym (get_set_same xs j p q here) ∙ subst (λ k. slice_get (set xs j q) k ≡ Some r) same e)) own
      | inr d ↦ let old = sym (get_set_other xs j i q d) ∙ e in
          still_there u w r (others r.pre r.number (λ k m. d (once i j r p old here k m))) (on.each i r old)
    ];
    only = λ pre n found e. own_or_other p.pre pre p.number n _ (λ k m. (j, q, get_set_same xs j p q here, kind ∙ sym k, number ∙ sym m))
        (λ other.
        let r = elsewhere xs j p u w here others on pre n found other e in
        (r.0, r.1, get_set_other xs j r.0 q r.5 ∙ r.2, r.3, r.4));
  }

  -- the pass at place j has ended
  pub ended_on : (xs : List Pass) (j : ℕ) (p : Pass) (u w : UnderWay) → slice_get xs j ≡ Some p → Others p.pre p.number u w → passes_of p.pre w p.number ≡ None → Once xs → OnList xs u → OnList (remove xs j) w
  ended_on xs j p u w here others none once on = record {
    each = λ i r e.
        let was = was_elsewhere xs j i r e in
        still_there u w r (others r.pre r.number (λ k m. was.2 (once was.0 j r p was.1 here k m))) (on.each was.0 r was.1);
    only = λ pre n found e. own_or_other p.pre pre p.number n _
        (λ k m. absurd (none-some found (sym none ∙ sym (ap (λ b. passes_of b w n) k ∙ ap (λ a. passes_of p.pre w a) m) ∙ e)))
        (λ other.
        let r = elsewhere xs j p u w here others on pre n found other e in
        let left = is_left xs j r.0 r.1 r.2 r.5 in
        (left.0, r.1, left.1, r.3, r.4));
  }

  -- none are under way
  no_pass : (pre : Bool) (n : ℕ) (own : PassState) → passes_of pre none_under_way n ≡ Some own → ⊥
  no_pass true n own e = cc
  no_pass false n own e = cc

  pub none_on : OnList [] none_under_way
  none_on = record { each = λ j p e. cc; only = λ pre n own e. absurd (no_pass pre n own e) }
