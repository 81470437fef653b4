-- what the lists, the fates and pairs of fates say
use Rattle.std.proofs.Common.{◌≡◌, ℕ, ◌+◌, ◌<◌, ◌≤◌, true, false, cond, List, [], ◌∷◌, ◌++◌, Option, Some, None, ◌⊎◌, inl, inr, refl, sym, ◌∙◌, subst, arith, set}
use Rattle.std.specs.Prelude.{slice_get}
use Rattle.std.proofs.lemmas.Option.{same_Some, none-some}
use Rattle.state_store.specs.Store.{Store}
use Rattle.output_commit.specs.Batches.{visible}
use Rattle.replay_state.specs.State.{State, Progress, Entered, Up, Held, Slow, Fast, Pass}
use Rattle.replay_state.proofs.Words.{admitted_at, released_at}
use Rattle.run_model.specs.Members.{Member}
use Rattle.replay_state.proofs.Words.{version_at}
use Rattle.replay_state.proofs.Lists.{set_cases, weight, weight_remove, is, is_self}
use Rattle.lemmas.proofs.Lists.{get_before_pushed}

abbrev pub pass_mark : Option Progress → ℕ
pass_mark (Some (Entered a v)) = 1
pass_mark o = 0

abbrev pub up_mark : Option Progress → ℕ
up_mark (Some (Up a)) = 1
up_mark o = 0

abbrev pub held_mark : Option Progress → ℕ
held_mark (Some (Held a d v y)) = 1
held_mark o = 0

abbrev pub in_first : ℕ → Pass → ℕ
in_first p x = cond x.pre (is x.number p) 0

abbrev pub in_last : ℕ → Pass → ℕ
in_last p x = cond x.pre 0 (is x.number p)

abbrev pub in_up : ℕ → ℕ → ℕ
in_up p q = is q p

abbrev pub in_held : ℕ → ℕ × ℕ → ℕ
in_held p x = is x.0 p

-- each packet on its way stands once, where its fate says
pub record Standing (passes : List Pass) (up : List ℕ) (held : List (ℕ × ℕ)) (down : List ℕ) (progress : List Progress) : Type 0 where
  pub firsts : (p : ℕ) → weight (in_first p) passes ≡ pass_mark (slice_get progress p)
  pub ups : (p : ℕ) → weight (in_up p) up ≡ up_mark (slice_get progress p)
  pub helds : (p : ℕ) → weight (in_held p) held + weight (in_up p) down + weight (in_last p) passes ≡ held_mark (slice_get progress p)

abbrev pub Places : State → Type 0
Places w = Standing w.passes w.up w.held w.down w.progress

pub pass_fate : (f : Option Progress) → 0 < pass_mark f → (a v : ℕ) × (f ≡ Some (Entered a v))
pass_fate (Some (Entered a v)) h = (a, v, refl)
pass_fate f h = absurd (omega arith)

pub up_fate : (f : Option Progress) → 0 < up_mark f → (a : ℕ) × (f ≡ Some (Up a))
up_fate (Some (Up a)) h = (a, refl)
up_fate f h = absurd (omega arith)

pub held_fate : (f : Option Progress) → 0 < held_mark f → (a d v : ℕ) × (y : Store) × (f ≡ Some (Held a d v y))
held_fate (Some (Held a d v y)) h = (a, d, v, y, refl)
held_fate f h = absurd (omega arith)

pub at_first : (w : State) (j : ℕ) (x : Pass) → Places w → slice_get w.passes j ≡ Some x → x.pre ≡ true → (a v : ℕ) × (slice_get w.progress x.number ≡ Some (Entered a v))
at_first w j x c g t = pass_fate (slice_get w.progress x.number)
    (let r = weight_remove (in_first x.number) w.passes j x g in let u = c.firsts x.number in let one : in_first x.number x ≡ 1 = rw (t, is_self x.number) refl in omega arith)

pub at_last : (w : State) (j : ℕ) (x : Pass) → Places w → slice_get w.passes j ≡ Some x → x.pre ≡ false → (a d v : ℕ) × (y : Store) × (slice_get w.progress x.number ≡ Some (Held a d v y))
at_last w j x c g t = held_fate (slice_get w.progress x.number)
    (let r = weight_remove (in_last x.number) w.passes j x g in let u = c.helds x.number in let one : in_last x.number x ≡ 1 = rw (t, is_self x.number) refl in omega arith)

pub at_up : (w : State) (j p : ℕ) → Places w → slice_get w.up j ≡ Some p → (a : ℕ) × (slice_get w.progress p ≡ Some (Up a))
at_up w j p c g = up_fate (slice_get w.progress p) (let r = weight_remove (in_up p) w.up j p g in let u = c.ups p in let one = is_self p in omega arith)

-- the versions of what is on its way
pub record Needing (passes : List Pass) (held : List (ℕ × ℕ)) (down : List ℕ) (progress : List Progress) (known : ℕ) : Type 0 where
  pub firsts : (x : Pass) (a v : ℕ) → Member x passes → x.pre ≡ true → slice_get progress x.number ≡ Some (Entered a v) → v ≡ x.version
  pub helds : (p need a d v : ℕ) (y : Store) → Member (p, need) held → slice_get progress p ≡ Some (Held a d v y) → v ≡ need
  pub downs : (p a d v : ℕ) (y : Store) → Member p down → slice_get progress p ≡ Some (Held a d v y) → v ≤ known
  pub lasts : (x : Pass) (a d v : ℕ) (y : Store) → Member x passes → x.pre ≡ false → slice_get progress x.number ≡ Some (Held a d v y) → v ≤ known

abbrev pub Needs : State → Type 0
Needs w = Needing w.passes w.held w.down w.progress (visible w.batches w.acked)

abbrev pub FateOk : ℕ → ℕ → ℕ → Progress → Type 0
FateOk now version most (Entered a v) = (a ≤ now) × (v ≤ most)
FateOk now version most (Up a) = a ≤ now
FateOk now version most (Held a d v y) = (a ≤ d) × (d ≤ now) × (v ≤ version)
FateOk now version most (Slow a d v y r) = (a ≤ d) × (d ≤ r) × (r ≤ now) × (v ≤ most)
FateOk now version most (Fast a d v y) = (a ≤ d) × (d ≤ now) × (v ≤ most)

pub fate_more : (now version most now' version' most' : ℕ) (f : Progress) → now ≤ now' → version ≤ version' → most ≤ most' → FateOk now version most f → FateOk now' version' most' f
fate_more now version most now' version' most' (Entered a v) x y z h = (omega arith, omega arith)
fate_more now version most now' version' most' (Up a) x y z h = omega arith
fate_more now version most now' version' most' (Slow a d v w r) x y z h = (h.0, h.1, omega arith, omega arith)
fate_more now version most now' version' most' f x y z h = (h.0, omega arith, omega arith)

abbrev pub Each : (Progress → Type 0) → List Progress → Type 0
Each P fates = (p : ℕ) (f : Progress) → slice_get fates p ≡ Some f → P f

abbrev pub EachConsistent : State → Type 0
EachConsistent w = Each (FateOk w.events w.version (visible w.batches w.done)) w.progress

pub each_push : (P : Progress → Type 0) (fates : List Progress) (f : Progress) → Each P fates → P f → Each P (fates ++ f ∷ [])
each_push P fates f all new p g h = elim (get_before_pushed fates f g p h) [ inl e ↦ subst P e.1 new | inr old ↦ all p g old ]

pub each_set : (P : Progress → Type 0) (fates : List Progress) (k : ℕ) (o f : Progress) → slice_get fates k ≡ Some o → Each P fates → P f → Each P (set fates k f)
each_set P fates k o f there all new p g h = elim (set_cases fates k p o f g there h) [ inl e ↦ subst P e.1 new | inr old ↦ all p g old ]

pub each_weaker : (P Q : Progress → Type 0) (fates : List Progress) → ((f : Progress) → P f → Q f) → Each P fates → Each Q fates
each_weaker P Q fates w all p f h = w f (all p f h)

pub record Pair (f g : Progress) : Type 0 where
  pub is : (r a v u : ℕ) → released_at (Some f) ≡ Some r → admitted_at (Some g) ≡ Some a → r < a → version_at (Some f) ≡ Some v → version_at (Some g) ≡ Some u → v ≤ u

abbrev pub Pairs : List Progress → Type 0
Pairs fates = (p q : ℕ) (f g : Progress) → slice_get fates p ≡ Some f → slice_get fates q ≡ Some g → Pair f g

-- f as the new fate of one packet: beside each old one, and itself
pub record Fits (fates : List Progress) (f : Progress) : Type 0 where
  pub first : (p : ℕ) (g : Progress) → slice_get fates p ≡ Some g → Pair f g
  pub second : (p : ℕ) (g : Progress) → slice_get fates p ≡ Some g → Pair g f
  pub self : Pair f f

-- where each fate is the new one or was there
pairs_new : (fates more : List Progress) (f : Progress) → ((p : ℕ) (x : Progress) → slice_get more p ≡ Some x → (f ≡ x) ⊎ (slice_get fates p ≡ Some x))
    → Pairs fates → Fits fates f → Pairs more
pairs_new fates more f cases all fits p q x y hx hy = elim (cases p x hx) [
  | inl e ↦ elim (cases q y hy) [
    | inl other ↦ subst (λ z. Pair z y) e (subst (λ z. Pair f z) other fits.self)
    | inr old ↦ subst (λ z. Pair z y) e (fits.first q y old)
  ]
  | inr there ↦ elim (cases q y hy) [
    | inl other ↦ subst (λ z. Pair x z) other (fits.second p x there)
    | inr old ↦ all p q x y there old
  ]
]

pub pairs_push : (fates : List Progress) (f : Progress) → Pairs fates → Fits fates f → Pairs (fates ++ f ∷ [])
pairs_push fates f = pairs_new fates (fates ++ f ∷ []) f (λ p x h. elim (get_before_pushed fates f x p h) [ inl e ↦ inl e.1 | inr old ↦ inr old ])

pub pairs_set : (fates : List Progress) (k : ℕ) (o f : Progress) → slice_get fates k ≡ Some o → Pairs fates → Fits fates f → Pairs (set fates k f)
pairs_set fates k o f there = pairs_new fates (set fates k f) f (λ p x h. elim (set_cases fates k p o f x there h) [ inl e ↦ inl e.1 | inr old ↦ inr old ])

pub admitted_le : (now version most a : ℕ) (f : Progress) → FateOk now version most f → admitted_at (Some f) ≡ Some a → a ≤ now
admitted_le now version most a (Entered b v) h e = let same = same_Some _ _ e in omega arith
admitted_le now version most a f h e = let same = same_Some _ _ e in omega arith

pub released_le : (now version most r v : ℕ) (f : Progress) → FateOk now version most f → released_at (Some f) ≡ Some r → version_at (Some f) ≡ Some v → v ≤ most
released_le now version most r v (Slow b d u y t) h e k = let same = same_Some _ _ k in omega arith
released_le now version most r v (Fast b d u y) h e k = let same = same_Some _ _ k in omega arith
released_le now version most r v f h e k = cc

-- a fate that isn't released yet, and whose version, if any, is at least what is shown
pub fits_late : (now version most : ℕ) (fates : List Progress) (f : Progress) → Each (FateOk now version most) fates → released_at (Some f) ≡ None
    → ((u : ℕ) → version_at (Some f) ≡ Some u → most ≤ u) → Fits fates f
fits_late now version most fates f all none late = record {
  first = λ p g h. record { is = λ r a v u rr aa le vv uu. absurd (none-some r (sym none ∙ rr)) };
  second = λ p g h. record { is = λ r a v u rr aa le vv uu. let low = released_le now version most r v g (all p g h) rr vv in let high = late u uu in omega arith };
  self = record { is = λ r a v u rr aa le vv uu. absurd (none-some r (sym none ∙ rr)) };
}

-- a fate that is released now, and takes the place of one with its version
pub fits_now : (now version most k : ℕ) (fates : List Progress) (o f : Progress) → Each (FateOk now version most) fates → slice_get fates k ≡ Some o → Pairs fates
    → released_at (Some f) ≡ Some now → admitted_at (Some f) ≡ admitted_at (Some o) → version_at (Some f) ≡ version_at (Some o) → Fits fates f
fits_now now version most k fates o f all there pairs rel adm same = record {
  first = λ p g h. record {
    is = λ r a v u rr aa le vv uu.
        let now_is = same_Some now r (sym rel ∙ rr) in let low = admitted_le now version most a g (all p g h) aa in absurd (omega arith);
  };
  second = λ p g h. record { is = λ r a v u rr aa le vv uu. (pairs p k g o h there).is r a v u rr (sym adm ∙ aa) le vv (sym same ∙ uu) };
  self = record {
    is = λ r a v u rr aa le vv uu.
        let now_is = same_Some now r (sym rel ∙ rr) in let low = admitted_le now version most a o (all k o there) (sym adm ∙ aa) in absurd (omega arith);
  };
}
