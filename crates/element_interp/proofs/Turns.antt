-- One turn of a repeat more.
use Rattle.std.proofs.Common.{◌≡◌, ◌<◌, ◌+◌, ◌-◌, ℕ, suc, sym, ap, ◌∙◌, arith}
use Rattle.element_lang.specs.Meaning.{State, Outcome, Running, then_do, bound, turns}

-- the turns that are left are the first of them, and then the others
turns_first : (n i x : ℕ) (go : State → Outcome) (s : State) → i < n → turns (n - i) i x go s ≡ then_do (go (bound x i s)) (turns (n - (i + 1)) (i + 1) x go)
turns_first n i x go s lt =
    let here : n - i ≡ suc (n - (i + 1)) = omega arith in
    let next : i + 1 ≡ suc i = omega arith in
    rw here (ap (λ (k : ℕ). then_do (go (bound x i s)) (turns (n - (i + 1)) k x go)) (sym next))

-- a turn that goes on leaves what the others do
pub turn_goes : (n i x : ℕ) (go : State → Outcome) (s after : State) → i < n → Running after ≡ go (bound x i s) → turns (n - (i + 1)) (i + 1) x go after ≡ turns (n - i) i x go s
turn_goes n i x go s after lt goes =
    ap (λ (o : Outcome). then_do o (turns (n - (i + 1)) (i + 1) x go)) goes ∙ sym (turns_first n i x go s lt)
