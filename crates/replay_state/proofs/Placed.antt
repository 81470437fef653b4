-- Where packets are, in every state of a run.
use Rattle.std.proofs.Common.{◌≡◌, ◌≤◌, ℕ, Bool, true, false, Option, Some, refl, arith}
use Rattle.std.specs.Prelude.{slice_get}
use Rattle.replay_state.specs.State.{State, Pass, Progress, Entered}
use Rattle.replay_state.specs.Places.{IsHeld}
use Rattle.replay_state.proofs.Lists.{is_self, weight_remove, weight_two}
use Rattle.replay_state.proofs.Fates.{Places, held_mark, in_first, in_held, in_last, in_up, held_fate, pass_mark}
use Rattle.replay_state.proofs.Effects.{Consistent}

pub held_there : (w : State) (j n need : ℕ) → Consistent w → slice_get w.held j ≡ Some (n, need) → IsHeld w n
held_there w j n need k g =
    held_fate (slice_get w.progress n)
    (let r = weight_remove (in_held n) w.held j (n, need) g in let u = k.places.helds n in let one = is_self n in omega arith)

pub down_there : (w : State) (j n : ℕ) → Consistent w → slice_get w.down j ≡ Some n → IsHeld w n
down_there w j n k g =
    held_fate (slice_get w.progress n)
    (let r = weight_remove (in_up n) w.down j n g in let u = k.places.helds n in let one = is_self n in omega arith)

held_most : (f : Option Progress) → held_mark f ≤ 1
held_most (Some (Entered a v)) = omega arith
held_most f = omega arith

pass_most : (f : Option Progress) → pass_mark f ≤ 1
pass_most (Some (Entered a v)) = omega arith
pass_most f = omega arith

-- a packet that comes down and is in a pass behind the server would be held twice
pub comes_once : (w : State) (i j n : ℕ) (x : Pass) → Places w → slice_get w.down i ≡ Some n → slice_get w.passes j ≡ Some x → x.pre ≡ false → x.number ≡ n → ⊥
comes_once w i j n x k g h t e =
    let down = weight_remove (in_up n) w.down i n g in
    let pass = weight_remove (in_last n) w.passes j x h in
    let one : in_last n x ≡ 1 = rw (t, e, is_self n) refl in
    let other = is_self n in
    let all = k.helds n in
    let most = held_most (slice_get w.progress n) in
    omega arith

-- so would one in two passes of a kind
pub passes_once : (w : State) (i j : ℕ) (x y : Pass) (pre : Bool) → Places w → slice_get w.passes i ≡ Some x → slice_get w.passes j ≡ Some y → x.pre ≡ pre
    → y.pre ≡ pre → x.number ≡ y.number → (i ≡ j → ⊥) → ⊥
passes_once w i j x y true k g h s t e d =
    let n = y.number in
    let two = weight_two (in_first n) w.passes i j x y g h d in
    let one : in_first n x ≡ 1 = rw (s, e, is_self n) refl in
    let other : in_first n y ≡ 1 = rw (t, is_self n) refl in
    let all = k.firsts n in
    let most = pass_most (slice_get w.progress n) in
    omega arith
passes_once w i j x y false k g h s t e d =
    let n = y.number in
    let two = weight_two (in_last n) w.passes i j x y g h d in
    let one : in_last n x ≡ 1 = rw (s, e, is_self n) refl in
    let other : in_last n y ≡ 1 = rw (t, is_self n) refl in
    let all = k.helds n in
    let most = held_most (slice_get w.progress n) in
    omega arith
