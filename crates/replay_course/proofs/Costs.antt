-- Counts of packets and commands, after one event.
use Rattle.std.proofs.Common.{◌≡◌, ◌<◌, ◌≤◌, ◌+◌, ◌-◌, ◌*◌, ℕ, suc, arith}
use Rattle.std.proofs.Math.Nat.{mul-le-mul_right}

pub one_more_times : (m c : ℕ) → (m + 1) * c ≡ m * c + c
one_more_times m c = omega arith

-- where fewer packets aren't decided
pub commands_after : (n u u' k total : ℕ) → u' ≤ u → n + u * k ≤ total → n + u' * k ≤ total
commands_after n u u' k total less h = let m = mul-le-mul_right k less in omega arith

-- where one more is decided, and brings a batch
pub commands_with : (n b u u' k total : ℕ) → u ≡ u' + 1 → b ≤ k → n + u * k ≤ total → n + b + u' * k ≤ total
commands_with n b u u' k total is few h = let m = one_more_times u' k in omega (arith, rw is at h)

pub fewer_undecided : (p p' u u' f f' total : ℕ) → p' ≤ p → u' ≡ u → f' ≡ f → p' + u' + (total - f') ≤ p + u + (total - f)
fewer_undecided p p' u u' f f' total less up fates = omega arith

pub one_less_undecided : (p p' u u' f f' total : ℕ) → suc p' ≤ p → u' ≡ u → f' ≡ f → suc (p' + u' + (total - f')) ≤ p + u + (total - f)
one_less_undecided p p' u u' f f' total less up fates = omega arith

pub one_more_undecided : (p p' u u' f f' total : ℕ) → p' + u' ≤ suc (p + u) → f' ≡ f → p' + u' + (total - f') ≤ suc (p + u + (total - f))
one_more_undecided p p' u u' f f' total more fates = omega arith

pub admitted_undecided : (p p' u u' f f' total : ℕ) → p' ≡ p → u' ≡ u → f' ≡ f + 1 → f < total → suc (p' + u' + (total - f')) ≤ p + u + (total - f)
admitted_undecided p p' u u' f f' total passes up fates less = omega arith

pub versions_stay : (version u u' total : ℕ) → u' ≤ u → version + u ≤ total → version + u' ≤ total
versions_stay version u u' total less h = omega arith

pub undecided_served : (version version' p p' up up' total admitted admitted' : ℕ) → p' ≡ p → up' + 1 ≡ up → admitted' ≡ admitted
    → version' ≤ version + 1 → version + (p + up + (total - admitted)) ≤ total
    → version' + (p' + up' + (total - admitted')) ≤ total
undecided_served version version' p p' up up' total admitted admitted' passes less same next h = omega arith

pub commands_served : (n n' b p p' up up' rest rest' k total : ℕ) → n' ≡ n + b → p' ≡ p → up' + 1 ≡ up → rest' ≡ rest → b ≤ k
    → n + (p + up + rest) * k ≤ total → n' + (p' + up' + rest') * k ≤ total
commands_served n n' b p p' up up' rest rest' k total more passes less same few h =
    rw (more, passes, same) (commands_with n b (p + up + rest) (p + up' + rest) k total (omega arith) few h)

pub still_within : (sent n n' b : ℕ) → n' ≡ n + b → sent ≤ n → sent ≤ n'
still_within sent n n' b more h = omega arith

pub less_by_one : (a b : ℕ) → suc a ≤ b → a ≤ b
less_by_one a b h = omega arith

pub spare_served : (n n' b done spare : ℕ) → n' ≡ n + b → done ≤ n → (n - done) + b ≤ spare → n' - done ≤ spare
spare_served n n' b done spare more within room = omega arith

pub first_within : (n k : ℕ) → 0 + (0 + 0 + (n - 0)) * k ≤ n * k
first_within n k = let e : 0 + 0 + (n - 0) ≡ n = omega arith in let f : 0 + (0 + 0 + (n - 0)) * k ≡ n * k = rw e (omega arith) in omega arith

-- where there are no more of them
pub commands_fall : (n n' m total : ℕ) → n' ≤ n → n + m ≤ total → n' + m ≤ total
commands_fall n n' m total less h = omega arith
