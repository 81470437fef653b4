-- The bit, by what the commands are.
use Rattle.std.proofs.Common.{◌≡◌, ℕ, ◌+◌, Bool, true, false, cond, ltb, List, [], ◌∷◌, refl, sym, ap, arith, zero, suc, take}
use Rattle.std.proofs.lemmas.Bool.{and_parts, lt-ltb, le-ltb, not-true}
use Rattle.writeback_table.specs.declared.command.Command.{Command}
use Rattle.writeback_table.specs.declared.command.Command.TheVariants.{On, Off}
use Rattle.writeback_table.specs.Commands.{bit_after, bit_through, counts_on, ons}
use Rattle.replay_state.specs.Commands.{counts_off, offs}
use Rattle.replay_state.proofs.Steady.{calm_after, in_turn, may_come}

abbrev one : Bool → ℕ
one b = cond b 1 0

one_command : (bit calm : Bool) (c : Command) → may_come bit calm c ≡ true → counts_on c + one bit ≡ counts_off c + one (bit_after bit c)
one_command bit calm On h = let b = ap one (not-true bit h) in omega arith
one_command bit calm Off h = let b = ap one h in omega arith
one_command bit calm c h = refl

pub bit_counts : (bit calm : Bool) (cs : List Command) (n : ℕ) → in_turn bit calm cs ≡ true
    → ons (take n cs) + one bit ≡ offs (take n cs) + one (bit_through bit (take n cs))
bit_counts bit calm cs zero h = refl
bit_counts bit calm [] (suc n) h = refl
bit_counts bit calm (c ∷ cs) (suc n) h =
    let parts = and_parts (may_come bit calm c) (in_turn (bit_after bit c) (calm_after calm c) cs) h in
    let first = one_command bit calm c parts.0 in
    let rest = bit_counts (bit_after bit c) (calm_after calm c) cs n parts.1 in
    omega arith

pub by_counts : (bit : Bool) (m n : ℕ) → n + 0 ≡ m + one bit → bit ≡ ltb m n
by_counts true m n h = sym (lt-ltb m n (omega arith))
by_counts false m n h = sym (le-ltb m n (omega arith))
