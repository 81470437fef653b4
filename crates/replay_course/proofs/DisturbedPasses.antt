-- Whether a command disturbs a pass under way, by two tests.
use Rattle.std.proofs.Common.{◌≡◌, ◌<◌, ◌≤◌, ℕ, Bool, true, false, ◌&&◌, ◌||◌, nat_lt, List, length, Some, sym, ap, ◌∙◌}
use Rattle.std.proofs.lemmas.Bool.{le-ltb, lt-ltb}
use Rattle.writeback_table.specs.declared.command.Command.{Command}
use Rattle.writeback_table.specs.Views.{disturbs}
use Rattle.replay_state.specs.declared.pass.Pass.{Pass}
use Rattle.replay_state.specs.Step.{waits}
use Rattle.replay_course.proofs.PassCounts.{by_bits, with_bit}

pub there_are : (a b : ℕ) (d : Bool) → a < b → d ≡ (nat_lt a b && d)
there_are a b d less = sym (ap (λ t. t && d) (lt-ltb a b less))

pub there_are_none : (a b : ℕ) (d : Bool) → b ≤ a → false ≡ (nat_lt a b && d)
there_are_none a b d more = sym (ap (λ t. t && d) (le-ltb a b more))

pub first_holds : (a b : Bool) → a ≡ true → a ≡ (a || b)
first_holds a b e = e ∙ sym (ap (λ t. t || b) e)

pub first_fails : (a b : Bool) → a ≡ false → b ≡ (a || b)
first_fails a b e = sym (ap (λ t. t || b) e)

-- it disturbs those without the bit, of which there are some, or those with it
pub by_two_tests : (command : Command) (passes now : List Pass) (count all : ℕ) (clear set answer : Bool) → passes ≡ now → count ≡ with_bit passes
    → all ≡ length passes → clear ≡ (nat_lt count all && disturbs false command) → set ≡ (nat_lt 0 count && disturbs true command)
    → answer ≡ (clear || set) → answer ≡ waits now (Some command)
by_two_tests command passes now count all clear set answer view counted all_is clear_is set_is answer_is =
    answer_is
    ∙ ((λ i. clear_is i || set_is i)
    ∙ ((λ i. (nat_lt (counted i) (all_is i) && disturbs false command) || (nat_lt 0 (counted i) && disturbs true command))
    ∙ (sym (by_bits (λ bit. disturbs bit command) passes) ∙ ap (λ l. waits l (Some command)) view)))
