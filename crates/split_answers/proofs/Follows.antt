-- Updates of one object, one behind the other.
use Rattle.std.proofs.Common.{◌≡◌, ◌≤◌, ◌+◌, ◌==◌, ℕ, true, List, [], ◌∷◌, ◌++◌, refl, sym, ap, ◌∙◌, subst, arith}
use Rattle.std.proofs.Common.{if◌then◌else◌}
use Rattle.state_store.specs.Store.{Object}
use Rattle.writeback_table.specs.declared.command.Update.{Update}
use Rattle.writeback_table.specs.Batches.{changed_at, changed_by, takes_at, count_of, TakesAll}
use Rattle.output_commit.proofs.FitsByCount.{count_append}
use Rattle.replay_state.proofs.History.{changed_append, takes_append}

-- the updates turn one object into the other, each finds room there in turn, and at most so many are of this object
pub record Follows (o : ℕ) (before after : Object) (updates : List Update) (most : ℕ) : Type 0 where
  pub changed : after ≡ changed_by o before updates
  pub taken : TakesAll o before updates
  pub few : count_of o updates ≤ most

pub follows_both : (o : ℕ) (a b c : Object) (us vs : List Update) (m n : ℕ)
    → Follows o a b us m → Follows o b c vs n → Follows o a c (us ++ vs) (m + n)
follows_both o a b c us vs m n first second = record {
  changed = second.changed ∙ ap (λ x. changed_by o x vs) first.changed ∙ sym (changed_append o a us vs);
  taken = takes_append o a us vs first.taken (subst (λ x. TakesAll o x vs) first.changed second.taken);
  few = omega (arith, count_append o us vs, first.few, second.few);
}

pub none_follow : (o : ℕ) (a : Object) (n : ℕ) → Follows o a a [] n
none_follow o a n = record { changed = refl; taken = tt; few = omega arith }

pub one_follows : (o : ℕ) (a : Object) (u : Update) → takes_at o a u ≡ true
    → Follows o a (changed_at o a u) (u ∷ []) (if u.object == o then 1 else 0)
one_follows o a u takes = record { changed = refl; taken = (takes, tt); few = omega arith }
