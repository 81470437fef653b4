-- The visible version, by batches that have set the bit.
use Rattle.std.proofs.Common.{◌≡◌, ℕ, ◌+◌, ◌≤◌, List, [], ◌∷◌, refl, sym, ◌∙◌, ap, arith, zero, suc, take, length}
use Rattle.std.proofs.lemmas.List.{length-map}
use Rattle.writeback_table.specs.Commands.{ons, versions, versions_on}
use Rattle.output_commit.specs.Batches.{Batch, commands_in, versions_at, visible}
use Rattle.output_commit.specs.Laws.{versions_in}
use Rattle.replay_state.proofs.History.{updates_in, versions_first}
use Rattle.lemmas.proofs.Lists.{take_whole}
use Rattle.output_commit.proofs.VisibleVersions.{versions_from, versions_none}
use Rattle.writeback_table.proofs.Laws.{versions_count_the_bit-all}

first_versions : (bs : List Batch) (k : ℕ) → versions_first bs k ≡ versions (versions_at bs) k
first_versions bs zero = refl
first_versions [] (suc k) = sym (versions_none (suc k))
first_versions (b ∷ bs) (suc k) = ap (λ n. b.versions + n) (first_versions bs k) ∙ sym (versions_from (versions_at (b ∷ bs)) k)

first_most : (bs : List Batch) (k : ℕ) → versions_first bs k ≤ versions_in bs
first_most bs zero = omega arith
first_most [] (suc k) = omega arith
first_most (b ∷ bs) (suc k) = let r = first_most bs k in omega arith

first_all : (bs : List Batch) → versions_first bs (length bs) ≡ versions_in bs
first_all [] = refl
first_all (b ∷ bs) = ap (λ n. b.versions + n) (first_all bs)

pub visible_counts : (bs : List Batch) (n : ℕ) → visible bs n ≡ versions_first bs (ons (take n (commands_in bs)))
visible_counts bs n = sym (first_versions bs (ons (take n (commands_in bs))))

pub visible_total : (bs : List Batch) (n : ℕ) → visible bs n ≤ versions_in bs
visible_total bs n = let a = visible_counts bs n in let most = first_most bs (ons (take n (commands_in bs))) in omega arith

pub visible_all : (bs : List Batch) → visible bs (length (commands_in bs)) ≡ versions_in bs
visible_all bs =
    ap (versions_on (versions_at bs)) (take_whole (commands_in bs)) ∙ versions_count_the_bit-all (versions_at bs) (updates_in bs)
    ∙ ap (versions (versions_at bs)) (length-map bs (λ b. b.updates)) ∙ sym (first_versions bs (length bs)) ∙ first_all bs
