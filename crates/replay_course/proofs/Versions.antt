-- The versions and the changes of batches, and how many commands these have.
use Rattle.std.proofs.Common.{◌≡◌, ◌≤◌, ◌+◌, ◌*◌, ℕ, List, [], ◌∷◌, ◌++◌, refl, ◌∙◌, ap, arith, length, length-append, map}
use Rattle.writeback_table.specs.declared.command.Command.TheVariants.{Stage, On, Main, Off}
use Rattle.writeback_table.specs.declared.command.Update.{Update}
use Rattle.writeback_table.specs.Commands.{clear_of, commands_of, ons, versions}
use Rattle.output_commit.specs.Commit.{batch_of}
use Rattle.server_runtime.specs.Serving.{version_after}
use Rattle.output_commit.specs.Batches.{Batch, commands_in, versions_at, visible}
use Rattle.output_commit.specs.Laws.{changes_in, versions_in}
use Rattle.std.proofs.lemmas.List.{length-map}
use Rattle.lemmas.proofs.Lists.{take_past}
use Rattle.output_commit.proofs.Calls.{changes_one}
use Rattle.output_commit.proofs.MergedBatches.{push_changes, push_commands, push_versions}
use Rattle.output_commit.proofs.VisibleVersions.{versions_from}
use Rattle.writeback_table.proofs.Histories.{batch_ons, ons_append}

-- ---- each batch makes one version

ons_all : (bs : List Batch) → ons (commands_in bs) ≡ length bs
ons_all [] = refl
ons_all (b ∷ bs) =
    let join = ons_append (commands_of b.updates) (commands_in bs) in let one = batch_ons b.updates in let rest = ons_all bs in omega arith

versions_sum : (bs : List Batch) → versions (versions_at bs) (length bs) ≡ versions_in bs
versions_sum [] = refl
versions_sum (b ∷ bs) = versions_from (versions_at (b ∷ bs)) (length bs) ∙ ap (λ n. b.versions + n) (versions_sum bs)

-- behind all commands all versions are visible
pub visible_past : (bs : List Batch) (n : ℕ) → length (commands_in bs) ≤ n → visible bs n ≡ versions_in bs
visible_past bs n h =
    ap (λ cs. versions (versions_at bs) (ons cs)) (take_past (commands_in bs) n h)
    ∙ ap (versions (versions_at bs)) (ons_all bs) ∙ versions_sum bs

-- ---- a batch more

pub length_more : (xs ys : List Batch) → length (commands_in (xs ++ ys)) ≡ length (commands_in xs) + length (commands_in ys)
length_more xs ys = ap length (push_commands xs ys) ∙ length-append (commands_in xs) (commands_in ys)

pub changes_more : (bs : List Batch) (us : List Update) → changes_in (bs ++ batch_of us) ≡ changes_in bs ++ us
changes_more bs us = push_changes bs (batch_of us) ∙ ap (λ l. changes_in bs ++ l) (changes_one us)

pub version_more : (version : ℕ) (bs : List Batch) (us : List Update) → version ≡ versions_in bs
    → version_after version us ≡ versions_in (bs ++ batch_of us)
version_more version bs [] is = let r = push_versions bs [] in omega arith
version_more version bs (u ∷ us) is = let r = push_versions bs (batch_of (u ∷ us)) in omega arith

pub version_next : (version : ℕ) (updates : List Update) → version_after version updates ≤ version + 1
version_next version [] = omega arith
version_next version (u ∷ us) = omega arith

pub before_next : (version : ℕ) (updates : List Update) (need : ℕ) → need ≤ version → need ≤ version_after version updates
before_next version [] need h = h
before_next version (u ∷ us) need h = omega arith

pub batch_count : (updates : List Update) (w : ℕ) → length updates ≤ w → length (commands_in (batch_of updates)) ≤ 3 * w + 2
batch_count [] w few = omega arith
batch_count (u ∷ us) w few =
    let alone = length-append (commands_of (u ∷ us)) [] in
    let n = length-map (u ∷ us) (λ (v : Update). Stage v) in
    let m = length-map (u ∷ us) (λ (v : Update). Main v) in
    let k = length-map (u ∷ us) clear_of in
    let last = length-append (map (λ (v : Update). Main v) (u ∷ us)) (Off ∷ map clear_of (u ∷ us)) in
    let all = length-append (map (λ (v : Update). Stage v) (u ∷ us)) (On ∷ (map (λ (v : Update). Main v) (u ∷ us) ++ (Off ∷ map clear_of (u ∷ us)))) in
    omega arith
