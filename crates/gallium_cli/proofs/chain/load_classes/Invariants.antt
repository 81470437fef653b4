use Rattle.std.proofs.Common.{◌≡◌, ◌-◌, ◌≤◌, IsTrue, length, map, take, vec_len}
use Rattle.std.specs.List.{All}
use Rattle.element_lang.specs.View.{tree}
use Rattle.element_lang.specs.Accepted.{HasNames}
use Rattle.element_lang.specs.Rules.{is_good}
use Rattle.gallium_cli.specs.declared.status.Status.TheVariants as statuses
use Rattle.gallium_cli.specs.Loads.{LeavesFiles}
use Rattle.gallium_cli.specs.Chains.{AreClasses, class_files}
use Rattle.gallium_cli.specs.Causes.{reads_after}
use Rattle.gallium_cli.proofs.chain.load_classes.Given as goal

-- those of the first elements are there, and their files were read
abbrev pub invariant-loop-alloc : goal.invariant-loop-alloc
invariant-loop-alloc g l =
    let first = g.F.Files.seen l.initial.files in
    let now = g.F.Files.seen l.files in
    let known = l.classes.items in
    record {
      within : length known ≤ length l.elements;
      are : AreClasses first.told (take (length known) l.elements) (map tree known);
      good : All (λ m. IsTrue (is_good (tree m))) known;
      names : All (λ m. HasNames (tree m)) known;
      goes : LeavesFiles statuses.Done first now;
      reads : now.reads ≡ reads_after (class_files (take (length known) l.elements)) first.reads;
    }

abbrev pub decreases-loop-alloc : goal.decreases-loop-alloc
decreases-loop-alloc g l = length l.elements - vec_len l.classes
