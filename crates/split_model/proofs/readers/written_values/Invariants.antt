use Rattle.std.proofs.Common.{length, take}
use Rattle.std.specs.List.{list_any}
use Rattle.split_model.specs.Marked.{AreMarked, is_set_to}
use Rattle.split_model.proofs.readers.written_values.Given as goal

abbrev pub invariant-loop-written : goal.invariant-loop-written
invariant-loop-written l =
    AreMarked (length l.f.code) (λ v. list_any (λ w. is_set_to l.s w v) (take l.written-index l.f.out.fields.items)) l.set
