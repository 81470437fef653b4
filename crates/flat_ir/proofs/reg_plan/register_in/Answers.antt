use Rattle.std.proofs.Common.{◌≡◌, ◌<◌, ◌^◌, ℕ, List, slice_index, Some, sym, ap, arith, [], ◌∷◌}
use Rattle.std.specs.Option.{option_map}
use Rattle.std.specs.FinMap as map
use Rattle.slot_table.specs.Table.{Contents}
use Rattle.flat_ir.specs.Plan.{AreBelow}
use Rattle.flat_ir.proofs.reg_plan.register_in.Goals as goal

-- the first word of what was found is a register
below : (rows : Contents) (count value : ℕ) (words : List ℕ) → AreBelow rows count → Some words ≡ map.get rows (value ∷ []) → slice_index words 0 < count
below rows count value words all found = all value (slice_index words 0) (ap (option_map (λ found_words. slice_index found_words 0)) (sym found))

pub overflow_cast-result : goal.overflow_cast-result
overflow_cast-result c =
    let lt = below c.args.registers.now.rows (2 ^ 32) c.args.value c.in_ok-words.words c.requires c.in_ok-words.ensures in omega (arith, lt)
