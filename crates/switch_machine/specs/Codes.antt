-- The code by which tables of a switch are told apart, so that they may be the value of a model.
use Rattle.std.specs.Prelude.{Bool, List, refl}
use Rattle.std.specs.Coded.{Coded, code_by, coded×, coded_bool, coded_list}
use Rattle.writeback_table.specs.Codes.{pair_code}
use Rattle.writeback_table.specs.Pair.{Pair}
use Rattle.switch_ir.specs.Tables.{Told}

abbrev pub told_code : Coded Told
told_code =
    code_by (List Pair × Bool) (coded× (coded_list pair_code) coded_bool) (λ t. (t.pairs, t.bit))
    (λ p. record { pairs = p.0; bit = p.1 }) (λ _. refl)
