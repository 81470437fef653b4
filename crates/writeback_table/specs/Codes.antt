-- The codes by which pairs of tables are told apart, so that they may be the value of a model.
use Rattle.std.specs.Prelude.{ℕ, refl}
use Rattle.std.specs.Coded.{Coded, code_by, coded×, coded_ℕ, coded_list, coded_option}
use Rattle.std.specs.FinMap as map
use Rattle.state_store.specs.Codes.{object_code}
use Rattle.state_store.specs.Store.{Object}
use Rattle.writeback_table.specs.Pair.{Pair, Staged}
use Rattle.writeback_table.specs.Staging.{WriteBack}

abbrev pub staged_code : Coded Staged
staged_code = map.code (coded_list coded_ℕ) (coded_option (coded_list coded_ℕ))

-- a write-back table, and a pair, as their fields
abbrev pub write_back_code : Coded WriteBack
write_back_code =
    code_by (Staged × ℕ) (coded× staged_code coded_ℕ) (λ t. (t.rows, t.room))
    (λ p. record { rows = p.0; room = p.1 }) (λ _. refl)

abbrev pub pair_code : Coded Pair
pair_code =
    code_by (Object × (Staged × ℕ)) (coded× object_code (coded× staged_code coded_ℕ))
    (λ p. (p.main, (p.staged, p.room))) (λ q. record { main = q.0; staged = q.1.0; room = q.1.1 }) (λ _. refl)
