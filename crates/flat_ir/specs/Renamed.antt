-- What instructions give whose operands have other names. These are lemmas for the crates that rename operands.
use Rattle.std.proofs.Common.{◌≡◌, ◌≤◌, suc, Bool, List, [], ◌∷◌, map, length, refl, sym, subst, ap, ◌∙◌}
use Rattle.gal_bits.specs.Operators.{value_of as operator_value}
use Rattle.packet_fields.specs.declared.packet.Packet.{Packet}
use Rattle.state_store.specs.Store.{Store}
use Rattle.flat_ir.specs.declared.program.ValueId.{ValueId}
use Rattle.flat_ir.specs.Program.{Work}
use Rattle.flat_ir.specs.Program.Work.{apply, look, put, del}
use Rattle.flat_ir.specs.Blocks.{Reading}
use Rattle.flat_ir.specs.Operands.{CanRun}
use Rattle.flat_ir.specs.Run.{change_of, del_change, looked, made, put_change, results}
use Rattle.flat_ir.specs.Renaming.{renamed}

names_read : (name : ValueId → ValueId) (r : Reading) (vs : List ValueId) → map r (map name vs) ≡ map (λ v. r (name v)) vs
names_read name r [] = refl
names_read name r (v ∷ vs) = ap (λ ns. r (name v) ∷ ns) (names_read name r vs)

as_many : (name : ValueId → ValueId) (vs : List ValueId) → length (map name vs) ≡ length vs
as_many name [] = refl
as_many name (v ∷ vs) = ap (λ n. suc n) (as_many name vs)

pub renamed_changes : (name : ValueId → ValueId) (r : Reading) (st : Store) (work : Work)
    → change_of r st (renamed name work) ≡ change_of (λ v. r (name v)) st work
renamed_changes name r st (put object keys values) =
    ap (λ ks. put_change st object ks (map r (map name values))) (names_read name r keys)
    ∙ ap (λ vs. put_change st object (map (λ v. r (name v)) keys) vs) (names_read name r values)
renamed_changes name r st (del object keys) = ap (λ ks. del_change st object ks) (names_read name r keys)
renamed_changes name r st _ = refl

pub renamed_results : (name : ValueId → ValueId) (r : Reading) (live : Bool) (st : Store) (packet : Packet) (work : Work)
    → results r live st packet (renamed name work) ≡ results (λ v. r (name v)) live st packet work
renamed_results name r live st packet (apply op width args) = ap (λ ns. operator_value op width ns ∷ []) (names_read name r args)
renamed_results name r live st packet (look object keys) = ap (λ ks. looked st object ks) (names_read name r keys)
renamed_results name r live st packet (put object keys values) =
    ap (λ change. length (made live change) ∷ []) (renamed_changes name r st (put object keys values))
renamed_results name r live st packet (del object keys) =
    ap (λ change. length (made live change) ∷ []) (renamed_changes name r st (del object keys))
renamed_results name r live st packet _ = refl

pub renamed_can : (name : ValueId → ValueId) (work : Work) → CanRun work → CanRun (renamed name work)
renamed_can name (apply op width args) can =
    (as_many name args ∙ can.0, subst (λ n. n ≤ 8) (sym (as_many name args)) can.1)
renamed_can name (look object keys) can = subst (λ n. n ≤ 8) (sym (as_many name keys)) can
renamed_can name _ can = can
