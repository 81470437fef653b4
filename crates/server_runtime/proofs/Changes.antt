-- The number of a put or a del says whether it took effect.
use Rattle.std.proofs.Common.{◌≡◌, ◌==◌, ℕ, Bool, true, false, [], ◌∷◌, map, length, get_or, Some, None, is_some, refl, sym, ap, if◌then◌else◌}
use Rattle.packet_fields.specs.declared.packet.Packet.{Packet}
use Rattle.state_store.specs.Store.{object_at, put_answer, Store, is_stored}
use Rattle.state_store.specs.Store as store
use Rattle.flat_ir.specs.Blocks.{Reading}
use Rattle.flat_ir.specs.Program.{Work}
use Rattle.flat_ir.specs.Program.Work.{look, put, del}
use Rattle.flat_ir.specs.Run.{change_of, made, results, Change}
use Rattle.server_runtime.specs.StepsTaken.{changed_by}

wanted_made : (first : ℕ) (live takes : Bool) (c : Change) → first ≡ length (made live (if takes then Some c else None))
    → (if first == 1 then made true (Some c) else []) ≡ made live (if takes then Some c else None)
wanted_made first true true c e = ap (λ n. if n == 1 then made true (Some c) else []) e
wanted_made first true false c e = ap (λ n. if n == 1 then made true (Some c) else []) e
wanted_made first false takes c e = ap (λ n. if n == 1 then made true (Some c) else []) e

none_made : (b live : Bool) → (if b then made true None else []) ≡ made live None
none_made true true = refl
none_made true false = refl
none_made false true = refl
none_made false false = refl

pub work_changed : (reads : Reading) (live : Bool) (st : Store) (packet : Packet) (work : Work) (number : ℕ)
    → results reads live st packet work ≡ number ∷ [] → changed_by reads number work ≡ made live (change_of reads st work)
work_changed reads live st packet (put object keys values) number e =
    wanted_made number live (is_stored (put_answer (object_at st object) (map reads keys))) (record { object = object; key = map reads keys; values = Some (map reads values) }) (sym (ap (λ l. get_or l 0 0) e))
work_changed reads live st packet (del object keys) number e =
    wanted_made number live (is_some (store.look (object_at st object) (map reads keys))) (record { object = object; key = map reads keys; values = None }) (sym (ap (λ l. get_or l 0 0) e))
work_changed reads live st packet _ number e = none_made (number == 1) live
