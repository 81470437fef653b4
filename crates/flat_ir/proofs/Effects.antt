-- What a put or a del without effect gives.
use Rattle.std.proofs.Common.{◌≡◌, Bool, false, length, [], ◌∷◌, refl, sym, ap}
use Rattle.packet_fields.specs.declared.packet.Packet.{Packet}
use Rattle.state_store.specs.Store.{Store}
use Rattle.flat_ir.specs.Blocks.{Reading}
use Rattle.flat_ir.specs.Program.{Work}
use Rattle.flat_ir.specs.Program.Work.{put, del}
use Rattle.flat_ir.specs.Run.{change_of, made, results}

-- an instruction that changes nothing gives what it gives in a block that isn't live
pub no_effect : (reads : Reading) (live : Bool) (st : Store) (packet : Packet) (work : Work) → 0 ≡ length (made live (change_of reads st work))
    → results reads live st packet work ≡ results reads false st packet work
no_effect reads live st packet (put object keys values) e = ap (λ n. n ∷ []) (sym e)
no_effect reads live st packet (del object keys) e = ap (λ n. n ∷ []) (sym e)
no_effect reads live st packet _ e = refl
