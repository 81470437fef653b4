-- Only proofs need this. How the registers and the store of a run stand.
use Rattle.std.specs.Prelude.{◌≡◌, ℕ, []}
use Rattle.packet_fields.specs.declared.packet.Packet.{Packet}
use Rattle.state_store.specs.Store.{Store}
use Rattle.flat_ir.specs.declared.program.ValueId.{ValueId}
use Rattle.flat_ir.specs.Program.{Program, step_at}
use Rattle.flat_ir.specs.Blocks.{Reading, is_live}
use Rattle.flat_ir.specs.Run.{Machine, do_step}

-- they are those of a machine
pub record StandAs (m : Machine) (reads : Reading) (st : Store) : Type 0 where
  pub values : (v : ValueId) → reads v ≡ m.reads v
  pub store : st ≡ m.store

-- the turn of instruction i, from these registers and this store
abbrev pub turn : Program → Packet → ℕ → Reading → Store → Machine
turn f packet i reads st =
    do_step (is_live f.blocks reads (step_at f i).block) packet i (step_at f i).work
    (record { reads = reads; store = st; changes = [] })
