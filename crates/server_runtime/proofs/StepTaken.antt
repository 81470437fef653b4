-- What an instruction that the server evaluates leaves.
use Rattle.std.proofs.Common.{◌≡◌, ℕ, Bool, List, [], ◌∷◌, ◌++◌, sym, ap, ◌∙◌}
use Rattle.packet_fields.specs.declared.packet.Packet.{Packet}
use Rattle.state_store.specs.Store.{Store}
use Rattle.flat_ir.specs.Blocks.{is_live}
use Rattle.flat_ir.specs.Program.{step_at, Program, Step}
use Rattle.flat_ir.specs.Run.{change_of, do_step, made, results, with_changes, Machine}
use Rattle.flat_ir.specs.Turns.{turn}
use Rattle.split_model.specs.declared.split.Part.{Part}
use Rattle.transfer_header.specs.Registers.{Registers}
use Rattle.writeback_table.specs.declared.command.Update.{Update}
use Rattle.server_runtime.specs.Registers.{register_reads, with_row}
use Rattle.server_runtime.specs.Serving.{updates_of}
use Rattle.server_runtime.specs.StepsTaken.{changed_by, IsStepTaken}
use Rattle.server_runtime.proofs.Changes.{work_changed}

module _ (f : Program) (split : List Part) (packet : Packet) (i : ℕ) (registers : Registers) (st : Store) where
  abbrev live_at : Step → Bool
  live_at s = is_live f.blocks (register_reads f registers) s.block

  -- the turn of this instruction
  abbrev turn_of : Step → Machine
  turn_of s = do_step (live_at s) packet i s.work (record { reads = register_reads f registers; store = st; changes = [] })

  -- what the switch is told of an instruction that gave this number
  pub room_for : (s : Step) (number : ℕ) → s ≡ step_at f i → results (register_reads f registers) (live_at s) st packet s.work ≡ number ∷ []
      → updates_of f split (changed_by (register_reads f registers) number s.work) ≡ updates_of f split (turn f packet i (register_reads f registers) st).changes
  room_for s number is gives =
      ap (updates_of f split) (work_changed (register_reads f registers) (live_at s) st packet s.work number gives) ∙ ap (λ (t : Step). updates_of f split (turn_of t).changes) is

  pub number_turned : (s : Step) (number : ℕ) (after : Registers) (st' : Store) (told told' : List Update) → s ≡ step_at f i
      → results (register_reads f registers) (live_at s) st packet s.work ≡ number ∷ []
      → st' ≡ with_changes st (made (live_at s) (change_of (register_reads f registers) st s.work))
      → after ≡ with_row f i (number ∷ []) registers
      → told' ≡ told ++ updates_of f split (changed_by (register_reads f registers) number s.work)
      → IsStepTaken f split packet i registers st after st' told told'
  number_turned s number after st' told told' is gives leaves sets tells = record {
    registers = sets ∙ ap (λ rs. with_row f i rs registers) (sym gives)
        ∙ ap (λ (t : Step). with_row f i (results (register_reads f registers) (live_at t) st packet t.work) registers) is;
    store = leaves ∙ ap (λ (t : Step). (turn_of t).store) is;
    told = tells ∙ ap (λ l. told ++ l) (room_for s number is gives);
  }
