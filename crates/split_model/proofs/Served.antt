-- The server's run hangs on what crosses up alone.
use Rattle.std.proofs.Common.{◌≡◌, true, false, ◌||◌, List, length, arith}
use Rattle.std.proofs.lemmas.Bool.{or_left, or_right}
use Rattle.packet_fields.specs.declared.packet.Packet.{Packet}
use Rattle.state_store.specs.Store.{Store}
use Rattle.flat_ir.specs.declared.program.ValueId.{ValueId}
use Rattle.flat_ir.specs.Blocks.{Reading}
use Rattle.flat_ir.specs.Laws.{Same}
use Rattle.flat_ir.specs.Program.{Program, is_named}
use Rattle.flat_ir.specs.WellFormed.{IsWellFormed}
use Rattle.split_model.specs.Crossing.{crosses_up, crosses_down, is_written_value}
use Rattle.split_model.specs.declared.split.Part.{Part}
use Rattle.split_model.specs.Laws.{IsServedAlike}
use Rattle.split_model.specs.Legal.{IsLegal}
use Rattle.split_model.specs.Passes.{IsHanded, served, server_run}
use Rattle.split_model.specs.Split.{is_post}
use Rattle.split_model.proofs.Crossings.{down_parts, written_parts}
use Rattle.split_model.proofs.ServerAlike.{server_does, claim, knows_all}
use Rattle.split_model.proofs.Sights.{named_within}

module _ (f : Program) (split : List Part) (st : Store) (packet : Packet) (up other : Reading) (well : IsWellFormed f) (legal : IsLegal f split) (handed : IsHanded (crosses_up f split) up other) where
  -- the numbers that it hands on
  on : (v : ValueId) → (crosses_down f split v || is_written_value f split v) ≡ true → (is_named f v ≡ true) × (is_post split v.instruction ≡ false) → Same (server_run f split other st packet).reads (server_run f split up st packet).reads v
  on v want parts =
      knows_all f split well legal packet st other up (served f split other st packet) (served f split up st packet) (server_does f split packet st other) (server_does f split packet st up) handed v (named_within f v parts.0) parts.0 parts.1 want

  pub served_alike : IsServedAlike f split st packet up other
  served_alike =
      let all = claim f split well legal packet st other up (served f split other st packet) (served f split up st packet) (server_does f split packet st other) (server_does f split packet st up) handed (length f.code) (omega arith) in
      record {
        store = all.1;
        changes = all.2;
        down = λ v e. on v (or_left (crosses_down f split v) (is_written_value f split v) e) (down_parts f split v e);
        written = λ v e. on v (or_right (crosses_down f split v) (is_written_value f split v) e) (written_parts f split v well e);
      }
