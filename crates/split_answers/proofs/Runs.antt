-- What a whole run does to an object that the switch keeps, as the switch is told of it.
use Rattle.std.proofs.Common.{◌≡◌, ◌≤◌, ◌<◌, ℕ, zero, suc, true, List, length, sym, subst, arith}
use Rattle.packet_fields.specs.declared.packet.Packet.{Packet}
use Rattle.state_store.specs.Store.{Store, object_at}
use Rattle.flat_ir.specs.Program.{Program, step_at}
use Rattle.flat_ir.specs.Blocks.{is_live}
use Rattle.flat_ir.specs.Run.{Change, Machine, after, made, change_of}
use Rattle.split_model.specs.declared.split.Part.{Part}
use Rattle.split_model.specs.Counts.{count_below}
use Rattle.split_model.specs.Shown.{is_replicated, writes_to}
use Rattle.server_runtime.specs.Serving.{updates_of}
use Rattle.split_answers.proofs.Follows.{Follows, follows_both, none_follow}
use Rattle.split_answers.proofs.Turns.{turn_goes}
use Rattle.server_runtime.proofs.Told.{updates_append}

module _ (f : Program) (split : List Part) (st : Store) (packet : Packet) where
  abbrev m : ℕ → Machine
  m = after f st packet

  -- the changes of instruction n
  abbrev new : ℕ → List Change
  new n = made (is_live f.blocks (m n).reads (step_at f n).block) (change_of (m n).reads (m n).store (step_at f n).work)

  pub run_follows : (o : ℕ) → is_replicated f split o ≡ true → ((n : ℕ) → n ≤ length f.code → o < length (m n).store)
      → (n : ℕ) → n ≤ length f.code
      → Follows o (object_at st o) (object_at (m n).store o) (updates_of f split (m n).changes)
      (count_below n (λ i. writes_to o (step_at f i).work))
  run_follows o shown within zero le = none_follow o (object_at st o) 0
  run_follows o shown within (suc n) le =
      let so_far = run_follows o shown within n (omega (arith, le)) in
      let turn = turn_goes f split (m n).store o shown (within n (omega (arith, le))) (m n).reads
      (is_live f.blocks (m n).reads (step_at f n).block) (step_at f n).work in
      subst
      (λ us. Follows o (object_at st o) (object_at (m (suc n)).store o) us
      (count_below (suc n) (λ i. writes_to o (step_at f i).work)))
      (sym (updates_append f split (m n).changes (new n)))
      (follows_both o (object_at st o) (object_at (m n).store o) (object_at (m (suc n)).store o)
      (updates_of f split (m n).changes) (updates_of f split (new n)) _ _ so_far turn)
