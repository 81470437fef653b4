-- A whole run changes replicated objects no more often than there are writes to them.
use Rattle.std.proofs.Common.{◌≤◌, ℕ, zero, suc, Bool, true, false, List, length, map, Some, None, ap, arith, if◌then◌else◌, is_some}
use Rattle.std.proofs.lemmas.List.{length-append}
use Rattle.packet_fields.specs.declared.packet.Packet.{Packet}
use Rattle.state_store.specs.Store.{Store, object_at, put_answer, is_stored}
use Rattle.state_store.specs.Store as store
use Rattle.flat_ir.specs.Blocks.{Reading, is_live}
use Rattle.flat_ir.specs.Program.{Program, Work, step_at}
use Rattle.flat_ir.specs.Program.Work.{put, del}
use Rattle.flat_ir.specs.Run.{Change, after, change_of, made}
use Rattle.split_model.specs.declared.split.Part.{Part}
use Rattle.split_model.specs.Counts.{count_below}
use Rattle.split_model.specs.Shown.{is_replicated}
use Rattle.server_runtime.specs.Serving.{is_followed, updates_of}
use Rattle.server_runtime.proofs.Told.{picked_few, updates_append}

module _ (f : Program) (split : List Part) where
  none_few : (live : Bool) → length (updates_of f split (made live None)) ≤ 0
  none_few true = omega arith
  none_few false = omega arith

  -- a change that is made or is not
  made_few : (live takes : Bool) (c : Change) → length (updates_of f split (made live (if takes then Some c else None))) ≤ (if is_replicated f split c.object then 1 else 0)
  made_few true true c = picked_few (is_replicated f split c.object) c
  made_few true false c = omega arith
  made_few false takes c = omega arith

  work_few : (reads : Reading) (live : Bool) (st : Store) (work : Work)
      → length (updates_of f split (made live (change_of reads st work))) ≤ (if is_followed f split work then 1 else 0)
  work_few reads live st (put object keys values) =
      made_few live (is_stored (put_answer (object_at st object) (map reads keys))) (record { object = object; key = map reads keys; values = Some (map reads values) })
  work_few reads live st (del object keys) =
      made_few live (is_some (store.look (object_at st object) (map reads keys))) (record { object = object; key = map reads keys; values = None })
  work_few reads live st work = none_few live

  pub run_few : (st : Store) (packet : Packet) (n : ℕ) → length (updates_of f split (after f st packet n).changes) ≤ count_below n (λ i. is_followed f split (step_at f i).work)
  run_few st packet zero = omega arith
  run_few st packet (suc n) =
      let m = after f st packet n in
      let more = made (is_live f.blocks m.reads (step_at f n).block) (change_of m.reads m.store (step_at f n).work) in
      let old = run_few st packet n in
      let new = work_few m.reads (is_live f.blocks m.reads (step_at f n).block) m.store (step_at f n).work in
      omega (arith, ap length (updates_append f split m.changes more), length-append (updates_of f split m.changes) (updates_of f split more), old, new)
