-- A run is its changes.
use Rattle.std.proofs.Common.{◌≡◌, ℕ, zero, suc, List, [], ◌∷◌, ◌++◌, length, refl, sym, ap, ◌∙◌}
use Rattle.packet_fields.specs.declared.packet.Packet.{Packet}
use Rattle.state_store.specs.Store.{Store}
use Rattle.flat_ir.specs.Program.{Program, step_at}
use Rattle.flat_ir.specs.Blocks.{is_live}
use Rattle.flat_ir.specs.Run.{Change, change_of, made, with_changes, with_values, after}
use Rattle.flat_ir.specs.Laws.{IsItsChanges}

pub changes_append : (st : Store) (xs ys : List Change) → with_changes st (xs ++ ys) ≡ with_changes (with_changes st xs) ys
changes_append st [] ys = refl
changes_append st (c ∷ xs) ys = changes_append (with_values st c.object c.key c.values) xs ys

so_far : (f : Program) (st : Store) (packet : Packet) (n : ℕ) → (after f st packet n).store ≡ with_changes st (after f st packet n).changes
so_far f st packet zero = refl
so_far f st packet (suc n) =
    let m = after f st packet n in
    let now = made (is_live f.blocks m.reads (step_at f n).block) (change_of m.reads m.store (step_at f n).work) in
    ap (λ s. with_changes s now) (so_far f st packet n) ∙ sym (changes_append st m.changes now)

pub is_its_changes : (f : Program) (st : Store) (packet : Packet) → IsItsChanges f st packet
is_its_changes f st packet = so_far f st packet (length f.code)
