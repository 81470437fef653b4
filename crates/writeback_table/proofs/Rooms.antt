-- A command that finds no room changes nothing.
use Rattle.std.proofs.Common.{◌≡◌, ℕ, Bool, true, false, cond, List, refl, sym, ap, ◌∙◌}
use Rattle.std.specs.FinMap.{insert}
use Rattle.state_store.specs.Store.{Object, is_out, is_full, is_stored}
use Rattle.state_store.specs.declared.store.Put.TheVariants.{Stored, Full, OutOfRange}
use Rattle.writeback_table.specs.declared.command.Applied.{Applied}
use Rattle.writeback_table.specs.declared.command.Applied.TheVariants.{Done, NoRoom}
use Rattle.writeback_table.specs.declared.command.To.{To}
use Rattle.writeback_table.specs.declared.command.To.TheVariants.{Value, Gone}
use Rattle.writeback_table.specs.declared.command.Command.{Command}
use Rattle.writeback_table.specs.declared.command.Command.TheVariants.{Stage, Main}
use Rattle.writeback_table.specs.Pair.{Pair, change_to, takes_to, values_of, has_room, applied}

no_room : (b : Bool) → cond b Done NoRoom ≡ NoRoom → b ≡ false
no_room true e = cc
no_room false e = refl

not_put : (out full : Bool) (object stored : Object) → is_stored (cond out OutOfRange (cond full Full Stored)) ≡ false → cond out object (cond full object stored) ≡ object
not_put true full object stored e = refl
not_put false true object stored e = refl
not_put false false object stored e = cc

not_changed : (object : Object) (key : List ℕ) (to : To) → takes_to object key to ≡ false → change_to object key to ≡ object
not_changed object key (Value values) e = not_put (is_out object.kind object.size key) (is_full object key) object _ e
not_changed object key Gone e = cc

kept : (pair : Pair) (command : Command) → has_room pair command ≡ false → applied pair command ≡ pair
kept pair (Stage u) e = ap (λ b. record pair { staged = cond b (insert pair.staged u.key (values_of u.to)) pair.staged }) e
kept pair (Main u) e = ap (λ o. record pair { main = o }) (not_changed pair.main u.key u.to e)
kept pair _ e = cc

pub refused : (pair after : Pair) (command : Command) (answer : Applied) → answer ≡ cond (has_room pair command) Done NoRoom → after ≡ applied pair command → answer ≡ NoRoom → after ≡ pair
refused pair after command answer is then none = then ∙ kept pair command (no_room (has_room pair command) (sym is ∙ none))
