-- Commands of batches name what the changes of these name.
use Rattle.std.proofs.Common.{Bool, true, false, List, [], ◌∷◌, ◌++◌, map, refl}
use Rattle.std.specs.Prelude.{IsTrue, ◌&&◌}
use Rattle.std.specs.List.{AllByRecursion as Each}
use Rattle.state_store.specs.Kept.{have_widths}
use Rattle.switch_ir.specs.Code.{Code}
use Rattle.switch_ir.specs.Port.{IsCommandOf, IsUpdateOf}
use Rattle.writeback_table.specs.declared.command.Command.{Command}
use Rattle.writeback_table.specs.declared.command.Command.TheVariants.{Stage, On, Main, Off}
use Rattle.writeback_table.specs.declared.command.Update.{Update}
use Rattle.writeback_table.specs.Commands.{clear_of, commands_of}
use Rattle.writeback_table.specs.Widths.{has_value_widths}
use Rattle.output_commit.specs.Batches.{Batch, commands_in}
use Rattle.output_commit.specs.Laws.{changes_in}
use Rattle.lemmas.proofs.Lists.{each_append, each_map, each_weaker}

parts : {X : Type 0} (P : X → Type 0) (xs ys : List X) → Each P (xs ++ ys) → Each P xs × Each P ys
parts P [] ys h = (tt, h)
parts P (x ∷ xs) ys h = let r = parts P xs ys h.1 in ((h.0, r.0), r.1)

-- what holds of each change leads to what holds of each of its commands
module _ (P : Command → Type 0) (Q : Update → Type 0) (stage : (u : Update) → Q u → P (Stage u)) (main : (u : Update) → Q u → P (Main u))
    (clear : (u : Update) → Q u → P (clear_of u)) (on : P On) (off : P Off) where
  each_command : (us : List Update) → Each Q us → Each P (commands_of us)
  each_command us fit =
      each_append P (map (λ u. Stage u) us) _ (each_map P (λ u. Stage u) us (each_weaker Q (λ u. P (Stage u)) stage us fit)) (
        on,
        each_append P (map (λ u. Main u) us) _ (each_map P (λ u. Main u) us (each_weaker Q (λ u. P (Main u)) main us fit))
            (off, each_map P clear_of us (each_weaker Q (λ u. P (clear_of u)) clear us fit)),
      )

  pub commands_each : (bs : List Batch) → Each Q (changes_in bs) → Each P (commands_in bs)
  commands_each [] h = tt
  commands_each (b ∷ bs) h =
      let p = parts Q b.updates (changes_in bs) h in
      each_append P (commands_of b.updates) (commands_in bs) (each_command b.updates p.0) (commands_each bs p.1)

both : (a b : Bool) → IsTrue (a && b) → IsTrue a
both true b h = refl
both false b h = h

pub commands_named : (code : Code) (bs : List Batch) → Each (IsUpdateOf code) (changes_in bs) → Each (IsCommandOf code) (commands_in bs)
commands_named code bs h =
    commands_each (IsCommandOf code) (IsUpdateOf code) (λ u one. one) (λ u one. one)
    (λ u one. (one.0, one.1, both (have_widths one.0.keys u.key) (has_value_widths one.0 u.to) one.2)) tt tt bs h
