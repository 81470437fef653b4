-- The objects that commands name have numbers below 64.
use Rattle.std.proofs.Common.{◌≡◌, ◌<◌, ◌+◌, ◌-◌, ℕ, zero, suc, Bool, true, false, cond, List, [], ◌∷◌, ◌++◌, length, refl, Option, Some, None, arith}
use Rattle.std.specs.Prelude.{◌==◌, IfSome, slice_get}
use Rattle.std.specs.List.{AllByRecursion as Each}
use Rattle.std.proofs.lemmas.Bool.{eqb-true}
use Rattle.state_store.specs.declared.object.ObjectDecl.{ObjectDecl}
use Rattle.flat_ir.specs.Program.{Program}
use Rattle.split_model.specs.Bounds.{IsBounded}
use Rattle.split_model.specs.declared.split.Part.{Part}
use Rattle.switch_ir.specs.declared.code.Table.{Table}
use Rattle.switch_ir.specs.Emitted.{is_looked_up, tables_from}
use Rattle.switch_ir.specs.Port.{IsUpdateOf, PortState}
use Rattle.switch_ir.specs.Tables.{declared_at}
use Rattle.writeback_table.specs.declared.command.Command.{Command}
use Rattle.writeback_table.specs.declared.command.Update.{Update}
use Rattle.lossy_link.specs.CommandBytes.{NamesBelow}
use Rattle.output_commit.specs.Batches.{commands_in}
use Rattle.output_commit.specs.Commit.{last_sent}
use Rattle.output_commit.specs.Laws.{changes_in}
use Rattle.replay_contracts.specs.Inputs.{Inputs, code_for}
use Rattle.replay_course.specs.declared.course.Course.{Course}
use Rattle.replay_course.specs.Going.{CanGoOn}
use Rattle.replay_course.proofs.Named.{commands_each}
use Rattle.lemmas.proofs.Lists.{each_weaker}

-- ---- the objects of the code

low_at : (k o n : ℕ) (b : Bool) (found rest : Option ObjectDecl) (d : ObjectDecl) → (k == o) ≡ b → 0 < n → (rest ≡ Some d → o < k + n)
    → cond b found rest ≡ Some d → o < k + n
low_at k o n true found rest d here some behind is = let same : k ≡ o = eqb-true k o here in omega (arith, same, some)
low_at k o n false found rest d here some behind is = behind is

in_front : (b : Bool) (k o n : ℕ) (x : ObjectDecl) (ts : List Table) (d : ObjectDecl) → 0 < n → (declared_at ts o ≡ Some d → o < k + n)
    → declared_at (cond b (record { number = k; object = x } ∷ []) [] ++ ts) o ≡ Some d → o < k + n
in_front true k o n x ts d some behind is = low_at k o n (k == o) (Some x) (declared_at ts o) d refl some behind is
in_front false k o n x ts d some behind is = behind is

declared_low : (f : Program) (split : List Part) (ds : List ObjectDecl) (k o : ℕ) (d : ObjectDecl)
    → declared_at (tables_from f split k ds) o ≡ Some d → o < k + length ds
declared_low f split [] k o d is = absurd cc
declared_low f split (x ∷ ds) k o d is =
    in_front (is_looked_up f split k) k o (suc (length ds)) x (tables_from f split (suc k) ds) d (omega arith)
    (λ there. let low = declared_low f split ds (suc k) o d there in omega (arith, low)) is

-- an object of a change of the code
update_low : (x : Inputs) (u : Update) → IsBounded x.program → IsUpdateOf (code_for x) u → u.object < 64
update_low x u bounded fit =
    let low = declared_low x.program x.split x.program.objects 0 u.object fit.0 fit.1.declared in
    omega (arith, low, bounded.objects)

-- ---- the commands of batches

abbrev Low : Update → Type 0
Low u = u.object < 64

abbrev Named : Command → Type 0
Named command = NamesBelow 64 command

-- ---- the last command that was sent

each_at : (commands : List Command) (n : ℕ) → Each Named commands → IfSome (slice_get commands n) Named
each_at [] n all = tt
each_at (c ∷ commands) zero all = all.0
each_at (c ∷ commands) (suc n) all = each_at commands n all.1

unless : (b : Bool) (o : Option Command) → IfSome o Named → IfSome (cond b None o) Named
unless true o some = tt
unless false o some = some

pub last_named : (x : Inputs) (c : Course) (port : PortState) → CanGoOn x c port → IfSome (last_sent c.commit) (NamesBelow 64)
last_named x c port going =
    let low = each_weaker (IsUpdateOf (code_for x)) Low (λ u fit. update_low x u going.prepared.ready.split.bounded fit) (changes_in c.commit.batches)
    going.sound.updates in
    unless (c.commit.sent == 0) (slice_get (commands_in c.commit.batches) (c.commit.sent - 1))
    (each_at (commands_in c.commit.batches) (c.commit.sent - 1)
    (commands_each Named Low (λ u one. one) (λ u one. one) (λ u one. one) tt tt c.commit.batches low))
