-- A run leaves the constant tables.
use Rattle.std.proofs.Common.{◌≡◌, ◌≢◌, ℕ, zero, suc, Bool, true, false, List, map, Option, Some, None, is_some, refl, sym, ap, ◌∙◌, arith, if◌then◌else◌}
use Rattle.std.proofs.lemmas.Bool.{false≢true}
use Rattle.packet_fields.specs.declared.packet.Packet.{Packet}
use Rattle.state_store.specs.Store.{Object, Store, object_at, put_answer, put_row, del_row, is_stored}
use Rattle.state_store.specs.Store as store
use Rattle.state_store.specs.Laws.{IsChangedAlone}
use Rattle.flat_ir.specs.Program.{Program, Work, step_at}
use Rattle.flat_ir.specs.Program.Work.{look, put, del}
use Rattle.flat_ir.specs.Blocks.{Reading, is_live}
use Rattle.flat_ir.specs.Run.{change_of, made, with_changes, after}
use Rattle.flat_ir.specs.WellFormed.{IsWellFormed, WritesNoTable}
use Rattle.state_store.specs.Kinds.{is_constant}
use Rattle.flat_ir.specs.Laws.{KeepsTables}
use Rattle.flat_ir.proofs.FitParts.{writes_no_table}

module _ (alone : (st : Store) (number : ℕ) (object : Object) → IsChangedAlone st number object) where
  -- a change of one object leaves the others
  pub changed : (live b : Bool) (st : Store) (number object : ℕ) (key : List ℕ) (values : Option (List ℕ)) → number ≢ object → object_at (with_changes st (made live (if b then Some (record { object = object; key = key; values = values }) else None))) number ≡ object_at st number
  changed true true st number object key (Some values) ne = alone st object (put_row (object_at st object) key values) number ne
  changed true true st number object key None ne = alone st object (del_row (object_at st object) key) number ne
  changed true false st number object key values ne = refl
  changed false b st number object key values ne = refl

  pub unchanged : (live : Bool) (st : Store) → with_changes st (made live None) ≡ st
  unchanged true st = refl
  unchanged false st = refl

  pub differ : (f : Program) (number object : ℕ) → is_constant f.objects number ≡ true → is_constant f.objects object ≡ false → number ≢ object
  differ f number object is not e = false≢true (sym not ∙ ap (is_constant f.objects) (sym e) ∙ is)

  -- an instruction leaves each constant table
  pub step_keeps : (f : Program) (reads : Reading) (live : Bool) (st : Store) (number : ℕ) (work : Work) → is_constant f.objects number ≡ true → WritesNoTable f work → object_at (with_changes st (made live (change_of reads st work))) number ≡ object_at st number
  step_keeps f reads live st number (put object keys values) is not =
      changed live (is_stored (put_answer (object_at st object) (map reads keys))) st number object (map reads keys) (Some (map reads values)) (differ f number object is not)
  step_keeps f reads live st number (del object keys) is not =
      changed live (is_some (store.look (object_at st object) (map reads keys))) st number object (map reads keys) None (differ f number object is not)
  step_keeps f reads live st number _ is not = ap (λ s. object_at s number) (unchanged live st)

  pub keeps_tables : (f : Program) (st : Store) (packet : Packet) → IsWellFormed f → KeepsTables f st packet
  keeps_tables f st packet well number zero is le = refl
  keeps_tables f st packet well number (suc n) is le =
      step_keeps f (after f st packet n).reads (is_live f.blocks (after f st packet n).reads (step_at f n).block) (after f st packet n).store number (step_at f n).work is (writes_no_table f (step_at f n).work (well.fit n le))
      ∙ keeps_tables f st packet well number n is (omega (arith, le))
