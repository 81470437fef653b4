-- What is told of a replay over a port that tells its tables, and what it promises.
use Rattle.std.proofs.Common.{◌≡◌, ℕ, Bool, true, false, cond, suc, List, [], ◌∷◌, Some, None, refl, ◌∙◌}
use Rattle.std.specs.Prelude.{is_some}
use Rattle.packet_fields.specs.declared.verdict.Verdict.{Verdict}
use Rattle.state_store.specs.declared.object.ObjectDecl.{ObjectDecl}
use Rattle.state_store.specs.Store.{Store, object_at, rows_of}
use Rattle.writeback_table.specs.Pair.{visible_rows, first_pair}
use Rattle.run_model.specs.Parts.{parts_where}
use Rattle.switch_ir.specs.Tables.{Told, pair_at}
use Rattle.replay_state.specs.Run.{seen_store}
use Rattle.output_commit.specs.Batches.{commands_in}
use Rattle.replay_state.specs.State.{State, applied_commands}
use Rattle.replay_state.specs.Tables.{LookupsShow}
use Rattle.replay_contracts.specs.Inputs.{Inputs, setup_for}
use Rattle.replay_contracts.specs.Promise.{told_parts}
use Rattle.split_answers.specs.UnderWay.{AreShown}
use Rattle.split_answers.proofs.Tells.{seen_first}

module _ (test : ℕ → Bool) (tables : Told) (store : Store) (rows : (o : ℕ) → test o ≡ true → visible_rows tables.bit (pair_at tables.pairs o) ≡ rows_of (object_at store o)) where
  one_part : (n : ℕ) (o : ObjectDecl) (os : List ObjectDecl) (b : Bool) → test n ≡ b → told_parts test tables (suc n) os ≡ parts_where test (suc n) os store
      → told_parts test tables n (o ∷ os) ≡ parts_where test n (o ∷ os) store
  one_part n o os true holds rest = let same = rows n holds in rw holds (λ i. (record { object = n; rows = same i }) ∷ rest i)
  one_part n o os false fails rest = rw fails rest

  pub parts_same : (n : ℕ) (objects : List ObjectDecl) → told_parts test tables n objects ≡ parts_where test n objects store
  parts_same n [] = refl
  parts_same n (o ∷ os) = one_part n o os (test n) refl (parts_same (suc n) os)

pub seen_of : (x : Inputs) (st : State) → LookupsShow (setup_for x) st (seen_store st)
    → AreShown x.program x.split x.writeback (applied_commands st) (seen_store st)
seen_of x st shows o rep = seen_first o (first_pair x.program.objects x.writeback o) (commands_in st.batches) st.done ∙ shows o rep

pub some_where : (b : Bool) (y : Verdict) → is_some (cond b (Some y) None) ≡ b
some_where true y = refl
some_where false y = refl
