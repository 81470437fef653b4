-- Readings that agree on what an instruction reads make the same of it.
use Rattle.std.proofs.Common.{◌≡◌, ℕ, zero, suc, Bool, cond, List, [], ◌∷◌, ◌++◌, sym, ap, ◌∙◌}
use Rattle.std.specs.List.{AllByRecursion as Each}
use Rattle.packet_fields.specs.declared.packet.Packet.{Packet}
use Rattle.state_store.specs.Store.{Store}
use Rattle.flat_ir.specs.declared.program.ValueId.{ValueId}
use Rattle.flat_ir.specs.Blocks.{is_live, line, Reading}
use Rattle.flat_ir.specs.Kinds.{is_write}
use Rattle.flat_ir.specs.Laws.{Same, SameFor}
use Rattle.flat_ir.specs.Program.{operands, step_at, Program, Work}
use Rattle.flat_ir.specs.Program.Work.{put, del}
use Rattle.flat_ir.specs.Run.{change_of, made, results, with_changes}
use Rattle.flat_ir.specs.Turns.{turn}
use Rattle.flat_ir.specs.WellFormed.{EachCondition}
use Rattle.server_runtime.specs.Running.{row_of}
use Rattle.server_runtime.specs.Spans.{conditions_of, values_read}
use Rattle.flat_ir.proofs.Laws.{readings_that_agree-changes, readings_that_agree-live, readings_that_agree-operands, readings_that_agree-results}
use Rattle.split_model.proofs.Sights.{none_made}

pub each_left : (P : ValueId → Type 0) (xs ys : List ValueId) → Each P (xs ++ ys) → Each P xs
each_left P [] ys h = tt
each_left P (x ∷ xs) ys h = (h.0, each_left P xs ys h.1)

pub each_right : (P : ValueId → Type 0) (xs ys : List ValueId) → Each P (xs ++ ys) → Each P ys
each_right P [] ys h = h
each_right P (x ∷ xs) ys h = each_right P xs ys h.1

-- the same results, changes and store
pub record IsTurnedAlike (f : Program) (packet : Packet) (i : ℕ) (st : Store) (r r' : Reading) : Type 0 where
  pub row : row_of f packet i r st ≡ row_of f packet i r' st
  pub changes : (turn f packet i r st).changes ≡ (turn f packet i r' st).changes
  pub store : (turn f packet i r st).store ≡ (turn f packet i r' st).store

module _ (f : Program) (packet : Packet) (st : Store) (r r' : Reading) where
  conditions_same : (ks : List ℕ) → Each (Same r r') (conditions_of f ks) → Each (EachCondition f (Same r r')) ks
  conditions_same [] h = tt
  conditions_same (zero ∷ ks) h = (tt, conditions_same ks h)
  conditions_same (suc k ∷ ks) h = (h.0, conditions_same ks h.1)

  abbrev live_at : Reading → ℕ → Bool
  live_at reads block = is_live f.blocks reads block

  abbrev IsWorkedAlike : Work → ℕ → Type 0
  IsWorkedAlike work block = (results r (live_at r block) st packet work ≡ results r' (live_at r' block) st packet work)
      × (made (live_at r block) (change_of r st work) ≡ made (live_at r' block) (change_of r' st work))

  write_alike : (work : Work) (block : ℕ) → Each (Same r r') (operands work ++ conditions_of f (line f.blocks block)) → IsWorkedAlike work block
  write_alike work block h =
      let conditions = conditions_of f (line f.blocks block) in
      let same = readings_that_agree-operands r r' work (each_left (Same r r') (operands work) conditions h) in
      let live = readings_that_agree-live f r r' block (conditions_same (line f.blocks block) (each_right (Same r r') (operands work) conditions h)) in (
        readings_that_agree-results r r' (live_at r block) st packet work same ∙ ap (λ b. results r' b st packet work) live,
        ap (made (live_at r block)) (readings_that_agree-changes r r' st work same) ∙ ap (λ b. made b (change_of r' st work)) live,
      )

  same_work : (work : Work) (more : List ValueId) → Each (Same r r') (operands work ++ more) → SameFor r r' work
  same_work work more h = readings_that_agree-operands r r' work (each_left (Same r r') (operands work) more h)

  work_alike : (work : Work) (block : ℕ) → Each (Same r r') (operands work ++ cond (is_write work) (conditions_of f (line f.blocks block)) []) → IsWorkedAlike work block
  work_alike (put object keys values) block h = write_alike (put object keys values) block h
  work_alike (del object keys) block h = write_alike (del object keys) block h
  work_alike work block h =
      (readings_that_agree-results r r' (live_at r block) st packet work (same_work work [] h), none_made (live_at r block) ∙ sym (none_made (live_at r' block)))

  pub turned_alike : (i : ℕ) → Each (Same r r') (values_read f i) → IsTurnedAlike f packet i st r r'
  turned_alike i h =
      let both = work_alike (step_at f i).work (step_at f i).block h in
      record { row = both.0; changes = both.1; store = ap (with_changes st) both.1 }
