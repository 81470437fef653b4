-- What a run leaves as it was.
use Rattle.std.proofs.Common.{◌≡◌, ◌≢◌, ℕ, zero, suc, ◌==◌, ◌<◌, ◌≤◌, List, length, refl, sym, ap, ◌∙◌, arith, slice_index, ⊎_elim}
use Rattle.std.proofs.lemmas.Bool.{cond-true, cond-false, eq-eqb, ne_eqb}
use Rattle.std.proofs.Math.Nat.{eq-or-lt_of_le}
use Rattle.packet_fields.specs.declared.packet.Packet.{Packet}
use Rattle.state_store.specs.Store.{Store}
use Rattle.flat_ir.specs.declared.program.ValueId.{ValueId}
use Rattle.flat_ir.specs.Program.{Program, Work, step_at, operands}
use Rattle.flat_ir.specs.Blocks.{Reading, is_live, line}
use Rattle.flat_ir.specs.Run.{Machine, after, flat_run, with_results, results}
use Rattle.flat_ir.specs.WellFormed.{IsWellFormed, EachCondition}
use Rattle.flat_ir.specs.Laws.{IsItsValues, Same}
use Rattle.flat_ir.proofs.Readings.{same_for_operands, results_same, live_same, condition_weaker}
use Rattle.lemmas.proofs.Lists.{each_weaker}

pub set_other : (i : ℕ) (rs : List ℕ) (reads : Reading) (v : ValueId) → v.instruction ≢ i → with_results i rs reads v ≡ reads v
set_other i rs reads v ne = cond-false (v.instruction == i) (slice_index rs v.result) (reads v) (ne_eqb v.instruction i ne)

pub set_own : (i : ℕ) (rs : List ℕ) (reads : Reading) (v : ValueId) → v.instruction ≡ i → with_results i rs reads v ≡ slice_index rs v.result
set_own i rs reads v e = cond-true (v.instruction == i) (slice_index rs v.result) (reads v) (eq-eqb v.instruction i e)

module _ (f : Program) (st : Store) (packet : Packet) where
  abbrev pub m : ℕ → Machine
  m = after f st packet

  abbrev pub block_of : ℕ → ℕ
  block_of i = (step_at f i).block

  abbrev pub work_at : ℕ → Work
  work_at i = (step_at f i).work

  -- what stands is kept
  pub kept : (to from : ℕ) (v : ValueId) → v.instruction < from → from ≤ to → (m to).reads v ≡ (m from).reads v
  kept zero from v lt le = absurd (omega (arith, lt, le))
  kept (suc to) from v lt le =
      ⊎_elim
      (λ e. ap (λ n. (m n).reads v) (sym e))
      (λ less. set_other to (results (m to).reads (is_live f.blocks (m to).reads (block_of to)) (m to).store packet (work_at to)) (m to).reads v (λ e. omega (arith, lt, less, e)) ∙ kept to from v lt (omega (arith, less)))
      (eq-or-lt_of_le le)

  -- before its turn a value counts as 0
  pub unset : (n : ℕ) (v : ValueId) → n ≤ v.instruction → (m n).reads v ≡ 0
  unset zero v le = refl
  unset (suc n) v le =
      set_other n (results (m n).reads (is_live f.blocks (m n).reads (block_of n)) (m n).store packet (work_at n)) (m n).reads v (λ e. omega (arith, le, e)) ∙ unset n v (omega (arith, le))

  -- at its turn an instruction gets its results
  pub own : (i place : ℕ) → (m (suc i)).reads (record { instruction = i; result = place }) ≡ slice_index (results (m i).reads (is_live f.blocks (m i).reads (block_of i)) (m i).store packet (work_at i)) place
  own i place = set_own i (results (m i).reads (is_live f.blocks (m i).reads (block_of i)) (m i).store packet (work_at i)) (m i).reads (record { instruction = i; result = place }) refl

  abbrev pub all : Reading
  all = (flat_run f st packet).reads

  module _ (well : IsWellFormed f) where
    -- operands and conditions stand
    pub stands : (i : ℕ) → i < length f.code → (v : ValueId) → v.instruction < i → Same (m i).reads all v
    stands i within v lt = sym (kept (length f.code) i v lt (omega (arith, within)))

    pub live_then : (i : ℕ) → i < length f.code → is_live f.blocks (m i).reads (block_of i) ≡ is_live f.blocks all (block_of i)
    live_then i within =
        live_same f (m i).reads all (block_of i) (each_weaker (EachCondition f (λ c. c.instruction < i)) (EachCondition f (Same (m i).reads all)) (condition_weaker f (λ c. c.instruction < i) (Same (m i).reads all) (stands i within)) (line f.blocks (block_of i)) (well.after_conditions i within))

    pub its_value : (i : ℕ) → i < length f.code → (place : ℕ) → all (record { instruction = i; result = place }) ≡ slice_index (results all (is_live f.blocks all (block_of i)) (m i).store packet (work_at i)) place
    its_value i within place =
        kept (length f.code) (suc i) (record { instruction = i; result = place }) (omega arith) (omega (arith, within))
        ∙ own i place
        ∙ ap (λ l. slice_index (results (m i).reads l (m i).store packet (work_at i)) place) (live_then i within)
        ∙ ap (λ rs. slice_index rs place) (results_same (m i).reads all (is_live f.blocks all (block_of i)) (m i).store packet (work_at i) (same_for_operands (m i).reads all (work_at i) (each_weaker (λ v. v.instruction < i) (Same (m i).reads all) (stands i within) (operands (work_at i)) (well.after_operands i within))))

pub are_its_values : (f : Program) (st : Store) (packet : Packet) (i : ℕ) → IsWellFormed f → i < length f.code → IsItsValues f st packet i
are_its_values f st packet i well within = record { live = live_then f st packet well i within; value = its_value f st packet well i within }
