-- A small program with a split in which every part has work.
use Rattle.std.proofs.Common.{◌≡◌, ◌<◌, ℕ, zero, suc, true, false, not, ◌==◌, List, [], ◌∷◌, nat_lt, nat_le, Some, None, refl, arith, inl, inr}
use Rattle.std.proofs.lemmas.Bool.{eqb-true, ltb-true, leb-true, not-true}
use Rattle.std.specs.List.{list_all}
use Rattle.gal_bits.specs.declared.op.Op.TheVariants.{Add, Mul}
use Rattle.packet_fields.specs.declared.field.Field.TheVariants.{MetaLen}
use Rattle.state_store.specs.declared.object.Kind.TheVariants.{Map}
use Rattle.state_store.specs.declared.object.ObjectDecl.{ObjectDecl}
use Rattle.flat_ir.specs.declared.program.ValueId.{ValueId}
use Rattle.flat_ir.specs.Blocks.{line, block_at}
use Rattle.flat_ir.specs.Fits.{fits}
use Rattle.flat_ir.specs.Program.{Program, Step, Work, step_at, operands, is_named, width_of_value}
use Rattle.flat_ir.specs.Program.Work.{const, field, apply, select, look, put}
use Rattle.flat_ir.specs.Tests.{all_below, is_before, is_seen}
use Rattle.flat_ir.specs.WellFormed.{IsWellFormed, EachCondition, SeesOperands}
use Rattle.split_model.specs.declared.split.Part.{Part}
use Rattle.split_model.specs.declared.split.Slow.TheVariants.{Carried, Server, Post}
use Rattle.split_model.specs.Laws.{HasEveryPart}
use Rattle.split_model.specs.Legal.{IsLegal, breaks}
use Rattle.split_model.proofs.Rules.{each_true}
use Rattle.flat_ir.proofs.Exact.{below_each}
use Rattle.lemmas.proofs.Lists.{each_weaker}

abbrev val : ℕ → ℕ → ValueId
val i j = record { instruction = i; result = j }

abbrev step : ℕ → Work → Step
step k work = record { block = k; looped = false; work = work }

-- a map from 16 bits to 8
abbrev rows : ObjectDecl
rows = record { name = []; kind = Map; keys = 16 ∷ []; values = 8 ∷ []; size = 4; start = 0; rows = [] }

-- A packet whose doubled length has a row leaves by port 0. Else a row is put there, and the packet leaves by a port that the server
-- multiplies and postprocessing adds to.
abbrev pub program : Program
program = record {
  objects = rows ∷ [];
  blocks = record { parent = 0; cond = val 5 0; polarity = false } ∷ [];
  code =
      step 0 (const 1 0)
      ∷ step 0 (const 1 1)
      ∷ step 0 (const 8 0)
      ∷ step 0 (field MetaLen)
      ∷ step 0 (apply Add 16 (val 3 0 ∷ val 3 0 ∷ []))
      ∷ step 0 (look 0 (val 4 0 ∷ []))
      ∷ step 1 (put 0 (val 4 0 ∷ []) (val 2 0 ∷ []))
      ∷ step 1 (apply Mul 8 (val 5 1 ∷ val 2 0 ∷ []))
      ∷ step 1 (apply Add 8 (val 7 0 ∷ val 2 0 ∷ []))
      ∷ step 0 (select 8 (val 5 0) (val 2 0) (val 8 0))
      ∷ [];
  send = val 1 0;
  port = val 9 0;
  fields = [];
}

abbrev pub parts : List Part
parts =
    record { pre = Some 0; slow = Carried }
    ∷ record { pre = Some 0; slow = Carried }
    ∷ record { pre = Some 0; slow = Carried }
    ∷ record { pre = Some 0; slow = Carried }
    ∷ record { pre = Some 1; slow = Carried }
    ∷ record { pre = Some 2; slow = Server }
    ∷ record { pre = None; slow = Server }
    ∷ record { pre = None; slow = Server }
    ∷ record { pre = None; slow = Post 1 }
    ∷ record { pre = Some 3; slow = Post 2 }
    ∷ []

-- ## Tests of each number below one

before : (i : ℕ) (k : ℕ) → is_before program.blocks i k ≡ true → EachCondition program (λ c. c.instruction < i) k
before i zero e = tt
before i (suc k) e = ltb-true (block_at program.blocks k).cond.instruction i e

sees : (i : ℕ) → i < 10 → SeesOperands program (step_at program i).block (step_at program i).work
sees (suc (suc (suc (suc zero)))) lt = (refl, (refl, tt))
sees (suc (suc (suc (suc (suc zero))))) lt = (refl, tt)
sees (suc (suc (suc (suc (suc (suc zero)))))) lt = ((refl, tt), (refl, tt))
sees (suc (suc (suc (suc (suc (suc (suc zero))))))) lt = (refl, (refl, tt))
sees (suc (suc (suc (suc (suc (suc (suc (suc zero)))))))) lt = (refl, (refl, tt))
sees (suc (suc (suc (suc (suc (suc (suc (suc (suc zero))))))))) lt =
    (refl, inl refl, inr (record { arm = 0; stands = refl; there = omega arith; block = refl }))
sees (suc (suc (suc (suc (suc (suc (suc (suc (suc (suc i)))))))))) lt = absurd (omega (arith, lt))
sees _ lt = tt

pub well : IsWellFormed program
well = record {
  parents = λ k lt. leb-true (block_at program.blocks k).parent k (below_each 1 (λ j. nat_le (block_at program.blocks j).parent j) refl k lt);
  names_conditions = below_each 1 (λ j. is_named program (block_at program.blocks j).cond) refl;
  condition_widths = λ k lt. eqb-true (width_of_value program (block_at program.blocks k).cond) 1 (below_each 1 (λ j. width_of_value program (block_at program.blocks j).cond == 1) refl k lt);
  conditions = below_each 1 (λ j. is_seen program (block_at program.blocks j).parent (block_at program.blocks j).cond) refl;
  blocks = λ i lt. leb-true (step_at program i).block 1 (below_each 10 (λ j. nat_le (step_at program j).block 1) refl i lt);
  after_conditions = λ i lt.
      each_weaker (λ k. is_before program.blocks i k ≡ true) (EachCondition program (λ c. c.instruction < i)) (before i) (line program.blocks (step_at program i).block)
      (each_true (is_before program.blocks i) (line program.blocks (step_at program i).block) (below_each 10 (λ j. list_all (is_before program.blocks j) (line program.blocks (step_at program j).block)) refl i lt));
  after_operands = λ i lt.
      each_weaker (λ (v : ValueId). nat_lt v.instruction i ≡ true) (λ (v : ValueId). v.instruction < i) (λ (v : ValueId) e. ltb-true v.instruction i e) (operands (step_at program i).work)
      (each_true (λ (v : ValueId). nat_lt v.instruction i) (operands (step_at program i).work) (below_each 10 (λ j. list_all (λ (v : ValueId). nat_lt v.instruction j) (operands (step_at program j).work)) refl i lt));
  names = λ i lt. each_true (is_named program) (operands (step_at program i).work) (below_each 10 (λ j. list_all (is_named program) (operands (step_at program j).work)) refl i lt);
  sees = sees;
  fit = below_each 10 (λ j. fits program (step_at program j).work) refl;
  send = record { named = refl; root = refl; wide = refl };
  port = record { named = refl; root = refl; wide = refl };
  fields = tt;
  order = tt;
}

-- no instruction breaks the rule of a number
unbroken : (rule : ℕ) → all_below 10 (λ i. not (breaks rule program parts i)) ≡ true → (i : ℕ) → i < 10 → breaks rule program parts i ≡ false
unbroken rule e i lt = not-true (breaks rule program parts i) (below_each 10 (λ j. not (breaks rule program parts j)) e i lt)

kept : (rule i : ℕ) → i < 10 → breaks rule program parts i ≡ false
kept zero i lt = refl
kept (suc zero) i lt = unbroken 1 refl i lt
kept (suc (suc zero)) i lt = unbroken 2 refl i lt
kept (suc (suc (suc zero))) i lt = unbroken 3 refl i lt
kept (suc (suc (suc (suc zero)))) i lt = unbroken 4 refl i lt
kept (suc (suc (suc (suc (suc zero))))) i lt = unbroken 5 refl i lt
kept (suc (suc (suc (suc (suc (suc zero)))))) i lt = unbroken 6 refl i lt
kept (suc (suc (suc (suc (suc (suc (suc zero))))))) i lt = unbroken 7 refl i lt
kept (suc (suc (suc (suc (suc (suc (suc (suc zero)))))))) i lt = unbroken 8 refl i lt
kept (suc (suc (suc (suc (suc (suc (suc (suc (suc zero))))))))) i lt = unbroken 9 refl i lt
kept (suc (suc (suc (suc (suc (suc (suc (suc (suc (suc rule)))))))))) i lt = refl

pub legal : IsLegal program parts
legal = record { count = refl; kept = kept }

pub every_part : HasEveryPart program parts
every_part = record { looks = refl; writes = refl; up = (val 4 0, refl); down = (val 5 0, refl); adds = refl }
