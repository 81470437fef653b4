-- For how long the values of a pass are needed.
use Rattle.std.specs.Prelude.{◌≡◌, ◌≢◌, ◌≤◌, ◌<◌, ℕ, zero, suc, ◌+◌, ◌==◌, Bool, true, false, ◌&&◌, ◌||◌, max}
use Rattle.std.specs.Prelude.{List, [], ◌∷◌, ◌++◌, length, map, unwrap_or, if◌then◌else◌}
use Rattle.std.specs.List.{AllByRecursion as Each, AllPairs, list_any, filter}
use Rattle.std.specs.Option.{option_map}
use Rattle.state_store.specs.declared.object.ObjectDecl.{ObjectDecl}
use Rattle.flat_ir.specs.declared.program.Block.{Block}
use Rattle.flat_ir.specs.declared.program.ValueId.{ValueId}
use Rattle.flat_ir.specs.declared.spans.Span.{Span}
use Rattle.flat_ir.specs.Blocks.{line, block_at}
use Rattle.flat_ir.specs.Program.{Work, operands}
use Rattle.flat_ir.specs.Program.Work.{look}
use Rattle.split_model.specs.declared.layout.Crossing.{Crossing}
use Rattle.split_model.specs.Crossing.{is_value, is_among}
use Rattle.transfer_header.specs.Steps.{Steps, Contents}
use Rattle.switch_ir.specs.declared.code.Table.{Table}
use Rattle.switch_ir.specs.Passes.{Step, PassCode, Code}
use Rattle.switch_ir.specs.Tables.{declared_at}

-- ## The values of a pass

-- how many results an instruction has: a look says whether there is a row, and gives the row's values
abbrev pub results_in : List Table → Work → ℕ
results_in tables (look object keys) =
    suc (length (unwrap_or (option_map (λ (d : ObjectDecl). d.values) (declared_at tables object)) []))
results_in tables work = 1

-- a value that a pass has: its number, and the stage that writes it
pub record Written : Type 0 where
  pub value : ValueId
  pub number : ℕ
  pub stage : ℕ

-- the first n results of an instruction
abbrev pub results_of : Step → ℕ → List Written
results_of s zero = []
results_of s (suc n) = results_of s n ++ record {
  value = record { instruction = s.instruction; result = n };
  number = s.first + n;
  stage = s.stage;
} ∷ []

abbrev pub written_by : List Table → List Step → List Written
written_by tables [] = []
written_by tables (s ∷ ss) = results_of s (results_in tables s.work) ++ written_by tables ss

-- what a frame hands in is written at stage 0
abbrev pub handed_in : List Crossing → List Written
handed_in layout = map (λ c. record { value = c.value; number = c.number; stage = 0 }) layout

-- all values of a pass to which a frame hands those of a layout
abbrev pub written_in : List Table → List Crossing → PassCode → List Written
written_in tables handed pass = handed_in handed ++ (written_by tables pass.given ++ written_by tables pass.steps)

-- ## When they are read last

-- a block's condition; the root has none
abbrev pub is_condition : List Block → ValueId → ℕ → Bool
is_condition blocks v zero = false
is_condition blocks v (suc k) = is_value v (block_at blocks k).cond

-- whether a packet goes up hangs on it: it is the condition of a block in which work is left, or of one above it
abbrev pub is_tested : PassCode → ValueId → Bool
is_tested pass v = list_any (λ b. list_any (is_condition pass.blocks v) (line pass.blocks b)) pass.rest

-- A value is read once all stages are done: a frame takes it up, a packet's way hangs on it, or the released packet.
abbrev pub is_read_last : List Crossing → PassCode → ValueId → Bool
is_read_last up pass v =
    list_any (λ (c : Crossing). is_value v c.value) up
    || (is_tested pass v
    || (is_among v (pass.send ∷ pass.port ∷ []) || list_any (λ w. is_value v w.value) pass.fields))

-- the highest stage that reads a value, 0 where none does
abbrev pub last_stage : List Step → ValueId → ℕ
last_stage [] v = 0
last_stage (s ∷ ss) v = max (if is_among v (operands s.work) then s.stage else 0) (last_stage ss v)

-- The step that reads it last, 0 where none does. What is read once all stages are done is read at the step behind the
-- highest stage.
abbrev pub last_read : List Crossing → PassCode → ValueId → ℕ
last_read up pass v = max (last_stage pass.steps v) (if is_read_last up pass v then suc pass.highest else 0)

-- ## Spans

-- a value is needed from the stage that writes it to the step that reads it last; it ends there where none reads it
abbrev pub span_of : (ValueId → ℕ) → Written → Span
span_of last w = record { value = w.number; from = w.stage; to = max w.stage (last w.value) }

-- the spans of a pass to which the values of a layout are handed, and which hands up those of another
abbrev pub pass_spans : List Table → List Crossing → List Crossing → PassCode → List Span
pass_spans tables handed up pass = map (span_of (last_read up pass)) (written_in tables handed pass)

abbrev pub pre_spans : Code → List Span
pre_spans code = pass_spans code.tables [] code.up code.pre

abbrev pub post_spans : Code → List Span
post_spans code = pass_spans code.tables code.down [] code.post

-- ## A pass step by step, by the numbers of its values

-- a step reads the value: an instruction of that stage does, or it is read once all stages are done
abbrev pub is_read_at : List Crossing → PassCode → ℕ → ValueId → Bool
is_read_at up pass step v =
    list_any (λ s. s.stage == step && is_among v (operands s.work)) pass.steps
    || (step == suc pass.highest && is_read_last up pass v)

abbrev pub reads_at : List Written → List Crossing → PassCode → ℕ → ℕ → Bool
reads_at had up pass step number = list_any (λ w. w.number == number && is_read_at up pass step w.value) had

abbrev pub writes_at : List Written → ℕ → List ℕ
writes_at had step = map (λ w. w.number) (filter (λ w. w.stage == step) had)

-- the steps of a pass, which give these numbers
abbrev pub steps_of : List Table → List Crossing → List Crossing → PassCode → (ℕ → Contents → Contents) → Steps
steps_of tables handed up pass number =
    let had = written_in tables handed pass in
    record { reads = reads_at had up pass; writes = writes_at had; number = number }

-- A pass that has these values goes by stages: no value has the number of another, what the pass is given is there
-- before its stages, none of which is above the highest, and what a stage reads was written in a lower one.
pub record GoesByStages (had : List Written) (pass : PassCode) : Type 0 where
  pub apart : AllPairs (λ (a b : Written). a.number ≢ b.number) had
  pub given : Each (λ s. s.stage ≡ 0) pass.given
  pub low : Each (λ s. s.stage ≤ pass.highest) pass.steps
  pub lower : Each (λ s. Each (λ w. is_among w.value (operands s.work) ≡ true → w.stage < s.stage) had) pass.steps

-- values whose numbers are below a number
abbrev pub AreNumbered : ℕ → List Written → Type 0
AreNumbered count had = Each (λ w. w.number < count) had

-- both passes of code go by stages, and their values have numbers below that of all values
pub record GoByStages (code : Code) : Type 0 where
  pub pre : GoesByStages (written_in code.tables [] code.pre) code.pre
  pub post : GoesByStages (written_in code.tables code.down code.post) code.post
  pub pre_numbers : AreNumbered code.values (written_in code.tables [] code.pre)
  pub post_numbers : AreNumbered code.values (written_in code.tables code.down code.post)
