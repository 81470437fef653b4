-- At most one proof that code can be run.
use Rattle.std.specs.Prelude.{◌≡◌, ◌≤◌, ◌<◌, ℕ, true, List, [], length}
use Rattle.std.specs.List.{All, AllByRecursion, AllByRecursion-prop}
use Rattle.std.specs.Coded.{Coded-set, coded_bool, coded_ℕ, le_prop, ×_prop, Unit-prop}
use Rattle.state_store.specs.declared.object.ObjectDecl.{ObjectDecl}
use Rattle.state_store.specs.Once.{kept_object_prop}
use Rattle.state_store.specs.Store.{start_object}
use Rattle.flat_ir.specs.declared.program.FieldValue.{FieldValue}
use Rattle.flat_ir.specs.Operands.{CanRun}
use Rattle.flat_ir.specs.declared.spans.Span.{Span}
use Rattle.flat_ir.specs.Program.{Work, operands}
use Rattle.flat_ir.specs.Program.Work.{apply, shift, look}
use Rattle.split_model.specs.declared.layout.Crossing.{Crossing}
use Rattle.split_model.specs.Crossing.{is_among}
use Rattle.transfer_header.specs.Registers.{IsRising}
use Rattle.transfer_header.specs.Steps.{IsNeeded}
use Rattle.switch_ir.specs.Passes.{Step, PassCode, Code}
use Rattle.switch_ir.specs.Spans.{written_in, pre_spans, post_spans, GoesByStages, GoByStages, Written}
use Rattle.switch_ir.specs.Sound.{CanStep, IsWritable, IsSound, CanBeRun}
use Rattle.lemmas.proofs.Tests.{never_prop}

can_run_prop : (work : Work) → IsProp (CanRun work)
can_run_prop (apply op width args) = ×_prop (Coded-set coded_ℕ _ _) le_prop
can_run_prop (shift op width arg by) = Coded-set coded_ℕ _ _
can_run_prop (look object keys) = le_prop
can_run_prop work = Unit-prop

pub can_step_prop : (steps : List Step) → IsProp (AllByRecursion CanStep steps)
can_step_prop = AllByRecursion-prop CanStep (λ s. can_run_prop s.work)

writable_prop : (fields : List FieldValue) → IsProp (AllByRecursion IsWritable fields)
writable_prop = AllByRecursion-prop IsWritable (λ w. Coded-set coded_bool _ _)

sound_prop : (d : ObjectDecl) → IsProp (IsSound d)
sound_prop d a b = λ i. record {
  start = kept_object_prop d (start_object d) a.start b.start i;
  size = le_prop a.size b.size i;
}

stages_prop : (had : List Written) (pass : PassCode) → IsProp (GoesByStages had pass)
stages_prop had pass a b = λ i. record {
  apart = λ k n d lt within same. never_prop (a.apart k n d lt within same) (b.apart k n d lt within same) i;
  given = AllByRecursion-prop (λ s. s.stage ≡ 0) (λ s. Coded-set coded_ℕ _ _) pass.given a.given b.given i;
  low = AllByRecursion-prop (λ s. s.stage ≤ pass.highest) (λ s. le_prop) pass.steps a.low b.low i;
  lower = AllByRecursion-prop (λ s. AllByRecursion (λ w. is_among w.value (operands s.work) ≡ true → w.stage < s.stage) had)
      (λ s. AllByRecursion-prop (λ w. is_among w.value (operands s.work) ≡ true → w.stage < s.stage)
      (λ w f g. λ j read. le_prop (f read) (g read) j) had) pass.steps a.lower b.lower i;
}

rising_prop : (layout : List Crossing) → IsProp (IsRising layout)
rising_prop layout a b = λ i k n d lt within. le_prop (a k n d lt within) (b k n d lt within) i

needed_prop : (spans : List Span) (step : ℕ) (layout : List Crossing) → IsProp (All (λ c. IsNeeded spans step c.number) layout)
needed_prop spans step layout a b = λ i k d within. Coded-set coded_bool _ _ (a k d within) (b k d within) i

numbers_prop : (count : ℕ) (had : List Written) → IsProp (AllByRecursion (λ w. w.number < count) had)
numbers_prop count = AllByRecursion-prop (λ w. w.number < count) (λ w. le_prop)

by_stages_prop : (code : Code) → IsProp (GoByStages code)
by_stages_prop code a b = λ i. record {
  pre = stages_prop (written_in code.tables [] code.pre) code.pre a.pre b.pre i;
  post = stages_prop (written_in code.tables code.down code.post) code.post a.post b.post i;
  pre_numbers = numbers_prop code.values (written_in code.tables [] code.pre) a.pre_numbers b.pre_numbers i;
  post_numbers = numbers_prop code.values (written_in code.tables code.down code.post) a.post_numbers b.post_numbers i;
}

pub can_be_run_prop : (code : Code) → IsProp (CanBeRun code)
can_be_run_prop code a b = λ i. record {
  pre = can_step_prop code.pre.steps a.pre b.pre i;
  post = can_step_prop code.post.steps a.post b.post i;
  given = can_step_prop code.post.given a.given b.given i;
  blocks = λ k within. le_prop (a.blocks k within) (b.blocks k within) i;
  rest = AllByRecursion-prop (λ b. b ≤ length code.pre.blocks) (λ b. le_prop) code.pre.rest a.rest b.rest i;
  pre_fields = writable_prop code.pre.fields a.pre_fields b.pre_fields i;
  post_fields = writable_prop code.post.fields a.post_fields b.post_fields i;
  stages = by_stages_prop code a.stages b.stages i;
  up = rising_prop code.up a.up b.up i;
  up_needed = needed_prop (pre_spans code) code.pre.highest code.up a.up_needed b.up_needed i;
  down = rising_prop code.down a.down b.down i;
  down_needed = needed_prop (post_spans code) 0 code.down a.down_needed b.down_needed i;
  rising = λ k n d lt within. le_prop (a.rising k n d lt within) (b.rising k n d lt within) i;
  tables = λ o d is. sound_prop d (a.tables o d is) (b.tables o d is) i;
  writeback = le_prop a.writeback b.writeback i;
}
