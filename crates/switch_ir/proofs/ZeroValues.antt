-- What a pass doesn't have counts as 0.
use Rattle.std.proofs.Common.{◌≡◌, ◌≤◌, ◌<◌, ◌+◌, ◌==◌, ℕ, zero, suc, Bool, true, false, ◌&&◌, List, [], ◌∷◌, ◌++◌, Option, Some, None, is_some, slice_get, unwrap_or, replicate, length, map, inl, inr, refl, sym, ap, ◌∙◌, arith, nat_lt, slice_index, ◌^◌}
use Rattle.std.specs.Prelude.{nat_le}
use Rattle.std.specs.FinMap as finmap
use Rattle.std.specs.List.{AllByRecursion as Each, list_any}
use Rattle.std.specs.Option.{option_map}
use Rattle.std.proofs.lemmas.Bool.{cond-true, cond-false, cases_Bool, cases_eq, eq-eqb, eqb-true, le-leb, leb-true, and_parts, and_from, or_left, or_right, or_cases, or_parts, or_from, false≢true, true≢false}
use Rattle.std.proofs.lemmas.List.{get_or_past, length-replicate}
use Rattle.packet_fields.specs.declared.packet.Packet.{Packet}
use Rattle.state_store.specs.declared.object.ObjectDecl.{ObjectDecl}
use Rattle.state_store.specs.Kept.{have_widths, IsKeptObject}
use Rattle.state_store.specs.Store.{key_cmp, look as found_in, looked_up, no_object, object_at, Object, Store}
use Rattle.flat_ir.specs.declared.program.ValueId.{ValueId}
use Rattle.flat_ir.specs.Blocks.{Reading, nothing}
use Rattle.flat_ir.specs.Fits.{fits}
use Rattle.flat_ir.specs.Program.{Program, Work, step_at}
use Rattle.flat_ir.specs.Program.Work.{look}
use Rattle.flat_ir.specs.Run.{results}
use Rattle.flat_ir.specs.WellFormed.{IsWellFormed}
use Rattle.split_model.specs.declared.layout.Crossing.{Crossing}
use Rattle.split_model.specs.declared.split.Part.{Part}
use Rattle.split_model.specs.Counts.{is_post_shown}
use Rattle.split_model.specs.Crossing.{is_value}
use Rattle.split_model.specs.Shown.{is_shown, looks_at}
use Rattle.split_model.specs.Split.{any_below, post_stage, pre_stage}
use Rattle.switch_ir.specs.declared.code.Table.{Table}
use Rattle.switch_ir.specs.Emitted.{emitted, is_looked_up, placed, steps_below, steps_of, tables_from}
use Rattle.switch_ir.specs.Meaning.{after_stage, after_stages, crosses, down_given, handed, inputs, is_step}
use Rattle.switch_ir.specs.Passes.{Step, Code}
use Rattle.switch_ir.specs.Spans.{Written, handed_in, results_in, results_of, written_by}
use Rattle.switch_ir.specs.Staged.{Staging, is_had, is_looked_at, post_staging, HasNoMore, staging}
use Rattle.switch_ir.proofs.Declared.{declared_there, looked_there}
use Rattle.lemmas.proofs.Lists.{each_all, each_append, each_weaker, get_within}
use Rattle.switch_ir.proofs.Places.{any_at}

-- ## Lists

none_parts : {X : Type 0} (test : X → Bool) (xs ys : List X) → list_any test (xs ++ ys) ≡ false → (list_any test xs ≡ false) × (list_any test ys ≡ false)
none_parts test [] ys h = (refl, h)
none_parts test (x ∷ xs) ys h =
    let first = or_parts (test x) (list_any test (xs ++ ys)) h in
    let rest = none_parts test xs ys first.1 in
    (or_from (test x) (list_any test xs) first.0 rest.0, rest.1)

-- ## What has been written

abbrev has : ℕ → ValueId → Written → Bool
has t v w = nat_le w.stage t && is_value w.value v

earlier_one : (n t : ℕ) (b : Bool) → (nat_le n (suc t) && b) ≡ false → (nat_le n t && b) ≡ false
earlier_one n t b h = elim (cases_Bool (nat_le n t && b)) [
  | inl e ↦ let parts = and_parts (nat_le n t) b e in
      absurd (false≢true (sym h ∙ and_from (nat_le n (suc t)) b (le-leb n (suc t) (omega (arith, leb-true n t parts.0))) parts.1))
  | inr e ↦ e
]

earlier : (t : ℕ) (v : ValueId) (ws : List Written) → list_any (has (suc t) v) ws ≡ false → list_any (has t v) ws ≡ false
earlier t v [] h = refl
earlier t v (w ∷ ws) h =
    let parts = or_parts (has (suc t) v w) (list_any (has (suc t) v) ws) h in
    or_from (has t v w) (list_any (has t v) ws) (earlier_one w.stage t (is_value w.value v) parts.0) (earlier t v ws parts.1)

module _ (tables : List Table) (t : ℕ) (v : ValueId) where
  -- a value of the instruction that isn't among its first results stands behind them
  behind_results : (s : Step) (n : ℕ) → s.stage ≡ t → s.instruction ≡ v.instruction → list_any (has t v) (results_of s n) ≡ false → n ≤ v.result
  behind_results s zero now same none = omega arith
  behind_results s (suc n) now same none =
      let w : Written = record { value = record { instruction = s.instruction; result = n }; number = s.first + n; stage = s.stage } in
      let parts = none_parts (has t v) (results_of s n) (w ∷ []) none in
      let before = behind_results s n now same parts.0 in
      let other = (or_parts (has t v w) false parts.1).0 in
      elim (cases_eq n v.result) [
        | inl e ↦ absurd (false≢true (sym other ∙ and_from (nat_le s.stage t) (is_value w.value v) (le-leb s.stage t (omega (arith, now)))
            (and_from (s.instruction == v.instruction) (n == v.result) (eq-eqb s.instruction v.instruction same) (eq-eqb n v.result e))))
        | inr d ↦ omega (arith, before, d)
      ]

  abbrev Gives : Reading → Store → Packet → Step → Type 0
  Gives reads store packet s = length (results reads false store packet s.work) ≤ results_in tables s.work

  -- a stage gives no number to a value that hasn't been written
  lacking : (steps : List Step) (reads : Reading) (store : Store) (packet : Packet) → Each (Gives reads store packet) steps
      → list_any (has t v) (written_by tables steps) ≡ false → reads v ≡ 0 → after_stage steps t reads store packet v ≡ 0
  lacking [] reads store packet few none unknown = unknown
  lacking (s ∷ ss) reads store packet few none unknown =
      let rs = results reads false store packet s.work in
      let later = after_stage ss t reads store packet v in
      let parts = none_parts (has t v) (results_of s (results_in tables s.work)) (written_by tables ss) none in
      elim (cases_Bool (is_step s t v)) [
        | inl own ↦ let is = and_parts (s.stage == t) (s.instruction == v.instruction) own in
            let past = behind_results s (results_in tables s.work) (eqb-true s.stage t is.0) (eqb-true s.instruction v.instruction is.1) parts.0 in
            cond-true (is_step s t v) (slice_index rs v.result) later own ∙ get_or_past rs v.result 0 (omega (arith, past, few.0))
        | inr other ↦ cond-false (is_step s t v) (slice_index rs v.result) later other ∙ lacking ss reads store packet few.1 parts.1 unknown
      ]

-- ## A whole pass

module _ (p : Staging) (given : Reading) (store : Store) (packet : Packet)
    (few : (reads : Reading) → Each (λ s. length (results reads false store packet s.work) ≤ results_in p.tables s.work) p.code.steps)
    (none : (v : ValueId) → is_had p 0 v ≡ false → given v ≡ 0) where
  by_steps : (t : ℕ) (v : ValueId) → is_had p t v ≡ false → list_any (has t v) (written_by p.tables p.code.steps) ≡ false
  by_steps t v e =
      let given_there = written_by p.tables p.code.given in
      let steps_there = written_by p.tables p.code.steps in
      (none_parts (has t v) given_there steps_there (none_parts (has t v) (handed_in p.handed) (given_there ++ steps_there) e).1).1

  pub has_no_more : (t : ℕ) (v : ValueId) → is_had p t v ≡ false → after_stages p.code.steps given store packet (suc t) v ≡ 0
  has_no_more zero v e = lacking p.tables 0 v p.code.steps given store packet (few given) (by_steps 0 v e) (none v e)
  has_no_more (suc t) v e =
      let reads : Reading = after_stages p.code.steps given store packet (suc t) in
      let was : is_had p t v ≡ false = earlier t v (handed_in p.handed ++ (written_by p.tables p.code.given ++ written_by p.tables p.code.steps)) e in
      lacking p.tables (suc t) v p.code.steps reads store packet (few reads) (by_steps (suc t) v e) (has_no_more t v was)

-- ## How many results an instruction gives

as_many : (ws ns : List ℕ) → have_widths ws ns ≡ true → length ns ≡ length ws
as_many [] [] h = refl
as_many [] (n ∷ ns) h = absurd (true≢false (sym h))
as_many (w ∷ ws) [] h = absurd (true≢false (sym h))
as_many (w ∷ ws) (n ∷ ns) h = ap suc (as_many ws ns (and_parts (nat_lt n (2 ^ w)) (have_widths ws ns) h).1)

found_count : (d : ObjectDecl) (o : Object) (key : List ℕ) (found : Option (List ℕ)) → IsKeptObject d o → found_in o key ≡ found
    → length (unwrap_or found (replicate o.count 0)) ≡ length d.values
found_count d o key None kept e = length-replicate o.count 0 ∙ kept.count
found_count d o key (Some values) kept e = as_many d.values values (and_parts (have_widths d.keys key) (have_widths d.values values) (kept.rows key values e)).1

-- without tables, a look gives nothing but that it found nothing
none_found : (key : List ℕ) → length (looked_up no_object key) ≡ 0
none_found key = ap (λ (o : Option (List ℕ)). length (unwrap_or o (replicate no_object.count 0))) (finmap.get-empty key_cmp key)

results_one : (tables : List Table) (reads : Reading) (packet : Packet) (work : Work) → length (results reads false [] packet work) ≤ results_in tables work
results_one tables reads packet (look o keys) = omega (arith, none_found (map reads keys))
results_one tables reads packet work = omega arith

-- the tables of what is looked up keep what was declared
abbrev pub KeepLookedUp : Program → List Part → Store → Type 0
KeepLookedUp f split store = (o : ℕ) (d : ObjectDecl) → is_looked_up f split o ≡ true → slice_get f.objects o ≡ Some d → IsKeptObject d (object_at store o)

module _ (f : Program) (split : List Part) (well : IsWellFormed f) (store : Store) (kept : KeepLookedUp f split store) where
  results_few : (reads : Reading) (packet : Packet) (work : Work) → fits f work ≡ true → ((o : ℕ) → looks_at o work ≡ true → is_looked_up f split o ≡ true)
      → length (results reads false store packet work) ≤ results_in (tables_from f split 0 f.objects) work
  results_few reads packet (look o keys) fit looks =
      let own = eq-eqb o o refl in
      let d = get_within f.objects o (looked_there f o (look o keys) own fit) in
      let there = ap (λ (found : Option ObjectDecl). length (unwrap_or (option_map (λ (x : ObjectDecl). x.values) found) [])) (declared_there f split o d.0 (looks o own) d.1) in
      omega (arith, there, found_count d.0 (object_at store o) (map reads keys) (found_in (object_at store o) (map reads keys)) (kept o d.0 (looks o own) d.1) refl)
  results_few reads packet work fit looks = omega arith

-- ## The steps of a pass

module _ (f : Program) (stage : ℕ → Option ℕ) where
  -- an instruction of the program that has a stage
  abbrev IsStepOf : Step → Type 0
  IsStepOf s = (is_some (stage s.instruction) ≡ true) × (s.instruction < length f.code) × (s.work ≡ (step_at f s.instruction).work)

  one_step : (n : ℕ) (o : Option ℕ) → n < length f.code → stage n ≡ o → Each IsStepOf (placed f n o)
  one_step n None low e = tt
  one_step n (Some t) low e = ((ap (λ (o : Option ℕ). is_some o) e, low, refl), tt)

  steps_are : (n : ℕ) → n ≤ length f.code → Each IsStepOf (steps_below f stage n)
  steps_are zero low = tt
  steps_are (suc n) low = each_append IsStepOf (steps_below f stage n) (placed f n (stage n)) (steps_are n (omega (arith, low))) (one_step n (stage n) (omega (arith, low)) refl)

  -- one of those instructions looks the object up
  abbrev looked : ℕ → Bool
  looked o = any_below (length f.code) (λ i. is_some (stage i) && looks_at o (step_at f i).work)

  step_looks : (s : Step) (o : ℕ) → IsStepOf s → looks_at o s.work ≡ true → looked o ≡ true
  step_looks s o is looks =
      any_at (length f.code) s.instruction (λ i. is_some (stage i) && looks_at o (step_at f i).work) is.1
      (and_from (is_some (stage s.instruction)) (looks_at o (step_at f s.instruction).work) is.0 (ap (looks_at o) (sym is.2) ∙ looks))

  some_looks : (ss : List Step) (o : ℕ) → Each IsStepOf ss → is_looked_at ss o ≡ true → looked o ≡ true
  some_looks [] o are e = absurd (false≢true e)
  some_looks (s ∷ ss) o are e = elim (or_cases (looks_at o s.work) (is_looked_at ss o) e) [
    | inl here ↦ step_looks s o are.0 here
    | inr later ↦ some_looks ss o are.1 later
  ]

  pub looks_there : (o : ℕ) → is_looked_at (steps_of f stage) o ≡ true → looked o ≡ true
  looks_there o e = some_looks (steps_of f stage) o (steps_are (length f.code) (omega arith)) e

  pub steps_few : (split : List Part) (well : IsWellFormed f) (store : Store) → KeepLookedUp f split store → ((o : ℕ) → looked o ≡ true → is_looked_up f split o ≡ true)
      → (packet : Packet) (reads : Reading) → Each (λ s. length (results reads false store packet s.work) ≤ results_in (tables_from f split 0 f.objects) s.work) (steps_of f stage)
  steps_few split well store kept all packet reads =
      each_weaker IsStepOf (λ s. length (results reads false store packet s.work) ≤ results_in (tables_from f split 0 f.objects) s.work)
      (λ s is. results_few f split well store kept reads packet s.work (ap (fits f) is.2 ∙ well.fit s.instruction is.1) (λ o looks. all o (step_looks s o is looks)))
      (steps_of f stage) (steps_are (length f.code) (omega arith))

-- ## The two passes

module _ (f : Program) (split : List Part) (writeback : ℕ) where
  abbrev code : Code
  code = emitted f split writeback

  -- what a pass looks up is looked up
  pub looked_up_there : (pre : Bool) (o : ℕ) → is_looked_at (staging pre code).code.steps o ≡ true → is_looked_up f split o ≡ true
  looked_up_there true o e = or_left (is_shown f split o) (is_post_shown f split o) (looks_there f (pre_stage split) o e)
  looked_up_there false o e = or_right (is_shown f split o) (is_post_shown f split o) (looks_there f (post_stage split) o e)

  gives_few : (pre : Bool) (well : IsWellFormed f) (store : Store) → KeepLookedUp f split store
      → (packet : Packet) (reads : Reading) → Each (λ s. length (results reads false store packet s.work) ≤ results_in (staging pre code).tables s.work) (staging pre code).code.steps
  gives_few true well store kept = steps_few f (pre_stage split) split well store kept (λ o e. or_left (is_shown f split o) (is_post_shown f split o) e)
  gives_few false well store kept = steps_few f (post_stage split) split well store kept (λ o e. or_right (is_shown f split o) (is_post_shown f split o) e)

  pub none_over : (pre : Bool) (well : IsWellFormed f) (given : Reading) (store : Store) (packet : Packet) → KeepLookedUp f split store
      → ((v : ValueId) → is_had (staging pre code) 0 v ≡ false → given v ≡ 0) → HasNoMore (staging pre code) given store packet
  none_over pre well given store packet kept none = has_no_more (staging pre code) given store packet (gives_few pre well store kept packet) none

-- behind the server, what isn't handed down and not given either counts as 0
handed_none : (layout : List Crossing) (v : ValueId) → list_any (has 0 v) (handed_in layout) ≡ false → crosses layout v ≡ false
handed_none [] v e = refl
handed_none (c ∷ cs) v e =
    let parts = or_parts (is_value c.value v) (list_any (has 0 v) (handed_in cs)) e in
    or_from (is_value c.value v) (crosses cs v) parts.0 (handed_none cs v parts.1)

pub down_given_none : (code : Code) (values : Crossing → ℕ) (packet : Packet) (v : ValueId) → is_had (post_staging code) 0 v ≡ false → down_given code values packet v ≡ 0
down_given_none code values packet v e =
    let given_there = written_by code.tables code.post.given in
    let steps_there = written_by code.tables code.post.steps in
    let parts = none_parts (has 0 v) (handed_in code.down) (given_there ++ steps_there) e in
    cond-false (crosses code.down v) (handed code.down values v) (inputs code packet v) (handed_none code.down v parts.0)
    ∙ lacking code.tables 0 v code.post.given nothing [] packet
    (each_all (λ s. length (results nothing false [] packet s.work) ≤ results_in code.tables s.work) (λ s. results_one code.tables nothing packet s.work) code.post.given)
    (none_parts (has 0 v) given_there steps_there parts.1).0 refl
