-- The tests of well-formedness hold exactly where the definition does.
use Rattle.std.proofs.Common.{◌≡◌, ◌↔◌, ◌⊎◌, ◌<◌, ◌≤◌, ℕ, zero, suc, Bool, true, false, ◌&&◌, ◌||◌, ◌==◌, List, [], ◌∷◌, length, nat_lt, nat_le, refl, sym, ap, ◌∙◌, subst, arith, true≢false, ⊎_elim, inl, inr}
use Rattle.std.proofs.lemmas.Bool.{eqb-true, eq-eqb, leb-true, le-leb, ltb-true, lt-ltb, or_cases, and_from}
use Rattle.std.proofs.Math.Nat.{eq-or-lt_of_le}
use Rattle.std.specs.List.{AllByRecursion as Each, list_all}
use Rattle.packet_fields.specs.Table.{row, field_index}
use Rattle.flat_ir.specs.declared.program.ValueId.{ValueId}
use Rattle.flat_ir.specs.declared.program.Block.{Block}
use Rattle.flat_ir.specs.declared.program.FieldValue.{FieldValue}
use Rattle.flat_ir.specs.Program.{Program, Work, step_at, operands, is_named, is_value, width_of_value}
use Rattle.flat_ir.specs.Program.Work.{field, apply, shift, select, byte, look, put, del}
use Rattle.flat_ir.specs.Blocks.{same, block_at, line, HasLowParents}
use Rattle.flat_ir.specs.Fits.{fits}
use Rattle.flat_ir.specs.WellFormed.{IsWellFormed, IsSeenFrom, IsInArm, SeesOperands, EachCondition, AreInOrder, IsOutput, IsWritten}
use Rattle.flat_ir.specs.Tests.{all_below, low_parents, is_seen, is_good_block, is_arm, is_in_arm, may_read, may_take, reads_well, is_before, are_before, is_good_instr, is_output, is_written, rise_from, is_good_out, well_formed}
use Rattle.flat_ir.proofs.Readings.{each_first, each_second}
use Rattle.lemmas.proofs.Lists.{each_append, each_weaker}
use Rattle.lemmas.proofs.Tests.{and_first, and_second}

-- ## Numbers below one, and items of a list

pub below_each : (n : ℕ) (test : ℕ → Bool) → all_below n test ≡ true → (k : ℕ) → k < n → test k ≡ true
below_each zero test h k lt = absurd (omega (arith, lt))
below_each (suc n) test h k lt =
    ⊎_elim
    (λ e. ap test e ∙ and_second (all_below n test) (test n) h)
    (λ less. below_each n test (and_first (all_below n test) (test n) h) k less)
    (eq-or-lt_of_le {n = k} {m = n} (omega (arith, lt)))

pub each_below : (n : ℕ) (test : ℕ → Bool) → ((k : ℕ) → k < n → test k ≡ true) → all_below n test ≡ true
each_below zero test go = refl
each_below (suc n) test go = and_from (all_below n test) (test n) (each_below n test (λ k lt. go k (omega (arith, lt)))) (go n (omega arith))

pub all_each : {X : Type 0} (P : X → Type 0) (test : X → Bool) → ((x : X) → test x ≡ true → P x) → (xs : List X) → list_all test xs ≡ true → Each P xs
all_each P test go [] h = tt
all_each P test go (x ∷ xs) h = (go x (and_first (test x) (list_all test xs) h), all_each P test go xs (and_second (test x) (list_all test xs) h))

pub each_test : {X : Type 0} (P : X → Type 0) (test : X → Bool) → ((x : X) → P x → test x ≡ true) → (xs : List X) → Each P xs → list_all test xs ≡ true
each_test P test go [] h = refl
each_test P test go (x ∷ xs) h = and_from (test x) (list_all test xs) (go x h.0) (each_test P test go xs h.1)

-- ## Values that are read

module _ (f : Program) (i k : ℕ) where
  -- what holds of a value that may be read
  pub record Reads (v : ValueId) : Type 0 where
    pub before : v.instruction < i
    pub named : is_named f v ≡ true
    pub seen : IsSeenFrom f k v

  read_so : (v : ValueId) → may_read f i k v ≡ true → Reads v
  read_so v h =
      let rest = and_second (nat_lt v.instruction i) (is_named f v && is_seen f k v) h in
      record { before = ltb-true v.instruction i (and_first (nat_lt v.instruction i) (is_named f v && is_seen f k v) h); named = and_first (is_named f v) (is_seen f k v) rest; seen = and_second (is_named f v) (is_seen f k v) rest }

  so_read : (v : ValueId) → Reads v → may_read f i k v ≡ true
  so_read v r = and_from (nat_lt v.instruction i) (is_named f v && is_seen f k v) (lt-ltb v.instruction i r.before) (and_from (is_named f v) (is_seen f k v) r.named r.seen)

  all_read : (vs : List ValueId) → list_all (may_read f i k) vs ≡ true → Each Reads vs
  all_read = all_each Reads (may_read f i k) read_so

  read_all : (vs : List ValueId) → Each Reads vs → list_all (may_read f i k) vs ≡ true
  read_all = each_test Reads (may_read f i k) so_read

  befores : (vs : List ValueId) → Each Reads vs → Each (λ v. v.instruction < i) vs
  befores = each_weaker Reads (λ v. v.instruction < i) (λ v r. r.before)

  nameds : (vs : List ValueId) → Each Reads vs → Each (λ v. is_named f v ≡ true) vs
  nameds = each_weaker Reads (λ v. is_named f v ≡ true) (λ v r. r.named)

  seens : (vs : List ValueId) → Each Reads vs → Each (IsSeenFrom f k) vs
  seens = each_weaker Reads (IsSeenFrom f k) (λ v r. r.seen)

  together : (vs : List ValueId) → Each (λ v. v.instruction < i) vs → Each (λ v. is_named f v ≡ true) vs → Each (IsSeenFrom f k) vs → Each Reads vs
  together [] b n s = tt
  together (v ∷ vs) b n s = (record { before = b.0; named = n.0; seen = s.0 }, together vs b.1 n.1 s.1)

-- ## Arms of a select

abbrev value_made : ℕ → ℕ → ValueId
value_made i r = record { instruction = i; result = r }

pub value_same : (v w : ValueId) → is_value v w ≡ true → v ≡ w
value_same v w h =
    let first : v.instruction ≡ w.instruction = eqb-true v.instruction w.instruction (and_first (v.instruction == w.instruction) (v.result == w.result) h) in
    let second : v.result ≡ w.result = eqb-true v.result w.result (and_second (v.instruction == w.instruction) (v.result == w.result) h) in
    ap (λ n. value_made n v.result) first ∙ ap (λ n. value_made w.instruction n) second

pub same_itself : (v : ValueId) → is_value v v ≡ true
same_itself v = and_from (v.instruction == v.instruction) (v.result == v.result) (eq-eqb v.instruction v.instruction refl) (eq-eqb v.result v.result refl)

polarity_same : (a b : Bool) → same a b ≡ true → a ≡ b
polarity_same true b h = sym h
polarity_same false true h = h
polarity_same false false h = refl

same_polarity : (b : Bool) → same b b ≡ true
same_polarity true = refl
same_polarity false = refl

abbrev block_made : ℕ → ValueId → Bool → Block
block_made k cond polarity = record { parent = k; cond = cond; polarity = polarity }

block_same : (b : Block) (k : ℕ) (cond : ValueId) (polarity : Bool) → is_arm b k cond polarity ≡ true → b ≡ record { parent = k; cond = cond; polarity = polarity }
block_same b k cond polarity h =
    let rest = and_second (b.parent == k) (is_value b.cond cond && same b.polarity polarity) h in
    let first : b.parent ≡ k = eqb-true b.parent k (and_first (b.parent == k) (is_value b.cond cond && same b.polarity polarity) h) in
    let second : b.cond ≡ cond = value_same b.cond cond (and_first (is_value b.cond cond) (same b.polarity polarity) rest) in
    let third : b.polarity ≡ polarity = polarity_same b.polarity polarity (and_second (is_value b.cond cond) (same b.polarity polarity) rest) in
    ap (λ n. block_made n b.cond b.polarity) first ∙ ap (λ v. block_made k v b.polarity) second ∙ ap (block_made k cond) third

is_itself : (k : ℕ) (cond : ValueId) (polarity : Bool) → is_arm (record { parent = k; cond = cond; polarity = polarity }) k cond polarity ≡ true
is_itself k cond polarity = and_from (k == k) (is_value cond cond && same polarity polarity) (eq-eqb k k refl) (and_from (is_value cond cond) (same polarity polarity) (same_itself cond) (same_polarity polarity))

module _ (f : Program) (k : ℕ) (cond : ValueId) (polarity : Bool) (v : ValueId) where
  arm_from : (n : ℕ) → (step_at f v.instruction).block ≡ n → is_in_arm f.blocks n k cond polarity ≡ true → IsInArm f k cond polarity v
  arm_from zero e h = absurd (true≢false (sym h))
  arm_from (suc arm) e h = record {
    arm = arm;
    stands = e;
    there = ltb-true arm (length f.blocks) (and_first (nat_lt arm (length f.blocks)) (is_arm (block_at f.blocks arm) k cond polarity) h);
    block = block_same (block_at f.blocks arm) k cond polarity (and_second (nat_lt arm (length f.blocks)) (is_arm (block_at f.blocks arm) k cond polarity) h);
  }

  arm_so : is_in_arm f.blocks (step_at f v.instruction).block k cond polarity ≡ true → IsInArm f k cond polarity v
  arm_so = arm_from (step_at f v.instruction).block refl

  so_arm : IsInArm f k cond polarity v → is_in_arm f.blocks (step_at f v.instruction).block k cond polarity ≡ true
  so_arm arm =
      subst (λ n. is_in_arm f.blocks n k cond polarity ≡ true) (sym arm.stands)
      (and_from (nat_lt arm.arm (length f.blocks)) (is_arm (block_at f.blocks arm.arm) k cond polarity) (lt-ltb arm.arm (length f.blocks) arm.there)
      (subst (λ b. is_arm b k cond polarity ≡ true) (sym arm.block) (is_itself k cond polarity)))

  module _ (i : ℕ) where
    -- what holds of a value that a select may take as a side
    pub record Takes : Type 0 where
      pub before : v.instruction < i
      pub named : is_named f v ≡ true
      pub seen : IsSeenFrom f k v ⊎ IsInArm f k cond polarity v

    abbrev here : Bool
    here = is_in_arm f.blocks (step_at f v.instruction).block k cond polarity

    pub take_so : may_take f i k cond polarity v ≡ true → Takes
    take_so h =
        let rest = and_second (nat_lt v.instruction i) (is_named f v && (is_seen f k v || here)) h in
        record {
          before = ltb-true v.instruction i (and_first (nat_lt v.instruction i) (is_named f v && (is_seen f k v || here)) h);
          named = and_first (is_named f v) (is_seen f k v || here) rest;
          seen = ⊎_elim (λ s. inl s) (λ a. inr (arm_so a)) (or_cases (is_seen f k v) here (and_second (is_named f v) (is_seen f k v || here) rest));
        }

    or_left : (a b : Bool) → a ≡ true → (a || b) ≡ true
    or_left true b h = refl
    or_left false b h = absurd (true≢false (sym h))

    or_right : (a b : Bool) → b ≡ true → (a || b) ≡ true
    or_right true b h = refl
    or_right false b h = h

    pub so_take : Takes → may_take f i k cond polarity v ≡ true
    so_take t =
        and_from (nat_lt v.instruction i) (is_named f v && (is_seen f k v || here)) (lt-ltb v.instruction i t.before)
        (and_from (is_named f v) (is_seen f k v || here) t.named
        (⊎_elim (λ s. or_left (is_seen f k v) here s) (λ a. or_right (is_seen f k v) here (so_arm a)) t.seen))

-- ## What an instruction reads

module _ (f : Program) (i k : ℕ) where
  pub record ReadsWell (work : Work) : Type 0 where
    pub before : Each (λ v. v.instruction < i) (operands work)
    pub named : Each (λ v. is_named f v ≡ true) (operands work)
    pub sees : SeesOperands f k work

  pub work_so : (work : Work) → reads_well f i k work ≡ true → ReadsWell work
  work_so (apply op width args) h =
      let r = all_read f i k args h in
      record { before = befores f i k args r; named = nameds f i k args r; sees = seens f i k args r }
  work_so (shift op width arg by) h =
      let r = read_so f i k arg h in
      record { before = (r.before, tt); named = (r.named, tt); sees = r.seen }
  work_so (select width cond first second) h =
      let sides = and_second (may_read f i k cond) (may_take f i k cond true first && may_take f i k cond false second) h in
      let c = read_so f i k cond (and_first (may_read f i k cond) (may_take f i k cond true first && may_take f i k cond false second) h) in
      let a = take_so f k cond true first i (and_first (may_take f i k cond true first) (may_take f i k cond false second) sides) in
      let b = take_so f k cond false second i (and_second (may_take f i k cond true first) (may_take f i k cond false second) sides) in
      record { before = (c.before, (a.before, (b.before, tt))); named = (c.named, (a.named, (b.named, tt))); sees = (c.seen, a.seen, b.seen) }
  work_so (byte index) h =
      let r = read_so f i k index h in
      record { before = (r.before, tt); named = (r.named, tt); sees = r.seen }
  work_so (look object keys) h =
      let r = all_read f i k keys h in
      record { before = befores f i k keys r; named = nameds f i k keys r; sees = seens f i k keys r }
  work_so (put object keys values) h =
      let r = all_read f i k keys (and_first (list_all (may_read f i k) keys) (list_all (may_read f i k) values) h) in
      let s = all_read f i k values (and_second (list_all (may_read f i k) keys) (list_all (may_read f i k) values) h) in
      record {
        before = each_append (λ v. v.instruction < i) keys values (befores f i k keys r) (befores f i k values s);
        named = each_append (λ v. is_named f v ≡ true) keys values (nameds f i k keys r) (nameds f i k values s);
        sees = (seens f i k keys r, seens f i k values s);
      }
  work_so (del object keys) h =
      let r = all_read f i k keys h in
      record { before = befores f i k keys r; named = nameds f i k keys r; sees = seens f i k keys r }
  work_so _ h = record { before = tt; named = tt; sees = tt }

  pub so_work : (work : Work) → ReadsWell work → reads_well f i k work ≡ true
  so_work (apply op width args) r = read_all f i k args (together f i k args r.before r.named r.sees)
  so_work (shift op width arg by) r = so_read f i k arg (record { before = r.before.0; named = r.named.0; seen = r.sees })
  so_work (select width cond first second) r =
      and_from (may_read f i k cond) (may_take f i k cond true first && may_take f i k cond false second)
      (so_read f i k cond (record { before = r.before.0; named = r.named.0; seen = r.sees.0 }))
      (and_from (may_take f i k cond true first) (may_take f i k cond false second)
      (so_take f k cond true first i (record { before = r.before.1.0; named = r.named.1.0; seen = r.sees.1 }))
      (so_take f k cond false second i (record { before = r.before.1.1.0; named = r.named.1.1.0; seen = r.sees.2 })))
  so_work (byte index) r = so_read f i k index (record { before = r.before.0; named = r.named.0; seen = r.sees })
  so_work (look object keys) r = read_all f i k keys (together f i k keys r.before r.named r.sees)
  so_work (put object keys values) r =
      and_from (list_all (may_read f i k) keys) (list_all (may_read f i k) values)
      (read_all f i k keys (together f i k keys (each_first (λ v. v.instruction < i) keys values r.before) (each_first (λ v. is_named f v ≡ true) keys values r.named) r.sees.0))
      (read_all f i k values (together f i k values (each_second (λ v. v.instruction < i) keys values r.before) (each_second (λ v. is_named f v ≡ true) keys values r.named) r.sees.1))
  so_work (del object keys) r = read_all f i k keys (together f i k keys r.before r.named r.sees)
  so_work _ r = refl

  -- the conditions of a block and of those above it
  before_so : (n : ℕ) → is_before f.blocks i n ≡ true → EachCondition f (λ c. c.instruction < i) n
  before_so zero h = tt
  before_so (suc n) h = ltb-true (block_at f.blocks n).cond.instruction i h

  so_before : (n : ℕ) → EachCondition f (λ c. c.instruction < i) n → is_before f.blocks i n ≡ true
  so_before zero h = refl
  so_before (suc n) h = lt-ltb (block_at f.blocks n).cond.instruction i h

-- ## The output

output_so : (f : Program) (width : ℕ) (v : ValueId) → is_output f width v ≡ true → IsOutput f width v
output_so f width v h =
    let block = (step_at f v.instruction).block in
    let rest = and_second (is_named f v) (block == 0 && width_of_value f v == width) h in
    record {
      named = and_first (is_named f v) (block == 0 && width_of_value f v == width) h;
      root = eqb-true block 0 (and_first (block == 0) (width_of_value f v == width) rest);
      wide = eqb-true (width_of_value f v) width (and_second (block == 0) (width_of_value f v == width) rest);
    }

so_output : (f : Program) (width : ℕ) (v : ValueId) → IsOutput f width v → is_output f width v ≡ true
so_output f width v o =
    let block = (step_at f v.instruction).block in
    and_from (is_named f v) (block == 0 && width_of_value f v == width) o.named
    (and_from (block == 0) (width_of_value f v == width) (eq-eqb block 0 o.root) (eq-eqb (width_of_value f v) width o.wide))

written_so : (f : Program) (w : FieldValue) → is_written f w ≡ true → IsWritten f w
written_so f w h = record {
  writable = and_first (row w.field).writable (is_output f (row w.field).width w.value) h;
  output = output_so f (row w.field).width w.value (and_second (row w.field).writable (is_output f (row w.field).width w.value) h);
}

so_written : (f : Program) (w : FieldValue) → IsWritten f w → is_written f w ≡ true
so_written f w o = and_from (row w.field).writable (is_output f (row w.field).width w.value) o.writable (so_output f (row w.field).width w.value o.output)

order_so : (least : ℕ) (ws : List FieldValue) → rise_from least ws ≡ true → AreInOrder ws
order_so least [] h = tt
order_so least (w ∷ []) h = tt
order_so least (w ∷ (x ∷ ws)) h =
    let rest = and_second (nat_le least (field_index w.field)) (rise_from (suc (field_index w.field)) (x ∷ ws)) h in (
      leb-true (suc (field_index w.field)) (field_index x.field) (and_first (nat_le (suc (field_index w.field)) (field_index x.field)) (rise_from (suc (field_index x.field)) ws) rest),
      order_so (suc (field_index w.field)) (x ∷ ws) rest,
    )

so_order : (least : ℕ) (w : FieldValue) (ws : List FieldValue) → least ≤ field_index w.field → AreInOrder (w ∷ ws) → rise_from least (w ∷ ws) ≡ true
so_order least w [] le h = and_from (nat_le least (field_index w.field)) true (le-leb least (field_index w.field) le) refl
so_order least w (x ∷ ws) le h =
    and_from (nat_le least (field_index w.field)) (rise_from (suc (field_index w.field)) (x ∷ ws)) (le-leb least (field_index w.field) le)
    (so_order (suc (field_index w.field)) x ws h.0 h.1)

all_order : (ws : List FieldValue) → AreInOrder ws → rise_from 0 ws ≡ true
all_order [] h = refl
all_order (w ∷ ws) h = so_order 0 w ws (omega arith) h

-- ## A whole program

pub low_so : (blocks : List Block) → low_parents blocks ≡ true → HasLowParents blocks
low_so blocks h k lt =
    leb-true (block_at blocks k).parent k (below_each (length blocks) (λ k. nat_le (block_at blocks k).parent k) h k lt)

so_low : (blocks : List Block) → HasLowParents blocks → low_parents blocks ≡ true
so_low blocks low = each_below (length blocks) (λ k. nat_le (block_at blocks k).parent k) (λ k lt. le-leb (block_at blocks k).parent k (low k lt))

module _ (f : Program) where
  abbrev blocks_test : Bool
  blocks_test = all_below (length f.blocks) (is_good_block f)

  abbrev code_test : Bool
  code_test = all_below (length f.code) (is_good_instr f)

  module _ (h : well_formed f ≡ true) where
    abbrev low_part : low_parents f.blocks ≡ true
    low_part = and_first (low_parents f.blocks) (blocks_test && (code_test && is_good_out f)) h

    abbrev rest : (blocks_test && (code_test && is_good_out f)) ≡ true
    rest = and_second (low_parents f.blocks) (blocks_test && (code_test && is_good_out f)) h

    abbrev rest_of_it : (code_test && is_good_out f) ≡ true
    rest_of_it = and_second blocks_test (code_test && is_good_out f) rest

    module _ (k : ℕ) (lt : k < length f.blocks) where
      abbrev block_test : is_good_block f k ≡ true
      block_test = below_each (length f.blocks) (is_good_block f) (and_first blocks_test (code_test && is_good_out f) rest) k lt

      abbrev b : Block
      b = block_at f.blocks k

      good_named : is_named f b.cond ≡ true
      good_named = and_first (is_named f b.cond) (width_of_value f b.cond == 1 && is_seen f b.parent b.cond) block_test

      good_width : width_of_value f b.cond ≡ 1
      good_width = eqb-true (width_of_value f b.cond) 1 (and_first (width_of_value f b.cond == 1) (is_seen f b.parent b.cond) (and_second (is_named f b.cond) (width_of_value f b.cond == 1 && is_seen f b.parent b.cond) block_test))

      good_seen : is_seen f b.parent b.cond ≡ true
      good_seen = and_second (width_of_value f b.cond == 1) (is_seen f b.parent b.cond) (and_second (is_named f b.cond) (width_of_value f b.cond == 1 && is_seen f b.parent b.cond) block_test)

    module _ (i : ℕ) (lt : i < length f.code) where
      abbrev n : ℕ
      n = (step_at f i).block

      abbrev w : Work
      w = (step_at f i).work

      abbrev instr_test : is_good_instr f i ≡ true
      instr_test = below_each (length f.code) (is_good_instr f) (and_first code_test (is_good_out f) rest_of_it) i lt

      abbrev instr_rest : (are_before f.blocks i n && (reads_well f i n w && fits f w)) ≡ true
      instr_rest = and_second (nat_le n (length f.blocks)) (are_before f.blocks i n && (reads_well f i n w && fits f w)) instr_test

      abbrev instr_end : (reads_well f i n w && fits f w) ≡ true
      instr_end = and_second (are_before f.blocks i n) (reads_well f i n w && fits f w) instr_rest

      good_block : n ≤ length f.blocks
      good_block = leb-true n (length f.blocks) (and_first (nat_le n (length f.blocks)) (are_before f.blocks i n && (reads_well f i n w && fits f w)) instr_test)

      good_before : Each (EachCondition f (λ c. c.instruction < i)) (line f.blocks n)
      good_before = all_each (EachCondition f (λ c. c.instruction < i)) (is_before f.blocks i) (before_so f i n) (line f.blocks n) (and_first (are_before f.blocks i n) (reads_well f i n w && fits f w) instr_rest)

      good_reads : ReadsWell f i n w
      good_reads = work_so f i n w (and_first (reads_well f i n w) (fits f w) instr_end)

      good_fits : fits f w ≡ true
      good_fits = and_second (reads_well f i n w) (fits f w) instr_end

    abbrev out : is_good_out f ≡ true
    out = and_second code_test (is_good_out f) rest_of_it

    abbrev out_rest : (is_output f 8 f.port && (list_all (is_written f) f.fields && rise_from 0 f.fields)) ≡ true
    out_rest = and_second (is_output f 1 f.send) (is_output f 8 f.port && (list_all (is_written f) f.fields && rise_from 0 f.fields)) out

    abbrev out_end : (list_all (is_written f) f.fields && rise_from 0 f.fields) ≡ true
    out_end = and_second (is_output f 8 f.port) (list_all (is_written f) f.fields && rise_from 0 f.fields) out_rest

    test_so : IsWellFormed f
    test_so = record {
      parents = low_so f.blocks low_part;
      names_conditions = good_named;
      condition_widths = good_width;
      conditions = good_seen;
      blocks = good_block;
      after_conditions = good_before;
      after_operands = λ i lt. (good_reads i lt).before;
      names = λ i lt. (good_reads i lt).named;
      sees = λ i lt. (good_reads i lt).sees;
      fit = good_fits;
      send = output_so f 1 f.send (and_first (is_output f 1 f.send) (is_output f 8 f.port && (list_all (is_written f) f.fields && rise_from 0 f.fields)) out);
      port = output_so f 8 f.port (and_first (is_output f 8 f.port) (list_all (is_written f) f.fields && rise_from 0 f.fields) out_rest);
      fields = all_each (IsWritten f) (is_written f) (written_so f) f.fields (and_first (list_all (is_written f) f.fields) (rise_from 0 f.fields) out_end);
      order = order_so 0 f.fields (and_second (list_all (is_written f) f.fields) (rise_from 0 f.fields) out_end);
    }

  module _ (well : IsWellFormed f) where
    so_block : (k : ℕ) → k < length f.blocks → is_good_block f k ≡ true
    so_block k lt =
        let b = block_at f.blocks k in
        and_from (is_named f b.cond) (width_of_value f b.cond == 1 && is_seen f b.parent b.cond) (well.names_conditions k lt)
        (and_from (width_of_value f b.cond == 1) (is_seen f b.parent b.cond) (eq-eqb (width_of_value f b.cond) 1 (well.condition_widths k lt)) (well.conditions k lt))

    so_instr : (i : ℕ) → i < length f.code → is_good_instr f i ≡ true
    so_instr i lt =
        let n = (step_at f i).block in
        let w = (step_at f i).work in
        and_from (nat_le n (length f.blocks)) (are_before f.blocks i n && (reads_well f i n w && fits f w)) (le-leb n (length f.blocks) (well.blocks i lt))
        (and_from (are_before f.blocks i n) (reads_well f i n w && fits f w)
        (each_test (EachCondition f (λ c. c.instruction < i)) (is_before f.blocks i) (so_before f i n) (line f.blocks n) (well.after_conditions i lt))
        (and_from (reads_well f i n w) (fits f w) (so_work f i n w (record { before = well.after_operands i lt; named = well.names i lt; sees = well.sees i lt })) (well.fit i lt)))

    so_out : is_good_out f ≡ true
    so_out =
        and_from (is_output f 1 f.send) (is_output f 8 f.port && (list_all (is_written f) f.fields && rise_from 0 f.fields)) (so_output f 1 f.send well.send)
        (and_from (is_output f 8 f.port) (list_all (is_written f) f.fields && rise_from 0 f.fields) (so_output f 8 f.port well.port)
        (and_from (list_all (is_written f) f.fields) (rise_from 0 f.fields) (each_test (IsWritten f) (is_written f) (so_written f) f.fields well.fields) (all_order f.fields well.order)))

    so_test : well_formed f ≡ true
    so_test =
        and_from (low_parents f.blocks) (blocks_test && (code_test && is_good_out f)) (so_low f.blocks well.parents)
        (and_from blocks_test (code_test && is_good_out f) (each_below (length f.blocks) (is_good_block f) so_block)
        (and_from code_test (is_good_out f) (each_below (length f.code) (is_good_instr f) so_instr) so_out))

pub is_exact : (f : Program) → (well_formed f ≡ true) ↔ IsWellFormed f
is_exact f = (test_so f, so_test f)

-- what the walks along lines of blocks ask for
pub low_parents_hold : (blocks : List Block) → low_parents blocks ≡ true → HasLowParents blocks
low_parents_hold = low_so
