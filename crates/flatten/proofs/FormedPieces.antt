-- Instructions and blocks that keep a flat program well formed.
use Rattle.std.proofs.Common.{◌≡◌, ℕ, zero, suc, ◌<◌, ◌≤◌, ◌==◌, Bool, true, false, cond, List, [], ◌∷◌, length, nat_lt, get_or, slice_index, Option, Some, None, refl, sym, ap, ◌∙◌, subst, arith, length-append, true≢false, eqb-true, eq-eqb, lit<, ◌⊎◌, inl, inr, ⊎_elim}
use Rattle.std.proofs.Math.Seq.{get_or-append_seam}
use Rattle.std.proofs.lemmas.Bool.{cases_lt, and_from, lt-ltb, or_cases, or_left, or_right}
use Rattle.std.specs.List.{list_any, AllByRecursion as Each}
use Rattle.std.proofs.lemmas.Option.{none-some, same_Some}
use Rattle.flat_ir.specs.declared.program.ValueId.{ValueId}
use Rattle.flat_ir.specs.declared.program.Block.{Block}
use Rattle.flat_ir.specs.Program as flat
use Rattle.flat_ir.specs.Program.{Program, Step, Work, step_at, operands, is_named, width_of_value, result_widths, result_count}
use Rattle.flat_ir.specs.Blocks.{block_at, line, line_up}
use Rattle.flat_ir.specs.Fits.{fits, widths_of, same_widths}
use Rattle.flat_ir.specs.WellFormed.{IsSeenFrom, IsInArm, SeesOperands, EachCondition}
use Rattle.flatten.specs.declared.place.Place.{Place}
use Rattle.flatten.specs.declared.place.Ending.{Ending}
use Rattle.flatten.specs.declared.place.Ending.TheVariants.{No, Yes}
use Rattle.flatten.specs.Flatten.{Emitted, Valued, Scoped, Merged, EndedAt, result_of, nought, one, nought_port, emit, give, opened, same_id, merge_id, merge_option, merge_ids, merge_ended, ended_id, select_ended, constants}
use Rattle.flatten.proofs.Growth.{Grows, then_grows, emit_length, blank_step, blank_block, merge_option_grows, merge_ids_grow}
use Rattle.flatten.proofs.Views.{HasOption, AllHave, option_map, all_map, HasId, IsThere, there_cons, alike_cons}
use Rattle.flatten.proofs.Written.{same_ids, same_itself}
use Rattle.lemmas.proofs.Lists.{each_weaker}

module _ (F : Program) where
  abbrev pub whole : Emitted
  whole = record { code = F.code; blocks = F.blocks }

  -- what is given so far is the beginning of the program
  abbrev pub IsPart : Emitted → Type 0
  IsPart g = Grows g whole

  abbrev pub block_of : ValueId → ℕ
  block_of v = (step_at F v.instruction).block

  -- ## Lines of blocks

  -- the first blocks stand below ones with lower numbers
  abbrev pub Low : ℕ → Type 0
  Low n = (k : ℕ) → k < n → (block_at F.blocks k).parent ≤ k

  fuel : (n : ℕ) → Low n → (a b k : ℕ) → k ≤ n → k ≤ a → k ≤ b → line_up a F.blocks k ≡ line_up b F.blocks k
  fuel n low a b zero lt le le' = refl
  fuel n low zero b (suc k) lt le le' = absurd (omega (arith, le))
  fuel n low (suc a) zero (suc k) lt le le' = absurd (omega (arith, le'))
  fuel n low (suc a) (suc b) (suc k) lt le le' =
      let below = low k lt in
      ap (λ l. suc k ∷ l) (fuel n low a b (block_at F.blocks k).parent (omega (arith, below, lt)) (omega (arith, below, le)) (omega (arith, below, le')))

  line_suc : (n : ℕ) → Low n → (k : ℕ) → k < n → line F.blocks (suc k) ≡ suc k ∷ line F.blocks (block_at F.blocks k).parent
  line_suc n low k lt =
      let up = (block_at F.blocks k).parent in
      let below = low k lt in
      ap (λ l. suc k ∷ l) (fuel n low k up up (omega (arith, below, lt)) below (omega arith))

  seen_own : (k : ℕ) (v : ValueId) → block_of v ≡ k → IsSeenFrom F k v
  seen_own zero v e = or_left (0 == block_of v) false (eq-eqb 0 (block_of v) (sym e))
  seen_own (suc k) v e =
      or_left (suc k == block_of v) (list_any (λ b. b == block_of v) (line_up k F.blocks (block_at F.blocks k).parent)) (eq-eqb (suc k) (block_of v) (sym e))

  seen_above : (n : ℕ) → Low n → (k : ℕ) (v : ValueId) → k < n → IsSeenFrom F (block_at F.blocks k).parent v → IsSeenFrom F (suc k) v
  seen_above n low k v lt h =
      let test : ℕ → Bool = λ b. b == block_of v in
      subst (λ l. list_any test l ≡ true) (sym (line_suc n low k lt)) (or_right (suc k == block_of v) (list_any test (line F.blocks (block_at F.blocks k).parent)) h)

  seen_parts : (n : ℕ) → Low n → (k : ℕ) (v : ValueId) → k < n → IsSeenFrom F (suc k) v → (block_of v ≡ suc k) ⊎ IsSeenFrom F (block_at F.blocks k).parent v
  seen_parts n low k v lt h =
      let test : ℕ → Bool = λ b. b == block_of v in
      ⊎_elim (λ e. inl (sym (eqb-true (suc k) (block_of v) e))) (λ e. inr e)
      (or_cases (suc k == block_of v) (list_any test (line F.blocks (block_at F.blocks k).parent)) (subst (λ l. list_any test l ≡ true) (line_suc n low k lt) h))

  root_above : (n : ℕ) → Low n → (a k : ℕ) → k ≤ n → k ≤ a → list_any (λ b. b == 0) (line_up a F.blocks k) ≡ true
  root_above n low a zero lt le = refl
  root_above n low zero (suc k) lt le = absurd (omega (arith, le))
  root_above n low (suc a) (suc k) lt le =
      let up = (block_at F.blocks k).parent in
      let below = low k lt in
      or_right (suc k == 0) (list_any (λ b. b == 0) (line_up a F.blocks up)) (root_above n low a up (omega (arith, below, lt)) (omega (arith, below, le)))

  seen_root : (n : ℕ) → Low n → (k : ℕ) (v : ValueId) → k ≤ n → block_of v ≡ 0 → IsSeenFrom F k v
  seen_root n low k v le e = subst (λ x. list_any (λ b. b == x) (line F.blocks k) ≡ true) (sym e) (root_above n low k k le (omega arith))

  pub in_root : (v : ValueId) → IsSeenFrom F 0 v → block_of v ≡ 0
  in_root v h = ⊎_elim (λ e. sym (eqb-true 0 (block_of v) e)) (λ e. absurd (true≢false (sym e))) (or_cases (0 == block_of v) false h)

  -- the conditions of a block and of those above it stand before instruction n
  abbrev pub Before : ℕ → ℕ → Type 0
  Before n k = Each (EachCondition F (λ c. c.instruction < n)) (line F.blocks k)

  condition_more : (n n' : ℕ) → n ≤ n' → (k : ℕ) → EachCondition F (λ c. c.instruction < n) k → EachCondition F (λ c. c.instruction < n') k
  condition_more n n' le zero h = tt
  condition_more n n' le (suc k) h = omega (arith, le, h)

  before_more : (n n' k : ℕ) → n ≤ n' → Before n k → Before n' k
  before_more n n' k le h = each_weaker (EachCondition F (λ c. c.instruction < n)) (EachCondition F (λ c. c.instruction < n')) (condition_more n n' le) (line F.blocks k) h

  -- ## Values

  -- a value of so many bits that instruction n of block k may read
  pub record Ready (k n w : ℕ) (v : ValueId) : Type 0 where
    pub before : v.instruction < n
    pub named : is_named F v ≡ true
    pub wide : width_of_value F v ≡ w
    pub seen : IsSeenFrom F k v

  -- a value that a select there may have as a side
  pub record Sided (k n : ℕ) (c : ValueId) (polarity : Bool) (w : ℕ) (v : ValueId) : Type 0 where
    pub before : v.instruction < n
    pub named : is_named F v ≡ true
    pub wide : width_of_value F v ≡ w
    pub side : IsSeenFrom F k v ⊎ IsInArm F k c polarity v

  pub ready_more : (k n n' : ℕ) → n ≤ n' → (w : ℕ) (v : ValueId) → Ready k n w v → Ready k n' w v
  ready_more k n n' le w v h = record { before = omega (arith, h.before, le); named = h.named; wide = h.wide; seen = h.seen }

  pub option_later : (k n n' : ℕ) → n ≤ n' → (w : ℕ) (i : Option ValueId) → HasOption (Ready k n) w i → HasOption (Ready k n') w i
  option_later k n n' le = option_map (Ready k n) (Ready k n') (ready_more k n n' le)

  pub sided_more : (k n n' : ℕ) (c : ValueId) (polarity : Bool) → n ≤ n' → (w : ℕ) (v : ValueId) → Sided k n c polarity w v → Sided k n' c polarity w v
  sided_more k n n' c polarity le w v h = record { before = omega (arith, h.before, le); named = h.named; wide = h.wide; side = h.side }

  pub sided_of : (k n : ℕ) (c : ValueId) (polarity : Bool) (w : ℕ) (v : ValueId) → Ready k n w v → Sided k n c polarity w v
  sided_of k n c polarity w v h = record { before = h.before; named = h.named; wide = h.wide; side = inl h.seen }

  -- no value is in both arms
  in_both : (k : ℕ) (c v : ValueId) → IsInArm F k c true v → IsInArm F k c false v → ⊥
  in_both k c v x y =
      let first = x.stands in
      let second = y.stands in
      let same : x.arm ≡ y.arm = omega (arith, first, second) in
      true≢false (ap (λ (b : Block). b.polarity) (sym x.block ∙ ap (block_at F.blocks) same ∙ y.block))

  both_seen : (k : ℕ) (c v : ValueId) → (IsSeenFrom F k v ⊎ IsInArm F k c true v) → (IsSeenFrom F k v ⊎ IsInArm F k c false v) → IsSeenFrom F k v
  both_seen k c v a b = ⊎_elim (λ h. h) (λ x. ⊎_elim (λ h. h) (λ y. absurd (in_both k c v x y)) b) a

  -- ## What is given so far

  pub record StepFits (i : ℕ) (s : Step) : Type 0 where
    pub block : s.block ≤ length F.blocks
    pub after_conditions : Before i s.block
    pub after_operands : Each (λ (v : ValueId). v.instruction < i) (operands s.work)
    pub names : Each (λ v. is_named F v ≡ true) (operands s.work)
    pub sees : SeesOperands F s.block s.work
    pub fit : fits F s.work ≡ true

  pub record BlockFits (k : ℕ) (b : Block) : Type 0 where
    pub parent : b.parent ≤ k
    pub named : is_named F b.cond ≡ true
    pub wide : width_of_value F b.cond ≡ 1
    pub seen : IsSeenFrom F b.parent b.cond

  pub record IsFormed (g : Emitted) : Type 0 where
    pub steps : (i : ℕ) → i < length g.code → StepFits i (step_at F i)
    pub blocks : (k : ℕ) → k < length g.blocks → BlockFits k (block_at F.blocks k)

  pub low_of : (g : Emitted) → IsFormed g → Low (length g.blocks)
  low_of g h k lt = (h.blocks k lt).parent

  -- an instruction that comes next may stand in this block
  pub record Open (g : Emitted) (k : ℕ) : Type 0 where
    pub within : k ≤ length g.blocks
    pub before : Before (length g.code) k

  pub open_more : (g g' : Emitted) (k : ℕ) → Grows g g' → Open g k → Open g' k
  open_more g g' k p h = record {
    within = omega (arith, h.within, p.more);
    before = before_more (length g.code) (length g'.code) k p.longer h.before;
  }

  -- ## One more instruction

  pub record WorkFits (k n : ℕ) (work : Work) : Type 0 where
    pub before : Each (λ (v : ValueId). v.instruction < n) (operands work)
    pub names : Each (λ v. is_named F v ≡ true) (operands work)
    pub sees : SeesOperands F k work
    pub fit : fits F work ≡ true

  abbrev step_in : Place → Work → Step
  step_in p work = record { block = p.block; looped = p.looped; work = work }

  pub step_emitted : (p : Place) (work : Work) (g : Emitted) → IsPart (emit p work g) → step_at F (length g.code) ≡ step_in p work
  step_emitted p work g part =
      let lt : length g.code < length (emit p work g).code = omega (arith, emit_length p work g) in
      part.steps (length g.code) lt ∙ get_or-append_seam g.code (step_in p work) [] blank_step

  pub emit_formed : (p : Place) (work : Work) (g : Emitted) → IsPart (emit p work g) → IsFormed g → Open g p.block → WorkFits p.block (length g.code) work → IsFormed (emit p work g)
  emit_formed p work g part h open_ w =
      let n = length g.code in
      let here : StepFits n (step_in p work) = record {
        block = omega (arith, open_.within, part.more);
        after_conditions = open_.before;
        after_operands = w.before;
        names = w.names;
        sees = w.sees;
        fit = w.fit;
      } in
      let last : StepFits n (step_at F n) = subst (StepFits n) (sym (step_emitted p work g part)) here in
      record {
        steps = λ i lt.
            ⊎_elim (λ below. h.steps i below)
            (λ past.
            let e : n ≡ i = omega (arith, past, lt, emit_length p work g) in
            subst (λ j. StepFits j (step_at F j)) e last)
            (cases_lt i n);
        blocks = h.blocks;
      }

  -- its results
  pub given_ready : (p : Place) (work : Work) (g : Emitted) → IsPart (emit p work g) → (j : ℕ) → j < result_count F.objects work
      → Ready p.block (length (emit p work g).code) (slice_index (result_widths F.objects work) j) (result_of (length g.code) j)
  given_ready p work g part j lt =
      let n = length g.code in
      let e = step_emitted p work g part in
      let within : n < length F.code = omega (arith, emit_length p work g, part.longer) in
      record {
        before = omega (arith, emit_length p work g);
        named = and_from (nat_lt n (length F.code)) (nat_lt j (result_count F.objects (step_at F n).work)) (lt-ltb n (length F.code) within)
            (subst (λ (s : Step). nat_lt j (result_count F.objects s.work) ≡ true) (sym e) (lt-ltb j (result_count F.objects work) lt));
        wide = ap (λ (s : Step). slice_index (result_widths F.objects s.work) j) e;
        seen = seen_own p.block (result_of n j) (ap (λ (s : Step). s.block) e);
      }

  -- ## One more block

  abbrev block_in : Place → ValueId → Bool → Block
  block_in p v polarity = record { parent = p.block; cond = v; polarity = polarity }

  opened_length : (p : Place) (v : ValueId) (polarity : Bool) (g : Emitted) → length (opened p v polarity g).blocks ≡ suc (length g.blocks)
  opened_length p v polarity g = omega (arith, length-append g.blocks (block_in p v polarity ∷ []))

  pub block_opened : (p : Place) (v : ValueId) (polarity : Bool) (g : Emitted) → IsPart (opened p v polarity g) → block_at F.blocks (length g.blocks) ≡ block_in p v polarity
  block_opened p v polarity g part =
      let lt : length g.blocks < length (opened p v polarity g).blocks = omega (arith, opened_length p v polarity g) in
      part.blocks (length g.blocks) lt ∙ get_or-append_seam g.blocks (block_in p v polarity) [] blank_block

  pub open_formed : (p : Place) (v : ValueId) (polarity : Bool) (g : Emitted) → IsPart (opened p v polarity g) → IsFormed g → Open g p.block → Ready p.block (length g.code) 1 v → IsFormed (opened p v polarity g)
  open_formed p v polarity g part h open_ r =
      let n = length g.blocks in
      let here : BlockFits n (block_in p v polarity) = record { parent = open_.within; named = r.named; wide = r.wide; seen = r.seen } in
      let last : BlockFits n (block_at F.blocks n) = subst (BlockFits n) (sym (block_opened p v polarity g part)) here in
      record {
        steps = h.steps;
        blocks = λ k lt.
            ⊎_elim (λ below. h.blocks k below)
            (λ past.
            let e : n ≡ k = omega (arith, past, lt, opened_length p v polarity g) in
            subst (λ j. BlockFits j (block_at F.blocks j)) e last)
            (cases_lt k n);
      }

  pub open_below : (p : Place) (v : ValueId) (polarity : Bool) (g : Emitted) → IsPart (opened p v polarity g) → IsFormed g → Open g p.block → Ready p.block (length g.code) 1 v → Open (opened p v polarity g) (suc (length g.blocks))
  open_below p v polarity g part h open_ r =
      let n = length g.blocks in
      let o = opened p v polarity g in
      let e = block_opened p v polarity g part in
      let low = low_of o (open_formed p v polarity g part h open_ r) in
      let lt : n < length o.blocks = omega (arith, opened_length p v polarity g) in
      let P = EachCondition F (λ c. c.instruction < length g.code) in
      let first : P (suc n) = subst (λ (b : Block). b.cond.instruction < length g.code) (sym e) r.before in
      let rest : Each P (line F.blocks (block_at F.blocks n).parent) = subst (λ (b : Block). Each P (line F.blocks b.parent)) (sym e) open_.before in
      record { within = lt; before = subst (Each P) (sym (line_suc (length o.blocks) low n lt)) (first, rest) }

  -- what is ready above is ready there
  pub ready_below : (p : Place) (v : ValueId) (polarity : Bool) (g : Emitted) → IsPart (opened p v polarity g) → Low (length (opened p v polarity g).blocks)
      → (w : ℕ) (u : ValueId) → Ready p.block (length g.code) w u → Ready (suc (length g.blocks)) (length g.code) w u
  ready_below p v polarity g part low w u h =
      let n = length g.blocks in
      let o = opened p v polarity g in
      let lt : n < length o.blocks = omega (arith, opened_length p v polarity g) in
      record {
        before = h.before;
        named = h.named;
        wide = h.wide;
        seen = seen_above (length o.blocks) low n u lt (subst (λ (b : Block). IsSeenFrom F b.parent u) (sym (block_opened p v polarity g part)) h.seen);
      }

  -- and what is ready there may be a side
  pub sided_above : (p : Place) (v : ValueId) (polarity : Bool) (g : Emitted) → IsPart (opened p v polarity g) → Low (length (opened p v polarity g).blocks)
      → (n w : ℕ) (u : ValueId) → Ready (suc (length g.blocks)) n w u → Sided p.block n v polarity w u
  sided_above p v polarity g part low n w u h =
      let k = length g.blocks in
      let o = opened p v polarity g in
      let e = block_opened p v polarity g part in
      let lt : k < length o.blocks = omega (arith, opened_length p v polarity g) in
      let there : k < length F.blocks = omega (arith, lt, part.more) in
      record {
        before = h.before;
        named = h.named;
        wide = h.wide;
        side = ⊎_elim
            (λ own. inr (record { arm = k; stands = own; there = there; block = e }))
            (λ above. inl (subst (λ (b : Block). IsSeenFrom F b.parent u) e above))
            (seen_parts (length o.blocks) low k u lt h.seen);
      }

  -- ## The constants that come first

  constant_ready : (n : ℕ) → Low n → (k : ℕ) → k ≤ n → (size i width number : ℕ) → i < size → i < length F.code → step_at F i ≡ record { block = 0; looped = false; work = flat.const width number } → Ready k size width (result_of i 0)
  constant_ready n low k le size i width number lt there e = record {
    before = lt;
    named = and_from (nat_lt i (length F.code)) (nat_lt 0 (result_count F.objects (step_at F i).work)) (lt-ltb i (length F.code) there)
        (subst (λ (s : Step). nat_lt 0 (result_count F.objects s.work) ≡ true) (sym e) refl);
    wide = ap (λ (s : Step). slice_index (result_widths F.objects s.work) 0) e;
    seen = seen_root n low k (result_of i 0) le (ap (λ (s : Step). s.block) e);
  }

  pub record Constants (k n : ℕ) : Type 0 where
    pub nought : Ready k n 1 nought
    pub one : Ready k n 1 one
    pub port : Ready k n 8 nought_port

  pub constants_ready : IsPart constants → (n : ℕ) → Low n → (k : ℕ) → k ≤ n → (size : ℕ) → 2 < size → Constants k size
  constants_ready part n low k le size lt =
      let long : 3 ≤ length F.code = part.longer in
      record {
        nought = constant_ready n low k le size 0 1 0 (omega (arith, lt)) (omega (arith, long)) (part.steps 0 (lit< tt));
        one = constant_ready n low k le size 1 1 1 (omega (arith, lt)) (omega (arith, long)) (part.steps 1 (lit< tt));
        port = constant_ready n low k le size 2 8 0 lt long (part.steps 2 (lit< tt));
      }

  -- ## Two values made one

  select_widths : (v a b : ValueId) (w : ℕ) → width_of_value F v ≡ 1 → width_of_value F a ≡ w → width_of_value F b ≡ w → same_widths (widths_of F (v ∷ a ∷ b ∷ [])) (1 ∷ w ∷ w ∷ []) ≡ true
  select_widths v a b w ev ea eb =
      and_from (width_of_value F v == 1) (same_widths (widths_of F (a ∷ b ∷ [])) (w ∷ w ∷ [])) (eq-eqb (width_of_value F v) 1 ev)
      (and_from (width_of_value F a == w) (same_widths (widths_of F (b ∷ [])) (w ∷ [])) (eq-eqb (width_of_value F a) w ea)
      (and_from (width_of_value F b == w) true (eq-eqb (width_of_value F b) w eb) refl))

  pub select_fits : (k n : ℕ) (v : ValueId) (w : ℕ) (a b : ValueId) → Ready k n 1 v → Sided k n v true w a → Sided k n v false w b → WorkFits k n (flat.select w v a b)
  select_fits k n v w a b rv ra rb = record {
    before = (rv.before, (ra.before, (rb.before, tt)));
    names = (rv.named, (ra.named, (rb.named, tt)));
    sees = (rv.seen, ra.side, rb.side);
    fit = select_widths v a b w rv.wide ra.wide rb.wide;
  }

  -- a value given next
  pub record Formed (k w : ℕ) (r : Valued) : Type 0 where
    pub formed : IsFormed r.given
    pub ready : Ready k (length r.given.code) w r.id

  pub record Chosen (k w : ℕ) (a b : ValueId) (r : Valued) : Type 0 where
    pub formed : IsFormed r.given
    pub ready : Ready k (length r.given.code) w r.id
    pub alike : a ≡ b → r.id ≡ a

  chosen_case : (c : Bool) (p : Place) (v : ValueId) (w : ℕ) (a b : ValueId) (g : Emitted) → same_id a b ≡ c → IsPart (cond c (record { given = g; id = a }) (give p (flat.select w v a b) g)).given
      → IsFormed g → Open g p.block → Ready p.block (length g.code) 1 v → Sided p.block (length g.code) v true w a → Sided p.block (length g.code) v false w b
      → Chosen p.block w a b (cond c (record { given = g; id = a }) (give p (flat.select w v a b) g))
  chosen_case true p v w a b g e part h open_ rv ra rb =
      let same = same_ids a b e in
      let second : IsSeenFrom F p.block a ⊎ IsInArm F p.block v false a = subst (λ u. IsSeenFrom F p.block u ⊎ IsInArm F p.block v false u) (sym same) rb.side in
      record {
        formed = h;
        ready = record { before = ra.before; named = ra.named; wide = ra.wide; seen = both_seen p.block v a ra.side second };
        alike = λ is. refl;
      }
  chosen_case false p v w a b g e part h open_ rv ra rb =
      let work = flat.select w v a b in
      record {
        formed = emit_formed p work g part h open_ (select_fits p.block (length g.code) v w a b rv ra rb);
        ready = given_ready p work g part 0 (lit< tt);
        alike = λ is. absurd (true≢false (sym (same_itself a) ∙ ap (λ c. same_id a c) is ∙ e));
      }

  pub merge_id_formed : (p : Place) (v : ValueId) (w : ℕ) (a b : ValueId) (g : Emitted) → IsPart (merge_id p v w a b g).given → IsFormed g → Open g p.block → Ready p.block (length g.code) 1 v
      → Sided p.block (length g.code) v true w a → Sided p.block (length g.code) v false w b → Chosen p.block w a b (merge_id p v w a b g)
  merge_id_formed p v w a b g part h open_ rv ra rb = chosen_case (same_id a b) p v w a b g refl part h open_ rv ra rb

  pub record ChosenOption (k w : ℕ) (x y : Option ValueId) (r : Merged) : Type 0 where
    pub formed : IsFormed r.given
    pub ready : HasOption (Ready k (length r.given.code)) w r.id
    pub there : HasId x → HasId y → HasId r.id
    pub alike : x ≡ y → r.id ≡ x

  merge_option_formed : (p : Place) (v : ValueId) (w : ℕ) (x y : Option ValueId) (g : Emitted) → IsPart (merge_option p v w x y g).given → IsFormed g → Open g p.block → Ready p.block (length g.code) 1 v
      → HasOption (Sided p.block (length g.code) v true) w x → HasOption (Sided p.block (length g.code) v false) w y → ChosenOption p.block w x y (merge_option p v w x y g)
  merge_option_formed p v w None y g part h open_ rv rx ry = record { formed = h; ready = tt; there = λ i j. i; alike = λ e. refl }
  merge_option_formed p v w (Some a) None g part h open_ rv rx ry = record { formed = h; ready = tt; there = λ i j. j; alike = λ e. absurd (none-some a (sym e)) }
  merge_option_formed p v w (Some a) (Some b) g part h open_ rv rx ry =
      let s = merge_id_formed p v w a b g part h open_ rv rx ry in
      record { formed = s.formed; ready = s.ready; there = λ i j. tt; alike = λ e. ap Some (s.alike (same_Some a b e)) }

  pub record ChosenAll (k : ℕ) (ws : List ℕ) (xs ys : List (Option ValueId)) (r : Scoped) : Type 0 where
    pub formed : IsFormed r.given
    pub ready : AllHave (Ready k (length r.given.code)) ws r.ids
    pub there : (x : ℕ) → IsThere xs x → IsThere ys x → IsThere r.ids x
    pub alike : (x : ℕ) → get_or xs x None ≡ get_or ys x None → get_or r.ids x None ≡ get_or xs x None

  pub merge_ids_formed : (p : Place) (v : ValueId) (ws : List ℕ) (xs ys : List (Option ValueId)) (g : Emitted) → IsPart (merge_ids p v ws xs ys g).given → IsFormed g → Open g p.block → Ready p.block (length g.code) 1 v
      → AllHave (Sided p.block (length g.code) v true) ws xs → AllHave (Sided p.block (length g.code) v false) ws ys → ChosenAll p.block ws xs ys (merge_ids p v ws xs ys g)
  merge_ids_formed p v [] [] [] g part h open_ rv rx ry = record { formed = h; ready = tt; there = λ x i j. tt; alike = λ x e. refl }
  merge_ids_formed p v [] (x ∷ xs) ys g part h open_ rv rx ry = absurd rx
  merge_ids_formed p v (w ∷ ws) [] ys g part h open_ rv rx ry = absurd rx
  merge_ids_formed p v (w ∷ ws) (x ∷ xs) (y ∷ ys) g part h open_ rv rx ry =
      let k = p.block in
      let n = length g.code in
      let r = merge_option p v w x y g in
      let n' = length r.given.code in
      let rest = merge_ids p v ws xs ys r.given in
      let pr = merge_option_grows p v w x y g in
      let prest = merge_ids_grow p v ws xs ys r.given in
      let s = merge_option_formed p v w x y g (then_grows r.given rest.given whole prest part) h open_ rv rx.0 ry.0 in
      let t = merge_ids_formed p v ws xs ys r.given part s.formed (open_more g r.given k pr open_) (ready_more k n n' pr.longer 1 v rv)
      (all_map (Sided k n v true) (Sided k n' v true) (sided_more k n n' v true pr.longer) ws xs rx.1)
      (all_map (Sided k n v false) (Sided k n' v false) (sided_more k n n' v false pr.longer) ws ys ry.1) in
      let m = length rest.given.code in
      record {
        formed = t.formed;
        ready = (option_later k n' m prest.longer w r.id s.ready, t.ready);
        there = there_cons x y r.id xs ys rest.ids s.there t.there;
        alike = alike_cons x y r.id xs ys rest.ids s.alike t.alike;
      }
  merge_ids_formed p v _ _ _ g part h open_ rv rx ry = absurd ry

  -- whether the run has ended, of two states
  pub record ChosenEnd (k : ℕ) (r : EndedAt) : Type 0 where
    pub formed : IsFormed r.given
    pub ready : Ready k (length r.given.code) 1 (ended_id r.ended)

  end_select : (p : Place) (v : ValueId) (x y : Ending) (g : Emitted) → IsPart (select_ended p v x y g).given → IsFormed g → Open g p.block → Ready p.block (length g.code) 1 v
      → Sided p.block (length g.code) v true 1 (ended_id x) → Sided p.block (length g.code) v false 1 (ended_id y) → ChosenEnd p.block (select_ended p v x y g)
  end_select p v x y g part h open_ rv rx ry =
      let work = flat.select 1 v (ended_id x) (ended_id y) in
      record {
        formed = emit_formed p work g part h open_ (select_fits p.block (length g.code) v 1 (ended_id x) (ended_id y) rv rx ry);
        ready = given_ready p work g part 0 (lit< tt);
      }

  pub merge_ended_formed : (p : Place) (v : ValueId) (x y : Ending) (g : Emitted) → IsPart (merge_ended p v x y g).given → IsFormed g → Open g p.block → Constants p.block (length g.code) → Ready p.block (length g.code) 1 v
      → Sided p.block (length g.code) v true 1 (ended_id x) → Sided p.block (length g.code) v false 1 (ended_id y) → ChosenEnd p.block (merge_ended p v x y g)
  merge_ended_formed p v No No g part h open_ cs rv rx ry = record { formed = h; ready = cs.nought }
  merge_ended_formed p v Yes Yes g part h open_ cs rv rx ry = record { formed = h; ready = cs.one }
  merge_ended_formed p v Yes No g part h open_ cs rv rx ry = record { formed = h; ready = rv }
  merge_ended_formed p v x y g part h open_ cs rv rx ry = end_select p v x y g part h open_ rv rx ry
