-- Preprocessing finishes exactly the fast packets, with their verdicts.
use Rattle.std.proofs.Common.{◌≡◌, ◌⊎◌, ℕ, zero, suc, ◌<◌, ◌≤◌, Bool, true, false, not, ◌&&◌, List, [], ◌∷◌, ◌++◌, length, Some, None, refl, sym, ap, ◌∙◌, subst, arith, ⊎_elim, slice_index, if◌then◌else◌}
use Rattle.std.proofs.lemmas.Bool.{false≢true, cases_Bool, and_from, and_right, eq-eqb}
use Rattle.std.proofs.Math.Nat.{eq-or-lt_of_le}
use Rattle.std.specs.List.{AllByRecursion as Each}
use Rattle.packet_fields.specs.declared.packet.Packet.{Packet}
use Rattle.packet_fields.specs.Table.{row}
use Rattle.state_store.specs.Store.{Store, object_at}
use Rattle.flat_ir.specs.declared.program.ValueId.{ValueId}
use Rattle.flat_ir.specs.declared.program.FieldValue.{FieldValue}
use Rattle.flat_ir.specs.Program.{Program, Work, step_at, operands}
use Rattle.flat_ir.specs.Program.Work.{field, apply, shift, select, byte, look, put, del}
use Rattle.flat_ir.specs.Blocks.{Reading, nothing, is_on, same, block_at, line, is_live}
use Rattle.flat_ir.specs.Run.{after, flat_run, made, change_of, with_changes, verdict}
use Rattle.flat_ir.specs.WellFormed.{IsWellFormed, EachCondition, IsSeenFrom, IsInArm, SeesOperands, IsOutput, IsWritten}
use Rattle.flat_ir.specs.Kinds.{is_write}
use Rattle.flat_ir.specs.Laws.{Same, SameFor}
use Rattle.split_model.specs.declared.split.Part.{Part}
use Rattle.split_model.specs.Split.{pre_stage, is_pre}
use Rattle.split_model.specs.Legal.{IsLegal}
use Rattle.split_model.specs.Shown.{looks_at}
use Rattle.split_model.specs.Passes.{pre_values, meets_rest, AgreeOnShown}
use Rattle.split_model.specs.Laws.{IsExact}
use Rattle.split_model.proofs.Rules.{pre_kind, pre_rises, writes_not_pre}
use Rattle.split_model.proofs.Sights.{named_within, none_below, any_same, inside, SameSight, seen_same, no_change, sent_same, writes_same}
use Rattle.split_model.proofs.Stages.{staged_value}
use Rattle.flat_ir.proofs.AnyBelow.{any_passes}
use Rattle.flat_ir.proofs.Laws.{a_run_is_its_values, lines_of_blocks-arm, lines_of_blocks-line, lines_of_blocks-live, lines_of_blocks-seen, readings_that_agree-results}
use Rattle.lemmas.proofs.Lists.{each_weaker}

-- verdicts from the same numbers
pub verdict_same : (f : Program) (packet : Packet) (r r' : Reading) → Same r r' f.send → Same r r' f.port → Each (λ (w : FieldValue). Same r r' w.value) f.fields → verdict f packet r ≡ verdict f packet r'
verdict_same f packet r r' send port writes = sent_same send port (writes_same r r' f.fields packet.bytes writes)

module _ (f : Program) (split : List Part) (st tables : Store) (packet : Packet) where
  abbrev P : Reading
  P = pre_values f split tables packet

  abbrev F : Reading
  F = (flat_run f st packet).reads

  abbrev block_of : ℕ → ℕ
  block_of i = (step_at f i).block

  abbrev work_at : ℕ → Work
  work_at i = (step_at f i).work

  -- instructions before the n-th that are live are computed by the pass, and have its values
  abbrev AgreesAt : ℕ → Type 0
  AgreesAt i = is_live f.blocks F (block_of i) ≡ true → (is_pre split i ≡ true) × ((place : ℕ) → Same P F (record { instruction = i; result = place }))

  abbrev Agrees : ℕ → Type 0
  Agrees n = (i : ℕ) → i < n → AgreesAt i

  module _ (well : IsWellFormed f) (legal : IsLegal f split) where
    agree_on : (n : ℕ) → Agrees n → (k : ℕ) → is_live f.blocks F k ≡ true → (v : ValueId) → v.instruction < n → IsSeenFrom f k v → Same P F v
    agree_on n agrees k live v lt seen = (agrees v.instruction lt (lines_of_blocks-seen f F k v well seen live)).1 v.result

    agree_in : (n : ℕ) → Agrees n → (v : ValueId) → v.instruction < n → is_live f.blocks F (block_of v.instruction) ≡ true → Same P F v
    agree_in n agrees v lt live = (agrees v.instruction lt live).1 v.result

    agree_each : (n : ℕ) → Agrees n → (k : ℕ) → is_live f.blocks F k ≡ true → (vs : List ValueId) → Each (λ v. v.instruction < n) vs → Each (IsSeenFrom f k) vs → Each (Same P F) vs
    agree_each n agrees k live [] lt seen = tt
    agree_each n agrees k live (v ∷ vs) lt seen = (agree_on n agrees k live v lt.0 seen.0, agree_each n agrees k live vs lt.1 seen.1)

    agree_side : (n : ℕ) → Agrees n → (k : ℕ) → is_live f.blocks F k ≡ true → (c : ValueId) (polarity : Bool) → same polarity (is_on (F c)) ≡ true → (v : ValueId) → v.instruction < n → (IsSeenFrom f k v ⊎ IsInArm f k c polarity v) → Same P F v
    agree_side n agrees k live c polarity on v lt sees =
        ⊎_elim (λ seen. agree_on n agrees k live v lt seen) (λ arm. agree_in n agrees v lt (lines_of_blocks-arm f F k c polarity v well arm live on)) sees

    each_split : (keys values : List ValueId) (Q : ValueId → Type 0) → Each Q (keys ++ values) → Each Q keys × Each Q values
    each_split [] values Q h = (tt, h)
    each_split (v ∷ keys) values Q h = let r = each_split keys values Q h.1 in ((h.0, r.0), r.1)

    -- in a live block an instruction reads the same
    for_work : (n : ℕ) → Agrees n → (k : ℕ) → is_live f.blocks F k ≡ true → (work : Work) → Each (λ v. v.instruction < n) (operands work) → SeesOperands f k work → SameFor P F work
    for_work n agrees k live (apply op width args) lt sees = agree_each n agrees k live args lt sees
    for_work n agrees k live (shift op width arg by) lt sees = agree_on n agrees k live arg lt.0 sees
    for_work n agrees k live (select width c first second) lt sees =
        let e : Same P F c = agree_on n agrees k live c lt.0 sees.0 in
        (e, λ on. agree_side n agrees k live c true (ap is_on (sym e) ∙ on) first lt.1.0 sees.1, λ off. agree_side n agrees k live c false (ap (λ n. same false (is_on n)) (sym e) ∙ ap (same false) off) second lt.1.1.0 sees.2)
    for_work n agrees k live (byte index) lt sees = agree_on n agrees k live index lt.0 sees
    for_work n agrees k live (look object keys) lt sees = agree_each n agrees k live keys lt sees
    for_work n agrees k live (put object keys values) lt sees =
        let parts = each_split keys values (λ v. v.instruction < n) lt in
        (agree_each n agrees k live keys parts.0 sees.0, agree_each n agrees k live values parts.1 sees.1)
    for_work n agrees k live (del object keys) lt sees = agree_each n agrees k live keys lt sees
    for_work n agrees k live _ lt sees = tt

    -- a block whose conditions stand is live by both or by none
    same_live : (n : ℕ) → Agrees n → (u k : ℕ) → k ≤ u → k ≤ length f.blocks → Each (EachCondition f (λ c. c.instruction < n)) (line f.blocks k) → is_live f.blocks P k ≡ is_live f.blocks F k
    same_live n agrees u zero le there lt = refl
    same_live n agrees zero (suc k) le there lt = absurd (omega (arith, le))
    same_live n agrees (suc u) (suc k) le there lt =
        let parent = (block_at f.blocks k).parent in
        let c = (block_at f.blocks k).cond in
        let polarity = (block_at f.blocks k).polarity in
        let low : parent ≤ k = well.parents k (omega (arith, there)) in
        let parts = subst (Each (EachCondition f (λ c. c.instruction < n))) (lines_of_blocks-line f.blocks k well.parents) lt in
        let rest : is_live f.blocks P parent ≡ is_live f.blocks F parent = same_live n agrees u parent (omega (arith, low, le)) (omega (arith, low, there)) parts.1 in
        lines_of_blocks-live f.blocks P k well.parents
        ∙ ⊎_elim
        (λ on. ap (λ b. same polarity (is_on (P c)) && b) rest ∙ ap (λ m. same polarity (is_on m) && is_live f.blocks F parent) (agree_on n agrees parent on c parts.0 (well.conditions k (omega (arith, there)))))
        (λ off. and_right (same polarity (is_on (P c))) (is_live f.blocks P parent) (rest ∙ off) ∙ sym (and_right (same polarity (is_on (F c))) (is_live f.blocks F parent) off))
        (cases_Bool (is_live f.blocks F parent))
        ∙ sym (lines_of_blocks-live f.blocks F k well.parents)

    live_both : (n : ℕ) → Agrees n → (i : ℕ) → i ≤ n → i < length f.code → is_live f.blocks P (block_of i) ≡ is_live f.blocks F (block_of i)
    live_both n agrees i le within =
        same_live i (λ j lt. agrees j (omega (arith, le, lt))) (block_of i) (block_of i) (omega arith) (well.blocks i within) (well.after_conditions i within)

    -- what isn't in the pass is not live, so nothing is written
    nothing_made : (n : ℕ) → n < length f.code → (is_live f.blocks F (block_of n) ≡ true → is_pre split n ≡ true) → made (is_live f.blocks (after f st packet n).reads (block_of n)) (change_of (after f st packet n).reads (after f st packet n).store (work_at n)) ≡ []
    nothing_made n within gate =
        let m = after f st packet n in
        let change = change_of m.reads m.store (work_at n) in
        ⊎_elim
        (λ write. ap (λ l. made l change) ((a_run_is_its_values f st packet n well within).live ∙ not_live (is_live f.blocks F (block_of n)) gate (writes_not_pre f split legal n within write)))
        (λ none. no_change m.reads (is_live f.blocks m.reads (block_of n)) m.store (work_at n) none)
        (cases_Bool (is_write (work_at n)))
      where
        not_live : (l : Bool) → (l ≡ true → is_pre split n ≡ true) → is_pre split n ≡ false → l ≡ false
        not_live true go not = absurd (false≢true (sym not ∙ go refl))
        not_live false go not = refl

    module _ (shows : AgreeOnShown f split tables st) where
      sight : (i : ℕ) → i < length f.code → is_pre split i ≡ true → (now : Store) → now ≡ st → (work : Work) → work_at i ≡ work → SameSight tables now work
      sight i within pre now e (look object keys) is =
          shows object (any_passes (length f.code) (λ j. is_pre split j && looks_at object (work_at j)) i within (and_from (is_pre split i) (looks_at object (work_at i)) pre (ap (looks_at object) is ∙ eq-eqb object object refl)))
          ∙ ap (λ s. object_at s object) (sym e)
      sight i within pre now e _ is = tt

      agree_step : (n : ℕ) → n < length f.code → Agrees n → (after f st packet n).store ≡ st → is_live f.blocks F (block_of n) ≡ true → is_pre split n ≡ true → (place : ℕ) → Same P F (record { instruction = n; result = place })
      agree_step n within agrees same live pre place =
          let now = (after f st packet n).store in
          let l = is_live f.blocks F (block_of n) in
          staged_value f (pre_stage split) nothing tables packet (record { instruction = n; result = place }) pre (pre_rises f split legal) within
          ∙ ap (λ rs. slice_index rs place) (readings_that_agree-results P F false tables packet (work_at n) (for_work n agrees (block_of n) live (work_at n) (well.after_operands n within) (well.sees n within)))
          ∙ ap (λ rs. slice_index rs place) (seen_same F false l tables now packet (work_at n) (pre_kind f split legal n within pre) (sight n within pre now same (work_at n) refl))
          ∙ sym ((a_run_is_its_values f st packet n well within).value place)

      -- what lets an instruction be in the pass
      abbrev Gate : Type 0
      Gate = (n : ℕ) → n < length f.code → Agrees n → is_live f.blocks F (block_of n) ≡ true → is_pre split n ≡ true

      abbrev Claim : ℕ → Type 0
      Claim n = Agrees n × ((after f st packet n).store ≡ st) × ((after f st packet n).changes ≡ [])

      claim : Gate → (n : ℕ) → n ≤ length f.code → Claim n
      claim gate zero le = (λ i lt. absurd (omega (arith, lt)), refl, refl)
      claim gate (suc n) le =
          let c = claim gate n (omega (arith, le)) in
          let g = gate n le c.0 in
          let m = after f st packet n in
          let none = nothing_made n le g in (
            λ i lt. ⊎_elim (λ e. subst AgreesAt (sym e) (λ live. (g live, agree_step n le c.0 c.1 live (g live)))) (λ less. c.0 i less) (eq-or-lt_of_le {n = i} {m = n} (omega (arith, lt))),
            ap (with_changes m.store) none ∙ c.1,
            ap (λ cs. m.changes ++ cs) none ∙ ap (λ cs. cs ++ []) c.2,
          )

      gate_fast : meets_rest f split F ≡ false → Gate
      gate_fast none n within agrees live =
          inside (is_pre split n) (is_live f.blocks F (block_of n)) (none_below (length f.code) (λ i. not (is_pre split i) && is_live f.blocks F (block_of i)) n none within) live

      gate_pass : meets_rest f split P ≡ false → Gate
      gate_pass none n within agrees live =
          inside (is_pre split n) (is_live f.blocks P (block_of n)) (none_below (length f.code) (λ i. not (is_pre split i) && is_live f.blocks P (block_of i)) n none within) (live_both n agrees n (omega arith) within ∙ live)

      meets_same : Agrees (length f.code) → meets_rest f split P ≡ meets_rest f split F
      meets_same agrees =
          any_same (length f.code) (λ i. not (is_pre split i) && is_live f.blocks P (block_of i)) (λ i. not (is_pre split i) && is_live f.blocks F (block_of i)) (λ i within. ap (λ l. not (is_pre split i) && l) (live_both (length f.code) agrees i (omega (arith, within)) within))

      -- the pass meets the rest exactly where the run does
      meets : meets_rest f split P ≡ meets_rest f split F
      meets =
          ⊎_elim
          (λ yes. ⊎_elim (λ also. yes ∙ sym also) (λ none. meets_same (claim (gate_fast none) (length f.code) (omega arith)).0) (cases_Bool (meets_rest f split F)))
          (λ none. meets_same (claim (gate_pass none) (length f.code) (omega arith)).0)
          (cases_Bool (meets_rest f split P))

      root_same : Agrees (length f.code) → (width : ℕ) (v : ValueId) → IsOutput f width v → Same P F v
      root_same agrees width v out = agree_in (length f.code) agrees v (named_within f v out.named) (ap (is_live f.blocks F) out.root)

      verdicts : meets_rest f split F ≡ false → verdict f packet P ≡ verdict f packet F
      verdicts none =
          let agrees = (claim (gate_fast none) (length f.code) (omega arith)).0 in
          verdict_same f packet P F (root_same agrees 1 f.send well.send) (root_same agrees 8 f.port well.port)
          (each_weaker (IsWritten f) (λ (w : FieldValue). Same P F w.value) (λ (w : FieldValue) out. root_same agrees (row w.field).width w.value out.output) f.fields well.fields)

      not_from : (b : Bool) → not b ≡ true → b ≡ false
      not_from true e = absurd (false≢true e)
      not_from false e = refl

      ends : (b : Bool) → meets_rest f split F ≡ b → (if b then None else Some (verdict f packet P)) ≡ (if not b then Some (verdict f packet F) else None)
      ends true e = refl
      ends false e = ap Some (verdicts e)

      pub is_exact : IsExact f split st tables packet
      is_exact = record {
        finishes = ap not meets;
        verdict = ap (λ b. if b then None else Some (verdict f packet P)) meets ∙ ends (meets_rest f split F) refl;
        store = λ fast. (claim (gate_fast (not_from (meets_rest f split F) fast)) (length f.code) (omega arith)).1;
        changes = λ fast. (claim (gate_fast (not_from (meets_rest f split F) fast)) (length f.code) (omega arith)).2;
      }
