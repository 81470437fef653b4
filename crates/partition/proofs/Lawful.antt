-- Every greatest split is legal.
use Rattle.std.proofs.Common.{◌≡◌, ℕ, zero, suc, ◌<◌, Bool, true, false, ◌&&◌, ◌||◌, ◌==◌, not, List, [], ◌∷◌, Option, Some, None, inl, inr, refl, sym, ap, ◌∙◌, subst, arith, length, map, is_some, nat_lt}
use Rattle.std.specs.Prelude.{slice_index, slice_index_or, IsTrue}
use Rattle.std.specs.List.{list_all, list_any, AllByRecursion as Each}
use Rattle.std.proofs.lemmas.List.{length-map}
use Rattle.std.proofs.lemmas.Bool.{cases_Bool, and_from, or_left, or_right, eq-eqb, eqb-true, lt-ltb, false_from_ne_true, not_from_true, or_from}
use Rattle.flat_ir.specs.declared.program.ValueId.{ValueId}
use Rattle.flat_ir.specs.Program.{Program, Step, Work, is_value, step_at, operands}
use Rattle.flat_ir.specs.Program.Work.{const}
use Rattle.flat_ir.specs.Blocks.{line, block_at, same}
use Rattle.flat_ir.specs.Kinds.{needed, fits_switch, can_switch, is_write, is_input, is_field, is_mutable_look}
use Rattle.flat_ir.specs.WellFormed.{IsWellFormed}
use Rattle.flat_ir.specs.Sets.{IsMarked, IsAt, Reads, EachIs, IsPostClosed, IsPreClosed, IsCarriedClosed}
use Rattle.flat_ir.specs.Guards.{is_condition, decides_on}
use Rattle.flat_ir.specs.Stages.{IsStaged}
use Rattle.split_model.specs.declared.split.Part.{Part}
use Rattle.split_model.specs.declared.split.Slow.{Slow}
use Rattle.split_model.specs.declared.split.Slow.TheVariants.{Server}
use Rattle.split_model.specs.Split.{part_at, pre_stage, post_stage, is_pre, is_carried, is_server, is_post, is_served, is_carried_up, stage_after}
use Rattle.split_model.specs.Counts.{stage_or_zero}
use Rattle.split_model.specs.Legal.{IsLegal, rules, breaks, rule_1, rule_2, rule_3, rule_4, rule_5, rule_6, rule_7, rule_8, rule_9, is_post_condition, is_not_lower, is_misplaced}
use Rattle.split_model.specs.Greatest.{pre_marks, carried_marks, post_marks, pre_stages, post_stages, IsPostSet, IsGreatestSplit}
use Rattle.dependence.proofs.MarkedPlaces.{unset_marked}
use Rattle.dependence.proofs.PlacedCode.{step_there}
use Rattle.dependence.proofs.Present.{at_here}
use Rattle.flat_ir.proofs.Exact.{same_itself}
use Rattle.flat_ir.proofs.AnyBelow.{any_passes}
use Rattle.lemmas.proofs.Tests.{and_second}
use Rattle.dependence.proofs.Laws.{depths_are_least-staged}

-- ## Tests

pub and_no : (a b : Bool) → (a ≡ true → b ≡ false) → (a && b) ≡ false
and_no true b h = h refl
and_no false b h = refl

-- ## Marks and stages of a split

abbrev pub left : Part
left = record { pre = None; slow = Server }

mark_at : (g : Part → Bool) → g left ≡ false → (split : List Part) (i : ℕ) → slice_index_or (map g split) i false ≡ g (part_at split i)
mark_at g e [] i = sym e
mark_at g e (x ∷ xs) zero = refl
mark_at g e (x ∷ xs) (suc i) = mark_at g e xs i

number_at : (g : Part → ℕ) → g left ≡ 0 → (split : List Part) (i : ℕ) → slice_index (map g split) i ≡ g (part_at split i)
number_at g e [] i = sym e
number_at g e (x ∷ xs) zero = refl
number_at g e (x ∷ xs) (suc i) = number_at g e xs i

pub pre_at : (split : List Part) (i : ℕ) → slice_index_or (pre_marks split) i false ≡ is_pre split i
pre_at split i = mark_at (λ (part : Part). is_some part.pre) refl split i

pub carried_at : (split : List Part) (i : ℕ) → slice_index_or (carried_marks split) i false ≡ is_carried split i
carried_at split i = mark_at (λ (part : Part). is_carried_up part.slow) refl split i

pub post_at : (split : List Part) (i : ℕ) → slice_index_or (post_marks split) i false ≡ is_post split i
post_at split i = mark_at (λ (part : Part). is_some (stage_after part.slow)) refl split i

pub pre_stage_at : (split : List Part) (i : ℕ) → slice_index (pre_stages split) i ≡ stage_or_zero (pre_stage split i)
pre_stage_at split i = number_at (λ (part : Part). stage_or_zero part.pre) refl split i

pub post_stage_at : (split : List Part) (i : ℕ) → slice_index (post_stages split) i ≡ stage_or_zero (post_stage split i)
post_stage_at split i = number_at (λ (part : Part). stage_or_zero (stage_after part.slow)) refl split i

served : (s : Slow) → is_served s ≡ true → (is_carried_up s ≡ false) × (is_some (stage_after s) ≡ false)
served Server h = (refl, refl)
served _ h = cc

all_served : (s : Slow) → is_carried_up s ≡ false → is_some (stage_after s) ≡ false → is_served s ≡ true
all_served Server h k = refl
all_served _ h k = cc

-- ## Instructions and what they read

kind_here : (f : Program) (marks : List Bool) (P : Step → Type 0) (i : ℕ) → EachIs f marks P → IsMarked marks i → P (step_at f i)
kind_here f marks P i each m = let e = each i m in subst P (sym (step_there f i e.0 e.1)) e.2

all_reads : (t : ℕ → Bool) (vs : List ValueId) → ((j : ℕ) → Reads vs j → t j ≡ true) → list_all (λ (v : ValueId). t v.instruction) vs ≡ true
all_reads t [] h = refl
all_reads t (v ∷ vs) h = rw (h v.instruction (inl refl)) (all_reads t vs (λ j r. h j (inr r)))

no_reads : (t : ℕ → Bool) (vs : List ValueId) → ((j : ℕ) → Reads vs j → t j ≡ false) → list_any (λ (v : ValueId). t v.instruction) vs ≡ false
no_reads t [] h = refl
no_reads t (v ∷ vs) h = rw (h v.instruction (inl refl)) (no_reads t vs (λ j r. h j (inr r)))

no_conditions : (f : Program) (split : List Part) (ks : List ℕ) → ((v : ValueId) → list_any (is_condition f v) ks ≡ true → is_post split v.instruction ≡ false)
    → list_any (is_post_condition f split) ks ≡ false
no_conditions f split [] h = refl
no_conditions f split (zero ∷ ks) h = no_conditions f split ks (λ v q. h v q)
no_conditions f split (suc k ∷ ks) h =
    let c : ValueId = (block_at f.blocks k).cond in
    or_from (is_post split c.instruction) (list_any (is_post_condition f split) ks)
    (h c (or_left (is_value c c) (list_any (is_condition f c) ks) (same_itself c)))
    (no_conditions f split ks (λ v q. h v (or_right (is_condition f v (suc k)) (list_any (is_condition f v) ks) q)))

write_not_switch : (work : Work) → is_write work ≡ true → can_switch work ≡ true → ⊥
write_not_switch (const width number) h k = cc
write_not_switch _ h k = cc

-- no set of what the switch computes has a write
no_write : (s : Step) → is_write s.work ≡ true → fits_switch s ≡ true → ⊥
no_write s w h = write_not_switch s.work w (and_second (not s.looped) (can_switch s.work) h)

-- ## Stages

input_zero : (b : Bool) (own : ℕ) → (b ≡ true → own ≡ 0) → (b ≡ false → 0 < own) → not (same b (own == 0)) ≡ false
input_zero true own z l = not_from_true (own == 0) (eq-eqb own 0 (z refl))
input_zero false own z l = elim (cases_Bool (own == 0)) [
  | inl t ↦ absurd (let h = l refl in let e = eqb-true own 0 t in omega (arith, h, e))
  | inr n ↦ rw n refl
]

lower : (o : Option ℕ) (own : ℕ) → (is_some o ≡ true → stage_or_zero o < own) → is_not_lower o own ≡ false
lower None own h = refl
lower (Some other) own h = not_from_true (nat_lt other own) (lt-ltb other own (h refl))

well_placed : (f : Program) (stage : ℕ → Option ℕ) (marks : List Bool) (stages : List ℕ) → ((j : ℕ) → slice_index_or marks j false ≡ is_some (stage j))
    → ((j : ℕ) → slice_index stages j ≡ stage_or_zero (stage j)) → IsStaged f marks stages → (i : ℕ) → i < length f.code
    → (o : Option ℕ) → stage i ≡ o → is_misplaced f stage i o ≡ false
well_placed f stage marks stages marked numbered staged i lt None is = refl
well_placed f stage marks stages marked numbered staged i lt (Some own) is =
    let s : Step = step_at f i in
    let at : IsAt f i s = at_here f i lt in
    let m : IsMarked marks i = marked i ∙ ap is_some is in
    let n : slice_index stages i ≡ own = numbered i ∙ ap stage_or_zero is in
    or_from (not (same (is_input s.work) (own == 0))) (list_any (λ (v : ValueId). is_not_lower (stage v.instruction) own) (operands s.work))
    (input_zero (is_input s.work) own (λ h. sym n ∙ staged.given i s m at h) (λ h. let l = staged.later i s m at h in omega (arith, l, n)))
    (no_reads (λ j. is_not_lower (stage j) own) (operands s.work) (λ j r. lower (stage j) own
    (λ some. let l = staged.rising i j s m at r (marked j ∙ some) in let e = numbered j in omega (arith, l, n, e))))

-- ## What is closed breaks no rule

-- nothing at all is closed for postprocessing
pub none_closed : (f : Program) (carried post : List Bool) → ((i : ℕ) → IsMarked post i → ⊥) → IsPostClosed f carried post
none_closed f carried post none = record {
  apart = λ i h. absurd (none i h);
  kinds = λ i h. absurd (none i h);
  readers = λ u j one h at r free. absurd (none j h);
  guards = λ i h g. none i h;
}

pub post_closed : (f : Program) (all : Bool) (carried post : List Bool) → IsPostSet f all carried post → IsPostClosed f carried post
post_closed f true carried post set = set.closed
post_closed f false carried post set =
    none_closed f carried post (λ i h. unset_marked (length f.code) i (subst (λ (marks : List Bool). IsMarked marks i) set h))

each_rule : (rs : List (Program → List Part → ℕ → Bool)) (f : Program) (split : List Part) (i : ℕ) → Each (λ (r : Program → List Part → ℕ → Bool). r f split i ≡ false) rs
    → (n : ℕ) → (slice_index_or rs n (λ f split i. false)) f split i ≡ false
each_rule [] f split i h n = refl
each_rule (r ∷ rs) f split i h zero = h.0
each_rule (r ∷ rs) f split i h (suc n) = each_rule rs f split i h.1 n

-- what is closed in each of its sets, and has stages that rise
pub record IsClosed (f : Program) (split : List Part) : Type 0 where
  pub number : ℕ
  pub pre : IsPreClosed f number (pre_marks split)
  pub carried : IsCarriedClosed f (pre_marks split) (carried_marks split)
  pub post : IsPostClosed f (carried_marks split) (post_marks split)
  pub pre_staged : IsStaged f (pre_marks split) (pre_stages split)
  pub post_staged : IsStaged f (post_marks split) (post_stages split)

module _ (f : Program) (split : List Part) (is : IsClosed f split) (i : ℕ) (lt : i < length f.code) where
  at : IsAt f i (step_at f i)
  at = at_here f i lt

  keeps_1 : rule_1 f split i ≡ false
  keeps_1 = and_no (is_pre split i) (not (fits_switch (step_at f i)))
      (λ p. not_from_true (fits_switch (step_at f i)) (kind_here f (pre_marks split) (λ one. IsTrue (fits_switch one)) i is.pre.kinds (pre_at split i ∙ p)))

  keeps_2 : rule_2 f split i ≡ false
  keeps_2 = and_no (is_pre split i) (not (list_all (λ (v : ValueId). is_pre split v.instruction) (needed (step_at f i).work)))
      (λ p. not_from_true (list_all (λ (v : ValueId). is_pre split v.instruction) (needed (step_at f i).work))
      (all_reads (is_pre split) (needed (step_at f i).work) (λ j r. sym (pre_at split j) ∙ is.pre.needs i j (step_at f i) (pre_at split i ∙ p) at r)))

  keeps_3 : rule_3 f split i ≡ false
  keeps_3 = and_no (is_carried split i) (not (is_pre split i)) (λ c. not_from_true (is_pre split i) (sym (pre_at split i) ∙ is.carried.within i (carried_at split i ∙ c)))

  keeps_4 : rule_4 f split i ≡ false
  keeps_4 = and_no (is_carried split i) (is_mutable_look f (step_at f i).work)
      (λ c. kind_here f (carried_marks split) (λ one. is_mutable_look f one.work ≡ false) i is.carried.looks (carried_at split i ∙ c))

  keeps_5 : rule_5 f split i ≡ false
  keeps_5 = and_no (is_carried split i) (not (list_all (λ (v : ValueId). is_carried split v.instruction) (operands (step_at f i).work)))
      (λ c. not_from_true (list_all (λ (v : ValueId). is_carried split v.instruction) (operands (step_at f i).work))
      (all_reads (is_carried split) (operands (step_at f i).work) (λ j r. sym (carried_at split j) ∙ is.carried.operands i j (step_at f i) (carried_at split i ∙ c) at r)))

  reads_no_post : is_server split i ≡ true → (j : ℕ) → Reads (operands (step_at f i).work) j → is_post split j ≡ false
  reads_no_post sv j r = false_from_ne_true (is_post split j) (λ p.
      let of = served (part_at split i).slow sv in
      let back : is_post split i ≡ true = sym (post_at split i) ∙ is.post.readers i j (step_at f i) (post_at split j ∙ p) at r (carried_at split i ∙ of.0) in
      (let not : is_post split i ≡ false = of.1 in cc))

  guards_none : is_write (step_at f i).work ≡ true → (v : ValueId) → decides_on f v (step_at f i).block ≡ true → is_post split v.instruction ≡ false
  guards_none w v chain = false_from_ne_true (is_post split v.instruction) (λ p.
      is.post.guards v.instruction (post_at split v.instruction ∙ p) (record {
        value = v;
        own = refl;
        guards = any_passes (length f.code) (λ n. is_write (step_at f n).work && decides_on f v (step_at f n).block) i lt
            (and_from (is_write (step_at f i).work) (decides_on f v (step_at f i).block) w chain);
      }))

  keeps_6 : rule_6 f split i ≡ false
  keeps_6 = or_from (is_server split i && list_any (λ (v : ValueId). is_post split v.instruction) (operands (step_at f i).work))
      (is_write (step_at f i).work && list_any (is_post_condition f split) (line f.blocks (step_at f i).block))
      (and_no (is_server split i) (list_any (λ (v : ValueId). is_post split v.instruction) (operands (step_at f i).work))
      (λ sv. no_reads (is_post split) (operands (step_at f i).work) (reads_no_post sv)))
      (and_no (is_write (step_at f i).work) (list_any (is_post_condition f split) (line f.blocks (step_at f i).block))
      (λ w. no_conditions f split (line f.blocks (step_at f i).block) (guards_none w)))

  keeps_7 : rule_7 f split i ≡ false
  keeps_7 = and_no (is_post split i) (not (fits_switch (step_at f i)) || (is_mutable_look f (step_at f i).work || is_field (step_at f i).work))
      (λ p. let k = kind_here f (post_marks split) (λ one. IsTrue (fits_switch one) × (is_mutable_look f one.work ≡ false) × (is_field one.work ≡ false)) i is.post.kinds (post_at split i ∙ p) in
      or_from (not (fits_switch (step_at f i))) (is_mutable_look f (step_at f i).work || is_field (step_at f i).work) (not_from_true (fits_switch (step_at f i)) k.0)
      (or_from (is_mutable_look f (step_at f i).work) (is_field (step_at f i).work) k.1 k.2))

  write_no_pre : is_write (step_at f i).work ≡ true → is_pre split i ≡ false
  write_no_pre w = false_from_ne_true (is_pre split i) (λ p.
      no_write (step_at f i) w (kind_here f (pre_marks split) (λ one. IsTrue (fits_switch one)) i is.pre.kinds (pre_at split i ∙ p)))

  write_no_post : is_write (step_at f i).work ≡ true → is_post split i ≡ false
  write_no_post w = false_from_ne_true (is_post split i) (λ p.
      let k = kind_here f (post_marks split) (λ one. IsTrue (fits_switch one) × (is_mutable_look f one.work ≡ false) × (is_field one.work ≡ false)) i is.post.kinds (post_at split i ∙ p) in
      no_write (step_at f i) w k.0)

  write_no_carried : is_write (step_at f i).work ≡ true → is_carried split i ≡ false
  write_no_carried w = false_from_ne_true (is_carried split i) (λ c.
      let p : is_pre split i ≡ true = sym (pre_at split i) ∙ is.carried.within i (carried_at split i ∙ c) in
      let q = write_no_pre w in
      (cc))

  keeps_8 : rule_8 f split i ≡ false
  keeps_8 = and_no (is_write (step_at f i).work) (is_pre split i || not (is_server split i))
      (λ w. or_from (is_pre split i) (not (is_server split i)) (write_no_pre w)
      (not_from_true (is_server split i) (all_served (part_at split i).slow (write_no_carried w) (write_no_post w))))

  keeps_9 : rule_9 f split i ≡ false
  keeps_9 = or_from (is_misplaced f (pre_stage split) i (pre_stage split i)) (is_misplaced f (post_stage split) i (post_stage split i))
      (well_placed f (pre_stage split) (pre_marks split) (pre_stages split) (pre_at split) (pre_stage_at split) is.pre_staged i lt (pre_stage split i) refl)
      (well_placed f (post_stage split) (post_marks split) (post_stages split) (post_at split) (post_stage_at split) is.post_staged i lt (post_stage split i) refl)

  pub keeps_rules : (rule : ℕ) → breaks rule f split i ≡ false
  keeps_rules zero = refl
  keeps_rules (suc n) =
      each_rule rules f split i (keeps_1, (keeps_2, (keeps_3, (keeps_4, (keeps_5, (keeps_6, (keeps_7, (keeps_8, (keeps_9, tt))))))))) n

pub closed_legal : (f : Program) (split : List Part) → length split ≡ length f.code → IsClosed f split → IsLegal f split
closed_legal f split count is = record { count = count; kept = λ rule i lt. keeps_rules f split is i lt rule }

pub as_many : (f : Program) (k : ℕ) (all : Bool) (split : List Part) → IsGreatestSplit f k all split → length split ≡ length f.code
as_many f k all split is = sym (length-map split (λ (part : Part). is_some part.pre)) ∙ is.pre.count

pub greatest_legal : (f : Program) (k : ℕ) (all : Bool) (split : List Part) → IsWellFormed f → IsGreatestSplit f k all split → IsLegal f split
greatest_legal f k all split formed is =
    closed_legal f split (as_many f k all split is) (record {
      number = k;
      pre = is.pre.closed;
      carried = is.carried.closed;
      post = post_closed f all (carried_marks split) (post_marks split) is.post;
      pre_staged = depths_are_least-staged f (pre_marks split) (pre_stages split) formed is.pre_depths;
      post_staged = depths_are_least-staged f (post_marks split) (post_stages split) formed is.post_depths;
    })
