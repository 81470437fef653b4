-- What preprocessing takes by itself, it also takes among more instructions.
use Rattle.std.proofs.Common.{◌≡◌, ℕ, zero, suc, ◌+◌, ◌*◌, ◌≤◌, Bool, true, false, ◌&&◌, ◌||◌, not, List, [], ◌∷◌, ◌++◌, Some, None, inl, inr, refl, sym, ap, ◌∙◌, subst, arith, length}
use Rattle.std.specs.Prelude.{All, if◌then◌else◌}
use Rattle.std.specs.List.{find}
use Rattle.std.proofs.lemmas.Bool.{cases_Bool, or_cases, or_left, or_right, false_from_ne_true}
use Rattle.std.proofs.lemmas.List.Elements.{All-nil, All-cons, All-head, All-tail, All-append}
use Rattle.gal_bits.specs.Fitting.{sum_of}
use Rattle.state_store.specs.declared.object.ObjectDecl.{ObjectDecl}
use Rattle.state_store.specs.Kinds.{is_table, is_constant}
use Rattle.flat_ir.specs.Program.{Program, any_below, step_at}
use Rattle.flat_ir.specs.WellFormed.{IsWellFormed}
use Rattle.flat_ir.specs.Sets.{IsMarked, IsWithin}
use Rattle.flat_ir.specs.Stages.{IsStaged}
use Rattle.split_model.specs.declared.split.Part.{Part}
use Rattle.split_model.specs.Split.{is_pre, is_post, pre_stage, post_stage}
use Rattle.split_model.specs.Shown.{looks_at, writes_to, is_shown, is_replicated}
use Rattle.split_model.specs.Counts.{count_below, accesses, writes, stage_or_zero, highest_below, is_post_shown, object_bits, bits_from}
use Rattle.split_model.specs.Greatest.{pre_marks, pre_stages, IsGreatestSplit}
use Rattle.resource_limits.specs.declared.limits.Limits.{Limits}
use Rattle.resource_limits.specs.declared.counting.Counts.{Counts}
use Rattle.resource_limits.specs.declared.exceeding.Over.{Over}
use Rattle.resource_limits.specs.declared.exceeding.LimitName.TheVariants.{Accesses, Stages, TableBits, Writeback, TransferBytes}
use Rattle.resource_limits.specs.Counts.{first_numbers, counts_of}
use Rattle.resource_limits.specs.Kept.{Keeps, KeepsLimits, first_excess, of_objects, of_all, exceeds}
use Rattle.partition.specs.Choice.{IsKept}
use Rattle.partition.specs.Tried.{IsTooMuch}
use Rattle.partition.proofs.Lawful.{pre_at, post_at, pre_stage_at, post_stage_at}
use Rattle.dependence.proofs.MarkedPlaces.{unset_marked}
use Rattle.dependence.proofs.Laws.{depths_are_least-least, depths_are_least-staged}
use Rattle.resource_limits.proofs.Laws.{kept_limits_are_not_exceeded}

-- ## Numbers that grow

more_pass : (n : ℕ) (test other : ℕ → Bool) → ((i : ℕ) → test i ≡ true → other i ≡ true) → any_below n test ≡ true → any_below n other ≡ true
more_pass zero test other h t = t
more_pass (suc n) test other h t = elim (or_cases (any_below n test) (test n) t) [
  | inl before ↦ or_left (any_below n other) (other n) (more_pass n test other h before)
  | inr here ↦ or_right (any_below n other) (other n) (h n here)
]

one_more : (a b : Bool) → (a ≡ true → b ≡ true) → (if a then 1 else 0) ≤ (if b then 1 else 0)
one_more true b h = rw (h refl) (omega arith)
one_more false b h = omega arith

more_counted : (n : ℕ) (test other : ℕ → Bool) → ((i : ℕ) → test i ≡ true → other i ≡ true) → count_below n test ≤ count_below n other
more_counted zero test other h = omega arith
more_counted (suc n) test other h =
    let before = more_counted n test other h in
    let here = one_more (test n) (other n) (h n) in
    omega (arith, before, here)

last_of : (P : ℕ → Type 0) (ms : List ℕ) (m : ℕ) → All P (ms ++ m ∷ []) → P m
last_of P [] m h = All-head P m [] h
last_of P (x ∷ xs) m h = last_of P xs m (All-tail P x (xs ++ m ∷ []) h)

front_of : (P : ℕ → Type 0) (ms : List ℕ) (m : ℕ) → All P (ms ++ m ∷ []) → All P ms
front_of P [] m h = All-nil P
front_of P (x ∷ xs) m h = All-cons P x xs (All-head P x (xs ++ m ∷ []) h) (front_of P xs m (All-tail P x (xs ++ m ∷ []) h))

fewer_kept : (number other : ℕ → ℕ) (most n : ℕ) → ((o : ℕ) → number o ≤ other o) → All (λ m. m ≤ most) (first_numbers n other) → All (λ m. m ≤ most) (first_numbers n number)
fewer_kept number other most zero less h = All-nil (λ m. m ≤ most)
fewer_kept number other most (suc n) less h =
    let last = last_of (λ m. m ≤ most) (first_numbers n other) (other n) h in
    let here : number n ≤ most = (let l = less n in omega (arith, l, last)) in
    All-append (λ m. m ≤ most) (first_numbers n number) (number n ∷ [])
    (fewer_kept number other most n less (front_of (λ m. m ≤ most) (first_numbers n other) (other n) h))
    (All-cons (λ m. m ≤ most) (number n) [] here (All-nil (λ m. m ≤ most)))

both_more : (a b c : Bool) → (a ≡ true → b ≡ true) → (a && c) ≡ true → (b && c) ≡ true
both_more true b c h k = rw (h refl) k
both_more false b c h k = cc

if_more : (a b : Bool) (n : ℕ) → (a ≡ true → b ≡ true) → (if a then n else 0) ≤ (if b then n else 0)
if_more true b n h = rw (h refl) (omega arith)
if_more false b n h = omega arith

-- an object's bits, by whether it is a table and what is shown
bits_more : (table a b c d : Bool) (rows both : ℕ) → (a ≡ true → c ≡ true) → (b ≡ true → d ≡ true)
    → (if table then (if a || b then rows else 0) else (if a then both else 0)) ≤ (if table then (if c || d then rows else 0) else (if c then both else 0))
bits_more true a b c d rows both h k = if_more (a || b) (c || d) rows
    (λ t. elim (or_cases a b t) [ inl x ↦ or_left c d (h x) | inr y ↦ or_right c d (k y) ])
bits_more false a b c d rows both h k = if_more a c both h

-- ## Preprocessing among fewer instructions, and no postprocessing

module _ (f : Program) (well : IsWellFormed f) (k n : ℕ) (fewer : k ≤ n) (all : Bool) (split other : List Part)
    (is : IsGreatestSplit f k false split) (more : IsGreatestSplit f n all other) where
  within : IsWithin (pre_marks split) (pre_marks other)
  within = more.pre.greatest (pre_marks split) (record {
    below = λ i m. (let l = is.pre.closed.below i m in omega (arith, l, fewer));
    kinds = is.pre.closed.kinds;
    needs = is.pre.closed.needs;
  })

  in_pre : (i : ℕ) → is_pre split i ≡ true → is_pre other i ≡ true
  in_pre i h = sym (pre_at other i) ∙ within i (pre_at split i ∙ h)

  no_post : (i : ℕ) → is_post split i ≡ false
  no_post i = false_from_ne_true (is_post split i) (λ h. unset_marked (length f.code) i (subst (λ (marks : List Bool). IsMarked marks i) is.post (post_at split i ∙ h)))

  in_post : (i : ℕ) → is_post split i ≡ true → is_post other i ≡ true
  in_post i h = absurd (let n = no_post i in cc)

  lower_pre : (i : ℕ) → stage_or_zero (pre_stage split i) ≤ stage_or_zero (pre_stage other i)
  lower_pre i =
      let all_staged = depths_are_least-staged f (pre_marks other) (pre_stages other) well more.pre_depths in
      let some_staged : IsStaged f (pre_marks split) (pre_stages other) = record {
        given = λ i one m at input. all_staged.given i one (within i m) at input;
        later = λ i one m at input. all_staged.later i one (within i m) at input;
        rising = λ i j one m at r n. all_staged.rising i j one (within i m) at r (within j n);
      } in
      let l = depths_are_least-least f (pre_marks split) (pre_stages split) (pre_stages other) well is.pre_depths some_staged i in
      let a = pre_stage_at split i in
      let b = pre_stage_at other i in
      omega (arith, l, a, b)

  no_post_stage : (i : ℕ) → stage_or_zero (post_stage split i) ≡ 0
  no_post_stage i = sym (post_stage_at split i) ∙ is.post_depths.others i (post_at split i ∙ no_post i)

  lower_stages : (m : ℕ) → highest_below split m ≤ highest_below other m
  lower_stages zero = omega arith
  lower_stages (suc m) =
      let before = lower_stages m in
      let pre = lower_pre m in
      let post = no_post_stage m in
      omega (arith, before, pre, post)

  fewer_accesses : (o : ℕ) → accesses f split o ≤ accesses f other o
  fewer_accesses o =
      let pre = more_counted (length f.code) (λ i. is_pre split i && looks_at o (step_at f i).work) (λ i. is_pre other i && looks_at o (step_at f i).work)
      (λ i. both_more (is_pre split i) (is_pre other i) (looks_at o (step_at f i).work) (in_pre i)) in
      let post = more_counted (length f.code) (λ i. is_post split i && looks_at o (step_at f i).work) (λ i. is_post other i && looks_at o (step_at f i).work)
      (λ i. both_more (is_post split i) (is_post other i) (looks_at o (step_at f i).work) (in_post i)) in
      omega (arith, pre, post)

  shown : (o : ℕ) → is_shown f split o ≡ true → is_shown f other o ≡ true
  shown o = more_pass (length f.code) (λ i. is_pre split i && looks_at o (step_at f i).work) (λ i. is_pre other i && looks_at o (step_at f i).work)
      (λ i. both_more (is_pre split i) (is_pre other i) (looks_at o (step_at f i).work) (in_pre i))

  post_shown : (o : ℕ) → is_post_shown f split o ≡ true → is_post_shown f other o ≡ true
  post_shown o = more_pass (length f.code) (λ i. is_post split i && looks_at o (step_at f i).work) (λ i. is_post other i && looks_at o (step_at f i).work)
      (λ i. both_more (is_post split i) (is_post other i) (looks_at o (step_at f i).work) (in_post i))

  fewer_bits : (writeback o : ℕ) (ds : List ObjectDecl) → bits_from f split writeback o ds ≤ bits_from f other writeback o ds
  fewer_bits writeback o [] = omega arith
  fewer_bits writeback o (d ∷ ds) =
      let bits : ℕ = sum_of d.keys + sum_of d.values in
      let here : object_bits f split writeback o d ≤ object_bits f other writeback o d =
      bits_more (is_table d.kind) (is_shown f split o) (is_post_shown f split o) (is_shown f other o) (is_post_shown f other o)
      (d.size * bits) (d.size * bits + writeback * (bits + 1)) (shown o) (post_shown o) in
      let rest = fewer_bits writeback (suc o) ds in
      omega (arith, here, rest)

  fewer_writes : (o : ℕ) → writes f split o ≤ writes f other o
  fewer_writes o = if_more (is_replicated f split o) (is_replicated f other o) (count_below (length f.code) (λ i. writes_to o (step_at f i).work))
      (flipped (not (is_constant f.objects o)) (is_shown f split o) (is_shown f other o) (shown o))
    where
      flipped : (c a b : Bool) → (a ≡ true → b ≡ true) → (c && a) ≡ true → (c && b) ≡ true
      flipped true a b h t = h t
      flipped false a b h t = cc

  -- what a split takes, but for its headers
  abbrev aside : ℕ → Counts
  aside writeback = record {
    accesses = (counts_of f split writeback).accesses;
    stages = (counts_of f split writeback).stages;
    table_bits = (counts_of f split writeback).table_bits;
    writes = (counts_of f split writeback).writes;
    transfer_bytes = 0;
  }

  aside_kept : (limits : Limits) → KeepsLimits f other limits → Keeps (aside limits.writeback) limits
  aside_kept limits keeps = record {
    accesses = fewer_kept (accesses f split) (accesses f other) 1 (length f.objects) fewer_accesses keeps.accesses;
    stages = (let l = lower_stages (length f.code) in let h = keeps.stages in omega (arith, l, h));
    table_bits = (let l = fewer_bits limits.writeback 0 f.objects in let h = keeps.table_bits in omega (arith, l, h));
    writeback = fewer_kept (writes f split) (writes f other) limits.writeback (length f.objects) fewer_writes keeps.writeback;
    transfer_bytes = omega arith;
  }

-- ## The limit of the headers is the last

-- where none of some is found, what is found of others is this one
abbrev IsAlone : List Over → List Over → Over → Type 0
IsAlone xs ys y = find exceeds xs ≡ None → (over : Over) → find exceeds ys ≡ Some over → over ≡ y

alone_behind : (ws xs ys : List Over) (y : Over) → IsAlone xs ys y → IsAlone (ws ++ xs) (ws ++ ys) y
alone_behind [] xs ys y h none over found = h none over found
alone_behind (w ∷ ws) xs ys y h none over found = elim (cases_Bool (exceeds w)) [
  | inl t ↦ absurd (let n : Some w ≡ None = (rw t at none) in cc)
  | inr n ↦ alone_behind ws xs ys y h (rw n at none) over (rw n at found)
]

alone_last : (x y : Over) → IsAlone (x ∷ []) (y ∷ []) y
alone_last x y none over found = elim (cases_Bool (exceeds y)) [
  | inl t ↦ (let s : Some y ≡ Some over = (rw t at found) in cc)
  | inr n ↦ absurd (let s : None ≡ Some over = (rw n at found) in cc)
]

of_headers : (c : Counts) (bytes : ℕ) (l : Limits) (over : Over)
    → first_excess (record { accesses = c.accesses; stages = c.stages; table_bits = c.table_bits; writes = c.writes; transfer_bytes = bytes }) l ≡ None
    → first_excess c l ≡ Some over → over.limit ≡ TransferBytes
of_headers c bytes l over none some =
    let x : Over = of_all TransferBytes l.transfer_bytes bytes in
    let y : Over = of_all TransferBytes l.transfer_bytes c.transfer_bytes in
    let last = alone_behind (of_objects Writeback l.writeback 0 c.writes) (x ∷ []) (y ∷ []) y (alone_last x y) in
    let later = alone_behind (of_all Stages l.stages c.stages ∷ (of_all TableBits l.table_bits c.table_bits ∷ []))
    (of_objects Writeback l.writeback 0 c.writes ++ x ∷ []) (of_objects Writeback l.writeback 0 c.writes ++ y ∷ []) y last in
    let all = alone_behind (of_objects Accesses 1 0 c.accesses)
    (of_all Stages l.stages c.stages ∷ (of_all TableBits l.table_bits c.table_bits ∷ (of_objects Writeback l.writeback 0 c.writes ++ x ∷ [])))
    (of_all Stages l.stages c.stages ∷ (of_all TableBits l.table_bits c.table_bits ∷ (of_objects Writeback l.writeback 0 c.writes ++ y ∷ []))) y later in
    ap (λ (o : Over). o.limit) (all none over some)

-- no split on as many instructions or more keeps the limits
pub none_kept : (f : Program) → IsWellFormed f → (limits : Limits) (k : ℕ) → IsTooMuch f limits k → (n : ℕ) → k ≤ n
    → (all : Bool) (other : List Part) → IsKept f limits n all other → ⊥
none_kept f well limits k much n fewer all other kept =
    let split : List Part = much.exceeded.split in
    let keeps = aside_kept f well k n fewer all split other much.exceeded.greatest kept.greatest limits kept.keeps in
    let c : Counts = counts_of f split limits.writeback in
    let none = (kept_limits_are_not_exceeded (aside f well k n fewer all split other much.exceeded.greatest kept.greatest limits.writeback) limits).1 keeps in
    much.other (of_headers c 0 limits much.over none much.exceeded.exceeds)
