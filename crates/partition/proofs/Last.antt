-- What is left to the server has a header of two bytes, and takes nothing else of the switch.
use Rattle.std.proofs.Common.{◌≡◌, ◌↔◌, ℕ, zero, suc, ◌+◌, ◌/◌, ◌<◌, ◌≤◌, Bool, true, false, ◌&&◌, ◌||◌, ◌==◌, not, List, [], ◌∷◌, ◌++◌, Option, Some, None, inl, inr, refl, sym, ap, ◌∙◌, subst, arith, length, map, is_some}
use Rattle.std.specs.Prelude.{slice_index_or, All, if◌then◌else◌, nat_lt}
use Rattle.std.specs.List.{filter}
use Rattle.std.proofs.lemmas.List.{append-nil}
use Rattle.std.proofs.lemmas.List.Elements.{All-nil, All-cons, All-append, filter-append}
use Rattle.std.proofs.lemmas.Bool.{cases_Bool, cases_eq, eqb-true, and_from, or_cases, or_left, or_right, and_parts, false_from_ne_true, ltb-true}
use Rattle.state_store.specs.declared.object.ObjectDecl.{ObjectDecl}
use Rattle.state_store.specs.Kinds.{is_table, is_constant}
use Rattle.flat_ir.specs.declared.program.ValueId.{ValueId}
use Rattle.flat_ir.specs.Program.{Program, step_at, operands, is_named, width_of_value, result_count}
use Rattle.flat_ir.specs.WellFormed.{IsWellFormed}
use Rattle.flat_ir.specs.Sets.{IsMarked}
use Rattle.split_model.specs.declared.split.Part.{Part}
use Rattle.split_model.specs.declared.split.Slow.{Slow}
use Rattle.split_model.specs.declared.split.Slow.TheVariants.{Server}
use Rattle.split_model.specs.Split.{part_at, is_pre, is_carried, is_post, is_carried_up, stage_after}
use Rattle.split_model.specs.Shown.{looks_at, is_shown, is_replicated}
use Rattle.split_model.specs.Crossing.{is_value, is_among, is_read_by, is_at_hand, crosses_up, crosses_down}
use Rattle.split_model.specs.Layouts.{first_results, values_below, values_of, crossing, up_values, down_values, up_layout, down_layout}
use Rattle.split_model.specs.Counts.{count_below, accesses, writes, total, is_post_shown, object_bits, bits_from, layout_bytes, transfer_bytes}
use Rattle.split_model.specs.Greatest.{pre_marks, IsGreatestSplit}
use Rattle.resource_limits.specs.declared.limits.Limits.{Limits}
use Rattle.resource_limits.specs.Counts.{first_numbers}
use Rattle.resource_limits.specs.Kept.{KeepsLimits}
use Rattle.partition.specs.Choice.{shrinking}
use Rattle.partition.proofs.Lawful.{left, and_no, pre_at, carried_at, post_at}
use Rattle.partition.proofs.Server.{IsBlank, no_pre, no_carried, no_post, no_stages, none_below, unseen}
use Rattle.flat_ir.proofs.Exact.{same_itself, value_same}
use Rattle.lemmas.proofs.Lists.{replicate_false}
use Rattle.lemmas.proofs.Tests.{and_second, same_tests}

-- ## The greatest split on no instruction is that one

blank_slow : (s : Slow) → is_carried_up s ≡ false → is_some (stage_after s) ≡ false → s ≡ Server
blank_slow Server c p = refl
blank_slow _ c p = cc

blank_stage : (o : Option ℕ) → is_some o ≡ false → o ≡ None
blank_stage None h = refl
blank_stage (Some t) h = cc

blank_part : (p : Part) → is_some p.pre ≡ false → is_carried_up p.slow ≡ false → is_some (stage_after p.slow) ≡ false → p ≡ left
blank_part p a b c =
    let made : Option ℕ → Slow → Part = λ o s. record { pre = o; slow = s } in
    ap (λ (o : Option ℕ). made o p.slow) (blank_stage p.pre a) ∙ ap (λ (s : Slow). made None s) (blank_slow p.slow b c)

pub is_blank : (f : Program) (split : List Part) → IsGreatestSplit f 0 false split → IsBlank split
is_blank f split is i =
    let no_mark : (j : ℕ) → IsMarked (pre_marks split) j → ⊥ = λ j m. (let l = is.pre.closed.below j m in omega (arith, l)) in
    blank_part (part_at split i)
    (false_from_ne_true (is_pre split i) (λ p. no_mark i (pre_at split i ∙ p)))
    (false_from_ne_true (is_carried split i) (λ c. no_mark i (is.carried.closed.within i (carried_at split i ∙ c))))
    (sym (post_at split i) ∙ ap (λ (m : List Bool). slice_index_or m i false) is.post ∙ replicate_false (length f.code) i)

-- ## It looks nothing up

none_counted : (test : ℕ → Bool) (n : ℕ) → ((i : ℕ) → test i ≡ false) → count_below n test ≡ 0
none_counted test zero h = refl
none_counted test (suc n) h = rw (none_counted test n h, h n) refl

numbers_low : (number : ℕ → ℕ) (most n : ℕ) → ((o : ℕ) → number o ≤ most) → All (λ m. m ≤ most) (first_numbers n number)
numbers_low number most zero h = All-nil (λ m. m ≤ most)
numbers_low number most (suc n) h =
    All-append (λ m. m ≤ most) (first_numbers n number) (number n ∷ []) (numbers_low number most n h) (All-cons (λ m. m ≤ most) (number n) [] (h n) (All-nil (λ m. m ≤ most)))

module _ (split : List Part) (of : IsBlank split) (f : Program) where
  pre_looks : (o i : ℕ) → (is_pre split i && looks_at o (step_at f i).work) ≡ false
  pre_looks o i = rw (no_pre split of i) refl

  post_looks : (o i : ℕ) → (is_post split i && looks_at o (step_at f i).work) ≡ false
  post_looks o i = rw (no_post split of i) refl

  no_accesses : (o : ℕ) → accesses f split o ≡ 0
  no_accesses o =
      let a = none_counted (λ i. is_pre split i && looks_at o (step_at f i).work) (length f.code) (pre_looks o) in
      let b = none_counted (λ i. is_post split i && looks_at o (step_at f i).work) (length f.code) (post_looks o) in
      omega (arith, a, b)

  post_unseen : (o : ℕ) → is_post_shown f split o ≡ false
  post_unseen o = none_below split of (λ i. is_post split i && looks_at o (step_at f i).work) (length f.code) (post_looks o)

  no_writes : (o : ℕ) → writes f split o ≡ 0
  no_writes o =
      let r : is_replicated f split o ≡ false = and_no (not (is_constant f.objects o)) (is_shown f split o) (λ h. unseen split of f o) in
      rw r refl

  none_of : (b : Bool) (n : ℕ) → n ≡ 0 → (if b then n else n) ≡ 0
  none_of true n e = e
  none_of false n e = e

  no_object_bits : (writeback o : ℕ) (d : ObjectDecl) → object_bits f split writeback o d ≡ 0
  no_object_bits writeback o d =
      let a = unseen split of f o in
      let b = post_unseen o in
      rw (a, b) (none_of (is_table d.kind) 0 refl)

  no_bits : (writeback o : ℕ) (ds : List ObjectDecl) → bits_from f split writeback o ds ≡ 0
  no_bits writeback o [] = refl
  no_bits writeback o (d ∷ ds) =
      let a = no_object_bits writeback o d in
      let b = no_bits writeback (suc o) ds in
      omega (arith, a, b)

-- ## It hands down whether the packet is sent, and its port

abbrev pub bits_of : Program → List ValueId → ℕ
bits_of f vs = total (map (crossing f) vs)

-- the bits of a list, by its first value
bits_first : (f : Program) (test : ValueId → Bool) (v : ValueId) (vs : List ValueId)
    → bits_of f (filter test (v ∷ vs)) ≡ (if test v then width_of_value f v else 0) + bits_of f (filter test vs)
bits_first f test v vs = elim (cases_Bool (test v)) [ inl y ↦ rw y (omega arith) | inr n ↦ rw n (omega arith) ]

if_one : (a b c : Bool) (n : ℕ) → a ≡ (b || c) → (b ≡ true → c ≡ true → ⊥) → (if a then n else 0) ≡ (if b then n else 0) + (if c then n else 0)
if_one a true true n e apart = absurd (apart refl refl)
if_one a true false n e apart = rw e (omega arith)
if_one a false c n e apart = rw e (omega arith)

-- what passes a test passes just one of two others
bits_of_two : (f : Program) (p q r : ValueId → Bool) (vs : List ValueId) → ((v : ValueId) → p v ≡ (q v || r v)) → ((v : ValueId) → q v ≡ true → r v ≡ true → ⊥)
    → bits_of f (filter p vs) ≡ bits_of f (filter q vs) + bits_of f (filter r vs)
bits_of_two f p q r [] h apart = omega arith
bits_of_two f p q r (v ∷ vs) h apart = omega (
  arith,
  bits_of_two f p q r vs h apart,
  bits_first f p v vs,
  bits_first f q v vs,
  bits_first f r v vs,
  if_one (p v) (q v) (r v) (width_of_value f v) (h v) (apart v),
)

-- ## A value stands once among all of a program

-- those of a list that are this value
abbrev alone : ValueId → List ValueId → List ValueId
alone a vs = filter (λ (v : ValueId). is_value v a) vs

other_last : (a v : ValueId) (vs : List ValueId) → is_value v a ≡ false → alone a (vs ++ v ∷ []) ≡ alone a vs
other_last a v vs n = filter-append (λ (w : ValueId). is_value w a) vs (v ∷ []) ∙ rw n (append-nil (alone a vs))

other_instruction : (a : ValueId) (i r : ℕ) → (i ≡ a.instruction → ⊥) → is_value (record { instruction = i; result = r }) a ≡ false
other_instruction a i r h = and_no (i == a.instruction) (r == a.result) (λ t. absurd (h (eqb-true i a.instruction t)))

other_result : (a : ValueId) (i r : ℕ) → (r ≡ a.result → ⊥) → is_value (record { instruction = i; result = r }) a ≡ false
other_result a i r h = and_no (i == a.instruction) (r == a.result) (λ t. false_from_ne_true (r == a.result) (λ u. h (eqb-true r a.result u)))

results_apart : (a : ValueId) (i n : ℕ) → ((r : ℕ) → r < n → is_value (record { instruction = i; result = r }) a ≡ false)
    → alone a (first_results i n) ≡ []
results_apart a i zero h = refl
results_apart a i (suc n) h =
    other_last a (record { instruction = i; result = n }) (first_results i n) (h n (omega arith)) ∙ results_apart a i n (λ r lt. h r (omega (arith, lt)))

own_result : (a : ValueId) (n : ℕ) → a.result < n → alone a (first_results a.instruction n) ≡ a ∷ []
own_result a zero lt = absurd (omega (arith, lt))
own_result a (suc n) lt =
    let made : ℕ → ValueId = λ r. record { instruction = a.instruction; result = r } in
    elim (cases_eq n a.result) [
      | inl e ↦
          let none = results_apart a a.instruction n (λ r low. other_result a a.instruction r (λ q. omega (arith, q, low, e))) in
          let own : alone a (made a.result ∷ []) ≡ a ∷ [] = (let t = same_itself a in rw t refl) in
          filter-append (λ (w : ValueId). is_value w a) (first_results a.instruction n) (made n ∷ [])
          ∙ ap (λ (l : List ValueId). l ++ alone a (made n ∷ [])) none ∙ ap (λ (r : ℕ). alone a (made r ∷ [])) e ∙ own
      | inr ne ↦ other_last a (made n) (first_results a.instruction n) (other_result a a.instruction n ne) ∙ own_result a n (omega (arith, lt, ne))
    ]

abbrev count_at : Program → ℕ → ℕ
count_at f i = result_count f.objects (step_at f i).work

values_apart : (f : Program) (a : ValueId) (n : ℕ) → n ≤ a.instruction → alone a (values_below f n) ≡ []
values_apart f a zero le = refl
values_apart f a (suc n) le =
    let rs = first_results n (count_at f n) in
    filter-append (λ (w : ValueId). is_value w a) (values_below f n) rs
    ∙ ap (λ (l : List ValueId). l ++ alone a rs) (values_apart f a n (omega (arith, le)))
    ∙ results_apart a n (count_at f n) (λ r low. other_instruction a n r (λ q. omega (arith, q, le)))

own_value : (f : Program) (a : ValueId) (n : ℕ) → a.instruction < n → a.result < count_at f a.instruction → alone a (values_below f n) ≡ a ∷ []
own_value f a zero lt low = absurd (omega (arith, lt))
own_value f a (suc n) lt low =
    let rs = first_results n (count_at f n) in
    filter-append (λ (w : ValueId). is_value w a) (values_below f n) rs
    ∙ elim (cases_eq n a.instruction) [
      | inl e ↦ ap (λ (l : List ValueId). l ++ alone a rs) (values_apart f a n (omega (arith, e)))
          ∙ subst (λ (i : ℕ). alone a (first_results i (count_at f i)) ≡ a ∷ []) (sym e) (own_result a (count_at f a.instruction) low)
      | inr ne ↦ ap (λ (l : List ValueId). l ++ alone a rs) (own_value f a n (omega (arith, lt, ne)) low)
          ∙ ap (λ (l : List ValueId). a ∷ l) (results_apart a n (count_at f n) (λ r q. other_instruction a n r ne))
    ]

named_bits : (f : Program) (a : ValueId) → is_named f a ≡ true → bits_of f (alone a (values_of f)) ≡ width_of_value f a
named_bits f a named =
    let both = and_parts (nat_lt a.instruction (length f.code)) (nat_lt a.result (count_at f a.instruction)) named in
    let e = own_value f a (length f.code) (ltb-true a.instruction (length f.code) both.0) (ltb-true a.result (count_at f a.instruction) both.1) in
    let bits : bits_of f (alone a (values_of f)) ≡ bits_of f (a ∷ []) = ap (bits_of f) e in
    omega (arith, bits)

none_left : (test : ValueId → Bool) (vs : List ValueId) → ((v : ValueId) → test v ≡ false) → filter test vs ≡ []
none_left test [] h = refl
none_left test (v ∷ vs) h = rw (h v) (none_left test vs h)

or_first : (a b : Bool) → b ≡ false → (a || b) ≡ true → a ≡ true
or_first true b n h = refl
or_first false b n h = cc

module _ (split : List Part) (of : IsBlank split) (f : Program) (formed : IsWellFormed f) where
  nothing_up : up_values f split ≡ []
  nothing_up = none_left (crosses_up f split) (values_of f) (λ v. rw (no_carried split of v.instruction) (up_no (is_named f v) _))
    where
      up_no : (a b : Bool) → ((a && false) && b) ≡ false
      up_no true b = refl
      up_no false b = refl

  unread : (v : ValueId) → is_read_by f (is_post split) v ≡ false
  unread v = none_below split of (λ i. is_post split i && is_among v (operands (step_at f i).work)) (length f.code)
      (λ i. rw (no_post split of i) refl)

  not_both : (v : ValueId) → is_value v f.send ≡ true → is_value v f.port ≡ true → ⊥
  not_both v s p =
      let same : f.send ≡ f.port = sym (value_same v f.send s) ∙ value_same v f.port p in
      let w = ap (λ (x : ValueId). width_of_value f x) same in
      omega (arith, w, formed.send.wide, formed.port.wide)

  -- what goes down is whether the packet is sent, and its port
  goes_down : (v w : ValueId) → is_named f w ≡ true → is_among w (f.send ∷ f.port ∷ []) ≡ true → is_value v w ≡ true → crosses_down f split v ≡ true
  goes_down v w named among is =
      let same : w ≡ v = sym (value_same v w is) in
      subst (λ (x : ValueId). crosses_down f split x ≡ true) same
      (and_from (is_named f w && not (is_post split w.instruction)) _ (and_from (is_named f w) (not (is_post split w.instruction)) named (ap not (no_post split of w.instruction)))
      (or_left (is_among w (f.send ∷ f.port ∷ [])) _ among))

  two_down : (v : ValueId) → crosses_down f split v ≡ (is_value v f.send || is_value v f.port)
  two_down v = same_tests (crosses_down f split v) (is_value v f.send || is_value v f.port)
      (λ h.
      let named = is_named f v && not (is_post split v.instruction) in
      let read = not (is_at_hand f split (step_at f v.instruction).work) && is_read_by f (is_post split) v in
      let none : read ≡ false = and_no (not (is_at_hand f split (step_at f v.instruction).work)) (is_read_by f (is_post split) v) (λ x. unread v) in
      drop_last (is_value v f.send) (is_value v f.port) (or_first (is_among v (f.send ∷ f.port ∷ [])) read none (and_second named (is_among v (f.send ∷ f.port ∷ []) || read) h)))
      (λ h. elim (or_cases (is_value v f.send) (is_value v f.port) h) [
        | inl s ↦ goes_down v f.send formed.send.named (or_left (is_value f.send f.send) (is_value f.send f.port || false) (same_itself f.send)) s
        | inr p ↦ goes_down v f.port formed.port.named (or_right (is_value f.port f.send) (is_value f.port f.port || false) (or_left (is_value f.port f.port) false (same_itself f.port))) p
      ])
    where
      drop_last : (a b : Bool) → (a || (b || false)) ≡ true → (a || b) ≡ true
      drop_last true b h = refl
      drop_last false true h = refl
      drop_last false false h = h

  nine_bits : bits_of f (down_values f split) ≡ 9
  nine_bits =
      let sum = bits_of_two f (crosses_down f split) (λ (v : ValueId). is_value v f.send) (λ (v : ValueId). is_value v f.port) (values_of f) two_down not_both in
      let b = named_bits f f.send formed.send.named in
      let c = named_bits f f.port formed.port.named in
      omega (arith, sum, b, c, formed.send.wide, formed.port.wide)

  two_bytes : transfer_bytes f split ≡ 2
  two_bytes =
      let u : layout_bytes (up_layout f split) ≡ 0 = ap (λ (vs : List ValueId). layout_bytes (map (crossing f) vs)) nothing_up in
      let d : layout_bytes (down_layout f split) ≡ 2 = ap (λ n. (n + 7) / 8) nine_bits in
      omega (arith, u, d)

  blank_keeps : (limits : Limits) → 2 ≤ limits.transfer_bytes → KeepsLimits f split limits
  blank_keeps limits room =
      let e = no_stages split of (length f.code) in
      let b = no_bits split of f limits.writeback 0 f.objects in
      let t = two_bytes in
      record {
        accesses = numbers_low (accesses f split) 1 (length f.objects) (λ o. let a = no_accesses split of f o in omega (arith, a));
        stages = omega (arith, e);
        table_bits = omega (arith, b);
        writeback = numbers_low (writes f split) limits.writeback (length f.objects) (λ o. let a = no_writes split of f o in omega (arith, a));
        transfer_bytes = omega (arith, t, room);
      }

  pub blank_exact : (limits : Limits) → KeepsLimits f split limits ↔ (2 ≤ limits.transfer_bytes)
  blank_exact limits = (λ keeps. (let t = two_bytes in let k = keeps.transfer_bytes in omega (arith, t, k)), blank_keeps limits)

pub last_exact : (f : Program) (limits : Limits) (split : List Part) → IsWellFormed f → IsGreatestSplit f 0 false split
    → KeepsLimits f split limits ↔ (2 ≤ limits.transfer_bytes)
last_exact f limits split formed greatest = blank_exact split (is_blank f split greatest) f formed limits

-- ## It is the last of the shrinking list

pub ends_so : (n : ℕ) → (before : List (ℕ × Bool)) × (shrinking n ≡ before ++ (0, false) ∷ [])
ends_so zero = ((0, true) ∷ [], refl)
ends_so (suc n) =
    let rest = ends_so n in
    ((suc n, true) ∷ ((suc n, false) ∷ rest.0), ap (λ (cs : List (ℕ × Bool)). (suc n, true) ∷ ((suc n, false) ∷ cs)) rest.1)
