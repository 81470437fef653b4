-- A number for each object, counted in one pass.
use Rattle.std.proofs.Common.{◌≡◌, ℕ, zero, suc, ◌+◌, ◌-◌, ◌<◌, ◌≤◌, ◌^◌, Bool, List, [], ◌∷◌, ◌++◌, add-one, inl, inr, refl, sym, ap, ◌∙◌, arith, length, get_or}
use Rattle.std.specs.Prelude.{slice_index}
use Rattle.std.proofs.lemmas.List.{same_lists, length-append, get_or_past, get_or_default, get_or_append_left, get_or-append_right}
use Rattle.std.proofs.lemmas.Bool.{cases_lt, cases_Bool}
use Rattle.flat_ir.specs.Program.{Program}
use Rattle.split_model.specs.declared.split.Part.{Part}
use Rattle.split_model.specs.Counts.{count_below}
use Rattle.resource_limits.specs.declared.uses.Use.{Use}
use Rattle.resource_limits.specs.Counts.{first_numbers, each_object}
use Rattle.resource_limits.specs.Uses.{is_used, uses}

-- ## Numbers of the first objects

pub length-first_numbers : (n : ℕ) (g : ℕ → ℕ) → length (first_numbers n g) ≡ n
length-first_numbers zero g = refl
length-first_numbers (suc n) g =
    let rest = length-first_numbers n g in
    simp length-append (omega arith)

pub get_or-first_numbers : (n : ℕ) (g : ℕ → ℕ) (o d : ℕ) → o < n → get_or (first_numbers n g) o d ≡ g o
get_or-first_numbers zero g o d h = absurd (omega arith)
get_or-first_numbers (suc n) g o d h =
    let count = length-first_numbers n g in
    elim (cases_lt o n) [
      | inl below ↦ get_or_append_left (first_numbers n g) (g n ∷ []) d o (omega arith) ∙ get_or-first_numbers n g o d below
      | inr last ↦ (let e : o ≡ n = omega arith in let z : o - n ≡ 0 = omega arith in
          get_or-append_right (first_numbers n g) (g n ∷ []) n o d count last ∙ rw z (ap g (sym e)))
    ]

-- a number more
pub numbers_more : (n : ℕ) (g : ℕ → ℕ) (old new : List ℕ) (x : ℕ) → new ≡ old ++ x ∷ [] → x ≡ g n → old ≡ first_numbers n g
    → new ≡ first_numbers (n + 1) g
numbers_more n g old new x pushed is so =
    rw add-one (pushed ∙ ap (λ (ns : List ℕ). ns ++ x ∷ []) so ∙ ap (λ (m : ℕ). first_numbers n g ++ m ∷ []) is)

-- the same numbers, one by one
pub are_numbers : (n : ℕ) (g : ℕ → ℕ) (tally : List ℕ) → length tally ≡ n → ((o : ℕ) → o < n → slice_index tally o ≡ g o)
    → tally ≡ first_numbers n g
are_numbers n g tally count each =
    same_lists tally (first_numbers n g) (count ∙ sym (length-first_numbers n g))
    (λ o d h. let within : o < n = omega arith in
    get_or_default tally o d 0 h ∙ each o within ∙ sym (get_or-first_numbers n g o d within))

-- the number of one object
pub number_is : (how : Use) (f : Program) (split : List Part) (tally : List ℕ) (o : ℕ) → tally ≡ each_object f (uses how f split)
    → o < length f.objects → slice_index tally o ≡ uses how f split o
number_is how f split tally o is within =
    ap (λ (ns : List ℕ). slice_index ns o) is ∙ get_or-first_numbers (length f.objects) (uses how f split) o 0 within

-- ## Counting

pub count_low : (n : ℕ) (test : ℕ → Bool) → count_below n test ≤ n
count_low zero test = omega arith
count_low (suc n) test =
    let rest = count_low n test in
    elim (cases_Bool (test n)) [
      | inl t ↦ rw t (omega arith)
      | inr t ↦ rw t (omega arith)
    ]

pub record IsTallySoFar (how : Use) (f : Program) (split : List Part) (i : ℕ) (tally : List ℕ) : Type 0 where
  pub count : length tally ≡ length f.objects
  pub each : (o : ℕ) → o < length tally → slice_index tally o ≡ count_below i (λ k. is_used how f split k o)

pub tally_low : (how : Use) (f : Program) (split : List Part) (i : ℕ) (tally : List ℕ) → i ≤ 4096 → IsTallySoFar how f split i tally
    → (o : ℕ) → slice_index tally o + 1 < 2 ^ 32
tally_low how f split i tally few so o = elim (cases_lt o (length tally)) [
  | inl within ↦ let e = so.each o within in let low = count_low i (λ k. is_used how f split k o) in omega arith
  | inr past ↦ let z = get_or_past tally o 0 past in omega arith
]

pub tally_done : (how : Use) (f : Program) (split : List Part) (i : ℕ) (tally : List ℕ) → i ≡ length f.code → IsTallySoFar how f split i tally
    → tally ≡ each_object f (uses how f split)
tally_done how f split i tally all so =
    are_numbers (length f.objects) (uses how f split) tally so.count
    (λ o h. so.each o (let c = so.count in omega arith) ∙ ap (λ (n : ℕ). count_below n (λ k. is_used how f split k o)) all)

-- a program has no more instructions that use an object than instructions
pub tally_few : (how : Use) (f : Program) (split : List Part) (tally : List ℕ) → length f.code ≤ 4096 → tally ≡ each_object f (uses how f split)
    → (o : ℕ) → slice_index tally o ≤ 4096
tally_few how f split tally few is o =
    let count : length tally ≡ length f.objects = ap length is ∙ length-first_numbers (length f.objects) (uses how f split) in
    elim (cases_lt o (length tally)) [
      | inl within ↦
          let e : slice_index tally o ≡ uses how f split o = number_is how f split tally o is (omega arith) in
          let low = count_low (length f.code) (λ k. is_used how f split k o) in
          omega arith
      | inr past ↦ let z = get_or_past tally o 0 past in omega arith
    ]

pub tally_count : (how : Use) (f : Program) (split : List Part) (tally : List ℕ) → tally ≡ each_object f (uses how f split)
    → length tally ≡ length f.objects
tally_count how f split tally is = ap length is ∙ length-first_numbers (length f.objects) (uses how f split)
