-- Users that are noted one after the other.
use Rattle.std.proofs.Common.{◌≡◌, ℕ, zero, suc, ◌+◌, ◌-◌, ◌<◌, ◌≤◌, Bool, true, false, ◌||◌, cond, List, [], ◌∷◌, ◌++◌, inl, inr, refl, sym, ap, ◌∙◌, subst, arith, length, set, replicate, length-set, length-append}
use Rattle.std.specs.Prelude.{slice_index_or, slice_index, ◌==◌, if◌then◌else◌, All}
use Rattle.std.specs.List.{list_any, list_all, filter, range_with_len}
use Rattle.std.proofs.lemmas.Bool.{ne_eqb, cases_eq, cases_Bool, eq-eqb, false≢true, and_from, and_parts, and_right, lt-ltb}
use Rattle.std.proofs.lemmas.List.{append-nil, length-replicate, get_or_push, get_or-set_same, get_or-set_other}
use Rattle.std.proofs.lemmas.List.Elements.{filter-append, All-filter}
use Rattle.std.proofs.lemmas.List.FromFn.{length-range_with_len, get_or-range_with_len}
use Rattle.flat_ir.specs.declared.program.ValueId.{ValueId}
use Rattle.flat_ir.specs.Program.{Program, step_at, operands}
use Rattle.dependence.specs.Uses.{is_user, AreUses}
use Rattle.dependence.specs.Noted.{is_last, noted, noted_at, noted_all, AreUsesSoFar}
use Rattle.lemmas.proofs.Lists.{range_pushed}

-- ## One list

last_low : (row : List ℕ) (n : ℕ) → All (λ m. m < n) row → is_last row n ≡ false
last_low [] n h = refl
last_low (m ∷ ms) n h =
    let l = h (length (m ∷ ms) - 1) 0 (omega arith) in
    and_right _ _ (ne_eqb (slice_index (m ∷ ms) (length (m ∷ ms) - 1)) n (λ e. omega (arith, e, l)))

last_here : (row : List ℕ) (n : ℕ) → is_last (row ++ n ∷ []) n ≡ true
last_here row n =
    let count = length-append row (n ∷ []) in
    let before : length (row ++ n ∷ []) - 1 ≡ length row = omega arith in
    and_from _ _ (lt-ltb 0 (length (row ++ n ∷ [])) (omega arith))
    (eq-eqb _ _ (ap (λ k. slice_index (row ++ n ∷ []) k) before ∙ get_or_push row n 0 (length row) refl))

noted_kept : (row : List ℕ) (n : ℕ) → is_last row n ≡ true → noted row n ≡ row
noted_kept row n h = ap (λ b. if b then row else row ++ n ∷ []) h

noted_new : (row : List ℕ) (n : ℕ) → is_last row n ≡ false → noted row n ≡ row ++ n ∷ []
noted_new row n h = ap (λ b. if b then row else row ++ n ∷ []) h

noted_twice : (row : List ℕ) (n : ℕ) → noted (noted row n) n ≡ noted row n
noted_twice row n = elim (cases_Bool (is_last row n)) [
  | inl t ↦ ap (λ r. noted r n) (noted_kept row n t)
  | inr f ↦ let e = noted_new row n f in ap (λ r. noted r n) e ∙ noted_kept (row ++ n ∷ []) n (last_here row n) ∙ sym e
]

-- ## All lists

pub noted_count : (rows : List (List ℕ)) (n : ℕ) (vs : List ValueId) → length (noted_all rows n vs) ≡ length rows
noted_count rows n [] = refl
noted_count rows n (v ∷ vs) = noted_count (noted_at rows n v.instruction) n vs ∙ length-set rows v.instruction (noted (slice_index_or rows v.instruction []) n)

-- the list of one instruction after this one is noted, where some of the values are its results
abbrev noted_if : Bool → List ℕ → ℕ → List ℕ
noted_if b row n = if b then noted row n else row

noted_if_again : (b : Bool) (row : List ℕ) (n : ℕ) → noted_if b (noted row n) n ≡ noted row n
noted_if_again true row n = noted_twice row n
noted_if_again false row n = refl

row_noted : (rows : List (List ℕ)) (n : ℕ) (vs : List ValueId) (j : ℕ) → j < length rows
    → slice_index_or (noted_all rows n vs) j [] ≡ noted_if (list_any (λ (v : ValueId). v.instruction == j) vs) (slice_index_or rows j []) n
row_noted rows n [] j l = refl
row_noted rows n (v ∷ vs) j l =
    let here = noted (slice_index_or rows v.instruction []) n in
    let rest = list_any (λ (w : ValueId). w.instruction == j) vs in
    let step = row_noted (noted_at rows n v.instruction) n vs j (omega (arith, length-set rows v.instruction here)) in
    elim (cases_eq v.instruction j) [
      | inl e ↦
          let t : (v.instruction == j) ≡ true = eq-eqb v.instruction j e in
          let own : slice_index_or (set rows v.instruction here) j [] ≡ noted (slice_index_or rows j []) n =
          ap (λ k. slice_index_or (set rows v.instruction here) k []) (sym e) ∙ get_or-set_same rows v.instruction here [] (omega arith)
          ∙ ap (λ k. noted (slice_index_or rows k []) n) e in
          step ∙ ap (λ r. noted_if rest r n) own ∙ noted_if_again rest (slice_index_or rows j []) n
          ∙ ap (λ b. noted_if (b || rest) (slice_index_or rows j []) n) (sym t)
      | inr ne ↦
          let f : (v.instruction == j) ≡ false = ne_eqb v.instruction j ne in
          let own : slice_index_or (set rows v.instruction here) j [] ≡ slice_index_or rows j [] =
          get_or-set_other rows v.instruction j here [] (λ q. ne (sym q)) in
          step ∙ ap (λ r. noted_if rest r n) own ∙ ap (λ b. noted_if (b || rest) (slice_index_or rows j []) n) (sym f)
    ]

-- ## The users among the first instructions

range_low : (n : ℕ) → All (λ m. m < n) (range_with_len 0 n)
range_low n k d l =
    let c = length-range_with_len 0 n in
    let e = get_or-range_with_len 0 n k d (omega arith) in
    omega arith

filter_more : (p : ℕ → Bool) (n : ℕ) → filter p (range_with_len 0 (n + 1)) ≡ noted_if (p n) (filter p (range_with_len 0 n)) n
filter_more p n =
    let row = filter p (range_with_len 0 n) in
    let new = noted_new row n (last_low row n (All-filter p (λ m. m < n) (range_with_len 0 n) (range_low n))) in
    let e : 0 + n ≡ n = omega arith in
    let one_more : n + 1 ≡ suc n = omega arith in
    let begin : filter p (range_with_len 0 (n + 1)) ≡ row ++ filter p (n ∷ []) =
    ap (filter p) (ap (range_with_len 0) one_more ∙ range_pushed 0 n ∙ ap (λ x. range_with_len 0 n ++ x ∷ []) e) ∙ filter-append p (range_with_len 0 n) (n ∷ []) in
    elim (cases_Bool (p n)) [
      | inl t ↦ begin ∙ ap (λ b. row ++ cond b (n ∷ []) []) t ∙ sym new ∙ ap (λ b. noted_if b row n) (sym t)
      | inr f ↦ begin ∙ ap (λ b. row ++ cond b (n ∷ []) []) f ∙ append-nil row ∙ ap (λ b. noted_if b row n) (sym f)
    ]

no_row : (n j : ℕ) → slice_index_or (replicate n (let none : List ℕ = [] in none)) j [] ≡ []
no_row zero j = refl
no_row (suc n) zero = refl
no_row (suc n) (suc j) = no_row n j

pub no_users : (f : Program) → AreUsesSoFar f 0 (replicate (length f.code) [])
no_users f = record {
  count = length-replicate (length f.code) [];
  users = λ j l. no_row (length f.code) j;
}

pub more_users : (f : Program) (n : ℕ) (uses : List (List ℕ)) → AreUsesSoFar f n uses
    → AreUsesSoFar f (n + 1) (noted_all uses n (operands (step_at f n).work))
more_users f n uses so = record {
  count = noted_count uses n (operands (step_at f n).work) ∙ so.count;
  users = λ j l.
      row_noted uses n (operands (step_at f n).work) j (let c = so.count in omega arith)
      ∙ ap (λ r. noted_if (is_user f j n) r n) (so.users j l) ∙ sym (filter_more (is_user f j) n);
}

pub all_users : (f : Program) (n : ℕ) (uses : List (List ℕ)) → n ≡ length f.code → AreUsesSoFar f n uses → AreUses f uses
all_users f n uses e so = record {
  count = so.count;
  users = λ j l. so.users j l ∙ ap (λ m. filter (is_user f j) (range_with_len 0 m)) e;
}

-- ## What holds of each user

pub of_users : (t p : ℕ → Bool) (a n u : ℕ) → list_all t (filter p (range_with_len a n)) ≡ true → a ≤ u → u < a + n → p u ≡ true → t u ≡ true
of_users t p a zero u h le l q = absurd (omega arith)
of_users t p a (suc n) u h le l q = elim (cases_Bool (p a)) [
  | inl y ↦ let both = and_parts (t a) _ (subst (λ b. list_all t (cond b (a ∷ filter p (range_with_len (a + 1) n)) (filter p (range_with_len (a + 1) n))) ≡ true) y h) in
      elim (cases_eq u a) [
        | inl e ↦ subst (λ x. t x ≡ true) (sym e) both.0
        | inr ne ↦ of_users t p (a + 1) n u both.1 (omega arith) (omega arith) q
      ]
  | inr z ↦ let rest = subst (λ b. list_all t (cond b (a ∷ filter p (range_with_len (a + 1) n)) (filter p (range_with_len (a + 1) n))) ≡ true) z h in
      elim (cases_eq u a) [
        | inl e ↦ absurd (false≢true (sym z ∙ subst (λ x. p x ≡ true) e q))
        | inr ne ↦ of_users t p (a + 1) n u rest (omega arith) (omega arith) q
      ]
]

pub to_users : (t p : ℕ → Bool) (a n : ℕ) → ((u : ℕ) → u < a + n → p u ≡ true → t u ≡ true) → list_all t (filter p (range_with_len a n)) ≡ true
to_users t p a zero h = refl
to_users t p a (suc n) h =
    let rest = to_users t p (a + 1) n (λ u l q. h u (omega arith) q) in
    elim (cases_Bool (p a)) [
      | inl y ↦ subst (λ b. list_all t (cond b (a ∷ filter p (range_with_len (a + 1) n)) (filter p (range_with_len (a + 1) n))) ≡ true) (sym y) (and_from _ _ (h a (omega arith) y) rest)
      | inr z ↦ subst (λ b. list_all t (cond b (a ∷ filter p (range_with_len (a + 1) n)) (filter p (range_with_len (a + 1) n))) ≡ true) (sym z) rest
    ]
