-- Which objects the code of a split program has tables for.
use Rattle.std.proofs.Common.{◌≡◌, ◌<◌, ◌+◌, ◌==◌, ℕ, zero, suc, Bool, true, false, not, ◌&&◌, ◌||◌, List, [], ◌∷◌, ◌++◌, length, Option, Some, None, slice_get, refl, sym, ap, ◌∙◌, subst, arith, ⊎_elim, if◌then◌else◌, inl, inr}
use Rattle.std.proofs.lemmas.Bool.{and_parts, and_from, or_left, or_cases, cond-true, cond-false, eq-eqb, eqb-true, ne_eqb, false≢true, true≢false, cases_Bool, not-false, not-true}
use Rattle.std.proofs.lemmas.Option.{slice_get_within}
use Rattle.state_store.specs.declared.object.ObjectDecl.{ObjectDecl}
use Rattle.state_store.specs.Kinds.{is_table, is_constant}
use Rattle.flat_ir.specs.Program.{Program, Work, step_at}
use Rattle.flat_ir.specs.Program.Work.{look}
use Rattle.flat_ir.specs.Fits.{fits, fits_keys, widths_of}
use Rattle.flat_ir.specs.Kinds.{fits_switch, is_field, is_mutable_look}
use Rattle.flat_ir.specs.WellFormed.{IsWellFormed}
use Rattle.split_model.specs.declared.split.Part.{Part}
use Rattle.split_model.specs.Counts.{is_post_shown}
use Rattle.split_model.specs.Legal.{IsLegal}
use Rattle.split_model.specs.Shown.{is_replicated, is_shown, looks_at}
use Rattle.split_model.specs.Split.{is_post, is_pre}
use Rattle.switch_ir.specs.declared.code.Table.{Table}
use Rattle.switch_ir.specs.Emitted.{is_looked_up, tables_from}
use Rattle.switch_ir.specs.Tables.{declared_at}
use Rattle.flat_ir.proofs.AnyBelow.{passes_any}
use Rattle.lemmas.proofs.Lists.{get_within}
use Rattle.state_store.proofs.Constants.{constant_at}

-- ## Objects by their place

-- ## The tables that are emitted

module _ (f : Program) (split : List Part) where
  abbrev own : ℕ → ObjectDecl → List Table
  own o d = if is_looked_up f split o then record { number = o; object = d } ∷ [] else []

  -- what stands in front of other tables
  found_first : (o n : ℕ) (d : ObjectDecl) (ts : List Table) → o ≡ n → declared_at (own o d ++ ts) n ≡ (if is_looked_up f split o then Some d else declared_at ts n)
  found_first o n d ts same =
      elim (cases_Bool (is_looked_up f split o)) [ inl t ↦ rw t (cond-true (o == n) (Some d) (declared_at ts n) (eq-eqb o n same)) | inr t ↦ rw t refl ]

  passed_over : (o n : ℕ) (d : ObjectDecl) (ts : List Table) → (o ≡ n → ⊥) → declared_at (own o d ++ ts) n ≡ declared_at ts n
  passed_over o n d ts apart =
      elim (cases_Bool (is_looked_up f split o)) [ inl t ↦ rw t (cond-false (o == n) (Some d) (declared_at ts n) (ne_eqb o n apart)) | inr t ↦ rw t refl ]

  none_before : (ds : List ObjectDecl) (o n : ℕ) → n < o → declared_at (tables_from f split o ds) n ≡ None
  none_before [] o n low = refl
  none_before (d ∷ ds) o n low =
      passed_over o n d (tables_from f split (suc o) ds) (λ same. absurd (omega (arith, low, same))) ∙ none_before ds (suc o) n (omega (arith, low))

  either_none : (b : Bool) → let none : Option ObjectDecl = None in none ≡ (if b then none else none)
  either_none true = refl
  either_none false = refl

  declared_from : (ds : List ObjectDecl) (o k n : ℕ) → o + k ≡ n → declared_at (tables_from f split o ds) n ≡ (if is_looked_up f split n then slice_get ds k else None)
  declared_from [] o k n place = either_none (is_looked_up f split n)
  declared_from (d ∷ ds) o zero n place =
      let same : o ≡ n = omega (arith, place) in
      found_first o n d (tables_from f split (suc o) ds) same
      ∙ ap (λ x. if is_looked_up f split o then Some d else x) (none_before ds (suc o) n (omega (arith, place)))
      ∙ ap (λ m. if is_looked_up f split m then Some d else None) same
  declared_from (d ∷ ds) o (suc k) n place =
      passed_over o n d (tables_from f split (suc o) ds) (λ same. absurd (omega (arith, place, same)))
      ∙ declared_from ds (suc o) k n (omega (arith, place))

  by_looks : (b : Bool) (found : Option ObjectDecl) (d : ObjectDecl) → (if b then found else None) ≡ Some d → (b ≡ true) × (found ≡ Some d)
  by_looks true found d e = (refl, e)
  by_looks false found d e = cc

  -- an object is declared on the switch where it is looked up, as it is in the program
  pub declared_parts : (o : ℕ) (d : ObjectDecl) → declared_at (tables_from f split 0 f.objects) o ≡ Some d → (is_looked_up f split o ≡ true) × (slice_get f.objects o ≡ Some d)
  declared_parts o d e = by_looks (is_looked_up f split o) (slice_get f.objects o) d (sym (declared_from f.objects 0 o o (omega arith)) ∙ e)

  pub declared_there : (o : ℕ) (d : ObjectDecl) → is_looked_up f split o ≡ true → slice_get f.objects o ≡ Some d → declared_at (tables_from f split 0 f.objects) o ≡ Some d
  declared_there o d looked is =
      declared_from f.objects 0 o o (omega arith) ∙ cond-true (is_looked_up f split o) (slice_get f.objects o) None looked ∙ is

-- ## Objects that are looked up

keys_there : (objects : List ObjectDecl) (o : ℕ) (widths : List ℕ) (found : Option ObjectDecl) → slice_get objects o ≡ found → fits_keys found widths ≡ true → o < length objects
keys_there objects o widths None is fit = absurd (false≢true fit)
keys_there objects o widths (Some d) is fit = slice_get_within objects o d is

pub looked_there : (f : Program) (o : ℕ) (work : Work) → looks_at o work ≡ true → fits f work ≡ true → o < length f.objects
looked_there f o (look object keys) looks fit =
    subst (λ k. k < length f.objects) (eqb-true object o looks) (keys_there f.objects object (widths_of f keys) (slice_get f.objects object) refl fit)
looked_there f o work looks fit = absurd (false≢true looks)

pub shown_there : (f : Program) (split : List Part) (o : ℕ) → IsWellFormed f → is_shown f split o ≡ true → o < length f.objects
shown_there f split o well shown =
    let found = passes_any (length f.code) (λ i. is_pre split i && looks_at o (step_at f i).work) shown in
    looked_there f o (step_at f found.0).work (and_parts (is_pre split found.0) (looks_at o (step_at f found.0).work) found.2).1 (well.fit found.0 found.1)

post_there : (f : Program) (split : List Part) (o : ℕ) → IsWellFormed f → is_post_shown f split o ≡ true → o < length f.objects
post_there f split o well shown =
    let found = passes_any (length f.code) (λ i. is_post split i && looks_at o (step_at f i).work) shown in
    looked_there f o (step_at f found.0).work (and_parts (is_post split found.0) (looks_at o (step_at f found.0).work) found.2).1 (well.fit found.0 found.1)

-- an object that is looked up is declared
pub looked_up_declared : (f : Program) (split : List Part) (o : ℕ) → IsWellFormed f → is_looked_up f split o ≡ true → (d : ObjectDecl) × (slice_get f.objects o ≡ Some d)
looked_up_declared f split o well looked =
    get_within f.objects o (⊎_elim (shown_there f split o well) (post_there f split o well) (or_cases (is_shown f split o) (is_post_shown f split o) looked))

-- a look of postprocessing is one of a constant table
looks_constant : (f : Program) (o : ℕ) (work : Work) → looks_at o work ≡ true → is_mutable_look f work ≡ false → is_constant f.objects o ≡ true
looks_constant f o (look object keys) looks fixed = ap (is_constant f.objects) (sym (eqb-true object o looks)) ∙ not-false (is_constant f.objects object) fixed
looks_constant f o work looks fixed = absurd (false≢true looks)

first_false : (post bad mutable read : Bool) → (post && (bad || (mutable || read))) ≡ false → post ≡ true → mutable ≡ false
first_false true true mutable read e is = absurd (true≢false e)
first_false true false true read e is = absurd (true≢false e)
first_false true false false read e is = refl
first_false false bad mutable read e is = absurd (false≢true is)

pub post_constant : (f : Program) (split : List Part) (o : ℕ) → IsLegal f split → is_post_shown f split o ≡ true → is_constant f.objects o ≡ true
post_constant f split o legal shown =
    let found = passes_any (length f.code) (λ i. is_post split i && looks_at o (step_at f i).work) shown in
    let i : ℕ = found.0 in
    let parts = and_parts (is_post split i) (looks_at o (step_at f i).work) found.2 in
    looks_constant f o (step_at f i).work parts.1
    (first_false (is_post split i) (not (fits_switch (step_at f i))) (is_mutable_look f (step_at f i).work) (is_field (step_at f i).work) (legal.kept 7 i found.1) parts.0)

-- an object that is looked up and can change is replicated
pub can_change : (f : Program) (split : List Part) (o : ℕ) (d : ObjectDecl) → IsLegal f split → is_looked_up f split o ≡ true → slice_get f.objects o ≡ Some d → is_table d.kind ≡ false → is_replicated f split o ≡ true
can_change f split o d legal looked is changes =
    let mutable : is_constant f.objects o ≡ false = constant_at f.objects o d is ∙ changes in
    and_from (not (is_constant f.objects o)) (is_shown f split o) (ap not mutable)
    (⊎_elim (λ shown. shown) (λ shown. absurd (false≢true (sym mutable ∙ post_constant f split o legal shown))) (or_cases (is_shown f split o) (is_post_shown f split o) looked))

-- and a replicated object can change, and is looked up
pub replicated_parts : (f : Program) (split : List Part) (o : ℕ) → is_replicated f split o ≡ true → (is_constant f.objects o ≡ false) × (is_shown f split o ≡ true) × (is_looked_up f split o ≡ true)
replicated_parts f split o e =
    let parts = and_parts (not (is_constant f.objects o)) (is_shown f split o) e in
    (not-true (is_constant f.objects o) parts.0, parts.1, or_left (is_shown f split o) (is_post_shown f split o) parts.1)
