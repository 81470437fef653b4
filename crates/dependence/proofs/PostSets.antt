-- A scan in falling order: what is closed so far has all that any closed set has of the instructions placed.
use Rattle.std.proofs.Common.{◌≡◌, ℕ, ◌+◌, ◌<◌, Bool, true, false, ◌&&◌, ◌||◌, List, [], ◌∷◌, inl, inr, sym, ◌∙◌, subst, arith, length, set, replicate, length-set}
use Rattle.std.specs.Prelude.{slice_index_or, IsTrue, not, ◌==◌}
use Rattle.std.specs.List.{list_any, list_all}
use Rattle.std.proofs.lemmas.Option.{same_Some, slice_get_within, slice_get-get_or}
use Rattle.std.proofs.lemmas.List.{length-replicate}
use Rattle.std.proofs.lemmas.Bool.{cases_lt, or_cases, or_left, or_right, eqb-true, eq-eqb, false≢true, and_from, and_parts, not-true, not_from_false}
use Rattle.flat_ir.specs.declared.program.ValueId.{ValueId}
use Rattle.flat_ir.specs.Program.{Program, Step, const, step_at, operands}
use Rattle.flat_ir.specs.Kinds.{fits_switch, is_mutable_look, is_field}
use Rattle.flat_ir.specs.Sets.{Reads, IsMarked, IsAt, IsGuard, IsPostClosed, IsGreatest}
use Rattle.dependence.specs.Placed.{IsPlaced}
use Rattle.dependence.specs.Guards.{AreGuards}
use Rattle.dependence.specs.Uses.{is_user, users_of, AreUses}
use Rattle.dependence.specs.Posted.{IsPostFrom}
use Rattle.dependence.proofs.MarkedPlaces.{marked_set_kept, marked_set_same, marked_set_cases, unset_marked, mark_cases, not_both, not_marked}
use Rattle.dependence.proofs.PlacedCode.{step_there}
use Rattle.dependence.proofs.UserLists.{of_users, to_users}

-- ## Users and what they read

any_reads : (vs : List ValueId) (j : ℕ) → list_any (λ (v : ValueId). v.instruction == j) vs ≡ true → Reads vs j
any_reads [] j h = absurd (false≢true h)
any_reads (v ∷ vs) j h = elim (or_cases (v.instruction == j) (list_any (λ (w : ValueId). w.instruction == j) vs) h) [
  | inl e ↦ inl (eqb-true v.instruction j e)
  | inr r ↦ inr (any_reads vs j r)
]

reads_any : (vs : List ValueId) (j : ℕ) → Reads vs j → list_any (λ (v : ValueId). v.instruction == j) vs ≡ true
reads_any [] j r = absurd r
reads_any (v ∷ vs) j (inl e) = or_left (v.instruction == j) (list_any (λ (w : ValueId). w.instruction == j) vs) (eq-eqb v.instruction j e)
reads_any (v ∷ vs) j (inr r) = or_right (v.instruction == j) (list_any (λ (w : ValueId). w.instruction == j) vs) (reads_any vs j r)

reader_is_user : (f : Program) (u j : ℕ) (one : Step) → IsAt f u one → Reads (operands one.work) j → is_user f j u ≡ true
reader_is_user f u j one at r = reads_any (operands (step_at f u).work) j (subst (λ (x : Step). Reads (operands x.work) j) (sym (step_there f u one at)) r)

-- ## The scan

pub post_from_end : (f : Program) (carried : List Bool)
    → IsPostFrom f carried (length f.code) (replicate (length f.code) false)
post_from_end f carried = record {
  count = length-replicate (length f.code) false;
  closed = record {
    apart = λ j h. absurd (unset_marked (length f.code) j h);
    kinds = λ j h. absurd (unset_marked (length f.code) j h);
    readers = λ u j one h at r free. absurd (unset_marked (length f.code) j h);
    guards = λ j h g. unset_marked (length f.code) j h;
  };
  greatest = λ others c j l h. let e = c.kinds j h in let w = slice_get_within f.code j e.0 e.1 in absurd (omega arith);
}

-- postprocessing may have an instruction of this kind
abbrev pub may : Program → Step → Bool
may f one = fits_switch one && (not (is_mutable_look f one.work) && not (is_field one.work))

-- and has instruction i, by what it has of its users
abbrev pub enters : List (List ℕ) → List Bool → List Bool → List Bool → ℕ → Bool
enters uses guards carried post i =
    not (slice_index_or carried i false) && (not (slice_index_or guards i false)
    && list_all (λ u. slice_index_or post u false || slice_index_or carried u false) (slice_index_or uses i []))

-- an instruction is taken whose users are all there or carried
pub take_one : (f : Program) (uses : List (List ℕ)) (guards carried : List Bool) (i : ℕ) (one : Step) (post : List Bool)
    → AreUses f uses → AreGuards f guards → IsAt f i one
    → may f one ≡ true → enters uses guards carried post i ≡ true
    → IsPostFrom f carried (i + 1) post → IsPostFrom f carried i (set post i true)
take_one f uses guards carried i one post used guarded here fit may from =
    let inside = slice_get_within f.code i one here in
    let a = and_parts _ _ fit in
    let b = and_parts _ _ a.1 in
    let t : ℕ → Bool = λ u. slice_index_or post u false || slice_index_or carried u false in
    let c = and_parts (not (slice_index_or carried i false)) (not (slice_index_or guards i false) && list_all t (slice_index_or uses i [])) may in
    let d = and_parts (not (slice_index_or guards i false)) (list_all t (slice_index_or uses i [])) c.1 in
    let alone = not-true (slice_index_or carried i false) c.0 in
    let free = not-true (slice_index_or guards i false) d.0 in
    let there : list_all t (users_of f i) ≡ true = subst (λ us. list_all t us ≡ true) (used.users i inside) d.1 in
    record {
      count = length-set post i true ∙ from.count;
      closed = record {
        apart = λ j h. elim (marked_set_cases post i j h) [ inl p ↦ from.closed.apart j p | inr q ↦ subst (λ x. slice_index_or carried x false ≡ false) (sym q) alone ];
        kinds = λ j h. elim (marked_set_cases post i j h) [
          | inl p ↦ from.closed.kinds j p
          | inr q ↦ (one, subst (λ x. IsAt f x one) (sym q) here, (a.0, not-true _ b.0, not-true _ b.1))
        ];
        readers = λ u j other h at r apart. elim (marked_set_cases post i j h) [
          | inl p ↦ marked_set_kept post i u (from.closed.readers u j other p at r apart)
          | inr q ↦
              let user : is_user f i u ≡ true = reader_is_user f u i other at (subst (Reads (operands other.work)) q r) in
              let within = slice_get_within f.code u other at in
              let known : t u ≡ true = of_users t (is_user f i) 0 (length f.code) u there (omega arith) (omega arith) user in
              elim (or_cases (slice_index_or post u false) (slice_index_or carried u false) known) [
                | inl p ↦ marked_set_kept post i u p
                | inr q ↦ absurd (not_both carried u q apart)
              ]
        ];
        guards = λ j h g. elim (marked_set_cases post i j h) [
          | inl p ↦ from.closed.guards j p g
          | inr q ↦ not_both guards i (guarded.complete i (subst (IsGuard f) q g)) free
        ];
      };
      greatest = λ others c j l h. elim (cases_lt i j) [
        | inl lt ↦ marked_set_kept post i j (from.greatest others c j (omega arith) h)
        | inr ge ↦ let e : i ≡ j = omega arith in subst (IsMarked (set post i true)) e (marked_set_same post i (let c = from.count in omega arith))
      ];
    }

-- an instruction that a closed set has enters
closed_enters : (f : Program) (uses : List (List ℕ)) (guards carried : List Bool) (i : ℕ) (one : Step) (post : List Bool) → IsPlaced f
    → AreUses f uses → AreGuards f guards → IsAt f i one → IsPostFrom f carried (i + 1) post
    → (others : List Bool) → IsPostClosed f carried others → IsMarked others i
    → (may f one && enters uses guards carried post i) ≡ true
closed_enters f uses guards carried i one post good used guarded here from others c h =
    let inside = slice_get_within f.code i one here in
    let e = c.kinds i h in
    let same : e.0 ≡ one = same_Some e.0 one (sym e.1 ∙ here) in
    let k = subst (λ (x : Step). IsTrue (fits_switch x) × (is_mutable_look f x.work ≡ false) × (is_field x.work ≡ false)) same e.2 in
    let t : ℕ → Bool = λ u. slice_index_or post u false || slice_index_or carried u false in
    let each : (u : ℕ) → u < 0 + length f.code → is_user f i u ≡ true → t u ≡ true = λ u l user.
    let r : Reads (operands (step_at f u).work) i = any_reads (operands (step_at f u).work) i user in
    let at = slice_get-get_or f.code u (record { block = 0; looped = false; work = const 1 0 }) (omega arith) in
    let later = good.operands u i (step_at f u) at r in
    elim (mark_cases carried u) [
      | inl y ↦ or_right (slice_index_or post u false) (slice_index_or carried u false) y
      | inr n ↦ or_left (slice_index_or post u false) (slice_index_or carried u false) (from.greatest others c u (omega arith) (c.readers u i (step_at f u) h at r n))
    ] in
    let all = to_users t (is_user f i) 0 (length f.code) each in
    let there : list_all t (slice_index_or uses i []) ≡ true = subst (λ us. list_all t us ≡ true) (sym (used.users i inside)) all in
    let free = not_marked guards i (λ m. c.guards i h (guarded.sound i m)) in
    and_from _ _ (and_from _ _ k.0 (and_from _ _ (not_from_false _ k.1) (not_from_false _ k.2)))
    (and_from _ _ (not_from_false _ (c.apart i h)) (and_from _ _ (not_from_false _ free) there))

-- an instruction stays out that no closed set has
pub leave_out : (f : Program) (uses : List (List ℕ)) (guards carried : List Bool) (i : ℕ) (one : Step) (post : List Bool) → IsPlaced f
    → AreUses f uses → AreGuards f guards → IsAt f i one
    → (may f one && enters uses guards carried post i) ≡ false
    → IsPostFrom f carried (i + 1) post → IsPostFrom f carried i post
leave_out f uses guards carried i one post good used guarded here out from = record {
  count = from.count;
  closed = from.closed;
  greatest = λ others c j l h. elim (cases_lt i j) [
    | inl lt ↦ from.greatest others c j (omega arith) h
    | inr ge ↦ let e : j ≡ i = omega arith in
        absurd (false≢true (sym out ∙ closed_enters f uses guards carried i one post good used guarded here from others c (subst (IsMarked others) e h)))
  ];
}

pub post_found : (f : Program) (carried post : List Bool) → IsPostFrom f carried 0 post → IsGreatest f (IsPostClosed f carried) post
post_found f carried post from = record {
  count = from.count;
  closed = from.closed;
  greatest = λ others c i h. from.greatest others c i (omega arith) h;
}
