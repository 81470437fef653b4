-- Marks, and the values that an instruction reads.
use Rattle.std.proofs.Common.{◌≡◌, ℕ, zero, suc, ◌<◌, Bool, true, false, List, [], ◌∷◌, ◌++◌, ◌⊎◌, inl, inr, refl, ap, subst, arith, length, set, replicate}
use Rattle.std.specs.Prelude.{slice_index_or}
use Rattle.std.proofs.lemmas.Bool.{cases_Bool, and_from, and_parts}
use Rattle.flat_ir.specs.declared.program.ValueId.{ValueId}
use Rattle.flat_ir.specs.Sets.{Reads, IsMarked}
use Rattle.dependence.specs.Marked.{are_marked}

pub marked_push_old : (marks : List Bool) (b : Bool) (j : ℕ) → IsMarked marks j → IsMarked (marks ++ b ∷ []) j
marked_push_old [] b j h = cc
marked_push_old (m ∷ ms) b zero h = h
marked_push_old (m ∷ ms) b (suc j) h = marked_push_old ms b j h

pub marked_push_cases : (marks : List Bool) (b : Bool) (j : ℕ) → IsMarked (marks ++ b ∷ []) j → IsMarked marks j ⊎ ((j ≡ length marks) × (b ≡ true))
marked_push_cases [] b zero h = inr (refl, h)
marked_push_cases [] b (suc j) h = cc
marked_push_cases (m ∷ ms) b zero h = inl h
marked_push_cases (m ∷ ms) b (suc j) h = elim (marked_push_cases ms b j h) [ inl p ↦ inl p | inr q ↦ inr (ap suc q.0, q.1) ]

pub marked_push_last : (marks : List Bool) (b : Bool) → b ≡ true → IsMarked (marks ++ b ∷ []) (length marks)
marked_push_last [] b h = h
marked_push_last (m ∷ ms) b h = marked_push_last ms b h

pub marked_inside : (marks : List Bool) (j : ℕ) → IsMarked marks j → j < length marks
marked_inside [] j h = cc
marked_inside (m ∷ ms) zero h = omega arith
marked_inside (m ∷ ms) (suc j) h = let r = marked_inside ms j h in omega arith

pub all_read : (marks : List Bool) (vs : List ValueId) → are_marked marks vs ≡ true → (j : ℕ) → Reads vs j → IsMarked marks j
all_read marks [] h j r = absurd r
all_read marks (v ∷ vs) h j (inl e) = subst (IsMarked marks) e (and_parts _ _ h).0
all_read marks (v ∷ vs) h j (inr r) = all_read marks vs (and_parts _ _ h).1 j r

pub read_all : (marks : List Bool) (vs : List ValueId) → ((j : ℕ) → Reads vs j → IsMarked marks j) → are_marked marks vs ≡ true
read_all marks [] h = refl
read_all marks (v ∷ vs) h = and_from _ _ (h v.instruction (inl refl)) (read_all marks vs (λ j r. h j (inr r)))

pub marked_set_kept : (marks : List Bool) (i j : ℕ) → IsMarked marks j → IsMarked (set marks i true) j
marked_set_kept (m ∷ ms) zero zero h = refl
marked_set_kept (m ∷ ms) (suc i) (suc j) h = marked_set_kept ms i j h
marked_set_kept _ _ _ h = h

pub marked_set_same : (marks : List Bool) (i : ℕ) → i < length marks → IsMarked (set marks i true) i
marked_set_same [] i h = absurd (omega arith)
marked_set_same (m ∷ ms) zero h = refl
marked_set_same (m ∷ ms) (suc i) h = marked_set_same ms i (omega arith)

pub marked_set_cases : (marks : List Bool) (i j : ℕ) → IsMarked (set marks i true) j → IsMarked marks j ⊎ (j ≡ i)
marked_set_cases (m ∷ ms) zero zero h = inr refl
marked_set_cases (m ∷ ms) (suc i) (suc j) h = elim (marked_set_cases ms i j h) [ inl p ↦ inl p | inr q ↦ inr (ap suc q) ]
marked_set_cases _ _ _ h = inl h

pub unset_marked : (n j : ℕ) → IsMarked (replicate n false) j → ⊥
unset_marked zero j h = cc
unset_marked (suc n) zero h = cc
unset_marked (suc n) (suc j) h = unset_marked n j h

-- a mark is set or not
pub mark_cases : (marks : List Bool) (j : ℕ) → IsMarked marks j ⊎ (slice_index_or marks j false ≡ false)
mark_cases marks j = cases_Bool (slice_index_or marks j false)

pub not_both : (marks : List Bool) (j : ℕ) → IsMarked marks j → slice_index_or marks j false ≡ false → ⊥
not_both marks j h k = cc

pub not_marked : (marks : List Bool) (j : ℕ) → (IsMarked marks j → ⊥) → slice_index_or marks j false ≡ false
not_marked marks j h = elim (mark_cases marks j) [ inl p ↦ absurd (h p) | inr q ↦ q ]
