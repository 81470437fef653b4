-- Places that a stage has written so far.
use Rattle.std.proofs.Common.{◌≡◌, ◌∙◌, inl, inr, ◌<◌, ◌≤◌, ◌+◌, ◌++◌, ℕ, suc, false, List, [], ◌∷◌, length, map, drop, take, Some, refl, sym, ap, subst, arith, get_or, append_assoc}
use Rattle.std.specs.List.{AllByRecursion as Each}
use Rattle.std.specs.Prelude.{slice_get, slice_index}
use Rattle.std.proofs.lemmas.Bool.{cases_eq}
use Rattle.std.proofs.lemmas.List.{take_more}
use Rattle.std.proofs.lemmas.Option.{same_Some}
use Rattle.flat_ir.specs.declared.program.ValueId.{ValueId}
use Rattle.flat_ir.specs.Program.{operands, work_of}
use Rattle.transfer_header.specs.Steps.{is_among}
use Rattle.switch_machine.specs.declared.ready.ReadyStep.{ReadyStep}
use Rattle.switch_machine.specs.declared.written.Written.{Written}
use Rattle.switch_machine.specs.Ready.{places_of, ready_of, IsDirect}
use Rattle.switch_machine.specs.Written.{Marks}
use Rattle.lemmas.proofs.Lists.{drop_past, folded_item}

-- ## What an instruction reads

pub read_more : (P : ValueId → Type 0) (xs : List ValueId) (i : ℕ) (v : ValueId) → ((k : ℕ) (u : ValueId) → k < i → slice_get xs k ≡ Some u → P u)
    → slice_get xs i ≡ Some v → P v → (k : ℕ) (u : ValueId) → k < i + 1 → slice_get xs k ≡ Some u → P u
read_more P xs i v before at here k u lt is = elim (cases_eq k i) [
  | inl same ↦ subst P (same_Some v u (sym at ∙ ap (slice_get xs) (sym same) ∙ is)) here
  | inr other ↦ before k u (omega (arith, lt, other)) is
]

pub read_all : (P : ValueId → Type 0) (xs : List ValueId) → ((k : ℕ) (u : ValueId) → k < length xs → slice_get xs k ≡ Some u → P u) → Each P xs
read_all P [] all = tt
read_all P (x ∷ xs) all = (all 0 x (omega arith) refl, read_all P xs (λ k u lt is. all (suc k) u (omega (arith, lt)) is))

-- ## Instruction by instruction

pub record IsSoFar (rest : List ReadyStep) (all : List ReadyStep) (w : Written) : Type 0 where
  pub written : List ℕ
  pub marks : Marks written w
  pub direct : IsDirect written (map ready_of rest) → IsDirect [] (map ready_of all)

pub so_far_more : (steps : List ReadyStep) (i : ℕ) (s : ReadyStep) (before after : Written) → i < length steps → s ≡ get_or steps i s
    → ((places : List ℕ) → Marks places before → Each (λ (v : ValueId). is_among v.instruction places ≡ false) (operands (work_of s.kind)))
    → ((places : List ℕ) → Marks places before → Marks (places ++ places_of s.places) after)
    → IsSoFar (drop i steps) steps before → IsSoFar (drop (i + 1) steps) steps after
so_far_more steps i s before after lt is reads puts so = record {
  written = so.written ++ places_of s.places;
  marks = puts so.written so.marks;
  direct = λ later. so.direct (subst (IsDirect so.written) (sym (folded_item (map ready_of) steps i s lt is)) (reads so.written so.marks, later));
}

pub so_far_all : (steps : List ReadyStep) (i : ℕ) (w : Written) → length steps ≤ i → IsSoFar (drop i steps) steps w → IsDirect [] (map ready_of steps)
so_far_all steps i w le so = so.direct (subst (λ (ss : List ReadyStep). IsDirect so.written (map ready_of ss)) (sym (drop_past steps i le)) tt)

pub list_more : (places : List ℕ) (i : ℕ) (place : ℕ) (start before after : Written) → i < length places → place ≡ slice_index places i
    → ((given : List ℕ) → Marks given start → Marks (given ++ take i places) before)
    → ((given : List ℕ) → Marks given before → Marks (given ++ place ∷ []) after)
    → (given : List ℕ) → Marks given start → Marks (given ++ take (i + 1) places) after
list_more places i place start before after lt is so more given marks =
    subst (λ (ps : List ℕ). Marks ps after)
    (append_assoc given (take i places) (place ∷ [])
    ∙ ap (λ n. given ++ (take i places ++ n ∷ [])) is
    ∙ ap (λ (ps : List ℕ). given ++ ps) (sym (take_more places i 0 lt)))
    (more (given ++ take i places) (so given marks))
