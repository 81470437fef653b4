-- Sets of values, as marks.
use Rattle.std.proofs.Common.{◌≡◌, ℕ, ◌+◌, ◌<◌, ◌≤◌, Bool, ◌&&◌, ◌||◌, List, ap, sym, ◌∙◌, length, get_or, take}
use Rattle.std.specs.List.{list_any}
use Rattle.std.proofs.lemmas.List.{take_all}
use Rattle.std.proofs.lemmas.List.Folds.{list_any_more}
use Rattle.flat_ir.specs.declared.program.ValueId.{ValueId}
use Rattle.flat_ir.specs.declared.program.FieldValue.{FieldValue}
use Rattle.split_model.specs.declared.split.Part.{Part}
use Rattle.split_model.specs.Crossing.{is_value, is_among, is_server_write}
use Rattle.split_model.specs.Marked.{AreMarked}
use Rattle.lemmas.proofs.Tests.{or_assoc}

-- marks for one test are marks for another one that says the same
pub same_test : (n : ℕ) (p q : ValueId → Bool) (marks : List Bool) → ((v : ValueId) → p v ≡ q v) → AreMarked n p marks → AreMarked n q marks
same_test n p q marks same are = record { count = are.count; exact = λ v i r. are.exact v i r ∙ same v }

-- one more of a list of values
pub among_more : (vs : List ValueId) (i : ℕ) (d v : ValueId) (t : Bool) → i < length vs
    → ((t || is_among v (take i vs)) || is_value v (get_or vs i d)) ≡ (t || is_among v (take (i + 1) vs))
among_more vs i d v t h =
    or_assoc t (is_among v (take i vs)) (is_value v (get_or vs i d)) ∙ ap (λ b. t || b) (sym (list_any_more (is_value v) vs i d h))

pub among_all : (vs : List ValueId) (i : ℕ) (v : ValueId) (t : Bool) → length vs ≤ i → (t || is_among v (take i vs)) ≡ (t || is_among v vs)
among_all vs i v t h = ap (λ l. t || is_among v l) (take_all i vs h)

-- one field more
pub written_more : (split : List Part) (fs gs : List FieldValue) (i : ℕ) (d : FieldValue) (v : ValueId) → gs ≡ fs → i < length gs
    → (list_any (λ w. is_server_write split w && is_value v w.value) (take i fs) || (is_server_write split (get_or gs i d) && is_value v (get_or gs i d).value))
    ≡ list_any (λ w. is_server_write split w && is_value v w.value) (take (i + 1) fs)
written_more split fs gs i d v same h =
    ap (λ l. list_any (λ w. is_server_write split w && is_value v w.value) (take i l) || (is_server_write split (get_or gs i d) && is_value v (get_or gs i d).value)) (sym same)
    ∙ sym (list_any_more (λ w. is_server_write split w && is_value v w.value) gs i d h)
    ∙ ap (λ l. list_any (λ w. is_server_write split w && is_value v w.value) (take (i + 1) l)) same
