-- What elements write, and bytes that stay bytes.
use Rattle.std.proofs.Common.{◌≡◌, ℕ, zero, suc, ◌+◌, ◌<◌, true, false, cond, List, [], ◌∷◌, ◌++◌, length, sym, ap, ◌∙◌, arith, slice_index, true≢false, ⊎_elim}
use Rattle.std.proofs.lemmas.Bool.{cond_both, eqb-true, or_cases, or_left, or_right}
use Rattle.packet_fields.specs.declared.field.Field.{Field}
use Rattle.packet_fields.specs.Fields.{with_field}
use Rattle.packet_fields.specs.Table.{row, all_fields, field_index}
use Rattle.element_lang.specs.Tree.{StmtTree, BodyTree, Tree}
use Rattle.element_lang.specs.Tree.StmtTree.{set_field, choose, repeat}
use Rattle.element_lang.specs.Tree.BodyTree.{done, stmt}
use Rattle.element_lang.specs.Rules.{is_good_stmt, is_good_body, declared_in, declared_by, binds}
use Rattle.element_lang.specs.Meaning.{with_fields}
use Rattle.element_chain.specs.Chain.{element_at}
use Rattle.element_chain.specs.Compose.{sets, sets_in, is_set}
use Rattle.packet_fields.specs.FieldOrder.{same_index}
use Rattle.packet_fields.specs.Several.{AreBytes}
use Rattle.packet_fields.proofs.Alone.{small_after}
use Rattle.lemmas.proofs.Tests.{and_first, and_second}

-- ## which fields
mutual
  sets_writable : (m : Tree) (f : Field) (scope : List ℕ) (next : ℕ) (s : StmtTree) → is_good_stmt m scope next s ≡ true → sets f s ≡ true → (row f).writable ≡ true
  sets_writable m f scope next (set_field g value) good h =
      let same : f ≡ g = same_index f g (eqb-true (field_index f) (field_index g) h) in
      ap (λ (x : Field). (row x).writable) same ∙ and_second _ _ (and_first _ _ good)
  sets_writable m f scope next (choose test first second) good h =
      ⊎_elim (λ e. body_sets_writable m f scope next first (and_second _ _ (and_first _ _ good)) e)
      (λ e. body_sets_writable m f scope (next + declared_by first) second (and_second _ _ good) e) (or_cases (sets_in f first) (sets_in f second) h)
  sets_writable m f scope next (repeat index count body) good h = body_sets_writable m f (index ∷ scope) (next + 1) body (and_second _ _ good) h
  sets_writable m f scope next _ good h = absurd (true≢false (sym h))

  body_sets_writable : (m : Tree) (f : Field) (scope : List ℕ) (next : ℕ) (b : BodyTree) → is_good_body m scope next b ≡ true → sets_in f b ≡ true → (row f).writable ≡ true
  body_sets_writable m f scope next done good h = absurd (true≢false (sym h))
  body_sets_writable m f scope next (stmt s b) good h =
      ⊎_elim (λ e. sets_writable m f scope next s (and_first _ _ (and_first _ _ good)) e)
      (λ e. body_sets_writable m f (binds s ++ scope) (next + declared_in s) b (and_second _ _ good) e) (or_cases (sets f s) (sets_in f b) h)

-- only fields that can be written are set
pub set_only : (elements : List Tree) (f : Field) → ((e : ℕ) → e < length elements → is_good_body (element_at elements e) [] 0 (element_at elements e).body ≡ true)
    → is_set elements f ≡ true → (row f).writable ≡ true
set_only [] f good h = absurd (true≢false (sym h))
set_only (m ∷ ms) f good h =
    ⊎_elim (λ e. body_sets_writable m f [] 0 m.body (good 0 (omega arith)) e)
    (λ e. set_only ms f (λ k lt. good (suc k) (omega (arith, lt))) e) (or_cases (sets_in f m.body) (is_set ms f) h)

-- what an element sets, some element sets
pub set_by : (elements : List Tree) (e : ℕ) (f : Field) → e < length elements → sets_in f (element_at elements e).body ≡ true → is_set elements f ≡ true
set_by [] e f lt h = absurd (omega (arith, lt))
set_by (m ∷ ms) zero f lt h = or_left (sets_in f m.body) (is_set ms f) h
set_by (m ∷ ms) (suc e) f lt h = or_right (sets_in f m.body) (is_set ms f) (set_by ms e f (omega (arith, lt)) h)

-- ## bytes
all_bytes : (fs : List Field) (values bytes : List ℕ) → AreBytes bytes → AreBytes (with_fields fs values bytes)
all_bytes [] values bytes are = are
all_bytes (f ∷ fs) values bytes are =
    let v : ℕ = slice_index values (field_index f) in
    all_bytes fs values (cond (row f).writable (with_field bytes f v) bytes)
    (cond_both (row f).writable (with_field bytes f v) bytes AreBytes (λ may. small_after bytes f v are) (λ never. are))

-- what is sent has bytes
pub sent_bytes : (values bytes : List ℕ) → AreBytes bytes → AreBytes (with_fields all_fields values bytes)
sent_bytes values bytes are = all_bytes all_fields values bytes are
