-- What a sender keeps, call by call.
use Rattle.std.proofs.Common.{◌≡◌, ◌<◌, ◌+◌, ℕ, Bool, true, false, cond, List, [], ◌∷◌, ◌++◌, length, set, sym, ap, ◌∙◌, subst, Some, arith}
use Rattle.std.specs.Prelude.{slice_get}
use Rattle.std.specs.FinSet as finset
use Rattle.std.specs.Ordering.{nat_cmp}
use Rattle.std.proofs.lemmas.List.{length_push}
use Rattle.lossy_link.specs.declared.answers.Confirm.{Confirm}
use Rattle.lossy_link.specs.declared.answers.Confirm.TheVariants.{Known, Again}
use Rattle.lossy_link.specs.Link.{is_among}
use Rattle.lossy_link.specs.Marks.{numbers_set, set_below}
use Rattle.lossy_link.specs.Sender.{Sender, answer_to, first_sender, given, unknown, with_known}
use Rattle.lossy_link.specs.Unknown.{AreRising, known_beside, sender_with}
use Rattle.lossy_link.proofs.Counts.{numbers_apart, numbers_at, numbers_cleared, numbers_pushed, numbers_rise}
use Rattle.lossy_link.proofs.KnownNumbers.{known_again, known_first, known_given, known_removed, unknown_are}
use Rattle.std.proofs.lemmas.Option.{slice_get_within, get_or_from_slice_get}

abbrev pub sender_by : List (List ℕ) → List Bool → Sender
sender_by items marks = sender_with items (numbers_set 0 marks)

pub marks_rise : (items : List (List ℕ)) (marks : List Bool) → length marks ≡ length items
    → AreRising 0 (length items) (numbers_set 0 marks)
marks_rise items marks long = numbers_rise 0 (length items) marks (omega (arith, long))

-- ---- no items

pub none_kept : (items : List (List ℕ)) (marks : List Bool) → items ≡ [] → marks ≡ [] → sender_by items marks ≡ first_sender
unfolding numbers_set
none_kept items marks no_items no_marks = λ i. sender_by (no_items i) (no_marks i)

-- ---- one more item

pub more_kept : (items : List (List ℕ)) (item : List ℕ) (marks : List Bool) → length marks ≡ length items
    → sender_by (items ++ item ∷ []) (marks ++ true ∷ []) ≡ given (sender_by items marks) item
more_kept items item marks long =
    let last : 0 + length marks ≡ length items = omega (arith, long) in
    let xs = numbers_set 0 marks in
    let numbers : numbers_set 0 (marks ++ true ∷ []) ≡ xs ++ length items ∷ [] =
    numbers_pushed 0 marks ∙ ap (λ (k : ℕ). xs ++ k ∷ []) last in
    let known : known_beside (length (items ++ item ∷ [])) (numbers_set 0 (marks ++ true ∷ [])) ≡ known_beside (length items) xs =
    (λ i. known_beside (length_push items item i) (numbers i)) ∙ known_given (length items) xs in
    λ i. record { items = items ++ item ∷ []; known = known i }

-- ---- what isn't known

pub unknown_kept : (items : List (List ℕ)) (marks : List Bool) → length marks ≡ length items
    → unknown (sender_by items marks).items (sender_by items marks).known ≡ numbers_set 0 marks
unknown_kept items marks long = unknown_are items (numbers_set 0 marks) (marks_rise items marks long)

-- ---- confirmations

-- what a sender answers to the number of an item, and is then
pub record Learns (s : Sender) (number : ℕ) (answer : Confirm) (after : Sender) : Type 0 where
  pub says : answer ≡ answer_to s (Some number)
  pub leaves : after ≡ with_known s (Some number)

abbrev sender_of_parts : List (List ℕ) → finset.FinSet nat_cmp → Sender
sender_of_parts items known = record { items = items; known = known }

-- of an item that isn't known
pub learned : (items : List (List ℕ)) (marks : List Bool) (n : ℕ) → length marks ≡ length items → n < length items
    → slice_get marks n ≡ Some true
    → Learns (sender_by items marks) n Known (sender_by items (set marks n false))
learned items marks n long below is =
    let xs = numbers_set 0 marks in
    let place = set_below marks n in
    let same : 0 + n ≡ n = omega arith in
    let at = numbers_at 0 marks n is ∙ ap (λ (k : ℕ). Some k) same in
    let inside = slice_get_within xs place n at in
    let here = get_or_from_slice_get xs place n 0 at in
    record {
      says = sym (ap (λ (b : Bool). cond b Again Known) (known_first (length items) xs place n inside here below));
      leaves = ap (λ (ys : List ℕ). sender_with items ys) (numbers_cleared 0 marks n is)
          ∙ ap (λ (known : finset.FinSet nat_cmp). sender_of_parts items known) (known_removed (length items) xs place n (marks_rise items marks long) inside here below);
    }

-- of one that is
pub learned_before : (items : List (List ℕ)) (marks : List Bool) (n : ℕ) → length marks ≡ length items → n < length items
    → slice_get marks n ≡ Some false
    → Learns (sender_by items marks) n Again (sender_by items marks)
learned_before items marks n long below is =
    let same : 0 + n ≡ n = omega arith in
    let fails = subst (λ (k : ℕ). is_among (numbers_set 0 marks) k ≡ false) same (numbers_apart 0 marks n is) in
    let again = known_again (length items) (numbers_set 0 marks) n fails below in
    record {
      says = sym (ap (λ (b : Bool). cond b Again Known) again.0);
      leaves = sym (ap (λ (known : finset.FinSet nat_cmp). sender_of_parts items known) again.1);
    }
