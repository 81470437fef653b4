-- Laws of the values of a layout.
use Rattle.std.proofs.Common.{◌≡◌, ◌≢◌, ℕ, ◌+◌, ◌*◌, ◌^◌, ◌<◌, ◌≤◌, List, [], ◌∷◌, ◌++◌, get_or, length, take, drop, Option, refl, sym, ap, ◌∙◌, subst, arith, length-append, length-take, get_or-take, append_assoc, mod-eq_of_lt}
use Rattle.std.proofs.Math.Nat.{min-eq_left}
use Rattle.std.proofs.Math.Seq.{take-add}
use Rattle.std.proofs.lemmas.List.{append-nil, get_or_read, take_more, take_at, drop_at, take-append-drop}
use Rattle.std.proofs.lemmas.List.Elements.{All-nil, All-cons, All-head, All-tail, All-append, All-more}
use Rattle.std.specs.List.{All, AllPairs}
use Rattle.split_model.specs.declared.layout.Crossing.{Crossing}
use Rattle.transfer_header.specs.Bits.{bits_of, number_from, bits_in, bytes_for}
use Rattle.transfer_header.specs.Values.{total, value_bits, AreNarrow, Agree}
use Rattle.flat_ir.specs.Plan.{RegisterPlan}
use Rattle.transfer_header.specs.Registers.{Registers, place_by, place_of, content_of, HasRegister, value_in, ChangesOnly}
use Rattle.transfer_header.proofs.BitLists.{AreBits, are_bits_of, length-bits_of, length-bits_in, number_from-bits_of}
use Rattle.split_model.proofs.Sums.{bits_more}

-- ---- how many bits they have
pub total-append : (layout others : List Crossing) → total (layout ++ others) ≡ total layout + total others
total-append [] others = omega arith
total-append (c ∷ cs) others = omega (arith, total-append cs others)

pub total-take : (layout : List Crossing) (i : ℕ) → total (take i layout) ≤ total layout
total-take layout i = omega (arith, total-append (take i layout) (drop i layout), ap total (take-append-drop i layout))

-- ---- bits of the values
pub value_bits-nil : (values : Crossing → ℕ) → value_bits [] values ≡ []
unfolding value_bits
value_bits-nil values = refl

pub value_bits-cons : (c : Crossing) (cs : List Crossing) (values : Crossing → ℕ) → value_bits (c ∷ cs) values ≡ bits_of c.width (values c) ++ value_bits cs values
unfolding value_bits
value_bits-cons c cs values = refl

pub length-value_bits : (layout : List Crossing) (values : Crossing → ℕ) → length (value_bits layout values) ≡ total layout
length-value_bits [] values = ap (λ (x : List ℕ). length x) (value_bits-nil values)
length-value_bits (c ∷ cs) values =
    ap (λ (x : List ℕ). length x) (value_bits-cons c cs values) ∙ length-append (bits_of c.width (values c)) (value_bits cs values)
    ∙ omega (arith, length-bits_of c.width (values c), length-value_bits cs values)

pub are_value_bits : (layout : List Crossing) (values : Crossing → ℕ) → AreBits (value_bits layout values)
are_value_bits [] values = subst AreBits (sym (value_bits-nil values)) (All-nil (λ bit. bit < 2))
are_value_bits (c ∷ cs) values = subst AreBits (sym (value_bits-cons c cs values)) (All-append (λ bit. bit < 2) (bits_of c.width (values c)) (value_bits cs values) (are_bits_of c.width (values c)) (are_value_bits cs values))

pub value_bits-push : (layout : List Crossing) (c : Crossing) (values : Crossing → ℕ) → value_bits (layout ++ c ∷ []) values ≡ value_bits layout values ++ bits_of c.width (values c)
value_bits-push [] c values =
    value_bits-cons c [] values ∙ ap (λ x. bits_of c.width (values c) ++ x) (value_bits-nil values) ∙ append-nil (bits_of c.width (values c))
    ∙ sym (ap (λ x. x ++ bits_of c.width (values c)) (value_bits-nil values))
value_bits-push (q ∷ ds) c values =
    value_bits-cons q (ds ++ c ∷ []) values ∙ ap (λ x. bits_of q.width (values q) ++ x) (value_bits-push ds c values)
    ∙ sym (append_assoc (bits_of q.width (values q)) (value_bits ds values) (bits_of c.width (values c)))
    ∙ sym (ap (λ x. x ++ bits_of c.width (values c)) (value_bits-cons q ds values))

pub value_bits-more : (layout : List Crossing) (i : ℕ) (c : Crossing) (values : Crossing → ℕ) → i < length layout → c ≡ get_or layout i c
    → value_bits (take (i + 1) layout) values ≡ value_bits (take i layout) values ++ bits_of c.width (values c)
value_bits-more layout i c values within is =
    ap (λ x. value_bits x values) (take_more layout i c within) ∙ value_bits-push (take i layout) (get_or layout i c) values
    ∙ ap (λ (q : Crossing). value_bits (take i layout) values ++ bits_of q.width (values q)) (sym is)

-- one value more is packed, behind other bits
pub more_packed : (layout : List Crossing) (registers : Registers) (front before after : List ℕ) (i width number : ℕ) (c : Crossing) → i < length layout → c ≡ get_or layout i c → width ≡ c.width → number ≡ value_in registers c
    → before ≡ front ++ value_bits (take i layout) (value_in registers) → after ≡ before ++ bits_of width number → after ≡ front ++ value_bits (take (i + 1) layout) (value_in registers)
more_packed layout registers front before after i width number c within is wide read so_far put =
    let values : Crossing → ℕ = value_in registers in
    put ∙ ap (λ x. x ++ bits_of width number) so_far ∙ ap (λ k. (front ++ value_bits (take i layout) values) ++ bits_of k number) wide
    ∙ ap (λ n. (front ++ value_bits (take i layout) values) ++ bits_of c.width n) read
    ∙ append_assoc front (value_bits (take i layout) values) (bits_of c.width (value_in registers c))
    ∙ sym (ap (λ x. front ++ x) (value_bits-more layout i c values within is))

pub value_bits-same : (layout : List Crossing) (values others : Crossing → ℕ) → Agree layout values others → value_bits layout values ≡ value_bits layout others
value_bits-same [] values others agree = value_bits-nil values ∙ sym (value_bits-nil others)
value_bits-same (c ∷ cs) values others agree =
    value_bits-cons c cs values
    ∙ ap (λ x. bits_of c.width x ++ value_bits cs values) (All-head (λ (q : Crossing). values q ≡ others q) c cs agree)
    ∙ ap (λ x. bits_of c.width (others c) ++ x) (value_bits-same cs values others (All-tail (λ (q : Crossing). values q ≡ others q) c cs agree))
    ∙ sym (value_bits-cons c cs others)

-- two readings that fit and give the same bits agree
pub agree_by_bits : (layout : List Crossing) (values others : Crossing → ℕ) → AreNarrow layout values → AreNarrow layout others → value_bits layout values ≡ value_bits layout others → Agree layout values others
agree_by_bits [] values others fits fits' same = All-nil (λ (c : Crossing). values c ≡ others c)
agree_by_bits (c ∷ cs) values others fits fits' same =
    let w : ℕ = c.width in
    let one : List ℕ = bits_of w (values c) in
    let two : List ℕ = bits_of w (others c) in
    let both : one ++ value_bits cs values ≡ two ++ value_bits cs others = sym (value_bits-cons c cs values) ∙ same ∙ value_bits-cons c cs others in
    let first : one ≡ two = sym (take_at one (value_bits cs values) w (length-bits_of w (values c))) ∙ ap (take w) both ∙ take_at two (value_bits cs others) w (length-bits_of w (others c)) in
    let rest : value_bits cs values ≡ value_bits cs others = sym (drop_at one (value_bits cs values) w (length-bits_of w (values c))) ∙ ap (drop w) both ∙ drop_at two (value_bits cs others) w (length-bits_of w (others c)) in
    let number : values c ≡ others c =
    sym (mod-eq_of_lt (All-head (λ (q : Crossing). values q < 2 ^ q.width) c cs fits)) ∙ sym (number_from-bits_of w (values c)) ∙ ap number_from first
    ∙ number_from-bits_of w (others c) ∙ mod-eq_of_lt (All-head (λ (q : Crossing). others q < 2 ^ q.width) c cs fits') in
    All-cons (λ (q : Crossing). values q ≡ others q) c cs number
    (agree_by_bits cs values others (All-tail (λ (q : Crossing). values q < 2 ^ q.width) c cs fits) (All-tail (λ (q : Crossing). others q < 2 ^ q.width) c cs fits') rest)

-- ---- a register that is written
-- what a call that gives a value a number says
pub record IsSet (before after : Registers) (value to : ℕ) : Type 0 where
  pub plan : after.plan ≡ before.plan
  pub count : length after.numbers ≡ length before.numbers
  pub number : content_of after value ≡ to
  pub others : (other : ℕ) → place_of before value ≢ place_of before other → content_of after other ≡ content_of before other

-- places hang on the plan and on how many numbers there are
pub same_places : (before after : Registers) → after.plan ≡ before.plan → length after.numbers ≡ length before.numbers → (value : ℕ) → place_of after value ≡ place_of before value
same_places before after plan count value =
    ap (λ (p : Option RegisterPlan). place_by p (length after.numbers) value) plan ∙ ap (λ n. place_by before.plan n value) count

abbrev pub AreApartIn : Registers → List Crossing → Type 0
AreApartIn registers layout = AllPairs (λ (a b : Crossing). place_of registers a.number ≢ place_of registers b.number) layout

pub still_apart_in : (before after : Registers) (layout : List Crossing) → ((value : ℕ) → place_of after value ≡ place_of before value) → AreApartIn before layout → AreApartIn after layout
still_apart_in before after layout same apart i j d order within e =
    apart i j d order within (sym (same (get_or layout i d).number) ∙ e ∙ same (get_or layout j d).number)

-- the register of a place is none of those in front of it
front_agrees : (layout : List Crossing) (before after : Registers) (i : ℕ) (c : Crossing) (number : ℕ) → AreApartIn before layout → i < length layout → c ≡ get_or layout i c → IsSet before after c.number number
    → Agree (take i layout) (value_in after) (value_in before)
front_agrees layout before after i c number apart within is written k d below =
    let len : length (take i layout) ≡ i = length-take i layout ∙ min-eq_left (omega arith) in
    let early : k < i = omega arith in
    let here : get_or (take i layout) k d ≡ get_or layout k d = get_or-take i layout k d early in
    let own : get_or layout i d ≡ c = sym (get_or_read layout i c within is d) in
    written.others (get_or (take i layout) k d).number
    (λ e. apart k i d early within
    (ap (λ (q : Crossing). place_of before q.number) (sym here) ∙ sym e ∙ ap (λ (q : Crossing). place_of before q.number) (sym own)))

pub bits_written : (layout : List Crossing) (before after : Registers) (header : List ℕ) (i at : ℕ) (c : Crossing) (number : ℕ) → AreApartIn before layout → i < length layout → c ≡ get_or layout i c → IsSet before after c.number number
    → value_bits (take i layout) (value_in before) ≡ take at (bits_in header) → bits_of c.width number ≡ take c.width (drop at (bits_in header))
    → value_bits (take (i + 1) layout) (value_in after) ≡ take (at + c.width) (bits_in header)
bits_written layout before after header i at c number apart within is written so_far read =
    let now : Crossing → ℕ = value_in after in
    value_bits-more layout i c now within is
    ∙ ap (λ x. x ++ bits_of c.width (now c)) (value_bits-same (take i layout) now (value_in before) (front_agrees layout before after i c number apart within is written) ∙ so_far)
    ∙ ap (λ x. take at (bits_in header) ++ bits_of c.width x) written.number
    ∙ ap (λ x. take at (bits_in header) ++ x) read
    ∙ sym (take-add at c.width (bits_in header))

pub narrow_written : (layout : List Crossing) (before after : Registers) (i : ℕ) (c : Crossing) (number : ℕ) → AreApartIn before layout → i < length layout → c ≡ get_or layout i c → IsSet before after c.number number
    → AreNarrow (take i layout) (value_in before) → number < 2 ^ c.width → AreNarrow (take (i + 1) layout) (value_in after)
narrow_written layout before after i c number apart within is written so_far fits =
    let now : Crossing → ℕ = value_in after in
    All-more (λ (q : Crossing). now q < 2 ^ q.width) layout i c within
    (λ k d below. subst (λ x. x < 2 ^ (get_or (take i layout) k d).width) (sym (front_agrees layout before after i c number apart within is written k d below)) (so_far k d below))
    (subst (λ (q : Crossing). now q < 2 ^ q.width) is (subst (λ x. x < 2 ^ c.width) (sym written.number) fits))

-- a value ends within the bits of its layout
pub value_within : (items layout : List Crossing) (i at width : ℕ) (c : Crossing) → items ≡ layout → i < length items → c ≡ get_or items i c → width ≡ c.width → at ≡ total (take i items) → at + width ≤ total layout
value_within items layout i at width c all within is same so_far = omega (arith, bits_more items i c within is, total-take items (i + 1), ap total all)

pub has_at : (items layout : List Crossing) (i : ℕ) (registers : Registers) (c : Crossing) → items ≡ layout → i < length items → c ≡ get_or items i c → All (λ (q : Crossing). HasRegister registers q.number) layout → HasRegister registers c.number
has_at items layout i registers c all within is among =
    subst (λ (q : Crossing). HasRegister registers q.number) (sym is) (subst (λ (x : List Crossing). All (λ (q : Crossing). HasRegister registers q.number) x) (sym all) among i c within)

-- no other register is written
pub nothing_changed : (layout : List Crossing) (registers : Registers) → ChangesOnly layout registers registers
nothing_changed layout registers = record { plan = refl; count = refl; others = λ n apart. refl }

length_first : (layout : List Crossing) (i : ℕ) → i ≤ length layout → length (take i layout) ≡ i
length_first layout i within = length-take i layout ∙ min-eq_left within

pub one_changed : (layout : List Crossing) (before now after : Registers) (i : ℕ) (c : Crossing) (number : ℕ) → i < length layout → c ≡ get_or layout i c → IsSet now after c.number number
    → ChangesOnly (take i layout) before now → ChangesOnly (take (i + 1) layout) before after
one_changed layout before now after i c number within is written so_far = record {
  plan = written.plan ∙ so_far.plan;
  count = written.count ∙ so_far.count;
  others = λ value apart.
      let last : get_or (take (i + 1) layout) i c ≡ c = get_or-take (i + 1) layout i c (omega arith) ∙ sym is in
      let own : place_of before (get_or (take (i + 1) layout) i c).number ≢ place_of before value = apart i c (omega (arith, length_first layout (i + 1) (omega arith))) in
      written.others value
      (λ e. own (ap (λ (q : Crossing). place_of before q.number) last ∙ sym (same c.number) ∙ e ∙ same value))
      ∙ so_far.others value (λ k d below. front value apart k d below);
}
  where
    same : (value : ℕ) → place_of now value ≡ place_of before value
    same = same_places before now so_far.plan so_far.count

    front : (value : ℕ) → All (λ (q : Crossing). place_of before q.number ≢ place_of before value) (take (i + 1) layout) → All (λ (q : Crossing). place_of before q.number ≢ place_of before value) (take i layout)
    front value apart k d below =
        let early : k < i = omega (arith, length_first layout i (omega arith)) in
        subst (λ (q : Crossing). place_of before q.number ≢ place_of before value) (get_or-take (i + 1) layout k d (omega arith) ∙ sym (get_or-take i layout k d early))
        (apart k d (omega (arith, length_first layout (i + 1) (omega arith))))

-- memory for the bytes of a layout's values has room for the bits of each, behind whole bytes
pub value_has_room : (items layout : List Crossing) (values : Crossing → ℕ) (bytes bits : List ℕ) (i width capacity : ℕ) (c : Crossing) → items ≡ layout → i < length items → c ≡ get_or items i c → width ≡ c.width
    → bits ≡ bits_in bytes ++ value_bits (take i items) values → length bytes + bytes_for (total layout) ≤ capacity → length bits + width ≤ 8 * capacity
value_has_room items layout values bytes bits i width capacity c all within is same so_far enough =
    let inside : total (take i items) + width ≤ total layout = value_within items layout i (total (take i items)) width c all within is same refl in
    omega (arith, ap (λ (x : List ℕ). length x) so_far, length-append (bits_in bytes) (value_bits (take i items) values), length-bits_in bytes, length-value_bits (take i items) values, inside)
