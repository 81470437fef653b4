-- Commands and their bytes.
use Rattle.std.proofs.Common.{◌≡◌, ◌≢◌, ◌<◌, ◌≤◌, ◌+◌, ◌-◌, ◌*◌, ◌^◌, ℕ, zero, suc, true, false, List, [], ◌∷◌, ◌++◌, length, get_or, take, drop, refl, sym, ap, ◌∙◌, subst, Some, arith, append-nil, add-zero, lit<, true≢false}
use Rattle.std.specs.Prelude.{nat_lt, slice_get}
use Rattle.std.specs.Int.{w64, from_be_bytes}
use Rattle.std.proofs.Math.Seq.{take-add}
use Rattle.std.proofs.lemmas.Bool.{and_from, and_parts}
use Rattle.std.proofs.lemmas.List.{drop-drop, drop_at, get_or-drop, length-append, length-drop, take_all, take_at, take_more, take_rest}
use Rattle.std.proofs.lemmas.List.Concat.{flat_map-append}
use Rattle.std.proofs.lemmas.List.Elements.{All-append, All-head, All-push, All-same, All-tail, All-drop}
use Rattle.std.proofs.lemmas.Nat.{be_bytes_8, from_be_bytes-to_be_bytes_8}
use Rattle.state_store.specs.declared.object.ObjectDecl.{ObjectDecl}
use Rattle.state_store.specs.Kept.{have_widths}
use Rattle.writeback_table.specs.declared.command.Command.{Command}
use Rattle.writeback_table.specs.declared.command.Command.TheVariants.{Stage, Main}
use Rattle.writeback_table.specs.declared.command.To.{To}
use Rattle.writeback_table.specs.declared.command.To.TheVariants.{Value, Gone}
use Rattle.writeback_table.specs.declared.command.Update.{Update}
use Rattle.writeback_table.specs.Widths.{fits_update, has_value_widths}
use Rattle.lossy_link.specs.CommandBytes.{AreBytesOf, AreWords, eight_bytes, numbers_to, to_bytes, update_bytes, word_bytes}
use Rattle.lossy_link.specs.Spelling.{SpellTo, SpellUpdate, SpellWords}
use Rattle.lemmas.proofs.Lists.{first_parts, second_parts, all_front}
use Rattle.std.proofs.lemmas.Option.{slice_get_read}

-- ---- numbers

pub length-eight : (n : ℕ) → length (eight_bytes n) ≡ 8
unfolding eight_bytes
length-eight n = refl

pub length-words : (ns : List ℕ) → length (word_bytes ns) ≡ 8 * length ns
length-words [] = refl
length-words (n ∷ ns) =
    omega (arith, length-append (eight_bytes n) (word_bytes ns), length-eight n, length-words ns)

one_word : (m n : ℕ) → m < 2 ^ 64 → n < 2 ^ 64 → eight_bytes m ≡ eight_bytes n → m ≡ n
unfolding eight_bytes
one_word m n m_fits n_fits same =
    sym (from_be_bytes-to_be_bytes_8 m m_fits)
    ∙ (ap (λ (bytes : List ℕ). from_be_bytes w64 bytes) same ∙ from_be_bytes-to_be_bytes_8 n n_fits)

words_same : (ms ns : List ℕ) → AreWords ms → AreWords ns → word_bytes ms ≡ word_bytes ns → ms ≡ ns
words_same [] [] ms_fit ns_fit same = refl
words_same (m ∷ ms) (n ∷ ns) ms_fit ns_fit same =
    let long : length (eight_bytes m) ≡ length (eight_bytes n) = length-eight m ∙ sym (length-eight n) in
    let here : m ≡ n =
    one_word m n (All-head (λ k. k < 2 ^ 64) m ms ms_fit) (All-head (λ k. k < 2 ^ 64) n ns ns_fit)
    (first_parts (eight_bytes m) (eight_bytes n) (word_bytes ms) (word_bytes ns) long same) in
    let rest : ms ≡ ns =
    words_same ms ns (All-tail (λ k. k < 2 ^ 64) m ms ms_fit) (All-tail (λ k. k < 2 ^ 64) n ns ns_fit)
    (second_parts (eight_bytes m) (eight_bytes n) (word_bytes ms) (word_bytes ns) long same) in
    λ i. here i ∷ rest i
words_same ms ns ms_fit ns_fit same =
    absurd (omega (arith, ap (λ (bytes : List ℕ). length bytes) same, length-words ms, length-words ns))

-- the eight bytes of one of the numbers
word_at : (ns : List ℕ) (i : ℕ) → i < length ns → take 8 (drop (8 * i) (word_bytes ns)) ≡ eight_bytes (get_or ns i 0)
word_at [] i inside = absurd (omega arith)
word_at (n ∷ ns) zero inside = take_at (eight_bytes n) (word_bytes ns) 8 (length-eight n)
word_at (n ∷ ns) (suc i) inside =
    let place : 8 * suc i ≡ 8 + 8 * i = omega arith in
    ap (λ (k : ℕ). take 8 (drop k (eight_bytes n ++ word_bytes ns))) place
    ∙ (ap (λ (bytes : List ℕ). take 8 bytes) (sym (drop-drop (8 * i) 8 (eight_bytes n ++ word_bytes ns)))
    ∙ (ap (λ (bytes : List ℕ). take 8 (drop (8 * i) bytes)) (drop_at (eight_bytes n) (word_bytes ns) 8 (length-eight n))
    ∙ word_at ns i (omega arith)))

words_push : (ns : List ℕ) (n : ℕ) → word_bytes (ns ++ n ∷ []) ≡ word_bytes ns ++ eight_bytes n
words_push ns n =
    flat_map-append eight_bytes ns (n ∷ []) ∙ ap (λ (bytes : List ℕ). word_bytes ns ++ bytes) (append-nil (eight_bytes n))

-- the eight bytes from a place on
abbrev pub eight_from : List ℕ → ℕ → List ℕ
eight_from bytes at = get_or bytes at 0 ∷ get_or bytes (at + 1) 0 ∷ get_or bytes (at + 2) 0 ∷ get_or bytes (at + 3) 0 ∷ get_or bytes (at + 4) 0 ∷ get_or bytes (at + 5) 0 ∷ get_or bytes (at + 6) 0 ∷ get_or bytes (at + 7) 0 ∷ []

eight_are : (bytes : List ℕ) (at : ℕ) → ((i : ℕ) → get_or bytes i 0 < 256) → (i : ℕ) → get_or (eight_from bytes at) i 0 < 256
eight_are bytes at are zero = are at
eight_are bytes at are (suc zero) = are (at + 1)
eight_are bytes at are (suc (suc zero)) = are (at + 2)
eight_are bytes at are (suc (suc (suc zero))) = are (at + 3)
eight_are bytes at are (suc (suc (suc (suc zero)))) = are (at + 4)
eight_are bytes at are (suc (suc (suc (suc (suc zero))))) = are (at + 5)
eight_are bytes at are (suc (suc (suc (suc (suc (suc zero)))))) = are (at + 6)
eight_are bytes at are (suc (suc (suc (suc (suc (suc (suc zero))))))) = are (at + 7)
eight_are bytes at are (suc (suc (suc (suc (suc (suc (suc (suc i)))))))) = lit< tt

first_eight : (bytes : List ℕ) → 8 ≤ length bytes → eight_from bytes 0 ≡ take 8 bytes
first_eight (a ∷ b ∷ c ∷ d ∷ e ∷ f ∷ g ∷ h ∷ rest) long = refl
first_eight _ long = absurd (omega arith)

eight_at : (bytes : List ℕ) (at : ℕ) → at + 8 ≤ length bytes → eight_from bytes at ≡ take 8 (drop at bytes)
eight_at bytes at inside = simp (get_or-drop, add-zero) at (first_eight (drop at bytes) (omega (arith, length-drop at bytes)))

-- the number that eight bytes spell
pub eight_read : (bytes : List ℕ) (at n : ℕ) → ((i : ℕ) → get_or bytes i 0 < 256) → at + 8 ≤ length bytes
    → n ≡ from_be_bytes w64 (eight_from bytes at)
    → eight_bytes n ≡ take 8 (drop at bytes)
unfolding eight_bytes
eight_read bytes at n are inside is =
    be_bytes_8 (eight_from bytes at) n refl (eight_are bytes at are) is ∙ eight_at bytes at inside

-- ---- widths

widths_length : (ws ns : List ℕ) → have_widths ws ns ≡ true → length ns ≡ length ws
widths_length [] [] fit = refl
widths_length (w ∷ ws) (n ∷ ns) fit =
    ap suc (widths_length ws ns (and_parts (nat_lt n (2 ^ w)) (have_widths ws ns) fit).1)
widths_length _ _ fit = cc

width_at : (ws ns : List ℕ) (i : ℕ) → have_widths ws ns ≡ true → i < length ws → nat_lt (get_or ns i 0) (2 ^ get_or ws i 0) ≡ true
width_at [] ns i fit inside = absurd (omega arith)
width_at (w ∷ ws) [] i fit inside = absurd (true≢false (sym fit))
width_at (w ∷ ws) (n ∷ ns) zero fit inside = (and_parts (nat_lt n (2 ^ w)) (have_widths ws ns) fit).0
width_at (w ∷ ws) (n ∷ ns) (suc i) fit inside =
    width_at ws ns i (and_parts (nat_lt n (2 ^ w)) (have_widths ws ns) fit).1 (omega arith)

widths_push : (ws ns : List ℕ) (w n : ℕ) → have_widths ws ns ≡ true → nat_lt n (2 ^ w) ≡ true
    → have_widths (ws ++ w ∷ []) (ns ++ n ∷ []) ≡ true
widths_push [] [] w n fit small = and_from (nat_lt n (2 ^ w)) true small refl
widths_push (v ∷ ws) (m ∷ ns) w n fit small =
    let parts = and_parts (nat_lt m (2 ^ v)) (have_widths ws ns) fit in
    and_from (nat_lt m (2 ^ v)) (have_widths (ws ++ w ∷ []) (ns ++ n ∷ [])) parts.0 (widths_push ws ns w n parts.1 small)
widths_push _ _ w n fit small = cc

-- ---- numbers that are read

-- what was read so far: the first numbers, which have the first widths
pub record IsRead (widths numbers bytes : List ℕ) (i : ℕ) : Type 0 where
  pub count : length numbers ≡ i
  pub fit : have_widths (take i widths) numbers ≡ true
  pub small : AreWords numbers
  pub spelled : word_bytes numbers ≡ take (8 * i) bytes

pub read_none : (widths bytes : List ℕ) → IsRead widths [] bytes 0
read_none widths bytes = record { count = refl; fit = refl; small = λ k d inside. absurd (omega (arith, inside)); spelled = refl }

pub read_more : (widths numbers bytes : List ℕ) (i n : ℕ) → IsRead widths numbers bytes i → i < length widths → n < 2 ^ 64
    → nat_lt n (2 ^ get_or widths i 0) ≡ true → eight_bytes n ≡ take 8 (drop (8 * i) bytes)
    → IsRead widths (numbers ++ n ∷ []) bytes (i + 1)
read_more widths numbers bytes i n is inside small fits spelled =
    let further : 8 * (i + 1) ≡ 8 * i + 8 = omega arith in
    record {
      count = length-append numbers (n ∷ []) ∙ ap (λ (k : ℕ). k + 1) is.count;
      fit = ap (λ (ws : List ℕ). have_widths ws (numbers ++ n ∷ [])) (take_more widths i 0 inside)
          ∙ widths_push (take i widths) numbers (get_or widths i 0) n is.fit fits;
      small = All-push (λ k. k < 2 ^ 64) numbers n is.small small;
      spelled = words_push numbers n
          ∙ (ap (λ (front : List ℕ). front ++ eight_bytes n) is.spelled
          ∙ (ap (λ (back : List ℕ). take (8 * i) bytes ++ back) spelled
          ∙ (sym (take-add (8 * i) 8 bytes) ∙ ap (λ (k : ℕ). take k bytes) (sym further))));
    }

pub read_all : (widths numbers bytes : List ℕ) (i : ℕ) → IsRead widths numbers bytes i → i ≡ length widths
    → length bytes ≡ 8 * length widths → SpellWords widths numbers bytes
read_all widths numbers bytes i is end long = record {
  fit = ap (λ (ws : List ℕ). have_widths ws numbers) (sym (take_all i widths (omega arith))) ∙ is.fit;
  small = is.small;
  spelled = sym (is.spelled ∙ take_all (8 * i) bytes (omega arith));
}

-- bytes spell one list of numbers
pub read_once : (widths ms ns bytes : List ℕ) → SpellWords widths ms bytes → SpellWords widths ns bytes → Some ms ≡ Some ns
read_once widths ms ns bytes m n =
    ap (λ (xs : List ℕ). Some xs) (words_same ms ns m.small n.small (sym m.spelled ∙ n.spelled))

pub read_length : (widths ns bytes : List ℕ) → SpellWords widths ns bytes → length bytes ≡ 8 * length widths
read_length widths ns bytes s =
    ap (λ (b : List ℕ). length b) s.spelled ∙ (length-words ns ∙ ap (λ (k : ℕ). 8 * k) (widths_length widths ns s.fit))

-- a number that doesn't fit
pub read_misfit : (widths ns bytes : List ℕ) (i n : ℕ) → i < length widths → n < 2 ^ 64
    → eight_bytes n ≡ take 8 (drop (8 * i) bytes) → nat_lt n (2 ^ get_or widths i 0) ≡ false → SpellWords widths ns bytes → ⊥
read_misfit widths ns bytes i n inside small spelled misfit s =
    let many = widths_length widths ns s.fit in
    let there : i < length ns = omega arith in
    let same : n ≡ get_or ns i 0 =
    one_word n (get_or ns i 0) small (s.small i 0 there)
    (spelled ∙ (ap (λ (b : List ℕ). take 8 (drop (8 * i) b)) s.spelled ∙ word_at ns i there)) in
    true≢false (sym (width_at widths ns i s.fit inside) ∙ (ap (λ (k : ℕ). nat_lt k (2 ^ get_or widths i 0)) (sym same) ∙ misfit))

-- ---- the first byte and the others

pub first_and_rest : (bytes : List ℕ) → 1 ≤ length bytes → bytes ≡ get_or bytes 0 0 ∷ take (length bytes - 1) (drop 1 bytes)
first_and_rest [] long = absurd (omega arith)
first_and_rest (b ∷ rest) long = ap (λ (xs : List ℕ). b ∷ xs) (sym (take_all (length (b ∷ rest) - 1) rest (omega arith)))

rest_is : (bytes rest : List ℕ) (b : ℕ) → bytes ≡ b ∷ rest → take (length bytes - 1) (drop 1 bytes) ≡ rest
rest_is bytes rest b is =
    ap (λ (xs : List ℕ). take (length xs - 1) (drop 1 xs)) is ∙ take_all (length (b ∷ rest) - 1) rest (omega arith)

-- ---- what a key has

pub to_gone : (d : ObjectDecl) (to : To) → SpellTo d to (0 ∷ []) → Some Gone ≡ Some to
to_gone d Gone s = refl
to_gone d (Value values) s = absurd (omega (arith, ap (λ (b : List ℕ). get_or b 0 0) s.spelled))

pub gone_to : (d : ObjectDecl) → SpellTo d Gone (0 ∷ [])
gone_to d = record { fit = refl; small = λ k e inside. absurd (omega (arith, inside)); spelled = refl }

pub value_to : (d : ObjectDecl) (values rest : List ℕ) → SpellWords d.values values rest → SpellTo d (Value values) (1 ∷ rest)
value_to d values rest s = record { fit = s.fit; small = s.small; spelled = ap (λ (b : List ℕ). 1 ∷ b) s.spelled }

pub value_once : (d : ObjectDecl) (values rest : List ℕ) (to : To) → SpellWords d.values values rest → SpellTo d to (1 ∷ rest)
    → Some (Value values) ≡ Some to
value_once d values rest Gone v s = absurd (omega (arith, ap (λ (b : List ℕ). get_or b 0 0) s.spelled))
value_once d values rest (Value more) v s =
    ap (λ (xs : List ℕ). Some (Value xs)) (words_same values more v.small s.small (sym v.spelled ∙ ap (λ (b : List ℕ). drop 1 b) s.spelled))

pub value_back : (d : ObjectDecl) (values bytes : List ℕ) (to : To) → get_or bytes 0 0 ≡ 1
    → SpellWords d.values values (take (length bytes - 1) (drop 1 bytes)) → SpellTo d to bytes → Some (Value values) ≡ Some to
value_back d values [] to one v s = absurd (omega (arith, one))
value_back d values (b ∷ more) to one v s =
    let bytes : List ℕ = b ∷ more in
    let rest = take (length bytes - 1) (drop 1 bytes) in
    let is : bytes ≡ 1 ∷ rest = first_and_rest bytes (omega arith) ∙ ap (λ (k : ℕ). k ∷ rest) one in
    value_once d values rest to v (subst (λ (bs : List ℕ). SpellTo d to bs) is s)

-- no other bytes say what a key has
pub to_starts : (d : ObjectDecl) (to : To) (b : ℕ) (rest : List ℕ) → SpellTo d to (b ∷ rest) → b ≢ 1 → (b ≡ 0 → rest ≢ []) → ⊥
to_starts d Gone b rest s not_value not_gone =
    not_gone (ap (λ (bytes : List ℕ). get_or bytes 0 0) s.spelled) (ap (λ (bytes : List ℕ). drop 1 bytes) s.spelled)
to_starts d (Value values) b rest s not_value not_gone = not_value (ap (λ (bytes : List ℕ). get_or bytes 0 0) s.spelled)

pub to_some : (d : ObjectDecl) (to : To) → SpellTo d to [] → ⊥
to_some d Gone s = omega (arith, ap (λ (b : List ℕ). length b) s.spelled)
to_some d (Value values) s = omega (arith, ap (λ (b : List ℕ). length b) s.spelled)

-- ---- a key and what it has

second_all : (xs ys : List ℕ) → AreWords (xs ++ ys) → AreWords ys
second_all xs ys all =
    All-same (λ n. n < 2 ^ 64) ys (drop (length xs) (xs ++ ys)) (sym (drop_at xs ys (length xs) refl)) (All-drop (λ n. n < 2 ^ 64) (length xs) (xs ++ ys) all)

-- the numbers of a key and of what it has
pub both_words : (key : List ℕ) (to : To) → AreWords key → AreWords (numbers_to to) → AreWords (key ++ numbers_to to)
both_words key to first second = All-append (λ n. n < 2 ^ 64) key (numbers_to to) first second

-- the parts of a change, where its object is this one, with so many numbers in a key
pub record HasParts (d : ObjectDecl) (u : Update) (o n : ℕ) (rest : List ℕ) : Type 0 where
  pub object : u.object ≡ o
  pub long : 8 * n ≤ length rest
  pub key : SpellWords d.keys u.key (take (8 * n) rest)
  pub to : SpellTo d u.to (take (length rest - 8 * n) (drop (8 * n) rest))

same_object : (objects : List ObjectDecl) (o p : ℕ) (d e : ObjectDecl) → slice_get objects o ≡ Some d
    → slice_get objects p ≡ Some e → p ≡ o → e ≡ d
same_object objects o p d e at_o at_p same =
    let both : Some e ≡ Some d = sym at_p ∙ (ap (λ (k : ℕ). slice_get objects k) same ∙ at_o) in cc

pub update_parts : (objects : List ObjectDecl) (o n : ℕ) (d : ObjectDecl) (u : Update) (rest : List ℕ) → n ≡ length d.keys
    → slice_get objects o ≡ Some d → SpellUpdate objects u (o ∷ rest) → HasParts d u o n rest
update_parts objects o n d u rest many there s =
    let object : u.object ≡ o = sym (ap (λ (b : List ℕ). get_or b 0 0) s.spelled) in
    let same : s.declared.0 ≡ d = same_object objects o u.object d s.declared.0 there s.declared.1 object in
    let fits : fits_update d u ≡ true = subst (λ (e : ObjectDecl). fits_update e u ≡ true) same s.declared.2 in
    let parts = and_parts (have_widths d.keys u.key) (has_value_widths d u.to) fits in
    let behind : rest ≡ word_bytes u.key ++ to_bytes u.to = ap (λ (b : List ℕ). drop 1 b) s.spelled in
    let keys : length (word_bytes u.key) ≡ 8 * n = length-words u.key ∙ ap (λ (k : ℕ). 8 * k) (widths_length d.keys u.key parts.0 ∙ sym many) in
    record {
      object = object;
      long = omega (arith, ap (λ (b : List ℕ). length b) behind, length-append (word_bytes u.key) (to_bytes u.to), keys);
      key = record {
        fit = parts.0;
        small = all_front (λ k. k < 2 ^ 64) u.key (numbers_to u.to) s.small;
        spelled = ap (λ (b : List ℕ). take (8 * n) b) behind ∙ take_at (word_bytes u.key) (to_bytes u.to) (8 * n) keys;
      };
      to = record {
        fit = parts.1;
        small = second_all u.key (numbers_to u.to) s.small;
        spelled = take_rest rest (8 * n) ∙ (ap (λ (b : List ℕ). drop (8 * n) b) behind ∙ drop_at (word_bytes u.key) (to_bytes u.to) (8 * n) keys);
      };
    }

-- the object that the first byte names is one of these items
pub named : (objects items : List ObjectDecl) (bytes : List ℕ) (number : ℕ) (d : ObjectDecl) → items ≡ objects → number ≡ get_or bytes 0 0
    → number < length items → d ≡ get_or items number d → slice_get objects (get_or bytes 0 0) ≡ Some d
named objects items bytes number d same first inside is =
    subst (λ (xs : List ObjectDecl). slice_get xs (get_or bytes 0 0) ≡ Some d) same
    (subst (λ (k : ℕ). slice_get items k ≡ Some d) first (slice_get_read items (length items) number d refl inside is))

pub named_parts : (objects : List ObjectDecl) (bytes : List ℕ) (n : ℕ) (d : ObjectDecl) (u : Update) → slice_get objects (get_or bytes 0 0) ≡ Some d
    → 1 ≤ length bytes → n ≡ length d.keys → SpellUpdate objects u bytes → HasParts d u (get_or bytes 0 0) n (take (length bytes - 1) (drop 1 bytes))
named_parts objects bytes n d u there some many s =
    update_parts objects (get_or bytes 0 0) n d u (take (length bytes - 1) (drop 1 bytes)) many there
    (subst (λ (b : List ℕ). SpellUpdate objects u b) (first_and_rest bytes some) s)

pub update_from : (objects : List ObjectDecl) (o : ℕ) (d : ObjectDecl) (key front back rest : List ℕ) (to : To)
    → slice_get objects o ≡ Some d → SpellWords d.keys key front → SpellTo d to back → rest ≡ front ++ back
    → SpellUpdate objects (record { object = o; key = key; to = to }) (o ∷ rest)
update_from objects o d key front back rest to there k t parts = record {
  declared = (d, there, and_from (have_widths d.keys key) (has_value_widths d to) k.fit t.fit);
  small = All-append (λ n. n < 2 ^ 64) key (numbers_to to) k.small t.small;
  spelled = ap (λ (b : List ℕ). o ∷ b) (parts ∙ (λ i. k.spelled i ++ t.spelled i));
}

-- a change is told by its parts
pub update_once : (o n : ℕ) (d : ObjectDecl) (key : List ℕ) (to : To) (u : Update) (rest : List ℕ)
    → HasParts d u o n rest → Some key ≡ Some u.key → Some to ≡ Some u.to
    → Some (record { object = o; key = key; to = to }) ≡ Some u
update_once o n d key to u rest parts keys tos =
    let same_key : key ≡ u.key = cc in
    let same_to : to ≡ u.to = cc in
    let same_object : o ≡ u.object = sym parts.object in
    λ i. Some (record { object = same_object i; key = same_key i; to = same_to i })

-- ---- commands

-- a command that changes what a key has is told by the change
pub stage_back : (objects : List ObjectDecl) (bytes : List ℕ) (u : Update) (command : Command) → get_or bytes 0 0 ≡ 1
    → ((v : Update) → SpellUpdate objects v (take (length bytes - 1) (drop 1 bytes)) → Some u ≡ Some v)
    → AreBytesOf objects command bytes → Some (Stage u) ≡ Some command
stage_back objects bytes u (Stage v) one back s =
    let both : Some u ≡ Some v =
    back v (record { declared = s.declared; small = s.small; spelled = rest_is bytes (update_bytes v) 1 s.spelled }) in
    let same : u ≡ v = cc in
    ap (λ (w : Update). Some (Stage w)) same
stage_back objects bytes u _ one back s = absurd (omega (arith, one, ap (λ (b : List ℕ). get_or b 0 0) s.spelled))

pub main_back : (objects : List ObjectDecl) (bytes : List ℕ) (u : Update) (command : Command) → get_or bytes 0 0 ≡ 3
    → ((v : Update) → SpellUpdate objects v (take (length bytes - 1) (drop 1 bytes)) → Some u ≡ Some v)
    → AreBytesOf objects command bytes → Some (Main u) ≡ Some command
main_back objects bytes u (Main v) three back s =
    let both : Some u ≡ Some v =
    back v (record { declared = s.declared; small = s.small; spelled = rest_is bytes (update_bytes v) 3 s.spelled }) in
    let same : u ≡ v = cc in
    ap (λ (w : Update). Some (Main w)) same
main_back objects bytes u _ three back s = absurd (omega (arith, three, ap (λ (b : List ℕ). get_or b 0 0) s.spelled))
