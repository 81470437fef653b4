-- What holds of lists.
use Rattle.std.proofs.Common.{Bool, List, None, Some, [], ap, arith, cond, drop, false, get_or, if◌then◌else◌, inl, inr, length, length-drop, map, refl, replicate, set, subst, suc, sym, take, true, zero, ℕ, ◌++◌, ◌+◌, ◌-◌, ◌<◌, ◌∙◌, ◌∷◌, ◌≡◌, ◌≤◌, ◌⊎◌}
use Rattle.std.proofs.lemmas.Bool.{and_parts}
use Rattle.std.proofs.lemmas.List.{at_drop_more, drop_all, drop_at, take_at}
use Rattle.std.proofs.lemmas.List.Elements.{All-cons, All-from_recursion, All-head, All-nil, All-tail}
use Rattle.std.proofs.lemmas.List.Sums.{prefix_len-le-length}
use Rattle.std.proofs.lemmas.Option.{none-some, same_Some, slice_get-map}
use Rattle.std.proofs.lemmas.Slice.Eq.{bytes_eq-Decides}
use Rattle.std.specs.List.{AllByRecursion, AllByRecursion as Each, filter, list_all, prefix_len, range_with_len}
use Rattle.std.specs.Option.{option_map}
use Rattle.std.specs.Prelude.{All, remove, slice_get, slice_index_or, slice_set}
use Rattle.std.specs.Str.{bytes_eq}

pub each_append : {X : Type 0} (P : X → Type 0) → (xs ys : List X) → Each P xs → Each P ys → Each P (xs ++ ys)
each_append P [] ys h k = k
each_append P (x ∷ xs) ys h k = (h.0, each_append P xs ys h.1 k)

pub each_weaker : {X : Type 0} (P Q : X → Type 0) → ((x : X) → P x → Q x) → (xs : List X) → Each P xs → Each Q xs
each_weaker P Q go [] h = tt
each_weaker P Q go (x ∷ xs) h = (go x h.0, each_weaker P Q go xs h.1)

pub get_within : {X : Type 0} (xs : List X) (i : ℕ) → i < length xs → (x : X) × (slice_get xs i ≡ Some x)
get_within [] i h = absurd (omega arith)
get_within (x ∷ xs) zero h = (x, refl)
get_within (x ∷ xs) (suc i) h = get_within xs i (omega arith)

pub each_all : {X : Type 0} (P : X → Type 0) → ((x : X) → P x) → (xs : List X) → Each P xs
each_all P go [] = tt
each_all P go (x ∷ xs) = (go x, each_all P go xs)

pub bytes_eq_true : (xs ys : List ℕ) → bytes_eq xs ys ≡ true → xs ≡ ys
bytes_eq_true xs ys h = (bytes_eq-Decides xs ys).0 h

pub get_past : {X : Type 0} (xs : List X) → slice_get xs (length xs) ≡ None
get_past [] = refl
get_past (x ∷ xs) = get_past xs

pub get_pushed : {X : Type 0} (xs : List X) (x : X) → slice_get (xs ++ x ∷ []) (length xs) ≡ Some x
get_pushed [] x = refl
get_pushed (y ∷ xs) x = get_pushed xs x

pub list_all_append : (p : ℕ → Bool) (xs ys : List ℕ) → list_all p xs ≡ true → list_all p ys ≡ true → list_all p (xs ++ ys) ≡ true
list_all_append p [] ys h k = k
list_all_append p (x ∷ xs) ys h k = let hp = and_parts (p x) (list_all p xs) h in rw hp.0 (list_all_append p xs ys hp.1 k)

pub each_both : {X : Type 0} (P Q : X → Type 0) → (xs : List X) → Each P xs → Each Q xs → Each (λ x. P x × Q x) xs
each_both P Q [] h k = tt
each_both P Q (x ∷ xs) h k = ((h.0, k.0), each_both P Q xs h.1 k.1)

pub bytes_eq_same : (xs : List ℕ) → bytes_eq xs xs ≡ true
bytes_eq_same xs = (bytes_eq-Decides xs xs).1 refl

pub each_pushed : {X : Type 0} (P : X → Type 0) (xs : List X) (x : X) → AllByRecursion P xs → P x → AllByRecursion P (xs ++ x ∷ [])
each_pushed P [] x h p = (p, tt)
each_pushed P (y ∷ ys) x h p = (h.0, each_pushed P ys x h.1 p)

pub take_next : {X : Type 0} (xs : List X) (n : ℕ) (x : X) → slice_get xs n ≡ Some x → take (n + 1) xs ≡ take n xs ++ x ∷ []
take_next [] n x h = absurd (none-some x h)
take_next (y ∷ xs) zero x h = ap (λ z. z ∷ []) (same_Some _ _ h)
take_next (y ∷ xs) (suc n) x h =
    let e : suc n + 1 ≡ suc (n + 1) = omega arith in
    rw e (ap (λ l. y ∷ l) (take_next xs n x h))

pub first_taken : (t : Bool) (b : ℕ) (bs cs : List ℕ) → length (cond t (b ∷ cs) []) ≡ length (b ∷ bs) → (t ≡ true) × (length cs ≡ length bs)
first_taken true b bs cs h = (refl, omega (arith, h))
first_taken false b bs cs h = absurd (omega (arith, h))

pub each_or : {X : Type 0} (P : X → Type 0) (xs : List X) (i : ℕ) (d : X) → Each P xs → i < length xs → P (get_or xs i d)
each_or P xs i d h lt = All-from_recursion P xs h i d lt

pub drop_past : {X : Type 0} (xs : List X) (i : ℕ) → length xs ≤ i → drop i xs ≡ []
drop_past xs i le = drop_all i xs le

pub drop_got : {X : Type 0} (xs : List X) (n : ℕ) (x : X) → slice_get xs n ≡ Some x → drop n xs ≡ x ∷ drop (suc n) xs
drop_got [] n x h = cc
drop_got (y ∷ ys) zero x h = ap (λ z. z ∷ ys) (same_Some y x h)
drop_got (y ∷ ys) (suc n) x h = drop_got ys n x h

pub all_front : {X : Type 0} (P : X → Type 0) (xs ys : List X) → All P (xs ++ ys) → All P xs
all_front P [] ys all = All-nil P
all_front P (x ∷ xs) ys all = All-cons P x xs (All-head P x (xs ++ ys) all) (all_front P xs ys (All-tail P x (xs ++ ys) all))

pub take_line : (n : ℕ) (l : List ℕ) (ls rest : List (List ℕ)) → drop n ls ≡ l ∷ rest → take (suc n) ls ≡ take n ls ++ l ∷ []
take_line zero l [] rest e = cc e
take_line (suc n) l [] rest e = cc e
take_line zero l (x ∷ ls) rest e = ap (λ m. take 1 m) e
take_line (suc n) l (x ∷ ls) rest e = ap (λ m. x ∷ m) (take_line n l ls rest e)

pub drop_line : (n : ℕ) (l : List ℕ) (ls rest : List (List ℕ)) → drop n ls ≡ l ∷ rest → drop (suc n) ls ≡ rest
drop_line zero l [] rest e = cc e
drop_line (suc n) l [] rest e = cc e
drop_line zero l (x ∷ ls) rest e = ap (drop 1) e
drop_line (suc n) l (x ∷ ls) rest e = drop_line n l ls rest e

pub line_within : (n : ℕ) (l : List ℕ) (ls rest : List (List ℕ)) → drop n ls ≡ l ∷ rest → n < length ls
line_within zero l [] rest e = cc e
line_within (suc n) l [] rest e = cc e
line_within zero l (x ∷ ls) rest e = omega arith
line_within (suc n) l (x ∷ ls) rest e = omega (arith, line_within n l ls rest e)

pub take_lines : (ls : List (List ℕ)) → take (length ls) ls ≡ ls
take_lines [] = refl
take_lines (l ∷ ls) = ap (λ m. l ∷ m) (take_lines ls)

-- nothing is left
pub lines_passed : (n : ℕ) (ls : List (List ℕ)) → n ≤ length ls → drop n ls ≡ [] → n ≡ length ls
lines_passed zero [] h e = refl
lines_passed (suc n) [] h e = absurd (omega (arith, h))
lines_passed zero (l ∷ ls) h e = cc e
lines_passed (suc n) (l ∷ ls) h e = ap suc (lines_passed n ls (omega (arith, h)) e)

pub take_fewer : (j k : ℕ) (ls : List (List ℕ)) → j ≤ k → take k ls ≡ take j ls ++ drop j (take k ls)
take_fewer zero k ls h = refl
take_fewer (suc j) zero ls h = absurd (omega (arith, h))
take_fewer (suc j) (suc k) [] h = refl
take_fewer (suc j) (suc k) (l ∷ ls) h = ap (λ m. l ∷ m) (take_fewer j k ls (omega (arith, h)))

-- a function of what is left of a list, where an item is read
pub folded_item : {X Y : Type 0} (F : List X → Y) (xs : List X) (at : ℕ) (x : X) → at < length xs → x ≡ get_or xs at x → F (drop at xs) ≡ F (x ∷ drop (at + 1) xs)
folded_item F xs at x within is = at_drop_more F xs at x within ∙ ap (λ y. F (y ∷ drop (at + 1) xs)) (sym is)

pub length_take_most : {X : Type 0} (n : ℕ) (xs : List X) → length (take n xs) ≤ n
length_take_most zero xs = omega arith
length_take_most (suc n) [] = omega arith
length_take_most (suc n) (x ∷ xs) = let h = length_take_most n xs in omega arith

pub each_got : {X : Type 0} (P : X → Type 0) (xs : List X) (j : ℕ) (x : X) → Each P xs → slice_get xs j ≡ Some x → P x
each_got P [] j x e h = absurd (none-some x h)
each_got P (y ∷ xs) zero x e h = subst P (same_Some _ _ h) e.0
each_got P (y ∷ xs) (suc j) x e h = each_got P xs j x e.1 h

pub length_slice_set : {X : Type 0} (xs : List X) (k : ℕ) (x : X) → length (slice_set xs k x) ≡ length xs
length_slice_set [] k x = refl
length_slice_set (y ∷ xs) zero x = refl
length_slice_set (y ∷ xs) (suc k) x = ap suc (length_slice_set xs k x)

pub take_within : {X : Type 0} (xs ys : List X) (n : ℕ) → n ≤ length xs → take n (xs ++ ys) ≡ take n xs
take_within xs ys zero few = refl
take_within [] ys (suc n) few = absurd (omega arith)
take_within (x ∷ xs) ys (suc n) few = ap (λ zs. x ∷ zs) (take_within xs ys n (omega arith))

pub take_whole : {X : Type 0} (xs : List X) → take (length xs) xs ≡ xs
take_whole [] = refl
take_whole (x ∷ xs) = ap (λ l. x ∷ l) (take_whole xs)

pub take_past : {X : Type 0} (xs : List X) (n : ℕ) → length xs ≤ n → take n xs ≡ xs
take_past [] zero h = refl
take_past [] (suc n) h = refl
take_past (x ∷ xs) zero h = absurd (omega arith)
take_past (x ∷ xs) (suc n) h = ap (λ l. x ∷ l) (take_past xs n (omega arith))

pub map_remove : {X Y : Type 0} (f : X → Y) (xs : List X) (j : ℕ) → map f (remove xs j) ≡ remove (map f xs) j
map_remove f [] zero = refl
map_remove f [] (suc j) = refl
map_remove f (x ∷ xs) zero = refl
map_remove f (x ∷ xs) (suc j) = ap (λ l. f x ∷ l) (map_remove f xs j)

pub each_filter : {X : Type 0} (P : X → Type 0) (test : X → Bool) → (xs : List X) → Each (λ x. test x ≡ true → P x) xs → Each P (filter test xs)
each_filter P test [] h = tt
each_filter P test (x ∷ xs) h = by_test (test x) refl (each_filter P test xs h.1)
  where
    by_test : (b : Bool) → test x ≡ b → Each P (filter test xs) → Each P (if b then x ∷ filter test xs else filter test xs)
    by_test true own rest = (h.0 own, rest)
    by_test false own rest = rest

pub get_front : {X : Type 0} (xs ys : List X) (n : ℕ) → n < length xs → slice_get (xs ++ ys) n ≡ slice_get xs n
get_front [] ys n h = absurd (omega arith)
get_front (x ∷ xs) ys zero h = refl
get_front (x ∷ xs) ys (suc n) h = get_front xs ys n (omega arith)

pub take_parts : {X : Type 0} (xs ys : List X) (m : ℕ) → take m (xs ++ ys) ≡ take m xs ++ take (m - length xs) ys
take_parts [] ys zero = refl
take_parts [] ys (suc m) = let e : suc m - 0 ≡ suc m = omega arith in rw e refl
take_parts (x ∷ xs) ys zero = let e : 0 - suc (length xs) ≡ 0 = omega arith in rw e refl
take_parts (x ∷ xs) ys (suc m) = let e : suc m - suc (length xs) ≡ m - length xs = omega arith in rw e (ap (λ l. x ∷ l) (take_parts xs ys m))

pub each_map : {X Y : Type 0} (P : Y → Type 0) (g : X → Y) → (xs : List X) → Each (λ x. P (g x)) xs → Each P (map g xs)
each_map P g [] h = tt
each_map P g (x ∷ xs) h = (h.0, each_map P g xs h.1)

pub first_parts : (a b x y : List ℕ) → length a ≡ length b → a ++ x ≡ b ++ y → a ≡ b
first_parts a b x y long same =
    sym (take_at a x (length b) long)
    ∙ (ap (λ (bytes : List ℕ). take (length b) bytes) same ∙ take_at b y (length b) refl)

pub second_parts : (a b x y : List ℕ) → length a ≡ length b → a ++ x ≡ b ++ y → x ≡ y
second_parts a b x y long same =
    sym (drop_at a x (length b) long)
    ∙ (ap (λ (bytes : List ℕ). drop (length b) bytes) same ∙ drop_at b y (length b) refl)

-- they lie within the text
pub word_within : (p : ℕ → Bool) (offset : ℕ) (text : List ℕ) (len : ℕ) → len ≡ prefix_len p (drop offset text) → offset ≤ length text → offset + len ≤ length text
word_within p offset text len e h = omega (arith, prefix_len-le-length p (drop offset text), length-drop offset text)

pub get_set_same : {X : Type 0} (xs : List X) (k : ℕ) (x y : X) → slice_get xs k ≡ Some x → slice_get (set xs k y) k ≡ Some y
get_set_same [] k x y h = cc
get_set_same (z ∷ xs) zero x y h = refl
get_set_same (z ∷ xs) (suc k) x y h = get_set_same xs k x y h

pub get_set_other : {X : Type 0} (xs : List X) (k n : ℕ) (y : X) → (n ≡ k → ⊥) → slice_get (set xs k y) n ≡ slice_get xs n
get_set_other [] k n y h = refl
get_set_other (z ∷ xs) zero zero y h = absurd (h refl)
get_set_other (z ∷ xs) zero (suc n) y h = refl
get_set_other (z ∷ xs) (suc k) zero y h = refl
get_set_other (z ∷ xs) (suc k) (suc n) y h = get_set_other xs k n y (λ e. h (ap suc e))

pub length_cons : (b : ℕ) (bs cs : List ℕ) → length (b ∷ bs) ≡ length (b ∷ cs) → length bs ≡ length cs
length_cons b bs cs h = omega arith

-- what stands there is the last one, or stood there before
pub get_before_pushed : {X : Type 0} (xs : List X) (y x : X) (k : ℕ) → slice_get (xs ++ y ∷ []) k ≡ Some x
    → ((k ≡ length xs) × (y ≡ x)) ⊎ (slice_get xs k ≡ Some x)
get_before_pushed [] y x zero there = inl (refl, same_Some _ _ there)
get_before_pushed [] y x (suc k) there = inr there
get_before_pushed (z ∷ xs) y x zero there = inr there
get_before_pushed (z ∷ xs) y x (suc k) there = elim (get_before_pushed xs y x k there) [
  | inl (at, is) ↦ inl (ap suc at, is)
  | inr before ↦ inr before
]

pub take_front : {X : Type 0} (front back : List X) → take (length front) (front ++ back) ≡ front
take_front [] back = refl
take_front (x ∷ front) back = ap (λ l. x ∷ l) (take_front front back)

pub drop_front : {X : Type 0} (front : List X) (x : X) (back : List X) → drop (suc (length front)) (front ++ (x ∷ back)) ≡ back
drop_front [] x back = refl
drop_front (y ∷ front) x back = drop_front front x back

pub get_mapped : {X Y : Type 0} (f : X → Y) (xs : List X) (i : ℕ) (y : Y) → slice_get (map f xs) i ≡ Some y
    → (x : X) × (slice_get xs i ≡ Some x) × (f x ≡ y)
get_mapped f [] i y h = cc
get_mapped f (x ∷ xs) zero y h = (x, refl, same_Some _ _ h)
get_mapped f (x ∷ xs) (suc i) y h = get_mapped f xs i y h

pub map_get : {X Y : Type 0} (f : X → Y) (xs : List X) (i : ℕ) (x : X) → slice_get xs i ≡ Some x → slice_get (map f xs) i ≡ Some (f x)
map_get f xs i x h = slice_get-map f xs i ∙ ap (option_map f) h

pub replicate_false : (n i : ℕ) → slice_index_or (replicate n false) i false ≡ false
replicate_false zero i = refl
replicate_false (suc n) zero = refl
replicate_false (suc n) (suc i) = replicate_false n i

pub range_pushed : (a n : ℕ) → range_with_len a (suc n) ≡ range_with_len a n ++ (a + n) ∷ []
range_pushed a zero = ap (λ x. x ∷ []) (let e : a ≡ a + 0 = omega arith in e)
range_pushed a (suc n) = ap (λ xs. a ∷ xs) (range_pushed (a + 1) n ∙ ap (λ x. range_with_len (a + 1) n ++ x ∷ []) (let e : a + 1 + n ≡ a + suc n = omega arith in e))
