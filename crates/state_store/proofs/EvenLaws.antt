-- Lists that all have one length.
use Rattle.std.proofs.Common.{◌≡◌, ℕ, zero, suc, ◌+◌, ◌-◌, ◌*◌, ◌<◌, ◌≤◌, List, [], ◌∷◌, ◌++◌, length, take, drop, set, replicate, Some, slice_get, refl, sym, ap, ap₂, subst, ◌∙◌, arith}
use Rattle.std.proofs.Math.Nat.{mul-le-mul_left}
use Rattle.std.proofs.lemmas.List.{take-take, drop-take, length-take-le, length-drop, length-append, drop-drop, take_at, drop_at, take-append-le, drop-append-le, take_all, take-replicate, drop-replicate}
use Rattle.state_store.specs.Even.{Even, cut}

pub cut_length : (w n : ℕ) (ns : List ℕ) → length (cut w n ns) ≡ n
unfolding cut
cut_length w zero ns = refl
cut_length w (suc n) ns = ap suc (cut_length w n (drop w ns))

-- one list less
rest_length : (w n : ℕ) (ns : List ℕ) → length ns ≡ suc n * w → length (drop w ns) ≡ n * w
rest_length w n ns e = let d = length-drop w ns in omega arith

-- the list at a place
pub cut_at : (w n : ℕ) (ns : List ℕ) (i : ℕ) → i < n → slice_get (cut w n ns) i ≡ Some (take w (drop (i * w) ns))
unfolding cut
cut_at w zero ns i lt = absurd (omega arith)
cut_at w (suc n) ns zero lt = ap (λ k. Some (take w (drop k ns))) (let e : 0 ≡ 0 * w = omega arith in e)
cut_at w (suc n) ns (suc i) lt =
    let at : w + i * w ≡ suc i * w = omega arith in
    cut_at w n (drop w ns) i (omega arith)
    ∙ ap (λ l. Some (take w l)) (drop-drop (i * w) w ns ∙ ap (λ k. drop k ns) at)

-- a list more, behind the others
pub cut_push : (w n : ℕ) (ns l : List ℕ) → length ns ≡ n * w → length l ≡ w → cut w (suc n) (ns ++ l) ≡ cut w n ns ++ l ∷ []
unfolding cut
cut_push w zero [] l e is = ap (λ x. x ∷ []) (take_all w l (omega arith))
cut_push w zero (x ∷ ns) l e is = absurd (omega arith)
cut_push w (suc n) ns l e is =
    let long : w ≤ length ns = omega arith in
    ap₂ (λ (x : List ℕ) (y : List (List ℕ)). x ∷ y) (take-append-le w ns l long)
    (ap (cut w (suc n)) (drop-append-le w ns l long) ∙ cut_push w n (drop w ns) l (rest_length w n ns e) is)

-- where a list lies
pub room_at : (w n i : ℕ) → i < n → i * w + w ≤ n * w
room_at w n i lt = let m : w * suc i ≤ w * n = mul-le-mul_left w lt in omega arith

-- another list at a place
pub cut_set : (w n i : ℕ) (ns l : List ℕ) → length ns ≡ n * w → length l ≡ w → i < n
    → cut w n (take (i * w) ns ++ (l ++ drop (i * w + w) ns)) ≡ set (cut w n ns) i l
unfolding cut
cut_set w zero i ns l e is lt = absurd (omega arith)
cut_set w (suc n) zero ns l e is lt =
    let none : take (0 * w) ns ++ (l ++ drop (0 * w + w) ns) ≡ l ++ drop w ns = rw (let z : 0 * w ≡ 0 = omega arith in z, let z : 0 + w ≡ w = omega arith in z) refl in
    ap (cut w (suc n)) none
    ∙ ap₂ (λ (x : List ℕ) (y : List (List ℕ)). x ∷ y) (take_at l (drop w ns) w is) (ap (cut w n) (drop_at l (drop w ns) w is))
cut_set w (suc n) (suc i) ns l e is lt =
    let at : suc i * w ≡ w + i * w = omega arith in
    let long : w + i * w ≤ length ns = let m : i * w + w ≤ n * w = room_at w n i (omega arith) in omega arith in
    let r = l ++ drop (suc i * w + w) ns in
    let behind : r ≡ l ++ drop (i * w + w) (drop w ns) =
    ap (λ x. l ++ x) (ap (λ k. drop k ns) (let e : suc i * w + w ≡ w + (i * w + w) = omega arith in e) ∙ sym (drop-drop (i * w + w) w ns)) in
    let front : take w (take (w + i * w) ns ++ r) ≡ take w ns =
    take-append-le w (take (w + i * w) ns) r (let t = length-take-le (w + i * w) ns long in omega arith) ∙ take-take w (w + i * w) ns (omega arith) in
    let rest : drop w (take (w + i * w) ns ++ r) ≡ take (i * w) (drop w ns) ++ r =
    drop-append-le w (take (w + i * w) ns) r (let t = length-take-le (w + i * w) ns long in omega arith) ∙ ap (λ x. x ++ r) (drop-take w (i * w) ns) in
    ap (λ k. cut w (suc n) (take k ns ++ r)) at
    ∙ ap₂ (λ (x : List ℕ) (y : List (List ℕ)). x ∷ y) front
    (ap (cut w n) (rest ∙ ap (λ x. take (i * w) (drop w ns) ++ x) behind) ∙ cut_set w n i (drop w ns) l (rest_length w n ns e) is (omega arith))

pub cut_zeros : (w n : ℕ) → cut w n (replicate (n * w) 0) ≡ replicate n (replicate w 0)
unfolding cut
cut_zeros w zero = refl
cut_zeros w (suc n) =
    let le : w ≤ suc n * w = omega arith in
    let rest : suc n * w - w ≡ n * w = omega arith in
    ap₂ (λ (x : List ℕ) (y : List (List ℕ)). x ∷ y) (take-replicate w (suc n * w) 0 le)
    (ap (cut w n) (drop-replicate w (suc n * w) 0 ∙ ap (λ k. replicate k 0) rest) ∙ cut_zeros w n)

-- ---- of lists in a model
pub at_room : (w n p : ℕ) (ns : List ℕ) (e : Even) → ◌≡◌ {A = Even} (record { width = w; lists = cut w n ns }) e → p < length e.lists → length ns ≡ n * w → p * w + w ≤ length ns
at_room w n p ns e view lt long =
    let count : length (cut w n ns) ≡ length e.lists = ap (λ x. length x.lists) view in
    let all = cut_length w n ns in
    let room = room_at w n p (omega arith) in
    omega arith

pub at_list : (w n p : ℕ) (ns l : List ℕ) (e : Even) → ◌≡◌ {A = Even} (record { width = w; lists = cut w n ns }) e → p < length e.lists → l ≡ take w (drop (p * w) ns)
    → slice_get e.lists p ≡ Some l
at_list w n p ns l e view lt is =
    let count : length (cut w n ns) ≡ length e.lists = ap (λ x. length x.lists) view in
    let all = cut_length w n ns in
    ap (λ x. slice_get x.lists p) (sym view) ∙ cut_at w n ns p (omega arith) ∙ ap (λ x. Some x) (sym is)

pub at_width : (w n p : ℕ) (ns l : List ℕ) (e : Even) → ◌≡◌ {A = Even} (record { width = w; lists = cut w n ns }) e → p < length e.lists → length ns ≡ n * w → l ≡ take w (drop (p * w) ns)
    → length l ≡ e.width
at_width w n p ns l e view lt long is =
    let room = at_room w n p ns e view lt long in
    let left = length-drop (p * w) ns in
    ap length is ∙ length-take-le w (drop (p * w) ns) (omega arith) ∙ ap (λ x. x.width) view

-- another list at a place
pub set_list : (w n p : ℕ) (ns ms l : List ℕ) (e : Even) → ◌≡◌ {A = Even} (record { width = w; lists = cut w n ns }) e → p < length e.lists → length ns ≡ n * w → length l ≡ e.width
    → ms ≡ take (p * length l) ns ++ (l ++ drop (p * length l + length l) ns)
    → ◌≡◌ {A = Even} (record { width = w; lists = cut w n ms }) (record e { lists = set e.lists p l })
set_list w n p ns ms l e view lt long wide is =
    let count : length (cut w n ns) ≡ length e.lists = ap (λ x. length x.lists) view in
    let all = cut_length w n ns in
    let same : length l ≡ w = wide ∙ sym (ap (λ x. x.width) view) in
    ap (λ x. record { width = w; lists = cut w n x }) (is ∙ ap (λ k. take (p * k) ns ++ (l ++ drop (p * k + k) ns)) same)
    ∙ ap (λ x. record { width = w; lists = x }) (cut_set w n p ns l long same (omega arith))
    ∙ ap (λ (x : Even). record x { lists = set x.lists p l }) view

pub set_room : (w n p : ℕ) (ns l : List ℕ) (e : Even) → ◌≡◌ {A = Even} (record { width = w; lists = cut w n ns }) e → p < length e.lists → length ns ≡ n * w → length l ≡ e.width
    → p * length l + length l ≤ length ns
set_room w n p ns l e view lt long wide =
    subst (λ k. p * k + k ≤ length ns) (sym (wide ∙ sym (ap (λ x. x.width) view))) (at_room w n p ns e view lt long)

-- a list more
pub push_list : (w n m : ℕ) (ns ms l : List ℕ) (e : Even) → ◌≡◌ {A = Even} (record { width = w; lists = cut w n ns }) e → m ≡ n + 1 → length ns ≡ n * w → length l ≡ e.width → ms ≡ ns ++ l
    → ◌≡◌ {A = Even} (record { width = w; lists = cut w m ms }) (record e { lists = e.lists ++ l ∷ [] })
push_list w n m ns ms l e view next long wide is =
    let same : length l ≡ w = wide ∙ sym (ap (λ x. x.width) view) in
    let one : m ≡ suc n = omega arith in
    ap₂ (λ (k : ℕ) (x : List ℕ). record { width = w; lists = cut w k x }) one is
    ∙ ap (λ x. record { width = w; lists = x }) (cut_push w n ns l long same)
    ∙ ap (λ (x : Even). record x { lists = x.lists ++ l ∷ [] }) view

pub push_length : (w n m : ℕ) (ns ms l : List ℕ) (e : Even) → ◌≡◌ {A = Even} (record { width = w; lists = cut w n ns }) e → m ≡ n + 1 → length ns ≡ n * w → length l ≡ e.width → ms ≡ ns ++ l → length ms ≡ m * w
push_length w n m ns ms l e view next long wide is =
    let same : length l ≡ w = wide ∙ sym (ap (λ x. x.width) view) in
    let one : m ≡ suc n = omega arith in
    ap length is ∙ length-append ns l ∙ (let all : length ns + length l ≡ suc n * w = omega arith in all) ∙ ap (λ k. k * w) (sym one)
