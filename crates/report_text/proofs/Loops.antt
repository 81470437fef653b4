-- What loops over a line, over widths and over objects go on with.
use Rattle.std.proofs.Common.{◌≡◌, ℕ, suc, ◌+◌, ◌*◌, ◌-◌, ◌^◌, ◌≤◌, ◌<◌, true, false, leb, List, [], ◌∷◌, ◌++◌, length, drop, get_or, Some, None, refl, ap, ◌∙◌, arith, drop-cons, add-zero}
use Rattle.std.specs.Prelude.{slice_index}
use Rattle.std.proofs.lemmas.Nat.{pow_pos}
use Rattle.std.proofs.Math.Pow.{pow_mono}
use Rattle.std.proofs.Math.Nat.{mul-le-mul_left, mul-le-mul_right}
use Rattle.std.proofs.lemmas.Bool.{le-leb}
use Rattle.state_store.specs.declared.object.ObjectDecl.{ObjectDecl}
use Rattle.state_store.specs.Kinds.{is_table}
use Rattle.report_text.specs.Parse.{number_below, numbers_at, key_number, keys_at, labelled, most_of, values_at}
use Rattle.report_text.specs.Machine.{keys_above, next_from, shown_count, shown_from}
use Rattle.std.proofs.lemmas.List.{get_or-drop, drop-drop}

-- ---- numbers of the order

less_one : (n i : ℕ) → i < n → n - i ≡ suc (n - (i + 1))
less_one n i h = omega arith

pub numbers_on : (before : List ℕ) (n i bound : ℕ) (line : List ℕ) (x : ℕ × List ℕ) → i < n → number_below bound line ≡ Some x
    → numbers_at before (n - i) bound line ≡ numbers_at (before ++ x.0 ∷ []) (n - (i + 1)) bound x.1
numbers_on before n i bound line x h e = rw (less_one n i h) (rw e refl)

pub numbers_stop : (before : List ℕ) (n i bound : ℕ) (line : List ℕ) → i < n → number_below bound line ≡ None → numbers_at before (n - i) bound line ≡ None
numbers_stop before n i bound line h e = rw (less_one n i h) (rw e refl)

-- ---- keys and values

pub keys_on : (before ws : List ℕ) (i : ℕ) (line : List ℕ) (x : ℕ × List ℕ) → i < length ws → key_number (slice_index ws i) line ≡ Some x
    → keys_at before (drop i ws) line ≡ keys_at (before ++ x.0 ∷ []) (drop (suc i) ws) x.1
keys_on before ws i line x h e = rw (drop-cons ws i 0) (rw e refl)

pub keys_stop : (before ws : List ℕ) (i : ℕ) (line : List ℕ) → i < length ws → key_number (slice_index ws i) line ≡ None → keys_at before (drop i ws) line ≡ None
keys_stop before ws i line h e = rw (drop-cons ws i 0) (rw e refl)

pub values_on : (before ws : List ℕ) (i : ℕ) (word line : List ℕ) (x : ℕ × List ℕ) → word ≡ 32 ∷ [] → i < length ws → labelled (most_of (slice_index ws i)) word line ≡ Some x
    → values_at before (drop i ws) line ≡ values_at (before ++ x.0 ∷ []) (drop (suc i) ws) x.1
values_on before ws i word line x w h e = rw (drop-cons ws i 0) (rw (rw w at e) refl)

pub values_stop : (before ws : List ℕ) (i : ℕ) (word line : List ℕ) → word ≡ 32 ∷ [] → i < length ws → labelled (most_of (slice_index ws i)) word line ≡ None → values_at before (drop i ws) line ≡ None
values_stop before ws i word line w h e = rw (drop-cons ws i 0) (rw (rw w at e) refl)

-- ---- greater keys

pub above_more : (above : ℕ) (ws key : List ℕ) → above ≤ keys_above above ws key
above_more above [] key = omega arith
above_more above (w ∷ ws) key =
    let more = above_more (above * 2 ^ w + (most_of w - slice_index key 0)) ws (drop 1 key) in
    let times : above * 1 ≤ above * 2 ^ w = mul-le-mul_left above (omega (arith, pow_pos w)) in
    omega (arith, more, times)

pub leaves_on : (above i : ℕ) (ws key : List ℕ) → i < length ws
    → keys_above above (drop i ws) (drop i key) ≡ keys_above (above * 2 ^ slice_index ws i + (most_of (slice_index ws i) - slice_index key i)) (drop (suc i) ws) (drop (suc i) key)
leaves_on above i ws key h =
    let w = slice_index ws i in
    let place : i + 1 ≡ suc i = omega arith in
    ap (λ l. keys_above above l (drop i key)) (drop-cons ws i 0 h)
    ∙ ap (λ k. keys_above (above * 2 ^ w + (most_of w - k)) (drop (suc i) ws) (drop 1 (drop i key))) (get_or-drop i key 0 0 ∙ ap (slice_index key) (add-zero i))
    ∙ ap (λ k. keys_above (above * 2 ^ w + (most_of w - slice_index key i)) (drop (suc i) ws) k) (drop-drop 1 i key ∙ ap (λ n. drop n key) place)

pub leaves_many : (rows above : ℕ) (ws key : List ℕ) → rows ≤ above → leb rows (keys_above above ws key) ≡ true
leaves_many rows above ws key h = le-leb rows (keys_above above ws key) (omega (arith, above_more above ws key))

pub leaves_wide : (rows above i : ℕ) (ws key : List ℕ) → rows < 2 ^ 32 → 0 < above → 32 ≤ slice_index ws i → i < length ws → leb rows (keys_above above (drop i ws) (drop i key)) ≡ true
leaves_wide rows above i ws key small some wide h =
    let top : 2 ^ 32 ≤ 2 ^ slice_index ws i = pow_mono wide in
    let times : 1 * 2 ^ slice_index ws i ≤ above * 2 ^ slice_index ws i = mul-le-mul_right (2 ^ slice_index ws i) (omega arith) in
    rw (leaves_on above i ws key h)
    (leaves_many rows (above * 2 ^ slice_index ws i + (most_of (slice_index ws i) - slice_index key i)) (drop (suc i) ws) (drop (suc i) key) (omega (arith, top, times)))

-- ---- objects

pub next_on : (n : ℕ) (o : ObjectDecl) (objects : List ObjectDecl) → n < length objects → o ≡ get_or objects n o → is_table o.kind ≡ true
    → next_from n (drop n objects) ≡ next_from (suc n) (drop (suc n) objects)
next_on n o objects h e t = rw (drop-cons objects n o) (rw (← e, t) refl)

pub next_stop : (n : ℕ) (o : ObjectDecl) (objects : List ObjectDecl) → n < length objects → o ≡ get_or objects n o → is_table o.kind ≡ false → next_from n (drop n objects) ≡ Some n
next_stop n o objects h e t = rw (drop-cons objects n o) (rw (← e, t) refl)

pub shown_on : (n : ℕ) (o : ObjectDecl) (objects : List ObjectDecl) (line : List ℕ) → n < length objects → o ≡ get_or objects n o → shown_count o line ≡ None
    → shown_from n (drop n objects) line ≡ shown_from (suc n) (drop (suc n) objects) line
shown_on n o objects line h e t = rw (drop-cons objects n o) (rw (← e, t) refl)

pub shown_stop : (n count : ℕ) (o : ObjectDecl) (objects : List ObjectDecl) (line : List ℕ) → n < length objects → o ≡ get_or objects n o → shown_count o line ≡ Some count
    → shown_from n (drop n objects) line ≡ Some (n, count)
shown_stop n count o objects line h e t = rw (drop-cons objects n o) (rw (← e, t) refl)
