-- One number more, while numbers are packed or unpacked.
use Rattle.std.proofs.Common.{◌≡◌, ◌≢◌, inl, inr, ℕ, suc, ◌+◌, ◌-◌, ◌*◌, ◌/◌, ◌%◌, ◌^◌, ◌<◌, ◌≤◌, Bool, true, false, cond, List, [], ◌∷◌, ◌++◌, length, drop, get_or, replicate, Some, None, refl, sym, ap, ap₂, subst, ◌∙◌, arith, pow_mono, add-one, append-nil}
use Rattle.std.specs.Prelude.{nat_eq, slice_set}
use Rattle.std.proofs.Math.Seq.{drop-cons}
use Rattle.std.proofs.lemmas.List.{drop_all}
use Rattle.std.proofs.lemmas.Nat.{pow_pos, pow-add, shl_whole, shr_below, mod_below, mul-add-lt, one_shl}
use Rattle.slot_table.specs.Table.{IsWords}
use Rattle.state_store.specs.Kept.{have_widths}
use Rattle.state_store.specs.Packing.{have_room, packed, parts, words, number}
use Rattle.state_store.proofs.PackLaws.{with_room, with_width}

-- ---- lists
pub next_of : (xs : List ℕ) (i : ℕ) → i < length xs → drop i xs ≡ get_or xs i 0 ∷ drop (i + 1) xs
next_of xs i lt = rw (add-one, drop-cons xs i 0) refl

pub same_count : (ws ns : List ℕ) → have_widths ws ns ≡ true → length ws ≡ length ns
same_count [] [] h = refl
same_count [] (n ∷ ns) h = absurd (cc)
same_count (w ∷ ws) [] h = absurd (cc)
same_count (w ∷ ws) (n ∷ ns) h = ap suc (same_count ws ns (with_width w n ws ns h).rest)

pub other_count : (ws ns : List ℕ) → length ws ≢ length ns → have_widths ws ns ≡ false
other_count ws ns h = go (have_widths ws ns) refl
  where
    go : (b : Bool) → have_widths ws ns ≡ b → have_widths ws ns ≡ false
    go true e = absurd (h (same_count ws ns e))
    go false e = e

-- an answer by a test that fails, and by one that holds
pub by_false : {A : Type 0} (b : Bool) (x : A) → b ≢ true → None ≡ cond b (Some x) None
by_false true x h = absurd (h refl)
by_false false x h = refl

pub by_true : {A : Type 0} (b : Bool) (x y : A) → b ≡ true → x ≡ y → Some x ≡ cond b (Some y) None
by_true b x y h e = rw h (ap (λ z. Some z) e)

-- ---- packing
pub record IsPackedOn (bits room whole w n : ℕ) (ws : List ℕ) : Type 0 where
  pub below : room - w < 128
  pub whole_shift : n * 2 ^ (room - w) % 2 ^ 128 ≡ n * 2 ^ (room - w)
  pub within : whole + n * 2 ^ (room - w) + 2 ^ (room - w) ≤ 2 ^ bits
  pub fits : whole + n * 2 ^ (room - w) < 2 ^ 128
  pub rest : have_room (room - w) ws ≡ true

pub packed_on : (bits room whole w n : ℕ) (ws : List ℕ) → bits ≤ 128 → room ≤ bits → have_room room (w ∷ ws) ≡ true → n < 2 ^ w → whole + 2 ^ room ≤ 2 ^ bits → IsPackedOn bits room whole w n ws
packed_on bits room whole w n ws small le h fit within =
    let r = with_room room w ws h in
    let least : 1 ≤ w = r.least in
    let most : w ≤ room = r.within in
    let k = room - w in
    let e : k + w ≡ room = omega arith in
    let power : 2 ^ room ≡ 2 ^ k * 2 ^ w = ap (λ m. 2 ^ m) (sym e) ∙ pow-add 2 k w in
    let some : 0 < 2 ^ k = pow_pos k in
    let row : n * 2 ^ k + (2 ^ k - 1) < 2 ^ k * 2 ^ w = mul-add-lt n (2 ^ k) (2 ^ k - 1) (2 ^ w) fit (omega arith) in
    let top : 2 ^ bits ≤ 2 ^ 128 = pow_mono small in
    record {
      below = omega arith;
      whole_shift = shl_whole n w k 128 fit (omega arith);
      within = omega arith;
      fits = omega arith;
      rest = r.rest;
    }

pub packed_next : (room : ℕ) (ws ns : List ℕ) (i : ℕ) → i < length ws → i < length ns → packed room (drop i ws) (drop i ns) ≡ get_or ns i 0 * 2 ^ (room - get_or ws i 0) + packed (room - get_or ws i 0) (drop (i + 1) ws) (drop (i + 1) ns)
unfolding packed
packed_next room ws ns i wide long = ap₂ (packed room) (next_of ws i wide) (next_of ns i long)

pub packed_end : (room : ℕ) (ws ns : List ℕ) (i a t : ℕ) → length ws ≤ i → length ns ≤ i → a + packed room (drop i ws) (drop i ns) ≡ t → a ≡ t
unfolding packed
packed_end room ws ns i a t wide long h =
    let z : packed room (drop i ws) (drop i ns) ≡ 0 = ap₂ (packed room) (drop_all i ws wide) (drop_all i ns long) in omega arith

pub regrouped : (a b x r s t : ℕ) → x ≡ b → s ≡ b + r → a + s ≡ t → a + x + r ≡ t
regrouped a b x r s t e f h = omega arith

-- ---- unpacking
pub record IsUnpackedOn (room rest w : ℕ) (ws : List ℕ) : Type 0 where
  pub part : rest / 2 ^ (room - w) < 2 ^ 64
  pub mask : 1 * 2 ^ (room - w) % 2 ^ 128 ≡ 2 ^ (room - w)
  pub below : rest % 2 ^ (room - w) < 2 ^ (room - w)
  pub left : have_room (room - w) ws ≡ true

pub unpacked_on : (room rest w : ℕ) (ws : List ℕ) → room ≤ 128 → have_room room (w ∷ ws) ≡ true → rest < 2 ^ room → IsUnpackedOn room rest w ws
unpacked_on room rest w ws small h below =
    let r = with_room room w ws h in
    let least : 1 ≤ w = r.least in
    let most : w ≤ room = r.within in
    let wide : w ≤ 64 = r.most in
    let k = room - w in
    let e : w + k ≡ room = omega arith in
    let split : rest < 2 ^ (w + k) = subst (λ m. rest < 2 ^ m) (sym e) below in
    let part : rest / 2 ^ k < 2 ^ w = shr_below rest w k split in
    let top : 2 ^ w ≤ 2 ^ 64 = pow_mono wide in
    record {
      part = omega arith;
      mask = one_shl k 128 (omega arith);
      below = mod_below rest (2 ^ k) (pow_pos k);
      left = r.rest;
    }

pub parts_next : (room : ℕ) (ws : List ℕ) (i x : ℕ) → i < length ws → parts room (drop i ws) x ≡ x / 2 ^ (room - get_or ws i 0) ∷ parts (room - get_or ws i 0) (drop (i + 1) ws) (x % 2 ^ (room - get_or ws i 0))
unfolding parts
parts_next room ws i x lt = ap (λ l. parts room l x) (next_of ws i lt)

pub parts_end : (room : ℕ) (ws : List ℕ) (i x : ℕ) (l : List ℕ) → length ws ≤ i → l ++ parts room (drop i ws) x ≡ l
unfolding parts
parts_end room ws i x l le = ap (λ k. l ++ parts room k x) (drop_all i ws le) ∙ append-nil l

pub one_longer : (l : List ℕ) (x : ℕ) → length (l ++ x ∷ []) ≡ length l + 1
one_longer [] x = refl
one_longer (y ∷ l) x = let h = one_longer l x in omega arith

-- ---- words
pub in_two : (n y z x : ℕ) → n ≡ 2 → z ≡ x / 2 ^ 64 → y ≡ x % 2 ^ 64 → slice_set (slice_set (replicate n 0) (n - 1) y) 0 z ≡ words n x
unfolding words
in_two n y z x e high low = subst (λ m. slice_set (slice_set (replicate m 0) (m - 1) y) 0 z ≡ cond (nat_eq m 1) (x ∷ []) (x / 2 ^ 64 ∷ x % 2 ^ 64 ∷ [])) (sym e) (ap₂ (λ h l. h ∷ l ∷ []) high low)

pub in_one : (n y x : ℕ) → n ≡ 1 → y ≡ x → slice_set (replicate n 0) (n - 1) y ≡ words n x
unfolding words
in_one n y x e same = subst (λ m. slice_set (replicate m 0) (m - 1) y ≡ cond (nat_eq m 1) (x ∷ []) (x / 2 ^ 64 ∷ x % 2 ^ 64 ∷ [])) (sym e) (ap (λ l. l ∷ []) same)

pub of_two : (l : List ℕ) (n : ℕ) → n ≡ 2 → length l ≡ n → get_or l 0 0 * 2 ^ 64 + get_or l (n - 1) 0 ≡ number l
unfolding number
of_two [] n e is = absurd (omega arith)
of_two (x ∷ []) n e is = absurd (omega arith)
of_two (x ∷ y ∷ []) n e is = ap (λ m. x * 2 ^ 64 + get_or (x ∷ y ∷ []) (m - 1) 0) e
of_two (x ∷ y ∷ z ∷ l) n e is = absurd (omega arith)

pub of_one : (l : List ℕ) (n : ℕ) → n ≡ 1 → length l ≡ n → get_or l (n - 1) 0 ≡ number l
unfolding number
of_one [] n e is = absurd (omega arith)
of_one (x ∷ []) n e is = ap (λ m. get_or (x ∷ []) (m - 1) 0) e
of_one (x ∷ y ∷ l) n e is = absurd (omega arith)

pub one_of : (n : ℕ) → IsWords n → n ≢ 2 → n ≡ 1
one_of n (inl one) h = one
one_of n (inr two) h = absurd (h two)
