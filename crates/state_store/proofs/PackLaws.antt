-- Numbers that are packed come out again, and keep their order.
use Rattle.std.proofs.Common.{◌≡◌, inl, inr, ℕ, ◌+◌, ◌-◌, ◌*◌, ◌/◌, ◌%◌, ◌^◌, ◌<◌, ◌≤◌, true, false, ◌&&◌, cond, List, [], ◌∷◌, refl, sym, ap, ap₂, subst, ◌∙◌, arith}
use Rattle.std.specs.Prelude.{nat_le, nat_lt, ◌==◌}
use Rattle.std.specs.Ordering.{nat_cmp, ordering_then}
use Rattle.std.specs.declared.cmp.Ordering.{Ordering}
use Rattle.std.specs.declared.cmp.Ordering.TheVariants.{Less, Equal}
use Rattle.std.proofs.lemmas.Bool.{and_parts, ltb-true, leb-true, cases_order}
use Rattle.std.proofs.lemmas.Nat.{pow_pos, pow-add, mul-add-lt, mul-le, shr_high, mod_low}
use Rattle.state_store.specs.Kept.{have_widths}
use Rattle.state_store.specs.Store.{key_cmp}
use Rattle.state_store.specs.Packing.{have_room, packed, parts, words, number, packed_list, unpacked_list}
use Rattle.lemmas.proofs.Numbers.{cmp_equal, cmp_greater, cmp_less}

-- a width that has room
pub record HasRoom (bits w : ℕ) (ws : List ℕ) : Type 0 where
  pub least : 1 ≤ w
  pub most : w ≤ 64
  pub within : w ≤ bits
  pub rest : have_room (bits - w) ws ≡ true

pub with_room : (bits w : ℕ) (ws : List ℕ) → have_room bits (w ∷ ws) ≡ true → HasRoom bits w ws
with_room bits w ws h =
    let outer = and_parts (nat_le 1 w && nat_le w 64) (nat_le w bits && have_room (bits - w) ws) h in
    let width = and_parts (nat_le 1 w) (nat_le w 64) outer.0 in
    let inner = and_parts (nat_le w bits) (have_room (bits - w) ws) outer.1 in
    record { least = leb-true 1 w width.0; most = leb-true w 64 width.1; within = leb-true w bits inner.0; rest = inner.1 }

-- a number of its width
pub record HasWidth (w n : ℕ) (ws ns : List ℕ) : Type 0 where
  pub first : n < 2 ^ w
  pub rest : have_widths ws ns ≡ true

pub with_width : (w n : ℕ) (ws ns : List ℕ) → have_widths (w ∷ ws) (n ∷ ns) ≡ true → HasWidth w n ws ns
with_width w n ws ns h =
    let both = and_parts (nat_lt n (2 ^ w)) (have_widths ws ns) h in
    record { first = ltb-true n (2 ^ w) both.0; rest = both.1 }

-- one number more in front
pub one_more : (bits w n r : ℕ) → w ≤ bits → n < 2 ^ w → r < 2 ^ (bits - w) → n * 2 ^ (bits - w) + r < 2 ^ bits
one_more bits w n r le first rest =
    let e : (bits - w) + w ≡ bits = omega arith in
    subst (λ x. n * 2 ^ (bits - w) + r < x) (sym (pow-add 2 (bits - w) w) ∙ ap (λ k. 2 ^ k) e) (mul-add-lt n (2 ^ (bits - w)) r (2 ^ w) first rest)

pub packed_below : (bits : ℕ) (ws ns : List ℕ) → have_room bits ws ≡ true → have_widths ws ns ≡ true → packed bits ws ns < 2 ^ bits
unfolding packed
packed_below bits [] ns room fit = pow_pos bits
packed_below bits (w ∷ ws) [] room fit = pow_pos bits
packed_below bits (w ∷ ws) (n ∷ ns) room fit =
    let r = with_room bits w ws room in
    let f = with_width w n ws ns fit in
    one_more bits w n (packed (bits - w) ws ns) r.within f.first (packed_below (bits - w) ws ns r.rest f.rest)

pub parts_packed : (bits : ℕ) (ws ns : List ℕ) → have_room bits ws ≡ true → have_widths ws ns ≡ true → parts bits ws (packed bits ws ns) ≡ ns
unfolding packed parts
parts_packed bits [] [] room fit = refl
parts_packed bits [] (n ∷ ns) room fit = absurd (cc)
parts_packed bits (w ∷ ws) [] room fit = absurd (cc)
parts_packed bits (w ∷ ws) (n ∷ ns) room fit =
    let r = with_room bits w ws room in
    let f = with_width w n ws ns fit in
    let k = bits - w in
    let rest = packed k ws ns in
    let below : rest < 2 ^ k = packed_below k ws ns r.rest f.rest in
    ap₂ (λ x xs. x ∷ xs) (shr_high n k rest below) (ap (parts k ws) (mod_low n k rest below) ∙ parts_packed k ws ns r.rest f.rest)

-- the first digit decides, and then the second
pub digits : (b x r y s : ℕ) → r < b → s < b → nat_cmp (x * b + r) (y * b + s) ≡ ordering_then (nat_cmp x y) (nat_cmp r s)
digits b x r y s p q = elim (cases_order x y) [
  | inl same ↦ rw (same, cmp_equal y) (elim (cases_order r s) [
    | inl e ↦ rw (e, cmp_equal s) (cmp_equal (y * b + s))
    | inr (inl lt) ↦ rw (cmp_less r s lt) (cmp_less (y * b + r) (y * b + s) (omega arith))
    | inr (inr gt) ↦ rw (cmp_greater r s gt) (cmp_greater (y * b + r) (y * b + s) (omega arith))
  ])
  | inr (inl lt) ↦ rw (cmp_less x y lt) (cmp_less (x * b + r) (y * b + s) (let h = row x y lt p in omega arith))
  | inr (inr gt) ↦ rw (cmp_greater x y gt) (cmp_greater (x * b + r) (y * b + s) (let h = row y x gt q in omega arith))
]
  where
    row : (u v : ℕ) {t : ℕ} → u < v → t < b → u * b + t < v * b
    row u v {t} lt below = let h = mul-le (u + 1) b v b (omega arith) (omega arith) in let e : (u + 1) * b ≡ u * b + b = grind arith in omega arith

pub packed_cmp : (bits : ℕ) (ws ns ms : List ℕ) → have_room bits ws ≡ true → have_widths ws ns ≡ true → have_widths ws ms ≡ true → nat_cmp (packed bits ws ns) (packed bits ws ms) ≡ key_cmp ns ms
unfolding packed
packed_cmp bits [] [] [] room fit fit' = refl
packed_cmp bits [] [] (m ∷ ms) room fit fit' = absurd (cc)
packed_cmp bits [] (n ∷ ns) ms room fit fit' = absurd (cc)
packed_cmp bits (w ∷ ws) [] ms room fit fit' = absurd (cc)
packed_cmp bits (w ∷ ws) (n ∷ ns) [] room fit fit' = absurd (cc)
packed_cmp bits (w ∷ ws) (n ∷ ns) (m ∷ ms) room fit fit' =
    let r = with_room bits w ws room in
    let f = with_width w n ws ns fit in
    let g = with_width w m ws ms fit' in
    let k = bits - w in
    digits (2 ^ k) n (packed k ws ns) m (packed k ws ms) (packed_below k ws ns r.rest f.rest) (packed_below k ws ms r.rest g.rest)
    ∙ ap (ordering_then (nat_cmp n m)) (packed_cmp k ws ns ms r.rest f.rest g.rest)

-- ---- words
pub number_words : (count x : ℕ) → number (words count x) ≡ x
unfolding number words
number_words count x = elim (count == 1) as (λ b. number (cond b (x ∷ []) (x / 2 ^ 64 ∷ x % 2 ^ 64 ∷ [])) ≡ x) [
  | true ↦ refl
  | false ↦ omega arith
]

then_equal : (o : Ordering) → ordering_then o Equal ≡ o
then_equal Less = refl
then_equal _ = refl

pub words_cmp : (count x y : ℕ) → key_cmp (words count x) (words count y) ≡ nat_cmp x y
unfolding words
words_cmp count x y = elim (count == 1) as (λ b. key_cmp (cond b (x ∷ []) (x / 2 ^ 64 ∷ x % 2 ^ 64 ∷ [])) (cond b (y ∷ []) (y / 2 ^ 64 ∷ y % 2 ^ 64 ∷ [])) ≡ nat_cmp x y) [
  | true ↦ then_equal (nat_cmp x y)
  | false ↦
      let e : x / 2 ^ 64 * 2 ^ 64 + x % 2 ^ 64 ≡ x = omega arith in
      let f : y / 2 ^ 64 * 2 ^ 64 + y % 2 ^ 64 ≡ y = omega arith in
      ap (ordering_then (nat_cmp (x / 2 ^ 64) (y / 2 ^ 64))) (then_equal (nat_cmp (x % 2 ^ 64) (y % 2 ^ 64)))
      ∙ sym (digits (2 ^ 64) (x / 2 ^ 64) (x % 2 ^ 64) (y / 2 ^ 64) (y % 2 ^ 64) (omega arith) (omega arith))
      ∙ ap₂ nat_cmp e f
]

-- ---- lists of numbers as words
pub unpacked_packed : (count : ℕ) (ws ns : List ℕ) → have_room (64 * count) ws ≡ true → have_widths ws ns ≡ true → unpacked_list count ws (packed_list count ws ns) ≡ ns
unfolding packed_list unpacked_list
unpacked_packed count ws ns room fit = ap (parts (64 * count) ws) (number_words count (packed (64 * count) ws ns)) ∙ parts_packed (64 * count) ws ns room fit

pub packed_list_cmp : (count : ℕ) (ws ns ms : List ℕ) → have_room (64 * count) ws ≡ true → have_widths ws ns ≡ true → have_widths ws ms ≡ true → key_cmp (packed_list count ws ns) (packed_list count ws ms) ≡ key_cmp ns ms
unfolding packed_list
packed_list_cmp count ws ns ms room fit fit' =
    words_cmp count (packed (64 * count) ws ns) (packed (64 * count) ws ms) ∙ packed_cmp (64 * count) ws ns ms room fit fit'
