-- Bytes begin with one list of records at most, behind which no record stands.
use Rattle.std.proofs.Common.{◌≡◌, ℕ, ◌+◌, ◌<◌, ◌^◌, Bool, List, [], ◌∷◌, ◌++◌, length, take, drop, refl, sym, ap, ◌∙◌, append_assoc, arith, inl, inr}
use Rattle.std.specs.Int.{w32}
use Rattle.std.specs.List.{AllByRecursion as Each, flat_map}
use Rattle.std.proofs.lemmas.List.{drop_at, length-append, take_at}
use Rattle.pcap_trace.specs.declared.records.Record.{Record}
use Rattle.pcap_trace.specs.Format.{number, record_bytes, record_header}
use Rattle.pcap_trace.specs.Records.{IsRecord}
use Rattle.pcap_trace.specs.Refused.{IsCut, IsLong, Tells}
use Rattle.pcap_trace.proofs.NumberLemmas.{behind_number, length-number_4, length-record_header, number_in_front, one_number}
use Rattle.lemmas.proofs.Lists.{first_parts, second_parts}

pub length-record_bytes : (big : Bool) (r : Record) → length (record_bytes big r) ≡ 16 + length r.bytes
unfolding record_bytes
length-record_bytes big r =
    omega (
      arith,
      length-append (record_header big r.seconds r.fraction (length r.bytes) r.original) r.bytes,
      length-record_header big r.seconds r.fraction (length r.bytes) r.original,
    )

-- the four numbers of two equal headers
pub record Same4 (a b c d a' b' c' d' : ℕ) : Type 0 where
  pub first : a ≡ a'
  pub second : b ≡ b'
  pub third : c ≡ c'
  pub fourth : d ≡ d'

one_header : (big : Bool) (a b c d a' b' c' d' : ℕ) → a < 2 ^ 32 → a' < 2 ^ 32 → b < 2 ^ 32 → b' < 2 ^ 32
    → c < 2 ^ 32 → c' < 2 ^ 32 → d < 2 ^ 32 → d' < 2 ^ 32
    → record_header big a b c d ≡ record_header big a' b' c' d' → Same4 a b c d a' b' c' d'
unfolding record_header
one_header big a b c d a' b' c' d' ha ha' hb hb' hc hc' hd hd' same =
    let after_a = behind_number big a a' (number big w32 b ++ (number big w32 c ++ number big w32 d)) (number big w32 b' ++ (number big w32 c' ++ number big w32 d')) same in
    let after_b = behind_number big b b' (number big w32 c ++ number big w32 d) (number big w32 c' ++ number big w32 d') after_a in
    let after_c = behind_number big c c' (number big w32 d) (number big w32 d') after_b in
    record {
      first = number_in_front big a a' (number big w32 b ++ (number big w32 c ++ number big w32 d)) (number big w32 b' ++ (number big w32 c' ++ number big w32 d')) ha ha' same;
      second = number_in_front big b b' (number big w32 c ++ number big w32 d) (number big w32 c' ++ number big w32 d') hb hb' after_a;
      third = number_in_front big c c' (number big w32 d) (number big w32 d') hc hc' after_b;
      fourth = one_number big d d' hd hd' after_c;
    }

-- two equal records, with the same behind them
pub record SameFront (r s : Record) (x y : List ℕ) : Type 0 where
  pub items : r ≡ s
  pub rest : x ≡ y

made : ℕ → ℕ → ℕ → List ℕ → Record
made a b c bytes = record { seconds = a; fraction = b; original = c; bytes = bytes }

same_record : (r s : Record) → r.seconds ≡ s.seconds → r.fraction ≡ s.fraction → r.original ≡ s.original
    → r.bytes ≡ s.bytes → r ≡ s
unfolding made
same_record r s a b c d =
    ap (λ (n : ℕ). made n r.fraction r.original r.bytes) a
    ∙ (ap (λ (n : ℕ). made s.seconds n r.original r.bytes) b
    ∙ (ap (λ (n : ℕ). made s.seconds s.fraction n r.bytes) c
    ∙ ap (λ (bytes : List ℕ). made s.seconds s.fraction s.original bytes) d))

pub one_record : (big : Bool) (r s : Record) (x y : List ℕ) → IsRecord r → IsRecord s
    → record_bytes big r ++ x ≡ record_bytes big s ++ y → SameFront r s x y
unfolding record_bytes
one_record big r s x y r_is s_is same =
    let r_header = record_header big r.seconds r.fraction (length r.bytes) r.original in
    let s_header = record_header big s.seconds s.fraction (length s.bytes) s.original in
    let long : length r_header ≡ length s_header = length-record_header big r.seconds r.fraction (length r.bytes) r.original ∙ sym (length-record_header big s.seconds s.fraction (length s.bytes) s.original) in
    let grouped : r_header ++ (r.bytes ++ x) ≡ s_header ++ (s.bytes ++ y) = sym (append_assoc r_header r.bytes x) ∙ (same ∙ append_assoc s_header s.bytes y) in
    let headers = first_parts r_header s_header (r.bytes ++ x) (s.bytes ++ y) long grouped in
    let numbers = one_header big r.seconds r.fraction (length r.bytes) r.original s.seconds s.fraction (length s.bytes) s.original r_is.seconds s_is.seconds r_is.fraction s_is.fraction (omega (arith, r_is.size)) (omega (arith, s_is.size)) r_is.original s_is.original headers in
    let bodies = second_parts r_header s_header (r.bytes ++ x) (s.bytes ++ y) long grouped in
    record {
      items = same_record r s numbers.first numbers.second numbers.fourth (first_parts r.bytes s.bytes x y numbers.third bodies);
      rest = second_parts r.bytes s.bytes x y numbers.third bodies;
    }

-- what a record tells of its captured bytes
told_length : (big : Bool) (r : Record) (x : List ℕ) → take 4 (drop 8 (record_bytes big r ++ x)) ≡ number big w32 (length r.bytes)
unfolding record_bytes record_header
told_length big r x =
    let front = number big w32 r.seconds ++ number big w32 r.fraction in
    let behind = number big w32 r.original ++ (r.bytes ++ x) in
    let grouped : record_bytes big r ++ x ≡ front ++ (number big w32 (length r.bytes) ++ behind) = simp append_assoc in
    let eight : length front ≡ 8 = omega (arith, length-append (number big w32 r.seconds) (number big w32 r.fraction), length-number_4 big r.seconds, length-number_4 big r.fraction) in
    ap (λ (bytes : List ℕ). take 4 (drop 8 bytes)) grouped
    ∙ (ap (λ (bytes : List ℕ). take 4 bytes) (drop_at front (number big w32 (length r.bytes) ++ behind) 8 eight)
    ∙ take_at (number big w32 (length r.bytes)) behind 4 (length-number_4 big (length r.bytes)))

-- no record stands in front of these bytes
abbrev pub IsStuck : Bool → List ℕ → Type 0
IsStuck big rest = (r : Record) (x : List ℕ) → IsRecord r → rest ≡ record_bytes big r ++ x → ⊥

length_in_front : (big : Bool) (r : Record) (x rest : List ℕ) → rest ≡ record_bytes big r ++ x → length rest ≡ 16 + length r.bytes + length x
length_in_front big r x rest same =
    omega (arith, ap (λ (bytes : List ℕ). length bytes) same, length-append (record_bytes big r) x, length-record_bytes big r)

told_is : (big : Bool) (r : Record) (x rest : List ℕ) (captured : ℕ) → IsRecord r → rest ≡ record_bytes big r ++ x
    → Tells big rest captured → captured ≡ length r.bytes
told_is big r x rest captured r_is same tells =
    one_number big captured (length r.bytes) tells.fits (omega (arith, r_is.size))
    (sym tells.told ∙ (ap (λ (bytes : List ℕ). take 4 (drop 8 bytes)) same ∙ told_length big r x))

pub none_is_stuck : (big : Bool) → IsStuck big []
none_is_stuck big r x r_is same = absurd (omega (arith, length_in_front big r x [] same))

pub long_is_stuck : (big : Bool) (rest : List ℕ) → IsLong big rest → IsStuck big rest
long_is_stuck big rest long r x r_is same =
    absurd (omega (arith, told_is big r x rest long.0 r_is same long.1, long.2, r_is.size))

pub cut_is_stuck : (big : Bool) (rest : List ℕ) → IsCut big rest → IsStuck big rest
cut_is_stuck big rest (inl short) r x r_is same = absurd (omega (arith, length_in_front big r x rest same, short.1))
cut_is_stuck big rest (inr cut) r x r_is same =
    absurd (omega (arith, length_in_front big r x rest same, told_is big r x rest cut.0 r_is same cut.1, cut.3))

-- two equal lists of records, with the same behind them
pub record SameFronts (rs ss : List Record) (x y : List ℕ) : Type 0 where
  pub items : rs ≡ ss
  pub rest : x ≡ y

pub one_list : (big : Bool) (rs ss : List Record) (x y : List ℕ) → Each IsRecord rs → Each IsRecord ss
    → IsStuck big x → IsStuck big y → flat_map (record_bytes big) rs ++ x ≡ flat_map (record_bytes big) ss ++ y → SameFronts rs ss x y
one_list big [] [] x y rs_are ss_are x_ends y_ends same = record { items = refl; rest = same }
one_list big [] (s ∷ ss) x y rs_are ss_are x_ends y_ends same =
    absurd (x_ends s (flat_map (record_bytes big) ss ++ y) ss_are.0 (same ∙ append_assoc (record_bytes big s) (flat_map (record_bytes big) ss) y))
one_list big (r ∷ rs) [] x y rs_are ss_are x_ends y_ends same =
    absurd (y_ends r (flat_map (record_bytes big) rs ++ x) rs_are.0 (sym same ∙ append_assoc (record_bytes big r) (flat_map (record_bytes big) rs) x))
one_list big (r ∷ rs) (s ∷ ss) x y rs_are ss_are x_ends y_ends same =
    let grouped = sym (append_assoc (record_bytes big r) (flat_map (record_bytes big) rs) x) ∙ (same ∙ append_assoc (record_bytes big s) (flat_map (record_bytes big) ss) y) in
    let one = one_record big r s (flat_map (record_bytes big) rs ++ x) (flat_map (record_bytes big) ss ++ y) rs_are.0 ss_are.0 grouped in
    let others = one_list big rs ss x y rs_are.1 ss_are.1 x_ends y_ends one.rest in
    let first = one.items in
    let behind = others.items in
    record { items = cc; rest = others.rest }
