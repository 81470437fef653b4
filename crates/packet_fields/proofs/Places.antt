-- Where the fields of a packet are: no two that are there overlap.
use Rattle.std.proofs.Common.{◌≡◌, ◌≢◌, ℕ, ◌+◌, ◌*◌, ◌≤◌, ◌⊎◌, ◌||◌, ◌==◌, Bool, true, false, not, cond, List, length, nat_le, refl, sym, inl, inr, arith, lit≤, subst, ap, ◌∙◌, Option, Some, None, is_some}
use Rattle.std.proofs.lemmas.Bool.{leb-true, and_parts}
use Rattle.std.proofs.lemmas.Bool.Decides.{nat_tests}
use Rattle.std.proofs.lemmas.Option.{cond_some}
use Rattle.std.specs.Option.{option_map}
use Rattle.packet_fields.specs.declared.field.Field.{Field}
use Rattle.packet_fields.specs.declared.field.Header.{Header}
use Rattle.packet_fields.specs.declared.field.Header.TheVariants.{Meta, Ethernet, Vlan, Ip, Tcp, Udp}
use Rattle.packet_fields.specs.declared.shape.Shape.{Shape}
use Rattle.packet_fields.specs.Fields.{place, NoneOverlap}
use Rattle.packet_fields.specs.Shape.{Outline, outline_of, network_start, after_ip, has_ip, carries, shape_from, shape_of, start_of}
use Rattle.packet_fields.specs.Table.{row, all_fields, field_index}
use Rattle.packet_fields.specs.FieldOrder.{same_index, each_of, of_each, of_each_pair}

-- ---- within a header
abbrev pub header_rank : Header → ℕ
header_rank Meta = 0
header_rank Ethernet = 1
header_rank Vlan = 2
header_rank Ip = 3
header_rank Tcp = 4
header_rank Udp = 5

-- how many bits of a header the fields are in
abbrev pub header_bits : Header → ℕ
header_bits Ethernet = 112
header_bits Ip = 160
header_bits Tcp = 160
header_bits Udp = 64
header_bits _ = 16

abbrev pub is_within : Field → Bool
is_within f = nat_le ((row f).at + (row f).width) (header_bits (row f).header)

all_within : each_of is_within all_fields ≡ true
unfolding all_fields
all_within = refl

pub within_header : (f : Field) → (row f).at + (row f).width ≤ header_bits (row f).header
within_header f = leb-true _ _ (of_each is_within all_within f)

header_bits-le : (h : Header) → header_bits h ≤ 160
header_bits-le Meta = lit≤ tt
header_bits-le _ = lit≤ tt

pub first_bit_near : (f : Field) → (row f).at ≤ 160
first_bit_near f = omega (arith, within_header f, header_bits-le (row f).header)

-- two fields are one, or in different headers, or in none, or the first ends before the second, or the second before the first
abbrev pub are_apart : Field → Field → Bool
are_apart f g = field_index f == field_index g || not (header_rank (row f).header == header_rank (row g).header) || header_rank (row f).header == 0
    || nat_le ((row f).at + (row f).width) (row g).at || nat_le ((row g).at + (row g).width) (row f).at

all_apart : each_of (λ f. each_of (are_apart f) all_fields) all_fields ≡ true
unfolding all_fields
all_apart = refl

apart_by_test : (i j h k a b c d : ℕ) → (i == j || not (h == k) || h == 0 || nat_le a b || nat_le c d) ≡ true → i ≢ j → h ≡ k → h ≢ 0 → (a ≤ b) ⊎ (c ≤ d)
apart_by_test i j h k a b c d test other same some = grind (arith, nat_tests)

apart_in_header : (f g : Field) → f ≢ g → header_rank (row f).header ≢ 0 → header_rank (row f).header ≡ header_rank (row g).header
    → ((row f).at + (row f).width ≤ (row g).at) ⊎ ((row g).at + (row g).width ≤ (row f).at)
apart_in_header f g other some same =
    apart_by_test (field_index f) (field_index g) (header_rank (row f).header) (header_rank (row g).header) ((row f).at + (row f).width) (row g).at ((row g).at + (row g).width) (row f).at
    (of_each_pair are_apart all_apart f g) (λ e. other (same_index f g e)) same some

-- ---- the headers of a packet
-- where the network header starts, or would
abbrev pub network_of : Shape → ℕ
network_of shape = cond (is_some shape.vlan) 18 14

-- the starts of the headers that are there, in a packet of so many bytes
pub record Stands (shape : Shape) (bytes : ℕ) : Type 0 where
  pub ethernet : (s : ℕ) → shape.ethernet ≡ Some s → (s ≡ 0) × (14 ≤ bytes)
  pub vlan : (s : ℕ) → shape.vlan ≡ Some s → (s ≡ 14) × (18 ≤ bytes) × (network_of shape ≡ 18)
  pub behind : 14 ≤ network_of shape
  pub ip : (s : ℕ) → shape.ip ≡ Some s → (s ≡ network_of shape) × (s + 20 ≤ bytes)
  pub tcp : (s : ℕ) → shape.tcp ≡ Some s → (network_of shape + 20 ≤ s) × (s ≤ bytes) × (s + 20 ≤ bytes)
  pub udp : (s : ℕ) → shape.udp ≡ Some s → (network_of shape + 20 ≤ s) × (s ≤ bytes) × (s + 8 ≤ bytes)
  pub apart : (s t : ℕ) → shape.tcp ≡ Some s → shape.udp ≡ Some t → ⊥

pub ip_facts : (o : Outline) → has_ip o ≡ true → (o.network + 20 ≤ o.bytes) × (o.network + 20 ≤ after_ip o) × (after_ip o ≤ o.bytes)
ip_facts o test = grind (arith, nat_tests)

next_facts : (o : Outline) (protocol bytes : ℕ) → carries o protocol bytes ≡ true → (o.network + 20 ≤ after_ip o) × (after_ip o + bytes ≤ o.bytes) × (o.protocol ≡ protocol)
next_facts o protocol bytes test = grind (arith, nat_tests)

-- the network header starts behind the tag, if there is one, and the packet holds the tag
record IsSound (o : Outline) : Type 0 where
  start : o.network ≡ cond o.tagged 18 14
  held : o.tagged ≡ true → 18 ≤ o.bytes

tag_facts : (tagged : Bool) (s : ℕ) → cond tagged (Some 14) None ≡ Some s → (s ≡ 14) × (tagged ≡ true)
tag_facts tagged s there = let test = cond_some tagged 14 s there in (omega (arith, test.1), test.0)

is_some-cond : (tagged : Bool) → is_some {T = ℕ} (cond tagged (Some 14) None) ≡ tagged
is_some-cond true = refl
is_some-cond false = refl

start-le : (tagged : Bool) → 14 ≤ cond tagged 18 14
start-le true = lit≤ tt
start-le false = lit≤ tt

network_from : (o : Outline) → IsSound o → network_of (shape_from o) ≡ o.network
unfolding shape_from
network_from o sound = ap (λ tagged. cond tagged 18 14) (is_some-cond o.tagged) ∙ sym sound.start

stands : (o : Outline) → IsSound o → Stands (shape_from o) o.bytes
unfolding shape_from
stands o sound =
    let network = network_from o sound in
    let next = λ (protocol bytes s : ℕ) (there : cond (carries o protocol bytes) (Some (after_ip o)) None ≡ Some s).
    let test = cond_some (carries o protocol bytes) (after_ip o) s there in
    let facts = next_facts o protocol bytes test.0 in
    let all : (network_of (shape_from o) + 20 ≤ s) × (s ≤ o.bytes) × (s + bytes ≤ o.bytes) = (omega (arith, network, facts, test.1), omega (arith, facts, test.1), omega (arith, facts, test.1)) in all in
    record {
      ethernet = λ s there. let test = cond_some (nat_le 14 o.bytes) 0 s there in (omega (arith, test.1), leb-true 14 o.bytes test.0);
      vlan = λ s there. let test = tag_facts o.tagged s there in (test.0, sound.held test.1, network ∙ sound.start ∙ ap (λ tagged. cond tagged 18 14) test.1);
      behind = subst (λ n. 14 ≤ n) (sym (network ∙ sound.start)) (start-le o.tagged);
      ip = λ s there. let test = cond_some (has_ip o) o.network s there in (omega (arith, network, test.1), omega (arith, test.1, (ip_facts o test.0).0));
      tcp = λ s there. next 6 20 s there;
      udp = λ s there. next 17 8 s there;
      apart = λ s t tcp udp.
          let one = next_facts o 6 20 (cond_some (carries o 6 20) (after_ip o) s tcp).0 in
          let other = next_facts o 17 8 (cond_some (carries o 17 8) (after_ip o) t udp).0 in
          absurd (omega (arith, one.2, other.2));
    }

sound_of : (bytes : List ℕ) → IsSound (outline_of bytes)
sound_of bytes = record { start = refl; held = λ test. leb-true 18 (length bytes) (and_parts (nat_le 18 (length bytes)) _ test).0 }

pub stands_in : (bytes : List ℕ) → Stands (shape_of bytes) (length bytes)
unfolding shape_of
stands_in bytes = stands (outline_of bytes) (sound_of bytes)

pub network_in : (bytes : List ℕ) → network_of (shape_of bytes) ≡ network_start bytes
unfolding shape_of
network_in bytes = network_from (outline_of bytes) (sound_of bytes)

-- where a header is, or would be
abbrev pub Spot : Shape → Header → ℕ → Type 0
Spot shape Meta s = ⊥
Spot shape Ethernet s = s ≡ 0
Spot shape Vlan s = (s ≡ 14) × (network_of shape ≡ 18)
Spot shape Ip s = s ≡ network_of shape
Spot shape Tcp s = shape.tcp ≡ Some s
Spot shape Udp s = shape.udp ≡ Some s

pub spot : (shape : Shape) (bytes : ℕ) → Stands shape bytes → (h : Header) (s : ℕ) → start_of shape h ≡ Some s → Spot shape h s
spot shape bytes ok Meta s there = cc
spot shape bytes ok Ethernet s there = (ok.ethernet s there).0
spot shape bytes ok Vlan s there = let at = ok.vlan s there in (at.0, at.2)
spot shape bytes ok Ip s there = (ok.ip s there).0
spot shape bytes ok _ s there = there

pub header_ends : (shape : Shape) (bytes : ℕ) → Stands shape bytes → (h : Header) (s : ℕ) → start_of shape h ≡ Some s → 8 * s + header_bits h ≤ 8 * bytes
header_ends shape bytes ok Meta s there = cc
header_ends shape bytes ok Ethernet s there = omega (arith, ok.ethernet s there)
header_ends shape bytes ok Vlan s there = omega (arith, ok.vlan s there)
header_ends shape bytes ok Ip s there = omega (arith, ok.ip s there)
header_ends shape bytes ok Tcp s there = omega (arith, ok.tcp s there)
header_ends shape bytes ok Udp s there = omega (arith, ok.udp s there)

-- w bits of one header, and u bits of one
spots_apart : (shape : Shape) (bytes : ℕ) → Stands shape bytes → (h k : Header) (s t a w b u : ℕ) → Spot shape h s → Spot shape k t → a + w ≤ header_bits h → b + u ≤ header_bits k
    → (header_rank h ≡ header_rank k → (a + w ≤ b) ⊎ (b + u ≤ a)) → (8 * s + a + w ≤ 8 * t + b) ⊎ (8 * t + b + u ≤ 8 * s + a)
spots_apart shape bytes ok Meta k s t a w b u p q x y d = absurd p
spots_apart shape bytes ok Ethernet Meta s t a w b u p q x y d = absurd q
spots_apart shape bytes ok Ethernet Ethernet s t a w b u p q x y d = elim (d refl) [ inl e ↦ inl (omega arith) | inr e ↦ inr (omega arith) ]
spots_apart shape bytes ok Ethernet Vlan s t a w b u p q x y d = inl (omega (arith, q))
spots_apart shape bytes ok Ethernet Ip s t a w b u p q x y d = inl (omega (arith, ok.behind))
spots_apart shape bytes ok Ethernet Tcp s t a w b u p q x y d = inl (omega (arith, ok.tcp t q, ok.behind))
spots_apart shape bytes ok Ethernet Udp s t a w b u p q x y d = inl (omega (arith, ok.udp t q, ok.behind))
spots_apart shape bytes ok Vlan Meta s t a w b u p q x y d = absurd q
spots_apart shape bytes ok Vlan Ethernet s t a w b u p q x y d = inr (omega (arith, p))
spots_apart shape bytes ok Vlan Vlan s t a w b u p q x y d = elim (d refl) [ inl e ↦ inl (omega (arith, p, q)) | inr e ↦ inr (omega (arith, p, q)) ]
spots_apart shape bytes ok Vlan Ip s t a w b u p q x y d = inl (omega (arith, p, ok.behind))
spots_apart shape bytes ok Vlan Tcp s t a w b u p q x y d = inl (omega (arith, p, ok.tcp t q, ok.behind))
spots_apart shape bytes ok Vlan Udp s t a w b u p q x y d = inl (omega (arith, p, ok.udp t q, ok.behind))
spots_apart shape bytes ok Ip Meta s t a w b u p q x y d = absurd q
spots_apart shape bytes ok Ip Ethernet s t a w b u p q x y d = inr (omega (arith, ok.behind))
spots_apart shape bytes ok Ip Vlan s t a w b u p q x y d = inr (omega (arith, q, ok.behind))
spots_apart shape bytes ok Ip Ip s t a w b u p q x y d = elim (d refl) [ inl e ↦ inl (omega arith) | inr e ↦ inr (omega arith) ]
spots_apart shape bytes ok Ip Tcp s t a w b u p q x y d = inl (omega (arith, ok.tcp t q, ok.behind))
spots_apart shape bytes ok Ip Udp s t a w b u p q x y d = inl (omega (arith, ok.udp t q, ok.behind))
spots_apart shape bytes ok Tcp Meta s t a w b u p q x y d = absurd q
spots_apart shape bytes ok Tcp Ethernet s t a w b u p q x y d = inr (omega (arith, ok.tcp s p, ok.behind))
spots_apart shape bytes ok Tcp Vlan s t a w b u p q x y d = inr (omega (arith, ok.tcp s p, q, ok.behind))
spots_apart shape bytes ok Tcp Ip s t a w b u p q x y d = inr (omega (arith, ok.tcp s p, ok.behind))
spots_apart shape bytes ok Tcp Tcp s t a w b u p q x y d = let one : s ≡ t = cc in elim (d refl) [ inl e ↦ inl (omega arith) | inr e ↦ inr (omega arith) ]
spots_apart shape bytes ok Tcp Udp s t a w b u p q x y d = absurd (ok.apart s t p q)
spots_apart shape bytes ok Udp Meta s t a w b u p q x y d = absurd q
spots_apart shape bytes ok Udp Ethernet s t a w b u p q x y d = inr (omega (arith, ok.udp s p, ok.behind))
spots_apart shape bytes ok Udp Vlan s t a w b u p q x y d = inr (omega (arith, ok.udp s p, q, ok.behind))
spots_apart shape bytes ok Udp Ip s t a w b u p q x y d = inr (omega (arith, ok.udp s p, ok.behind))
spots_apart shape bytes ok Udp Tcp s t a w b u p q x y d = absurd (ok.apart t s q p)
spots_apart shape bytes ok Udp Udp s t a w b u p q x y d = let one : s ≡ t = cc in elim (d refl) [ inl e ↦ inl (omega arith) | inr e ↦ inr (omega arith) ]

in_some_header : (shape : Shape) (h : Header) (s : ℕ) → Spot shape h s → header_rank h ≢ 0
in_some_header shape Meta s p = absurd p
in_some_header shape _ s p = λ e. absurd (omega arith)

-- the bits of two fields, each at a start where its header is or would be
pub fields_apart : (shape : Shape) (bytes : ℕ) → Stands shape bytes → (f g : Field) (s t : ℕ) → f ≢ g → Spot shape (row f).header s → Spot shape (row g).header t
    → (8 * s + (row f).at + (row f).width ≤ 8 * t + (row g).at) ⊎ (8 * t + (row g).at + (row g).width ≤ 8 * s + (row f).at)
fields_apart shape bytes ok f g s t other p q =
    spots_apart shape bytes ok (row f).header (row g).header s t (row f).at (row f).width (row g).at (row g).width p q (within_header f) (within_header g)
    (λ same. apart_in_header f g other (in_some_header shape (row f).header s p) same)

-- the network type behind a VLAN tag, and w bits of a header
type_apart : (shape : Shape) (bytes : ℕ) → Stands shape bytes → network_of shape ≡ 18 → (h : Header) (s a w : ℕ) → Spot shape h s → a + w ≤ header_bits h → (8 * s + a + w ≤ 128) ⊎ (144 ≤ 8 * s + a)
type_apart shape bytes ok tagged Meta s a w p x = absurd p
type_apart shape bytes ok tagged Ethernet s a w p x = inl (omega arith)
type_apart shape bytes ok tagged Vlan s a w p x = inl (omega (arith, p))
type_apart shape bytes ok tagged Ip s a w p x = inr (omega arith)
type_apart shape bytes ok tagged Tcp s a w p x = inr (omega (arith, ok.tcp s p))
type_apart shape bytes ok tagged Udp s a w p x = inr (omega (arith, ok.udp s p))

pub field_and_type : (shape : Shape) (bytes : ℕ) → Stands shape bytes → network_of shape ≡ 18 → (f : Field) (s : ℕ) → Spot shape (row f).header s
    → (8 * s + (row f).at + (row f).width ≤ 128) ⊎ (144 ≤ 8 * s + (row f).at)
field_and_type shape bytes ok tagged f s p = type_apart shape bytes ok tagged (row f).header s (row f).at (row f).width p (within_header f)

-- ---- places
-- a field that is there, at its first bit
pub record IsAt (shape : Shape) (f : Field) (first start : ℕ) : Type 0 where
  pub there : start_of shape (row f).header ≡ Some start
  pub is : first ≡ 8 * start + (row f).at

map_some : (o : Option ℕ) (a first : ℕ) → option_map (λ start. 8 * start + a) o ≡ Some first → (start : ℕ) × (o ≡ Some start) × (first ≡ 8 * start + a)
map_some None a first e = cc
map_some (Some start) a first e = (start, refl, (cc))

pub is_at : (shape : Shape) (f : Field) (first : ℕ) → place shape f ≡ Some first → (start : ℕ) × IsAt shape f first start
unfolding place
is_at shape f first e =
    let found = map_some (start_of shape (row f).header) (row f).at first e in
    (found.0, record { there = found.1; is = found.2 })

pub place_within : (shape : Shape) (bytes : ℕ) (f : Field) (first : ℕ) → Stands shape bytes → place shape f ≡ Some first → first + (row f).width ≤ 8 * bytes
place_within shape bytes f first ok e =
    let at = is_at shape f first e in
    omega (arith, at.1.is, within_header f, header_ends shape bytes ok (row f).header at.0 at.1.there)

pub none_overlap : (shape : Shape) (bytes : List ℕ) → shape ≡ shape_of bytes → NoneOverlap shape
none_overlap shape bytes is f g i j other here there =
    let ok : Stands shape (length bytes) = subst (λ (x : Shape). Stands x (length bytes)) (sym is) (stands_in bytes) in
    let one = is_at shape f i here in
    let two = is_at shape g j there in
    elim (fields_apart shape (length bytes) ok f g one.0 two.0 other (spot shape (length bytes) ok (row f).header one.0 one.1.there) (spot shape (length bytes) ok (row g).header two.0 two.1.there)) [
      | inl before ↦ inl (omega (arith, one.1.is, two.1.is))
      | inr behind ↦ inr (omega (arith, one.1.is, two.1.is))
    ]
