-- What the fields of a packet say after one of them is set.
use Rattle.std.proofs.Common.{◌≡◌, ◌≢◌, ℕ, ◌+◌, ◌-◌, ◌*◌, ◌^◌, ◌<◌, ◌≤◌, ◌⊎◌, ◌&&◌, ◌==◌, nat_le, Bool, true, false, List, length, refl, sym, ap, ◌∙◌, inl, inr, arith, Option, Some, None, unwrap_or, cond}
use Rattle.std.proofs.lemmas.Bool.{true≢false}
use Rattle.std.specs.Option.{option_map}
use Rattle.packet_fields.specs.declared.field.Field.{Field}
use Rattle.packet_fields.specs.declared.field.Field.TheVariants.{EthType, IpVersion, IpIhl, IpFrag, IpProto}
use Rattle.packet_fields.specs.declared.shape.Shape.{Shape}
use Rattle.packet_fields.specs.Bits.{number_at, with_number_at}
use Rattle.packet_fields.specs.Fields.{place, meta_value, field_value, with_field}
use Rattle.packet_fields.specs.Shape.{outline_of, in_header, has_tag, network_start, network_type, shape_from, shape_of, start_of}
use Rattle.packet_fields.specs.Table.{row}
use Rattle.packet_fields.proofs.BitRows.{length-with_number_at, number_at-with_same, number_at-with_apart}
use Rattle.packet_fields.proofs.Places.{Stands, stands_in, network_of, network_in, Spot, spot, is_at, fields_apart, field_and_type, header_ends, place_within, none_overlap}

-- ---- in the packet
pub start_near : (shape : Shape) (bytes : List ℕ) (f : Field) (start : ℕ) → shape ≡ shape_of bytes → start_of shape (row f).header ≡ Some start → start ≤ length bytes
start_near shape bytes f start is there =
    let here : start_of (shape_of bytes) (row f).header ≡ Some start = sym (ap (λ (x : Shape). start_of x (row f).header) is) ∙ there in
    omega (arith, header_ends (shape_of bytes) (length bytes) (stands_in bytes) (row f).header start here)

pub place_within_packet : (shape : Shape) (bytes : List ℕ) (f : Field) (first width : ℕ) → shape ≡ shape_of bytes → Some first ≡ place shape f → width ≡ (row f).width → first + width ≤ 8 * length bytes
place_within_packet shape bytes f first width is at w =
    omega (arith, w, place_within (shape_of bytes) (length bytes) f first (stands_in bytes) (sym (at ∙ ap (λ (x : Shape). place x f) is)))

-- ---- a field set at its place
pub value_there : (bytes : List ℕ) (port : ℕ) (f : Field) (first : ℕ) → place (shape_of bytes) f ≡ Some first → field_value bytes port f ≡ number_at bytes first (row f).width
unfolding field_value
value_there bytes port f first at = ap (λ o. unwrap_or (option_map (λ first. number_at bytes first (row f).width) o) (meta_value (length bytes) (shape_of bytes) port f)) at

pub value_absent : (bytes : List ℕ) (port : ℕ) (f : Field) → place (shape_of bytes) f ≡ None → field_value bytes port f ≡ meta_value (length bytes) (shape_of bytes) port f
unfolding field_value
value_absent bytes port f at = ap (λ o. unwrap_or (option_map (λ first. number_at bytes first (row f).width) o) (meta_value (length bytes) (shape_of bytes) port f)) at

-- a number of the outline, which stands in no field that may be written
outline_field : (bytes : List ℕ) (f g : Field) (first value start : ℕ) → place (shape_of bytes) f ≡ Some first → f ≢ g → Spot (shape_of bytes) (row g).header start
    → in_header (with_number_at bytes first (row f).width value) start g ≡ in_header bytes start g
outline_field bytes f g first value start at other would =
    let ok : Stands (shape_of bytes) (length bytes) = stands_in bytes in
    let is = is_at (shape_of bytes) f first at in
    let apart = fields_apart (shape_of bytes) (length bytes) ok f g is.0 start other (spot (shape_of bytes) (length bytes) ok (row f).header is.0 is.1.there) would in
    let moved : (first + (row f).width ≤ 8 * start + (row g).at) ⊎ (8 * start + (row g).at + (row g).width ≤ first) = elim apart [ inl x ↦ inl (omega (arith, is.1.is)) | inr x ↦ inr (omega (arith, is.1.is)) ] in
    number_at-with_apart bytes first (row f).width value (8 * start + (row g).at) (row g).width moved

unlike : (f g : Field) → (row f).writable ≡ true → (row g).writable ≡ false → f ≢ g
unlike f g may never e = true≢false (sym may ∙ ap (λ (h : Field). (row h).writable) e ∙ never)

-- the network type, which stands in the Ethernet header or behind the VLAN tag
type_stays : (bytes : List ℕ) (f : Field) (first value : ℕ) → place (shape_of bytes) f ≡ Some first → (row f).writable ≡ true → (tagged : Bool) → has_tag bytes ≡ tagged
    → number_at (with_number_at bytes first (row f).width value) (8 * (cond tagged 18 14 - 2)) 16 ≡ number_at bytes (8 * (cond tagged 18 14 - 2)) 16
type_stays bytes f first value at may false is = outline_field bytes f EthType first value 0 at (unlike f EthType may refl) refl
type_stays bytes f first value at may true is =
    let ok : Stands (shape_of bytes) (length bytes) = stands_in bytes in
    let found = is_at (shape_of bytes) f first at in
    let behind : network_of (shape_of bytes) ≡ 18 = network_in bytes ∙ ap (λ tagged. cond tagged 18 14) is in
    let apart = field_and_type (shape_of bytes) (length bytes) ok behind f found.0 (spot (shape_of bytes) (length bytes) ok (row f).header found.0 found.1.there) in
    let moved : (first + (row f).width ≤ 128) ⊎ (128 + 16 ≤ first) = elim apart [ inl x ↦ inl (omega (arith, found.1.is)) | inr x ↦ inr (omega (arith, found.1.is)) ] in
    number_at-with_apart bytes first (row f).width value 128 16 moved

outline_stays : (bytes : List ℕ) (f : Field) (first value : ℕ) → place (shape_of bytes) f ≡ Some first → (row f).writable ≡ true → outline_of (with_number_at bytes first (row f).width value) ≡ outline_of bytes
outline_stays bytes f first value at may =
    let next = with_number_at bytes first (row f).width value in
    let start = sym (network_in bytes) in
    let a = length-with_number_at bytes first (row f).width value in
    let b = outline_field bytes f EthType first value 0 at (unlike f EthType may refl) refl in
    let tagged : has_tag next ≡ has_tag bytes = ap (λ n. nat_le 18 n && in_header next 0 EthType == 0x8100) a ∙ ap (λ n. nat_le 18 (length bytes) && n == 0x8100) b in
    let network : network_start next ≡ network_start bytes = ap (λ x. cond x 18 14) tagged in
    let type : network_type next ≡ network_type bytes = ap (λ n. number_at next (8 * (n - 2)) 16) network ∙ type_stays bytes f first value at may (has_tag bytes) refl in
    let field = λ (g : Field) (e : in_header next (network_start bytes) g ≡ in_header bytes (network_start bytes) g). let all : in_header next (network_start next) g ≡ in_header bytes (network_start bytes) g = ap (λ n. in_header next n g) network ∙ e in all in
    let c = field IpVersion (outline_field bytes f IpVersion first value (network_start bytes) at (unlike f IpVersion may refl) start) in
    let d = field IpIhl (outline_field bytes f IpIhl first value (network_start bytes) at (unlike f IpIhl may refl) start) in
    let e = field IpFrag (outline_field bytes f IpFrag first value (network_start bytes) at (unlike f IpFrag may refl) start) in
    let g = field IpProto (outline_field bytes f IpProto first value (network_start bytes) at (unlike f IpProto may refl) start) in
    cc

pub shape_stays : (bytes : List ℕ) (f : Field) (first value : ℕ) → place (shape_of bytes) f ≡ Some first → (row f).writable ≡ true → shape_of (with_number_at bytes first (row f).width value) ≡ shape_of bytes
unfolding shape_of
shape_stays bytes f first value at may = ap shape_from (outline_stays bytes f first value at may)

-- what a packet becomes in which a field was set
pub record IsSet (bytes next : List ℕ) (shape : Shape) (f : Field) (value : ℕ) : Type 0 where
  pub after : next ≡ with_field bytes f value
  pub reads : (port : ℕ) → field_value next port f ≡ value
  pub others : (g : Field) (port : ℕ) → g ≢ f → field_value next port g ≡ field_value bytes port g
  pub same_shape : shape_of next ≡ shape

pub with_field_there : (bytes : List ℕ) (f : Field) (first value : ℕ) → place (shape_of bytes) f ≡ Some first → with_field bytes f value ≡ with_number_at bytes first (row f).width value
unfolding with_field
with_field_there bytes f first value at = ap (λ o. unwrap_or (option_map (λ first. with_number_at bytes first (row f).width value) o) bytes) at

pub other_value : (bytes next : List ℕ) (f g : Field) (first value port : ℕ) → place (shape_of bytes) f ≡ Some first → f ≢ g → next ≡ with_number_at bytes first (row f).width value
    → shape_of next ≡ shape_of bytes → (o : Option ℕ) → place (shape_of bytes) g ≡ o → field_value next port g ≡ field_value bytes port g
other_value bytes next f g first value port at other is same None there =
    let len : length next ≡ length bytes = ap (λ (x : List ℕ). length x) is ∙ length-with_number_at bytes first (row f).width value in
    value_absent next port g (ap (λ x. place x g) same ∙ there)
    ∙ ap (λ x. meta_value x (shape_of next) port g) len ∙ ap (λ x. meta_value (length bytes) x port g) same ∙ sym (value_absent bytes port g there)
other_value bytes next f g first value port at other is same (Some second) there =
    value_there next port g second (ap (λ x. place x g) same ∙ there)
    ∙ ap (λ x. number_at x second (row g).width) is
    ∙ number_at-with_apart bytes first (row f).width value second (row g).width (none_overlap (shape_of bytes) bytes refl f g first second other at there)
    ∙ sym (value_there bytes port g second there)

pub field_set : (bytes next : List ℕ) (shape : Shape) (f : Field) (first width value : ℕ) → shape ≡ shape_of bytes → Some first ≡ place shape f → width ≡ (row f).width → (row f).writable ≡ true
    → value < 2 ^ (row f).width → next ≡ with_number_at bytes first width value → IsSet bytes next shape f value
field_set bytes next shape f first width value is_shape is_first is_width may fits written =
    let at : place (shape_of bytes) f ≡ Some first = sym (is_first ∙ ap (λ (x : Shape). place x f) is_shape) in
    let is : next ≡ with_number_at bytes first (row f).width value = written ∙ ap (λ w. with_number_at bytes first w value) is_width in
    let same : shape_of next ≡ shape_of bytes = ap (λ (x : List ℕ). shape_of x) is ∙ shape_stays bytes f first value at may in
    let within : first + (row f).width ≤ 8 * length bytes = place_within (shape_of bytes) (length bytes) f first (stands_in bytes) at in
    record {
      after = is ∙ sym (with_field_there bytes f first value at);
      reads = λ port. value_there next port f first (ap (λ (x : Shape). place x f) same ∙ at) ∙ ap (λ x. number_at x first (row f).width) is ∙ number_at-with_same bytes first (row f).width value within fits;
      others = λ g port other. other_value bytes next f g first value port at (λ e. other (sym e)) is same (place (shape_of bytes) g) refl;
      same_shape = same ∙ sym is_shape;
    }

-- nothing changes where the field isn't there
pub with_field_absent : (bytes : List ℕ) (shape : Shape) (f : Field) (value : ℕ) → shape ≡ shape_of bytes → None ≡ place shape f → bytes ≡ with_field bytes f value
unfolding with_field
with_field_absent bytes shape f value is_shape absent =
    sym (ap (λ o. unwrap_or (option_map (λ first. with_number_at bytes first (row f).width value) o) bytes) (sym (absent ∙ ap (λ (x : Shape). place x f) is_shape)))
