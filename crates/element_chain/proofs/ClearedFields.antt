-- What is cleared between two elements: behind it every field reads as it does in the packet that was sent.
use Rattle.std.proofs.Common.{◌≡◌, ◌≢◌, ◌⊎◌, ℕ, ◌+◌, ◌*◌, ◌<◌, ◌≤◌, ◌%◌, ◌^◌, ◌==◌, ◌&&◌, Bool, true, false, cond, List, [], ◌∷◌, length, nat_le, nat_lt, refl, sym, ap, ◌∙◌, subst, arith, slice_index, true≢false, Option, Some, None, is_some, IsSome, mod-eq_of_lt, inl, inr, ⊎_elim, eq-eqb}
use Rattle.std.specs.List.{list_any, filter}
use Rattle.std.specs.Option.{option_map}
use Rattle.std.proofs.lemmas.Bool.{and_from, eqb-true, cases_eq, cases_lt, false_from_ne_true, or_from, or_left, or_right}
use Rattle.std.proofs.lemmas.Map.Views.{any-filter_same}
use Rattle.std.proofs.lemmas.Grind.{get_or-set_at}
use Rattle.std.proofs.lemmas.Nat.{pow_pos}
use Rattle.std.proofs.lemmas.Bool.Decides.{nat_tests}
use Rattle.std.proofs.lemmas.List.{length-set, get_or-set_other}
use Rattle.gal_bits.specs.declared.op.Op.TheVariants.{And, Eq, Lt, Select}
use Rattle.gal_bits.specs.Operators.{value_of as operator_value}
use Rattle.packet_fields.specs.declared.field.Field.{Field}
use Rattle.packet_fields.specs.declared.field.Field.TheVariants.{MetaPort, MetaLen, EthType, HasIp, HasTcp, HasUdp}
use Rattle.packet_fields.specs.declared.field.Header.{Header}
use Rattle.packet_fields.specs.declared.field.Header.TheVariants.{Meta, Ethernet, Vlan, Ip, Tcp, Udp}
use Rattle.packet_fields.specs.declared.packet.Packet.{Packet}
use Rattle.packet_fields.specs.declared.shape.Shape.{Shape}
use Rattle.packet_fields.specs.Fields.{place, meta_value, field_value}
use Rattle.packet_fields.specs.Shape.{shape_of, shape_from, start_of, has_tag, in_header}
use Rattle.packet_fields.specs.Table.{row, all_fields, field_index}
use Rattle.element_lang.specs.Meaning.{State, Running, value_of, assigned, with_fields, do_body}
use Rattle.element_chain.specs.Compose.{clearing, kept_where}
use Rattle.packet_fields.specs.FieldOrder.{same_index, index-lt}
use Rattle.packet_fields.proofs.SetFields.{value_absent, value_there}
use Rattle.packet_fields.proofs.FieldLists.{Has, each_there}
use Rattle.element_chain.proofs.Sent.{sent_shape, sent_length, sent_fixed, sent_there, absent_value, other_port, written_behind_port}
use Rattle.lemmas.proofs.Tests.{and_false, and_true}

-- ## operators
bit_fits : (b : Bool) → cond b 1 0 % 2 ^ 1 ≡ cond b 1 0
bit_fits true = refl
bit_fits false = refl

pub eq_value : (x y : ℕ) → operator_value Eq 1 (x ∷ y ∷ []) ≡ cond (x == y) 1 0
unfolding operator_value
eq_value x y = bit_fits (x == y)

lt_value : (x y : ℕ) → operator_value Lt 1 (x ∷ y ∷ []) ≡ cond (nat_lt x y) 1 0
unfolding operator_value
lt_value x y = bit_fits (nat_lt x y)

select_value : (w c x y : ℕ) → operator_value Select w (c ∷ x ∷ y ∷ []) ≡ cond (c == 1) x y % 2 ^ w
unfolding operator_value
select_value w c x y = refl

and_value : (a b : Bool) → operator_value And 1 (cond a 1 0 ∷ cond b 1 0 ∷ []) ≡ cond (a && b) 1 0
unfolding operator_value
and_value true true = refl
and_value true false = refl
and_value false true = refl
and_value false false = refl

-- ## whether a header is there
some_mapped : (o : Option ℕ) (g : ℕ → ℕ) → is_some o ≡ true → IsSome (option_map g o)
some_mapped None g e = absurd (true≢false (sym e))
some_mapped (Some x) g e = refl

none_mapped : (o : Option ℕ) (g : ℕ → ℕ) → is_some o ≡ false → option_map g o ≡ None
none_mapped None g e = refl
none_mapped (Some x) g e = absurd (true≢false e)

there_place : (shape : Shape) (f : Field) → is_some (start_of shape (row f).header) ≡ true → IsSome (place shape f)
unfolding place
there_place shape f e = some_mapped (start_of shape (row f).header) (λ start. 8 * start + (row f).at) e

absent_place : (shape : Shape) (f : Field) → is_some (start_of shape (row f).header) ≡ false → place shape f ≡ None
unfolding place
absent_place shape f e = none_mapped (start_of shape (row f).header) (λ start. 8 * start + (row f).at) e

some_at : (o : Option ℕ) (x : ℕ) → o ≡ Some x → IsSome o
some_at o x e = ap (λ (p : Option ℕ). is_some p) e

pub no_place : (shape : Shape) (f : Field) → (row f).header ≡ Meta → place shape f ≡ None
no_place shape f e = absent_place shape f (ap (λ (h : Header). is_some (start_of shape h)) e)

some_if : (b : Bool) (x : ℕ) → is_some (cond b (Some x) None) ≡ b
some_if true x = refl
some_if false x = refl

long_enough : (bytes : List ℕ) → is_some (shape_of bytes).ethernet ≡ nat_le 14 (length bytes)
unfolding shape_of shape_from
long_enough bytes = some_if (nat_le 14 (length bytes)) 0

tag_there : (bytes : List ℕ) → is_some (shape_of bytes).vlan ≡ has_tag bytes
unfolding shape_of shape_from
tag_there bytes = some_if (has_tag bytes) 14

type_place : (bytes : List ℕ) → nat_le 14 (length bytes) ≡ true → place (shape_of bytes) EthType ≡ Some (8 * 0 + 96)
unfolding place shape_of shape_from
type_place bytes e = ap (λ (b : Bool). option_map (λ start. 8 * start + 96) (cond b (Some 0) None)) e

-- the type and the length tell whether a tag is there
tag_told : (bytes : List ℕ) (port : ℕ) → (field_value bytes port EthType == 0x8100 && nat_lt 17 (length bytes)) ≡ has_tag bytes
tag_told bytes port = ⊎_elim short long (cases_lt (length bytes) 18)
  where
    swapped : (a b : Bool) → (a && b) ≡ (b && a)
    swapped true b = sym (and_true b)
    swapped false b = sym (and_false b)

    short : length bytes < 18 → (field_value bytes port EthType == 0x8100 && nat_lt 17 (length bytes)) ≡ has_tag bytes
    short lt =
        let no : nat_lt 17 (length bytes) ≡ false = grind (arith, nat_tests, lt) in
        let none_here : nat_le 18 (length bytes) ≡ false = grind (arith, nat_tests, lt) in
        ap (λ b. field_value bytes port EthType == 0x8100 && b) no ∙ and_false (field_value bytes port EthType == 0x8100)
        ∙ sym (ap (λ b. b && (in_header bytes 0 EthType == 0x8100)) none_here)

    long : 18 ≤ length bytes → (field_value bytes port EthType == 0x8100 && nat_lt 17 (length bytes)) ≡ has_tag bytes
    long le =
        let enough : nat_le 14 (length bytes) ≡ true = grind (arith, nat_tests, le) in
        let yes_here : nat_le 18 (length bytes) ≡ true = grind (arith, nat_tests, le) in
        let more : nat_lt 17 (length bytes) ≡ true = grind (arith, nat_tests, le) in
        ap (λ v. v == 0x8100 && nat_lt 17 (length bytes)) (value_there bytes port EthType (8 * 0 + 96) (type_place bytes enough))
        ∙ ap (λ b. in_header bytes 0 EthType == 0x8100 && b) (more ∙ sym yes_here)
        ∙ swapped (in_header bytes 0 EthType == 0x8100) (nat_le 18 (length bytes))

written_header : (f : Field) → (row f).writable ≡ true → (row f).header ≡ Meta → ⊥
written_header MetaPort may e = cc
written_header _ may e = cc

kept_if : (b : Bool) (w own : ℕ) (zero : ℕ) → (b ≡ true → own < 2 ^ w) → cond (cond b 1 0 == 1) own 0 % 2 ^ w ≡ cond b own 0
kept_if true w own z fits = mod-eq_of_lt (fits refl)
kept_if false w own z fits = mod-eq_of_lt (pow_pos w)

lost_if : (b : Bool) (w own : ℕ) → (b ≡ false → own < 2 ^ w) → cond (cond b 1 0 == 1) 0 own % 2 ^ w ≡ cond b 0 own
lost_if true w own fits = mod-eq_of_lt (pow_pos w)
lost_if false w own fits = mod-eq_of_lt (fits refl)

-- ## which fields are listed
is_listed : (fs : List Field) (g : Field) → Has g fs → list_any (λ h. field_index h == field_index g) fs ≡ true
is_listed [] g there = absurd there
is_listed (f ∷ fs) g there =
    ⊎_elim (λ here. or_left (field_index f == field_index g) _ (eq-eqb (field_index f) (field_index g) (ap field_index here)))
    (λ later. or_right (field_index f == field_index g) _ (is_listed fs g later)) there

pub listed : (is : Field → Bool) (fs : List Field) (g : Field)
    → list_any (λ h. field_index h == field_index g) (filter is fs) ≡ (is g && list_any (λ h. field_index h == field_index g) fs)
listed is fs g =
    any-filter_same (λ (h : Field). field_index h == field_index g) is (is g) (λ h e. ap is (same_index h g (eqb-true (field_index h) (field_index g) e))) fs

-- ## one element behind another
-- bytes that an element was sent, whose fields were written with these values, and which come to this port
module _ (widths : List ℕ) (whole : Packet) (is_set : Field → Bool) (only : (f : Field) → is_set f ≡ true → (row f).writable ≡ true) (values : List ℕ) (port : ℕ)
    (fit : (f : Field) → (row f).writable ≡ true → slice_index values (field_index f) < 2 ^ (row f).width) where
  abbrev pub sent : List ℕ
  sent = with_fields all_fields values whole.bytes

  abbrev pub reads : Field → ℕ
  reads f = field_value sent port f

  -- fields that are there, and those that no clearing statement waits for, read as in the packet that was sent
  abbrev pub Cleared : List Field → List ℕ → Type 0
  Cleared waiting fields = (g : Field) → field_index g ≢ 0 → (IsSome (place (shape_of whole.bytes) g) ⊎ (list_any (λ h. field_index h == field_index g) waiting ≡ false)) → slice_index fields (field_index g) ≡ reads g

  there_as_written : (f : Field) → (row f).writable ≡ true → IsSome (place (shape_of whole.bytes) f) → slice_index values (field_index f) ≡ reads f
  there_as_written f may there = sym (sent_there values whole.bytes f port may (fit f may) there)

  absent_reads : (f : Field) → (row f).writable ≡ true → place (shape_of whole.bytes) f ≡ None → reads f ≡ 0
  absent_reads f may none = absent_value sent port f may (ap (λ (s : Shape). place s f) (sent_shape values whole.bytes) ∙ none)

  fixed_reads : (f : Field) → (row f).writable ≡ false → field_index f ≢ 0 → field_value whole.bytes whole.port f ≡ reads f
  fixed_reads f never other = other_port whole.bytes whole.port port f other ∙ sym (sent_fixed values whole.bytes f port never)

  -- ### before
  unset_reads : (f : Field) (w : Bool) (o : Option ℕ) → (row f).writable ≡ w → place (shape_of whole.bytes) f ≡ o → field_index f ≢ 0 → slice_index values (field_index f) ≡ field_value whole.bytes whole.port f
      → slice_index values (field_index f) ≡ reads f
  unset_reads f false o is at other unset = unset ∙ fixed_reads f is other
  unset_reads f true None is at other unset = unset ∙ absent_value whole.bytes whole.port f is at ∙ sym (absent_reads f is at)
  unset_reads f true (Some first) is at other unset = there_as_written f is (some_at (place (shape_of whole.bytes) f) first at)

  there_reads : (f : Field) (w : Bool) → (row f).writable ≡ w → IsSome (place (shape_of whole.bytes) f) → field_index f ≢ 0 → (w ≡ false → slice_index values (field_index f) ≡ field_value whole.bytes whole.port f)
      → slice_index values (field_index f) ≡ reads f
  there_reads f true is there other unset = there_as_written f is there
  there_reads f false is there other unset = unset refl ∙ fixed_reads f is other

  never_set : (f : Field) → (row f).writable ≡ false → is_set f ≡ false
  never_set f never = false_from_ne_true (is_set f) (λ e. true≢false (sym (only f e) ∙ never))

  unlisted : (g : Field) → list_any (λ h. field_index h == field_index g) (filter is_set all_fields) ≡ false → is_set g ≡ false
  unlisted g e =
      false_from_ne_true (is_set g)
      (λ set. true≢false (sym (and_from _ _ set (is_listed all_fields g (each_there g))) ∙ sym (listed is_set all_fields g) ∙ e))

  pub before_clearing : ((f : Field) → is_set f ≡ false → slice_index values (field_index f) ≡ field_value whole.bytes whole.port f) → Cleared (filter is_set all_fields) values
  before_clearing unset g other why = elim why [
    | inl there ↦ there_reads g (row g).writable refl there other (λ never. unset g (never_set g never))
    | inr none ↦ unset_reads g (row g).writable (place (shape_of whole.bytes) g) refl refl other (unset g (unlisted g none))
  ]

  -- ### one statement
  abbrev AllWritable : List Field → Type 0
  AllWritable fs = (g : Field) → list_any (λ h. field_index h == field_index g) fs ≡ true → (row g).writable ≡ true

  fixed_waits_not : (fs : List Field) (g : Field) → AllWritable fs → (row g).writable ≡ false → list_any (λ h. field_index h == field_index g) fs ≡ false
  fixed_waits_not fs g may never = false_from_ne_true (list_any (λ h. field_index h == field_index g) fs) (λ e. true≢false (sym (may g e) ∙ never))

  flag_value : (g : Field) (b : Bool) → (row g).header ≡ Meta → meta_value (length sent) (shape_of sent) port g ≡ cond b 1 0 → reads g ≡ cond b 1 0
  flag_value g b is value = value_absent sent port g (no_place (shape_of sent) g is) ∙ value

  same_flag : (pick : Shape → Option ℕ) → cond {A = ℕ} (is_some (pick (shape_of sent))) 1 0 ≡ cond (is_some (pick (shape_of whole.bytes))) 1 0
  same_flag pick = ap (λ (s : Shape). cond {A = ℕ} (is_some (pick s)) 1 0) (sent_shape values whole.bytes)

  length_reads : reads MetaLen ≡ length whole.bytes
  length_reads = value_absent sent port MetaLen (no_place (shape_of sent) MetaLen refl) ∙ sent_length values whole.bytes

  -- a field's own value where its header is there, and else 0
  by_header : (f : Field) (there : Bool) (own : ℕ) → (row f).writable ≡ true → is_some (start_of (shape_of whole.bytes) (row f).header) ≡ there → (IsSome (place (shape_of whole.bytes) f) → own ≡ reads f) → cond there own 0 ≡ reads f
  by_header f true own may is same = same (there_place (shape_of whole.bytes) f is)
  by_header f false own may is same = sym (absent_reads f may (absent_place (shape_of whole.bytes) f is))

  flagged : (f g : Field) (pick : Shape → Option ℕ) (u : State) (w : ℕ) → (row f).writable ≡ true → start_of (shape_of whole.bytes) (row f).header ≡ pick (shape_of whole.bytes)
      → slice_index u.fields (field_index g) ≡ cond (is_some (pick (shape_of whole.bytes))) 1 0
      → slice_index u.fields (field_index f) < 2 ^ w → (IsSome (place (shape_of whole.bytes) f) → slice_index u.fields (field_index f) ≡ reads f)
      → operator_value Select w (slice_index u.fields (field_index g) ∷ slice_index u.fields (field_index f) ∷ 0 ∷ []) ≡ reads f
  flagged f g pick u w may start flag fits same =
      let own : ℕ = slice_index u.fields (field_index f) in
      let there : Bool = is_some (pick (shape_of whole.bytes)) in
      select_value w (slice_index u.fields (field_index g)) own 0
      ∙ ap (λ c. cond (c == 1) own 0 % 2 ^ w) flag
      ∙ kept_if there w own 0 (λ _. fits)
      ∙ by_header f there own may (ap (λ (o : Option ℕ). is_some o) start) same

  opposite : (n : ℕ) (own : ℕ) → cond (nat_lt n 14) 0 own ≡ cond (nat_le 14 n) own 0
  opposite n own = ⊎_elim (λ lt. grind (arith, nat_tests, lt)) (λ le. grind (arith, nat_tests, le)) (cases_lt n 14)

  ethernet : (f : Field) (u : State) (w : ℕ) → (row f).writable ≡ true → (row f).header ≡ Ethernet → slice_index u.fields (field_index MetaLen) ≡ length whole.bytes
      → slice_index u.fields (field_index f) < 2 ^ w → (IsSome (place (shape_of whole.bytes) f) → slice_index u.fields (field_index f) ≡ reads f)
      → operator_value Select w (operator_value Lt 1 (slice_index u.fields (field_index MetaLen) ∷ 14 ∷ []) ∷ 0 ∷ slice_index u.fields (field_index f) ∷ []) ≡ reads f
  ethernet f u w may is len fits same =
      let own : ℕ = slice_index u.fields (field_index f) in
      let n : ℕ = length whole.bytes in
      select_value w (operator_value Lt 1 (slice_index u.fields (field_index MetaLen) ∷ 14 ∷ [])) 0 own
      ∙ ap (λ c. cond (c == 1) 0 own % 2 ^ w) (lt_value (slice_index u.fields (field_index MetaLen)) 14 ∙ ap (λ k. cond (nat_lt k 14) 1 0) len)
      ∙ lost_if (nat_lt n 14) w own (λ _. fits)
      ∙ opposite n own
      ∙ by_header f (nat_le 14 n) own may (ap (λ (h : Header). is_some (start_of (shape_of whole.bytes) h)) is ∙ long_enough whole.bytes) same

  tagged : (f : Field) (u : State) (w : ℕ) → (row f).writable ≡ true → (row f).header ≡ Vlan
      → slice_index u.fields (field_index EthType) ≡ reads EthType → slice_index u.fields (field_index MetaLen) ≡ length whole.bytes
      → slice_index u.fields (field_index f) < 2 ^ w → (IsSome (place (shape_of whole.bytes) f) → slice_index u.fields (field_index f) ≡ reads f)
      → operator_value Select w (operator_value And 1 (operator_value Eq 1 (slice_index u.fields (field_index EthType) ∷ 0x8100 ∷ [])
      ∷ operator_value Lt 1 (17 ∷ slice_index u.fields (field_index MetaLen) ∷ []) ∷ []) ∷ slice_index u.fields (field_index f) ∷ 0 ∷ []) ≡ reads f
  tagged f u w may is type len fits same =
      let own : ℕ = slice_index u.fields (field_index f) in
      let t : ℕ = slice_index u.fields (field_index EthType) in
      let n : ℕ = slice_index u.fields (field_index MetaLen) in
      let here : Bool = is_some (shape_of whole.bytes).vlan in
      let told : (t == 0x8100 && nat_lt 17 n) ≡ here =
      ap (λ v. v == 0x8100 && nat_lt 17 n) type
      ∙ ap (λ k. reads EthType == 0x8100 && nat_lt 17 k) (len ∙ sym (sent_length values whole.bytes))
      ∙ tag_told sent port ∙ sym (tag_there sent)
      ∙ ap (λ (s : Shape). is_some s.vlan) (sent_shape values whole.bytes) in
      select_value w (operator_value And 1 (operator_value Eq 1 (t ∷ 0x8100 ∷ []) ∷ operator_value Lt 1 (17 ∷ n ∷ []) ∷ [])) own 0
      ∙ ap (λ c. cond (c == 1) own 0 % 2 ^ w)
      (ap (λ v. operator_value And 1 (v ∷ operator_value Lt 1 (17 ∷ n ∷ []) ∷ [])) (eq_value t 0x8100)
      ∙ ap (λ v. operator_value And 1 (cond (t == 0x8100) 1 0 ∷ v ∷ [])) (lt_value 17 n)
      ∙ and_value (t == 0x8100) (nat_lt 17 n) ∙ ap (λ b. cond {A = ℕ} b 1 0) told)
      ∙ kept_if here w own 0 (λ _. fits)
      ∙ by_header f here own may (ap (λ (h : Header). is_some (start_of (shape_of whole.bytes) h)) is) same

  kept_value : (f : Field) (h : Header) (u : State) (fs : List Field) → (row f).header ≡ h → (row f).writable ≡ true → AllWritable (f ∷ fs) → Cleared (f ∷ fs) u.fields
      → slice_index u.fields (field_index f) < 2 ^ (row f).width
      → value_of widths whole (kept_where h f (row f).width) u ≡ reads f
  kept_value f Meta u fs is may all clear fits = absurd (written_header f may is)
  kept_value f Ethernet u fs is may all clear fits =
      ethernet f u (row f).width may is (clear MetaLen (λ e. absurd (omega (arith, e))) (inr (fixed_waits_not (f ∷ fs) MetaLen all refl)) ∙ length_reads) fits
      (λ there. clear f (written_behind_port f may) (inl there))
  kept_value f Vlan u fs is may all clear fits =
      tagged f u (row f).width may is (clear EthType (λ e. absurd (omega (arith, e))) (inr (fixed_waits_not (f ∷ fs) EthType all refl)))
      (clear MetaLen (λ e. absurd (omega (arith, e))) (inr (fixed_waits_not (f ∷ fs) MetaLen all refl)) ∙ length_reads) fits
      (λ there. clear f (written_behind_port f may) (inl there))
  kept_value f Ip u fs is may all clear fits =
      flagged f HasIp (λ s. s.ip) u (row f).width may (ap (start_of (shape_of whole.bytes)) is)
      (clear HasIp (λ e. absurd (omega (arith, e))) (inr (fixed_waits_not (f ∷ fs) HasIp all refl)) ∙ flag_value HasIp (is_some (shape_of sent).ip) refl refl ∙ same_flag (λ s. s.ip)) fits
      (λ there. clear f (written_behind_port f may) (inl there))
  kept_value f Tcp u fs is may all clear fits =
      flagged f HasTcp (λ s. s.tcp) u (row f).width may (ap (start_of (shape_of whole.bytes)) is)
      (clear HasTcp (λ e. absurd (omega (arith, e))) (inr (fixed_waits_not (f ∷ fs) HasTcp all refl)) ∙ flag_value HasTcp (is_some (shape_of sent).tcp) refl refl ∙ same_flag (λ s. s.tcp)) fits
      (λ there. clear f (written_behind_port f may) (inl there))
  kept_value f Udp u fs is may all clear fits =
      flagged f HasUdp (λ s. s.udp) u (row f).width may (ap (start_of (shape_of whole.bytes)) is)
      (clear HasUdp (λ e. absurd (omega (arith, e))) (inr (fixed_waits_not (f ∷ fs) HasUdp all refl)) ∙ flag_value HasUdp (is_some (shape_of sent).udp) refl refl ∙ same_flag (λ s. s.udp)) fits
      (λ there. clear f (written_behind_port f may) (inl there))

  -- ### all of them
  -- what the clearing statements leave
  pub record Leaves (u after : State) : Type 0 where
    pub locals : after.locals ≡ u.locals
    pub store : after.store ≡ u.store
    pub all : length after.fields ≡ 37
    pub clear : Cleared [] after.fields
    pub low : (f : Field) → (row f).writable ≡ true → slice_index after.fields (field_index f) < 2 ^ (row f).width
    pub unset : (f : Field) → is_set f ≡ false → slice_index after.fields (field_index f) ≡ slice_index u.fields (field_index f)

  -- the fields that it says nothing of stay
  one_more : (f : Field) (fs : List Field) (u : State) (v : ℕ) → field_index f < 37 → length u.fields ≡ 37 → v % 2 ^ (row f).width ≡ reads f → Cleared (f ∷ fs) u.fields → Cleared fs (assigned f v u).fields
  one_more f fs u v low all is clear g other why =
      ⊎_elim
      (λ e. get_or-set_at u.fields (field_index f) (field_index g) (v % 2 ^ (row f).width) 0 (sym e) (omega (arith, low, all)) ∙ is ∙ ap reads (same_index f g e))
      (λ apart. get_or-set_other u.fields (field_index f) (field_index g) (v % 2 ^ (row f).width) 0 (λ e. apart (sym e))
      ∙ clear g other (elim why [ inl there ↦ inl there | inr none ↦ inr (or_from (field_index f == field_index g) _ (grind (arith, nat_tests, apart)) none) ]))
      (cases_eq (field_index f) (field_index g))

  fit_more : (f : Field) (v : ℕ) (u : State) → length u.fields ≡ 37 → v % 2 ^ (row f).width < 2 ^ (row f).width
      → ((g : Field) → (row g).writable ≡ true → slice_index u.fields (field_index g) < 2 ^ (row g).width)
      → (g : Field) → (row g).writable ≡ true → slice_index (assigned f v u).fields (field_index g) < 2 ^ (row g).width
  fit_more f v u all small fits g may =
      let cut : ℕ = v % 2 ^ (row f).width in
      ⊎_elim
      (λ e. subst (λ k. k < 2 ^ (row g).width) (sym (get_or-set_at u.fields (field_index f) (field_index g) cut 0 (sym e) (omega (arith, index-lt f, all))))
      (subst (λ (x : Field). cut < 2 ^ (row x).width) (same_index f g e) small))
      (λ apart. subst (λ k. k < 2 ^ (row g).width) (sym (get_or-set_other u.fields (field_index f) (field_index g) cut 0 (λ e. apart (sym e)))) (fits g may))
      (cases_eq (field_index f) (field_index g))

  unset_more : (f g : Field) (v : ℕ) (u : State) → is_set f ≡ true → is_set g ≡ false → slice_index (assigned f v u).fields (field_index g) ≡ slice_index u.fields (field_index g)
  unset_more f g v u set never =
      get_or-set_other u.fields (field_index f) (field_index g) (v % 2 ^ (row f).width) 0
      (λ same. true≢false (sym set ∙ ap is_set (sym (same_index g f same)) ∙ never))

  abbrev AllSet : List Field → Type 0
  AllSet fs = (g : Field) → list_any (λ h. field_index h == field_index g) fs ≡ true → is_set g ≡ true

  pub clearing_leaves : (fs : List Field) (u : State) → AllSet fs → length u.fields ≡ 37 → Cleared fs u.fields → ((f : Field) → (row f).writable ≡ true → slice_index u.fields (field_index f) < 2 ^ (row f).width)
      → (after : State) × (do_body widths whole (clearing fs) u ≡ Running after) × Leaves u after
  clearing_leaves [] u set all clear fits = (u, refl, record { locals = refl; store = refl; all = all; clear = clear; low = fits; unset = λ f never. refl })
  clearing_leaves (f ∷ fs) u set all clear fits =
      let set_f : is_set f ≡ true = set f (or_left (field_index f == field_index f) _ (eq-eqb (field_index f) (field_index f) refl)) in
      let may : (row f).writable ≡ true = only f set_f in
      let v : ℕ = value_of widths whole (kept_where (row f).header f (row f).width) u in
      let next : State = assigned f v u in
      let is : v ≡ reads f = kept_value f (row f).header u fs refl may (λ g there. only g (set g there)) clear (fits f may) in
      let small : reads f < 2 ^ (row f).width = reads_fit f may in
      let cut : v % 2 ^ (row f).width ≡ reads f = ap (λ k. k % 2 ^ (row f).width) is ∙ mod-eq_of_lt small in
      let rest = clearing_leaves fs next (λ g there. set g (or_right (field_index f == field_index g) _ there)) (length-set u.fields (field_index f) (v % 2 ^ (row f).width) ∙ all)
      (one_more f fs u v (index-lt f) all cut clear) (fit_more f v u all (subst (λ k. k < 2 ^ (row f).width) (sym cut) small) fits) in (
        rest.0,
        rest.1,
        record {
          locals = rest.2.locals;
          store = rest.2.store;
          all = rest.2.all;
          clear = rest.2.clear;
          low = rest.2.low;
          unset = λ g never. rest.2.unset g never ∙ unset_more f g v u set_f never;
        },
      )
    where
      reads_fit : (f : Field) → (row f).writable ≡ true → reads f < 2 ^ (row f).width
      reads_fit f may = by_place (place (shape_of whole.bytes) f) refl
        where
          by_place : (o : Option ℕ) → place (shape_of whole.bytes) f ≡ o → reads f < 2 ^ (row f).width
          by_place None at = subst (λ k. k < 2 ^ (row f).width) (sym (absent_reads f may at)) (pow_pos (row f).width)
          by_place (Some first) at = subst (λ k. k < 2 ^ (row f).width) (there_as_written f may (some_at (place (shape_of whole.bytes) f) first at)) (fit f may)
