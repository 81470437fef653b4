-- Bytes begin with one capture at most, behind which no record stands.
use Rattle.std.proofs.Common.{◌≡◌, ℕ, ◌+◌, ◌<◌, ◌^◌, Bool, true, false, List, ◌++◌, length, get_or, take, drop, refl, sym, ap, ◌∙◌, append_assoc, subst, lit<, arith}
use Rattle.std.specs.Int.{w32}
use Rattle.std.specs.List.{flat_map}
use Rattle.std.proofs.lemmas.List.{drop_at, length-append, take_at}
use Rattle.pcap_trace.specs.declared.pcap.Pcap.{Pcap}
use Rattle.pcap_trace.specs.declared.records.Record.{Record}
use Rattle.pcap_trace.specs.Format.{IsCapture, ethernet, front, header, number, pcap_bytes, record_bytes}
use Rattle.pcap_trace.specs.Refused.{Begins}
use Rattle.pcap_trace.proofs.NumberLemmas.{behind_number, length-front, length-header, length-number_4, number_in_front, one_number}
use Rattle.pcap_trace.proofs.OneRecord.{IsStuck, one_list}
use Rattle.lemmas.proofs.Lists.{first_parts, second_parts}

-- the same order and unit
pub record SameKind (big nano big' nano' : Bool) : Type 0 where
  pub order : big ≡ big'
  pub unit : nano ≡ nano'

byte_of : (i : ℕ) (a b : List ℕ) → a ≡ b → get_or a i 0 ≡ get_or b i 0
byte_of i a b same = ap (λ (bytes : List ℕ). get_or bytes i 0) same

pub one_front : (big nano big' nano' : Bool) → front big nano ≡ front big' nano' → SameKind big nano big' nano'
unfolding front number
one_front true true true true same = record { order = refl; unit = refl }
one_front true true true false same = absurd (omega (arith, byte_of 2 (front true true) (front true false) same))
one_front true true false true same = absurd (omega (arith, byte_of 0 (front true true) (front false true) same))
one_front true true false false same = absurd (omega (arith, byte_of 0 (front true true) (front false false) same))
one_front true false true true same = absurd (omega (arith, byte_of 2 (front true false) (front true true) same))
one_front true false true false same = record { order = refl; unit = refl }
one_front true false false true same = absurd (omega (arith, byte_of 0 (front true false) (front false true) same))
one_front true false false false same = absurd (omega (arith, byte_of 0 (front true false) (front false false) same))
one_front false true true true same = absurd (omega (arith, byte_of 0 (front false true) (front true true) same))
one_front false true true false same = absurd (omega (arith, byte_of 0 (front false true) (front true false) same))
one_front false true false true same = record { order = refl; unit = refl }
one_front false true false false same = absurd (omega (arith, byte_of 0 (front false true) (front false false) same))
one_front false false true true same = absurd (omega (arith, byte_of 0 (front false false) (front true true) same))
one_front false false true false same = absurd (omega (arith, byte_of 0 (front false false) (front true false) same))
one_front false false false true same = absurd (omega (arith, byte_of 0 (front false false) (front false true) same))
one_front false false false false same = record { order = refl; unit = refl }

pub one_kind : (bytes : List ℕ) (big nano big' nano' : Bool) → Begins bytes big nano → Begins bytes big' nano'
    → SameKind big nano big' nano'
one_kind bytes big nano big' nano' first second = one_front big nano big' nano' (sym first.begin ∙ second.begin)

-- the parts of a header behind its front
tail_of : Bool → ℕ → ℕ → ℕ → List ℕ
tail_of big zone sigfigs snaplen =
    number big w32 zone ++ (number big w32 sigfigs ++ (number big w32 snaplen ++ number big w32 ethernet))

-- what two equal headers tell
pub record SameHeader (p q : Pcap) : Type 0 where
  pub order : p.big ≡ q.big
  pub unit : p.nano ≡ q.nano
  pub zone : p.zone ≡ q.zone
  pub sigfigs : p.sigfigs ≡ q.sigfigs
  pub snaplen : p.snaplen ≡ q.snaplen

header_of : Pcap → List ℕ
header_of p = header p.big p.nano p.zone p.sigfigs p.snaplen

same_numbers : (big : Bool) (z f s z' f' s' : ℕ) (link : List ℕ) → z < 2 ^ 32 → z' < 2 ^ 32 → f < 2 ^ 32 → f' < 2 ^ 32 → s < 2 ^ 32 → s' < 2 ^ 32
    → number big w32 z ++ (number big w32 f ++ (number big w32 s ++ link)) ≡ number big w32 z' ++ (number big w32 f' ++ (number big w32 s' ++ link))
    → (z ≡ z') × (f ≡ f') × (s ≡ s')
same_numbers big z f s z' f' s' link hz hz' hf hf' hs hs' same =
    let after_z = behind_number big z z' (number big w32 f ++ (number big w32 s ++ link)) (number big w32 f' ++ (number big w32 s' ++ link)) same in
    let after_f = behind_number big f f' (number big w32 s ++ link) (number big w32 s' ++ link) after_z in (
      number_in_front big z z' (number big w32 f ++ (number big w32 s ++ link)) (number big w32 f' ++ (number big w32 s' ++ link)) hz hz' same,
      number_in_front big f f' (number big w32 s ++ link) (number big w32 s' ++ link) hf hf' after_z,
      number_in_front big s s' link link hs hs' after_f,
    )

one_header : (p q : Pcap) → IsCapture p → IsCapture q → header_of p ≡ header_of q → SameHeader p q
unfolding header_of header tail_of
one_header p q p_is q_is same =
    let long : length (front p.big p.nano) ≡ length (front q.big q.nano) = length-front p.big p.nano ∙ sym (length-front q.big q.nano) in
    let kind = one_front p.big p.nano q.big q.nano (first_parts (front p.big p.nano) (front q.big q.nano) (tail_of p.big p.zone p.sigfigs p.snaplen) (tail_of q.big q.zone q.sigfigs q.snaplen) long same) in
    let tails : tail_of p.big p.zone p.sigfigs p.snaplen ≡ tail_of q.big q.zone q.sigfigs q.snaplen =
    second_parts (front p.big p.nano) (front q.big q.nano) (tail_of p.big p.zone p.sigfigs p.snaplen) (tail_of q.big q.zone q.sigfigs q.snaplen) long same in
    let ordered : tail_of p.big p.zone p.sigfigs p.snaplen ≡ tail_of p.big q.zone q.sigfigs q.snaplen =
    tails ∙ ap (λ (big : Bool). tail_of big q.zone q.sigfigs q.snaplen) (sym kind.order) in
    let numbers = same_numbers p.big p.zone p.sigfigs p.snaplen q.zone q.sigfigs q.snaplen (number p.big w32 ethernet) p_is.zone q_is.zone p_is.sigfigs q_is.sigfigs p_is.snaplen q_is.snaplen ordered in
    record { order = kind.order; unit = kind.unit; zone = numbers.0; sigfigs = numbers.1; snaplen = numbers.2 }

made : Bool → Bool → ℕ → ℕ → ℕ → List Record → Pcap
made big nano zone sigfigs snaplen records =
    record { big = big; nano = nano; zone = zone; sigfigs = sigfigs; snaplen = snaplen; records = records }

same_capture : (p q : Pcap) → SameHeader p q → p.records ≡ q.records → p ≡ q
unfolding made
same_capture p q same records =
    ap (λ (x : Bool). made x p.nano p.zone p.sigfigs p.snaplen p.records) same.order
    ∙ (ap (λ (x : Bool). made q.big x p.zone p.sigfigs p.snaplen p.records) same.unit
    ∙ (ap (λ (x : ℕ). made q.big q.nano x p.sigfigs p.snaplen p.records) same.zone
    ∙ (ap (λ (x : ℕ). made q.big q.nano q.zone x p.snaplen p.records) same.sigfigs
    ∙ (ap (λ (x : ℕ). made q.big q.nano q.zone q.sigfigs x p.records) same.snaplen
    ∙ ap (λ (x : List Record). made q.big q.nano q.zone q.sigfigs q.snaplen x) records))))

-- two equal captures, with the same behind them
pub record SameCapture (p q : Pcap) (x y : List ℕ) : Type 0 where
  pub value : p ≡ q
  pub rest : x ≡ y

pub one_capture : (p q : Pcap) (x y : List ℕ) → IsCapture p → IsCapture q → IsStuck p.big x → IsStuck q.big y
    → pcap_bytes p ++ x ≡ pcap_bytes q ++ y → SameCapture p q x y
unfolding pcap_bytes header_of
one_capture p q x y p_is q_is x_ends y_ends same =
    let p_records = flat_map (record_bytes p.big) p.records in
    let q_records = flat_map (record_bytes q.big) q.records in
    let long : length (header_of p) ≡ length (header_of q) = length-header p.big p.nano p.zone p.sigfigs p.snaplen ∙ sym (length-header q.big q.nano q.zone q.sigfigs q.snaplen) in
    let grouped : header_of p ++ (p_records ++ x) ≡ header_of q ++ (q_records ++ y) =
    sym (append_assoc (header_of p) p_records x) ∙ (same ∙ append_assoc (header_of q) q_records y) in
    let headers = one_header p q p_is q_is (first_parts (header_of p) (header_of q) (p_records ++ x) (q_records ++ y) long grouped) in
    let bodies : p_records ++ x ≡ q_records ++ y = second_parts (header_of p) (header_of q) (p_records ++ x) (q_records ++ y) long grouped in
    let ordered : flat_map (record_bytes p.big) p.records ++ x ≡ flat_map (record_bytes p.big) q.records ++ y =
    bodies ∙ ap (λ (big : Bool). flat_map (record_bytes big) q.records ++ y) (sym headers.order) in
    let y_ends_so : IsStuck p.big y = subst (λ (big : Bool). IsStuck big y) (sym headers.order) y_ends in
    let lists = one_list p.big p.records q.records x y p_is.records q_is.records x_ends y_ends_so ordered in
    record { value = same_capture p q headers lists.items; rest = lists.rest }

-- a capture begins as its order and unit do
front_of : (p : Pcap) (x : List ℕ) → take 8 (pcap_bytes p ++ x) ≡ front p.big p.nano
unfolding pcap_bytes header
front_of p x =
    let tail = number p.big w32 p.zone ++ (number p.big w32 p.sigfigs ++ (number p.big w32 p.snaplen ++ number p.big w32 ethernet)) in
    let records = flat_map (record_bytes p.big) p.records in
    let grouped : pcap_bytes p ++ x ≡ front p.big p.nano ++ (tail ++ (records ++ x)) = simp append_assoc in
    ap (λ (bytes : List ℕ). take 8 bytes) grouped ∙ take_at (front p.big p.nano) (tail ++ (records ++ x)) 8 (length-front p.big p.nano)

pub length-pcap_bytes : (p : Pcap) → length (pcap_bytes p) ≡ 24 + length (flat_map (record_bytes p.big) p.records)
unfolding pcap_bytes
length-pcap_bytes p =
    omega (
      arith,
      length-append (header p.big p.nano p.zone p.sigfigs p.snaplen) (flat_map (record_bytes p.big) p.records),
      length-header p.big p.nano p.zone p.sigfigs p.snaplen,
    )

pub begins_of : (bytes : List ℕ) (p : Pcap) (x : List ℕ) → bytes ≡ pcap_bytes p ++ x → Begins bytes p.big p.nano
begins_of bytes p x same = record {
  long = omega (arith, ap (λ (b : List ℕ). length b) same, length-append (pcap_bytes p) x, length-pcap_bytes p);
  begin = ap (λ (b : List ℕ). take 8 b) same ∙ front_of p x;
}

-- the link type of a capture is Ethernet's
pub link_of : (bytes : List ℕ) (p : Pcap) (x : List ℕ) → bytes ≡ pcap_bytes p ++ x → take 4 (drop 20 bytes) ≡ number p.big w32 ethernet
unfolding pcap_bytes header
link_of bytes p x same =
    let lead = front p.big p.nano ++ (number p.big w32 p.zone ++ (number p.big w32 p.sigfigs ++ number p.big w32 p.snaplen)) in
    let records = flat_map (record_bytes p.big) p.records in
    let grouped : pcap_bytes p ++ x ≡ lead ++ (number p.big w32 ethernet ++ (records ++ x)) = simp append_assoc in
    let twenty : length lead ≡ 20 = omega (
      arith,
      length-front p.big p.nano,
      length-number_4 p.big p.zone,
      length-number_4 p.big p.sigfigs,
      length-number_4 p.big p.snaplen,
      length-append (front p.big p.nano) (number p.big w32 p.zone ++ (number p.big w32 p.sigfigs ++ number p.big w32 p.snaplen)),
      length-append (number p.big w32 p.zone) (number p.big w32 p.sigfigs ++ number p.big w32 p.snaplen),
      length-append (number p.big w32 p.sigfigs) (number p.big w32 p.snaplen),
    ) in
    ap (λ (b : List ℕ). take 4 (drop 20 b)) (same ∙ grouped)
    ∙ (ap (λ (b : List ℕ). take 4 b) (drop_at lead (number p.big w32 ethernet ++ (records ++ x)) 20 twenty)
    ∙ take_at (number p.big w32 ethernet) (records ++ x) 4 (length-number_4 p.big ethernet))

-- another link type than Ethernet's
pub other_link : (big : Bool) (bytes : List ℕ) (n : ℕ) → n < 2 ^ 32 → number big w32 n ≡ take 4 (drop 20 bytes) → (n ≡ ethernet → ⊥)
    → take 4 (drop 20 bytes) ≡ number big w32 ethernet → ⊥
other_link big bytes n fits is other same = other (one_number big n ethernet fits (lit< tt) (is ∙ same))
