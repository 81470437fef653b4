-- Records of a capture, one after another: those that are made of packets, the packets of them, and their bytes.
use Rattle.std.proofs.Common.{◌≡◌, ℕ, zero, suc, ◌+◌, ◌<◌, ◌≤◌, ◌^◌, Bool, List, [], ◌∷◌, ◌++◌, length, get_or, take, refl, sym, ap, ◌∙◌, append_assoc, subst, arith}
use Rattle.std.specs.List.{AllByRecursion as Each, flat_map}
use Rattle.std.proofs.lemmas.List.{length-take-le, take_all, take_more}
use Rattle.packet_fields.specs.declared.packet.Packet.{Packet}
use Rattle.pcap_trace.specs.declared.pcap.Pcap.{Pcap}
use Rattle.pcap_trace.specs.declared.records.Record.{Record}
use Rattle.pcap_trace.specs.Format.{IsPcap, header, pcap_bytes, record_bytes, record_header}
use Rattle.pcap_trace.specs.Packets.{records_from, whole_record}
use Rattle.pcap_trace.specs.Records.{AreRecords, IsRecord, most_records}
use Rattle.pcap_trace.proofs.RecordLoop.{Each-append}

-- one more of a list
next_item : {X : Type 0} (xs : List X) (i : ℕ) (x : X) → i < length xs → x ≡ get_or xs i x → take (i + 1) xs ≡ take i xs ++ x ∷ []
next_item {X = X} xs i x inside is =
    take_more xs i x inside ∙ ap (λ (y : X). take i xs ++ y ∷ []) (sym is)

records_more : (second : ℕ) (packets : List Packet) (packet : Packet)
    → records_from second (packets ++ packet ∷ []) ≡ records_from second packets ++ whole_record (second + length packets) packet.bytes ∷ []
records_more second [] packet = ap (λ (n : ℕ). whole_record n packet.bytes ∷ []) (omega arith)
records_more second (p ∷ packets) packet =
    let next : suc second + length packets ≡ second + length (p ∷ packets) = omega arith in
    ap (λ (rs : List Record). whole_record second p.bytes ∷ rs)
    (records_more (suc second) packets packet
    ∙ ap (λ (n : ℕ). records_from (suc second) packets ++ whole_record n packet.bytes ∷ []) next)

pub length-records_from : (second : ℕ) (packets : List Packet) → length (records_from second packets) ≡ length packets
length-records_from second [] = refl
length-records_from second (p ∷ packets) = omega (arith, length-records_from (suc second) packets)

-- the records of packets
pub record AreOf (made : List Record) (packets : List Packet) : Type 0 where
  pub records : made ≡ records_from 0 packets
  pub each : Each IsRecord made

pub one_made : (made after : List Record) (packets : List Packet) (i : ℕ) (packet : Packet) (r : Record) → AreOf made (take i packets)
    → i < length packets → packet ≡ get_or packets i packet → r ≡ whole_record i packet.bytes → IsRecord r → after ≡ made ++ r ∷ []
    → AreOf after (take (i + 1) packets)
one_made made after packets i packet r so_far inside is r_is r_fits after_is =
    let count : zero + length (take i packets) ≡ i = omega (arith, length-take-le i packets (omega arith)) in
    let last : whole_record (zero + length (take i packets)) packet.bytes ≡ r = ap (λ (n : ℕ). whole_record n packet.bytes) count ∙ sym r_is in
    record {
      records = after_is
          ∙ (ap (λ (rs : List Record). rs ++ r ∷ []) so_far.records
          ∙ (ap (λ (x : Record). records_from 0 (take i packets) ++ x ∷ []) (sym last)
          ∙ (sym (records_more 0 (take i packets) packet) ∙ ap (λ (ps : List Packet). records_from 0 ps) (sym (next_item packets i packet inside is)))));
      each = subst (λ (rs : List Record). Each IsRecord rs) (sym after_is) (Each-append made r so_far.each r_fits);
    }

pub all_made : (made : List Record) (packets : List Packet) (i : ℕ) → AreOf made (take i packets) → length packets ≤ i
    → made ≡ records_from 0 packets
all_made made packets i so_far end = so_far.records ∙ ap (λ (ps : List Packet). records_from 0 ps) (take_all i packets end)

pub made_are_records : (made : List Record) (packets : List Packet) (i : ℕ) → AreOf made (take i packets) → length packets ≤ i
    → length packets ≤ most_records → AreRecords made
made_are_records made packets i so_far end few = record {
  each = so_far.each;
  few = omega (arith, ap (λ (rs : List Record). length rs) (all_made made packets i so_far end), length-records_from 0 packets);
}

pub all_printed : (p : Pcap) (text : List ℕ) (items : List Record) (i : ℕ) → items ≡ p.records → length items ≤ i
    → text ≡ header p.big p.nano p.zone p.sigfigs p.snaplen ++ flat_map (record_bytes p.big) (take i items) → text ≡ pcap_bytes p
unfolding pcap_bytes
all_printed p text items i same end is =
    is ∙ ap (λ (rs : List Record). header p.big p.nano p.zone p.sigfigs p.snaplen ++ flat_map (record_bytes p.big) rs) (take_all i items end ∙ same)

pub record_put : (big : Bool) (r : Record) (text t1 t2 bytes : List ℕ) (n : ℕ) → n ≡ length r.bytes → bytes ≡ r.bytes
    → t1 ≡ text ++ record_header big r.seconds r.fraction n r.original → t2 ≡ t1 ++ bytes → t2 ≡ text ++ record_bytes big r
unfolding record_bytes
record_put big r text t1 t2 bytes n n_is bytes_is t1_is t2_is = rw (t2_is, t1_is, n_is, bytes_is) (simp append_assoc)

pub is_taken : (p : Pcap) → p.zone < 2 ^ 32 → p.sigfigs < 2 ^ 32 → p.snaplen < 2 ^ 32 → AreRecords p.records → IsPcap p
is_taken p zone sigfigs snaplen are = record {
  capture = record { zone = zone; sigfigs = sigfigs; snaplen = snaplen; records = are.each };
  few = are.few;
}
