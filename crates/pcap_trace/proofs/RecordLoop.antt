-- Records that are read one after another.
use Rattle.std.proofs.Common.{◌≡◌, ℕ, ◌+◌, ◌-◌, ◌<◌, ◌≤◌, Bool, List, [], ◌∷◌, ◌++◌, length, take, drop, refl, sym, ap, ◌∙◌, append_assoc, subst, lit<, arith, inl, inr}
use Rattle.std.specs.Int.{w32}
use Rattle.std.specs.List.{AllByRecursion as Each, flat_map}
use Rattle.std.proofs.lemmas.Bool.{cases_lt}
use Rattle.std.proofs.lemmas.Grind.{flat_map-append}
use Rattle.std.proofs.lemmas.List.{append-nil, drop-drop, drop_at, get_or-drop, get_or-take, get_or_past, length-append, length-drop, length-take, take-append-drop, take-append-le, take_all, take_at}
use Rattle.packet_fields.specs.Several.{AreBytes}
use Rattle.pcap_trace.specs.declared.header.Header.{Header}
use Rattle.pcap_trace.specs.declared.records.Record.{Record}
use Rattle.pcap_trace.specs.declared.records.RecordHeader.{RecordHeader}
use Rattle.pcap_trace.specs.Format.{IsCapture, IsPcap, header, number, pcap_bytes, record_bytes, record_header}
use Rattle.pcap_trace.specs.Header.{IsHeader, capture_of}
use Rattle.pcap_trace.specs.Reading.{HasFields, IsWhole, record_with}
use Rattle.pcap_trace.specs.Records.{AreRecords, IsRecord, most_records}
use Rattle.pcap_trace.specs.Refused.{StandsIn, Tells}
use Rattle.pcap_trace.proofs.NumberLemmas.{length-number_4}
use Rattle.pcap_trace.proofs.OneRecord.{length-record_bytes}
use Rattle.pcap_trace.proofs.OneCapture.{length-pcap_bytes}

-- what the third number of a record's header tells
pub tells_of : (big : Bool) (rest : List ℕ) (h : RecordHeader) → 16 ≤ length rest → HasFields h
    → record_header big h.seconds h.fraction h.captured h.original ≡ take 16 rest → Tells big rest h.captured
unfolding record_header
tells_of big rest h long fits text =
    let lead = number big w32 h.seconds ++ number big w32 h.fraction in
    let behind = number big w32 h.original ++ drop 16 rest in
    let grouped : rest ≡ lead ++ (number big w32 h.captured ++ behind) =
    sym (take-append-drop 16 rest) ∙ (ap (λ (b : List ℕ). b ++ drop 16 rest) (sym text) ∙ simp append_assoc) in
    let eight : length lead ≡ 8 = omega (arith, length-append (number big w32 h.seconds) (number big w32 h.fraction), length-number_4 big h.seconds, length-number_4 big h.fraction) in
    record {
      long = long;
      fits = fits.captured;
      told = ap (λ (b : List ℕ). take 4 (drop 8 b)) grouped
          ∙ (ap (λ (b : List ℕ). take 4 b) (drop_at lead (number big w32 h.captured ++ behind) 8 eight)
          ∙ take_at (number big w32 h.captured) behind 4 (length-number_4 big h.captured));
    }

-- a list of at most so many, and one more where there is room
pub kept_more : (n : ℕ) (xs : List Record) (x : Record) → length xs < n → xs ++ x ∷ [] ≡ take n (xs ++ x ∷ [])
kept_more n xs x room = sym (take_all n (xs ++ x ∷ []) (omega (arith, length-append xs (x ∷ []))))

pub kept_full : (n : ℕ) (xs : List Record) (x : Record) → length xs ≤ n → n ≤ length xs → xs ≡ take n (xs ++ x ∷ [])
kept_full n xs x few full = sym (take-append-le n xs (x ∷ []) full ∙ take_all n xs few)

first_kept : (n : ℕ) (xs : List Record) (x : Record) → take n (take n xs ++ x ∷ []) ≡ take n (xs ++ x ∷ [])
first_kept n xs x =
    elim (cases_lt (length xs) n) [
      | inl below ↦ ap (λ (ys : List Record). take n (ys ++ x ∷ [])) (take_all n xs (omega arith))
      | inr full ↦
          take-append-le n (take n xs) (x ∷ []) (omega (arith, length-take n xs))
          ∙ (take_all n (take n xs) (omega (arith, length-take n xs)) ∙ sym (take-append-le n xs (x ∷ []) full))
    ]

-- all records up to a byte are read, and of them the first are kept
pub record SoFar (h : Header) (bytes : List ℕ) (records : List Record) (count place : ℕ) : Type 0 where
  pub read : List Record
  pub stands : StandsIn bytes (capture_of h read) (drop place bytes) place
  pub kept : records ≡ take most_records read
  pub counted : count ≡ length read
  pub low : count ≤ place
  pub within : place ≤ length bytes

pub none_so_far : (h : Header) (bytes : List ℕ) → IsHeader bytes h → SoFar h bytes [] 0 24
unfolding pcap_bytes
none_so_far h bytes is =
    let text = header h.big h.nano h.zone h.sigfigs h.snaplen in
    record {
      read = [];
      stands = record {
        capture = record { zone = is.zone; sigfigs = is.sigfigs; snaplen = is.snaplen; records = tt };
        parts = sym (take-append-drop 24 bytes) ∙ ap (λ (b : List ℕ). b ++ drop 24 bytes) (is.text ∙ sym (append-nil text));
        place = sym (length-pcap_bytes (capture_of h []));
      };
      kept = refl;
      counted = refl;
      low = omega arith;
      within = is.long;
    }

pub Each-append : (xs : List Record) (x : Record) → Each IsRecord xs → IsRecord x → Each IsRecord (xs ++ x ∷ [])
Each-append [] x are is = (is, tt)
Each-append (y ∷ ys) x are is = (are.0, Each-append ys x are.1 is)

pub more_bytes : (h : Header) (rs : List Record) (r : Record) → pcap_bytes (capture_of h (rs ++ r ∷ [])) ≡ pcap_bytes (capture_of h rs) ++ record_bytes h.big r
unfolding pcap_bytes
more_bytes h rs r =
    let text = header h.big h.nano h.zone h.sigfigs h.snaplen in
    let last : flat_map (record_bytes h.big) (r ∷ []) ≡ record_bytes h.big r = append-nil (record_bytes h.big r) in
    ap (λ (b : List ℕ). text ++ b) (flat_map-append (record_bytes h.big) rs (r ∷ []) ∙ ap (λ (b : List ℕ). flat_map (record_bytes h.big) rs ++ b) last)
    ∙ sym (append_assoc text (flat_map (record_bytes h.big) rs) (record_bytes h.big r))

-- a whole record in front of the rest
whole_record : (big : Bool) (bytes : List ℕ) (place : ℕ) (h : RecordHeader) (body : List ℕ) → IsWhole big (drop place bytes) h
    → body ≡ take h.captured (drop (place + 16) bytes) → length body ≡ h.captured
    → drop place bytes ≡ record_bytes big (record_with h body) ++ drop (place + 16 + h.captured) bytes
unfolding record_bytes
whole_record big bytes place h body whole is long =
    let text = record_header big h.seconds h.fraction h.captured h.original in
    let told : text ≡ record_header big h.seconds h.fraction (length body) h.original = ap (λ (n : ℕ). record_header big h.seconds h.fraction n h.original) (sym long) in
    let behind : drop 16 (drop place bytes) ≡ drop (place + 16) bytes = drop-drop 16 place bytes in
    let after : drop h.captured (drop (place + 16) bytes) ≡ drop (place + 16 + h.captured) bytes = drop-drop h.captured (place + 16) bytes in
    let split : body ++ drop (place + 16 + h.captured) bytes ≡ drop (place + 16) bytes =
    ap (λ (b : List ℕ). b ++ drop (place + 16 + h.captured) bytes) is
    ∙ (ap (λ (b : List ℕ). take h.captured (drop (place + 16) bytes) ++ b) (sym after) ∙ take-append-drop h.captured (drop (place + 16) bytes)) in
    sym (take-append-drop 16 (drop place bytes))
    ∙ (ap (λ (b : List ℕ). b ++ drop 16 (drop place bytes)) (whole.text ∙ told)
    ∙ (ap (λ (b : List ℕ). record_header big h.seconds h.fraction (length body) h.original ++ b) (behind ∙ sym split)
    ∙ sym (append_assoc (record_header big h.seconds h.fraction (length body) h.original) body (drop (place + 16 + h.captured) bytes))))

pub one_more : (f : Header) (bytes : List ℕ) (records after : List Record) (count place end : ℕ) (h : RecordHeader) (body : List ℕ)
    → SoFar f bytes records count place → IsWhole f.big (drop place bytes) h → place < length bytes → end ≡ place + 16 + h.captured
    → body ≡ take h.captured (drop (place + 16) bytes) → AreBytes body
    → after ≡ take most_records (records ++ record_with h body ∷ []) → SoFar f bytes after (count + 1) end
one_more f bytes records after count place end h body so_far whole inside end_is body_is are after_is =
    let r = record_with h body in
    let rest_long : 16 + h.captured ≤ length bytes - place = omega (arith, whole.there, length-drop place bytes) in
    let long : length body ≡ h.captured =
    ap (λ (b : List ℕ). length b) body_is ∙ (length-take h.captured (drop (place + 16) bytes) ∙ omega (arith, length-drop (place + 16) bytes)) in
    let is : IsRecord r = record { seconds = whole.fits.seconds; fraction = whole.fits.fraction; original = whole.fits.original; bytes = are; size = omega (arith, whole.size) } in
    let all = so_far.read ++ r ∷ [] in
    let front = whole_record f.big bytes place h body whole body_is long in
    let ended : drop (place + 16 + h.captured) bytes ≡ drop end bytes = ap (λ (i : ℕ). drop i bytes) (sym end_is) in
    record {
      read = all;
      stands = record {
        capture = record {
          zone = so_far.stands.capture.zone;
          sigfigs = so_far.stands.capture.sigfigs;
          snaplen = so_far.stands.capture.snaplen;
          records = Each-append so_far.read r so_far.stands.capture.records is;
        };
        parts = so_far.stands.parts
            ∙ (ap (λ (b : List ℕ). pcap_bytes (capture_of f so_far.read) ++ b) (front ∙ ap (λ (b : List ℕ). record_bytes f.big r ++ b) ended)
            ∙ (sym (append_assoc (pcap_bytes (capture_of f so_far.read)) (record_bytes f.big r) (drop end bytes))
            ∙ ap (λ (b : List ℕ). b ++ drop end bytes) (sym (more_bytes f so_far.read r))));
        place = omega (
          arith,
          ap (λ (b : List ℕ). length b) (more_bytes f so_far.read r),
          so_far.stands.place,
          length-append (pcap_bytes (capture_of f so_far.read)) (record_bytes f.big r),
          length-record_bytes f.big r,
        );
      };
      kept = after_is ∙ (ap (λ (xs : List Record). take most_records (xs ++ r ∷ [])) so_far.kept ∙ first_kept most_records so_far.read r);
      counted = omega (arith, so_far.counted, length-append so_far.read (r ∷ []));
      low = omega (arith, so_far.low);
      within = omega (arith, so_far.within);
    }

-- at the end, the bytes are those of the capture of all records
all_read : (h : Header) (bytes : List ℕ) (records : List Record) (count place : ℕ) (so_far : SoFar h bytes records count place)
    → length bytes ≤ place → pcap_bytes (capture_of h so_far.read) ≡ bytes
all_read h bytes records count place so_far end =
    let text = pcap_bytes (capture_of h so_far.read) in
    let place_is : length text ≡ length bytes = omega (arith, so_far.stands.place, so_far.within) in
    let long : length (drop place bytes) ≡ 0 = omega (arith, length-drop place bytes) in
    sym (take_at text (drop place bytes) (length text) refl)
    ∙ (ap (λ (b : List ℕ). take (length text) b) (sym so_far.stands.parts) ∙ take_all (length text) bytes (omega arith))

-- then all are kept, where there are few
all_kept : (h : Header) (bytes : List ℕ) (records : List Record) (count place : ℕ) (so_far : SoFar h bytes records count place)
    → count ≤ most_records → records ≡ so_far.read
all_kept h bytes records count place so_far few =
    so_far.kept ∙ take_all most_records so_far.read (omega (arith, so_far.counted))

pub whole_is_read : (h : Header) (bytes : List ℕ) (records : List Record) (count place : ℕ) → SoFar h bytes records count place
    → length bytes ≤ place → count ≤ most_records → pcap_bytes (capture_of h records) ≡ bytes
whole_is_read h bytes records count place so_far end few =
    ap (λ (rs : List Record). pcap_bytes (capture_of h rs)) (all_kept h bytes records count place so_far few) ∙ all_read h bytes records count place so_far end

pub whole_is_taken : (h : Header) (bytes : List ℕ) (records : List Record) (count place : ℕ) → SoFar h bytes records count place
    → length bytes ≤ place → count ≤ most_records → IsPcap (capture_of h records)
whole_is_taken h bytes records count place so_far end few =
    let kept = all_kept h bytes records count place so_far few in
    record {
      capture = subst (λ (rs : List Record). IsCapture (capture_of h rs)) (sym kept) so_far.stands.capture;
      few = omega (arith, ap (λ (rs : List Record). length rs) kept, so_far.counted);
    }

pub kept_few : (h : Header) (bytes : List ℕ) (records : List Record) (count place : ℕ) → SoFar h bytes records count place
    → length records ≤ most_records
kept_few h bytes records count place so_far =
    omega (arith, ap (λ (rs : List Record). length rs) so_far.kept, length-take most_records so_far.read)

pub records_are_taken : (h : Header) (bytes : List ℕ) (records : List Record) (count place : ℕ) → SoFar h bytes records count place
    → length bytes ≤ place → count ≤ most_records → AreRecords records
records_are_taken h bytes records count place so_far end few =
    let taken = whole_is_taken h bytes records count place so_far end few in
    record { each = taken.capture.records; few = taken.few }

-- bytes of a part
pub part_are_bytes : (n m : ℕ) (bytes : List ℕ) → AreBytes bytes → AreBytes (take n (drop m bytes))
part_are_bytes n m bytes are i =
    elim (cases_lt i n) [
      | inl below ↦ rw (get_or-take n (drop m bytes) i 0 below, get_or-drop m bytes i 0) (are (m + i))
      | inr past ↦ rw (get_or_past (take n (drop m bytes)) i 0 (omega (arith, length-take n (drop m bytes)))) (lit< tt)
    ]
