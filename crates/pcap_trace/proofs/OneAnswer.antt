-- Of each list of bytes one answer holds: a capture that they are, or the cause of one refusal.
use Rattle.std.proofs.Common.{◌≡◌, ◌≢◌, ◌⊎◌, ℕ, ◌<◌, ◌≤◌, Bool, List, [], ◌++◌, length, take, drop, Result, Ok, Err, refl, sym, ap, ◌∙◌, subst, arith, inl, inr}
use Rattle.std.specs.Prelude.{IfErr, IfOk, MatchResult}
use Rattle.std.specs.Int.{w32}
use Rattle.std.proofs.lemmas.List.{append-nil}
use Rattle.pcap_trace.specs.declared.pcap.Pcap.{Pcap}
use Rattle.pcap_trace.specs.declared.refusal.PcapError.{PcapError}
use Rattle.pcap_trace.specs.declared.refusal.PcapError.TheVariants as errors
use Rattle.pcap_trace.specs.Format.{IsCapture, IsPcap, ethernet, number, pcap_bytes}
use Rattle.pcap_trace.specs.Records.{most_records}
use Rattle.pcap_trace.specs.Refused.{Begins, IsCut, IsLong, IsRefused}
use Rattle.pcap_trace.proofs.NumberLemmas.{one_number}
use Rattle.pcap_trace.proofs.OneRecord.{IsStuck, cut_is_stuck, long_is_stuck, none_is_stuck}
use Rattle.pcap_trace.proofs.OneCapture.{begins_of, link_of, one_capture, one_kind}

-- what an answer says of the bytes
abbrev pub Answers : List ℕ → Result Pcap PcapError → Type 0
Answers bytes (Ok p) = IsPcap p × (pcap_bytes p ≡ bytes)
Answers bytes (Err e) = IsRefused bytes e

pub answers_of : (bytes : List ℕ) (answer : Result Pcap PcapError) → IfOk answer (λ p. pcap_bytes p ≡ bytes) → IfOk answer IsPcap
    → IfErr answer (IsRefused bytes) → Answers bytes answer
answers_of bytes (Ok p) same is refused = (is, same)
answers_of bytes (Err e) same is refused = refused

-- what an answer says of the capture that the bytes begin with, and of the rest behind it
Says : Pcap → List ℕ → Result Pcap PcapError → Type 0
Says p rest (Ok q) = (q ≡ p) × (rest ≡ []) × (length p.records ≤ most_records)
Says p rest (Err (errors.Long at)) = (at ≡ length (pcap_bytes p)) × IsLong p.big rest
Says p rest (Err (errors.Record at)) = (at ≡ length (pcap_bytes p)) × IsCut p.big rest
Says p rest (Err (errors.TooMany have)) = (have ≡ length p.records) × (rest ≡ []) × (most_records < have)
Says p rest (Err _) = ⊥

-- the bytes begin with a capture, and then no record
record Ends (bytes : List ℕ) (p : Pcap) (rest : List ℕ) : Type 0 where
  capture : IsCapture p
  parts : bytes ≡ pcap_bytes p ++ rest
  stuck : IsStuck p.big rest

data Found (bytes : List ℕ) (answer : Result Pcap PcapError) : Type 0 where
  Headless : answer ≡ Err errors.Header → ((big nano : Bool) → Begins bytes big nano → ⊥) → Found bytes answer
  Linked : (big nano : Bool) → answer ≡ Err errors.Link → Begins bytes big nano → (take 4 (drop 20 bytes) ≢ number big w32 ethernet) → Found bytes answer
  Captured : (p : Pcap) (rest : List ℕ) → Ends bytes p rest → Says p rest answer → Found bytes answer
  Free : answer ≡ Err errors.NoMemory → Found bytes answer

whole : (bytes : List ℕ) (p : Pcap) → pcap_bytes p ≡ bytes → bytes ≡ pcap_bytes p ++ []
whole bytes p same = sym (append-nil (pcap_bytes p) ∙ same)

found : (bytes : List ℕ) (answer : Result Pcap PcapError) → Answers bytes answer → Found bytes answer
unfolding Says
found bytes (Ok p) says =
    Captured p [] (record { capture = says.0.capture; parts = whole bytes p says.1; stuck = none_is_stuck p.big }) (refl, refl, says.0.few)
found bytes (Err errors.Header) says = Headless refl says
found bytes (Err errors.Link) says = Linked says.0 says.1 refl says.2 says.3
found bytes (Err (errors.Long at)) says =
    Captured says.0 says.1 (record { capture = says.2.capture; parts = says.2.parts; stuck = long_is_stuck says.0.big says.1 says.3 }) (says.2.place, says.3)
found bytes (Err (errors.Record at)) says =
    Captured says.0 says.1 (record { capture = says.2.capture; parts = says.2.parts; stuck = cut_is_stuck says.0.big says.1 says.3 }) (says.2.place, says.3)
found bytes (Err (errors.TooMany have)) says =
    Captured says.0 [] (record { capture = says.1; parts = whole bytes says.0 says.2; stuck = none_is_stuck says.0.big }) (sym says.3, refl, says.4)
found bytes (Err errors.NoMemory) says = Free refl

-- a rest is none, or too long, or cut
long_not_none : (big : Bool) (rest : List ℕ) → IsLong big rest → rest ≡ [] → ⊥
long_not_none big rest long none = omega (arith, long.1.long, ap (λ (bytes : List ℕ). length bytes) none)

cut_not_none : (big : Bool) (rest : List ℕ) → IsCut big rest → rest ≡ [] → ⊥
cut_not_none big rest (inl short) none = omega (arith, short.0, ap (λ (bytes : List ℕ). length bytes) none)
cut_not_none big rest (inr cut) none = omega (arith, cut.1.long, ap (λ (bytes : List ℕ). length bytes) none)

long_not_cut : (big : Bool) (rest : List ℕ) → IsLong big rest → IsCut big rest → ⊥
long_not_cut big rest long (inl short) = omega (arith, short.1, long.1.long)
long_not_cut big rest long (inr cut) =
    let same = one_number big long.0 cut.0 long.1.fits cut.1.fits (sym long.1.told ∙ cut.1.told) in
    omega (arith, same, long.2, cut.2)

-- a capture and a rest have one answer
one_saying : (p : Pcap) (rest : List ℕ) (a b : Result Pcap PcapError) → Says p rest a → Says p rest b → a ≡ b
unfolding Says
one_saying p rest (Ok q) (Ok r) a b = let first = a.0 in let second = b.0 in cc
one_saying p rest (Ok q) (Err (errors.Long at)) a b = absurd (long_not_none p.big rest b.1 a.1)
one_saying p rest (Ok q) (Err (errors.Record at)) a b = absurd (cut_not_none p.big rest b.1 a.1)
one_saying p rest (Ok q) (Err (errors.TooMany have)) a b = absurd (omega (arith, a.2, b.0, b.2))
one_saying p rest (Ok q) (Err errors.Header) a b = absurd b
one_saying p rest (Ok q) (Err errors.Link) a b = absurd b
one_saying p rest (Ok q) (Err errors.NoMemory) a b = absurd b
one_saying p rest (Err (errors.Long at)) (Ok r) a b = absurd (long_not_none p.big rest a.1 b.1)
one_saying p rest (Err (errors.Long at)) (Err (errors.Long place)) a b = let first = a.0 in let second = b.0 in cc
one_saying p rest (Err (errors.Long at)) (Err (errors.Record place)) a b = absurd (long_not_cut p.big rest a.1 b.1)
one_saying p rest (Err (errors.Long at)) (Err (errors.TooMany have)) a b = absurd (long_not_none p.big rest a.1 b.1)
one_saying p rest (Err (errors.Long at)) (Err errors.Header) a b = absurd b
one_saying p rest (Err (errors.Long at)) (Err errors.Link) a b = absurd b
one_saying p rest (Err (errors.Long at)) (Err errors.NoMemory) a b = absurd b
one_saying p rest (Err (errors.Record at)) (Ok r) a b = absurd (cut_not_none p.big rest a.1 b.1)
one_saying p rest (Err (errors.Record at)) (Err (errors.Long place)) a b = absurd (long_not_cut p.big rest b.1 a.1)
one_saying p rest (Err (errors.Record at)) (Err (errors.Record place)) a b = let first = a.0 in let second = b.0 in cc
one_saying p rest (Err (errors.Record at)) (Err (errors.TooMany have)) a b = absurd (cut_not_none p.big rest a.1 b.1)
one_saying p rest (Err (errors.Record at)) (Err errors.Header) a b = absurd b
one_saying p rest (Err (errors.Record at)) (Err errors.Link) a b = absurd b
one_saying p rest (Err (errors.Record at)) (Err errors.NoMemory) a b = absurd b
one_saying p rest (Err (errors.TooMany have)) (Ok r) a b = absurd (omega (arith, b.2, a.0, a.2))
one_saying p rest (Err (errors.TooMany have)) (Err (errors.Long place)) a b = absurd (long_not_none p.big rest b.1 a.1)
one_saying p rest (Err (errors.TooMany have)) (Err (errors.Record place)) a b = absurd (cut_not_none p.big rest b.1 a.1)
one_saying p rest (Err (errors.TooMany have)) (Err (errors.TooMany count)) a b = let first = a.0 in let second = b.0 in cc
one_saying p rest (Err (errors.TooMany have)) (Err errors.Header) a b = absurd b
one_saying p rest (Err (errors.TooMany have)) (Err errors.Link) a b = absurd b
one_saying p rest (Err (errors.TooMany have)) (Err errors.NoMemory) a b = absurd b
one_saying p rest (Err errors.Header) b a _ = absurd a
one_saying p rest (Err errors.Link) b a _ = absurd a
one_saying p rest (Err errors.NoMemory) b a _ = absurd a

-- a capture has Ethernet's link type, and bytes have one order
other_not_capture : (bytes : List ℕ) (big nano : Bool) (p : Pcap) (rest : List ℕ) → Begins bytes big nano
    → (take 4 (drop 20 bytes) ≢ number big w32 ethernet) → Ends bytes p rest → ⊥
other_not_capture bytes big nano p rest begins wrong ends =
    let kind = one_kind bytes p.big p.nano big nano (begins_of bytes p rest ends.parts) begins in
    wrong (link_of bytes p rest ends.parts ∙ ap (λ (order : Bool). number order w32 ethernet) kind.order)

same_end : (bytes : List ℕ) (p q : Pcap) (x y : List ℕ) (b : Result Pcap PcapError) → Ends bytes p x → Ends bytes q y → Says q y b → Says p x b
same_end bytes p q x y b p_ends q_ends says =
    let one = one_capture q p y x q_ends.capture p_ends.capture q_ends.stuck p_ends.stuck (sym q_ends.parts ∙ p_ends.parts) in
    let at_p : Says p y b = subst (λ (r : Pcap). Says r y b) one.value says in
    subst (λ (z : List ℕ). Says p z b) one.rest at_p

one_found : (bytes : List ℕ) (a b : Result Pcap PcapError) → a ≢ Err errors.NoMemory → b ≢ Err errors.NoMemory
    → Found bytes a → Found bytes b → a ≡ b
one_found bytes a b a_told b_told (Headless a_is _) (Headless b_is _) = cc
one_found bytes a b a_told b_told (Headless _ nothing) (Linked big nano _ begins _) = absurd (nothing big nano begins)
one_found bytes a b a_told b_told (Headless _ nothing) (Captured p rest ends _) = absurd (nothing p.big p.nano (begins_of bytes p rest ends.parts))
one_found bytes a b a_told b_told (Linked big nano _ begins _) (Headless _ nothing) = absurd (nothing big nano begins)
one_found bytes a b a_told b_told (Linked _ _ a_is _ _) (Linked _ _ b_is _ _) = cc
one_found bytes a b a_told b_told (Linked big nano _ begins wrong) (Captured p rest ends _) = absurd (other_not_capture bytes big nano p rest begins wrong ends)
one_found bytes a b a_told b_told (Captured p rest ends _) (Headless _ nothing) = absurd (nothing p.big p.nano (begins_of bytes p rest ends.parts))
one_found bytes a b a_told b_told (Captured p rest ends _) (Linked big nano _ begins wrong) = absurd (other_not_capture bytes big nano p rest begins wrong ends)
one_found bytes a b a_told b_told (Captured p x p_ends p_says) (Captured q y q_ends q_says) =
    one_saying p x a b p_says (same_end bytes p q x y b p_ends q_ends q_says)
one_found bytes a b a_told b_told (Free a_is) _ = absurd (a_told a_is)
one_found bytes a b a_told b_told _ (Free b_is) = absurd (b_told b_is)

one_answer : (bytes : List ℕ) (a b : Result Pcap PcapError) → a ≢ Err errors.NoMemory → b ≢ Err errors.NoMemory
    → Answers bytes a → Answers bytes b → a ≡ b
one_answer bytes a b a_told b_told a_says b_says = one_found bytes a b a_told b_told (found bytes a a_says) (found bytes b b_says)

-- no memory, or not
memory : (e : PcapError) → (e ≡ errors.NoMemory) ⊎ (e ≢ errors.NoMemory)
memory errors.Header = inr (λ (same : errors.Header ≡ errors.NoMemory). cc)
memory errors.Link = inr (λ (same : errors.Link ≡ errors.NoMemory). cc)
memory (errors.Long at) = inr (λ (same : errors.Long at ≡ errors.NoMemory). cc)
memory (errors.Record at) = inr (λ (same : errors.Record at ≡ errors.NoMemory). cc)
memory (errors.TooMany have) = inr (λ (same : errors.TooMany have ≡ errors.NoMemory). cc)
memory errors.NoMemory = inl refl

abbrev refusal : PcapError → Result Pcap PcapError
refusal e = Err e

abbrev taken : Pcap → Result Pcap PcapError
taken p = Ok p

told : (e : PcapError) → e ≢ errors.NoMemory → refusal e ≢ refusal errors.NoMemory
told e known same = known cc

value_told : (p : Pcap) → taken p ≢ refusal errors.NoMemory
value_told p same = cc

-- a capture that the bytes are is answered
pub capture_is_found : (bytes : List ℕ) (answer : Result Pcap PcapError) → Answers bytes answer
    → (p : Pcap) → IsPcap p → pcap_bytes p ≡ bytes → MatchResult answer (λ q. q ≡ p) (λ e. e ≡ errors.NoMemory)
capture_is_found bytes (Ok q) says p p_is same =
    let one = one_answer bytes (Ok q) (Ok p) (value_told q) (value_told p) says (p_is, same) in cc
capture_is_found bytes (Err e) says p p_is same =
    elim (memory e) [
      | inl free ↦ free
      | inr known ↦ let one = one_answer bytes (Err e) (Ok p) (told e known) (value_told p) says (p_is, same) in absurd cc
    ]

-- a refusal that has its cause is answered
pub refusal_is_found : (bytes : List ℕ) (answer : Result Pcap PcapError) → Answers bytes answer
    → (e : PcapError) → e ≢ errors.NoMemory → IsRefused bytes e
    → MatchResult answer (λ _. ⊥) (λ d. (d ≡ e) ⊎ (d ≡ errors.NoMemory))
refusal_is_found bytes (Ok q) says e known cause =
    let one = one_answer bytes (Ok q) (Err e) (value_told q) (told e known) says cause in cc
refusal_is_found bytes (Err d) says e known cause =
    elim (memory d) [
      | inl free ↦ inr free
      | inr d_known ↦ let one = one_answer bytes (Err d) (Err e) (told d d_known) (told e known) says cause in inl cc
    ]
