-- The lines of packets, printed and read.
use Rattle.std.proofs.Common.{◌≡◌, ℕ, ◌≤◌, ◌<◌, ◌^◌, Bool, true, false, cond, eqb, List, [], ◌∷◌, ◌++◌, Option, Some, None, refl, sym, ap, ◌∙◌, subst, arith}
use Rattle.std.specs.Prelude.{codes, Result, Ok, Err}
use Rattle.std.specs.Fmt.{decimal}
use Rattle.std.specs.Str.{bytes_eq}
use Rattle.std.proofs.lemmas.Bool.{eqb-true}
use Rattle.std.proofs.lemmas.Bool.Decides.{nat_tests}
use Rattle.std.proofs.lemmas.Option.{same_Some}
use Rattle.hex.specs.Hex.{IsBytes, decode_of, encode_lower, encode_with}
use Rattle.hex.specs.declared.error.FromHexError.{FromHexError}
use Rattle.hex.proofs.HexLemmas.{decode_of-ok}
use Rattle.packet_fields.specs.declared.verdict.Verdict.{Verdict}
use Rattle.packet_fields.specs.declared.verdict.Verdict.TheVariants.{Drop, Send}
use Rattle.run_model.specs.declared.fate.Fate.{Fate}
use Rattle.run_model.specs.declared.fate.Fate.TheVariants.{Pass, Up, Held, Slow, Fast}
use Rattle.run_text.specs.Body.{body_with, spelled_by}
use Rattle.run_text.specs.Report.{body_text}
use Rattle.run_text.specs.Trace.{largest}
use Rattle.report_text.specs.declared.fate.Stamps.{Stamps}
use Rattle.report_text.specs.Form.{IsFate, IsVerdict}
use Rattle.report_text.specs.Parse.{◌>>=◌, admitted_at, after, as_printed, body_at, fast_at, fate_of, or_else, pass_at, path_at, released_at, send_at, slow_at, stamps_at, up_at, verdict_at, slow_by}
use Rattle.report_text.proofs.Pieces.{after_back, after_is, after_other, bound, labelled_back, whole_is, numbered, IsTextOf}
use Rattle.lemmas.proofs.Lists.{bytes_eq_true}
use Rattle.lemmas.proofs.Tests.{some_of_cond}
use Rattle.run_text.proofs.PrintedBack.{spelled_back}
use Rattle.gal_io.proofs.Spaces.{is_cut}

-- ---- bytes

body_back : (bytes : List ℕ) → IsBytes bytes → body_at (body_text bytes) ≡ Some bytes
body_back bytes h = ap as_printed (spelled_back bytes h)

body_of_some : (bytes : List ℕ) (b : ℕ) (bs : List ℕ) → encode_lower bytes ≡ b ∷ bs → b ∷ bs ≡ body_text bytes
unfolding encode_with
body_of_some [] b bs h = cc
body_of_some (x ∷ bytes) b bs h = sym h

encoded_is : (d : Result (List ℕ) FromHexError) (b : ℕ) (bs bytes : List ℕ) → decode_of (b ∷ bs) ≡ d → as_printed (spelled_by (b ∷ bs) d) ≡ Some bytes → IsTextOf IsBytes body_text (b ∷ bs) bytes
encoded_is (Err e) b bs bytes d h = cc
encoded_is (Ok found) b bs bytes d h =
    some_of_cond (bytes_eq (encode_lower found) (b ∷ bs)) bytes (Some found) h (λ same e.
    subst (IsTextOf IsBytes body_text (b ∷ bs)) (same_Some found bytes e) (record {
      are = (decode_of-ok (b ∷ bs) found d).3;
      is = body_of_some found b bs (bytes_eq_true (encode_lower found) (b ∷ bs) same);
    }))

body_is : (body bytes : List ℕ) → body_at body ≡ Some bytes → IsTextOf IsBytes body_text body bytes
body_is [] bytes h = cc
body_is (b ∷ bs) bytes h =
    elim (bytes_eq (b ∷ bs) (codes "-")) as (λ t. bytes_eq (b ∷ bs) (codes "-") ≡ t → as_printed (cond t (Some (body_with [] true)) (spelled_by (b ∷ bs) (decode_of (b ∷ bs)))) ≡ Some bytes → IsTextOf IsBytes body_text (b ∷ bs) bytes) [
      | true ↦ λ t e. subst (IsTextOf IsBytes body_text (b ∷ bs)) (same_Some [] bytes e) (record { are = λ i. omega arith; is = bytes_eq_true (b ∷ bs) (codes "-") t })
      | false ↦ λ t e. encoded_is (decode_of (b ∷ bs)) b bs bytes refl e
    ] refl h

-- ---- verdicts

abbrev pub verdict_with : Verdict → List ℕ
verdict_with Drop = codes " drop"
verdict_with (Send port bytes) = codes " send " ++ (decimal port ++ (codes " " ++ body_text bytes))

verdict_back : (v : Verdict) → IsVerdict v → verdict_at (verdict_with v) ≡ Some v
unfolding verdict_at
verdict_back Drop h = refl
verdict_back (Send port bytes) h =
    rw (
      labelled_back 255 port (codes " send ") (codes " " ++ body_text bytes) h.0 (omega arith) refl,
      after_back (codes " ") (body_text bytes),
      body_back bytes h.1,
    ) refl

send_is : (line : List ℕ) (v : Verdict) → send_at line ≡ Some v → IsTextOf IsVerdict verdict_with line v
send_is line v h =
    numbered 255 (codes " send ") line _ v (omega arith) h (λ p port ep hp.
    bound (after (codes " ") p.1) _ v hp (λ b eb hb.
    bound (body_at b) _ v hb (λ bytes ey hy.
    let y = body_is b bytes ey in
    subst (IsTextOf IsVerdict verdict_with line) (same_Some (Send p.0 bytes) v hy) (record {
      are = (port, y.are);
      is = rw (ep, after_is (codes " ") p.1 b eb, y.is) refl;
    }))))

verdict_by : (t : Bool) (line : List ℕ) (v : Verdict) → bytes_eq line (codes " drop") ≡ t → cond t (Some Drop) (send_at line) ≡ Some v → IsTextOf IsVerdict verdict_with line v
verdict_by true line v t h = subst (IsTextOf IsVerdict verdict_with line) (same_Some Drop v h) (record { are = tt; is = bytes_eq_true line (codes " drop") t })
verdict_by false line v t h = send_is line v h

verdict_is : (line : List ℕ) (v : Verdict) → verdict_at line ≡ Some v → IsTextOf IsVerdict verdict_with line v
unfolding verdict_at
verdict_is line v h = verdict_by (bytes_eq line (codes " drop")) line v refl h

-- ---- releases

abbrev pub released_with : ℕ → Verdict → List ℕ
released_with r v = codes " released " ++ (decimal r ++ verdict_with v)

verdict_cut : (v : Verdict) → is_cut (verdict_with v) ≡ true
verdict_cut Drop = refl
verdict_cut (Send port bytes) = refl

released_back : (r : ℕ) (v : Verdict) → r < 2 ^ 32 → IsVerdict v → released_at (released_with r v) ≡ Some (r, v)
unfolding released_at
released_back r v small h = rw (labelled_back largest r (codes " released ") (verdict_with v) (omega arith) (omega arith) (verdict_cut v), verdict_back v h) refl

record IsRelease (line : List ℕ) (x : ℕ × Verdict) : Type 0 where
  small : x.0 < 2 ^ 32
  are : IsVerdict x.1
  is : line ≡ released_with x.0 x.1

released_is : (line : List ℕ) (x : ℕ × Verdict) → released_at line ≡ Some x → IsRelease line x
unfolding released_at
released_is line x h =
    numbered largest (codes " released ") line _ x (omega arith) h (λ r small er hr.
    bound (verdict_at r.1) _ x hr (λ v ev hv.
    let y = verdict_is r.1 v ev in
    subst (IsRelease line) (same_Some (r.0, v) x hv) (record { small = omega (arith, small); are = y.are; is = rw (er, y.is) refl })))

-- ---- stamps

abbrev pub stamps_with : Stamps → List ℕ → List ℕ
stamps_with s rest =
    codes " admitted " ++ (decimal s.admitted ++ (codes " decided " ++ (decimal s.decided
    ++ (codes " version " ++ (decimal s.version ++ rest)))))

abbrev AreStamps : Stamps → Type 0
AreStamps s = (s.admitted < 2 ^ 32) × (s.decided < 2 ^ 32) × (s.version < 2 ^ 32)

stamps_back : (s : Stamps) (rest : List ℕ) → AreStamps s → is_cut rest ≡ true → stamps_at (stamps_with s rest) ≡ Some (s, rest)
unfolding stamps_at
stamps_back s rest h cut =
    let r2 = codes " version " ++ (decimal s.version ++ rest) in
    let r1 = codes " decided " ++ (decimal s.decided ++ r2) in
    rw (
      labelled_back largest s.admitted (codes " admitted ") r1 (omega (arith, h.0)) (omega arith) refl,
      labelled_back largest s.decided (codes " decided ") r2 (omega (arith, h.1)) (omega arith) refl,
      labelled_back largest s.version (codes " version ") rest (omega (arith, h.2)) (omega arith) cut,
    ) refl

stamps_is : (line : List ℕ) (x : Stamps × List ℕ) → stamps_at line ≡ Some x → AreStamps x.0 × (line ≡ stamps_with x.0 x.1)
unfolding stamps_at
stamps_is line x h =
    numbered largest (codes " admitted ") line _ x (omega arith) h (λ a admitted ea ha.
    numbered largest (codes " decided ") a.1 _ x (omega arith) ha (λ d decided ed hd.
    numbered largest (codes " version ") d.1 _ x (omega arith) hd (λ v version ev hv.
    subst (λ (z : Stamps × List ℕ). AreStamps z.0 × (line ≡ stamps_with z.0 z.1)) (same_Some _ x hv) (
      (omega (arith, admitted), omega (arith, decided), omega (arith, version)),
      rw (ea, ed, ev) refl,
    ))))

-- ---- fates

abbrev pub stamps_of : ℕ → ℕ → ℕ → Stamps
stamps_of a d v = record { admitted = a; decided = d; version = v }

abbrev pub admitted_with : ℕ → List ℕ
admitted_with a = codes " admitted " ++ (decimal a ++ [])

abbrev pub path_with : Fate → List ℕ
path_with (Pass a) = codes " pass" ++ admitted_with a
path_with (Up a) = codes " up" ++ admitted_with a
path_with (Held a d v) = codes " slow" ++ stamps_with (stamps_of a d v) (codes " held")
path_with (Slow a d v r y) = codes " slow" ++ stamps_with (stamps_of a d v) (released_with r y)
path_with (Fast a d v r y) = codes " fast" ++ stamps_with (stamps_of a d v) (released_with r y)

-- the line of a packet, without its end
abbrev pub fate_told : ℕ → Fate → List ℕ
fate_told number fate = codes "packet " ++ (decimal number ++ path_with fate)

slow_path : (rest : List ℕ) (f : Fate) → slow_at rest ≡ Some f → path_at (codes " slow" ++ rest) ≡ Some f
slow_path rest f h = rw (after_other (codes " pass") (codes " slow" ++ rest) refl, after_other (codes " up") (codes " slow" ++ rest) refl, after_back (codes " slow") rest) h

-- ` slow` is as long as ` pass`, so that the first step deals with both
fast_path : (rest : List ℕ) (f : Fate) → fast_at rest ≡ Some f → path_at (codes " fast" ++ rest) ≡ Some f
fast_path rest f h =
    rw (after_other (codes " pass") (codes " fast" ++ rest) refl, after_other (codes " up") (codes " fast" ++ rest) refl, after_back (codes " fast") rest) h

admitted_back : (a : ℕ) → a < 2 ^ 32 → admitted_at (admitted_with a) ≡ Some a
unfolding admitted_at
admitted_back a h = rw (labelled_back largest a (codes " admitted ") [] (omega arith) (omega arith) refl) refl

path_back : (f : Fate) → IsFate f → path_at (path_with f) ≡ Some f
unfolding slow_at fast_at
path_back (Pass a) h = rw (after_back (codes " pass") (admitted_with a)) (rw (admitted_back a h) refl)
path_back (Up a) h =
    rw (after_other (codes " pass") (codes " up" ++ admitted_with a) refl, after_back (codes " up") (admitted_with a)) (rw (admitted_back a h) refl)
path_back (Held a d v) h =
    slow_path (stamps_with (stamps_of a d v) (codes " held")) (Held a d v) (rw (stamps_back (stamps_of a d v) (codes " held") h refl) refl)
path_back (Slow a d v r y) h =
    slow_path (stamps_with (stamps_of a d v) (released_with r y)) (Slow a d v r y)
    (rw (stamps_back (stamps_of a d v) (released_with r y) (h.0, h.1, h.2) refl, released_back r y h.3 h.4) refl)
path_back (Fast a d v r y) h =
    fast_path (stamps_with (stamps_of a d v) (released_with r y)) (Fast a d v r y)
    (rw (stamps_back (stamps_of a d v) (released_with r y) (h.0, h.1, h.2) refl, released_back r y h.3 h.4) refl)

path_cut : (f : Fate) → is_cut (path_with f) ≡ true
path_cut (Pass a) = refl
path_cut _ = refl

pub fate_back : (n : ℕ) (f : Fate) → n ≤ largest → IsFate f → fate_of n (fate_told n f) ≡ Some f
unfolding fate_of
fate_back n f small h =
    let same : eqb n n ≡ true = grind (arith, nat_tests) in
    rw (labelled_back largest n (codes "packet ") (path_with f) small (omega arith) (path_cut f), same) (path_back f h)

admitted_is : (line : List ℕ) (a : ℕ) → admitted_at line ≡ Some a → (a < 2 ^ 32) × (line ≡ admitted_with a)
unfolding admitted_at
admitted_is line a h =
    numbered largest (codes " admitted ") line _ a (omega arith) h (λ x small ex hx.
    let end = whole_is _ a x.1 hx in
    subst (λ (n : ℕ). (n < 2 ^ 32) × (line ≡ admitted_with n)) end.1 (omega (arith, small), rw (ex, end.0) refl))

pass_is : (line rest : List ℕ) (f : Fate) → line ≡ codes " pass" ++ rest → pass_at rest ≡ Some f → IsTextOf IsFate path_with line f
pass_is line rest f e h =
    bound (admitted_at rest) _ f h (λ a ea ha.
    let l = admitted_is rest a ea in
    subst (IsTextOf IsFate path_with line) (same_Some _ f ha) (record { are = l.0; is = rw (e, l.1) refl }))

up_is : (line rest : List ℕ) (f : Fate) → line ≡ codes " up" ++ rest → up_at rest ≡ Some f → IsTextOf IsFate path_with line f
up_is line rest f e h =
    bound (admitted_at rest) _ f h (λ a ea ha.
    let l = admitted_is rest a ea in
    subst (IsTextOf IsFate path_with line) (same_Some _ f ha) (record { are = l.0; is = rw (e, l.1) refl }))

held_by : (t : Bool) (line rest : List ℕ) (s : Stamps) (f : Fate) → AreStamps s → line ≡ codes " slow" ++ stamps_with s rest
    → bytes_eq rest (codes " held") ≡ t → cond t (Some (Held s.admitted s.decided s.version)) (released_at rest >>= (λ o. Some (slow_by s o))) ≡ Some f → IsTextOf IsFate path_with line f
held_by true line rest s f h e t k =
    subst (IsTextOf IsFate path_with line) (same_Some _ f k) (record { are = h; is = rw (e, bytes_eq_true rest (codes " held") t) refl })
held_by false line rest s f h e t k =
    bound (released_at rest) _ f k (λ o eo ho.
    let l = released_is rest o eo in
    subst (IsTextOf IsFate path_with line) (same_Some _ f ho) (record { are = (h.0, h.1, h.2, l.small, l.are); is = rw (e, l.is) refl }))

slow_is : (line rest : List ℕ) (f : Fate) → line ≡ codes " slow" ++ rest → slow_at rest ≡ Some f → IsTextOf IsFate path_with line f
unfolding slow_at
slow_is line rest f e h =
    bound (stamps_at rest) _ f h (λ s es hs.
    let l = stamps_is rest s es in
    held_by (bytes_eq s.1 (codes " held")) line s.1 s.0 f l.0 (e ∙ ap (λ r. codes " slow" ++ r) l.1) refl hs)

fast_is : (line rest : List ℕ) (f : Fate) → line ≡ codes " fast" ++ rest → fast_at rest ≡ Some f → IsTextOf IsFate path_with line f
unfolding fast_at
fast_is line rest f e h =
    bound (stamps_at rest) _ f h (λ s es hs.
    bound (released_at s.1) _ f hs (λ o eo ho.
    let l = stamps_is rest s es in
    let k = released_is s.1 o eo in
    subst (IsTextOf IsFate path_with line) (same_Some _ f ho) (record { are = (l.0.0, l.0.1, l.0.2, k.small, k.are); is = rw (e, l.1, k.is) refl })))

-- the word that the line begins with is one of these, or what else there is gives the value
first_of : {A P : Type 0} (word line : List ℕ) (f : List ℕ → Option A) (other : Option A) (a : A) → or_else (after word line) f other ≡ Some a
    → ((rest : List ℕ) → line ≡ word ++ rest → f rest ≡ Some a → P) → (other ≡ Some a → P) → P
first_of {P = P} word line f other a h one more =
    elim (after word line) as (λ o. after word line ≡ o → or_else o f other ≡ Some a → P) [
      | Some rest ↦ λ e k. one rest (after_is word line rest e) k
      | None ↦ λ e k. more k
    ] refl h

path_is : (line : List ℕ) (f : Fate) → path_at line ≡ Some f → IsTextOf IsFate path_with line f
path_is line f h =
    first_of (codes " pass") line pass_at _ f h (λ rest e k. pass_is line rest f e k) (λ h1.
    first_of (codes " up") line up_at _ f h1 (λ rest e k. up_is line rest f e k) (λ h2.
    first_of (codes " slow") line slow_at _ f h2 (λ rest e k. slow_is line rest f e k) (λ h3.
    bound (after (codes " fast") line) fast_at f h3 (λ rest e k. fast_is line rest f (after_is (codes " fast") line rest e) k))))

pub fate_is : (n : ℕ) (line : List ℕ) (f : Fate) → fate_of n line ≡ Some f → IsTextOf IsFate (fate_told n) line f
unfolding fate_of
fate_is n line f h =
    numbered largest (codes "packet ") line _ f (omega arith) h (λ p small ep hp.
    some_of_cond (eqb p.0 n) f (path_at p.1) hp (λ same found.
    let l = path_is p.1 f found in
    record { are = l.are; is = rw (ep, eqb-true p.0 n same, l.is) refl }))
