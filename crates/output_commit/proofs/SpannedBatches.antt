-- Batches by where their changes stand, and commands by their place.
use Rattle.std.proofs.Common.{◌≡◌, ℕ, ◌+◌, ◌-◌, ◌*◌, ◌<◌, ◌≤◌, Bool, leb, ltb, List, [], ◌∷◌, ◌++◌, Some, inl, inr, refl, sym, subst, ◌∙◌, ap, arith, zero, suc, map, length, take, drop, length-append, length-drop, get_or}
use Rattle.std.specs.Prelude.{slice_get}
use Rattle.std.specs.List.{AllByRecursion as Each}
use Rattle.std.proofs.lemmas.Bool.{cases_Bool, cases_lt, cases_eq, eq-eqb, le-leb, ltb-true, ltb-false, lt-leb, ne_eqb}
use Rattle.std.proofs.lemmas.List.{length-map, length-take-le}
use Rattle.std.proofs.lemmas.Option.{none-some, same_Some}
use Rattle.writeback_table.specs.declared.command.Update.{Update}
use Rattle.writeback_table.specs.declared.command.Command.TheVariants.{Stage, On, Main, Off, Clear}
use Rattle.writeback_table.specs.Commands.{clear_of, commands_of}
use Rattle.output_commit.specs.declared.span.Span.{Span}
use Rattle.output_commit.specs.Batches.{Batch, commands_in, merged}
use Rattle.output_commit.specs.Spans.{AreJoined, batch_in, shown_by, span_len, stands, total}
use Rattle.writeback_table.proofs.Ons.{length_batch}
use Rattle.output_commit.proofs.VisibleVersions.{shown, shown_zero}
use Rattle.lemmas.proofs.Lists.{get_front}

-- ## Spans within all changes

abbrev pub AreFull : List Update → List Span → Type 0
AreFull us spans = Each (λ (s : Span). length (batch_in us s).updates ≡ s.changes) spans

length_part : (us : List Update) (first n : ℕ) → first + n ≤ length us → length (take n (drop first us)) ≡ n
length_part us first n h = let l = length-drop first us in length-take-le n (drop first us) (omega arith)

pub joined_upto : (from : ℕ) (spans : List Span) (upto : ℕ) → AreJoined from spans upto → from ≤ upto
joined_upto from [] upto h = omega arith
joined_upto from (s ∷ ss) upto h = let r = joined_upto (from + s.changes) ss upto h.2 in omega arith

pub are_full : (us : List Update) (from : ℕ) (spans : List Span) (upto : ℕ) → upto ≤ length us → AreJoined from spans upto → AreFull us spans
are_full us from [] upto le h = tt
are_full us from (s ∷ ss) upto le h =
    let r = joined_upto (from + s.changes) ss upto h.2 in
    let e = h.0 in
    (length_part us s.first s.changes (omega arith), are_full us (from + s.changes) ss upto le h.2)

pub full_append : (us : List Update) (xs ys : List Span) → AreFull us (xs ++ ys) → AreFull us xs × AreFull us ys
full_append us [] ys h = (tt, h)
full_append us (x ∷ xs) ys h = let r = full_append us xs ys h.1 in ((h.0, r.0), r.1)

pub joined_parts : (from : ℕ) (xs ys : List Span) (upto : ℕ) → AreJoined from (xs ++ ys) upto → (mid : ℕ) × (AreJoined from xs mid × AreJoined mid ys upto)
joined_parts from [] ys upto h = (from, (refl, h))
joined_parts from (x ∷ xs) ys upto h = let r = joined_parts (from + x.changes) xs ys upto h.2 in (r.0, ((h.0, h.1, r.1.0), r.1.1))

pub joined_both : (from : ℕ) (xs ys : List Span) (mid upto : ℕ) → AreJoined from xs mid → AreJoined mid ys upto → AreJoined from (xs ++ ys) upto
joined_both from [] ys mid upto h k = subst (λ m. AreJoined m ys upto) (sym h) k
joined_both from (x ∷ xs) ys mid upto h k = (h.0, h.1, joined_both (from + x.changes) xs ys mid upto h.2 k)

pub total_append : (xs ys : List Span) → total (xs ++ ys) ≡ total xs + total ys
total_append [] ys = omega arith
total_append (x ∷ xs) ys = let r = total_append xs ys in omega arith

pub len_is : (us : List Update) (s : Span) → length (batch_in us s).updates ≡ s.changes → length (commands_of (batch_in us s).updates) ≡ span_len s
len_is us s h = let l = length_batch (batch_in us s).updates in omega arith

pub total_is : (us : List Update) (spans : List Span) → AreFull us spans → length (commands_in (map (batch_in us) spans)) ≡ total spans
total_is us [] h = refl
total_is us (s ∷ ss) h =
    let a = length-append (commands_of (batch_in us s).updates) (commands_in (map (batch_in us) ss)) in
    let l = len_is us s h.0 in
    let r = total_is us ss h.1 in omega arith

-- ## The command at a place

pub get_behind : {X : Type 0} (xs ys : List X) (n : ℕ) → length xs ≤ n → slice_get (xs ++ ys) n ≡ slice_get ys (n - length xs)
get_behind [] ys n h = let e : n ≡ n - 0 = omega arith in ap (slice_get ys) e
get_behind (x ∷ xs) ys zero h = absurd (omega arith)
get_behind (x ∷ xs) ys (suc n) h = let e : suc n - suc (length xs) ≡ n - length xs = omega arith in rw e (get_behind xs ys n (omega arith))

pub stands_get : (us : List Update) (spans : List Span) (n : ℕ) (s : Span) (k : ℕ) → AreFull us spans → stands spans n ≡ Some (s, k)
    → slice_get (commands_in (map (batch_in us) spans)) n ≡ slice_get (commands_of (batch_in us s).updates) k
stands_get us [] n s k full h = absurd (none-some _ h)
stands_get us (x ∷ xs) n s k full h =
    let cs = commands_of (batch_in us x).updates in
    let l = len_is us x full.0 in
    elim (cases_Bool (ltb n (span_len x))) [
      | inl t ↦
          let lt = ltb-true n (span_len x) t in
          let is : (x, n) ≡ (s, k) = same_Some _ _ (rw t at h) in
          get_front cs (commands_in (map (batch_in us) xs)) n (omega arith)
          ∙ ap (λ (p : Span × ℕ). slice_get (commands_of (batch_in us p.0).updates) p.1) is
      | inr f ↦
          let le = ltb-false n (span_len x) f in
          let rest : stands xs (n - span_len x) ≡ Some (s, k) = rw f at h in
          get_behind cs (commands_in (map (batch_in us) xs)) n (omega arith)
          ∙ ap (λ m. slice_get (commands_in (map (batch_in us) xs)) (n - m)) l
          ∙ stands_get us xs (n - span_len x) s k full.1 rest
    ]

pub record StandsIn (upto all : ℕ) (s : Span) (k : ℕ) : Type 0 where
  pub within : s.first + s.changes ≤ upto
  pub few : s.versions ≤ s.changes
  pub step : k < span_len s
  pub total : span_len s ≤ all

pub stands_in : (from : ℕ) (spans : List Span) (upto n : ℕ) (s : Span) (k : ℕ) → AreJoined from spans upto → stands spans n ≡ Some (s, k) → StandsIn upto (total spans) s k
stands_in from [] upto n s k j h = absurd (none-some _ h)
stands_in from (x ∷ xs) upto n s k j h = elim (cases_Bool (ltb n (span_len x))) [
  | inl t ↦
      let lt = ltb-true n (span_len x) t in
      let is : (x, n) ≡ (s, k) = same_Some _ _ (rw t at h) in
      let r = joined_upto (from + x.changes) xs upto j.2 in
      let e = j.0 in
      subst (λ (p : Span × ℕ). StandsIn upto (span_len x + total xs) p.0 p.1) is
      (record { within = omega arith; few = j.1; step = lt; total = omega arith })
  | inr f ↦
      let rest : stands xs (n - span_len x) ≡ Some (s, k) = rw f at h in
      let r = stands_in (from + x.changes) xs upto (n - span_len x) s k j.2 rest in
      let more = r.total in
      record { within = r.within; few = r.few; step = r.step; total = omega arith }
]

pub stands_front : (xs ys : List Span) (n : ℕ) → n < total xs → stands (xs ++ ys) n ≡ stands xs n
stands_front [] ys n h = absurd (omega arith)
stands_front (x ∷ xs) ys n h = elim (cases_Bool (ltb n (span_len x))) [
  | inl t ↦ rw t refl
  | inr f ↦ let le = ltb-false n (span_len x) f in rw f (stands_front xs ys (n - span_len x) (omega arith))
]

-- ## What a command makes visible

-- in the first batch
first_shown : (us : List Update) (x : Span) (bs : List Batch) (n : ℕ) → length (batch_in us x).updates ≡ x.changes → n < span_len x
    → shown (batch_in us x ∷ bs) (n + 1) ≡ shown (batch_in us x ∷ bs) n + shown_by x n
first_shown us x bs n full lt =
    let l = len_is us x full in
    let w = length (batch_in us x).updates in
    let z : n - length (commands_of (batch_in us x).updates) ≡ 0 = omega arith in
    let y : n + 1 - length (commands_of (batch_in us x).updates) ≡ 0 = omega arith in
    let nothing = shown_zero bs in
    elim (cases_lt n x.changes) [
      | inl low ↦
          let a = le-leb (n + 1) w (omega arith) in let b = le-leb n w (omega arith) in
          let c = ne_eqb n x.changes (λ e. omega arith) in
          rw (a, b, c) (omega arith)
      | inr high ↦ elim (cases_eq n x.changes) [
        | inl e ↦
            let a = lt-leb (n + 1) w (omega arith) in let b = le-leb n w (omega arith) in
            let c = eq-eqb n x.changes e in
            rw (a, b, c, y) (omega arith)
        | inr d ↦
            let more : x.changes < n = above n x.changes high d in
            let a = lt-leb (n + 1) w (omega arith) in let b = lt-leb n w (omega arith) in
            let c = ne_eqb n x.changes d in
            rw (a, b, c, y, z) (omega arith)
      ]
    ]
  where
    above : (a b : ℕ) → b ≤ a → (a ≡ b → ⊥) → b < a
    above a b h d = elim (cases_lt b a) [ inl lt ↦ lt | inr ge ↦ absurd (d (omega arith)) ]

pub shown_next : (us : List Update) (spans : List Span) (n : ℕ) (s : Span) (k : ℕ) → AreFull us spans → stands spans n ≡ Some (s, k)
    → shown (map (batch_in us) spans) (n + 1) ≡ shown (map (batch_in us) spans) n + shown_by s k
shown_next us [] n s k full h = absurd (none-some _ h)
shown_next us (x ∷ xs) n s k full h = elim (cases_Bool (ltb n (span_len x))) [
  | inl t ↦
      let lt = ltb-true n (span_len x) t in
      let is : (x, n) ≡ (s, k) = same_Some _ _ (rw t at h) in
      subst (λ (p : Span × ℕ). shown (map (batch_in us) (x ∷ xs)) (n + 1) ≡ shown (map (batch_in us) (x ∷ xs)) n + shown_by p.0 p.1) is
      (first_shown us x (map (batch_in us) xs) n full.0 lt)
  | inr f ↦
      let le = ltb-false n (span_len x) f in
      let l = len_is us x full.0 in
      let rest : stands xs (n - span_len x) ≡ Some (s, k) = rw f at h in
      let r = shown_next us xs (n - span_len x) s k full.1 rest in
      let a = lt-leb (n + 1) (length (batch_in us x).updates) (let w = full.0 in omega arith) in
      let b = lt-leb n (length (batch_in us x).updates) (let w = full.0 in omega arith) in
      let y : n + 1 - length (commands_of (batch_in us x).updates) ≡ n - span_len x + 1 = omega arith in
      let z : n - length (commands_of (batch_in us x).updates) ≡ n - span_len x = omega arith in
      rw (a, b, y, z) (omega arith)
]

-- no more versions than commands
pub shown_few : (us : List Update) (from : ℕ) (spans : List Span) (upto n : ℕ) → AreJoined from spans upto → shown (map (batch_in us) spans) n ≤ total spans
shown_few us from [] upto n h = omega arith
shown_few us from (x ∷ xs) upto n h =
    let few = h.1 in
    elim (cases_Bool (leb n (length (batch_in us x).updates))) [
      | inl t ↦ rw t (omega arith)
      | inr f ↦ rw f (let r = shown_few us (from + x.changes) xs upto (n - length (commands_of (batch_in us x).updates)) h.2 in omega arith)
    ]

-- ## Where a batch begins, and where none does

-- behind the commands of these spans the next one begins
pub merged_begins : (us : List Update) (f : List Update → Bool) (xs ys : List Span) → AreFull us xs
    → merged f (total xs) (map (batch_in us) (xs ++ ys)) ≡ map (batch_in us) xs ++ merged f 0 (map (batch_in us) ys)
merged_begins us f [] ys full = refl
merged_begins us f (x ∷ xs) ys full =
    let l = len_is us x full.0 in
    let n = span_len x + total xs in
    let a = ne_eqb n 0 (λ e. omega arith) in
    let b = le-leb (length (commands_of (batch_in us x).updates)) n (omega arith) in
    let e : n - length (commands_of (batch_in us x).updates) ≡ total xs = omega arith in
    rw (a, b, e) (ap (λ bs. batch_in us x ∷ bs) (merged_begins us f xs ys full.1))

-- within a batch none begins
pub merged_within : (us : List Update) (f : List Update → Bool) (k : ℕ) (xs ys : List Span) (n : ℕ) → AreFull us (take (suc k) xs)
    → total (take k xs) < n → n < total (take (suc k) xs)
    → merged f n (map (batch_in us) (take (suc k) xs ++ ys)) ≡ map (batch_in us) (take (suc k) xs ++ ys)
merged_within us f k [] ys n full low high = absurd (omega arith)
merged_within us f zero (x ∷ xs) ys n full low high =
    let l = len_is us x full.0 in
    let a = ne_eqb n 0 (λ e. omega arith) in
    let b = lt-leb (length (commands_of (batch_in us x).updates)) n (omega arith) in
    rw (a, b) refl
merged_within us f (suc k) (x ∷ xs) ys n full low high =
    let l = len_is us x full.0 in
    let a = ne_eqb n 0 (λ e. omega arith) in
    let b = le-leb (length (commands_of (batch_in us x).updates)) n (omega arith) in
    let e : n - length (commands_of (batch_in us x).updates) ≡ n - span_len x = omega arith in
    rw (a, b, e) (ap (λ bs. batch_in us x ∷ bs) (merged_within us f k xs ys (n - span_len x) full.1 (omega arith) (omega arith)))

-- ## The last group of a batch

get_map : {X Y : Type 0} (f : X → Y) (xs : List X) (n : ℕ) (x : X) → n < length xs → x ≡ get_or xs n x → slice_get (map f xs) n ≡ Some (f x)
get_map f [] n x h at = absurd (omega arith)
get_map f (y ∷ xs) zero x h at = ap (λ z. Some (f z)) (sym at)
get_map f (y ∷ xs) (suc n) x h at = get_map f xs n x (omega arith) at

pub clear_at : (us : List Update) (p : ℕ) (u : Update) → 2 * length us + 2 ≤ p → p < 3 * length us + 2
    → u ≡ get_or us (p - 2 * length us - 2) u → Some (Clear u.object u.key) ≡ slice_get (commands_of us) p
clear_at us p u low high at =
    let stages = map (λ v. Stage v) us in
    let mains = map (λ v. Main v) us in
    let clears = map clear_of us in
    let a = length-map us (λ v. Stage v) in
    let b = length-map us (λ v. Main v) in
    let r = p - 2 * length us - 2 in
    let q = r + 1 + length us in
    let e : p - length stages ≡ suc q = omega arith in
    let f : q - length mains ≡ suc r = omega arith in
    sym (get_behind stages (On ∷ (mains ++ (Off ∷ clears))) p (omega arith)
    ∙ ap (slice_get (On ∷ (mains ++ (Off ∷ clears)))) e
    ∙ get_behind mains (Off ∷ clears) q (omega arith)
    ∙ ap (slice_get (Off ∷ clears)) f
    ∙ get_map clear_of us r u (omega arith) at)
