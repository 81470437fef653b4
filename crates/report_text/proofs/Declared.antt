-- What is known of declared objects.
use Rattle.std.proofs.Common.{◌≡◌, ℕ, zero, suc, ◌+◌, ◌-◌, ◌^◌, ◌≤◌, ◌<◌, Bool, true, false, not, ◌&&◌, cond, ltb, List, [], ◌∷◌, ◌++◌, length, drop, Option, Some, None, refl, sym, ap, ◌∙◌, subst, arith}
use Rattle.std.specs.Prelude.{codes, slice_get, slice_index}
use Rattle.std.specs.Str.{bytes_eq}
use Rattle.std.specs.List.{list_all, list_any}
use Rattle.std.proofs.lemmas.Bool.{and_parts, or_parts, not-true}
use Rattle.std.proofs.lemmas.Bool.Decides.{nat_tests}
use Rattle.state_store.specs.declared.object.ObjectDecl.{ObjectDecl}
use Rattle.state_store.specs.Kinds.{is_table}
use Rattle.report_text.specs.Form.{are_apart, are_declared, are_widths, is_declared, is_plain, kept_from}
use Rattle.report_text.specs.Machine.{next_from, shown_count, shown_from, shown_or}
use Rattle.report_text.specs.Parse.{count_of}
use Rattle.report_text.proofs.PartLines.{HasCount, count_back, count_is, part_told}
use Rattle.run_text.specs.Trace.{largest}
use Rattle.std.proofs.lemmas.Slice.Eq.{bytes_eq-Decides}
use Rattle.std.proofs.lemmas.Option.{same_Some}
use Rattle.lemmas.proofs.Lists.{drop_got}

-- the facts of one object
pub record IsKnown (o : ObjectDecl) : Type 0 where
  pub name : is_plain o.name ≡ true
  pub keys : are_widths o.keys ≡ true
  pub values : are_widths o.values ≡ true

known : (o : ObjectDecl) → is_declared o ≡ true → IsKnown o
known o h =
    let p = and_parts (is_plain o.name && are_widths o.keys) (are_widths o.values) h in
    let q = and_parts (is_plain o.name) (are_widths o.keys) p.0 in
    record { name = q.0; keys = q.1; values = p.1 }

known_at : (declared : List ObjectDecl) (n : ℕ) (o : ObjectDecl) → list_all is_declared declared ≡ true → slice_get declared n ≡ Some o → IsKnown o
known_at [] n o h e = cc e
known_at (d ∷ ds) zero o h e = subst IsKnown (same_Some d o e) (known d (and_parts (is_declared d) (list_all is_declared ds) h).0)
known_at (d ∷ ds) (suc n) o h e = known_at ds n o (and_parts (is_declared d) (list_all is_declared ds) h).1 e

pub record AreKnown (declared : List ObjectDecl) : Type 0 where
  pub few : length declared < 2 ^ 32
  pub each : (n : ℕ) (o : ObjectDecl) → slice_get declared n ≡ Some o → IsKnown o
  pub all : list_all is_declared declared ≡ true
  pub apart : are_apart declared ≡ true

pub all_known : (declared : List ObjectDecl) → are_declared declared ≡ true → AreKnown declared
all_known declared h =
    let p = and_parts (ltb (length declared) (2 ^ 32) && list_all is_declared declared) (are_apart declared) h in
    let q = and_parts (ltb (length declared) (2 ^ 32)) (list_all is_declared declared) p.0 in
    record { few = grind (arith, nat_tests, q.0); each = λ n o e. known_at declared n o q.1 e; all = q.1; apart = p.1 }

-- ---- a list from a place on

pub got_dropped : (declared : List ObjectDecl) (n : ℕ) (o : ObjectDecl) (rest : List ObjectDecl) → drop n declared ≡ o ∷ rest → slice_get declared n ≡ Some o
got_dropped (d ∷ ds) (suc n) o rest e = got_dropped ds n o rest e
got_dropped [] zero o rest e = cc e
got_dropped _ _ o rest e = cc e

pub drop_next : (declared : List ObjectDecl) (n : ℕ) (o : ObjectDecl) (rest : List ObjectDecl) → drop n declared ≡ o ∷ rest → drop (suc n) declared ≡ rest
drop_next declared n o rest e = let g = drop_got declared n o (got_dropped declared n o rest e) in let both : o ∷ drop (suc n) declared ≡ o ∷ rest = sym g ∙ e in cc both

-- ---- the next object that is no table

pub record IsNext (n : ℕ) (objects : List ObjectDecl) (declared : List ObjectDecl) (m : ℕ) : Type 0 where
  pub object : ObjectDecl
  pub is : slice_get declared m ≡ Some object
  pub kind : is_table object.kind ≡ false
  pub later : n ≤ m
  pub kept : kept_from n objects ≡ m ∷ kept_from (suc m) (drop (suc m) declared)

next_by : (t : Bool) (n : ℕ) (o : ObjectDecl) (objects declared : List ObjectDecl) (m : ℕ) → is_table o.kind ≡ t → drop n declared ≡ o ∷ objects
    → (next_from (suc n) objects ≡ Some m → IsNext (suc n) objects declared m)
    → cond t (next_from (suc n) objects) (Some n) ≡ Some m → IsNext n (o ∷ objects) declared m
next_by true n o objects declared m t e more h =
    let x = more h in
    record { object = x.object; is = x.is; kind = x.kind; later = omega (arith, x.later); kept = rw t x.kept }
next_by false n o objects declared m t e more h =
    subst (IsNext n (o ∷ objects) declared) (same_Some n m h) (record {
      object = o;
      is = got_dropped declared n o objects e;
      kind = t;
      later = omega arith;
      kept = rw t (ap (λ l. n ∷ kept_from (suc n) l) (sym (drop_next declared n o objects e)));
    })

pub next_is : (n : ℕ) (objects declared : List ObjectDecl) (m : ℕ) → drop n declared ≡ objects → next_from n objects ≡ Some m → IsNext n objects declared m
next_is n [] declared m e h = cc h
next_is n (o ∷ objects) declared m e h =
    next_by (is_table o.kind) n o objects declared m refl e (λ k. next_is (suc n) objects declared m (drop_next declared n o objects e) k) h

-- the next object is the first that is kept
next_first : (n : ℕ) (objects : List ObjectDecl) → next_from n objects ≡ slice_get (kept_from n objects) 0
next_first n [] = refl
next_first n (o ∷ objects) =
    elim (is_table o.kind) as (λ t. cond t (next_from (suc n) objects) (Some n) ≡ slice_get (cond t (kept_from (suc n) objects) (n ∷ kept_from (suc n) objects)) 0) [
      | true ↦ next_first (suc n) objects
      | false ↦ refl
    ]

pub next_kept : (n : ℕ) (objects : List ObjectDecl) (ms : List ℕ) → kept_from n objects ≡ ms → next_from n objects ≡ slice_get ms 0
next_kept n objects ms h = next_first n objects ∙ ap (λ ks. slice_get ks 0) h

no_first : (ms : List ℕ) → slice_get ms 0 ≡ None → ms ≡ []
no_first [] h = refl
no_first (m ∷ ms) h = cc

pub next_none : (n : ℕ) (objects : List ObjectDecl) → next_from n objects ≡ None → kept_from n objects ≡ []
next_none n objects h = no_first (kept_from n objects) (sym (next_first n objects) ∙ h)

-- ---- the object of a switch line

pub record IsShown (n : ℕ) (declared : List ObjectDecl) (said : List ℕ) (m count : ℕ) : Type 0 where
  pub object : ObjectDecl
  pub is : slice_get declared m ≡ Some object
  pub kind : is_table object.kind ≡ false
  pub later : n ≤ m
  pub line : HasCount (codes "switch ") object.name said count

shown_here : (t : Bool) (n : ℕ) (o : ObjectDecl) (objects declared : List ObjectDecl) (l : List ℕ) (count : ℕ) → is_table o.kind ≡ t → drop n declared ≡ o ∷ objects
    → cond t None (count_of (codes "switch ") o.name l) ≡ Some count → IsShown n declared l n count
shown_here true n o objects declared l count t e h = cc h
shown_here false n o objects declared l count t e h =
    record { object = o; is = got_dropped declared n o objects e; kind = t; later = omega arith; line = count_is (codes "switch ") o.name l count h }

shown_by : (c : Option ℕ) (n : ℕ) (o : ObjectDecl) (objects declared : List ObjectDecl) (l : List ℕ) (x : ℕ × ℕ) → shown_count o l ≡ c → drop n declared ≡ o ∷ objects
    → (shown_from (suc n) objects l ≡ Some x → IsShown (suc n) declared l x.0 x.1)
    → shown_or n c (shown_from (suc n) objects l) ≡ Some x → IsShown n declared l x.0 x.1
shown_by (Some count) n o objects declared l x c e more h =
    subst (λ (z : ℕ × ℕ). IsShown n declared l z.0 z.1) (same_Some (n, count) x h) (shown_here (is_table o.kind) n o objects declared l count refl e c)
shown_by None n o objects declared l x c e more h =
    let y = more h in record { object = y.object; is = y.is; kind = y.kind; later = omega (arith, y.later); line = y.line }

pub shown_is : (n : ℕ) (objects declared : List ObjectDecl) (l : List ℕ) (x : ℕ × ℕ) → drop n declared ≡ objects → shown_from n objects l ≡ Some x → IsShown n declared l x.0 x.1
shown_is n [] declared l x e h = cc h
shown_is n (o ∷ objects) declared l x e h =
    shown_by (shown_count o l) n o objects declared l x refl e (λ k. shown_is (suc n) objects declared l x (drop_next declared n o objects e) k) h

-- ---- a switch line has one object

plain_front : (a b xs ys : List ℕ) → is_plain a ≡ true → is_plain b ≡ true → a ++ (32 ∷ xs) ≡ b ++ (32 ∷ ys) → a ≡ b
plain_front [] [] xs ys ha hb e = refl
plain_front [] (y ∷ b) xs ys ha hb e =
    let first : 32 ≡ y = ap (λ l. slice_index l 0) e in
    absurd (grind (arith, nat_tests, first, (and_parts (ltb 32 y) (is_plain b) hb).0))
plain_front (x ∷ a) [] xs ys ha hb e =
    let first : x ≡ 32 = ap (λ l. slice_index l 0) e in
    absurd (grind (arith, nat_tests, first, (and_parts (ltb 32 x) (is_plain a) ha).0))
plain_front (x ∷ a) (y ∷ b) xs ys ha hb e =
    let first : x ≡ y = ap (λ l. slice_index l 0) e in
    let rest = plain_front a b xs ys (and_parts (ltb 32 x) (is_plain a) ha).1 (and_parts (ltb 32 y) (is_plain b) hb).1 (ap (drop 1) e) in
    cc

other_by : (c : Option ℕ) (name other : List ℕ) (count : ℕ) → is_plain name ≡ true → is_plain other ≡ true → bytes_eq other name ≡ false
    → count_of (codes "switch ") other (part_told (codes "switch ") name count) ≡ c → c ≡ None
other_by None name other count hn ho d e = refl
other_by (Some found) name other count hn ho d e =
    let r = count_is (codes "switch ") other (part_told (codes "switch ") name count) found e in
    let same : name ≡ other = plain_front name other _ _ hn ho (ap (drop 7) r.is) in
    let wrong : true ≡ false = sym ((bytes_eq-Decides other name).1 (sym same)) ∙ d in
    cc wrong

-- another object doesn't have the line
other_none : (t : Bool) (o : ObjectDecl) (name : List ℕ) (count : ℕ) → is_table o.kind ≡ t → is_plain name ≡ true → is_plain o.name ≡ true → bytes_eq o.name name ≡ false
    → cond t None (count_of (codes "switch ") o.name (part_told (codes "switch ") name count)) ≡ None
other_none true o name count t hn ho d = refl
other_none false o name count t hn ho d = other_by (count_of (codes "switch ") o.name (part_told (codes "switch ") name count)) name o.name count hn ho d refl

differs : (name : List ℕ) (objects : List ObjectDecl) (k : ℕ) (o : ObjectDecl) → list_any (λ (p : ObjectDecl). bytes_eq name p.name) objects ≡ false → slice_get objects k ≡ Some o → bytes_eq name o.name ≡ false
differs name [] k o h e = cc e
differs name (d ∷ ds) zero o h e =
    subst (λ (p : ObjectDecl). bytes_eq name p.name ≡ false) (same_Some d o e) (or_parts (bytes_eq name d.name) (list_any (λ (p : ObjectDecl). bytes_eq name p.name) ds) h).0
differs name (d ∷ ds) (suc k) o h e = differs name ds k o (or_parts (bytes_eq name d.name) (list_any (λ (p : ObjectDecl). bytes_eq name p.name) ds) h).1 e

pub shown_found : (objects : List ObjectDecl) (n k : ℕ) (o : ObjectDecl) (count : ℕ) → list_all is_declared objects ≡ true → are_apart objects ≡ true → slice_get objects k ≡ Some o → is_table o.kind ≡ false → count ≤ largest
    → shown_from n objects (part_told (codes "switch ") o.name count) ≡ Some (n + k, count)
shown_found [] n k o count h a e t small = cc e
shown_found (d ∷ ds) n zero o count h a e t small =
    let same = same_Some d o e in
    let here : n ≡ n + 0 = omega arith in
    let one : shown_count o (part_told (codes "switch ") o.name count) ≡ Some count = rw t (count_back (codes "switch ") o.name count small) in
    let at : shown_count d (part_told (codes "switch ") o.name count) ≡ Some count = subst (λ (p : ObjectDecl). shown_count p (part_told (codes "switch ") o.name count) ≡ Some count) (sym same) one in
    rw at (ap (λ m. Some (m, count)) here)
shown_found (d ∷ ds) n (suc k) o count h a e t small =
    let hp = and_parts (is_declared d) (list_all is_declared ds) h in
    let ap2 = and_parts (not (list_any (λ (p : ObjectDecl). bytes_eq d.name p.name) ds)) (are_apart ds) a in
    let differ = differs d.name ds k o (not-true (list_any (λ (p : ObjectDecl). bytes_eq d.name p.name) ds) ap2.0) e in
    let plain = (known_at ds k o hp.1 e).name in
    let none : shown_count d (part_told (codes "switch ") o.name count) ≡ None = other_none (is_table d.kind) d o.name count refl plain (known d hp.0).name differ in
    let later : suc n + k ≡ n + suc k = omega arith in
    rw none (shown_found ds (suc n) k o count hp.1 ap2.1 e t small ∙ ap (λ m. Some (m, count)) later)

all_drop : (n : ℕ) (objects : List ObjectDecl) → list_all is_declared objects ≡ true → list_all is_declared (drop n objects) ≡ true
all_drop zero [] h = refl
all_drop (suc n) [] h = refl
all_drop zero (d ∷ ds) h = h
all_drop (suc n) (d ∷ ds) h = all_drop n ds (and_parts (is_declared d) (list_all is_declared ds) h).1

apart_drop : (n : ℕ) (objects : List ObjectDecl) → are_apart objects ≡ true → are_apart (drop n objects) ≡ true
apart_drop zero [] h = refl
apart_drop (suc n) [] h = refl
apart_drop zero (d ∷ ds) h = h
apart_drop (suc n) (d ∷ ds) h = apart_drop n ds (and_parts (not (list_any (λ (p : ObjectDecl). bytes_eq d.name p.name) ds)) (are_apart ds) h).1

got_later : (n m : ℕ) (objects : List ObjectDecl) (o : ObjectDecl) → n ≤ m → slice_get objects m ≡ Some o → slice_get (drop n objects) (m - n) ≡ Some o
got_later zero m [] o h e = cc e
got_later (suc n) m [] o h e = cc e
got_later zero m (d ∷ ds) o h e = let same : m - 0 ≡ m = omega arith in rw same e
got_later (suc n) zero (d ∷ ds) o h e = absurd (omega (arith, h))
got_later (suc n) (suc m) (d ∷ ds) o h e = let same : suc m - suc n ≡ m - n = omega arith in rw same (got_later n m ds o (omega (arith, h)) e)

pub shown_back : (declared : List ObjectDecl) (n m : ℕ) (o : ObjectDecl) (count : ℕ) → list_all is_declared declared ≡ true → are_apart declared ≡ true → n ≤ m → slice_get declared m ≡ Some o → is_table o.kind ≡ false → count ≤ largest
    → shown_from n (drop n declared) (part_told (codes "switch ") o.name count) ≡ Some (m, count)
shown_back declared n m o count h a later e t small =
    let same : n + (m - n) ≡ m = omega (arith, later) in
    shown_found (drop n declared) n (m - n) o count (all_drop n declared h) (apart_drop n declared a) (got_later n m declared o later e) t small ∙ ap (λ k. Some (k, count)) same
