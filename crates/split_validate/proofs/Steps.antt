-- What a line adds to what was read, and which lines a split text can't go on with.
use Rattle.std.proofs.Common.{◌≡◌, ℕ, zero, suc, ◌+◌, ◌-◌, ◌≤◌, ◌<◌, ◌^◌, Bool, true, false, cond, ltb, List, [], ◌∷◌, ◌++◌, length, Option, Some, None, refl, sym, ap, subst, ◌∙◌, arith, append_assoc, length-append}
use Rattle.std.specs.Str.{bytes_eq}
use Rattle.std.proofs.lemmas.Bool.{true≢false, ltb-true, ltb-false}
use Rattle.std.proofs.lemmas.List.{append-nil}
use Rattle.std.proofs.lemmas.Option.{same_Some}
use Rattle.split_model.specs.declared.split.Slow.TheVariants.{Server}
use Rattle.split_model.specs.declared.split.Part.{Part}
use Rattle.split_validate.specs.SplitSteps.{is_title, part_of, step, title, with_part}
use Rattle.split_validate.specs.declared.reading.Progress.{Progress}
use Rattle.split_validate.specs.declared.reading.Progress.TheVariants.{Nothing, Title, All}
use Rattle.split_validate.proofs.Gone.{AreLow, Fits, IsLow, at, last, part_told, parts_told, so_far, split_told}
use Rattle.split_validate.proofs.PartLines.{part_back, part_sound, title_back, title_sound}
use Rattle.lemmas.proofs.Lists.{bytes_eq_same, bytes_eq_true}

-- ## Lists

pub head_is : {X : Type 0} (x y : X) (xs ys : List X) → x ∷ xs ≡ y ∷ ys → x ≡ y
head_is x y xs ys e = cc

pub tail_is : {X : Type 0} (x y : X) (xs ys : List X) → x ∷ xs ≡ y ∷ ys → xs ≡ ys
tail_is x y xs ys e = cc

pub parts_both : (i : ℕ) (ps qs : List Part) → parts_told i (ps ++ qs) ≡ parts_told i ps ++ parts_told (i + length ps) qs
parts_both i [] qs = let e : i ≡ i + 0 = omega arith in ap (λ n. parts_told n qs) e
parts_both i (p ∷ ps) qs =
    let e : suc i + length ps ≡ i + suc (length ps) = omega arith in
    ap (λ l. part_told i p ∷ l) (parts_both (suc i) ps qs ∙ ap (λ n. parts_told (suc i) ps ++ parts_told n qs) e)

low_both : (ps qs : List Part) → AreLow ps → AreLow qs → AreLow (ps ++ qs)
low_both [] qs h k = k
low_both (p ∷ ps) qs h k = (h.0, low_both ps qs h.1 k)

-- ## A line that is taken

-- after the line
pub record GoesTo (count : ℕ) (line : List ℕ) (progress : Progress) (parts : List Part) (after : Progress × List Part) : Type 0 where
  pub fits : Fits count after.0 after.1
  pub told : so_far count after.0 after.1 ≡ so_far count progress parts ++ line ∷ []

taken_one : {A : Type 0} (t : Bool) (x y : A) → cond t (Some x) None ≡ Some y → (t ≡ true) × (x ≡ y)
taken_one true x y h = (refl, same_Some x y h)
taken_one false x y h = cc

with_one : (parts : List Part) (o : Option Part) (after : Progress × List Part) → with_part parts o ≡ Some after → (part : Part) × (o ≡ Some part) × (at Title (parts ++ part ∷ []) ≡ after)
with_one parts None after h = cc
with_one parts (Some part) after h = (part, refl, same_Some (at Title (parts ++ part ∷ [])) after h)

part_goes : (count : ℕ) (line : List ℕ) (parts : List Part) (part : Part) → count < 2 ^ 64 → Fits count Title parts → length parts < count → part_of (length parts) line ≡ Some part → GoesTo count line Title parts (at Title (parts ++ part ∷ []))
part_goes count line parts part small f less e =
    let found = part_sound (length parts) part line (omega (arith, less, small)) e in
    let from : 0 + length parts ≡ length parts = omega arith in
    record {
      fits = record {
        count_is = omega (arith, less, length-append parts (part ∷ []));
        low = low_both parts (part ∷ []) f.low (found.1, tt);
      };
      told = ap (λ l. title count ∷ l) (parts_both 0 parts (part ∷ []) ∙ ap (λ n. parts_told 0 parts ++ part_told n part ∷ []) from ∙ ap (λ l. parts_told 0 parts ++ l ∷ []) (sym found.0));
    }

last_goes : (count : ℕ) (line : List ℕ) (parts : List Part) → Fits count Title parts → count ≤ length parts → line ≡ last → GoesTo count line Title parts (at All parts)
last_goes count line parts f full e =
    let few : length parts ≤ count = f.count_is in
    record {
      fits = record { count_is = omega (arith, few, full); low = f.low };
      told = ap (λ l. title count ∷ (parts_told 0 parts ++ l ∷ [])) (sym e);
    }

title_goes : (b : Bool) (count : ℕ) (line : List ℕ) (parts : List Part) (after : Progress × List Part) → count < 2 ^ 64 → ltb (length parts) count ≡ b → Fits count Title parts
    → cond b (with_part parts (part_of (length parts) line)) (cond (bytes_eq line last) (Some (at All parts)) None) ≡ Some after → GoesTo count line Title parts after
title_goes true count line parts after small b f h =
    let found = with_one parts (part_of (length parts) line) after h in
    subst (GoesTo count line Title parts) found.2 (part_goes count line parts found.0 small f (ltb-true (length parts) count b) found.1)
title_goes false count line parts after small b f h =
    let found = taken_one (bytes_eq line last) (at All parts) after h in
    subst (GoesTo count line Title parts) found.1 (last_goes count line parts f (ltb-false (length parts) count b) (bytes_eq_true line last found.0))

first_goes : (count : ℕ) (line : List ℕ) (parts : List Part) → Fits count Nothing parts → line ≡ title count → GoesTo count line Nothing parts (at Title parts)
first_goes count line parts f e =
    let none : parts ≡ [] = f.count_is in
    record {
      fits = record { count_is = let e = ap length none in omega (arith, e); low = f.low };
      told = ap (λ q. title count ∷ parts_told 0 q) none ∙ ap (λ l. l ∷ []) (sym e);
    }

pub step_goes : (count : ℕ) (line : List ℕ) (progress : Progress) (parts : List Part) (after : Progress × List Part) → count < 2 ^ 64 → Fits count progress parts → step count line progress parts ≡ Some after → GoesTo count line progress parts after
step_goes count line Nothing parts after small f h =
    let found = taken_one (is_title count line) (at Title parts) after h in
    subst (GoesTo count line Nothing parts) found.1 (first_goes count line parts f (title_sound count line small found.0))
step_goes count line Title parts after small f h = title_goes (ltb (length parts) count) count line parts after small refl f h
step_goes count line All parts after small f h = cc

-- ## A line that isn't

refused_one : {A : Type 0} (t : Bool) (x : A) → cond t (Some x) None ≡ None → t ≡ false
refused_one true x h = cc
refused_one false x h = refl

with_none : (parts : List Part) (o : Option Part) → with_part parts o ≡ None → o ≡ None
with_none parts None h = refl
with_none parts (Some part) h = cc

-- behind the lines of fewer parts comes the line of a part
pub part_here : (i : ℕ) (parts split : List Part) (line : List ℕ) (more rest : List (List ℕ)) → parts_told i split ++ rest ≡ parts_told i parts ++ (line ∷ more) → length parts < length split → AreLow split
    → (part : Part) × IsLow part × (line ≡ part_told (i + length parts) part)
part_here i [] [] line more rest e less low = absurd (omega (arith, less))
part_here i [] (s ∷ ss) line more rest e less low =
    let here : i ≡ i + 0 = omega arith in
    (s, low.0, sym (head_is (part_told i s) line (parts_told (suc i) ss ++ rest) more e) ∙ ap (λ n. part_told n s) here)
part_here i (p ∷ ps) [] line more rest e less low = absurd (omega (arith, less))
part_here i (p ∷ ps) (s ∷ ss) line more rest e less low =
    let found = part_here (suc i) ps ss line more rest (tail_is (part_told i s) (part_told i p) (parts_told (suc i) ss ++ rest) (parts_told (suc i) ps ++ (line ∷ more)) e) (omega (arith, less)) low.1 in
    let next : suc i + length ps ≡ i + suc (length ps) = omega arith in
    (found.0, found.1, found.2 ∙ ap (λ n. part_told n found.0) next)

-- behind the lines of as many parts comes what stands behind them
pub end_here : (i : ℕ) (parts split : List Part) (rest more : List (List ℕ)) → parts_told i split ++ rest ≡ parts_told i parts ++ more → length parts ≡ length split → rest ≡ more
end_here i [] [] rest more e same = e
end_here i [] (s ∷ ss) rest more e same = absurd (omega (arith, same))
end_here i (p ∷ ps) [] rest more e same = absurd (omega (arith, same))
end_here i (p ∷ ps) (s ∷ ss) rest more e same =
    end_here (suc i) ps ss rest more (tail_is (part_told i s) (part_told i p) (parts_told (suc i) ss ++ rest) (parts_told (suc i) ps ++ more) e) (omega (arith, same))

-- no split text goes on with this line
abbrev pub Stops : ℕ → List ℕ → Progress → List Part → Type 0
Stops count line progress parts =
    (split : List Part) (more : List (List ℕ)) → length split ≡ count → AreLow split → split_told split ≡ so_far count progress parts ++ (line ∷ more) → ⊥

part_stops : (count : ℕ) (line : List ℕ) (parts : List Part) → count < 2 ^ 64 → length parts < count → part_of (length parts) line ≡ None → Stops count line Title parts
part_stops count line parts small less h split more is low e =
    let found = part_here 0 parts split line more (last ∷ []) (tail_is (title (length split)) (title count) (parts_told 0 split ++ last ∷ []) (parts_told 0 parts ++ (line ∷ more)) e) (omega (arith, less, is)) low in
    let from : 0 + length parts ≡ length parts = omega arith in
    let back : part_of (length parts) line ≡ Some found.0 =
    ap (part_of (length parts)) (found.2 ∙ ap (λ n. part_told n found.0) from) ∙ part_back (length parts) found.0 (omega (arith, less, small)) found.1 in
    let wrong : Some found.0 ≡ None = sym back ∙ h in
    cc wrong

last_stops : (count : ℕ) (line : List ℕ) (parts : List Part) → Fits count Title parts → count ≤ length parts → bytes_eq line last ≡ false → Stops count line Title parts
last_stops count line parts f full h split more is low e =
    let few : length parts ≤ count = f.count_is in
    let behind = end_here 0 parts split (last ∷ []) (line ∷ more) (tail_is (title (length split)) (title count) (parts_told 0 split ++ last ∷ []) (parts_told 0 parts ++ (line ∷ more)) e) (omega (arith, few, full, is)) in
    let same : last ≡ line = head_is last line [] more behind in
    true≢false (sym (bytes_eq_same line) ∙ ap (bytes_eq line) (sym same) ∙ h)

title_stops : (b : Bool) (count : ℕ) (line : List ℕ) (parts : List Part) → count < 2 ^ 64 → ltb (length parts) count ≡ b → Fits count Title parts
    → cond b (with_part parts (part_of (length parts) line)) (cond (bytes_eq line last) (Some (at All parts)) None) ≡ None → Stops count line Title parts
title_stops true count line parts small b f h = part_stops count line parts small (ltb-true (length parts) count b) (with_none parts (part_of (length parts) line) h)
title_stops false count line parts small b f h = last_stops count line parts f (ltb-false (length parts) count b) (refused_one (bytes_eq line last) (at All parts) h)

first_stops : (count : ℕ) (line : List ℕ) (parts : List Part) → count < 2 ^ 64 → is_title count line ≡ false → Stops count line Nothing parts
first_stops count line parts small h split more is low e =
    let same : title (length split) ≡ line = head_is (title (length split)) line (parts_told 0 split ++ last ∷ []) more e in
    true≢false (sym (title_back count small) ∙ ap (is_title count) (ap title (sym is) ∙ same) ∙ h)

all_stops : (count : ℕ) (line : List ℕ) (parts : List Part) → Fits count All parts → Stops count line All parts
all_stops count line parts f split more is low e =
    let full : length parts ≡ count = f.count_is in
    let tails : parts_told 0 split ++ last ∷ [] ≡ parts_told 0 parts ++ (last ∷ (line ∷ more)) =
    tail_is (title (length split)) (title count) (parts_told 0 split ++ last ∷ []) ((parts_told 0 parts ++ last ∷ []) ++ (line ∷ more)) e
    ∙ append_assoc (parts_told 0 parts) (last ∷ []) (line ∷ more) in
    let behind = end_here 0 parts split (last ∷ []) (last ∷ (line ∷ more)) tails (full ∙ sym is) in
    let none : [] ≡ line ∷ more = tail_is last last [] (line ∷ more) behind in
    cc none

pub step_stops : (count : ℕ) (line : List ℕ) (progress : Progress) (parts : List Part) → count < 2 ^ 64 → Fits count progress parts → step count line progress parts ≡ None → Stops count line progress parts
step_stops count line Nothing parts small f h = first_stops count line parts small (refused_one (is_title count line) (at Title parts) h)
step_stops count line Title parts small f h = title_stops (ltb (length parts) count) count line parts small refl f h
step_stops count line All parts small f h = all_stops count line parts f

-- ## Lines that end too early

-- some lines are missing
abbrev pub IsEarly : Progress → Type 0
IsEarly All = ⊥
IsEarly _ = Unit {0}

too_short : (i : ℕ) (parts split : List Part) (x : List ℕ) (rest : List (List ℕ)) → parts_told i split ++ (x ∷ rest) ≡ parts_told i parts → length parts ≤ length split → ⊥
too_short i [] [] x rest e few = cc
too_short i [] (s ∷ ss) x rest e few = cc
too_short i (p ∷ ps) [] x rest e few = absurd (omega (arith, few))
too_short i (p ∷ ps) (s ∷ ss) x rest e few =
    too_short (suc i) ps ss x rest (tail_is (part_told i s) (part_told i p) (parts_told (suc i) ss ++ (x ∷ rest)) (parts_told (suc i) ps) e) (omega (arith, few))

pub early_stops : (count : ℕ) (progress : Progress) (parts split : List Part) → IsEarly progress → Fits count progress parts → length split ≡ count → split_told split ≡ so_far count progress parts → ⊥
early_stops count Nothing parts split early f is e = cc
early_stops count Title parts split early f is e =
    let few : length parts ≤ count = f.count_is in
    too_short 0 parts split last [] (tail_is (title (length split)) (title count) (parts_told 0 split ++ last ∷ []) (parts_told 0 parts) e) (omega (arith, few, is))
early_stops count All parts split early f is e = absurd early

-- ## Lines that may follow

-- a split text that begins so
pub record CanGo (count : ℕ) (progress : Progress) (parts : List Part) : Type 0 where
  pub split : List Part
  pub more : List (List ℕ)
  pub count_is : length split ≡ count
  pub low : AreLow split
  pub told : split_told split ≡ so_far count progress parts ++ more

blank : Part
blank = record { pre = None; slow = Server }

filling : ℕ → List Part
filling zero = []
filling (suc n) = blank ∷ filling n

length-filling : (n : ℕ) → length (filling n) ≡ n
unfolding filling
length-filling zero = refl
length-filling (suc n) = ap suc (length-filling n)

filling_low : (n : ℕ) → AreLow (filling n)
unfolding filling blank
filling_low zero = tt
filling_low (suc n) = ((tt, tt), filling_low n)

pub can_go : (count : ℕ) (progress : Progress) (parts : List Part) → Fits count progress parts → CanGo count progress parts
can_go count Nothing parts f = record {
  split = filling count;
  more = split_told (filling count);
  count_is = length-filling count;
  low = filling_low count;
  told = refl;
}
can_go count Title parts f =
    let few : length parts ≤ count = f.count_is in
    let rest = filling (count - length parts) in
    let whole : length (parts ++ rest) ≡ count = omega (arith, few, length-append parts rest, length-filling (count - length parts)) in
    record {
      split = parts ++ rest;
      more = parts_told (0 + length parts) rest ++ last ∷ [];
      count_is = whole;
      low = low_both parts rest f.low (filling_low (count - length parts));
      told = ap (λ n. title n ∷ (parts_told 0 (parts ++ rest) ++ last ∷ [])) whole
          ∙ ap (λ l. title count ∷ (l ++ last ∷ [])) (parts_both 0 parts rest)
          ∙ ap (λ l. title count ∷ l) (append_assoc (parts_told 0 parts) (parts_told (0 + length parts) rest) (last ∷ []));
    }
can_go count All parts f =
    let full : length parts ≡ count = f.count_is in
    record {
      split = parts;
      more = [];
      count_is = full;
      low = f.low;
      told = ap (λ n. title n ∷ (parts_told 0 parts ++ last ∷ [])) full ∙ sym (append-nil (so_far count All parts));
    }

-- ## One split for all lines

pub one_split : (i : ℕ) (xs ys : List Part) (us vs : List (List ℕ)) → i + length xs < 2 ^ 64 → AreLow xs → AreLow ys → length xs ≡ length ys → parts_told i xs ++ us ≡ parts_told i ys ++ vs → xs ≡ ys
one_split i [] [] us vs small low low' same e = refl
one_split i [] (y ∷ ys) us vs small low low' same e = absurd (omega (arith, same))
one_split i (x ∷ xs) [] us vs small low low' same e = absurd (omega (arith, same))
one_split i (x ∷ xs) (y ∷ ys) us vs small low low' same e =
    let lines_are = head_is (part_told i x) (part_told i y) (parts_told (suc i) xs ++ us) (parts_told (suc i) ys ++ vs) e in
    let first : x ≡ y = same_Some x y (sym (part_back i x (omega (arith, small)) low.0) ∙ ap (part_of i) lines_are ∙ part_back i y (omega (arith, small)) low'.0) in
    let behind : xs ≡ ys =
    one_split (suc i) xs ys us vs (omega (arith, small)) low.1 low'.1 (omega (arith, same)) (tail_is (part_told i x) (part_told i y) (parts_told (suc i) xs ++ us) (parts_told (suc i) ys ++ vs) e) in
    cc
