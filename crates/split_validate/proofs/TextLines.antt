-- Which texts are those of splits, and where another goes wrong.
use Rattle.std.proofs.Common.{◌≡◌, ℕ, suc, ◌+◌, ◌≤◌, ◌<◌, ◌^◌, inl, inr, Bool, true, false, cond, List, [], ◌∷◌, ◌++◌, length, take, drop, Option, Some, None, refl, sym, ap, subst, ◌∙◌, arith, append_assoc}
use Rattle.std.specs.List.{AllByRecursion}
use Rattle.std.proofs.lemmas.Bool.{cases_lt}
use Rattle.std.proofs.lemmas.List.{append-nil, take-append-drop}
use Rattle.std.proofs.lemmas.Option.{same_Some}
use Rattle.gal_io.specs.Lines.{lines, is_skipped, told_of}
use Rattle.split_model.specs.declared.split.Part.{Part}
use Rattle.split_model.specs.Bounds.{HasFewStages}
use Rattle.split_validate.specs.SplitText.{split_text}
use Rattle.split_validate.specs.SplitLines.{AreLinesOf, Begins, IsFirstWrong, IsRefused, IsSplitText}
use Rattle.split_validate.specs.declared.reading.SplitTextError.TheVariants.{Line}
use Rattle.split_validate.specs.SplitSteps.{ended, line_read, step, taken, title}
use Rattle.split_validate.specs.declared.reading.Progress.{Progress}
use Rattle.split_validate.specs.declared.reading.Progress.TheVariants.{All}
use Rattle.split_validate.proofs.Gone.{Fits, at, last, parts_told, so_far, split_told}
use Rattle.gal_io.proofs.ToldLines.{IsTold, all_told}
use Rattle.split_validate.proofs.Told.{all_plain, few_of, low_of, text_lines}
use Rattle.split_validate.proofs.Steps.{IsEarly, can_go, early_stops, one_split, step_goes, step_stops, tail_is}
use Rattle.lemmas.proofs.Lists.{drop_line, line_within, lines_passed, take_fewer, take_line, take_lines}

-- ## Lines

told_append : (xs ys : List (List ℕ)) → told_of (xs ++ ys) ≡ told_of xs ++ told_of ys
told_append [] ys = refl
told_append (x ∷ xs) ys =
    let rest = told_append xs ys in
    elim (is_skipped x) as (λ b. cond b (told_of (xs ++ ys)) (x ∷ told_of (xs ++ ys)) ≡ cond b (told_of xs) (x ∷ told_of xs) ++ told_of ys) [ true ↦ rest | false ↦ ap (λ l. x ∷ l) rest ]

all_behind : (xs ys : List (List ℕ)) → AllByRecursion IsTold (xs ++ ys) → AllByRecursion IsTold ys
all_behind [] ys h = h
all_behind (x ∷ xs) ys h = all_behind xs ys h.1

-- the lines behind one more
pub drop_more : (n : ℕ) (l : List ℕ) (ls rest : List (List ℕ)) → drop n ls ≡ l ∷ rest → rest ≡ drop (n + 1) ls
drop_more n l ls rest e = let up : n + 1 ≡ suc n = omega arith in sym (ap (λ m. drop m ls) up ∙ drop_line n l ls rest e)

pub whole_told : (n : ℕ) (ls told : List (List ℕ)) → n ≤ length ls → drop n ls ≡ [] → told_of (take n ls) ≡ told → told_of ls ≡ told
whole_told n ls told h e t =
    let all = lines_passed n ls h e in
    ap told_of (sym (ap (λ m. take m ls) all ∙ take_lines ls)) ∙ t

-- ## One turn of the reader

pub turn_skipped : (n : ℕ) (ls rest told : List (List ℕ)) (l : List ℕ) → drop n ls ≡ l ∷ rest → is_skipped l ≡ true → told_of (take n ls) ≡ told → told_of (take (n + 1) ls) ≡ told
turn_skipped n ls rest told l e skipped t =
    let up : n + 1 ≡ suc n = omega arith in
    let none : told_of (l ∷ []) ≡ [] = rw skipped refl in
    ap (λ m. told_of (take m ls)) up ∙ ap told_of (take_line n l ls rest e) ∙ told_append (take n ls) (l ∷ [])
    ∙ ap (λ m. told_of (take n ls) ++ m) none ∙ append-nil (told_of (take n ls)) ∙ t

pub turn_taken : (n : ℕ) (ls rest told : List (List ℕ)) (l : List ℕ) → drop n ls ≡ l ∷ rest → is_skipped l ≡ false → told_of (take n ls) ≡ told → told_of (take (n + 1) ls) ≡ told ++ l ∷ []
turn_taken n ls rest told l e spoken t =
    let up : n + 1 ≡ suc n = omega arith in
    let one : told_of (l ∷ []) ≡ l ∷ [] = rw spoken refl in
    ap (λ m. told_of (take m ls)) up ∙ ap told_of (take_line n l ls rest e) ∙ told_append (take n ls) (l ∷ [])
    ∙ ap (λ m. told_of (take n ls) ++ m) one ∙ ap (λ m. m ++ l ∷ []) t

pub taken_yes : (b : Bool) (progress : Progress) (parts : List Part) (o : Option (Progress × List Part)) → taken b progress parts o → b ≡ true → o ≡ Some (at progress parts)
taken_yes true progress parts o h e = h
taken_yes false progress parts o h e = cc e

pub taken_no : (b : Bool) (progress : Progress) (parts : List Part) (o : Option (Progress × List Part)) → taken b progress parts o → b ≡ false → o ≡ None
taken_no true progress parts o h e = cc e
taken_no false progress parts o h e = h

-- what is known after a line
pub record TurnsTo (count n : ℕ) (ls : List (List ℕ)) (after : Progress × List Part) : Type 0 where
  pub fits : Fits count after.0 after.1
  pub told : told_of (take (n + 1) ls) ≡ so_far count after.0 after.1

line_by : (b : Bool) (count n : ℕ) (ls rest : List (List ℕ)) (l : List ℕ) (progress : Progress) (parts : List Part) (after : Progress × List Part) → count < 2 ^ 64 → is_skipped l ≡ b → drop n ls ≡ l ∷ rest → Fits count progress parts
    → told_of (take n ls) ≡ so_far count progress parts → cond b (Some (at progress parts)) (step count l progress parts) ≡ Some after → TurnsTo count n ls after
line_by true count n ls rest l progress parts after small b e f t h =
    subst (TurnsTo count n ls) (same_Some (at progress parts) after h) (record { fits = f; told = turn_skipped n ls rest (so_far count progress parts) l e b t })
line_by false count n ls rest l progress parts after small b e f t h =
    let goes = step_goes count l progress parts after small f h in
    record { fits = goes.fits; told = turn_taken n ls rest (so_far count progress parts) l e b t ∙ sym goes.told }

pub line_on : (count n : ℕ) (ls rest : List (List ℕ)) (l : List ℕ) (progress : Progress) (parts : List Part) (after : Progress × List Part) → count < 2 ^ 64 → drop n ls ≡ l ∷ rest → Fits count progress parts
    → told_of (take n ls) ≡ so_far count progress parts → line_read count l progress parts ≡ Some after → TurnsTo count n ls after
line_on count n ls rest l progress parts after small e f t h = line_by (is_skipped l) count n ls rest l progress parts after small refl e f t h

-- ## Texts

pub read_is : (count : ℕ) (text : List ℕ) (parts : List Part) → count < 2 ^ 64 → Fits count All parts → told_of (lines text) ≡ so_far count All parts → IsSplitText count text parts
read_is count text parts small f t =
    let full : length parts ≡ count = f.count_is in
    record {
      parts = full;
      stages = few_of parts f.low;
      told = t ∙ ap (λ n. title n ∷ (parts_told 0 parts ++ last ∷ [])) (sym full) ∙ sym (text_lines parts (omega (arith, full, small)) f.low);
    }

-- the lines of a split are told so
split_lines : (count : ℕ) (ls : List (List ℕ)) (split : List Part) → count < 2 ^ 64 → AreLinesOf count ls split → told_of ls ≡ split_told split
split_lines count ls split small h = h.told ∙ text_lines split (let e = h.parts in omega (arith, e, small)) (low_of split h.stages)

pub read_only : (count : ℕ) (text : List ℕ) (parts other : List Part) → count < 2 ^ 64 → Fits count All parts → told_of (lines text) ≡ so_far count All parts → IsSplitText count text other → other ≡ parts
read_only count text parts other small f t h =
    let full : length parts ≡ count = f.count_is in
    let there : length other ≡ count = h.parts in
    let same : split_told other ≡ so_far count All parts = sym (split_lines count (lines text) other small h) ∙ t in
    one_split 0 other parts (last ∷ []) (last ∷ []) (omega (arith, there, small)) (low_of other h.stages) f.low (there ∙ sym full)
    (tail_is (title (length other)) (title count) (parts_told 0 other ++ last ∷ []) (parts_told 0 parts ++ last ∷ []) same)

-- a text is one of at most one split
pub one_text : (count : ℕ) (text : List ℕ) (split other : List Part) → count < 2 ^ 64 → IsSplitText count text split → IsSplitText count text other → other ≡ split
one_text count text split other small one two =
    let told : told_of (lines text) ≡ so_far count All split =
    split_lines count (lines text) split small one ∙ ap (λ n. title n ∷ (parts_told 0 split ++ last ∷ [])) one.parts in
    read_only count text split other small (record { count_is = one.parts; low = low_of split one.stages }) told two

can_begin : (count : ℕ) (ls : List (List ℕ)) (progress : Progress) (parts : List Part) → count < 2 ^ 64 → Fits count progress parts → told_of ls ≡ so_far count progress parts → Begins count ls
can_begin count ls progress parts small f t =
    let go = can_go count progress parts f in
    let whole : length go.split < 2 ^ 64 = omega (arith, go.count_is, small) in
    let more_told = all_behind (so_far count progress parts) go.more (subst (AllByRecursion IsTold) go.told (all_plain go.split whole go.low)) in (
      go.more,
      go.split,
      record {
        parts = go.count_is;
        stages = few_of go.split go.low;
        told = told_append ls go.more ∙ ap (λ m. m ++ told_of go.more) t ∙ ap (λ m. so_far count progress parts ++ m) (all_told go.more more_told) ∙ sym go.told ∙ sym (text_lines go.split whole go.low);
      },
    )

refused_line : (count n : ℕ) (ls rest : List (List ℕ)) (l : List ℕ) (progress : Progress) (parts : List Part) → count < 2 ^ 64 → drop n ls ≡ l ∷ rest → is_skipped l ≡ false → Fits count progress parts → told_of (take n ls) ≡ so_far count progress parts
    → step count l progress parts ≡ None → Begins count (take (suc n) ls) → ⊥
refused_line count n ls rest l progress parts small e spoken f t stops b =
    let more = b.0 in
    let one : told_of (l ∷ more) ≡ l ∷ told_of more = rw spoken refl in
    let told : told_of (take (suc n) ls ++ more) ≡ so_far count progress parts ++ (l ∷ told_of more) =
    ap (λ m. told_of (m ++ more)) (take_line n l ls rest e) ∙ ap told_of (append_assoc (take n ls) (l ∷ []) more) ∙ told_append (take n ls) (l ∷ more)
    ∙ ap (λ m. told_of (take n ls) ++ m) one ∙ ap (λ m. m ++ (l ∷ told_of more)) t in
    step_stops count l progress parts small f stops b.1 (told_of more) b.2.parts (low_of b.1 b.2.stages) (sym (split_lines count (take (suc n) ls ++ more) b.1 small b.2) ∙ told)

wrong_line : (count n : ℕ) (ls rest : List (List ℕ)) (l : List ℕ) (progress : Progress) (parts : List Part) → count < 2 ^ 64 → drop n ls ≡ l ∷ rest → is_skipped l ≡ false → Fits count progress parts → told_of (take n ls) ≡ so_far count progress parts
    → step count l progress parts ≡ None → IsFirstWrong count ls n
wrong_line count n ls rest l progress parts small e spoken f t stops =
    let bad = refused_line count n ls rest l progress parts small e spoken f t stops in
    let inside = line_within n l ls rest e in
    record {
      within = omega (arith, inside);
      begins = can_begin count (take n ls) progress parts small f t;
      wrong = λ less b. bad b;
      none = λ split h. bad (drop (suc n) ls, split, subst (λ m. AreLinesOf count m split) (sym (take-append-drop (suc n) ls)) h);
    }

stop_by : (b : Bool) (count n : ℕ) (ls rest : List (List ℕ)) (l : List ℕ) (progress : Progress) (parts : List Part) → is_skipped l ≡ b → count < 2 ^ 64 → drop n ls ≡ l ∷ rest → Fits count progress parts
    → told_of (take n ls) ≡ so_far count progress parts → cond b (Some (at progress parts)) (step count l progress parts) ≡ None → IsFirstWrong count ls n
stop_by true count n ls rest l progress parts b small e f t h = cc h
stop_by false count n ls rest l progress parts b small e f t h = wrong_line count n ls rest l progress parts small e b f t h

pub line_stop : (count n : ℕ) (text : List ℕ) (rest : List (List ℕ)) (l : List ℕ) (progress : Progress) (parts : List Part) → count < 2 ^ 64 → drop n (lines text) ≡ l ∷ rest → Fits count progress parts
    → told_of (take n (lines text)) ≡ so_far count progress parts → line_read count l progress parts ≡ None → IsRefused count text (Line (n + 1))
line_stop count n text rest l progress parts small e f t stops =
    let up : n + 1 ≡ suc n = omega arith in
    (n, ap Line up, stop_by (is_skipped l) count n (lines text) rest l progress parts refl small e f t stops)

-- which lines were read at the end
pub ended_all : (progress : Progress) (parts found : List Part) → ended progress parts ≡ Some found → (progress ≡ All) × (parts ≡ found)
ended_all All parts found h = (refl, same_Some parts found h)
ended_all _ parts found h = cc h

pub ended_early : (progress : Progress) (parts : List Part) → ended progress parts ≡ None → IsEarly progress
ended_early All parts h = cc h
ended_early _ parts h = tt

-- what is known of the lines of the text at the end
pub record AllRead (count : ℕ) (text : List ℕ) (found : List Part) : Type 0 where
  pub fits : Fits count All found
  pub told : told_of (lines text) ≡ so_far count All found

pub all_read : (count n : ℕ) (text : List ℕ) (progress : Progress) (parts found : List Part) → n ≤ length (lines text) → drop n (lines text) ≡ [] → Fits count progress parts
    → told_of (take n (lines text)) ≡ so_far count progress parts → ended progress parts ≡ Some found → AllRead count text found
all_read count n text progress parts found h e f t is =
    let end = ended_all progress parts found is in
    subst (AllRead count text) end.1 (record {
      fits = subst (λ p. Fits count p parts) end.0 f;
      told = whole_told n (lines text) (so_far count progress parts) h e t ∙ ap (λ p. so_far count p parts) end.0;
    })

pub text_stop : (count n : ℕ) (text : List ℕ) (progress : Progress) (parts : List Part) → count < 2 ^ 64 → n ≤ length (lines text) → drop n (lines text) ≡ [] → IsEarly progress → Fits count progress parts
    → told_of (take n (lines text)) ≡ so_far count progress parts → IsRefused count text (Line (n + 1))
text_stop count n text progress parts small h e early f t =
    let ls = lines text in
    let all = lines_passed n ls h e in
    let up : n + 1 ≡ suc (length ls) = omega (arith, all) in
    let whole = whole_told n ls (so_far count progress parts) h e t in (
      length ls,
      ap Line up,
      record {
        within = omega arith;
        begins = subst (Begins count) (sym (take_lines ls)) (can_begin count ls progress parts small f whole);
        wrong = λ less b. absurd (omega (arith, less));
        none = λ split k. early_stops count progress parts split early f k.parts (sym (split_lines count ls split small k) ∙ whole);
      },
    )

-- what is printed is a text of the split
pub printed_is : (split : List Part) → length split < 2 ^ 64 → HasFewStages split → IsSplitText (length split) (split_text split) split
printed_is split small few =
    let low = low_of split few in
    record {
      parts = refl;
      stages = few;
      told = ap told_of (text_lines split small low) ∙ all_told (split_told split) (all_plain split small low) ∙ sym (text_lines split small low);
    }

-- ## One line is the first wrong one

begins_sooner : (count j k : ℕ) (ls : List (List ℕ)) → j ≤ k → Begins count (take k ls) → Begins count (take j ls)
begins_sooner count j k ls h b =
    let between = drop j (take k ls) in
    (between ++ b.0, b.1, subst (λ m. AreLinesOf count m b.1) (ap (λ m. m ++ b.0) (take_fewer j k ls h) ∙ append_assoc (take j ls) between b.0) b.2)

not_later : (count : ℕ) (ls : List (List ℕ)) (j k : ℕ) → IsFirstWrong count ls j → IsFirstWrong count ls k → j < k → ⊥
not_later count ls j k f g less = f.wrong (omega (arith, less, g.within)) (begins_sooner count (suc j) k ls (omega (arith, less)) g.begins)

pub first_wrong_once : (count : ℕ) (ls : List (List ℕ)) (j k : ℕ) → IsFirstWrong count ls j → IsFirstWrong count ls k → j ≡ k
first_wrong_once count ls j k f g =
    elim (cases_lt j k) [
      | inl less ↦ absurd (not_later count ls j k f g less)
      | inr some ↦ elim (cases_lt k j) [
        | inl less ↦ absurd (not_later count ls k j g f less)
        | inr more ↦ omega (arith, some, more)
      ]
    ]
