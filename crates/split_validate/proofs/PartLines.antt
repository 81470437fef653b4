-- The line of a part, as it is printed and as it is read.
use Rattle.std.proofs.Common.{◌≡◌, ℕ, ◌⊎◌, inl, inr, ◌<◌, ◌^◌, Bool, true, false, ◌&&◌, cond, eqb, List, [], ◌∷◌, ◌++◌, Option, Some, None, refl, ap, subst, ◌∙◌, lit<, arith}
use Rattle.std.specs.Prelude.{codes}
use Rattle.std.specs.Fmt.{decimal}
use Rattle.std.specs.Option.{option_map}
use Rattle.std.specs.Str.{all_ascii_digits, bytes_eq}
use Rattle.std.specs.List.{list_any, list_all, before_first, after_first}
use Rattle.std.proofs.lemmas.Bool.{and_parts, eqb-true, eq-eqb}
use Rattle.std.proofs.lemmas.Bool.Decides.{nat_tests}
use Rattle.std.proofs.lemmas.Option.{same_Some}
use Rattle.gal_io.specs.Number.{number_up_to}
use Rattle.split_model.specs.declared.split.Slow.{Slow}
use Rattle.split_model.specs.declared.split.Slow.TheVariants.{Carried, Server, Post}
use Rattle.split_model.specs.declared.split.Part.{Part}
use Rattle.split_validate.specs.SplitText.{pre_text, slow_text}
use Rattle.gal_io.specs.Lines.{is_space}
use Rattle.split_validate.specs.SplitSteps.{is_count, is_it, is_title, part_of, part_with, post_of, pre_of, slow_of, stage_of, title, words_of, writes}
use Rattle.split_validate.proofs.Gone.{IsLow, IsLowPre, IsLowSlow, part_told}
use Rattle.gal_io.proofs.NumberLemmas.{decimal_digits, number_back, number_printed, number_small}
use Rattle.gal_io.proofs.Spaces.{after_space, before_space, parted, space_there, unspaced, digits_unspaced}
use Rattle.lemmas.proofs.Lists.{bytes_eq_true}
use Rattle.lemmas.proofs.Tests.{some_of_cond}

it_is : (number : ℕ) (o : Option ℕ) → is_it number o ≡ true → o ≡ Some number
it_is number None h = cc
it_is number (Some read) h = ap Some (eqb-true read number h)

writes_sound : (number : ℕ) (word : List ℕ) → number < 2 ^ 64 → writes number word ≡ true → word ≡ decimal number
writes_sound number word small h = number_printed number number word (it_is number (number_up_to number word) h) small

writes_back : (number : ℕ) → number < 2 ^ 64 → writes number (decimal number) ≡ true
writes_back number small = ap (is_it number) (number_back number number (omega arith) small) ∙ eq-eqb number number refl

-- ## What is printed is read

pub title_back : (count : ℕ) → count < 2 ^ 64 → is_title count (title count) ≡ true
title_back count small = writes_back count small

pub title_sound : (count : ℕ) (line : List ℕ) → count < 2 ^ 64 → is_title count line ≡ true → line ≡ title count
title_sound count line small h =
    let front = before_first is_space line in
    let back = after_first is_space line in
    let version = before_first is_space back in
    let number = after_first is_space back in
    let p = and_parts (list_any is_space line) (bytes_eq front (codes "split") && is_count count back) h in
    let q = and_parts (bytes_eq front (codes "split")) (is_count count back) p.1 in
    let r = and_parts (list_any is_space back) (bytes_eq version (codes "1") && writes count number) q.1 in
    let s = and_parts (bytes_eq version (codes "1")) (writes count number) r.1 in
    let words : back ≡ codes "1" ++ (32 ∷ decimal count) =
    parted back r.0 ∙ ap (λ b. b ++ (32 ∷ number)) (bytes_eq_true version (codes "1") s.0) ∙ ap (λ b. codes "1" ++ (32 ∷ b)) (writes_sound count number small s.1) in
    parted line p.0 ∙ ap (λ b. b ++ (32 ∷ back)) (bytes_eq_true front (codes "split") q.0) ∙ ap (λ b. codes "split" ++ (32 ∷ b)) words

digits_no_dash : (ds : List ℕ) → all_ascii_digits ds ≡ true → bytes_eq ds (45 ∷ []) ≡ false
digits_no_dash [] h = refl
digits_no_dash (d ∷ ds) h =
    let other : eqb d 45 ≡ false = grind (arith, nat_tests, h) in
    rw other refl

pre_unspaced : (pre : Option ℕ) → IsLowPre pre → list_all unspaced (pre_text pre) ≡ true
pre_unspaced None low = refl
pre_unspaced (Some stage) low = digits_unspaced (decimal stage) (decimal_digits stage (omega (arith, low)))

pre_back : (pre : Option ℕ) → IsLowPre pre → pre_of (pre_text pre) ≡ Some pre
pre_back None low = refl
pre_back (Some stage) low =
    let dash = digits_no_dash (decimal stage) (decimal_digits stage (omega (arith, low))) in
    rw dash (ap (option_map (λ (s : ℕ). Some s)) (number_back 4096 stage low (lit< tt)))

slow_back : (slow : Slow) → IsLowSlow slow → slow_of (slow_text slow) ≡ Some slow
slow_back (Post stage) low = ap (option_map (λ (s : ℕ). Post s)) (number_back 4096 stage low (lit< tt))
slow_back _ low = refl

words_back : (part : Part) → IsLow part → words_of (pre_text part.pre ++ (32 ∷ slow_text part.slow)) ≡ Some part
words_back part low =
    let pre = pre_text part.pre in
    let slow = slow_text part.slow in
    rw (
      space_there pre slow,
      before_space pre slow (pre_unspaced part.pre low.0),
      after_space pre slow (pre_unspaced part.pre low.0),
    ) (ap (λ o. part_with o (slow_of slow)) (pre_back part.pre low.0) ∙ ap (part_with (Some part.pre)) (slow_back part.slow low.1))

pub part_back : (i : ℕ) (part : Part) → i < 2 ^ 64 → IsLow part → part_of i (part_told i part) ≡ Some part
part_back i part small low =
    let words = pre_text part.pre ++ (32 ∷ slow_text part.slow) in
    let digits = digits_unspaced (decimal i) (decimal_digits i small) in
    rw (
      space_there (decimal i) words,
      before_space (decimal i) words digits,
      after_space (decimal i) words digits,
      writes_back i small,
    ) (words_back part low)

-- ## What is read is what would be printed

pre_by : (dash : Bool) (o : Option ℕ) (pre : Option ℕ) → cond dash (Some None) (option_map (λ (s : ℕ). Some s) o) ≡ Some pre
    → ((dash ≡ true) × (None ≡ pre)) ⊎ ((s : ℕ) × (o ≡ Some s) × (Some s ≡ pre))
pre_by true o pre h = inl (refl, same_Some {A = Option ℕ} None pre h)
pre_by false (Some s) pre h = inr (s, refl, same_Some {A = Option ℕ} (Some s) pre h)
pre_by false None pre h = cc

pre_sound : (pre : Option ℕ) (word : List ℕ) → pre_of word ≡ Some pre → (word ≡ pre_text pre) × IsLowPre pre
pre_sound pre word h = elim (pre_by (bytes_eq word (codes "-")) (stage_of word) pre h) [
  | inl p ↦ (bytes_eq_true word (codes "-") p.0 ∙ ap pre_text p.1, subst IsLowPre p.1 tt)
  | inr q ↦ (number_printed 4096 q.0 word q.1 (lit< tt) ∙ ap pre_text q.2, subst IsLowPre q.2 (number_small 4096 q.0 word q.1))
]

slow_by : (carried server : Bool) (o : Option Slow) (slow : Slow) → cond carried (Some Carried) (cond server (Some Server) o) ≡ Some slow
    → ((carried ≡ true) × (Carried ≡ slow)) ⊎ (((server ≡ true) × (Server ≡ slow)) ⊎ (o ≡ Some slow))
slow_by true server o slow h = inl (refl, same_Some Carried slow h)
slow_by false true o slow h = inr (inl (refl, same_Some Server slow h))
slow_by false false o slow h = inr (inr h)

mapped : (o : Option ℕ) (slow : Slow) → option_map (λ (s : ℕ). Post s) o ≡ Some slow → (s : ℕ) × (o ≡ Some s) × (Post s ≡ slow)
mapped (Some s) slow h = (s, refl, same_Some (Post s) slow h)
mapped None slow h = cc

post_sound : (slow : Slow) (words : List ℕ) → post_of words ≡ Some slow → (words ≡ slow_text slow) × IsLowSlow slow
post_sound slow words h =
    let front = before_first is_space words in
    let back = after_first is_space words in
    some_of_cond (list_any is_space words) slow (cond (bytes_eq front (codes "post")) (option_map (λ (s : ℕ). Post s) (stage_of back)) None) h (λ spaced inner.
    some_of_cond (bytes_eq front (codes "post")) slow (option_map (λ (s : ℕ). Post s) (stage_of back)) inner (λ post stage.
    let found = mapped (stage_of back) slow stage in
    let text : words ≡ slow_text (Post found.0) =
    parted words spaced ∙ ap (λ b. b ++ (32 ∷ back)) (bytes_eq_true front (codes "post") post) ∙ ap (λ b. codes "post" ++ (32 ∷ b)) (number_printed 4096 found.0 back found.1 (lit< tt)) in
    (text ∙ ap slow_text found.2, subst IsLowSlow found.2 (number_small 4096 found.0 back found.1))))

slow_sound : (slow : Slow) (words : List ℕ) → slow_of words ≡ Some slow → (words ≡ slow_text slow) × IsLowSlow slow
slow_sound slow words h = elim (slow_by (bytes_eq words (codes "carried")) (bytes_eq words (codes "server")) (post_of words) slow h) [
  | inl p ↦ (bytes_eq_true words (codes "carried") p.0 ∙ ap slow_text p.1, subst IsLowSlow p.1 tt)
  | inr q ↦ elim q [
    | inl p ↦ (bytes_eq_true words (codes "server") p.0 ∙ ap slow_text p.1, subst IsLowSlow p.1 tt)
    | inr post ↦ post_sound slow words post
  ]
]

with_both : (pre : Option (Option ℕ)) (slow : Option Slow) (part : Part) → part_with pre slow ≡ Some part → (pre ≡ Some part.pre) × (slow ≡ Some part.slow)
with_both None slow part h = cc
with_both (Some pre) None part h = cc
with_both (Some pre) (Some slow) part h =
    let same = same_Some {A = Part} (record { pre = pre; slow = slow }) part h in
    (ap (λ (p : Part). Some p.pre) same, ap (λ (p : Part). Some p.slow) same)

words_sound : (part : Part) (words : List ℕ) → words_of words ≡ Some part → (words ≡ pre_text part.pre ++ (32 ∷ slow_text part.slow)) × IsLow part
words_sound part words h =
    let front = before_first is_space words in
    let back = after_first is_space words in
    some_of_cond (list_any is_space words) part (part_with (pre_of front) (slow_of back)) h (λ spaced inner.
    let found = with_both (pre_of front) (slow_of back) part inner in
    let pre = pre_sound part.pre front found.0 in
    let slow = slow_sound part.slow back found.1 in
    (parted words spaced ∙ ap (λ b. b ++ (32 ∷ back)) pre.0 ∙ ap (λ b. pre_text part.pre ++ (32 ∷ b)) slow.0, (pre.1, slow.1)))

pub part_sound : (i : ℕ) (part : Part) (line : List ℕ) → i < 2 ^ 64 → part_of i line ≡ Some part → (line ≡ part_told i part) × IsLow part
part_sound i part line small h =
    let front = before_first is_space line in
    let back = after_first is_space line in
    some_of_cond (list_any is_space line) part (cond (writes i front) (words_of back) None) h (λ spaced inner.
    some_of_cond (writes i front) part (words_of back) inner (λ number words.
    let found = words_sound part back words in
    (parted line spaced ∙ ap (λ b. b ++ (32 ∷ back)) (writes_sound i front small number) ∙ ap (λ b. decimal i ++ (32 ∷ b)) found.0, found.1)))
