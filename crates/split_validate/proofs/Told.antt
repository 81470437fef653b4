-- The lines of the text of a split.
use Rattle.std.proofs.Common.{◌≡◌, ℕ, zero, suc, ◌+◌, ◌≤◌, ◌<◌, ◌^◌, true, List, [], ◌∷◌, ◌++◌, length, Option, Some, None, refl, sym, ap, subst, ◌∙◌, arith, append_assoc}
use Rattle.std.specs.Fmt.{decimal}
use Rattle.std.specs.List.{AllByRecursion, list_all}
use Rattle.std.proofs.lemmas.Fmt.{decimal_nonempty}
use Rattle.std.proofs.lemmas.Option.{same_Some}
use Rattle.gal_io.specs.Lines.{lines, line_end, lined}
use Rattle.split_model.specs.declared.split.Slow.{Slow}
use Rattle.split_model.specs.declared.split.Slow.TheVariants.{Post}
use Rattle.split_model.specs.declared.split.Part.{Part}
use Rattle.split_model.specs.Split.{pre_stage, post_stage, stage_after}
use Rattle.split_model.specs.Bounds.{HasFewStages}
use Rattle.split_validate.specs.SplitText.{first_line, part_line, part_lines, pre_text, slow_text, split_text}
use Rattle.split_validate.specs.SplitSteps.{title}
use Rattle.split_validate.proofs.Gone.{AreLow, IsLow, IsLowPre, IsLowSlow, last, part_told, parts_told, split_told}
use Rattle.gal_io.proofs.NumberLemmas.{decimal_digits}
use Rattle.gal_io.proofs.ToldLines.{IsTold, digits_plain, digits_told, told_lines, plain, told_both}
use Rattle.lemmas.proofs.Lists.{list_all_append}

-- ## Stages

low_pre : (pre : Option ℕ) → ((stage : ℕ) → pre ≡ Some stage → stage ≤ 4096) → IsLowPre pre
low_pre None f = tt
low_pre (Some stage) f = f stage refl

low_slow : (slow : Slow) → ((stage : ℕ) → stage_after slow ≡ Some stage → stage ≤ 4096) → IsLowSlow slow
low_slow (Post stage) f = f stage refl
low_slow _ f = tt

pub low_of : (split : List Part) → HasFewStages split → AreLow split
low_of [] h = tt
low_of (part ∷ parts) h =
    ((low_pre part.pre (h.pre 0), low_slow part.slow (h.post 0)), low_of parts (record { pre = λ i. h.pre (suc i); post = λ i. h.post (suc i) }))

pre_low : (pre : Option ℕ) (stage : ℕ) → IsLowPre pre → pre ≡ Some stage → stage ≤ 4096
pre_low None stage low e = cc
pre_low (Some own) stage low e = subst (λ n. n ≤ 4096) (same_Some own stage e) low

slow_low : (slow : Slow) (stage : ℕ) → IsLowSlow slow → stage_after slow ≡ Some stage → stage ≤ 4096
slow_low (Post own) stage low e = subst (λ n. n ≤ 4096) (same_Some own stage e) low
slow_low _ stage low e = cc

pre_few : (split : List Part) → AreLow split → (i stage : ℕ) → pre_stage split i ≡ Some stage → stage ≤ 4096
pre_few [] low i stage e = cc
pre_few (part ∷ parts) low zero stage e = pre_low part.pre stage low.0.0 e
pre_few (part ∷ parts) low (suc i) stage e = pre_few parts low.1 i stage e

post_few : (split : List Part) → AreLow split → (i stage : ℕ) → post_stage split i ≡ Some stage → stage ≤ 4096
post_few [] low i stage e = cc
post_few (part ∷ parts) low zero stage e = slow_low part.slow stage low.0.1 e
post_few (part ∷ parts) low (suc i) stage e = post_few parts low.1 i stage e

pub few_of : (split : List Part) → AreLow split → HasFewStages split
few_of split low = record { pre = pre_few split low; post = post_few split low }

-- ## Lines

number_plain : (n : ℕ) (rest : List ℕ) → n < 2 ^ 64 → list_all plain rest ≡ true → list_all plain (decimal n ++ rest) ≡ true
number_plain n rest small h = list_all_append plain (decimal n) rest (digits_plain (decimal n) (decimal_digits n small)) h

slow_plain : (slow : Slow) → IsLowSlow slow → list_all plain (slow_text slow) ≡ true
slow_plain (Post stage) low = digits_plain (decimal stage) (decimal_digits stage (omega (arith, low)))
slow_plain _ low = refl

pre_plain : (pre : Option ℕ) (rest : List ℕ) → IsLowPre pre → list_all plain rest ≡ true → list_all plain (pre_text pre ++ rest) ≡ true
pre_plain None rest low h = h
pre_plain (Some stage) rest low h = number_plain stage rest (omega (arith, low)) h

part_plain : (i : ℕ) (part : Part) → i < 2 ^ 64 → IsLow part → IsTold (part_told i part)
part_plain i part small low = record {
  whole = number_plain i (32 ∷ (pre_text part.pre ++ (32 ∷ slow_text part.slow))) small (pre_plain part.pre (32 ∷ slow_text part.slow) low.0 (slow_plain part.slow low.1));
  told = digits_told (decimal i) (32 ∷ (pre_text part.pre ++ (32 ∷ slow_text part.slow))) (decimal_nonempty i small) (decimal_digits i small);
}

parts_plain : (i : ℕ) (parts : List Part) → i + length parts < 2 ^ 64 → AreLow parts → AllByRecursion IsTold (parts_told i parts)
parts_plain i [] small low = tt
parts_plain i (part ∷ parts) small low = (part_plain i part (omega (arith, small)) low.0, parts_plain (suc i) parts (omega (arith, small)) low.1)

last_plain : AllByRecursion IsTold (last ∷ [])
last_plain = (record { whole = refl; told = refl }, tt)

pub all_plain : (split : List Part) → length split < 2 ^ 64 → AreLow split → AllByRecursion IsTold (split_told split)
all_plain split small low =
    let first : IsTold (title (length split)) = record { whole = digits_plain (decimal (length split)) (decimal_digits (length split) small); told = refl } in
    (first, told_both (parts_told 0 split) (last ∷ []) (parts_plain 0 split (omega (arith, small)) low) last_plain)

-- ## The text

line_is : (i : ℕ) (part : Part) → part_line i part ≡ part_told i part ++ line_end
line_is i part =
    let slow = slow_text part.slow in
    let pre = pre_text part.pre in
    sym (append_assoc (decimal i) (32 ∷ (pre ++ (32 ∷ slow))) line_end ∙ ap (λ t. decimal i ++ (32 ∷ t)) (append_assoc pre (32 ∷ slow) line_end))

parts_lined : (i : ℕ) (parts : List Part) (ls : List (List ℕ)) → part_lines i parts ++ lined ls ≡ lined (parts_told i parts ++ ls)
parts_lined i [] ls = refl
parts_lined i (part ∷ parts) ls =
    let behind = lined (parts_told (suc i) parts ++ ls) in
    append_assoc (part_line i part) (part_lines (suc i) parts) (lined ls)
    ∙ ap (λ t. part_line i part ++ t) (parts_lined (suc i) parts ls)
    ∙ ap (λ l. l ++ behind) (line_is i part)
    ∙ append_assoc (part_told i part) line_end behind

text_lined : (split : List Part) → split_text split ≡ lined (split_told split)
text_lined split =
    ap (λ t. first_line (length split) ++ t) (parts_lined 0 split (last ∷ []))
    ∙ append_assoc (title (length split)) line_end (lined (parts_told 0 split ++ last ∷ []))

pub text_lines : (split : List Part) → length split < 2 ^ 64 → AreLow split → lines (split_text split) ≡ split_told split
text_lines split small low = ap lines (text_lined split) ∙ told_lines (split_told split) (all_plain split small low)
