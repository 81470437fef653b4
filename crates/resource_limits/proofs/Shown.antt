-- What tallies of looks tell of objects that are looked up.
use Rattle.std.proofs.Common.{◌≡◌, ℕ, zero, suc, ◌+◌, ◌<◌, Bool, true, false, not, ◌&&◌, ◌||◌, List, [], ◌∷◌, ◌++◌, refl, sym, ap, ◌∙◌, arith, length, get_or, drop, add-one, add-zero}
use Rattle.std.specs.Prelude.{slice_index, if◌then◌else◌, nat_lt}
use Rattle.std.proofs.lemmas.List.{drop_more}
use Rattle.std.proofs.lemmas.Bool.Decides.{nat_tests}
use Rattle.state_store.specs.declared.object.ObjectDecl.{ObjectDecl}
use Rattle.flat_ir.specs.Program.{Program}
use Rattle.state_store.specs.Kinds.{is_constant}
use Rattle.split_model.specs.declared.split.Part.{Part}
use Rattle.split_model.specs.Split.{any_below}
use Rattle.split_model.specs.Shown.{is_shown}
use Rattle.split_model.specs.Counts.{count_below, accesses, writes, is_post_shown, object_bits, bits_from}
use Rattle.resource_limits.specs.declared.uses.Use.TheVariants.{Before, After, Change}
use Rattle.resource_limits.specs.Counts.{first_numbers, each_object}
use Rattle.resource_limits.specs.Uses.{is_used, uses, told_at}
use Rattle.resource_limits.proofs.Tallies.{number_is, tally_count}

positive : (n : ℕ) → nat_lt 0 (n + 1) ≡ true
positive n = grind (arith, nat_tests)

one_more : (n : ℕ) (b t : Bool) → nat_lt 0 n ≡ b → nat_lt 0 (n + (if t then 1 else 0)) ≡ (b || t)
one_more n true true e = positive n
one_more n false true e = positive n
one_more n true false e = rw add-zero e
one_more n false false e = rw add-zero e

-- some number passes exactly where the count of them isn't 0
pub some_counted : (n : ℕ) (test : ℕ → Bool) → nat_lt 0 (count_below n test) ≡ any_below n test
some_counted zero test = refl
some_counted (suc n) test = one_more (count_below n test) (any_below n test) (test n) (some_counted n test)

pub shown_by : (f : Program) (split : List Part) (tally : List ℕ) (o : ℕ) → tally ≡ each_object f (uses Before f split)
    → o < length f.objects → nat_lt 0 (slice_index tally o) ≡ is_shown f split o
shown_by f split tally o is h =
    ap (λ (n : ℕ). nat_lt 0 n) (number_is Before f split tally o is h)
    ∙ some_counted (length f.code) (λ i. is_used Before f split i o)

pub post_shown_by : (f : Program) (split : List Part) (tally : List ℕ) (o : ℕ) → tally ≡ each_object f (uses After f split)
    → o < length f.objects → nat_lt 0 (slice_index tally o) ≡ is_post_shown f split o
post_shown_by f split tally o is h =
    ap (λ (n : ℕ). nat_lt 0 n) (number_is After f split tally o is h)
    ∙ some_counted (length f.code) (λ i. is_used After f split i o)

-- ## Lists of numbers

same_numbers : (n : ℕ) (g h : ℕ → ℕ) → ((o : ℕ) → o < n → g o ≡ h o) → first_numbers n g ≡ first_numbers n h
same_numbers zero g h e = refl
same_numbers (suc n) g h e =
    ap (λ (ns : List ℕ). ns ++ g n ∷ []) (same_numbers n g h (λ o l. e o (omega arith)))
    ∙ ap (λ (m : ℕ). first_numbers n h ++ m ∷ []) (e n (omega arith))

pub accesses_are : (f : Program) (split : List Part) (before after : List ℕ) → before ≡ each_object f (uses Before f split)
    → after ≡ each_object f (uses After f split)
    → first_numbers (length before) (λ o. slice_index before o + slice_index after o) ≡ each_object f (accesses f split)
accesses_are f split before after b a =
    let count = tally_count Before f split before b in
    ap (λ (n : ℕ). first_numbers n (λ o. slice_index before o + slice_index after o)) count
    ∙ same_numbers (length f.objects) (λ o. slice_index before o + slice_index after o) (accesses f split) (λ o l.
    ap (λ (n : ℕ). n + slice_index after o) (number_is Before f split before o b l)
    ∙ ap (λ (n : ℕ). uses Before f split o + n) (number_is After f split after o a l))

pub writes_are : (f : Program) (split : List Part) (before changes : List ℕ) → before ≡ each_object f (uses Before f split)
    → changes ≡ each_object f (uses Change f split)
    → first_numbers (length f.objects) (λ o. told_at f.objects before changes o) ≡ each_object f (writes f split)
writes_are f split before changes b w =
    same_numbers (length f.objects) (λ o. told_at f.objects before changes o) (writes f split) (λ o l.
    ap (λ (shown : Bool). if not (is_constant f.objects o) && shown then slice_index changes o else 0) (shown_by f split before o b l)
    ∙ ap (λ (n : ℕ). if not (is_constant f.objects o) && is_shown f split o then n else 0) (number_is Change f split changes o w l))

-- ## Bits

pub bits_step : (f : Program) (split : List Part) (writeback : ℕ) (objects : List ObjectDecl) (o : ℕ) (d : ObjectDecl) → o < length objects
    → bits_from f split writeback o (drop o objects)
    ≡ object_bits f split writeback o (get_or objects o d) + bits_from f split writeback (o + 1) (drop (o + 1) objects)
bits_step f split writeback objects o d h =
    ap (λ (ds : List ObjectDecl). bits_from f split writeback o ds) (drop_more objects o d h)
    ∙ ap (λ (n : ℕ). object_bits f split writeback o (get_or objects o d) + bits_from f split writeback n (drop (o + 1) objects)) (sym (add-one o))
