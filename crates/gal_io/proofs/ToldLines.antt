-- Lines that a text can hold, and that aren't skipped.
use Rattle.std.proofs.Common.{◌≡◌, ℕ, zero, suc, ◌-◌, ◌≤◌, ◌<◌, Bool, true, false, eqb, leb, List, [], ◌∷◌, ◌++◌, length, map, get_or, refl, ap, ◌∙◌, arith}
use Rattle.std.specs.Str.{all_ascii_digits}
use Rattle.std.specs.List.{AllByRecursion, list_all, onto_first}
use Rattle.std.proofs.lemmas.Bool.{and_parts, leb-true}
use Rattle.std.proofs.lemmas.Bool.Decides.{nat_tests}
use Rattle.gal_io.specs.Lines.{fed_lines, lined, lines, without_return, is_skipped, told_of}

abbrev pub plain : ℕ → Bool
plain byte = leb 32 byte

-- a line that a text can hold, and that is told
pub record IsTold (line : List ℕ) : Type 0 where
  pub whole : list_all plain line ≡ true
  pub told : is_skipped line ≡ false

-- ## A plain line ends at the line feed behind it

fed_plain : (line rest : List ℕ) → list_all plain line ≡ true → fed_lines (line ++ (10 ∷ rest)) ≡ line ∷ fed_lines rest
fed_plain [] rest h = refl
fed_plain (byte ∷ line) rest h =
    let parts = and_parts (plain byte) (list_all plain line) h in
    let other : eqb byte 10 ≡ false = grind (arith, nat_tests, parts.0) in
    rw other (ap (onto_first byte) (fed_plain line rest parts.1))

plain_at : (line : List ℕ) (k : ℕ) → k < length line → list_all plain line ≡ true → 32 ≤ get_or line k 0
plain_at [] k inside h = absurd (omega arith)
plain_at (byte ∷ line) zero inside h = leb-true 32 byte (and_parts (plain byte) (list_all plain line) h).0
plain_at (byte ∷ line) (suc k) inside h = plain_at line k (omega arith) (and_parts (plain byte) (list_all plain line) h).1

returns_none : (line : List ℕ) → list_all plain line ≡ true → without_return line ≡ line
returns_none [] h = refl
returns_none (byte ∷ line) h =
    let last = plain_at (byte ∷ line) (length (byte ∷ line) - 1) (omega arith) h in
    let other : eqb (get_or (byte ∷ line) (length (byte ∷ line) - 1) 0) 13 ≡ false = grind (arith, nat_tests, last) in
    rw other refl

pub line_plain : (line rest : List ℕ) → list_all plain line ≡ true → lines (line ++ (10 ∷ rest)) ≡ line ∷ lines rest
line_plain line rest h = ap (map without_return) (fed_plain line rest h) ∙ ap (λ l. l ∷ lines rest) (returns_none line h)

-- ## Told lines, each with its end, are the lines of a text

pub told_lines : (ls : List (List ℕ)) → AllByRecursion IsTold ls → lines (lined ls) ≡ ls
told_lines [] h = refl
told_lines (l ∷ ls) h = line_plain l (lined ls) h.0.whole ∙ ap (λ m. l ∷ m) (told_lines ls h.1)

pub all_told : (ls : List (List ℕ)) → AllByRecursion IsTold ls → told_of ls ≡ ls
all_told [] h = refl
all_told (l ∷ ls) h = rw h.0.told (ap (λ m. l ∷ m) (all_told ls h.1))

pub told_both : (xs ys : List (List ℕ)) → AllByRecursion IsTold xs → AllByRecursion IsTold ys → AllByRecursion IsTold (xs ++ ys)
told_both [] ys h k = k
told_both (x ∷ xs) ys h k = (h.0, told_both xs ys h.1 k)

-- ## Digits

pub digits_plain : (ds : List ℕ) → all_ascii_digits ds ≡ true → list_all plain ds ≡ true
digits_plain [] h = refl
digits_plain (d ∷ ds) h = let rest = digits_plain ds in grind (arith, nat_tests, rest, h)

-- a line that begins with a digit isn't skipped
pub digits_told : (ds rest : List ℕ) → 0 < length ds → all_ascii_digits ds ≡ true → is_skipped (ds ++ rest) ≡ false
digits_told [] rest some h = absurd (omega arith)
digits_told (d ∷ ds) rest some h = grind (arith, nat_tests, h)
