-- Pieces of lines, printed and read.
use Rattle.std.proofs.Common.{◌≡◌, ℕ, ◌<◌, ◌≤◌, ◌^◌, Bool, true, false, cond, ltb, List, [], ◌∷◌, ◌++◌, length, take, drop, Option, Some, None, refl, sym, ap, ◌∙◌, arith, length-append}
use Rattle.std.specs.Fmt.{decimal}
use Rattle.std.specs.Str.{bytes_eq}
use Rattle.std.specs.List.{position_or_len}
use Rattle.std.proofs.Math.Seq.{take-append_seam, drop-append_seam}
use Rattle.std.proofs.lemmas.List.{take-append-drop}
use Rattle.std.proofs.lemmas.Bool.Decides.{nat_tests}
use Rattle.std.proofs.lemmas.Option.{same_Some}
use Rattle.gal_io.specs.Number.{number_up_to}
use Rattle.gal_io.specs.Lines.{is_space}
use Rattle.report_text.specs.Parse.{◌>>=◌, after, labelled, number_at, number_with, whole}
use Rattle.gal_io.proofs.NumberLemmas.{decimal_digits, number_back, number_small, number_printed}
use Rattle.gal_io.proofs.Spaces.{is_cut, space_place, digits_unspaced}
use Rattle.lemmas.proofs.Lists.{bytes_eq_same, bytes_eq_true}

-- ---- options

-- a chain that gives something has something at its front
pub bound : {A B P : Type 0} (o : Option A) (f : A → Option B) (b : B) → (o >>= f) ≡ Some b → ((a : A) → o ≡ Some a → f a ≡ Some b → P) → P
bound (Some a) f b h k = k a refl h
bound None f b h k = cc

pub whole_is : {A : Type 0} (a b : A) (rest : List ℕ) → whole a rest ≡ Some b → (rest ≡ []) × (a ≡ b)
whole_is a b [] h = (refl, same_Some _ _ h)
whole_is a b (byte ∷ rest) h = cc

-- ---- words

pub after_back : (word rest : List ℕ) → after word (word ++ rest) ≡ Some rest
after_back word rest =
    let long = length-append word rest in
    let shorter : ltb (length (word ++ rest)) (length word) ≡ false = grind (arith, nat_tests, long) in
    rw (shorter, take-append_seam word rest, bytes_eq_same word, drop-append_seam word rest) refl

-- another word stands there
pub after_other : (word line : List ℕ) → bytes_eq (take (length word) line) word ≡ false → after word line ≡ None
after_other word line h = rw h (elim (ltb (length line) (length word)) as (λ t. cond t None (cond false (Some (drop (length word) line)) None) ≡ None) [ true ↦ refl | false ↦ refl ])

after_by : (shorter same : Bool) (rest found : List ℕ) → cond shorter None (cond same (Some rest) None) ≡ Some found → (same ≡ true) × (rest ≡ found)
after_by true same rest found h = cc
after_by false true rest found h = (refl, same_Some _ _ h)
after_by false false rest found h = cc

pub after_is : (word line rest : List ℕ) → after word line ≡ Some rest → line ≡ word ++ rest
after_is word line rest h =
    let found = after_by (ltb (length line) (length word)) (bytes_eq (take (length word) line) word) (drop (length word) line) rest h in
    sym (take-append-drop (length word) line) ∙ ap (λ l. l ++ drop (length word) line) (bytes_eq_true (take (length word) line) word found.0) ∙ ap (λ l. word ++ l) found.1

-- ---- numbers

pub number_at_back : (most n : ℕ) (rest : List ℕ) → n ≤ most → most < 2 ^ 64 → is_cut rest ≡ true → number_at most (decimal n ++ rest) ≡ Some (n, rest)
unfolding number_at
number_at_back most n rest small fits cut =
    let at = space_place (decimal n) rest (digits_unspaced (decimal n) (decimal_digits n (omega arith))) cut in
    rw (at, take-append_seam (decimal n) rest, drop-append_seam (decimal n) rest, number_back most n small fits) refl

number_by : (most : ℕ) (o : Option ℕ) (rest found : List ℕ) (n : ℕ) → number_with o rest ≡ Some (n, found) → (o ≡ Some n) × (rest ≡ found)
number_by most None rest found n h = cc
number_by most (Some m) rest found n h = let e = same_Some _ _ h in (ap (λ x. Some x.0) e, ap (λ x. x.1) e)

pub record IsNumberAt (most n : ℕ) (line rest : List ℕ) : Type 0 where
  pub small : n ≤ most
  pub is : line ≡ decimal n ++ rest

pub number_at_is : (most n : ℕ) (line rest : List ℕ) → most < 2 ^ 64 → number_at most line ≡ Some (n, rest) → IsNumberAt most n line rest
unfolding number_at
number_at_is most n line rest fits h =
    let at = position_or_len is_space line in
    let found = number_by most (number_up_to most (take at line)) (drop at line) rest n h in
    record {
      small = number_small most n (take at line) found.0;
      is = sym (take-append-drop at line) ∙ ap (λ l. l ++ drop at line) (number_printed most n (take at line) found.0 fits) ∙ ap (λ l. decimal n ++ l) found.1;
    }

pub labelled_back : (most n : ℕ) (word rest : List ℕ) → n ≤ most → most < 2 ^ 64 → is_cut rest ≡ true → labelled most word (word ++ (decimal n ++ rest)) ≡ Some (n, rest)
unfolding labelled
labelled_back most n word rest small fits cut = rw (after_back word (decimal n ++ rest)) (number_at_back most n rest small fits cut)

pub labelled_is : (most : ℕ) (x : ℕ × List ℕ) (word line : List ℕ) → most < 2 ^ 64 → labelled most word line ≡ Some x → (x.0 ≤ most) × (line ≡ word ++ (decimal x.0 ++ x.1))
unfolding labelled
labelled_is most x word line fits h =
    bound (after word line) (number_at most) x h (λ rest e f.
    let found = number_at_is most x.0 rest x.1 fits f in
    (found.small, after_is word line rest e ∙ ap (λ l. word ++ l) found.is))

-- ---- lines

-- the line is the text of a value that may be told
pub record IsTextOf {A : Type 0} (MayBe : A → Type 0) (text : A → List ℕ) (line : List ℕ) (a : A) : Type 0 where
  pub are : MayBe a
  pub is : line ≡ text a

-- a chain goes on with the number behind a word, and with what follows that
pub numbered : {B P : Type 0} (most : ℕ) (word line : List ℕ) (f : ℕ × List ℕ → Option B) (b : B) → most < 2 ^ 64 → (labelled most word line >>= f) ≡ Some b
    → ((x : ℕ × List ℕ) → x.0 ≤ most → line ≡ word ++ (decimal x.0 ++ x.1) → f x ≡ Some b → P) → P
numbered most word line f b fits h k =
    bound (labelled most word line) f b h (λ x e more. let l = labelled_is most x word line fits e in k x l.0 l.1 more)
