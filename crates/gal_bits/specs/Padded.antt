-- How a short list lies in 8 places.
use Rattle.std.specs.Prelude.{◌≡◌, ℕ, ◌-◌, ◌≤◌, List, ◌++◌, length, take, drop, replicate}
use Rattle.std.proofs.Common.{sym, ap, subst, ◌∙◌, take-append-drop, length-take-le}

-- the list with zeros behind it
abbrev pub padded : List ℕ → List ℕ
padded numbers = numbers ++ replicate (8 - length numbers) 0

-- there are 8 places, and those behind the first len are 0
pub record IsPadded (places : List ℕ) (len : ℕ) : Type 0 where
  pub eight : length places ≡ 8
  pub fits : len ≤ 8
  pub zeros : drop len places ≡ replicate (8 - len) 0

-- the first len places are a list of that length
pub length-taken : (places : List ℕ) (len : ℕ) → IsPadded places len → length (take len places) ≡ len
length-taken places len is =
    length-take-le len places (subst (λ n. len ≤ n) (sym is.eight) is.fits)

-- and with zeros behind it they are the places again
pub padded-taken : (places : List ℕ) (len : ℕ) → IsPadded places len → padded (take len places) ≡ places
padded-taken places len is =
    ap (λ n. take len places ++ replicate (8 - n) 0) (length-taken places len is)
    ∙ ap (λ rest. take len places ++ rest) (sym is.zeros)
    ∙ take-append-drop len places
