-- Lists of numbers that all have one length.
use Rattle.std.specs.Prelude.{ℕ, zero, suc, List, [], ◌∷◌, take, drop, refl}
use Rattle.std.specs.Coded.{Coded, code_by, coded×, coded_ℕ, coded_list}

-- lists, and the length that each of them has
pub record Even : Type 0 where
  pub width : ℕ
  pub lists : List (List ℕ)

abbrev pub even_code : Coded Even
even_code =
    code_by (ℕ × List (List ℕ)) (coded× coded_ℕ (coded_list (coded_list coded_ℕ))) (λ e. (e.width, e.lists))
    (λ p. record { width = p.0; lists = p.1 }) (λ _. refl)

-- so many lists of one length that stand one behind the other
unfoldable pub cut : ℕ → ℕ → List ℕ → List (List ℕ)
cut width zero numbers = []
cut width (suc count) numbers = take width numbers ∷ cut width count (drop width numbers)
