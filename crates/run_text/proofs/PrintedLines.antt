-- Lines that are printed, and read again.
use Rattle.std.proofs.Common.{◌≡◌, ℕ, suc, ◌+◌, ◌-◌, ◌<◌, Bool, false, List, [], ◌∷◌, ◌++◌, length, get_or, map, inl, inr, refl, sym, ap, subst, ◌∙◌, arith, append_assoc}
use Rattle.std.specs.Prelude.{All, Result, Ok}
use Rattle.std.specs.List.{list_any}
use Rattle.std.proofs.lemmas.Bool.{cases_lt}
use Rattle.std.proofs.lemmas.List.{get_or_default, append-nil}
use Rattle.gal_io.specs.Lines.{lines, lined}
use Rattle.run_text.specs.declared.refusal.LineKind.{LineKind}
use Rattle.run_text.specs.Printed.{IsLineOf}
use Rattle.run_text.specs.Trace.{line_values}
use Rattle.gal_io.proofs.ToldLines.{line_plain}
use Rattle.run_text.proofs.LineSteps.{ahead_values, not_ended}

-- ---- lines with values

abbrev pub AreLines : {X : Type 0} → (List ℕ → Result X LineKind) → (X → List ℕ) → List X → Type 0
AreLines value text_of xs = All (λ x. IsLineOf value (text_of x) x) xs

first_line : {X : Type 0} (value : List ℕ → Result X LineKind) (text_of : X → List ℕ) (x : X) (xs : List X) → AreLines value text_of (x ∷ xs) → IsLineOf value (text_of x) x
first_line value text_of x xs h = h 0 x (omega arith)

behind_line : {X : Type 0} (value : List ℕ → Result X LineKind) (text_of : X → List ℕ) (x : X) (xs : List X) → AreLines value text_of (x ∷ xs) → AreLines value text_of xs
behind_line value text_of x xs h = λ k d inside. h (suc k) d (omega arith)

pub lines_lined : {X : Type 0} (value : List ℕ → Result X LineKind) (text_of : X → List ℕ) (xs : List X) (rest : List ℕ) → AreLines value text_of xs
    → lines (lined (map text_of xs) ++ rest) ≡ map text_of xs ++ lines rest
lines_lined value text_of [] rest h = refl
lines_lined value text_of (x ∷ xs) rest h =
    let one = first_line value text_of x xs h in
    let joined : (text_of x ++ (10 ∷ lined (map text_of xs))) ++ rest ≡ text_of x ++ (10 ∷ (lined (map text_of xs) ++ rest)) = append_assoc (text_of x) (10 ∷ lined (map text_of xs)) rest in
    ap lines joined ∙ line_plain (text_of x) (lined (map text_of xs) ++ rest) one.whole
    ∙ ap (λ ls. text_of x ∷ ls) (lines_lined value text_of xs rest (behind_line value text_of x xs h))

-- the values of such lines, where none ends them, and behind them lines with none
pub values_lined : {X : Type 0} (ends : List ℕ → Bool) (value : List ℕ → Result X LineKind) (text_of : X → List ℕ) (xs : List X) (n : ℕ) (behind : List (List ℕ)) → AreLines value text_of xs
    → ((x : X) → ends (text_of x) ≡ false) → ((m : ℕ) → ahead_values ends value false m behind ≡ Ok [])
    → ahead_values ends value false n (map text_of xs ++ behind) ≡ Ok xs
values_lined ends value text_of [] n behind h goes none = none n
values_lined ends value text_of (x ∷ xs) n behind h goes none =
    let one = first_line value text_of x xs h in
    let rest = values_lined ends value text_of xs (n + 1) behind (behind_line value text_of x xs h) goes none in
    rw (goes x) (rw one.told (rw one.says (rw rest refl)))

-- the lines of values alone
pub values_back : {X : Type 0} (value : List ℕ → Result X LineKind) (text_of : X → List ℕ) (xs : List X) → AreLines value text_of xs
    → line_values value 1 (lines (lined (map text_of xs))) ≡ Ok xs
values_back value text_of xs h =
    let text = lined (map text_of xs) in
    sym (not_ended (λ _. false) value false 1 (lines text) (λ l. refl))
    ∙ ap (ahead_values (λ _. false) value false 1) (ap lines (sym (append-nil text)) ∙ lines_lined value text_of xs [] h)
    ∙ values_lined (λ _. false) value text_of xs 1 [] h (λ x. refl) (λ m. refl)

pub none_lined : {X : Type 0} (ends : List ℕ → Bool) (text_of : X → List ℕ) (xs : List X) (behind : List (List ℕ)) → ((x : X) → ends (text_of x) ≡ false)
    → list_any ends (map text_of xs ++ behind) ≡ list_any ends behind
none_lined ends text_of [] behind goes = refl
none_lined ends text_of (x ∷ xs) behind goes = rw (goes x) (none_lined ends text_of xs behind goes)

-- ---- all bytes of joined lists

-- what holds of the first n elements, and of the next one, holds of one more
pub one_more : {X : Type 0} (P : X → Type 0) (xs : List X) (n : ℕ) (e : X) → n < length xs → ((k : ℕ) (d : X) → k < n → P (get_or xs k d)) → P (get_or xs n e)
    → (k : ℕ) (d : X) → k < n + 1 → P (get_or xs k d)
one_more P xs n e inside before here k d low = elim (cases_lt k n) [
  | inl lt ↦ before k d lt
  | inr ge ↦
      let same : k ≡ n = omega arith in
      subst (λ m. P (get_or xs m d)) (sym same) (subst P (get_or_default xs n e d inside) here)
]
