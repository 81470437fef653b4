-- What a reader of lines has read.
use Rattle.std.proofs.Common.{◌≡◌, ℕ, suc, ◌+◌, ◌≤◌, Bool, inl, inr, true, false, not, ◌&&◌, ◌||◌, List, [], ◌∷◌, ◌++◌, length, refl, sym, ◌∙◌, arith, append_assoc}
use Rattle.std.specs.Prelude.{Result, Ok, Err, if◌then◌else◌}
use Rattle.std.specs.List.{list_any, position_or_len, before_first}
use Rattle.std.proofs.lemmas.Bool.{cases_Bool}
use Rattle.gal_io.specs.Lines.{is_skipped}
use Rattle.run_text.specs.Said.{given_said, said_by}
use Rattle.run_text.specs.declared.line_value.Said.{Said}
use Rattle.run_text.specs.declared.line_value.Said.TheVariants.{Value, Nothing, End, Wrong}
use Rattle.run_text.specs.declared.refusal.LinesError.TheVariants.{Line}
use Rattle.run_text.specs.Trace.{after_drain, followed_by, in_front, line_values, values_until, with_line}
use Rattle.run_text.specs.declared.refusal.LineKind.{LineKind}
use Rattle.run_text.specs.declared.refusal.LinesError.{LinesError}

-- The lines behind give `behind`. In front of that stand `have` values, of which `kept` are all where these are at
-- most `most`.
abbrev pub Stands : {X : Type 0} → Result (List X) LinesError → Result (List X) LinesError → List X → ℕ → ℕ → Type 0
Stands {X} (Ok xs) whole kept have most = (all : List X) × (whole ≡ Ok all) × (length all ≡ have + length xs) × (have ≤ most → all ≡ kept ++ xs)
Stands (Err e) whole kept have most = whole ≡ Err e

-- What lines from n on give, where the values have ended already, or not yet.
abbrev pub ahead_values : {X : Type 0} → (List ℕ → Bool) → (List ℕ → Result X LineKind) → Bool → ℕ → List (List ℕ) → Result (List X) LinesError
ahead_values ends value ended n [] = Ok []
ahead_values ends value ended n (l ∷ ls) =
    if not ended && ends l then ahead_values ends value true (n + 1) ls
    else (if is_skipped l then ahead_values ends value ended (n + 1) ls
    else with_line n (if ended then after_drain l else value l) (ahead_values ends value ended (n + 1) ls))

-- and whether they have ended in the end
abbrev pub ahead_ended : (List ℕ → Bool) → Bool → List (List ℕ) → Bool
ahead_ended ends ended [] = ended
ahead_ended ends ended (l ∷ ls) = if not ended && ends l then ahead_ended ends true ls else ahead_ended ends ended ls

-- where no line ends the values, each line has one, or none may stand
pub not_ended : {X : Type 0} (ends : List ℕ → Bool) (value : List ℕ → Result X LineKind) (ended : Bool) (n : ℕ) (ls : List (List ℕ)) → ((l : List ℕ) → (not ended && ends l) ≡ false)
    → ahead_values ends value ended n ls ≡ line_values (λ l. if ended then after_drain l else value l) n ls
not_ended ends value ended n [] goes = refl
not_ended ends value ended n (l ∷ ls) goes =
    let next : n + 1 ≡ suc n = omega arith in
    rw (goes l) (rw next (rw (not_ended ends value ended (suc n) ls goes) refl))

stays_ended : (ends : List ℕ → Bool) (ls : List (List ℕ)) → ahead_ended ends true ls ≡ true
stays_ended ends [] = refl
stays_ended ends (l ∷ ls) = stays_ended ends ls

pub any_ends : (ends : List ℕ → Bool) (ls : List (List ℕ)) → ahead_ended ends false ls ≡ list_any ends ls
any_ends ends [] = refl
any_ends ends (l ∷ ls) =
    let rest = any_ends ends ls in
    elim (ends l) as (λ b. (if not false && b then ahead_ended ends true ls else ahead_ended ends false ls) ≡ (b || list_any ends ls)) [
      | true ↦ stays_ended ends ls
      | false ↦ rest
    ]

followed_first : {X : Type 0} (behind : Result (List X) LinesError) → followed_by (Ok []) behind ≡ behind
followed_first (Ok xs) = refl
followed_first (Err e) = refl

followed_in_front : {X : Type 0} (x : X) (first behind : Result (List X) LinesError) → followed_by (in_front x first) behind ≡ in_front x (followed_by first behind)
followed_in_front x (Ok xs) (Ok ys) = refl
followed_in_front x (Ok xs) (Err e) = refl
followed_in_front x (Err e) behind = refl

followed_with_line : {X : Type 0} (n : ℕ) (given : Result X LineKind) (first behind : Result (List X) LinesError) → followed_by (with_line n given first) behind ≡ with_line n given (followed_by first behind)
followed_with_line n (Ok x) first behind = followed_in_front x first behind
followed_with_line n (Err kind) first behind = refl

-- the lines before the one that ends the values, and then those behind it, are all lines
pub all_lines : {X : Type 0} (ends : List ℕ → Bool) (value : List ℕ → Result X LineKind) (n : ℕ) (ls : List (List ℕ)) → ahead_values ends value false n ls ≡ values_until ends value n ls
all_lines ends value n [] = refl
all_lines ends value n (l ∷ ls) =
    let rest = all_lines ends value (suc n) ls in
    let next : n + 1 ≡ suc n = omega arith in
    let first : 0 + suc n ≡ suc n = omega arith in
    let at : 1 + position_or_len ends ls ≡ suc (position_or_len ends ls) = omega arith in
    let past : suc (position_or_len ends ls) + 1 ≡ suc (position_or_len ends ls + 1) = omega arith in
    let place : suc (length (before_first ends ls)) + suc n ≡ length (before_first ends ls) + suc (suc n) = omega arith in
    elim (cases_Bool (ends l)) [
      | inl last ↦ rw last (rw next (rw first (rw (not_ended ends value true (suc n) ls (λ l. refl)) (sym (followed_first (line_values after_drain (suc n) ls))))))
      | inr before ↦ rw before (rw next (rw at (rw past (rw place (elim (cases_Bool (is_skipped l)) [
        | inl skipped ↦ rw skipped rest
        | inr told ↦ rw told (rw rest (sym (followed_with_line n (value l) _ _)))
      ])))))
    ]

-- before any line is read, none is kept
pub first_stands : {X : Type 0} (given whole : Result (List X) LinesError) (kept : List X) (most : ℕ) → given ≡ whole → kept ≡ [] → Stands given whole kept 0 most
first_stands (Ok xs) whole kept most same none = (xs, sym same, omega arith, λ few. rw none refl)
first_stands (Err e) whole kept most same none = sym same

-- where no line ends the values, all lines have one
pub none_ends : {X : Type 0} (value : List ℕ → Result X LineKind) (ls : List (List ℕ)) → values_until (λ _. false) value 1 ls ≡ line_values value 1 ls
none_ends value ls = sym (all_lines (λ _. false) value 1 ls) ∙ not_ended (λ _. false) value false 1 ls (λ l. refl)

-- ---- one line after the other

-- what lines give by what the first of them says
abbrev pub values_after : {X : Type 0} → (List ℕ → Bool) → (List ℕ → Result X LineKind) → Bool → ℕ → List (List ℕ) → Said X → Result (List X) LinesError
values_after ends value ended n ls (Value x) = in_front x (ahead_values ends value ended (n + 1) ls)
values_after ends value ended n ls Nothing = ahead_values ends value ended (n + 1) ls
values_after ends value ended n ls End = ahead_values ends value true (n + 1) ls
values_after ends value ended n ls (Wrong kind) = Err (Line n kind)

-- and whether the values have ended behind it
abbrev pub ended_after : {X : Type 0} → Bool → Said X → Bool
ended_after ended End = true
ended_after ended _ = ended

given_first : {X : Type 0} (ends : List ℕ → Bool) (value : List ℕ → Result X LineKind) (ended : Bool) (n : ℕ) (ls : List (List ℕ)) (given : Result X LineKind)
    → with_line n given (ahead_values ends value ended (n + 1) ls) ≡ values_after ends value ended n ls (given_said given)
given_first ends value ended n ls (Ok x) = refl
given_first ends value ended n ls (Err kind) = refl

pub values_first : {X : Type 0} (ends : List ℕ → Bool) (value : List ℕ → Result X LineKind) (ended : Bool) (n : ℕ) (l : List ℕ) (ls : List (List ℕ))
    → ahead_values ends value ended n (l ∷ ls) ≡ values_after ends value ended n ls (said_by ends value ended l)
values_first ends value ended n l ls = elim (cases_Bool (not ended && ends l)) [
  | inl last ↦ rw last refl
  | inr before ↦ rw before (elim (cases_Bool (is_skipped l)) [
    | inl skipped ↦ rw skipped refl
    | inr told ↦ rw told (given_first ends value ended n ls (if ended then after_drain l else value l))
  ])
]

given_ended : {X : Type 0} (ended : Bool) (given : Result X LineKind) → ended_after ended (given_said given) ≡ ended
given_ended ended (Ok x) = refl
given_ended ended (Err kind) = refl

pub ended_first : {X : Type 0} (ends : List ℕ → Bool) (value : List ℕ → Result X LineKind) (ended : Bool) (l : List ℕ) (ls : List (List ℕ))
    → ahead_ended ends ended (l ∷ ls) ≡ ahead_ended ends (ended_after ended (said_by ends value ended l)) ls
ended_first ends value ended l ls = elim (cases_Bool (not ended && ends l)) [
  | inl last ↦ rw last refl
  | inr before ↦ rw before (elim (cases_Bool (is_skipped l)) [
    | inl skipped ↦ rw skipped refl
    | inr told ↦ rw told (rw (given_ended ended (if ended then after_drain l else value l)) refl)
  ])
]

-- a value that is kept
pub stands_kept : {X : Type 0} (x : X) (ahead whole : Result (List X) LinesError) (kept : List X) (have most : ℕ)
    → Stands (in_front x ahead) whole kept have most → Stands ahead whole (kept ++ (x ∷ [])) (have + 1) most
stands_kept x (Ok xs) whole kept have most (all, same, size, front) =
    (all, same, omega (arith, size), λ few. let h : all ≡ kept ++ (x ∷ xs) = front (omega arith) in rw h (sym (append_assoc kept (x ∷ []) xs)))
stands_kept x (Err e) whole kept have most h = h

-- and one that is counted alone
pub stands_counted : {X : Type 0} (x : X) (ahead whole : Result (List X) LinesError) (kept : List X) (have most : ℕ) → most ≤ have
    → Stands (in_front x ahead) whole kept have most → Stands ahead whole kept (have + 1) most
stands_counted x (Ok xs) whole kept have most many (all, same, size, front) = (all, same, omega (arith, size), λ few. absurd (omega arith))
stands_counted x (Err e) whole kept have most many h = h
