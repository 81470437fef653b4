-- Copies of a list, one after the other.
use Rattle.std.proofs.Common.{◌≡◌, ℕ, zero, suc, ◌+◌, ◌*◌, ◌≤◌, List, ◌++◌, length, Result, Ok, Err, sym, ap, subst, ◌∙◌, append_assoc, length-append, arith}
use Rattle.std.specs.Prelude.{OnOk}
use Rattle.std.proofs.lemmas.List.{append-nil}
use Rattle.run_model.specs.declared.event.Event.{Event}
use Rattle.run_model.specs.Sizes.{most_events}
use Rattle.traffic_generator.specs.Schedule.{copies, events_of, round_events, rounds_of}

-- one more copy stands as well behind the others as in front of them
copies_next : {X : Type 0} (n : ℕ) (xs : List X) → copies n xs ++ xs ≡ copies (suc n) xs
copies_next zero xs = sym (append-nil xs)
copies_next {X = X} (suc n) xs = append_assoc xs (copies n xs) xs ∙ ap (λ (ys : List X). xs ++ ys) (copies_next n xs)

pub copies_more : {X : Type 0} (n : ℕ) (xs : List X) → copies (n + 1) xs ≡ copies n xs ++ xs
copies_more n xs =
    let next : n + 1 ≡ suc n = omega arith in
    ap (λ (k : ℕ). copies k xs) next ∙ sym (copies_next n xs)

length-copies : {X : Type 0} (n : ℕ) (xs : List X) → length (copies n xs) ≡ n * length xs
length-copies zero xs = omega arith
length-copies (suc n) xs = omega (arith, length-append xs (copies n xs), length-copies n xs)

-- a trace has no more than 1,024 rounds
few_events : (count : ℕ) → count ≤ 16384 → length (events_of count) ≤ most_events
few_events count few =
    let events : length (events_of count) ≡ rounds_of count * 256 = length-copies (rounds_of count) round_events in
    omega (arith, events)

pub few_made : (events : List Event) (rounds count : ℕ) → events ≡ copies rounds round_events → rounds ≡ rounds_of count
    → count ≤ 16384 → length events ≤ most_events
few_made events rounds count is all few =
    subst (λ (es : List Event). length es ≤ most_events) (sym (is ∙ ap (λ (k : ℕ). copies k round_events) all))
    (few_events count few)

-- five lists behind another, one after the other
five_behind : (e0 e1 e2 e3 e4 e5 a b c d e : List Event) → e1 ≡ e0 ++ a → e2 ≡ e1 ++ b → e3 ≡ e2 ++ c → e4 ≡ e3 ++ d
    → e5 ≡ e4 ++ e → e5 ≡ e0 ++ (a ++ (b ++ (c ++ (d ++ e))))
five_behind e0 e1 e2 e3 e4 e5 a b c d e one two three four five =
    five ∙ ap (λ (x : List Event). x ++ e) (four ∙ ap (λ (x : List Event). x ++ d)
    (three ∙ ap (λ (x : List Event). x ++ c) (two ∙ ap (λ (x : List Event). x ++ b) one)))
    ∙ simp append_assoc

pub five_put : {A : Type 0} {E : Type 0} (result : Result A E) (e0 e1 e2 e3 e4 e5 a b c d e : List Event) → e1 ≡ e0 ++ a
    → e2 ≡ e1 ++ b → e3 ≡ e2 ++ c → e4 ≡ e3 ++ d → OnOk result (e5 ≡ e4 ++ e)
    → OnOk result (e5 ≡ e0 ++ (a ++ (b ++ (c ++ (d ++ e)))))
five_put (Ok x) e0 e1 e2 e3 e4 e5 a b c d e one two three four five =
    five_behind e0 e1 e2 e3 e4 e5 a b c d e one two three four five
five_put (Err x) e0 e1 e2 e3 e4 e5 a b c d e one two three four five = tt
