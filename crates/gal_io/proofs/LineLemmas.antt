-- The first line of a text, and what follows it.
use Rattle.std.proofs.Common.{◌≡◌, ℕ, suc, ◌+◌, ◌<◌, ◌≤◌, true, false, not, List, [], ◌∷◌, length, get_or, take, drop, map, eqb, cond, Option, Some, None, unwrap_or, refl, ap, arith}
use Rattle.std.specs.List.{position_or_len, onto_first}
use Rattle.std.proofs.lemmas.Bool.{false_from_ne_true}
use Rattle.std.proofs.lemmas.List.Sums.{position_or_len_is}
use Rattle.memchr.specs.Find.{IsFirstByte, is_byte}
use Rattle.gal_io.specs.Lines.{fed_lines, lines, without_return}

-- where the first line feed stands, or the text ends
abbrev feed_at : List ℕ → ℕ
feed_at text = position_or_len (λ byte. eqb byte 10) text

-- that place is the one that a search for the byte finds
pub first_feed : (text : List ℕ) (found : Option ℕ) → IsFirstByte (is_byte 10) text found → feed_at text ≡ unwrap_or found (length text)
first_feed text None nowhere = position_or_len_is (is_byte 10) text (length text) 0 (omega arith) (λ k small. false_from_ne_true (is_byte 10 (get_or text k 0)) (nowhere k (omega arith) small)) (λ small. absurd (omega arith))
first_feed text (Some at) first = position_or_len_is (is_byte 10) text at 0 (let high = first.0.high in omega arith) (λ k small. false_from_ne_true (is_byte 10 (get_or text k 0)) (first.0.before k (omega arith) small)) (λ small. first.1)

pub feed_within : (text : List ℕ) (found : Option ℕ) → IsFirstByte (is_byte 10) text found → unwrap_or found (length text) ≤ length text
feed_within text None nowhere = omega arith
feed_within text (Some at) first = let high = first.0.high in omega arith

abbrev DividedAt : ℕ → List ℕ → List (List ℕ) → Type 0
DividedAt at text parts = parts ≡ take at text ∷ fed_lines (drop 1 (drop at text))

-- a byte in front of a divided text belongs to its first line
longer : (first : ℕ) (text : List ℕ) (at : ℕ) → DividedAt at text (fed_lines text) → DividedAt (1 + at) (first ∷ text) (onto_first first (fed_lines text))
longer first text at h =
    let later : 1 + at ≡ suc at = omega arith in
    rw later (ap (onto_first first) h)

-- a text ends its first line at its first line feed, or with its end
divided : (first : ℕ) (text : List ℕ) → DividedAt (feed_at (first ∷ text)) (first ∷ text) (fed_lines (first ∷ text))
divided first [] =
    elim (eqb first 10) as (λ b. DividedAt (cond (not b) (1 + 0) 0) (first ∷ []) (cond b ([] ∷ []) ((first ∷ []) ∷ []))) [ true ↦ refl | false ↦ refl ]
divided first (next ∷ text) =
    elim (eqb first 10) as (λ b. DividedAt (cond (not b) (1 + feed_at (next ∷ text)) 0) (first ∷ next ∷ text) (cond b ([] ∷ fed_lines (next ∷ text)) (onto_first first (fed_lines (next ∷ text))))) [ true ↦ refl | false ↦ longer first (next ∷ text) (feed_at (next ∷ text)) (divided next text) ]

-- the same of whole lines, of a text that isn't empty
pub lines_first : (text : List ℕ) → 0 < length text → lines text ≡ without_return (take (feed_at text) text) ∷ lines (drop 1 (drop (feed_at text) text))
lines_first [] some = absurd (omega arith)
lines_first (first ∷ text) some = ap (map without_return) (divided first text)
