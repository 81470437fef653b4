-- The bytes of a composed middlebox's text.
use Rattle.std.proofs.Common.{◌≡◌, ◌⊎◌, inl, inr, ℕ, ◌+◌, ◌*◌, ◌^◌, ◌<◌, ◌≤◌, List, length, map, ap, ◌∙◌, arith}
use Rattle.std.specs.List.{All}
use Rattle.std.proofs.lemmas.Bool.{cases_lt}
use Rattle.element_lang.specs.declared.tree.Local.{Local}
use Rattle.element_print.specs.Lengths.{capped, lengths_of, text_length, decls_length, frame_length, body_length}
use Rattle.element_chain.specs.Chain.{Connected}
use Rattle.element_chain.specs.Compose.{composed, locals_from, entry_within}
use Rattle.chain_compose.specs.declared.gauge.Gauge.TheVariants.{Locals, Uses, Bytes}
use Rattle.chain_compose.specs.Counts.{used_in, body_count, whole_lengths}
use Rattle.chain_compose.specs.Named.{more_digits, names_sum}
use Rattle.chain_compose.proofs.Digits.{names_told, names_some}
use Rattle.chain_compose.proofs.NamesApart.{body_apart, body_used}
use Rattle.chain_compose.proofs.Gauges.{all_uses, all_bytes}
use Rattle.chain_compose.proofs.NamedEnds.{AreGood}
use Rattle.chain_compose.proofs.WholeNames.{whole_locals, whole_below}

-- the numbers of its locals' widths, and of the locals that it names
abbrev widths_of : Connected → List ℕ
widths_of c = (entry_within c (length c.elements)).numbering.widths

abbrev named_in : Connected → List ℕ
named_in c = used_in (composed c).body

-- all but the names of locals, but for two bytes of each and its further digits
abbrev pub told_bytes : Connected → ℕ
told_bytes c =
    let l = whole_lengths c in
    let b = (composed c).body in
    decls_length (composed c).objects + frame_length + body_count Bytes l b + 2 * body_count Uses l b + more_digits 19 (used_in b)

apart : (c : Connected) → text_length (composed c)
    ≡ decls_length (composed c).objects + frame_length
    + (body_length (whole_lengths c) (composed c).body
    + names_sum (map (λ (l : Local). length l.name) (locals_from 0 (widths_of c))) (named_in c))
apart c =
    ap (λ (n : ℕ). decls_length (composed c).objects + frame_length + n) (body_apart (lengths_of (composed c)) (composed c).body)

told_by_parts : (c : Connected)
    → body_count Bytes (whole_lengths c) (composed c).body ≡ body_length (whole_lengths c) (composed c).body
    → body_count Uses (whole_lengths c) (composed c).body ≡ length (used_in (composed c).body)
    → body_count Locals (whole_lengths c) (composed c).body ≡ length (widths_of c)
    → All (λ (x : ℕ). x < length (widths_of c)) (used_in (composed c).body)
    → (length (widths_of c) < 2 ^ 64) ⊎ (2 ^ 64 ≤ length (widths_of c)) → capped (told_bytes c) ≡ capped (text_length (composed c))
told_by_parts c bytes uses locals below (inl few) = omega (arith, apart c, bytes, uses, names_told (widths_of c) (named_in c) few below)
told_by_parts c bytes uses locals below (inr many) =
    omega (arith, apart c, uses, locals, body_used (whole_lengths c) (composed c).body, names_some (widths_of c) (named_in c) below)

-- the bytes of the text are those that are told
pub bytes_told : (c : Connected) → AreGood c → capped (told_bytes c) ≡ capped (text_length (composed c))
bytes_told c good =
    told_by_parts c (all_bytes (whole_lengths c) (composed c).body) (all_uses (whole_lengths c) (composed c).body) (whole_locals c) (whole_below c good)
    (cases_lt (length (widths_of c)) (2 ^ 64))

-- the same of counts that stop
pub bytes_counted : (c : Connected) → AreGood c → (decls tokens names digits : ℕ)
    → decls ≡ capped (decls_length (composed c).objects) → tokens ≡ capped (body_count Bytes (whole_lengths c) (composed c).body)
    → names ≡ capped (body_count Uses (whole_lengths c) (composed c).body) → digits ≡ capped (more_digits 19 (used_in (composed c).body))
    → capped (decls + frame_length + tokens + 2 * names + digits) ≡ capped (text_length (composed c))
bytes_counted c good decls tokens names digits d t n m =
    let same : capped (decls + frame_length + tokens + 2 * names + digits) ≡ capped (told_bytes c) = omega (arith, d, t, n, m) in
    same ∙ bytes_told c good
