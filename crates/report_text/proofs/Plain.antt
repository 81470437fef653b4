-- Each line of a printed report is one line, and isn't skipped.
use Rattle.std.proofs.Common.{◌≡◌, ℕ, ◌^◌, ◌<◌, true, false, ltb, List, [], ◌∷◌, ◌++◌, refl, arith, append_assoc}
use Rattle.std.specs.Prelude.{codes}
use Rattle.std.specs.Fmt.{decimal}
use Rattle.std.specs.List.{AllByRecursion, list_all}
use Rattle.std.proofs.lemmas.Bool.{and_parts}
use Rattle.std.proofs.lemmas.Bool.Decides.{nat_tests}
use Rattle.std.proofs.lemmas.Fmt.{decimal_nonempty}
use Rattle.gal_io.specs.Lines.{is_skipped}
use Rattle.gal_io.specs.Number.{spaced_numbers}
use Rattle.packet_fields.specs.declared.verdict.Verdict.{Verdict}
use Rattle.packet_fields.specs.declared.verdict.Verdict.TheVariants.{Drop, Send}
use Rattle.state_store.specs.declared.object.Row.{Row}
use Rattle.run_model.specs.declared.fate.Fate.{Fate}
use Rattle.run_model.specs.declared.fate.Fate.TheVariants.{Pass, Up, Held, Slow, Fast}
use Rattle.run_text.specs.Report.{body_text, key_text}
use Rattle.report_text.specs.declared.head.PacketCounts.{PacketCounts}
use Rattle.report_text.specs.declared.head.EventCounts.{EventCounts}
use Rattle.report_text.specs.declared.head.Versions.{Versions}
use Rattle.report_text.specs.Form.{IsFate, IsVerdict, is_plain}
use Rattle.gal_io.proofs.NumberLemmas.{decimal_digits}
use Rattle.gal_io.proofs.ToldLines.{IsTold, plain, digits_plain, digits_told}
use Rattle.run_text.proofs.PrintedBack.{body_plain}
use Rattle.report_text.proofs.HeadLines.{AreCounts, AreEvents, AreVersions, counts_text, events_text, versions_text}
use Rattle.report_text.proofs.FateLines.{fate_told, path_with, released_with, stamps_of, stamps_with, verdict_with}
use Rattle.report_text.proofs.PartLines.{order_told, part_told}
use Rattle.report_text.proofs.RowLines.{row_told}
use Rattle.lemmas.proofs.Lists.{list_all_append}

-- ---- bytes of lines

number_plain : (n : ℕ) (rest : List ℕ) → n < 2 ^ 64 → list_all plain rest ≡ true → list_all plain (decimal n ++ rest) ≡ true
number_plain n rest h k = list_all_append plain (decimal n) rest (digits_plain (decimal n) (decimal_digits n h)) k

-- ---- the first lines

pub counts_plain : (c : PacketCounts) → AreCounts c → IsTold (counts_text c)
counts_plain c h = record {
  whole = number_plain c.total _ (omega (arith, h.total)) (number_plain c.admitted _ (omega (arith, h.admitted)) (number_plain c.decided _ (omega (arith, h.decided)) (number_plain c.released [] (omega (arith, h.released)) refl)));
  told = refl;
}

pub events_plain : (e : EventCounts) → AreEvents e → IsTold (events_text e)
events_plain e h = record {
  whole = number_plain e.events _ (omega (arith, h.events)) (number_plain e.idle [] (omega (arith, h.idle)) refl);
  told = refl;
}

pub versions_plain : (v : Versions) → AreVersions v → IsTold (versions_text v)
versions_plain v h = record {
  whole = number_plain v.version _ (omega (arith, h.version)) (number_plain v.visible [] (omega (arith, h.visible)) refl);
  told = refl;
}

-- ---- packets

verdict_plain : (v : Verdict) → IsVerdict v → list_all plain (verdict_with v) ≡ true
verdict_plain Drop h = refl
verdict_plain (Send port bytes) h = number_plain port (codes " " ++ body_text bytes) (omega (arith, h.0)) (body_plain bytes h.1)

released_plain : (r : ℕ) (v : Verdict) → r < 2 ^ 32 → IsVerdict v → list_all plain (released_with r v) ≡ true
released_plain r v small h = number_plain r (verdict_with v) (omega arith) (verdict_plain v h)

stamps_plain : (a d v : ℕ) (rest : List ℕ) → a < 2 ^ 32 → d < 2 ^ 32 → v < 2 ^ 32 → list_all plain rest ≡ true → list_all plain (stamps_with (stamps_of a d v) rest) ≡ true
stamps_plain a d v rest ha hd hv h =
    number_plain a _ (omega arith) (number_plain d _ (omega arith) (number_plain v rest (omega arith) h))

path_plain : (f : Fate) → IsFate f → list_all plain (path_with f) ≡ true
path_plain (Pass a) h = number_plain a [] (omega arith) refl
path_plain (Up a) h = number_plain a [] (omega arith) refl
path_plain (Held a d v) h = stamps_plain a d v (codes " held") h.0 h.1 h.2 refl
path_plain (Slow a d v r y) h = stamps_plain a d v (released_with r y) h.0 h.1 h.2 (released_plain r y h.3 h.4)
path_plain (Fast a d v r y) h = stamps_plain a d v (released_with r y) h.0 h.1 h.2 (released_plain r y h.3 h.4)

pub fate_plain : (n : ℕ) (f : Fate) → n < 2 ^ 32 → IsFate f → IsTold (fate_told n f)
fate_plain n f small h = record { whole = number_plain n (path_with f) (omega arith) (path_plain f h); told = refl }

-- ---- the order, parts and rows

spaced_plain : (ns : List ℕ) → AllByRecursion (λ n. n < 2 ^ 64) ns → list_all plain (spaced_numbers ns) ≡ true
spaced_plain [] h = refl
spaced_plain (n ∷ ns) h = number_plain n (spaced_numbers ns) h.0 (spaced_plain ns h.1)

pub order_plain : (order : List ℕ) → AllByRecursion (λ n. n < 2 ^ 64) order → IsTold (order_told order)
order_plain [] h = record { whole = refl; told = refl }
order_plain (n ∷ ns) h = record { whole = spaced_plain (n ∷ ns) h; told = refl }

name_plain : (name : List ℕ) → is_plain name ≡ true → list_all plain name ≡ true
name_plain [] h = refl
name_plain (b ∷ bs) h = let hp = and_parts (ltb 32 b) (is_plain bs) h in let rest = name_plain bs hp.1 in grind (arith, nat_tests, rest, hp.0)

pub part_plain : (word name : List ℕ) (count : ℕ) → list_all plain word ≡ true → ((rest : List ℕ) → is_skipped (word ++ rest) ≡ false) → is_plain name ≡ true → count < 2 ^ 32
    → IsTold (part_told word name count)
part_plain word name count plain_word told h small = record {
  whole = list_all_append plain word _ plain_word (list_all_append plain name _ (name_plain name h) (number_plain count [] (omega arith) refl));
  told = told (name ++ (codes " " ++ (decimal count ++ [])));
}

keys_plain : (ns rest : List ℕ) → AllByRecursion (λ n. n < 2 ^ 64) ns → list_all plain rest ≡ true → list_all plain (key_text ns ++ rest) ≡ true
keys_plain [] rest h k = k
keys_plain (n ∷ ns) rest h k = rw (append_assoc (decimal n) (codes " " ++ key_text ns) rest) (number_plain n (codes " " ++ (key_text ns ++ rest)) h.0 (keys_plain ns rest h.1 k))

keys_said : (ns rest : List ℕ) → AllByRecursion (λ n. n < 2 ^ 64) ns → is_skipped (key_text ns ++ (codes "->" ++ rest)) ≡ false
keys_said [] rest h = refl
keys_said (n ∷ ns) rest h =
    rw (append_assoc (decimal n) (codes " " ++ key_text ns) (codes "->" ++ rest)) (digits_told (decimal n) (codes " " ++ (key_text ns ++ (codes "->" ++ rest))) (decimal_nonempty n h.0) (decimal_digits n h.0))

pub row_plain : (row : Row) → AllByRecursion (λ n. n < 2 ^ 64) row.keys → AllByRecursion (λ n. n < 2 ^ 64) row.values → IsTold (row_told row)
row_plain row hk hv = record {
  whole = keys_plain row.keys (codes "->" ++ spaced_numbers row.values) hk (spaced_plain row.values hv);
  told = keys_said row.keys (spaced_numbers row.values) hk;
}
