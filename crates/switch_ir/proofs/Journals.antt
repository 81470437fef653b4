-- What a journal keeps of a call gives it back.
use Rattle.std.proofs.Common.{◌≡◌, ℕ, suc, ◌+◌, ◌++◌, List, [], ◌∷◌, length, take, drop, sym, ap, ◌∙◌, arith, append_assoc, refl}
use Rattle.std.proofs.Common.{length-append, length-drop}
use Rattle.std.proofs.lemmas.List.{take-append-le, drop-append-le, take_all, nil_from_length}
use Rattle.switch_ir.specs.declared.journal.Entry.{Entry}
use Rattle.switch_ir.specs.declared.journal.Mark.{Mark}
use Rattle.switch_ir.specs.Journal.{IsFilled, IsShort, entries_of, entry_in, number_count}

-- a mark with its numbers and its bytes adds its call
added : (marks : List Mark) (numbers bytes : List ℕ) (m : Mark) (ns bs : List ℕ) (e : Entry)
    → entry_in m.call ns bs ≡ e → IsShort m.call → number_count m.call ≡ length ns → m.bytes ≡ length bs → IsFilled marks numbers bytes
    → IsFilled (marks ++ m ∷ []) (numbers ++ ns) (bytes ++ bs)
    × (entries_of (marks ++ m ∷ []) (numbers ++ ns) (bytes ++ bs) ≡ entries_of marks numbers bytes ++ e ∷ [])
added [] numbers bytes m ns bs e is short few count filled =
    let no_numbers : length (drop (number_count m.call) ns) ≡ 0 = length-drop (number_count m.call) ns ∙ omega arith in
    let no_bytes : length (drop m.bytes bs) ≡ 0 = length-drop m.bytes bs ∙ omega arith in
    rw (nil_from_length numbers filled.0, nil_from_length bytes filled.1) (
      (short, omega arith, omega arith, (no_numbers, no_bytes)),
      rw (take_all (number_count m.call) ns (omega arith), take_all m.bytes bs (omega arith), is) refl,
    )
added (k ∷ marks) numbers bytes m ns bs e is short few count filled =
    let n = number_count k.call in
    let rest = added marks (drop n numbers) (drop k.bytes bytes) m ns bs e is short few count filled.3 in
    rw (take-append-le n numbers ns filled.1, take-append-le k.bytes bytes bs filled.2, drop-append-le n numbers ns filled.1, drop-append-le k.bytes bytes bs filled.2) (
      (filled.0, omega (arith, length-append numbers ns, filled.1), omega (arith, length-append bytes bs, filled.2), rest.0),
      ap (λ es. entry_in k.call (take n numbers) (take k.bytes bytes) ∷ es) rest.1,
    )

-- what is kept of a call, by what the functions that keep it leave
pub kept : {marks before marks' : List Mark} {numbers first second numbers' bytes' : List ℕ} {e : Entry} (bytes : List ℕ) (m : Mark) (key values bs : List ℕ)
    → before ≡ marks → marks' ≡ before ++ m ∷ [] → first ≡ numbers → second ≡ first ++ key → numbers' ≡ second ++ values → bytes' ≡ bytes ++ bs
    → entry_in m.call (key ++ values) bs ≡ e → IsShort m.call → number_count m.call ≡ length key + length values → m.bytes ≡ length bs → IsFilled marks numbers bytes
    → IsFilled marks' numbers' bytes' × (entries_of marks' numbers' bytes' ≡ entries_of marks numbers bytes ++ e ∷ [])
kept {marks} {before} {marks'} {numbers} {first} {second} {numbers'} {bytes'} {e} bytes m key values bs same last start more all bytes_are is short few count filled =
    rw (last, same, all, more, start, bytes_are, append_assoc numbers key values)
    (added marks numbers bytes m (key ++ values) bs e is short (few ∙ sym (length-append key values)) count filled)

-- each mark stands for one call
pub entries_count : (marks : List Mark) (numbers bytes : List ℕ) → length (entries_of marks numbers bytes) ≡ length marks
entries_count [] numbers bytes = refl
entries_count (m ∷ marks) numbers bytes = ap (λ n. suc n) (entries_count marks (drop (number_count m.call) numbers) (drop m.bytes bytes))

-- bytes that are put last in two parts
pub all_bytes : (bytes given answer : List ℕ) → (bytes ++ given) ++ answer ≡ bytes ++ (given ++ answer)
all_bytes bytes given answer = append_assoc bytes given answer
