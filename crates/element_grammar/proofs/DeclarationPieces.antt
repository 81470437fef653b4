-- How a declaration is made of its pieces, and what it misses where a piece is missing.
use Rattle.std.proofs.Common.{◌≡◌, ◌<◌, arith, ℕ, List, [], ◌∷◌, ◌++◌, length, map, Some, refl, sym, ap, subst, ◌∙◌, append_assoc, append-nil}
use Rattle.std.proofs.lemmas.List.{map-append}
use Rattle.element_lang.specs.declared.mark.Mark.TheVariants as marks
use Rattle.element_lang.specs.Token.{Token, fixed, number, name}
use Rattle.element_lang.specs.Surface.{SurfaceBody, SurfaceRow, SurfaceDecl, Declared, table_decl, map_decl, vector_decl, int_decl}
use Rattle.element_lang.specs.Grammar.{AreWidths, is_last_width, is_width_and_more, AreLiterals, is_last_literal, is_literal_and_more, AreRows, are_no_rows}
use Rattle.element_lang.specs.Grammar.{are_rows, IsDecl, is_table, is_map, is_vector, is_int, IsBody, IsMiddlebox, is_process, is_declared, Spells}
use Rattle.element_grammar.specs.declared.error.ParseError.{ParseError}
use Rattle.element_grammar.specs.declared.error.ParseError.TheVariants.{Left}
use Rattle.element_grammar.specs.Machine.{Awaited, mark, some_number, some_name, body, widths, more_widths, literals, more_literals, rows, middlebox, starts_on}
use Rattle.element_grammar.specs.Machine.{is_mark, more_widths_move, more_literals_move, rows_move, end, left_at}
use Rattle.element_grammar.specs.Refused.{Misses, NoMark, FoundHeader, FoundRow, FoundObjects, SpellsNone, row_parts, header_parts}
use Rattle.element_grammar.proofs.Runs.{reads_literals, reads_decl, reads_body}
use Rattle.element_grammar.proofs.Pieces.{moved, memory, onward, behind, first, first_two, first_three, past_mark, past_marks, past_number, past_number_then}
use Rattle.element_grammar.proofs.Pieces.{past_name_then, past_widths, past_literals, begun, not_begun, at_end, as_mark}
use Rattle.element_grammar.proofs.Loops.{Sofar, sofar_none, sofar_misses}

-- ## Widths

widths_but : (t : Token) → (t ≡ fixed marks.RightParen → ⊥) → more_widths_move t ≡ starts_on (is_mark marks.Comma t) (widths ∷ [])
widths_but (fixed marks.RightParen) free = absurd (free refl)
widths_but (fixed marks.Comma) free = refl
widths_but _ free = refl

more_widths_as : (ts : List Token) → NoMark marks.RightParen ts → (below : List Awaited)
    → left_at (more_widths ∷ below) ts ≡ left_at (mark marks.Comma ∷ widths ∷ below) ts
more_widths_as ts free = as_mark more_widths marks.Comma (widths ∷ []) ts (λ t us e. widths_but t (λ is. free.none us (e ∙ ap (λ u. u ∷ us) is))) refl

widths_as : (ts : List Token) (below : List Awaited) → left_at (widths ∷ below) ts ≡ left_at (some_number ∷ more_widths ∷ below) ts
widths_as [] below = refl
widths_as (number n ∷ ts) below = refl
widths_as (t ∷ ts) below = refl

pub one_more_width : {w : ℕ} {ts us next : List Token} → ts ≡ number w ∷ us → us ≡ fixed marks.Comma ∷ next → Sofar widths AreWidths (w ∷ []) ts next
one_more_width {w = w} p q =
    let whole = p ∙ ap (λ l. number w ∷ l) q in
    record {
      reads = λ below. ap (left_at (widths ∷ below)) whole;
      whole = λ ws rest h. moved AreWidths refl whole refl (is_width_and_more h);
    }

pub last_width : {w : ℕ} {ts us rest : List Token} → ts ≡ number w ∷ us → us ≡ fixed marks.RightParen ∷ rest → AreWidths (w ∷ []) ts rest
last_width {w = w} p q = moved AreWidths refl (p ∙ ap (λ l. number w ∷ l) q) refl is_last_width

pub no_width : {ts : List Token} {e : ParseError} → Misses (some_number ∷ []) ts e → Misses (widths ∷ []) ts e
no_width {ts = ts} m = onward (widths_as ts) (first {more = more_widths ∷ []} m)

pub no_width_comma : {w : ℕ} {ts us : List Token} {e : ParseError} → ts ≡ number w ∷ us → NoMark marks.RightParen us → Misses (mark marks.Comma ∷ []) us e
    → Misses (widths ∷ []) ts e
no_width_comma {ts = ts} {us = us} p free m =
    onward (widths_as ts) (past_number {more = more_widths ∷ []} p (onward (more_widths_as us free) (first {more = widths ∷ []} m)))

pub ruleset lists_of_widths = (memory, sofar_none, sofar_misses, no_width, no_width_comma)

-- ## Literals

literals_but : (t : Token) → (t ≡ fixed marks.RightParen → ⊥) → more_literals_move t ≡ starts_on (is_mark marks.Comma t) (literals ∷ [])
literals_but (fixed marks.RightParen) free = absurd (free refl)
literals_but (fixed marks.Comma) free = refl
literals_but _ free = refl

more_literals_as : (ts : List Token) → NoMark marks.RightParen ts → (below : List Awaited)
    → left_at (more_literals ∷ below) ts ≡ left_at (mark marks.Comma ∷ literals ∷ below) ts
more_literals_as ts free = as_mark more_literals marks.Comma (literals ∷ []) ts (λ t us e. literals_but t (λ is. free.none us (e ∙ ap (λ u. u ∷ us) is))) refl

literals_as : (ts : List Token) (below : List Awaited)
    → left_at (literals ∷ below) ts ≡ left_at (some_number ∷ mark marks.Colon ∷ some_number ∷ more_literals ∷ below) ts
literals_as [] below = refl
literals_as (number n ∷ ts) below = refl
literals_as (t ∷ ts) below = refl

pub one_more_literal : {v w : ℕ} {ts us next : List Token} → ts ≡ number v ∷ fixed marks.Colon ∷ number w ∷ us → us ≡ fixed marks.Comma ∷ next
    → Sofar literals AreLiterals (record { value = v; width = w } ∷ []) ts next
one_more_literal {v = v} {w = w} p q =
    let whole = p ∙ ap (λ l. number v ∷ fixed marks.Colon ∷ number w ∷ l) q in
    record {
      reads = λ below. ap (left_at (literals ∷ below)) whole;
      whole = λ ls rest h. moved AreLiterals refl whole refl (is_literal_and_more h);
    }

pub last_literal : {v w : ℕ} {ts us rest : List Token} → ts ≡ number v ∷ fixed marks.Colon ∷ number w ∷ us → us ≡ fixed marks.RightParen ∷ rest
    → AreLiterals (record { value = v; width = w } ∷ []) ts rest
last_literal {v = v} {w = w} p q =
    moved AreLiterals refl (p ∙ ap (λ l. number v ∷ fixed marks.Colon ∷ number w ∷ l) q) refl is_last_literal

pub no_literal : {ts : List Token} {e : ParseError} → Misses (some_number ∷ mark marks.Colon ∷ some_number ∷ []) ts e → Misses (literals ∷ []) ts e
no_literal {ts = ts} m = onward (literals_as ts) (first_three {more = more_literals ∷ []} m)

pub no_literal_comma : {v w : ℕ} {ts us : List Token} {e : ParseError} → ts ≡ number v ∷ fixed marks.Colon ∷ number w ∷ us → NoMark marks.RightParen us
    → Misses (mark marks.Comma ∷ []) us e → Misses (literals ∷ []) ts e
no_literal_comma {ts = ts} {us = us} p free m =
    onward (literals_as ts)
    (past_number_then p (past_number {more = more_literals ∷ []} refl (onward (more_literals_as us free) (first {more = literals ∷ []} m))))

pub ruleset lists_of_literals = (memory, sofar_none, sofar_misses, no_literal, no_literal_comma)

-- ## Rows

pub found_row : {row : SurfaceRow} {ts us vs ws rest : List Token} → AreLiterals row.keys ts us → us ≡ fixed marks.Arrow ∷ fixed marks.LeftParen ∷ vs
    → AreLiterals row.values vs ws → ws ≡ fixed marks.Semicolon ∷ rest → FoundRow row ts rest
found_row {vs = vs} p arrow q end = record {
  us = vs;
  keys = moved AreLiterals refl refl (sym arrow) p;
  values = moved AreLiterals refl refl (sym end) q;
}

pub ruleset single_rows = (memory, first, first_two, past_mark, past_marks, past_literals, found_row)

rows_but : (t : Token) → (t ≡ fixed marks.RightBrace → ⊥)
    → rows_move t ≡ starts_on (is_mark marks.LeftParen t) (literals ∷ mark marks.Arrow ∷ mark marks.LeftParen ∷ literals ∷ mark marks.Semicolon ∷ rows ∷ [])
rows_but (fixed marks.RightBrace) free = absurd (free refl)
rows_but (fixed marks.LeftParen) free = refl
rows_but _ free = refl

-- what is awaited of rows where the bracket that closes them doesn't stand in front
abbrev rows_left : List Awaited
rows_left = literals ∷ mark marks.Arrow ∷ mark marks.LeftParen ∷ literals ∷ mark marks.Semicolon ∷ rows ∷ []

rows_as : (ts : List Token) → NoMark marks.RightBrace ts → (below : List Awaited)
    → left_at (rows ∷ below) ts ≡ left_at (mark marks.LeftParen ∷ (rows_left ++ below)) ts
rows_as ts free = as_mark rows marks.LeftParen rows_left ts (λ t us e. rows_but t (λ is. free.none us (e ∙ ap (λ u. u ∷ us) is))) refl

pub one_more_row : {row : SurfaceRow} {ts us next : List Token} → ts ≡ fixed marks.LeftParen ∷ us → FoundRow row us next → Sofar rows AreRows (row ∷ []) ts next
one_more_row {row = row} {next = next} p q = record {
  reads = λ below.
      ap (left_at (rows ∷ below)) p ∙ reads_literals q.keys (mark marks.Arrow ∷ mark marks.LeftParen ∷ literals ∷ mark marks.Semicolon ∷ rows ∷ below)
      ∙ reads_literals q.values (mark marks.Semicolon ∷ rows ∷ below);
  whole = λ rs rest h. moved AreRows refl p refl (are_rows q.keys q.values h);
}

pub end_of_rows : {ts rest : List Token} → ts ≡ fixed marks.RightBrace ∷ rest → AreRows [] ts rest
end_of_rows p = moved AreRows refl p refl are_no_rows

pub no_row_bracket : {ts : List Token} {e : ParseError} → NoMark marks.RightBrace ts → Misses (mark marks.LeftParen ∷ []) ts e → Misses (rows ∷ []) ts e
no_row_bracket {ts = ts} free m = onward (rows_as ts free) (first {more = rows_left} m)

pub no_row : {ts us : List Token} {e : ParseError} → ts ≡ fixed marks.LeftParen ∷ us → Misses row_parts us e → Misses (rows ∷ []) ts e
no_row p m = behind p (begun refl (row_first m))
  where
    row_first : {us : List Token} {e : ParseError} → Misses row_parts us e → Misses rows_left us e
    row_first m = record { tells = λ left below e. m.tells left (rows ∷ below) e }

pub ruleset lists_of_rows = (memory, sofar_none, sofar_misses, end_of_rows, no_row_bracket, no_row)

-- ## Declarations

pub found_header : {word ks vs : List ℕ} {ts us ws xs rest : List Token} → ts ≡ name word ∷ fixed marks.LeftParen ∷ us → AreWidths ks us ws
    → ws ≡ fixed marks.Arrow ∷ fixed marks.LeftParen ∷ xs → AreWidths vs xs rest → FoundHeader word ks vs ts rest
found_header {us = us} {xs = xs} p q arrow r = record {
  us = us;
  vs = xs;
  begins = p;
  keys_found = moved AreWidths refl refl (sym arrow) q;
  values_found = r;
}

pub ruleset headers = (memory, first, first_two, past_marks, past_name_then, past_widths, found_header)

pub made_table : {d : SurfaceDecl} {word ks vs : List ℕ} {rs : List SurfaceRow} {ts us ws rest : List Token} → d ≡ table_decl word ks vs rs
    → FoundHeader word ks vs ts us → us ≡ fixed marks.LeftBrace ∷ ws → AreRows rs ws rest → IsDecl d (fixed marks.Table ∷ ts) rest
made_table tree h p q =
    moved IsDecl tree (ap (λ l. fixed marks.Table ∷ l) h.begins) refl (is_table h.keys_found (moved AreWidths refl refl (sym p) h.values_found) q)

pub made_map : {d : SurfaceDecl} {word ks vs : List ℕ} {capacity : ℕ} {ts us ws rest : List Token} → d ≡ map_decl word ks vs capacity
    → FoundHeader word ks vs ts us → us ≡ fixed marks.Capacity ∷ ws → ws ≡ number capacity ∷ fixed marks.Semicolon ∷ rest → IsDecl d (fixed marks.Map ∷ ts) rest
made_map tree h p q =
    moved IsDecl tree (ap (λ l. fixed marks.Map ∷ l) h.begins) refl
    (is_map h.keys_found (moved AreWidths refl refl (sym (p ∙ ap (λ l. fixed marks.Capacity ∷ l) q)) h.values_found))

pub made_vector : {d : SurfaceDecl} {word vs : List ℕ} {size : ℕ} {ts us ws xs ys rest : List Token} → d ≡ vector_decl word size vs
    → ts ≡ name word ∷ fixed marks.Length ∷ us → us ≡ number size ∷ fixed marks.Arrow ∷ ws → ws ≡ fixed marks.LeftParen ∷ xs → AreWidths vs xs ys
    → ys ≡ fixed marks.Semicolon ∷ rest → IsDecl d (fixed marks.Vector ∷ ts) rest
made_vector {word = word} {size = size} tree p q bracket r end =
    moved IsDecl tree
    (ap (λ l. fixed marks.Vector ∷ l) (p ∙ ap (λ l. name word ∷ fixed marks.Length ∷ l) (q ∙ ap (λ l. number size ∷ fixed marks.Arrow ∷ l) bracket))) refl
    (is_vector (moved AreWidths refl refl (sym end) r))

pub made_int : {d : SurfaceDecl} {word : List ℕ} {width start : ℕ} {ts us ws rest : List Token} → d ≡ int_decl word width start
    → ts ≡ name word ∷ fixed marks.Colon ∷ us → us ≡ number width ∷ fixed marks.Assign ∷ ws → ws ≡ number start ∷ fixed marks.Semicolon ∷ rest
    → IsDecl d (fixed marks.Int ∷ ts) rest
made_int {word = word} {width = width} tree p q r =
    moved IsDecl tree
    (ap (λ l. fixed marks.Int ∷ l) (p ∙ ap (λ l. name word ∷ fixed marks.Colon ∷ l) (q ∙ ap (λ l. number width ∷ fixed marks.Assign ∷ l) r))) refl is_int

pub made_behind : {d : SurfaceDecl} {t : Token} {ts us rest : List Token} → ts ≡ t ∷ us → IsDecl d (t ∷ us) rest → IsDecl d ts rest
made_behind p = moved IsDecl refl p refl

-- the pieces of a header, and what is awaited behind them
pub first_header : {more : List Awaited} {ts : List Token} {e : ParseError} → Misses header_parts ts e
    → Misses (some_name ∷ mark marks.LeftParen ∷ widths ∷ mark marks.Arrow ∷ mark marks.LeftParen ∷ widths ∷ more) ts e
first_header {more = more} m = record { tells = λ left below e. m.tells left (more ++ below) e }

pub past_header : {word ks vs : List ℕ} {more : List Awaited} {ts us : List Token} {e : ParseError} → FoundHeader word ks vs ts us → Misses more us e
    → Misses (some_name ∷ mark marks.LeftParen ∷ widths ∷ mark marks.Arrow ∷ mark marks.LeftParen ∷ widths ∷ more) ts e
past_header h m = past_name_then h.begins (past_widths h.keys_found (past_marks refl (past_widths h.values_found m)))

pub ruleset with_headers = (memory, first, first_two, past_mark, begun, made_table, made_map, first_header, past_header)

pub ruleset without_headers = (memory, first, first_two, past_mark, past_number_then, past_name_then, past_widths, begun, made_vector, made_int)

pub ruleset declared = (behind, not_begun, at_end, made_behind)

-- ## The whole

pub objects_none : {ds : List Declared} {ts : List Token} → ds ≡ [] → FoundObjects ds ts ts
objects_none {ts = ts} e = record {
  spelled = λ more b end p. let P : List Declared → Type 0 = λ l. IsMiddlebox (l ++ more) b ts end in subst P (sym e) p;
  reads = λ below. refl;
}

objects_more : {ds es : List Declared} {d : Declared} {ts left next : List Token} → FoundObjects ds ts left → IsDecl d.decl left next → d.at ≡ length left
    → es ≡ ds ++ d ∷ [] → FoundObjects es ts next
objects_more {ds = ds} {es = es} {d = d} {ts = ts} {left = left} h p at e = record {
  spelled = λ more b end q.
      let P : List Declared → Type 0 = λ l. IsMiddlebox l b ts end in
      let Q : ℕ → Type 0 = λ n. IsMiddlebox (record { at = n; decl = d.decl } ∷ more) b left end in
      subst P (sym (append_assoc ds (d ∷ []) more) ∙ ap (λ l. l ++ more) (sym e)) (h.spelled (d ∷ more) b end (subst Q (sym at) (is_declared p q)));
  reads = λ below. h.reads below ∙ reads_decl p below;
}

pub objects_pushed : {B : Type 0} (f : B → Declared) (all new : List B) (next : B) {ts left rest : List Token} → FoundObjects (map f all) ts left
    → IsDecl (f next).decl left rest → (f next).at ≡ length left → new ≡ all ++ next ∷ [] → FoundObjects (map f new) ts rest
objects_pushed f all new next h p at e = objects_more h p at (ap (map f) e ∙ map-append f all (next ∷ []))

pub objects_then : {ds : List Declared} {ts us rest : List Token} → FoundObjects ds ts us → us ≡ rest → FoundObjects ds ts rest
objects_then {ds = ds} {ts = ts} h is = let P : List Token → Type 0 = λ l. FoundObjects ds ts l in subst P is h

pub objects_miss : {ds : List Declared} {ts left : List Token} {e : ParseError} → FoundObjects ds ts left → Misses (middlebox ∷ []) left e
    → Misses (middlebox ∷ []) ts e
objects_miss h = onward h.reads

pub ruleset objects = (memory, objects_none, objects_then, objects_miss)

-- no declaration and no `process` stands in front
pub made_whole : {ds : List Declared} {b : SurfaceBody} {ts us vs rest : List Token} → FoundObjects ds ts (fixed marks.Process ∷ us)
    → us ≡ fixed marks.LeftBrace ∷ vs
    → IsBody b vs rest → length rest ≡ 0 → Spells ts (record { objects = ds; body = b })
made_whole {ds = ds} {b = b} {ts = ts} {rest = rest} h p q end =
    let P : List Declared → Type 0 = λ l. IsMiddlebox l b ts [] in
    let C : List Token → Type 0 = λ l. IsMiddlebox [] b l [] in
    let opened = subst C (ap (λ l. fixed marks.Process ∷ l) (sym p)) (is_process (moved IsBody refl refl (sym (empty rest end)) q)) in
    subst P (append-nil ds) (h.spelled [] b [] opened)
  where
    empty : (ts : List Token) → length ts ≡ 0 → ts ≡ []
    empty [] e = refl
    empty (t ∷ ts) e = absurd (omega arith)

pub no_objects : {ts : List Token} {e : ParseError} → Misses (middlebox ∷ []) ts e → SpellsNone ts e
no_objects m = record { tells = λ left e. m.tells left [] e }

pub no_opening : {ds : List Declared} {ts us : List Token} {e : ParseError} → FoundObjects ds ts (fixed marks.Process ∷ us)
    → Misses (mark marks.LeftBrace ∷ []) us e
    → SpellsNone ts e
no_opening h m = record { tells = λ left e. h.reads [] ∙ m.tells left (body ∷ []) e }

pub no_body : {ds : List Declared} {ts us vs : List Token} {e : ParseError} → FoundObjects ds ts (fixed marks.Process ∷ us) → us ≡ fixed marks.LeftBrace ∷ vs
    → Misses (body ∷ []) vs e → SpellsNone ts e
no_body h p m = record { tells = λ left e. h.reads [] ∙ ap (left_at (mark marks.LeftBrace ∷ body ∷ [])) p ∙ m.tells left [] e }

more_there : (ts : List Token) → 0 < length ts → left_at [] ts ≡ Some (length ts)
more_there [] some = absurd (omega arith)
more_there (t ∷ ts) some = refl

pub too_long : {ds : List Declared} {b : SurfaceBody} {ts us vs rest : List Token} {e : ParseError} → FoundObjects ds ts (fixed marks.Process ∷ us)
    → us ≡ fixed marks.LeftBrace ∷ vs → IsBody b vs rest → 0 < length rest → e ≡ Left (length rest) → SpellsNone ts e
too_long {rest = rest} h p q more e = record {
  tells = λ left f.
      h.reads [] ∙ ap (left_at (mark marks.LeftBrace ∷ body ∷ [])) p ∙ reads_body q [] ∙ more_there rest more ∙ cc;
}

pub ruleset wholes = (memory, no_objects, no_opening, no_body)
