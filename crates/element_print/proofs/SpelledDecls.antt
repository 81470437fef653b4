-- Printed declarations are spelled by their tokens.
use Rattle.std.proofs.Common.{ℕ, ◌<◌, List, [], ◌∷◌, ◌++◌, map, length, subst, append_assoc, arith}
use Rattle.element_lang.specs.declared.mark.Mark.TheVariants as marks
use Rattle.element_lang.specs.Token.{Token, fixed, number}
use Rattle.element_lang.specs.Token as tokens
use Rattle.element_lang.specs.Surface.{Literal, SurfaceRow, SurfaceDecl, table_decl, map_decl, vector_decl, int_decl}
use Rattle.element_lang.specs.Grammar.{AreWidths, is_last_width, is_width_and_more, AreLiterals, is_last_literal, is_literal_and_more, AreRows, are_no_rows, are_rows, IsDecl, is_table, is_map, is_vector, is_int}
use Rattle.element_print.specs.Printed.{joined, widths_tokens, literal_tokens, literals_tokens, rows_tokens, decl_tokens}

abbrev width_list : List ℕ → List Token
width_list ws = joined marks.Comma (map (λ w. number w ∷ []) ws)

abbrev literal_list : List Literal → List Token
literal_list ls = joined marks.Comma (map literal_tokens ls)

are_widths : (ws : List ℕ) (rest : List Token) → 0 < length ws → AreWidths ws (width_list ws ++ fixed marks.RightParen ∷ rest) rest
are_widths [] rest some = absurd (omega arith)
are_widths (w ∷ []) rest some = is_last_width
are_widths (w ∷ v ∷ ws) rest some = is_width_and_more (are_widths (v ∷ ws) rest (omega arith))

are_literals : (ls : List Literal) (rest : List Token) → 0 < length ls → AreLiterals ls (literal_list ls ++ fixed marks.RightParen ∷ rest) rest
are_literals [] rest some = absurd (omega arith)
are_literals (l ∷ []) rest some = is_last_literal
are_literals (l ∷ k ∷ ls) rest some = is_literal_and_more (are_literals (k ∷ ls) rest (omega arith))

-- each row has keys and values
abbrev pub AreFull : List SurfaceRow → Type 0
AreFull [] = Unit {0}
AreFull (row ∷ rows) = (0 < length row.keys) × (0 < length row.values) × AreFull rows

rows_spelled : (rows : List SurfaceRow) (rest : List Token) → AreFull rows → AreRows rows (rows_tokens rows ++ fixed marks.RightBrace ∷ rest) rest
unfolding literals_tokens
rows_spelled [] rest full = are_no_rows
rows_spelled (row ∷ rows) rest (keys, values, full) =
    let ends : List Token = rows_tokens rows ++ fixed marks.RightBrace ∷ rest in
    let behind : List Token = literal_list row.values ++ fixed marks.RightParen ∷ fixed marks.Semicolon ∷ ends in
    let is = are_rows (are_literals row.keys (fixed marks.Arrow ∷ fixed marks.LeftParen ∷ behind) keys)
    (are_literals row.values (fixed marks.Semicolon ∷ ends) values) (rows_spelled rows rest full) in
    let P : List Token → Type 0 = λ ts. AreRows (row ∷ rows) (fixed marks.LeftParen ∷ ts) rest in
    subst P (simp append_assoc) is

abbrev pub DeclSpelled : SurfaceDecl → Type 0
DeclSpelled d = (rest : List Token) → IsDecl d (decl_tokens d ++ rest) rest

pub table_spelled : (word keys values : List ℕ) (rows : List SurfaceRow) → 0 < length keys → 0 < length values → AreFull rows
    → DeclSpelled (table_decl word keys values rows)
unfolding widths_tokens
table_spelled word keys values rows some_keys some_values full rest =
    let ends : List Token = rows_tokens rows ++ fixed marks.RightBrace ∷ rest in
    let behind : List Token = width_list values ++ fixed marks.RightParen ∷ fixed marks.LeftBrace ∷ ends in
    let is = is_table (are_widths keys (fixed marks.Arrow ∷ fixed marks.LeftParen ∷ behind) some_keys)
    (are_widths values (fixed marks.LeftBrace ∷ ends) some_values) (rows_spelled rows rest full) in
    let P : List Token → Type 0 = λ ts. IsDecl (table_decl word keys values rows) (fixed marks.Table ∷ tokens.name word ∷ fixed marks.LeftParen ∷ ts) rest in
    subst P (simp append_assoc) is

pub map_spelled : (word keys values : List ℕ) (capacity : ℕ) → 0 < length keys → 0 < length values → DeclSpelled (map_decl word keys values capacity)
unfolding widths_tokens
map_spelled word keys values capacity some_keys some_values rest =
    let ends : List Token = fixed marks.Capacity ∷ number capacity ∷ fixed marks.Semicolon ∷ rest in
    let behind : List Token = width_list values ++ fixed marks.RightParen ∷ ends in
    let is = is_map (are_widths keys (fixed marks.Arrow ∷ fixed marks.LeftParen ∷ behind) some_keys) (are_widths values ends some_values) in
    let P : List Token → Type 0 = λ ts. IsDecl (map_decl word keys values capacity) (fixed marks.Map ∷ tokens.name word ∷ fixed marks.LeftParen ∷ ts) rest in
    subst P (simp append_assoc) is

pub vector_spelled : (word : List ℕ) (size : ℕ) (values : List ℕ) → 0 < length values → DeclSpelled (vector_decl word size values)
unfolding widths_tokens
vector_spelled word size values some_values rest =
    let is = is_vector (are_widths values (fixed marks.Semicolon ∷ rest) some_values) in
    let P : List Token → Type 0 = λ ts. IsDecl (vector_decl word size values)
    (fixed marks.Vector ∷ tokens.name word ∷ fixed marks.Length ∷ number size ∷ fixed marks.Arrow ∷ fixed marks.LeftParen ∷ ts) rest in
    subst P (simp append_assoc) is

pub int_spelled : (word : List ℕ) (width start : ℕ) → DeclSpelled (int_decl word width start)
int_spelled word width start rest = is_int
